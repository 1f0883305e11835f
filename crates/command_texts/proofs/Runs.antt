-- The meaning of the status of each end of the program.
use Rattle.std.proofs.Common.{ℕ, ◌<◌, ◌≤◌, ◌≡◌, ◌∙◌, sym, ap, subst, refl, arith, nat_lt, ◌==◌, Bool, true, false, ◌&&◌, if◌then◌else◌, List, [], ◌++◌, length, Option, Some, None, Result, Ok, Err, ◌⊎◌, inl, inr}
use Rattle.std.specs.Prelude.{IfSome, IsSomeAnd}
use Rattle.std.specs.String.{string_bytes}
use Rattle.std.proofs.lemmas.Bool.{false≢true, lt-ltb, ltb-true}
use Rattle.fq_io.specs.Sources.{GaveAll, TookTooMany}
use Rattle.program_model.specs.declared.command.Command.{Command}
use Rattle.program_model.specs.declared.command.Command.TheVariants.{Plain, Live, Compare}
use Rattle.program_model.specs.declared.command.GenPrint.{GenPrint}
use Rattle.program_model.specs.declared.command.GenPrint.TheVariants as gen
use Rattle.program_model.specs.declared.command.LiveOptions.{LiveOptions}
use Rattle.program_model.specs.declared.command.PlainCommand.{PlainCommand}
use Rattle.program_model.specs.declared.command.PlainCommand.TheVariants.{Script, Run, Gen, Check, Lead, Shape}
use Rattle.program_model.specs.declared.ending.Failure.{Failure}
use Rattle.program_model.specs.declared.ending.Failure.TheVariants.{Words, TooLong, Reading, Writing, Stopped}
use Rattle.program_model.specs.declared.ending.Stop.TheVariants as stops
use Rattle.program_model.specs.declared.verdict.Verdict.{Verdict}
use Rattle.program_model.specs.declared.verdict.Verdict.TheVariants.{Legal, Bad}
use Rattle.program_model.specs.Answer.{Answer, Text, Message, answer_status, IsReadAnswer, IsAnswerUnless}
use Rattle.program_model.specs.CheckCommand.{verdict_status, IsJudged}
use Rattle.program_model.specs.declared.compare.CompareOptions.{CompareOptions}
use Rattle.program_model.specs.CompareCommand.{IsRowsAnswer, IsLongAnswer, IsComparisonAnswer}
use Rattle.program_model.specs.Commands.{reads_input, IsPlainAnswer, IsAnswer}
use Rattle.program_model.specs.Conforms.{too_big, too_late}
use Rattle.program_model.specs.Document.{config_of}
use Rattle.program_model.specs.Ending.{failure_message, status_of}
use Rattle.program_model.specs.FaultTexts.{script_fault_text, journal_fault_text, trace_fault_text}
use Rattle.program_model.specs.HistoryAnswer.{IsHistoryAnswer, has_many_entries, entries_answer, makes_report, has_many_cells, cells_answer, history_output, history_answer}
use Rattle.fq_model.specs.declared.config.Config.{Config}
use Rattle.fq_model.specs.History.{History, history_of}
use Rattle.fq_model.specs.Names.{number_among}
use Rattle.fq_model.specs.Report.{cells_of}
use Rattle.program_model.specs.declared.command.HistoryPrint.{HistoryPrint}
use Rattle.program_model.specs.Generator.{generated_trace}
use Rattle.program_model.specs.GenCommand.{default_run_options, IsGeneratedAnswer}
use Rattle.program_model.specs.Journal.{Journal, journal_of}
use Rattle.program_model.specs.LeadCommand.{measured_text, same_answer, pair_answer, lead_answer, IsLeadTold}
use Rattle.program_model.specs.LiveCommand.{after_lines, IsWatchedAnswer, IsPoolAnswer}
use Rattle.program_model.specs.PoolHistory.{needed_pool_entries, pool_config}
use Rattle.program_model.specs.Readings.{status_lines}
use Rattle.program_model.specs.RunCommand.{IsSimulationAnswer}
use Rattle.program_model.specs.Simulated.{needed_entries, run_config, IsSimulated}
use Rattle.program_model.specs.declared.command.HistoryPrint.TheVariants as history
use Rattle.program_model.specs.Program.{Move, Fails, Later, TellsEnd, FailsReading, ReadsInput, ReadsTooMuch, Ends, EndsCommand, IsRun, IsAnswered, FailsWriting, if_served, greatest_input}
use Rattle.program_model.specs.Script.{script_of}
use Rattle.program_model.specs.ScriptCommand.{AreCallsMade}
use Rattle.program_model.specs.ShapeCommand.{moments_answer, IsSizedAnswer, IsShapedAnswer}
use Rattle.program_model.specs.Statuses.{IsSaid, MaySay, MustSay, MustTell, StatusMeans, input_of, is_failure}
use Rattle.program_model.specs.Trace.{Trace}
use Rattle.program_model.specs.TraceCommand.{IsTraceAnswer}
use Rattle.program_model.specs.TraceGrammar.{trace_of}
use Rattle.program_model.specs.VerdictTexts.{verdict_text}
use Rattle.command_texts.proofs.Making.{so_answers, else_answers}

-- ---- the status of an answer is that of no failure

abbrev IsSound : Answer → Type 0
IsSound answer = is_failure (answer_status answer) ≡ false

sound_as : (answer other : Answer) → answer ≡ other → IsSound other → IsSound answer
sound_as answer other is x = subst IsSound (sym is) x

either_sound : (b : Bool) (x y : Answer) → IsSound x → IsSound y → IsSound (if b then x else y)
either_sound true x y some other = some
either_sound false x y some other = other

history_sound : (IsOne : History → Type 0) (print : HistoryPrint) (slot : ℕ) (C : Config) (tenants kinds : List (List ℕ)) (answer : Answer) → IsHistoryAnswer IsOne print slot C tenants kinds answer → IsSound answer
history_sound IsOne print slot C tenants kinds answer x =
    sound_as answer (history_answer print slot C tenants kinds x.past) x.answer_is
    (either_sound (makes_report print && has_many_cells slot C (history_of x.past)) (cells_answer (cells_of C (history_of x.past) slot)) (Text 0 (history_output print C tenants kinds x.past slot)) refl refl)

unless_sound : (b : Bool) (so answer : Answer) (Else : Answer → Type 0) → IsSound so → (Else answer → IsSound answer) → IsAnswerUnless b so Else answer → IsSound answer
unless_sound true so answer Else some other x = sound_as answer so x some
unless_sound false so answer Else some other x = other x

-- the answer to the contents of an input, or its first fault
read_sound : {A F : Type 0} (fault_text : F → List ℕ) (IsOf : A → Answer → Type 0) (read : Result A (ℕ × F)) (answer : Answer) → ((said : A) → IsOf said answer → IsSound answer) → IsReadAnswer fault_text IsOf read answer → IsSound answer
read_sound fault_text IsOf (Ok said) answer other x = other said x
read_sound fault_text IsOf (Err (line, fault)) answer other x = sound_as answer _ x refl

trace_sound : (OfTrace : Trace → Answer → Type 0) (input : List ℕ) (answer : Answer) → ((T : Trace) → OfTrace T answer → IsSound answer) → IsTraceAnswer OfTrace input answer → IsSound answer
trace_sound OfTrace input answer other x = read_sound trace_fault_text OfTrace (trace_of input) answer other x

verdict_sound : (verdict : Verdict) (text : List ℕ) → IsSound (Text (verdict_status verdict) text)
verdict_sound Legal text = refl
verdict_sound (Bad place reply wanted) text = refl

judged_sound : (asked : Option ℕ) (journal : Journal) (answer : Answer) → IsJudged asked journal answer → IsSound answer
judged_sound asked journal answer x = sound_as answer _ x.answer_is (verdict_sound x.verdict (verdict_text journal.body x.verdict ++ x.explanation))

pair_sound : (journal : Journal) (of over : List ℕ) (f g : Option ℕ) → IsSound (pair_answer journal of over f g)
pair_sound journal of over None g = refl
pair_sound journal of over (Some f) None = refl
pair_sound journal of over (Some f) (Some g) =
    either_sound (f == g) (same_answer of) (Text 0 (measured_text of over (config_of journal) (history_of journal.body) f g)) refl refl

lead_sound : (of over : List ℕ) (journal : Journal) (answer : Answer) → IsLeadTold of over journal answer → IsSound answer
lead_sound of over journal answer x = sound_as answer (lead_answer of over journal x.verdict) x.answer_is (go x.verdict)
  where
    go : (verdict : Verdict) → IsSound (lead_answer of over journal verdict)
    go Legal = pair_sound journal of over (number_among journal.tenants of) (number_among journal.tenants over)
    go (Bad place reply wanted) = refl

moments_sound : (T : Trace) (moments : List ℕ) (late : Option ℕ) → IsSound (moments_answer T moments late)
moments_sound T moments None = refl
moments_sound T moments (Some r) = refl

sized_sound : (rate burst : ℕ) (T : Trace) (big : Option ℕ) (answer : Answer) → IsSizedAnswer rate burst T big answer → IsSound answer
sized_sound rate burst T None answer x = sound_as answer _ x.answer_is (moments_sound T x.moments (too_late x.moments))
sized_sound rate burst T (Some r) answer x = sound_as answer _ x.answer_is refl

generated_sound : (print : GenPrint) (T : Trace) (answer : Answer) → IsGeneratedAnswer print T answer → IsSound answer
generated_sound gen.Trace T answer x = sound_as answer _ x refl
generated_sound gen.Summary T answer x =
    history_sound (IsSimulated T default_run_options) history.Summary 0 (run_config T default_run_options) T.tenants T.kinds answer x

-- the answer from one of these histories, or that it would have too many entries
counted_sound : (IsOne : History → Type 0) (needed : ℕ) (print : HistoryPrint) (slot : ℕ) (C : Config) (tenants kinds : List (List ℕ)) (answer : Answer)
    → IsAnswerUnless (has_many_entries needed) (entries_answer needed) (IsHistoryAnswer IsOne print slot C tenants kinds) answer → IsSound answer
counted_sound IsOne needed print slot C tenants kinds answer x =
    unless_sound (has_many_entries needed) (entries_answer needed) answer (IsHistoryAnswer IsOne print slot C tenants kinds) refl (history_sound IsOne print slot C tenants kinds answer) x

plain_sound : (command : PlainCommand) (input : List ℕ) (answer : Answer) → IsPlainAnswer command input answer → IsSound answer
plain_sound (Script print) input answer x = read_sound script_fault_text (AreCallsMade print) (script_of input) answer (λ script y. sound_as answer _ y.answer_is refl) x
plain_sound (Run options slot print) input answer x =
    trace_sound (IsSimulationAnswer options slot print) input answer
    (λ T y. counted_sound (IsSimulated T options) (needed_entries T.rows options.refresh) print slot (run_config T options) T.tenants T.kinds answer y) x
plain_sound (Gen seed tenants requests print) input answer x = generated_sound print (generated_trace seed tenants requests) answer x
plain_sound (Check explain) input answer x = read_sound journal_fault_text (IsJudged explain) (journal_of input) answer (λ journal y. judged_sound explain journal answer y) x
plain_sound (Lead of over) input answer x =
    read_sound journal_fault_text (IsLeadTold of over) (journal_of input) answer (λ journal y. lead_sound of over journal answer y) x
plain_sound (Shape rate burst) input answer x = trace_sound (IsShapedAnswer rate burst) input answer (λ T y. sized_sound rate burst T (too_big T burst) answer y) x

compared_sound : (o : CompareOptions) (T : Trace) (answer : Answer) → IsComparisonAnswer o T answer → IsSound answer
compared_sound o T answer x =
    unless_sound (has_many_entries (needed_entries T.rows o.refresh)) (entries_answer (needed_entries T.rows o.refresh)) answer (λ a. IsRowsAnswer T o a ⊎ IsLongAnswer T o a) refl either x
  where
    either : IsRowsAnswer T o answer ⊎ IsLongAnswer T o answer → IsSound answer
    either (inl y) = sound_as answer _ y.answer_is refl
    either (inr y) = sound_as answer _ y.answer_is refl

lines_sound : (lines : List ℕ) (answer : Answer) → IsSound answer → IsSound (after_lines lines answer)
lines_sound lines (Text status bytes) some = some
lines_sound lines (Message status bytes) some = some

-- lines change no status
pool_sound : (Told : ℕ → Type 0) (options : LiveOptions) (T : Trace) (answer : Answer) → IsPoolAnswer Told options T answer → IsSound answer
pool_sound Told options T answer x =
    unless_sound (has_many_entries (needed_pool_entries T.rows options.run.refresh)) (entries_answer (needed_pool_entries T.rows options.run.refresh)) answer (IsWatchedAnswer Told options T) refl
    (λ y. let of_past = history_answer options.print options.slot (pool_config T options.run) T.tenants T.kinds y.past in
    sound_as answer (after_lines (status_lines y.statuses) of_past) y.answer_is (lines_sound (status_lines y.statuses) of_past
    (history_sound (λ H. Unit {0}) options.print options.slot (pool_config T options.run) T.tenants T.kinds of_past (record { past = y.past; is_one = tt; answer_is = refl })))) x

sound : (Told : ℕ → Type 0) (command : Command) (input : List ℕ) (answer : Answer) → IsAnswer Told command input answer → IsSound answer
sound Told (Plain command) input answer x = plain_sound command input answer x
sound Told (Live options) input answer x = trace_sound (IsPoolAnswer Told options) input answer (λ T y. pool_sound Told options T answer y) x
sound Told (Compare options) input answer x = trace_sound (IsComparisonAnswer options) input answer (λ T y. compared_sound options T answer y) x

-- ---- inputs that are known

gave_told : (left left2 : Option (List ℕ)) (input : List ℕ) → GaveAll left left2 input → IfSome left (λ xs. xs ≡ input)
gave_told None left2 input read = tt
gave_told (Some xs) None input read = absurd read
gave_told (Some xs) (Some ys) input read = sym read.0

-- the bytes that were read are the input, where they are known
told : (reads : Bool) (source : Move) (input : List ℕ) → ReadsInput reads source input → IfSome (if reads then source.before.bytes else Some []) (λ xs. xs ≡ input)
told true source input read = gave_told source.before.bytes source.after.bytes input read
told false source input read = sym read.1

-- so a property of the input is one of the bytes, and the other way round
known : (So : List ℕ → Type 0) (o : Option (List ℕ)) (input : List ℕ) → IfSome o (λ xs. xs ≡ input) → So input → IfSome o So
known So None input t q = tt
known So (Some xs) input t q = subst So (sym t) q

at_input : (So : List ℕ → Type 0) (o : Option (List ℕ)) (input : List ℕ) → IfSome o (λ xs. xs ≡ input) → IsSomeAnd o So → So input
at_input So None input t m = absurd m
at_input So (Some xs) input t m = subst So t m

-- both are so of an input that is known
both : (So Also : List ℕ → Type 0) (o : Option (List ℕ)) → IfSome o So → IsSomeAnd o Also → (input : List ℕ) × So input × Also input
both So Also None s m = absurd m
both So Also (Some xs) s m = (xs, s, m)

-- an answer is said of an input that is not too long
is_said : (Told : ℕ → Type 0) (command : Command) (input : List ℕ) (answer : Answer) → length input ≤ greatest_input → IsAnswer Told command input answer → IsSaid Told command input answer
is_said Told command input answer within x = else_answers (nat_lt greatest_input (length input)) _ answer (IsAnswer Told command input) (go (nat_lt greatest_input (length input)) refl) x
  where
    go : (b : Bool) → nat_lt greatest_input (length input) ≡ b → nat_lt greatest_input (length input) ≡ false
    go true e = absurd (omega (arith, within, ltb-true greatest_input (length input) e))
    go false e = e

-- the answer to an input that is too long
abbrev too_long : Answer
too_long = Message 3 (failure_message TooLong)

is_too_long : (Told : ℕ → Type 0) (command : Command) (input : List ℕ) → greatest_input < length input → IsSaid Told command input too_long
is_too_long Told command input long = so_answers (nat_lt greatest_input (length input)) too_long too_long (IsAnswer Told command input) (lt-ltb greatest_input (length input) long) refl

long_told : (left left2 : Option (List ℕ)) → TookTooMany left left2 greatest_input → IfSome left (λ xs. greatest_input < length xs)
long_told None left2 x = tt
long_told (Some xs) None x = absurd x
long_told (Some xs) (Some ys) x = x.0

long_input : (reads : Bool) (source : Move) → ReadsTooMuch reads source → IfSome (if reads then source.before.bytes else Some []) (λ xs. greatest_input < length xs)
long_input true source x = long_told source.before.bytes source.after.bytes x
long_input false source x = absurd x

-- a failed read comes with a fault
fails_reading : (reads : Bool) (source : Move) → FailsReading reads source → Fails source
fails_reading true source x = x.0
fails_reading false source x = absurd x

-- ---- the meaning of the status of each end, where a command is asked for

module _ (Told : ℕ → Type 0) (command : Command) (source sink : Move) where
  record Means (status : ℕ) : Type 0 where
    line : status ≡ 2 → ⊥
    reading : status ≡ 4 → Fails source
    writing : status ≡ 5 → Fails sink
    said : is_failure status ≡ false → IfSome (input_of command source.before.bytes) (MaySay status Told command)
    tells : (s : ℕ) → IsSomeAnd (input_of command source.before.bytes) (MustTell s Told command) → ¬ Fails source → (status ≡ s) ⊎ (status ≡ 6)
    says : (s : ℕ) → IsSomeAnd (input_of command source.before.bytes) (MustSay s Told command) → ¬ Fails source → ¬ Fails sink → (status ≡ s) ⊎ (status ≡ 6)

  -- a status that is said is that of no failure
  no_failure : (status n : ℕ) → is_failure status ≡ false → is_failure n ≡ true → status ≡ n → ⊥
  no_failure status n fine failure is = false≢true (sym fine ∙ (ap is_failure is ∙ failure))

  module _ (answer : Answer) (x : IsAnswered Told command source answer) where
    here : IfSome (input_of command source.before.bytes) (λ xs. xs ≡ x.input)
    here = told (reads_input command) source x.input x.read

    answer_said : IsSaid Told command x.input answer
    answer_said = is_said Told command x.input answer x.within x.is_answer

    answer_sound : IsSound answer
    answer_sound = sound Told command x.input answer x.is_answer

    may : IfSome (input_of command source.before.bytes) (MaySay (answer_status answer) Told command)
    may = known (MaySay (answer_status answer) Told command) (input_of command source.before.bytes) x.input here (record { answer = answer; is_said = answer_said; status_is = refl })

    must_say : (s : ℕ) → IsSomeAnd (input_of command source.before.bytes) (MustSay s Told command) → answer_status answer ≡ s
    must_say s m = at_input (MustSay s Told command) (input_of command source.before.bytes) x.input here m answer answer_said

    must_tell : (s : ℕ) → IsSomeAnd (input_of command source.before.bytes) (MustTell s Told command) → (message : List ℕ) × (answer ≡ Message s message)
    must_tell s m = let t = at_input (MustTell s Told command) (input_of command source.before.bytes) x.input here m answer answer_said in (t.message, t.answer_is)

  -- a text was written whole
  means_written : (status : ℕ) (text : List ℕ) → IsAnswered Told command source (Text status text) → Means status
  means_written status text x =
      let fine = answer_sound (Text status text) x in
      record {
        line = no_failure status 2 fine refl;
        reading = λ h. absurd (no_failure status 4 fine refl h);
        writing = λ h. absurd (no_failure status 5 fine refl h);
        said = λ _. may (Text status text) x;
        tells = λ s m _. absurd (text_no_message s (must_tell (Text status text) x s m));
        says = λ s m _ _. inl (must_say (Text status text) x s m);
      }
    where
      text_no_message : (s : ℕ) → (message : List ℕ) × (Text status text ≡ Message s message) → ⊥
      text_no_message s m = let clash = m.1 in absurd (cc)

  -- writing it failed
  means_cut : (status : ℕ) (text : List ℕ) → IsAnswered Told command source (Text status text) → Fails sink → Means 5
  means_cut status text x fails = record {
    line = λ h. omega (arith, h);
    reading = λ h. absurd (omega (arith, h));
    writing = λ _. fails;
    said = λ h. absurd (false≢true (sym h));
    tells = λ s m _. absurd (text_no_message s (must_tell (Text status text) x s m));
    says = λ s m _ calm. absurd (calm fails);
  }
    where
      text_no_message : (s : ℕ) → (message : List ℕ) × (Text status text ≡ Message s message) → ⊥
      text_no_message s m = let clash = m.1 in absurd (cc)

  -- the answer is a message
  means_told : (status : ℕ) (message : List ℕ) → IsAnswered Told command source (Message status message) → Means status
  means_told status message x =
      let fine = answer_sound (Message status message) x in
      record {
        line = no_failure status 2 fine refl;
        reading = λ h. absurd (no_failure status 4 fine refl h);
        writing = λ h. absurd (no_failure status 5 fine refl h);
        said = λ _. may (Message status message) x;
        tells = λ s m _. inl (ap answer_status (must_tell (Message status message) x s m).1);
        says = λ s m _ _. inl (must_say (Message status message) x s m);
      }

  -- the input was too long
  means_too_long : IfSome (input_of command source.before.bytes) (λ xs. greatest_input < length xs) → Means 3
  means_too_long long = record {
    line = λ h. omega (arith, h);
    reading = λ h. absurd (omega (arith, h));
    writing = λ h. absurd (omega (arith, h));
    said = λ _. long_said (input_of command source.before.bytes) long;
    tells = λ s m _. let b = both (λ xs. greatest_input < length xs) (MustTell s Told command) (input_of command source.before.bytes) long m in
        inl (ap answer_status (b.2 too_long (is_too_long Told command b.0 b.1)).answer_is);
    says = λ s m _ _. let b = both (λ xs. greatest_input < length xs) (MustSay s Told command) (input_of command source.before.bytes) long m in
        inl (b.2 too_long (is_too_long Told command b.0 b.1));
  }
    where
      long_said : (o : Option (List ℕ)) → IfSome o (λ xs. greatest_input < length xs) → IfSome o (MaySay 3 Told command)
      long_said None l = tt
      long_said (Some xs) l = record { answer = too_long; is_said = is_too_long Told command xs l; status_is = refl }

  -- reading failed
  means_reading : Fails source → Means 4
  means_reading fails = record {
    line = λ h. omega (arith, h);
    reading = λ _. fails;
    writing = λ h. absurd (omega (arith, h));
    said = λ h. absurd (false≢true (sym h));
    tells = λ s _ calm. absurd (calm fails);
    says = λ s _ calm _. absurd (calm fails);
  }

  -- memory ran out
  means_no_memory : Means 6
  means_no_memory = record {
    line = λ h. omega (arith, h);
    reading = λ h. absurd (omega (arith, h));
    writing = λ h. absurd (omega (arith, h));
    said = λ h. absurd (false≢true (sym h));
    tells = λ s _ _. inr refl;
    says = λ s _ _ _. inr refl;
  }

  means : (end : Result ℕ Failure) → EndsCommand Told command source sink end → Means (status_of end)
  means (Ok status) x = means_written status x.text x.answered
  means (Err Words) x = absurd x
  means (Err TooLong) x = means_too_long (long_input (reads_input command) source x.0)
  means (Err Reading) x = means_reading (fails_reading (reads_input command) source x.0)
  means (Err Writing) x = means_cut x.status x.text x.answered x.wrote.0
  means (Err (Stopped (stops.Message status message))) x = means_told status (string_bytes message) x.0
  means (Err (Stopped stops.NoMemory)) x = means_no_memory

-- the meaning of the status of each end, by the command that is asked for, if any
ends_mean : (Told : ℕ → Type 0) (ask : Option Command) (source sink : Move) (end : Result ℕ Failure) → Ends Told ask source sink end → StatusMeans Told ask source sink (status_of end)
ends_mean Told None source sink end x = rw x.0 (record {
  line = (λ _ some. false≢true some, λ _. refl);
  reading = λ h. absurd (omega (arith, h));
  writing = λ h. absurd (omega (arith, h));
  said = λ h. absurd (false≢true (sym h));
  tells = λ s m _. absurd m;
  says = λ s m _ _. absurd m;
})
ends_mean Told (Some command) source sink end x =
    let m = means Told command source sink end x in
    record {
      line = (λ two. absurd (m.line two), λ none. absurd (none refl));
      reading = m.reading;
      writing = m.writing;
      said = m.said;
      tells = m.tells;
      says = m.says;
    }

-- a run of the program, by the command that was found, its end and the message of that end
pub run_is : {Told : ℕ → Type 0} {found ask : Option Command} {source sink errs : Move} {status : ℕ} (serves : Command → Bool) (end : Result ℕ Failure) → found ≡ ask → Ends Told (if_served serves found) source sink end
    → status ≡ status_of end → TellsEnd errs end → Later source → Later sink → Later errs → IsRun Told (if_served serves ask) source sink errs status
run_is {Told} {found} {ask} {source} {sink} serves end is ends status says source_later sink_later errs_later = record {
  end = end;
  ends = subst (λ (o : Option Command). Ends Told (if_served serves o) source sink end) is ends;
  status_is = status;
  told = says;
  source_later = source_later;
  sink_later = sink_later;
  errs_later = errs_later;
}

pub run_means : {Told : ℕ → Type 0} {ask : Option Command} {source sink errs : Move} {status : ℕ} → IsRun Told ask source sink errs status → StatusMeans Told ask source sink status
run_means {Told} {ask} {source} {sink} r = rw (r.status_is) (ends_mean Told ask source sink r.end r.ends)

-- a run with status 5 is of a command whose text was written in part
ends_cut : (Told : ℕ → Type 0) (ask : Option Command) (source sink : Move) (end : Result ℕ Failure) → Ends Told ask source sink end → status_of end ≡ 5 → (command : Command) × (ask ≡ Some command) × FailsWriting Told command source sink
ends_cut Told None source sink end x five = absurd (omega (arith, rw x.0 at five))
ends_cut Told (Some command) source sink (Ok status) x five =
    absurd (false≢true (sym (sound Told command x.answered.input (Text status x.text) x.answered.is_answer) ∙ ap is_failure five))
ends_cut Told (Some command) source sink (Err Words) x five = absurd x
ends_cut Told (Some command) source sink (Err TooLong) x five = absurd (omega (arith, five))
ends_cut Told (Some command) source sink (Err Reading) x five = absurd (omega (arith, five))
ends_cut Told (Some command) source sink (Err Writing) x five = (command, refl, x)
ends_cut Told (Some command) source sink (Err (Stopped (stops.Message status message))) x five =
    absurd (false≢true (sym (sound Told command x.0.input (Message status (string_bytes message)) x.0.is_answer) ∙ ap is_failure five))
ends_cut Told (Some command) source sink (Err (Stopped stops.NoMemory)) x five = absurd (omega (arith, five))

pub run_cut : {Told : ℕ → Type 0} {ask : Option Command} {source sink errs : Move} {status : ℕ} → IsRun Told ask source sink errs status → status ≡ 5 → (command : Command) × (ask ≡ Some command) × FailsWriting Told command source sink
run_cut {Told} {ask} {source} {sink} r five = ends_cut Told ask source sink r.end r.ends (sym r.status_is ∙ five)
