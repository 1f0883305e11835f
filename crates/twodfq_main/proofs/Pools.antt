-- The answer for a history of a pool, which leaves no request undone.
use Rattle.std.proofs.Common.{ℕ, ◌≡◌, ◌∙◌, sym, ap, subst, refl, arith, List, ◌++◌, length, false, None}
use Rattle.std.specs.String.{string_bytes}
use Rattle.std.proofs.lemmas.Bool.{ltb-false}
use Rattle.fq_model.specs.declared.config.Config.{Config}
use Rattle.fq_model.specs.declared.event.Entry.{Entry}
use Rattle.fq_model.specs.declared.limits.TheConstants.{MOST_ENTRIES}
use Rattle.fq_model.specs.declared.parts.Status.{Status}
use Rattle.fq_model.specs.History.{History, history_of}
use Rattle.fq_model.specs.Limits.{HasTextLimits}
use Rattle.fq_model.specs.Report.{unfinished}
use Rattle.program_model.specs.declared.command.LiveOptions.{LiveOptions}
use Rattle.program_model.specs.declared.ending.Stop.{Stop}
use Rattle.program_model.specs.declared.ending.Stop.TheVariants as stops
use Rattle.program_model.specs.declared.trace.RunOptions.{RunOptions}
use Rattle.program_model.specs.Answer.{Answer, Text, Message}
use Rattle.program_model.specs.HistoryAnswer.{history_answer, has_many_entries, entries_answer}
use Rattle.program_model.specs.LiveCommand.{PoolMakes, after_lines, IsWatchedAnswer, IsPoolAnswer}
use Rattle.program_model.specs.PoolHistory.{needed_pool_entries, pool_config, IsPoolHistory}
use Rattle.program_model.specs.Readings.{AreReadings, status_lines}
use Rattle.program_model.specs.Trace.{Trace}
use Rattle.command_texts.specs.Making.{IsStop}
use Rattle.command_texts.proofs.Making.{else_answers}
use Rattle.trace_runner.proofs.Finished.{none_is_unfinished}

pub none_unfinished : (T : Trace) (O : RunOptions) (H : History) → IsPoolHistory T O H → unfinished H ≡ None
none_unfinished T O H s = none_is_unfinished H (λ r is. (s.served r is).done)

-- the history keeps the limits of texts
pub pool_limits : (T : Trace) (O : RunOptions) (C : Config) → C ≡ pool_config T O → HasTextLimits C
pool_limits T O C same = ap (λ (D : Config). D.limits) same

-- a history of the pool, and the statuses that were read while it grew
pub record IsServed (Told : ℕ → Type 0) (T : Trace) (o : LiveOptions) (past : List Entry) (statuses : List Status) : Type 0 where
  pub few : has_many_entries (needed_pool_entries T.rows o.run.refresh) ≡ false
  pub makes : PoolMakes Told T o.run (history_of past)
  pub count : length statuses ≡ o.watch
  pub readings : AreReadings (pool_config T o.run) past 0 statuses

module _ (Told : ℕ → Type 0) (T : Trace) (o : LiveOptions) (C : Config) (past : List Entry) (statuses : List Status) (s : IsServed Told T o past statuses) (config : C ≡ pool_config T o.run) where
  -- the answer for that past alone, in order of time
  abbrev OfPast : Answer → Type 0
  OfPast answer = answer ≡ history_answer o.print o.slot C T.tenants T.kinds past

  with_them : (answer of_past : Answer) → OfPast of_past → answer ≡ after_lines (status_lines statuses) of_past → IsPoolAnswer Told o T answer
  with_them answer of_past is lines =
      else_answers (has_many_entries (needed_pool_entries T.rows o.run.refresh)) (entries_answer (needed_pool_entries T.rows o.run.refresh)) answer (IsWatchedAnswer Told o T) s.few
      (record {
        past = past;
        makes = s.makes;
        statuses = statuses;
        count = s.count;
        readings = s.readings;
        answer_is = lines ∙ ap (after_lines (status_lines statuses)) (is ∙ ap (λ D. history_answer o.print o.slot D T.tenants T.kinds past) config);
      })

  -- a text, with the lines of the statuses before it
  pub watched_text : (status : ℕ) (text more : List ℕ) → OfPast (Text status text) → more ≡ status_lines statuses ++ text → IsPoolAnswer Told o T (Text status more)
  watched_text status text more is lines = with_them (Text status more) (Text status text) is (ap (Text status) lines)

  -- a message, with no lines
  pub watched_stop : (stop : Stop) → IsStop OfPast stop → IsStop (IsPoolAnswer Told o T) stop
  watched_stop (stops.Message status message) is = with_them (Message status (string_bytes message)) (Message status (string_bytes message)) is refl
  watched_stop stops.NoMemory is = tt
