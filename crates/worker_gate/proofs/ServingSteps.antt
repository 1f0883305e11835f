-- A worker's token after each of its calls.
use Rattle.std.proofs.Common.{◌≡◌, ℕ, suc, ◌+◌, ◌<◌, ◌≤◌, Bool, true, false, max, cond, List, [], ◌∷◌, ◌++◌, map, length, Some, sym, ap, ◌∙◌, subst, refl, inl, inr, arith, length-append, eq-eqb}
use Rattle.std.proofs.lemmas.List.{reverse-append}
use Rattle.vt_fixed.specs.declared.limits.TheConstants.{GREATEST_COST}
use Rattle.fq_model.specs.declared.config.Config.{Config}
use Rattle.fq_model.specs.declared.event.Act.TheVariants.{Take, Report, Done}
use Rattle.fq_model.specs.declared.event.Call.{Call}
use Rattle.fq_model.specs.declared.event.Call.TheVariants as call
use Rattle.fq_model.specs.declared.event.Entry.{Entry}
use Rattle.fq_model.specs.declared.event.Reply.{Reply}
use Rattle.fq_model.specs.declared.event.Reply.TheVariants as answer
use Rattle.fq_model.specs.History.{History, history_of, last_use, use_in, running_on, is_taken, request_at}
use Rattle.fq_model.specs.Outcome.{own_entries}
use Rattle.fq_model.specs.Rules.{IsLegal, Answers, needed_room, RunsChosen, FitsTake}
use Rattle.fq_model.specs.Time.{effective_moment}
use Rattle.fq_laws.specs.Words.{named_moment, one_more}
use Rattle.fq_laws.proofs.History.Asked.{waits_untaken}
use Rattle.fq_laws.proofs.Rules.Takes.{take_waits}
use Rattle.history_lock.specs.Histories.{Gains}
use Rattle.history_lock.specs.Passes.{LockView, PassView, IsOf}
use Rattle.desk.specs.declared.floor.Crew.{Crew}
use Rattle.desk.specs.declared.tokens.Running.{Running}
use Rattle.desk.specs.declared.tokens.Worker.{Worker}
use Rattle.desk.specs.Replies.{SameRun}
use Rattle.desk.specs.Tokens.{Stays, IsAnswered, submitters_of, workers_of}
use Rattle.desk.proofs.Own.{runs_by_own}
use Rattle.worker_gate.specs.Running.{acts_of, HasLabel}
use Rattle.worker_gate.specs.Serving.{Goes, HasNamed, IsAtStart}
use Rattle.worker_gate.proofs.Seen.{answered_on, seen_on, moments_on}
use Rattle.worker_gate.proofs.ServingUses.{untaken_unused, own_below, own_history, use_by_own}
use Rattle.worker_gate.proofs.ServingAnswers.{IsStill, TakeMeans, take_means, take_legal, report_means, done_means, done_legal}

-- ---- the entries that a caller has gained

longer_no : (P : List Entry) (e : Entry) → P ≡ P ++ e ∷ [] → ⊥
longer_no P e is = let n : length P ≡ length P + 1 = ap length is ∙ length-append P (e ∷ []) in omega (arith, n)

history_more : (P : List Entry) (e : Entry) → history_of (P ++ e ∷ []) ≡ e ∷ history_of P
history_more P e = reverse-append P (e ∷ [])

history_same : (P Q : List Entry) → history_of Q ≡ history_of P → Q ≡ P
history_same P Q is = sym (Rattle.std.proofs.lemmas.List.reverse-reverse Q) ∙ (ap history_of is ∙ Rattle.std.proofs.lemmas.List.reverse-reverse P)

-- no entry, where the history stays
gains_none : (who : ℕ) (P P2 mine mine2 : List Entry) → Gains who P P2 mine mine2 → history_of P2 ≡ history_of P → mine2 ≡ mine
gains_none who P P2 mine mine2 (inl same) is = same.1
gains_none who P P2 mine mine2 (inr (e, more, mine_more, by)) is = absurd (longer_no P e (sym (history_same P P2 is) ∙ more))

head_same : (e f : Entry) (P : History) → e ∷ P ≡ f ∷ P → e ≡ f
head_same e f P is = cc

-- the new entry, where there is one
gains_one : (who : ℕ) (P P2 mine mine2 : List Entry) (e : Entry) → Gains who P P2 mine mine2 → history_of P2 ≡ e ∷ history_of P → history_of mine2 ≡ e ∷ history_of mine
gains_one who P P2 mine mine2 e (inl same) is =
    let n : length (history_of P) ≡ suc (length (history_of P)) = ap length (sym (ap history_of same.0) ∙ is) in absurd (omega (arith, n))
gains_one who P P2 mine mine2 e (inr (f, more, mine_more, by)) is =
    let same : f ≡ e = head_same f e (history_of P) (sym (history_more P f) ∙ (sym (ap history_of more) ∙ is)) in
    ap history_of mine_more ∙ (history_more mine f ∙ ap (λ x. x ∷ history_of mine) same)

module _ (lock : LockView Crew) (Tells : ℕ → Type 0) where
  abbrev C : Config
  C = lock.frame.config

  -- a call at a moment that the clock tells
  pub goes_by : (old new : PassView Crew) (c : Call) (reply : Reply) → Stays lock old new → old.mine ≡ own_entries old.seen old.number → IsAnswered lock.frame old c reply new → Tells (named_moment c) → Goes lock Tells old new
  goes_by old new c reply stays own a tells = record {
    stays = stays;
    seen = seen_on lock.frame old new c reply a;
    moments = λ before told. moments_on Tells old.number before lock.frame old new c reply a refl own tells told;
  }

  numbered_by : (pass : PassView Crew) (i : ℕ) → IsOf lock pass → pass.number ≡ submitters_of pass.frame + i → pass.number ≡ lock.frame.submitters + i
  numbered_by pass i own by = by ∙ ap (λ f. submitters_of f + i) own.1

  known_by : (pass : PassView Crew) (i : ℕ) → IsOf lock pass → i < workers_of pass.frame → i < lock.frame.config.workers
  known_by pass i own known = subst (λ f. i < workers_of f) own.1 known

  -- the knowledge of a worker that runs a request about the history at which it is answered
  record Knows (running : Running) (P : List Entry) (used : ℕ) : Type 0 where
    known : running.worker < lock.frame.config.workers
    runs : running_on (history_of P) running.worker ≡ Some running.request
    low : last_use (history_of P) running.request ≤ used

  knows : (running : Running) (new : PassView Crew) (c : Call) (reply : Reply) (used : ℕ) → IsOf lock running.pass → last_use (history_of running.pass.mine) running.request ≤ used → (a : IsAnswered lock.frame running.pass c reply new) → Knows running a.P used
  knows running new c reply used own low a =
      let s : ℕ = lock.frame.submitters in
      let i : ℕ = running.worker in
      let r : ℕ = running.request in
      let old : PassView Crew = running.pass in
      let by : old.number ≡ s + i = numbered_by old i own running.numbered in
      let runs : running_on (history_of a.P) i ≡ Some r = sym (runs_by_own s i old.number a.P old.mine by a.own a.staffed) ∙ running.runs in
      let at : last_use (history_of a.P) r ≤ last_use (history_of old.mine) r = use_by_own lock.frame.config s i old.number r a.P old.mine by a.own a.legal a.staffed runs in
      record { known = known_by old i own running.known; runs = runs; low = omega (arith, at, low) }

  -- ---- a Report

  use_at_most : (i r used older : ℕ) → older ≤ used → max (use_in r (Report i r used)) older ≤ used
  use_at_most i r used older low = let is : use_in r (Report i r used) ≡ used = ap (λ b. cond b used 0) (eq-eqb r r refl) in omega (arith, is, low)

  -- after a report the use is named, and its Report is kept or not
  abbrev pub HasReported : ℕ → Running → Running → Type 0
  HasReported used old new = (is_kept : Bool) × HasNamed lock Tells old new (record { used = used; is_kept = is_kept } ∷ []) used

  left_out : (used : ℕ) (old new : Running) (m : ℕ) (reply : Reply) → Goes lock Tells old.pass new.pass → SameRun old new → last_use (history_of old.pass.mine) old.request ≤ used → (a : IsAnswered lock.frame old.pass (call.Report old.pass.number m old.worker used) reply new.pass)
      → history_of new.pass.seen ≡ history_of a.P → lock.frame.config.entries < needed_room (history_of a.P) 2 → HasReported used old new
  left_out used old new m reply goes run low a same room =
      let mine : new.pass.mine ≡ old.pass.mine = gains_none old.pass.number a.P new.pass.seen old.pass.mine new.pass.mine a.gains same in (
        false,
        record {
          goes = goes;
          run = run;
          acts_are = ap acts_of mine;
          kept = (λ _. (a.P, answered_on lock.frame old.pass new.pass _ reply a, ap acts_of a.own, room), tt);
          rising = subst (λ l. last_use (history_of l) old.request ≤ used) (sym mine) low;
        },
      )

  made : (used : ℕ) (old new : Running) (m : ℕ) (reply : Reply) → Goes lock Tells old.pass new.pass → SameRun old new → last_use (history_of old.pass.mine) old.request ≤ used → (a : IsAnswered lock.frame old.pass (call.Report old.pass.number m old.worker used) reply new.pass)
      → history_of new.pass.seen ≡ one_more old.pass.number (effective_moment (history_of a.P) m) (Report old.worker old.request used) (history_of a.P) → HasReported used old new
  made used old new m reply goes run low a more =
      let mine = gains_one old.pass.number a.P new.pass.seen old.pass.mine new.pass.mine _ a.gains more in (
        true,
        record {
          goes = goes;
          run = run;
          acts_are = ap (map (λ e. e.act)) mine;
          kept = (λ no. absurd (Rattle.std.proofs.lemmas.Bool.false≢true (sym no)), tt);
          rising = subst (λ h. last_use h old.request ≤ used) (sym mine) (use_at_most old.worker old.request used (last_use (history_of old.pass.mine) old.request) low);
        },
      )

  pub report_step : (used : ℕ) (old new : Running) (m : ℕ) (reply : Reply) → IsOf lock old.pass → Stays lock old.pass new.pass → SameRun old new → Tells m → last_use (history_of old.pass.mine) old.request ≤ used → used ≤ GREATEST_COST
      → IsAnswered lock.frame old.pass (call.Report old.pass.number m old.worker used) reply new.pass → HasReported used old new
  report_step used old new m reply own stays run tells low limit a =
      let k = knows old new.pass (call.Report old.pass.number m old.worker used) reply used own low a in
      let goes : Goes lock Tells old.pass new.pass = goes_by old.pass new.pass (call.Report old.pass.number m old.worker used) reply stays old.own a tells in
      elim (report_means lock.frame.config (history_of a.P) old.pass.number m old.worker old.request used k.known k.runs k.low limit reply (history_of new.pass.seen) a.answers) [
        | inl x ↦ left_out used old new m reply goes run low a x.1 x.2
        | inr x ↦ made used old new m reply goes run low a x.1
      ]

  -- ---- a Done

  -- the worker's pass after its Done
  pub record Ended (cost : ℕ) (old : Running) (new : PassView Crew) (reply : Reply) : Type 0 where
    pub is_accepted : reply ≡ answer.Accepted
    pub goes : Goes lock Tells old.pass new
    pub legal : IsLegal lock.frame.config (history_of new.seen)
    pub acts_are : acts_of new.mine ≡ Done old.worker old.request cost ∷ acts_of old.pass.mine

  pub done_step : (cost : ℕ) (old : Running) (new : PassView Crew) (m : ℕ) (reply : Reply) → IsOf lock old.pass → Stays lock old.pass new → Tells m → last_use (history_of old.pass.mine) old.request ≤ cost → cost ≤ GREATEST_COST
      → IsAnswered lock.frame old.pass (call.Done old.pass.number m old.worker cost) reply new → Ended cost old new reply
  done_step cost old new m reply own stays tells low limit a =
      let k = knows old new (call.Done old.pass.number m old.worker cost) reply cost own low a in
      let x = done_means lock.frame.config (history_of a.P) old.pass.number m old.worker old.request cost k.known k.runs k.low limit reply (history_of new.seen) a.answers in
      let mine = gains_one old.pass.number a.P new.seen old.pass.mine new.mine _ a.gains x.1 in record {
        is_accepted = x.0;
        goes = goes_by old.pass new (call.Done old.pass.number m old.worker cost) reply stays old.own a tells;
        legal = done_legal lock.frame.config (history_of a.P) old.pass.number m old.worker cost reply (history_of new.seen) a.legal a.answers;
        acts_are = ap (map (λ e. e.act)) mine;
      }

  -- ---- a Take

  -- the pass of a worker that its Take gives no request
  pub record Rests (old new : PassView Crew) (m i : ℕ) (reply : Reply) : Type 0 where
    pub goes : Goes lock Tells old new
    pub legal : IsLegal lock.frame.config (history_of new.seen)
    pub mine : new.mine ≡ old.mine
    pub answers : Answers lock.frame.config (history_of new.seen) (call.Take new.number m i) reply (history_of new.seen)

  no_run : (C : Config) (P : History) (who m i : ℕ) (reply : Reply) (Q : History) → IsStill reply → RunsChosen C P who m i reply Q → ⊥
  no_run C P who m i reply Q is x = let no : IsStill (answer.Run x.request x.estimate x.asked.label) = subst IsStill x.accepted.0 is in no

  still_means : (C : Config) (P : History) (who m i : ℕ) (reply : Reply) (Q : History) → IsStill reply → TakeMeans C P who m i reply Q → Q ≡ P
  still_means C P who m i reply Q is (inl x) = x.0
  still_means C P who m i reply Q is (inr (x, fits)) = absurd (no_run C P who m i reply Q is x)

  pub rest_step : (old : Worker) (new : PassView Crew) (m : ℕ) (reply : Reply) → Stays lock old.pass new → Tells m → IsStill reply → IsAnswered lock.frame old.pass (call.Take old.pass.number m old.worker) reply new → Rests old.pass new m old.worker reply
  rest_step old new m reply stays tells is a =
      let C : Config = lock.frame.config in
      let P : History = history_of a.P in
      let means = take_means C P old.pass.number m old.worker reply (history_of new.seen) a.legal a.answers in
      let same : history_of new.seen ≡ P = still_means C P old.pass.number m old.worker reply (history_of new.seen) is means in
      let at : Answers C (history_of new.seen) (call.Take old.pass.number m old.worker) reply (history_of new.seen) = subst (λ H. Answers C H (call.Take old.pass.number m old.worker) reply (history_of new.seen)) (sym same) a.answers in
      record {
        goes = goes_by old.pass new (call.Take old.pass.number m old.worker) reply stays old.own a tells;
        legal = take_legal C P old.pass.number m old.worker reply (history_of new.seen) a.legal means;
        mine = gains_none old.pass.number a.P new.seen old.pass.mine new.mine a.gains same;
        answers = subst (λ n. Answers C (history_of new.seen) (call.Take n m old.worker) reply (history_of new.seen)) (sym stays.number) at;
      }

  -- the token of a worker that its Take gives a request
  pub record Takes (label : ℕ) (old : Worker) (new : Running) : Type 0 where
    pub goes : Goes lock Tells old.pass new.pass
    pub start : IsAtStart lock new
    pub acts_are : acts_of new.pass.mine ≡ Take old.worker new.request new.estimate ∷ acts_of old.pass.mine
    pub labelled : HasLabel (history_of new.pass.seen) new.request label

  taken_unused : (C : Config) (P H : History) (n m i r estimate : ℕ) → IsLegal C P → FitsTake C P m i r estimate → own_entries P n ≡ H → last_use H r ≡ 0
  taken_unused C P H n m i r estimate l fits own =
      let un : is_taken P r ≡ false = waits_untaken P r (take_waits C P m i r estimate fits) in
      let none : last_use P r ≡ 0 = untaken_unused C P r l un in
      let low : last_use (own_entries P n) r ≤ last_use P r = own_below n r P in
      let is : last_use (own_entries P n) r ≡ last_use H r = ap (λ h. last_use h r) own in
      omega (arith, none, low, is)

  zero_or : (n : ℕ) → n ≡ 0 → max 0 n ≡ 0
  zero_or n is = omega (arith, is)

  -- the reply names the chosen request
  record IsGiven (C : Config) (P : History) (who m i r estimate label : ℕ) (Q : History) : Type 0 where
    more : Q ≡ one_more who (effective_moment P m) (Take i r estimate) P
    fits : FitsTake C P (effective_moment P m) i r estimate
    labelled : HasLabel P r label

  given : (C : Config) (P : History) (who m i r estimate label : ℕ) (Q : History) → TakeMeans C P who m i (answer.Run r estimate label) Q → IsGiven C P who m i r estimate label Q
  given C P who m i r estimate label Q (inl x) = absurd x.1
  given C P who m i r estimate label Q (inr (x, fits)) =
      let is : answer.Run r estimate label ≡ answer.Run x.request x.estimate x.asked.label = x.accepted.0 in
      let one : x.request ≡ r = cc in
      let two : x.estimate ≡ estimate = cc in
      let three : x.asked.label ≡ label = cc in record {
        more = x.accepted.1 ∙ (ap (λ q. one_more who (effective_moment P m) (Take i q x.estimate) P) one ∙ ap (λ c. one_more who (effective_moment P m) (Take i r c) P) two);
        fits = subst (λ q. FitsTake C P (effective_moment P m) i q estimate) one (subst (λ c. FitsTake C P (effective_moment P m) i x.request c) two fits);
        labelled = (x.asked, ap (request_at P) (sym one) ∙ x.chosen.asked, three);
      }

  pub take_step : (label : ℕ) (old : Worker) (new : Running) (m : ℕ) → Stays lock old.pass new.pass → Tells m
      → IsAnswered lock.frame old.pass (call.Take old.pass.number m old.worker) (answer.Run new.request new.estimate label) new.pass → Takes label old new
  take_step label old new m stays tells a =
      let C : Config = lock.frame.config in
      let P : History = history_of a.P in
      let r : ℕ = new.request in
      let x = given C P old.pass.number m old.worker r new.estimate label (history_of new.pass.seen) (take_means C P old.pass.number m old.worker _ (history_of new.pass.seen) a.legal a.answers) in
      let mine = gains_one old.pass.number a.P new.pass.seen old.pass.mine new.pass.mine _ a.gains x.more in
      let own : own_entries P old.pass.number ≡ history_of old.pass.mine = own_history old.pass.number a.P old.pass.mine a.own in
      let none : last_use (history_of old.pass.mine) r ≡ 0 = taken_unused C P (history_of old.pass.mine) old.pass.number (effective_moment P m) old.worker r new.estimate a.legal x.fits own in record {
        goes = goes_by old.pass new.pass (call.Take old.pass.number m old.worker) (answer.Run r new.estimate label) stays old.own a tells;
        start = record { own = stays.own; unused = ap (λ h. last_use h r) mine ∙ zero_or (last_use (history_of old.pass.mine) r) none };
        acts_are = ap (map (λ e. e.act)) mine;
        labelled = (x.labelled.0, ap (λ h. request_at h r) x.more ∙ x.labelled.1, x.labelled.2);
      }
