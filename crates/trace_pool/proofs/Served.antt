-- Each request of a pool is taken once, and done.
use Rattle.std.proofs.Common.{◌≡◌, ◌<◌, ◌≤◌, ◌==◌, ◌^◌, ℕ, Bool, true, false, not, [], ◌∷◌, ◌++◌, refl, sym, ap, ◌∙◌, subst, arith, inl, inr, Option, Some, None, if◌then◌else◌}
use Rattle.std.specs.Prelude.{nat_le, MatchBool}
use Rattle.std.proofs.lemmas.Bool.{cases_Bool, eqb-true, or_cases, or_parts, both_ways, false≢true, and_from, not_from_false}
use Rattle.std.proofs.lemmas.Bool.Decides.{nat_tests}
use Rattle.fq_model.specs.declared.config.Config.{Config}
use Rattle.fq_model.specs.declared.event.Act.{Act}
use Rattle.fq_model.specs.declared.event.Act.TheVariants.{Submit, Workers, Take, Withdraw}
use Rattle.fq_model.specs.declared.event.Cause.{Cause}
use Rattle.fq_model.specs.declared.event.Reply.{Reply}
use Rattle.fq_model.specs.declared.event.Reply.TheVariants as answer
use Rattle.program_model.specs.declared.trace.RunOptions.{RunOptions}
use Rattle.program_model.specs.Courses.{submitters, worker_caller}
use Rattle.fq_model.specs.History.{History, history_of, has_act, is_change, is_close, is_closed, is_submit_of, is_submitted, is_take_of, is_taken, is_removed, is_done_of, is_done, is_waiting, waiting, pool_at, pool_after, request_bound}
use Rattle.fq_model.specs.Limits.{InLimits}
use Rattle.program_model.specs.RunLimits.{AreInRange}
use Rattle.fq_model.specs.Outcome.{own_entries}
use Rattle.program_model.specs.PoolHistory.{pool_config, IsServedOnce}
use Rattle.fq_model.specs.Rules.{IsLegal, Fits, AnswersFree, AnswersPooled, RefusedOrElse, RunsChosen, take_refusal}
use Rattle.program_model.specs.Trace.{Trace}
use Rattle.fq_laws.proofs.Sums.{count_some}
use Rattle.fq_laws.proofs.History.Asked.{untaken_unremoved}
use Rattle.fq_laws.proofs.History.Numbers.{submitted_small}
use Rattle.fq_laws.proofs.History.Once.{taken_once}
use Rattle.worker_gate.specs.Running.{EndsWork, with_runs}
use Rattle.trace_pool.proofs.Balance.{legal_older}
use Rattle.trace_pool.proofs.Callers.{has_own, has_owner, who_is}
use Rattle.trace_pool.proofs.Absent.{is_other, no_change}
use Rattle.trace_pool.proofs.Parts.{WorkPart, PoolParts}
use Rattle.trace_pool.proofs.Runs.{taken_done}
use Rattle.trace_pool.proofs.Sums.{any_act, counted, has_is, has_less, has_within, none_within}

-- ---- a worker that is turned away

pool_same_at : (a : Act) (n : ℕ) → is_change a ≡ false → pool_after a n ≡ n
pool_same_at (Workers count) n h = absurd (false≢true (sym h))
pool_same_at (Withdraw request) n h = absurd (false≢true (sym h))
pool_same_at _ n h = refl

pool_same : (C : Config) (P : History) → has_act is_change P ≡ false → pool_at C P ≡ C.workers
unfolding pool_at
pool_same C [] h = refl
pool_same C (e ∷ P) h = let x = or_parts (is_change e.act) (has_act is_change P) h in pool_same_at e.act (pool_at C P) x.0 ∙ pool_same C P x.1

-- nothing waits and the history is closed
abbrev IsOver : History → Type 0
IsOver P = (waiting P ≡ 0) × (is_closed P ≡ true)

over_closed : (P : History) (reply : Reply) (b : Bool) → is_closed P ≡ b → reply ≡ (if b then answer.Drained else answer.Idle) → EndsWork reply → is_closed P ≡ true
over_closed P reply true e is ends = e
over_closed P reply false e is ends = absurd (subst EndsWork is ends)

over_pooled : (C : Config) (P : History) (who m i : ℕ) (reply : Reply) (b : Bool) → (waiting P == 0) ≡ b → MatchBool b ((reply ≡ (if is_closed P then answer.Drained else answer.Idle)) × (P ≡ P)) (RunsChosen C P who m i reply P) → EndsWork reply → IsOver P
over_pooled C P who m i reply true e h ends = (eqb-true (waiting P) 0 e, over_closed P reply (is_closed P) refl h.0 ends)
over_pooled C P who m i reply false e h ends = absurd (subst EndsWork h.accepted.0 ends)

over_free : (C : Config) (P : History) (who m i : ℕ) (reply : Reply) (b : Bool) → nat_le (pool_at C P) i ≡ b → i < pool_at C P → MatchBool b ((reply ≡ answer.Retired (pool_at C P)) × (P ≡ P)) (AnswersPooled C P who m i reply P) → EndsWork reply → IsOver P
over_free C P who m i reply true e known h ends = let no : nat_le (pool_at C P) i ≡ false = grind (arith, nat_tests) in absurd (both_ways (nat_le (pool_at C P) i) no e)
over_free C P who m i reply false e known h ends = over_pooled C P who m i reply (waiting P == 0) refl h ends

over_taken : (C : Config) (P : History) (who m i : ℕ) (reply : Reply) (o : Option Cause) → i < pool_at C P → RefusedOrElse o P reply P (AnswersFree C P who m i reply P) → EndsWork reply → IsOver P
over_taken C P who m i reply None known h ends = over_free C P who m i reply (nat_le (pool_at C P) i) refl known h ends
over_taken C P who m i reply (Some c) known h ends = absurd (subst EndsWork h.0 ends)

-- ---- a history that is over stays over

late_at : (C : Config) (P : History) (m r : ℕ) (a : Act) → Fits C P m a → is_closed P ≡ true → is_submit_of r a ≡ false
late_at C P m r (Submit request tenant kind declared label) f h = absurd (both_ways (is_closed P) f.open_still h)
late_at C P m r _ f h = refl

-- a submitted request was submitted before the history closed
submitted_before : (C : Config) (newer P : History) (r : ℕ) → IsLegal C (newer ++ P) → is_closed P ≡ true → is_submitted (newer ++ P) r ≡ true → is_submitted P r ≡ true
unfolding is_submitted is_closed
submitted_before C [] P r l closed h = h
submitted_before C (e ∷ newer) P r l closed h = elim (or_cases (is_submit_of r e.act) (has_act (is_submit_of r) (newer ++ P)) h) [
  | inl now ↦ absurd (both_ways (is_submit_of r e.act) (late_at C (newer ++ P) e.moment r e.act l.3 (has_within is_close newer P closed)) now)
  | inr was ↦ submitted_before C newer P r l.0 closed was
]

waits_so : (P : History) (r : ℕ) → has_act is_change P ≡ false → is_submitted P r ≡ true → is_taken P r ≡ false → is_waiting P r ≡ true
unfolding is_waiting
waits_so P r still s t = and_from (is_submitted P r) (not (is_removed P r)) s (not_from_false (is_removed P r) (untaken_unremoved P r still t))

-- where no request waits and nothing was changed, each submitted request is taken
taken_where_none_waits : (C : Config) (P : History) (r : ℕ) → InLimits C → IsLegal C P → has_act is_change P ≡ false → waiting P ≡ 0 → is_submitted P r ≡ true → is_taken P r ≡ true
unfolding waiting request_bound
taken_where_none_waits C P r lim l still none h = elim (cases_Bool (is_taken P r)) [
  | inl is ↦ is
  | inr free ↦ (let some : 1 ≤ waiting P = count_some (is_waiting P) r (2 ^ 32) (submitted_small C P r lim l h) (waits_so P r still h free) in absurd (omega (arith, none, some)))
]

module _ (T : Trace) (O : RunOptions) (Tells : ℕ → Type 0) (H : History) (range : AreInRange O) (lim : InLimits (pool_config T O)) (p : PoolParts T O Tells H) where
  -- nothing was changed in the history that worker i has seen
  seen_still : (i : ℕ) (w : WorkPart T O Tells H i) → has_act is_change (history_of w.seen) ≡ false
  seen_still i w = none_within is_change w.sees.newer (history_of w.seen) (ap (has_act is_change) (sym w.sees.begins) ∙ no_change T O Tells H p)

  -- and that history is over
  seen_over : (i : ℕ) → i < O.workers → (w : WorkPart T O Tells H i) → IsOver (history_of w.seen)
  seen_over i h w =
      let C : Config = pool_config T O in
      let still : has_act is_change (history_of w.seen) ≡ false = seen_still i w in
      over_taken C (history_of w.seen) w.number w.moment i w.reply (take_refusal C (history_of w.seen) i) (subst (λ n. i < n) (sym (pool_same C (history_of w.seen) still)) h) w.turned_away w.ends

  all_taken : (i r : ℕ) → i < O.workers → (w : WorkPart T O Tells H i) → is_submitted H r ≡ true → has_act (is_take_of r) H ≡ true
  unfolding is_taken
  all_taken i r h w s =
      let C : Config = pool_config T O in
      let P : History = history_of w.seen in
      let over : IsOver P = seen_over i h w in
      let legal : IsLegal C (w.sees.newer ++ P) = subst (IsLegal C) w.sees.begins p.legal in
      let submitted : is_submitted P r ≡ true = submitted_before C w.sees.newer P r legal over.1 (subst (λ Q. is_submitted Q r ≡ true) w.sees.begins s) in
      let taken : has_act (is_take_of r) P ≡ true = taken_where_none_waits C P r lim (legal_older C w.sees.newer P legal) (seen_still i w) over.0 submitted in
      ap (has_act (is_take_of r)) w.sees.begins ∙ has_within (is_take_of r) w.sees.newer P taken

  take_other : (r : ℕ) (a : Act) → is_take_of r a ≡ true → is_other a ≡ true
  take_other r (Take worker request estimate) h = refl
  take_other r _ h = absurd (false≢true h)

  -- whoever has taken a request has done it
  done_by : (r j : ℕ) → has_act (is_take_of r) (own_entries H j) ≡ true → has_act (is_done_of r) (own_entries H j) ≡ true
  done_by r j took = elim (who_is (submitters T.rows) O.workers j) [
    | inl h ↦ absurd (both_ways (has_act (is_take_of r) (own_entries H j)) (has_less (is_take_of r) is_other (take_other r) (own_entries H j) (p.fed j h).feed.no_other) took)
    | inr other ↦ elim other [
      | inl x ↦ (let w = p.served x.0 x.1 in subst (λ n. has_act (is_take_of r) (own_entries H n) ≡ true → has_act (is_done_of r) (own_entries H n) ≡ true) (sym x.2) (λ t. does x.0 w t) took)
      | inr h ↦ absurd (false≢true (ap (has_act (is_take_of r)) (sym (p.no_other j h)) ∙ took))
    ]
  ]
    where
      does : (i : ℕ) (w : WorkPart T O Tells H i) → has_act (is_take_of r) (own_entries H (worker_caller T.rows i)) ≡ true → has_act (is_done_of r) (own_entries H (worker_caller T.rows i)) ≡ true
      does i w t =
          let own : History = own_entries H (worker_caller T.rows i) in
          let took_so : any_act (is_take_of r) (with_runs i w.runs []) ≡ true = ap (any_act (is_take_of r)) (sym w.acts_are) ∙ (sym (has_is (is_take_of r) own) ∙ t) in
          has_is (is_done_of r) own ∙ (ap (any_act (is_done_of r)) w.acts_are ∙ taken_done r i w.runs took_so)

  pub is_served : (r : ℕ) → is_submitted H r ≡ true → IsServedOnce H r
  unfolding is_done
  is_served r s =
      let first : 0 < O.workers = omega (arith, range.workers.0) in
      let took : has_act (is_take_of r) H ≡ true = all_taken 0 r first (p.served 0 first) s in
      let by = has_owner (is_take_of r) H took in
      record {
        taken = omega (arith, taken_once (pool_config T O) H r p.legal, counted (is_take_of r) H took);
        done = has_own (is_done_of r) H by.0 (done_by r by.0 by.1);
      }
