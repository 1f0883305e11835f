-- Acts that are not in the history of a pool.
use Rattle.std.proofs.Common.{◌≡◌, ◌<◌, ◌≤◌, ◌+◌, ℕ, Bool, true, false, not, [], ◌∷◌, refl, sym, ◌∙◌, arith, inl, inr}
use Rattle.std.proofs.lemmas.Bool.{or_parts, false≢true}
use Rattle.fq_model.specs.declared.event.Act.{Act}
use Rattle.fq_model.specs.declared.event.Act.TheVariants.{Report, Weight, Workers, Withdraw}
use Rattle.program_model.specs.declared.trace.RunOptions.{RunOptions}
use Rattle.program_model.specs.Courses.{submitters}
use Rattle.fq_model.specs.History.{History, has_act, is_change}
use Rattle.fq_model.specs.Outcome.{own_entries}
use Rattle.program_model.specs.PoolHistory.{is_submit_or_close}
use Rattle.program_model.specs.Trace.{Trace}
use Rattle.trace_pool.proofs.Callers.{has_none, who_is}
use Rattle.trace_pool.proofs.Parts.{acts, PoolParts}
use Rattle.trace_pool.proofs.Runs.{MakesNothing, tally, tally_none}
use Rattle.trace_pool.proofs.Submitted.{no_worker_sum}
use Rattle.trace_pool.proofs.Sums.{act_sum, has_less, has_is, report_weight}

-- an act that is neither a Submit nor a Close
abbrev pub is_other : Act → Bool
is_other a = not (is_submit_or_close a)

report_other : (a : Act) → is_other a ≡ false → report_weight a ≡ 0
report_other (Report worker request used) h = absurd (false≢true (sym h))
report_other _ h = refl

-- a submitter reports nothing
pub no_reports : (P : History) → has_act is_other P ≡ false → act_sum report_weight (acts P) ≡ 0
no_reports [] h = refl
no_reports (e ∷ P) h = let x = or_parts (is_other e.act) (has_act is_other P) h in omega (arith, report_other e.act x.0, no_reports P x.1)

module _ (T : Trace) (O : RunOptions) (Tells : ℕ → Type 0) (H : History) (p : PoolParts T O Tells H) where
  -- an act that no worker makes is not in the entries of workers
  pub no_worker_does : (test : Act → Bool) → ((i : ℕ) → MakesNothing (tally test) i) → (j : ℕ) → submitters T.rows ≤ j → has_act test (own_entries H j) ≡ false
  no_worker_does test nothing j h = has_is test (own_entries H j) ∙ tally_none test (acts (own_entries H j)) (no_worker_sum T O Tells H (tally test) nothing p j h)

  -- and where no submitter makes it either, it is not in the history
  pub nobody_does : (test : Act → Bool) → ((i : ℕ) → MakesNothing (tally test) i) → ((j : ℕ) → j < submitters T.rows → has_act test (own_entries H j) ≡ false) → has_act test H ≡ false
  nobody_does test nothing none = has_none test H (λ j. elim (who_is (submitters T.rows) O.workers j) [
    | inl h ↦ none j h
    | inr other ↦ elim other [
      | inl x ↦ no_worker_does test nothing j (let e : j ≡ submitters T.rows + x.0 = x.2 in omega (arith, e))
      | inr h ↦ no_worker_does test nothing j (omega (arith, h))
    ]
  ])

  change_other : (a : Act) → is_change a ≡ true → is_other a ≡ true
  change_other (Weight tenant weight) h = refl
  change_other (Workers count) h = refl
  change_other (Withdraw request) h = refl
  change_other _ h = absurd (false≢true h)

  -- nobody changes weights or the number of workers
  pub no_change : has_act is_change H ≡ false
  no_change = nobody_does is_change (λ i. record { takes = λ r estimate. refl; reports = λ r used. refl; dones = λ r cost. refl })
      (λ j h. has_less is_change is_other change_other (own_entries H j) (p.fed j h).feed.no_other)
