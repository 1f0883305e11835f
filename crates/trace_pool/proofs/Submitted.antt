-- The submitters submit the requests of the rows, and no others.
use Rattle.std.proofs.Common.{◌≡◌, ◌<◌, ◌≤◌, ◌+◌, ℕ, List, [], ◌∷◌, ◌++◌, map, length, refl, sym, ap, ◌∙◌, subst, arith, inl, inr, Option, Some, None}
use Rattle.fq_model.specs.declared.event.Act.{Act}
use Rattle.fq_model.specs.declared.event.Cause.{Cause}
use Rattle.program_model.specs.declared.trace.RunOptions.{RunOptions}
use Rattle.program_model.specs.Courses.{submitters}
use Rattle.fq_model.specs.History.{History, Request, submits}
use Rattle.fq_model.specs.Outcome.{own_entries}
use Rattle.fq_model.specs.Sums.{sum_below}
use Rattle.program_model.specs.Trace.{Trace}
use Rattle.gate_rules.specs.declared.rows.Row.{Row}
use Rattle.worker_gate.specs.Feeding.{Splits}
use Rattle.trace_pool.specs.PoolEnd.{row_asks}
use Rattle.trace_pool.proofs.Callers.{who_is}
use Rattle.trace_pool.proofs.Parts.{acts, FeedPart, PoolParts}
use Rattle.trace_pool.proofs.Rows.{rows_sum, from_sum, from_parts, rows_count}
use Rattle.trace_pool.proofs.Runs.{MakesNothing, runs_nothing}
use Rattle.trace_pool.proofs.Sums.{act_sum, own_sum, sum_parts, sum_cut, sums_rise, sums_rise_at, submit_weight, submitted_sum, submits_are, request_sum, request_sum_turned, one_each}

abbrev asked : List (Row ℕ) → List Request
asked rows = map row_asks rows

asked_more : (g : Request → ℕ) (sent rest : List (Row ℕ)) → request_sum g (asked (sent ++ rest)) ≡ request_sum g (asked sent) + request_sum g (asked rest)
asked_more g [] rest = omega arith
asked_more g (row ∷ sent) rest = omega (arith, asked_more g sent rest)

sent_low : (g : Request → ℕ) (rows sent rest : List (Row ℕ)) (stopped : Option (Row ℕ × Cause)) → Splits rows sent stopped rest → request_sum g (asked sent) ≤ request_sum g (asked rows)
sent_low g rows sent rest None split = rw split.0 (omega arith)
sent_low g rows sent rest (Some (row, why)) split = rw split (omega (arith, asked_more g sent (row ∷ rest)))

-- a row that was refused was not sent
abbrev pub IsStopped : Option (Row ℕ × Cause) → Type 0
IsStopped None = ⊥
IsStopped (Some x) = Unit {0}

fewer_sent : (rows sent rest : List (Row ℕ)) (stopped : Option (Row ℕ × Cause)) → Splits rows sent stopped rest → IsStopped stopped → request_sum one_each (asked sent) < request_sum one_each (asked rows)
fewer_sent rows sent rest None split is = absurd is
fewer_sent rows sent rest (Some (row, why)) split is = rw split (omega (arith, asked_more one_each sent (row ∷ rest)))

module _ (T : Trace) (O : RunOptions) (Tells : ℕ → Type 0) (H : History) where
  own_submits : (g : Request → ℕ) (j : ℕ) (f : FeedPart T O Tells H j) → own_sum (submit_weight g) H j ≡ request_sum g (asked f.sent)
  own_submits g j f = submitted_sum g (own_entries H j) ∙ (ap (request_sum g) f.feed.rows ∙ request_sum_turned g (asked f.sent))

  own_low : (g : Request → ℕ) (j : ℕ) → FeedPart T O Tells H j → own_sum (submit_weight g) H j ≤ from_sum g 0 T.rows j
  own_low g j f = omega (arith, own_submits g j f, sent_low g f.rows f.sent f.rest f.stopped f.split, ap (request_sum g) f.rows_are)

  own_lower : (j : ℕ) (f : FeedPart T O Tells H j) → IsStopped f.stopped → own_sum (submit_weight one_each) H j < from_sum one_each 0 T.rows j
  own_lower j f is = omega (arith, own_submits one_each j f, fewer_sent f.rows f.sent f.rest f.stopped f.split is, ap (request_sum one_each) f.rows_are)

  -- where workers' acts weigh 0, a worker's sum is 0
  pub no_worker_sum : (f : Act → ℕ) → ((i : ℕ) → MakesNothing f i) → PoolParts T O Tells H → (j : ℕ) → submitters T.rows ≤ j → own_sum f H j ≡ 0
  no_worker_sum f nothing p j h = elim (who_is (submitters T.rows) O.workers j) [
    | inl k ↦ absurd (omega arith)
    | inr other ↦ elim other [
      | inl x ↦ (let w = p.served x.0 x.1 in subst (λ n. own_sum f H n ≡ 0) (sym x.2) (ap (act_sum f) w.acts_are ∙ runs_nothing f x.0 w.runs (nothing x.0)))
      | inr k ↦ ap (λ P. act_sum f (acts P)) (p.no_other j k)
    ]
  ]

  pub whole_sum : (f : Act → ℕ) → PoolParts T O Tells H → act_sum f (acts H) ≡ sum_below (own_sum f H) (submitters T.rows + O.workers)
  whole_sum f p = sum_parts f H (submitters T.rows + O.workers) p.no_other

  -- and the sum over the history is the sum over the submitters
  pub submitters_sum : (f : Act → ℕ) → ((i : ℕ) → MakesNothing f i) → PoolParts T O Tells H → act_sum f (acts H) ≡ sum_below (own_sum f H) (submitters T.rows)
  submitters_sum f nothing p = whole_sum f p ∙ sum_cut (own_sum f H) (submitters T.rows) O.workers (no_worker_sum f nothing p)

  pub none_submitted : (g : Request → ℕ) (i : ℕ) → MakesNothing (submit_weight g) i
  none_submitted g i = record { takes = λ r estimate. refl; reports = λ r used. refl; dones = λ r cost. refl }

  -- the submitted requests weigh no more than the requests of all rows
  pub submitted_low : (g : Request → ℕ) → PoolParts T O Tells H → act_sum (submit_weight g) (acts H) ≤ rows_sum g 0 T.rows
  submitted_low g p = omega (
    arith,
    submitters_sum (submit_weight g) (none_submitted g) p,
    from_parts g (submitters T.rows) 0 T.rows (omega arith),
    sums_rise (own_sum (submit_weight g) H) (from_sum g 0 T.rows) (submitters T.rows) (λ j h. own_low g j (p.fed j h)),
  )

  -- there are at most as many Submits as rows
  pub submits_low : PoolParts T O Tells H → submits H ≤ length T.rows
  submits_low p = omega (arith, submits_are H, submitted_low one_each p, rows_count 0 T.rows)

  -- and fewer where a row was refused
  pub submits_lower : (p : PoolParts T O Tells H) (j : ℕ) (h : j < submitters T.rows) → IsStopped (p.fed j h).stopped → submits H < length T.rows
  submits_lower p j h is = omega (
    arith,
    submits_are H,
    rows_count 0 T.rows,
    submitters_sum (submit_weight one_each) (none_submitted one_each) p,
    from_parts one_each (submitters T.rows) 0 T.rows (omega arith),
    sums_rise_at (own_sum (submit_weight one_each) H) (from_sum one_each 0 T.rows) (submitters T.rows) j h (λ i b. own_low one_each i (p.fed i b)) (own_lower j (p.fed j h) is),
  )
