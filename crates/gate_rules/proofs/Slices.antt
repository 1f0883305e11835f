-- Slices that follow a course.
use Rattle.std.proofs.Common.{ℕ, suc, ◌<◌, ◌≡◌, ◌==◌, arith, refl, sym, ap, subst, List, length}
use Rattle.std.proofs.lemmas.Bool.{cond_both, eqb-true, eqb-false}
use Rattle.gate_rules.specs.declared.counters.Counters.{Counters}
use Rattle.gate_rules.specs.declared.gate.Slice.TheVariants.{More, End}
use Rattle.gate_rules.specs.Slices.{counters_after, counters_before, slice_at, GoesOn, SlicesGoOn}

pub slice_goes_on : (course : List Counters) (k : ℕ) → k < length course → GoesOn course k (slice_at course k)
slice_goes_on course k here =
    let item : Counters = counters_after course k in
    cond_both (suc k == length course) (End item) (More item) (GoesOn course k)
    (λ t. let last : suc k ≡ length course = eqb-true (suc k) (length course) t in
    (last, ap (counters_before course) last))
    (λ f. let other : suc k ≡ length course → ⊥ = eqb-false (suc k) (length course) f in
    (omega (arith, here, other), refl))

pub slices_go_on : SlicesGoOn
slices_go_on course k before answer follows here is =
    subst (GoesOn course k) (sym (follows.slice here is)) (slice_goes_on course k here)
