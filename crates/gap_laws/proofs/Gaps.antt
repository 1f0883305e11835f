-- The difference of two tenants' starts where every cost is as declared: a lead whose doubt is 0.
use Rattle.std.proofs.Common.{ℕ, ◌*◌, ◌≡◌, true, sym, subst, arith, inl, inr, ◌++◌, ℤ, pos, ◌≤ℤ◌}
use Rattle.std.specs.Int.{int_max}
use Rattle.std.proofs.lemmas.Int.{ints, clamps}
use Rattle.std.proofs.lemmas.Bool.{cases_eq}
use Rattle.fq_model.specs.declared.config.Config.{Config}
use Rattle.fq_model.specs.Limits.{InLimits}
use Rattle.fq_model.specs.History.{History}
use Rattle.fq_model.specs.Rules.{IsLegal}
use Rattle.fq_model.specs.Gap.{is_shared, start_difference, run_start, lengths_in_bound, longest_length}
use Rattle.gap_laws.specs.Words.{HasDeclaredCosts}
use Rattle.gap_laws.specs.Laws.{GapStaysBelow}
use Rattle.gap_laws.proofs.Declared.{AllDeclared, all_are_declared, legal_prefix, declared_prefix}
use Rattle.gap_laws.proofs.Lengths.{LengthsAtMost, longest_covers_first, longest_covers_second, lengths_prefix}
use Rattle.gap_laws.proofs.Undoubted.{apart_below}

-- the bound of the difference at a shared prefix, where no length is above B
abbrev pub BelowLengths : Config → History → ℕ → ℕ → ℕ → Type 0
BelowLengths C P f g B = start_difference C P f g ≤ℤ int_max (start_difference C (run_start P f g) f g) (pos (lengths_in_bound C.policy * B))

-- a tenant is not above itself
same_below : (C : Config) (P : History) (f B : ℕ) (z : ℤ) → start_difference C P f f ≤ℤ int_max z (pos (lengths_in_bound C.policy * B))
unfolding start_difference
same_below C P f B z = omega (arith, ints, clamps)

pub difference_below : (C : Config) (P : History) (f g B : ℕ) → InLimits C → IsLegal C P → AllDeclared C P → LengthsAtMost C P f B → LengthsAtMost C P g B → is_shared P f g ≡ true → BelowLengths C P f g B
difference_below C P f g B lim l d low_f low_g h = elim (cases_eq f g) [
  | inl e ↦ rw (← e) (same_below C P f B (start_difference C (run_start P f f) f f))
  | inr ne ↦ apart_below C P f g B lim l d low_f low_g ne h
]

below_at : (C : Config) (newer P : History) (f g : ℕ) → HasDeclaredCosts C (newer ++ P) → is_shared P f g ≡ true → BelowLengths C P f g (longest_length C (newer ++ P) f g)
below_at C newer P f g h is =
    let low_f : LengthsAtMost C P f (longest_length C (newer ++ P) f g) = lengths_prefix C newer P f _ (longest_covers_first C (newer ++ P) f g) in
    let low_g : LengthsAtMost C P g (longest_length C (newer ++ P) f g) = lengths_prefix C newer P g _ (longest_covers_second C (newer ++ P) f g) in
    difference_below C P f g _ h.limits (legal_prefix C newer P h.legal) (declared_prefix C newer P h.legal (all_are_declared C (newer ++ P) h)) low_f low_g is

pub gap_below : GapStaysBelow
gap_below C H P f g h is =
    let newer : History = is.0.0 in
    let split : H ≡ newer ++ P = is.0.1 in
    subst (λ Q. BelowLengths C P f g (longest_length C Q f g)) (sym split) (below_at C newer P f g (subst (HasDeclaredCosts C) split h) is.1)
