-- Comparing keys of heads.
use Rattle.std.proofs.Common.{ℕ, ◌<◌, ◌≡◌, ℤ, Bool, false, nat_lt, IsTrue, ◌↔◌, inl, inr, arith, tests, rules, sym, subst, ◌∙◌}
use Rattle.std.proofs.lemmas.Int.{ints}
use Rattle.std.proofs.lemmas.Bool.{false≢true}
use Rattle.std.specs.Int.{w128}
use lib.Signed.{mag}
use mir.Val.{to_z, of_z}
use Rattle.tag_rules.specs.Orders.{ComesBefore}

reads_back : (z : ℤ) → mag z < 170141183460469231731687303715884105728 → to_z w128 (of_z w128 z) ≡ z
reads_back z h = omega (arith, ints)

-- a comparison of two numbers that were written and read back is the comparison of the numbers
pub compared : (x y a b : ℤ) (result next : Bool) (Next : Type 0) → mag x < 170141183460469231731687303715884105728 → mag y < 170141183460469231731687303715884105728 → x ≡ a → y ≡ b → (IsTrue result ↔ ComesBefore (to_z w128 (of_z w128 x)) (to_z w128 (of_z w128 y)) (IsTrue next)) → (IsTrue next ↔ Next) → IsTrue result ↔ ComesBefore a b Next
compared x y a b result next Next in_x in_y e f h n =
    let back : IsTrue result ↔ ComesBefore x y (IsTrue next) = rw (reads_back x in_x, reads_back y in_y) at h in
    let same : IsTrue result ↔ ComesBefore a b (IsTrue next) = rw (e, f) at back in (
      λ r. elim (same.0 r) [ inl less ↦ inl less | inr tie ↦ inr (tie.0, n.0 tie.1) ],
      λ p. same.1 (elim p [ inl less ↦ inl less | inr tie ↦ inr (tie.0, n.1 tie.1) ]),
    )

-- a number that fits is read back as itself
pub read : (z w : ℤ) → mag z < 170141183460469231731687303715884105728 → z ≡ w → to_z w128 (of_z w128 z) ≡ w
read z w h e = reads_back z h ∙ e

by_lt : (a b : ℕ) → IsTrue (nat_lt a b) ↔ (a < b)
by_lt a b = search (rules, tests)

pub by_number : (a b x y : ℕ) → a ≡ x → b ≡ y → IsTrue (nat_lt a b) ↔ (x < y)
by_number a b x y e f = subst (λ n. IsTrue (nat_lt a b) ↔ (x < n)) f (subst (λ n. IsTrue (nat_lt a b) ↔ (n < b)) e (by_lt a b))

pub not_so : (r : Bool) (X : Type 0) → (IsTrue r ↔ X) → r ≡ false → ¬ X
not_so r X h fails = λ x. false≢true (sym fails ∙ h.1 x)
