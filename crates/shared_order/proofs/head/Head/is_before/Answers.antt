use Rattle.std.proofs.Common.{◌≡◌, ◌∙◌, true, false, inl, inr, sym, ap, arith, ℤ, ◌-ℤ◌, ◌<ℤ◌, to_z, of_z, int_lt}
use mir.Syntax.{w128}
use Rattle.std.proofs.lemmas.Int.{ints}
use Rattle.std.proofs.lemmas.Bool.{lt-ltb, ltb-true, eqb-true}
use Rattle.tag_rules.specs.Keys.{IsInRange}
use Rattle.shared_order.proofs.head.Head.is_before.Goals as goal

-- the finishes as the code reads them
read : (F L : ℤ) → IsInRange (F -ℤ L) L → to_z w128 (of_z w128 F) ≡ F
read F L r = omega (arith, ints, r.start_low, r.start_high, r.len_low, r.len_high)

pub returns-then-self-other : goal.returns-then-self-other
returns-then-self-other c =
    let i = c.self.inside in let o = c.other.inside in
    let test : int_lt i.finish o.finish ≡ true = rw (← read i.finish i.len c.self.invariant, ← read o.finish o.len c.other.invariant) c.if-self-other.true in
    let less : i.finish <ℤ o.finish = omega (arith, ints, test) in
    rw (← c.self.view_is, ← c.other.view_is) (λ _. inl less, λ _. c.if-self-other.true)

not_less : (F G : ℤ) → int_lt F G ≡ false → F <ℤ G → ⊥
not_less F G off less = omega (arith, ints, off, less)

pub returns-then-self-other-2 : goal.returns-then-self-other-2
returns-then-self-other-2 c =
    let i = c.self.inside in let o = c.other.inside in
    let same : i.finish ≡ o.finish = sym (read i.finish i.len c.self.invariant) ∙ (ap (to_z w128) c.if-self-other-2.true ∙ read o.finish o.len c.other.invariant) in
    let off : int_lt i.finish o.finish ≡ false = rw (← read i.finish i.len c.self.invariant, ← read o.finish o.len c.other.invariant) c.if-self-other.false in
    rw (← c.self.view_is, ← c.other.view_is)
    (λ t. inr (same, ltb-true i.request o.request t), λ b. elim b [ inl less ↦ absurd (not_less i.finish o.finish off less) | inr x ↦ lt-ltb i.request o.request x.1 ])

pub returns-else-self-other-2 : goal.returns-else-self-other-2
returns-else-self-other-2 c =
    let i = c.self.inside in let o = c.other.inside in
    let off : int_lt i.finish o.finish ≡ false = rw (← read i.finish i.len c.self.invariant, ← read o.finish o.len c.other.invariant) c.if-self-other.false in
    rw (← c.self.view_is, ← c.other.view_is)
    (λ t. absurd (c.if-self-other-2.false (eqb-true _ _ t)), λ b. elim b [ inl less ↦ absurd (not_less i.finish o.finish off less) | inr x ↦ absurd (c.if-self-other-2.false (ap (of_z w128) x.0)) ])
