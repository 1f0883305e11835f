use Rattle.std.proofs.Common.{ℕ, zero, suc, ◌+◌, ◌*◌, Bool, true, false, ◌≡◌, ◌↔◌, sym, ◌∙◌, ap, subst, arith, ℤ, pos, negsuc, nat_abs, ◌-ℤ◌, ◌*ℤ◌, ◌≤ℤ◌, to_z, of_z, int_le, IsTrue}
use lib.Dec.{T}
use lib.Signed.{non_neg}
use mir.Syntax.{w128}
use mir.Val.{Fits}
use Rattle.std.proofs.lemmas.Int.{ints}
use Rattle.fq_model.specs.declared.config.Policy.{Policy}
use Rattle.fq_model.specs.declared.config.Policy.TheVariants.{Wfq, Wf2q, Msf2q, TwoDfq, TwoDfqPlus}
use Rattle.shared_order.specs.Reach.{Reaches}
use Rattle.shared_order.proofs.search.is_in_reach.Goals as goal

abbrev read : ℤ → ℤ
read z = to_z w128 (of_z w128 z)

read_short : (z : ℤ) → pos 0 ≤ℤ z → z ≤ℤ pos 20000000001048576000000000 → read z ≡ z
read_short z low high = omega (arith, ints, low, high)

late : (F V : ℤ) → int_le F V ≡ false → pos 0 ≤ℤ V → F ≤ℤ pos 20000000001048576000000000 → (pos 0 ≤ℤ (F -ℤ V)) × ((F -ℤ V) ≤ℤ pos 20000000001048576000000000)
late F V off begun high = (omega (arith, ints, off), omega (arith, ints, begun, high))

-- how far the finish is ahead of virtual time, as the code reckons it
ahead : (F V : ℤ) → read F ≡ F → read V ≡ V → int_le (read F) (read V) ≡ false → pos 0 ≤ℤ V → F ≤ℤ pos 20000000001048576000000000 → (read (read F -ℤ read V) ≡ F -ℤ V) × ((pos 0 ≤ℤ (F -ℤ V)) × ((F -ℤ V) ≤ℤ pos 20000000001048576000000000))
ahead F V f v off begun high =
    let both = late F V (ap (λ z. int_le z V) (sym f) ∙ (ap (int_le (read F)) (sym v) ∙ off)) begun high in
    (ap (λ z. read (z -ℤ read V)) f ∙ (ap (λ z. read (F -ℤ z)) v ∙ read_short (F -ℤ V) both.0 both.1), both)

size_of : (z : ℤ) → pos 0 ≤ℤ z → pos (nat_abs z) ≡ z
size_of z low = omega (arith, ints, low)

reach_so : (r : Bool) (p : Policy) (i n : ℕ) (a b x y : ℤ) → a ≡ x → b ≡ y → (IsTrue r ↔ Reaches p i n a b) → (IsTrue r ↔ Reaches p i n x y)
reach_so r p i n a b x y e f h = subst (λ z. IsTrue r ↔ Reaches p i n x z) f (subst (λ z. IsTrue r ↔ Reaches p i n z b) e h)

-- a head that has finished is eligible
product : (n m : ℕ) (d : ℤ) → d ≤ℤ pos 0 → (pos n *ℤ d) ≤ℤ pos m
product n m (pos zero) h = omega (arith, ints)
product n m (pos (suc d)) h = absurd (omega (arith, ints, h))
product zero m (negsuc d) h = omega (arith, ints)
product (suc n) m (negsuc d) h = omega (arith, ints)

reached : (p : Policy) (i n : ℕ) (d L : ℤ) → d ≤ℤ pos 0 → pos 0 ≤ℤ L → Reaches p i n d L
reached Wfq i n d L h low = tt
reached Wf2q i n d L h low = omega (arith, ints, h, low)
reached Msf2q i n d L h low = omega (arith, ints, h, low)
reached TwoDfq i n d (pos m) h low = product n ((n + i) * m) d h
reached TwoDfqPlus i n d (pos m) h low = product n ((n + i) * m) d h
reached TwoDfq i n d (negsuc m) h low = absurd (omega (arith, ints, low))
reached TwoDfqPlus i n d (negsuc m) h low = absurd (omega (arith, ints, low))

early : (F V : ℤ) → read F ≡ F → read V ≡ V → int_le (read F) (read V) ≡ true → (F -ℤ V) ≤ℤ pos 0
early F V f v on = let le : int_le F V ≡ true = ap (λ z. int_le z V) (sym f) ∙ (ap (int_le (read F)) (sym v) ∙ on) in omega (arith, ints, le)

pub returns-else-finish-turn : goal.returns-else-finish-turn
returns-else-finish-turn c =
    let at = c.args.turn in let F = c.args.finish in let V = c.turn.inside.virtual_time in let r = c.requires.in_limits in
    let same : V ≡ at.virtual_time = ap (λ t. t.virtual_time) c.turn.view_is in
    let v : read V ≡ V = omega (arith, ints) in
    let x = ahead F V (read_short F r.finish_low r.finish_high) v c.if-finish-turn.false (subst (λ z. pos 0 ≤ℤ z) (sym same) c.requires.begun) r.finish_high in
    let long : read c.args.len ≡ c.args.len = omega (arith, ints, r.len_low, r.len_high) in
    reach_so c.reaches.result at.policy at.worker at.workers _ _ (F -ℤ at.virtual_time) c.args.len
    (ap (λ z. pos (nat_abs z)) x.0 ∙ (size_of (F -ℤ V) x.1.0 ∙ ap (λ z. F -ℤ z) same)) (ap (λ z. pos (nat_abs z)) long ∙ size_of c.args.len r.len_low) c.reaches.ensures

pub returns-then-finish-turn : goal.returns-then-finish-turn
returns-then-finish-turn c =
    let at = c.args.turn in let F = c.args.finish in let V = c.turn.inside.virtual_time in let r = c.requires.in_limits in
    let same : V ≡ at.virtual_time = ap (λ t. t.virtual_time) c.turn.view_is in
    let v : read V ≡ V = omega (arith, ints) in
    let done : (F -ℤ at.virtual_time) ≤ℤ pos 0 = subst (λ z. (F -ℤ z) ≤ℤ pos 0) same (early F V (read_short F r.finish_low r.finish_high) v c.if-finish-turn.true) in
    (λ _. reached at.policy at.worker at.workers (F -ℤ at.virtual_time) c.args.len done r.len_low, λ _. c.if-finish-turn.true)

pub reaches-requires-clause-near : goal.reaches-requires-clause-near
reaches-requires-clause-near c =
    let F = c.args.finish in let V = c.turn.inside.virtual_time in let r = c.requires.in_limits in
    let same : V ≡ c.args.turn.virtual_time = ap (λ t. t.virtual_time) c.turn.view_is in
    let v : read V ≡ V = omega (arith, ints) in
    let x = ahead F V (read_short F r.finish_low r.finish_high) v c.if-finish-turn.false (subst (λ z. pos 0 ≤ℤ z) (sym same) c.requires.begun) r.finish_high in
    subst (λ z. z ≤ℤ pos 20000000001048576000000000) (sym (ap (λ z. pos (nat_abs z)) x.0 ∙ size_of (F -ℤ V) x.1.0)) x.1.1

casts : (z : ℤ) → pos 0 ≤ℤ z → z ≤ℤ pos 20000000001048576000000000 → T (non_neg z) × Fits w128 (nat_abs z)
casts (pos n) low high = (tt, omega (arith, ints, high))
casts (negsuc n) low high = absurd (omega (arith, ints, low))

pub overflow_cast-finish : goal.overflow_cast-finish
overflow_cast-finish c =
    let F = c.args.finish in let V = c.turn.inside.virtual_time in let r = c.requires.in_limits in
    let same : V ≡ c.args.turn.virtual_time = ap (λ t. t.virtual_time) c.turn.view_is in
    let v : read V ≡ V = omega (arith, ints) in
    let x = ahead F V (read_short F r.finish_low r.finish_high) v c.if-finish-turn.false (subst (λ z. pos 0 ≤ℤ z) (sym same) c.requires.begun) r.finish_high in
    subst (λ z. T (non_neg z) × Fits w128 (nat_abs z)) (sym x.0) (casts (F -ℤ V) x.1.0 x.1.1)
