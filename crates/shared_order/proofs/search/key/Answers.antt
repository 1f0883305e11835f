use Rattle.std.proofs.Common.{ℕ, ◌<◌, ◌≡◌, ◌⊎◌, inl, inr, arith, refl, sym, ◌∙◌, ap, subst, ℤ, pos, negsuc, unsigned_abs, ◌+ℤ◌, ◌-ℤ◌, ◌≤ℤ◌, to_z, of_z, FitsSigned}
use mir.Syntax.{w128}
use Rattle.std.proofs.lemmas.Int.{ints, to_z-of_z}
use Rattle.vt_fixed.specs.Rounding.{part_of}
use Rattle.vt_fixed.proofs.Bounds.{part_le, abs_bound}
use Rattle.fq_model.specs.declared.config.Policy.{Policy}
use Rattle.fq_model.specs.declared.config.Policy.TheVariants.{TwoDfq, TwoDfqPlus}
use Rattle.fq_model.specs.Keys.{Turn, stagger}
use Rattle.shared_order.specs.Reach.{key_by_finish}
use Rattle.shared_order.proofs.Reach.{key_by_parts}
use Rattle.shared_order.proofs.search.key.Goals as goal

record Parts (finish len part : ℤ) : Type 0 where
  finish_low : pos 0 ≤ℤ finish
  finish_high : finish ≤ℤ pos 20000000001048576000000000
  len_low : pos 0 ≤ℤ len
  len_high : len ≤ℤ pos 1048576000000000
  part_low : pos 0 ≤ℤ part
  part_high : part ≤ℤ pos 1048576000000000

-- the difference as the code reckons it, each number read back
without_casts : (finish len part : ℤ) → Parts finish len part → (to_z w128 (of_z w128 (to_z w128 (of_z w128 finish) -ℤ to_z w128 (of_z w128 len))) -ℤ to_z w128 (of_z w128 part)) ≡ ((finish -ℤ len) -ℤ part)
without_casts finish len part p = omega (arith, ints, p.finish_low, p.finish_high, p.len_low, p.len_high, p.part_low, p.part_high)

small : (z : ℤ) → z ≤ℤ pos 30000000000000000000000000 → pos 0 ≤ℤ (z +ℤ pos 30000000000000000000000000) → FitsSigned w128 z
small (pos n) high low = record { sfits = omega (arith, ints, high) }
small (negsuc n) high low = record { sfits = omega (arith, ints, low) }

fits : (finish len part : ℤ) → Parts finish len part → FitsSigned w128 ((finish -ℤ len) -ℤ part)
fits finish len part p = small ((finish -ℤ len) -ℤ part) (omega (arith, ints, p.finish_high, p.len_low, p.part_low)) (omega (arith, ints, p.finish_low, p.len_high, p.part_high))

parts : (finish len part : ℤ) (i n : ℕ) → i < n → pos 0 ≤ℤ finish → finish ≤ℤ pos 20000000001048576000000000 → pos 0 ≤ℤ len → len ≤ℤ pos 1048576000000000 → part ≡ pos (part_of (unsigned_abs (to_z w128 (of_z w128 len))) i n) → Parts finish len part
parts finish len part i n lt low high len_low len_high is =
    let same : to_z w128 (of_z w128 len) ≡ len = omega (arith, ints, len_low, len_high) in
    let part_is : part ≡ pos (part_of (unsigned_abs len) i n) = rw same at is in
    record {
      finish_low = low;
      finish_high = high;
      len_low = len_low;
      len_high = len_high;
      part_low = omega (arith, ints, part_is);
      part_high = omega (arith, ints, part_is, part_le (unsigned_abs len) i n lt, abs_bound len 1048576000000000 len_low len_high);
    }

pub overflow_sub-result-in-TwoDfq-2 : goal.overflow_sub-result-in-TwoDfq-2
overflow_sub-result-in-TwoDfq-2 c =
    let p = parts c.args.finish c.args.len c.part.result c.turn.inside.worker c.turn.inside.workers c.turn.invariant c.requires.finish_low c.requires.finish_high c.requires.len_low c.requires.len_high c.part.ensures in
    subst (FitsSigned w128) (sym (without_casts c.args.finish c.args.len c.part.result p)) (fits c.args.finish c.args.len c.part.result p)

-- under 2dfq and 2dfq+
stagger_is : (p : Policy) (len : ℤ) (i n : ℕ) → (p ≡ TwoDfq) ⊎ (p ≡ TwoDfqPlus) → pos (part_of (unsigned_abs len) i n) ≡ stagger p len i n
stagger_is p len i n (inl e) = rw e refl
stagger_is p len i n (inr e) = rw e refl

staggered : (at : Turn) (finish len part : ℤ) → (at.policy ≡ TwoDfq) ⊎ (at.policy ≡ TwoDfqPlus) → at.worker < at.workers → pos 0 ≤ℤ len → part ≡ pos (part_of (unsigned_abs len) at.worker at.workers) → ((finish -ℤ len) -ℤ part) ≡ key_by_finish at finish len
staggered at finish len part policy lt low is =
    ap (λ z. (finish -ℤ len) -ℤ z) (is ∙ stagger_is at.policy len at.worker at.workers policy) ∙ key_by_parts at finish len lt low

pub returns-in-TwoDfq : goal.returns-in-TwoDfq
returns-in-TwoDfq c =
    let p = parts c.args.finish c.args.len c.part.result c.turn.inside.worker c.turn.inside.workers c.turn.invariant c.requires.finish_low c.requires.finish_high c.requires.len_low c.requires.len_high c.part.ensures in
    let same : to_z w128 (of_z w128 c.args.len) ≡ c.args.len = omega (arith, ints, c.requires.len_low, c.requires.len_high) in
    let part_is : c.part.result ≡ pos (part_of (unsigned_abs c.args.len) c.turn.inside.worker c.turn.inside.workers) = rw same at c.part.ensures in
    let plain = without_casts c.args.finish c.args.len c.part.result p in
    ap (λ z. to_z w128 (of_z w128 z)) plain ∙ (to_z-of_z w128 _ (fits c.args.finish c.args.len c.part.result p) ∙ rw (← c.turn.view_is) (staggered (record { policy = c.turn.inside.policy; workers = c.turn.inside.workers; worker = c.turn.inside.worker; virtual_time = c.turn.inside.virtual_time }) c.args.finish c.args.len c.part.result c.in-TwoDfq.is c.turn.invariant c.requires.len_low part_is))
