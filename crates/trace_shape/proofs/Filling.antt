-- The moment at which the tokens of a request are there, and the bucket that the request leaves.
use Rattle.std.proofs.Common.{ℕ, ◌+◌, ◌-◌, ◌*◌, ◌<◌, ◌≤◌, ◌≡◌, min, max, arith, refl, ap, sym, ◌∙◌, subst, inl, inr}
use Rattle.std.specs.Int.{div_ceil}
use Rattle.std.proofs.lemmas.Bool.{cases_lt}
use Rattle.std.proofs.lemmas.Grind.{div_ceil_times}
use Rattle.std.proofs.Math.Nat.{mul-le-mul_left, mul-add}
use Rattle.program_model.specs.declared.trace.TraceRow.{TraceRow}
use Rattle.trace_shape.specs.declared.bucket.Bucket.{Bucket}
use Rattle.trace_shape.specs.Buckets.{moment_in, taken}

-- the gains from a to b and from b to n are together the gain from a to n
pub gained_between : (g a b n : ℕ) → a ≤ b → b ≤ n → g * (b - a) + g * (n - b) ≡ g * (n - a)
gained_between g a b n early late =
    let parts : (b - a) + (n - b) ≡ n - a = omega arith in
    sym (mul-add g (b - a) (n - b)) ∙ ap (λ w. g * w) parts

-- more is gained from a to n than from b to n
pub gained_more : (g a b n : ℕ) → a ≤ b → g * (n - b) ≤ g * (n - a)
gained_more g a b n early = mul-le-mul_left g (omega arith)

-- the least number of steps in which the needed tokens are gained
steps_serve : (g need : ℕ) → 0 < g → need ≤ g * div_ceil need g
steps_serve g need some = omega (arith, (div_ceil_times need g some).0)

steps_least : (g need w : ℕ) → 0 < g → need ≤ g * w → div_ceil need g ≤ w
steps_least g need w some serves = elim (cases_lt w (div_ceil need g)) [
  | inl over ↦ absurd (omega (arith, (div_ceil_times need g some).1, mul-le-mul_left g (let more : w + 1 ≤ div_ceil need g = omega (arith, over) in more), mul-add g w 1, serves))
  | inr low ↦ low
]

-- the bucket before and after a row takes its tokens
pub record Takes (gain capacity : ℕ) (before : Bucket) (row : TraceRow) (after : Bucket) : Type 0 where
  pub not_early : row.moment ≤ after.moment
  pub in_order : before.moment ≤ after.moment
  pub enough : 1000 * row.declared ≤ before.level + gain * (after.moment - before.moment)
  pub least : (n : ℕ) → row.moment ≤ n → before.moment ≤ n → 1000 * row.declared ≤ before.level + gain * (n - before.moment) → after.moment ≤ n
  pub level : after.level ≡ min capacity (before.level + gain * (after.moment - before.moment)) - 1000 * row.declared

pub takes : (gain capacity : ℕ) (bucket : Bucket) (row : TraceRow) → 1 ≤ gain → Takes gain capacity bucket row (taken gain capacity bucket row)
unfolding taken
takes gain capacity bucket row some =
    let need : ℕ = 1000 * row.declared - bucket.level in
    let serve : need ≤ gain * div_ceil need gain = steps_serve gain need (omega arith) in
    let waited : div_ceil need gain ≤ moment_in gain bucket row - bucket.moment = omega arith in
    record {
      not_early = omega arith;
      in_order = omega arith;
      enough = omega (arith, serve, mul-le-mul_left gain waited);
      least = λ n late after there. omega (arith, late, after, steps_least gain need (n - bucket.moment) (omega arith) (omega (arith, there)));
      level = refl;
    }

-- the tokens of the row are there at that moment
pub enough_then : (gain capacity : ℕ) (bucket : Bucket) (row : TraceRow) (short wait moment level : ℕ) → 1 ≤ gain → 1000 * row.declared ≤ capacity → short ≡ 1000 * row.declared - bucket.level → wait ≡ div_ceil short gain
    → moment ≡ max row.moment (bucket.moment + wait) → level ≡ min (bucket.level + gain * (moment - bucket.moment)) capacity → 1000 * row.declared ≤ level
unfolding taken
enough_then gain capacity bucket row short wait moment level some fits short_is wait_is moment_is level_is =
    let at_first : moment ≡ moment_in gain bucket row = moment_is ∙ ap (λ w. max row.moment (bucket.moment + w)) (wait_is ∙ ap (λ s. div_ceil s gain) short_is) in
    omega (arith, level_is, fits, subst (λ m. 1000 * row.declared ≤ bucket.level + gain * (m - bucket.moment)) (sym at_first) (takes gain capacity bucket row some).enough)
