use Rattle.std.proofs.Common.{arith, ◌*◌, ◌+◌, ◌/◌, ◌≡◌, ◌≤◌, ap, sym, ◌∙◌}
use Rattle.std.proofs.lemmas.Nat.{div-mul-add}
use Rattle.std.proofs.Math.Nat.{div-le_of_le-mul, mul-le-mul_left, mul_comm}
use Rattle.lag_report.proofs.work.part.Goals as goal

-- a part is no more than all
low : (cost gone time : Rattle.std.proofs.Common.ℕ) → gone ≤ time → cost * gone / time ≤ cost
low cost gone time h = div-le_of_le-mul time (omega (arith, mul-le-mul_left {m = gone} {n = time} cost h))

pub overflow_cast-result : goal.overflow_cast-result
overflow_cast-result c = omega (arith, low c.args.cost c.args.gone c.args.time (omega (arith, c.requires.gone)), c.requires.cost)

pub returns-then-cost-time : goal.returns-then-cost-time
returns-then-cost-time c =
    let turned : c.args.cost * c.args.gone ≡ c.args.gone * c.args.time = mul_comm c.args.cost c.args.gone ∙ ap (λ n. c.args.gone * n) c.if-cost-time.true in
    let same : c.args.cost * c.args.gone ≡ c.args.gone * c.args.time + 0 = omega (arith, turned) in
    sym (ap (λ n. n / c.args.time) same ∙ div-mul-add c.args.gone c.args.time 0 (omega (arith, c.requires.gone)))
