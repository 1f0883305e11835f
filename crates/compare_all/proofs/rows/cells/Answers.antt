use Rattle.std.proofs.Common.{◌≤◌, arith}
use Rattle.std.proofs.lemmas.Nat.{mul-le}
use Rattle.fq_laws.proofs.Limits.{within_text}
use Rattle.compare_all.proofs.rows.cells.Goals as goal

pub overflow_mul-result : goal.overflow_mul-result
overflow_mul-result c =
    let text = within_text c.args.config.now c.tenants.ensures.limits c.requires.text in
    let tenants : c.tenants.result ≤ 4096 = omega (arith, c.tenants.ensures.value, text.tenants) in
    omega (arith, mul-le c.args.slots c.tenants.result 1000000000000001 4096 c.requires.slots tenants)
