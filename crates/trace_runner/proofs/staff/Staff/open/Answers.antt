use Rattle.std.proofs.Common.{◌≡◌, ◌∙◌, None, Some, ap, arith, length, replicate, rules}
use Rattle.std.proofs.lemmas.List.{length-replicate}
use Rattle.trace_runner.proofs.Trees.{opened_staff, all_idle, no_key}
use Rattle.trace_runner.proofs.staff.Staff.open.Goals as goal

pub invariant_of-result : goal.invariant_of-result
invariant_of-result c =
    let works : c.in_ok-works.works.items ≡ replicate c.args.workers None = search rules in
    let busy : c.in_ok-busy.busy ≡ replicate c.args.workers None = search rules in
    let all : c.loop-worker.idle ≡ replicate c.args.workers (Some no_key) = all_idle c.args.workers c.loop-worker.idle c.loop-worker.invariant.len (λ j l. c.loop-worker.invariant.idle j (omega (arith, c.loop-worker-test.false))) in
    rw (works, busy) (opened_staff c.args.workers c.loop-worker.idle all)

pub loop-worker-init : goal.loop-worker-init
loop-worker-init c = record { len = ap length c.in_ok-idle.ensures ∙ length-replicate c.args.workers None; idle = λ j low. absurd (omega (arith, low)) }
