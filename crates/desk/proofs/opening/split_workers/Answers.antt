use Rattle.std.proofs.Common.{◌≡◌, ◌+◌, ◌-◌, ◌∙◌, refl, arith, length-append}
use Rattle.desk.specs.declared.tokens.Worker.{Worker}
use Rattle.desk.proofs.Splitting.{split_on, new_pass, workers_more}
use Rattle.desk.proofs.opening.split_workers.Goals as goal

pub loop-worker-preserved : goal.loop-worker-preserved
loop-worker-preserved g c =
    let lock = c.args.lock.now in let w = c.loop-worker.worker in let inv = c.loop-worker.invariant in let s = c.split-pass.ensures in
    let k = lock.frame.submitters + w - 1 in
    let next : lock.frame.submitters + (w + 1) - 1 ≡ k + 1 = omega (arith, c.requires.some.0) in
    let up : lock.frame.submitters + w ≡ k + 1 = omega (arith, c.requires.some.0) in (
      split_on lock k _ c.loop-worker.zero c.split-pass.new.pass inv.0 s.lock s.number s.seen s.mine s.made s.ended next,
      rw c.push_reserved.ensures.items (workers_more lock 0 w c.loop-worker.tokens.items _ inv.1 (new_pass lock k _ c.loop-worker.zero c.split-pass.result inv.0 s.new_lock s.new_number s.new_seen s.new_mine up) refl (omega (arith, inv.2))),
      rw c.push_reserved.ensures.items (omega (arith, length-append {A = Worker}, inv.2)),
      c.push_reserved.ensures.capacity ∙ inv.3,
    )
