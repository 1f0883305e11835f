use Rattle.std.proofs.Common.{◌≡◌, ◌+◌, ◌∙◌, refl, arith, length, length-append}
use Rattle.desk.specs.declared.tokens.Submitter.{Submitter}
use Rattle.desk.proofs.Splitting.{split_on, new_pass, submitters_more}
use Rattle.desk.proofs.opening.split_submitters.Goals as goal

pub loop-number-preserved : goal.loop-number-preserved
loop-number-preserved g c =
    let lock = c.args.lock.now in let inv = c.loop-number.invariant in let s = c.split-pass.ensures in
    let k = length c.loop-number.tokens.items in
    let longer : length c.push_reserved.new.self.items ≡ k + 1 = rw c.push_reserved.ensures.items (omega (arith, length-append {A = Submitter})) in (
      split_on lock k _ c.loop-number.zero c.split-pass.new.pass inv.0 s.lock s.number s.seen s.mine s.made s.ended longer,
      rw c.push_reserved.ensures.items (submitters_more lock 1 (k + 1) c.loop-number.tokens.items _ inv.1 (new_pass lock k (k + 1) c.loop-number.zero c.split-pass.result inv.0 s.new_lock s.new_number s.new_seen s.new_mine refl) (omega arith)),
      omega (arith, longer, inv.2),
      c.push_reserved.ensures.capacity ∙ inv.3,
    )
