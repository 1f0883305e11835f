use Rattle.tag_rules.specs.Passes.{GoesIn, BeforeIn}
use Rattle.tag_rules.proofs.Comparing.{not_so}
use Rattle.tag_rules.proofs.Scanning.{order_in, takes_new, takes_old, takes_none}
use Rattle.tag_rules.proofs.scan.with_next.Goals as goal
use Rattle.tag_rules.proofs.scan.with_next.Goals.{else-comes_first-via-then-comes_first+else-takes, else-comes_first-via-else-comes_first}

pub returns-then-takes : goal.returns-then-takes
returns-then-takes c = takes_new (GoesIn c.args.pass c.args.turn) (BeforeIn c.args.pass c.args.turn) c.args.first c.args.next (order_in c.args.pass c.args.turn) (c.takes.ensures.0 c.if-takes.true) (c.comes_first.ensures.0 c.if-comes_first.true)

pub returns-else-comes_first : goal.returns-else-comes_first
returns-else-comes_first c = elim c.else-comes_first.branch [
  | else-comes_first-via-then-comes_first+else-takes w ↦ takes_none (GoesIn c.args.pass c.args.turn) (BeforeIn c.args.pass c.args.turn) c.args.first c.args.next (not_so _ _ w.takes.ensures w.if-takes.false)
  | else-comes_first-via-else-comes_first w ↦ takes_old (GoesIn c.args.pass c.args.turn) (BeforeIn c.args.pass c.args.turn) c.args.first c.args.next (order_in c.args.pass c.args.turn) (not_so _ _ c.comes_first.ensures w.if-comes_first.false)
]
