use Rattle.std.proofs.Common.{◌∙◌, ap, arith}
use Rattle.shared_order.specs.Heads.{HeadView}
use Rattle.shared_order.proofs.Searching.{reads_finish, reads_length}
use Rattle.shared_order.proofs.Extents.{none_reached}
use Rattle.shared_order.proofs.search.may_reach.Goals as goal

pub returns-in-Some : goal.returns-in-Some
returns-in-Some c =
    let i = c.first.inside in
    let x = c.args.heads.now in
    none_reached c.args.turn x c.in-Some.first _ _ c.is_in_reach.result (omega arith) c.in-Some.is (reads_finish i.finish i.len c.first.invariant ∙ ap (λ (h : HeadView). h.finish) c.first.view_is) (reads_length x.longest c.requires.short.low c.requires.short.high) c.is_in_reach.ensures
