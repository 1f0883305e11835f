use Rattle.std.proofs.Common.{◌≢◌, sym, ◌∙◌, ap, subst}
use Rattle.std.specs.List.{All}
use Rattle.shared_order.specs.Heads.{Gains}
use Rattle.shared_order.specs.Blocks.{all_heads}
use Rattle.shared_order.proofs.Changes.{joins_gains, joins_keep, block_requests}
use Rattle.shared_order.proofs.order.Order.insert.Goals as goal

pub insert-requires-clause-new_request : goal.insert-requires-clause-new_request
insert-requires-clause-new_request c =
    let same = c.room_at-at.ensures.rearranged.heads ∙ ap (λ v. v.heads) c.self.view_is in
    let new = subst (All (λ h. h.request ≢ c.args.head.request)) (sym same) c.requires.new_request in
    block_requests (λ h. h.request ≢ c.args.head.request) c.room_at-at.new.blocks.used c.room_at-at.result c.room_at-at.ensures.place.known new

pub invariant_of-self-2 : goal.invariant_of-self-2
invariant_of-self-2 c = joins_keep c.room_at-at.new.blocks.used c.insert.new.self.used c.room_at-at.result c.args.head c.room_at-at.ensures.place c.room_at-at.ensures.rearranged.kept c.insert.ensures.used

pub returns-clause-gains : goal.returns-clause-gains
returns-clause-gains c =
    let same = c.room_at-at.ensures.rearranged.heads ∙ ap (λ v. v.heads) c.self.view_is in
    subst (λ l. Gains l c.args.head (all_heads c.insert.new.self.used)) same (joins_gains c.room_at-at.new.blocks.used c.insert.new.self.used c.room_at-at.result c.args.head c.room_at-at.ensures.place.known c.insert.ensures.used)
