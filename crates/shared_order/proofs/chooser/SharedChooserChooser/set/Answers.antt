use Rattle.std.proofs.Common.{◌<◌, ◌≤◌, sym, subst, ap, arith, length, IfSome, None, slice_set, length-set}
use Rattle.tag_rules.specs.Tables.{ChooserView, IsNewTo}
use Rattle.shared_order.specs.Mirrors.{Mirrors}
use Rattle.shared_order.proofs.Mirroring.{held_by, taken_out, has_room, new_to_heads, taken_in, differ_set}
use Rattle.shared_order.proofs.chooser.SharedChooserChooser.set.Goals as goal
use Rattle.shared_order.proofs.chooser.SharedChooserChooser.set.Goals.{After-take_out}

-- the table and the order when the old head is out
between : (c : After-take_out) → Mirrors (slice_set c.self.inside.table.items c.args.tenant None) c.take_out.new.order.heads
between c = taken_out c.self.inside.table.items c.self.inside.order.heads c.take_out.new.order.heads c.args.tenant c.index.result.now c.self.invariant.mirrors (omega (arith, c.requires.tenant, ap (λ (x : ChooserView). x.setting.tenants) c.self.view_is)) c.index.ensures c.take_out.ensures.heads

pub put_in-requires-clause-room : goal.put_in-requires-clause-room
put_in-requires-clause-room c =
    let within : c.args.tenant < length c.self.inside.table.items = omega (arith, c.requires.tenant, ap (λ (x : ChooserView). x.setting.tenants) c.self.view_is) in
    let room : length c.self.inside.table.items ≤ c.take_out.new.order.room = omega (arith, c.take_out.ensures.room, c.self.invariant.room) in
    has_room c.self.inside.table.items c.take_out.new.order.heads c.args.tenant c.args.keys c.take_out.new.order.room (between (goal.at.put_in-requires-clause-room c).After-take_out) within room

pub put_in-requires-clause-new_request : goal.put_in-requires-clause-new_request
put_in-requires-clause-new_request c =
    let within : c.args.tenant < length c.self.inside.table.items = omega (arith, c.requires.tenant, ap (λ (x : ChooserView). x.setting.tenants) c.self.view_is) in
    let new : IfSome c.args.keys (IsNewTo c.self.inside.table.items c.args.tenant) = subst (λ (x : ChooserView). IfSome c.args.keys (IsNewTo x.table c.args.tenant)) (sym c.self.view_is) c.requires.new_request in
    new_to_heads c.self.inside.table.items c.take_out.new.order.heads c.args.tenant c.args.keys (between (goal.at.put_in-requires-clause-new_request c).After-take_out) within new

pub invariant_of-self : goal.invariant_of-self
invariant_of-self c =
    let table = c.self.inside.table.items in
    let within : c.args.tenant < length table = omega (arith, c.requires.tenant, ap (λ (x : ChooserView). x.setting.tenants) c.self.view_is) in
    let new : IfSome c.args.keys (IsNewTo table c.args.tenant) = subst (λ (x : ChooserView). IfSome c.args.keys (IsNewTo x.table c.args.tenant)) (sym c.self.view_is) c.requires.new_request in
    record {
      differ = differ_set table c.args.tenant c.args.keys within c.self.invariant.differ new;
      mirrors = taken_in table c.take_out.new.order.heads c.put_in.new.order.heads c.args.tenant c.args.keys (between (goal.at.invariant_of-self c).After-take_out) within c.put_in.ensures.in_range c.put_in.ensures.heads;
      room = omega (arith, c.put_in.ensures.room, c.take_out.ensures.room, c.self.invariant.room, length-set table c.args.tenant c.args.keys);
      begun = c.self.invariant.begun;
    }

pub take_out-requires : goal.take_out-requires
take_out-requires c = held_by c.self.inside.table.items c.self.inside.order.heads c.args.tenant c.index.result.now c.self.invariant.mirrors (omega (arith, c.requires.tenant, ap (λ (x : ChooserView). x.setting.tenants) c.self.view_is)) c.index.ensures
