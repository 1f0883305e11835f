use Rattle.std.proofs.Common.{rules, ap, ◌≡◌, ◌∙◌, refl, sym, take, drop}
use Rattle.std.specs.List.{insert}
use Rattle.std.proofs.lemmas.List.{take-append-drop}
use Rattle.shared_order.specs.Heads.{HeadView, with_length}
use Rattle.shared_order.proofs.InBlock.{grown_at}
use Rattle.shared_order.proofs.Searching.{reads_length}
use Rattle.shared_order.proofs.block.Block.insert.Goals as goal

pub invariant_of-self : goal.invariant_of-self
invariant_of-self c =
    let items : c.insert.new.self.items ≡ insert c.self.inside.heads.items c.place_of-at.result c.args.head = search rules in
    grown_at _ _ _ _ c.args.head c.place_of-at.result _ _ _ _ c.deref.ensures.value c.self.view_is items c.self.invariant c.place_of-at.ensures c.requires.new_request c.requires.room c.insert.ensures.capacity (c.with-self-inside.ensures ∙ ap (λ x. with_length c.self.inside.lengths x) (reads_length c.head.inside.len c.head.invariant.len_low c.head.invariant.len_high ∙ ap (λ (x : HeadView). x.len) c.head.view_is))

pub returns-clause-sorted : goal.returns-clause-sorted
returns-clause-sorted c =
    let items : c.insert.new.self.items ≡ insert c.self.inside.heads.items c.place_of-at.result c.args.head = search rules in
    (grown_at _ _ _ _ c.args.head c.place_of-at.result _ _ _ _ c.deref.ensures.value c.self.view_is items c.self.invariant c.place_of-at.ensures c.requires.new_request c.requires.room c.insert.ensures.capacity refl).sorted

pub returns-clause-gains : goal.returns-clause-gains
returns-clause-gains c =
    let items : c.insert.new.self.items ≡ insert c.self.inside.heads.items c.place_of-at.result c.args.head = search rules in
    record {
      front = take c.place_of-at.result c.self.inside.heads.items;
      back = drop c.place_of-at.result c.self.inside.heads.items;
      before = sym (take-append-drop c.place_of-at.result c.self.inside.heads.items ∙ c.self.view_is);
      after = items;
    }
