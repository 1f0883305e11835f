use Rattle.std.proofs.Common.{rules, arith, vec_capacity, refl, sym, ◌∙◌, ap}
use Rattle.shared_order.specs.Heads.{HeadView, lengths_of, with_length}
use Rattle.shared_order.proofs.InBlock.{shrunk, lengths_shrunk, shrunk_gains}
use Rattle.shared_order.proofs.Searching.{reads_length}
use Rattle.shared_order.proofs.Places.{found_at}
use Rattle.shared_order.proofs.block.Block.remove.Goals as goal

pub remove-requires : goal.remove-requires
remove-requires c =
    let f = found_at _ _ _ c.args.head c.place_of-at.result c.deref.ensures.value c.self.view_is c.self.invariant.sorted c.place_of-at.ensures c.requires in
    omega (arith, f.0)

pub lengths_without-self-inside-requires : goal.lengths_without-self-inside-requires
lengths_without-self-inside-requires c =
    let l = lengths_shrunk _ _ _ _ _ c.args.head c.place_of-at.result _ _ c.deref.ensures.value c.self.view_is c.remove.ensures.items c.deref-2.ensures.value c.self.invariant c.place_of-at.ensures c.requires in
    l ∙ ap (λ x. with_length (lengths_of c.deref-2.result.now) x) (sym (reads_length c.head.inside.len c.head.invariant.len_low c.head.invariant.len_high ∙ ap (λ (x : HeadView). x.len) c.head.view_is))

pub invariant_of-self : goal.invariant_of-self
invariant_of-self c =
    shrunk _ _ _ _ c.args.head c.place_of-at.result _ _ _ _ c.deref.ensures.value c.self.view_is c.remove.ensures.items c.self.invariant c.place_of-at.ensures c.requires (search rules) (c.lengths_without-self-inside.ensures ∙ ap lengths_of c.deref-2.ensures.value)

pub returns-clause-gains : goal.returns-clause-gains
returns-clause-gains c =
    shrunk_gains _ _ _ _ c.args.head c.place_of-at.result _ _ c.deref.ensures.value c.self.view_is c.remove.ensures.items c.self.invariant c.place_of-at.ensures c.requires

pub returns-clause-sorted : goal.returns-clause-sorted
returns-clause-sorted c =
    (shrunk _ _ _ _ c.args.head c.place_of-at.result _ (vec_capacity c.self.inside.heads) _ _ c.deref.ensures.value c.self.view_is c.remove.ensures.items c.self.invariant c.place_of-at.ensures c.requires (omega arith) refl).sorted
