use Rattle.std.proofs.Common.{◌≡◌, ◌+◌, ◌∙◌, [], ◌∷◌, ◌++◌, take, ap, sym, to_z, of_z}
use mir.Syntax.{w128}
use Rattle.std.proofs.lemmas.List.{take_more}
use Rattle.shared_order.specs.Heads.{HeadView, lengths_of, with_length}
use Rattle.shared_order.proofs.Ends.{lengths-push}
use Rattle.shared_order.proofs.Searching.{reads_length}
use Rattle.shared_order.proofs.block.lengths_in.Goals as goal

pub loop-head-preserved : goal.loop-head-preserved
loop-head-preserved c =
    let heads = c.args.heads.now in
    let i = c.loop-head.head-index in
    let h = c.head-item.result in
    let more : take (i + 1) heads ≡ take i heads ++ h ∷ [] = take_more heads i h c.loop-head-test.true ∙ ap (λ (x : HeadView). take i heads ++ x ∷ []) (sym c.head-item.is) in
    let read = reads_length c.head.inside.len c.head.invariant.len_low c.head.invariant.len_high ∙ ap (λ (x : HeadView). x.len) c.head.view_is in
    c.with-lengths.ensures ∙ (ap (λ x. with_length x (to_z w128 (of_z w128 c.head.inside.len))) c.loop-head.invariant ∙ (ap (λ x. with_length (lengths_of (take i heads)) x) read ∙ (sym (lengths-push (take i heads) h) ∙ ap lengths_of (sym more))))
