use Rattle.std.proofs.Common.{rules, ◌≡◌, ◌*◌, ◌<◌, ◌∙◌, length, slice_get, ap, subst, sym, FitsSigned, to_z, of_z, List, refl}
use mir.Syntax.{w128}
use Rattle.std.proofs.lemmas.Int.{to_z-of_z}
use Rattle.shared_order.specs.Heads.{HeadView, greatest_length, least_length, lengths_of}
use Rattle.shared_order.specs.declared.lengths.Lengths.{Lengths}
use Rattle.shared_order.specs.Blocks.{block_at}
use Rattle.shared_order.specs.Groups.{group_heads, AreAllLengths}
use Rattle.shared_order.proofs.Grouping.{begins, group_first}
use Rattle.shared_order.proofs.Numbers.{number_read}
use Rattle.shared_order.proofs.Rows.{read_block}
use Rattle.shared_order.proofs.groups.Groups.extent.Goals as goal

pub returns : goal.returns
returns c =
    let bs = c.args.self.now.used in
    let at = c.args.at in
    let used = ap (λ v. v.used) c.self.view_is in
    let within : at * 32 < length bs = begins (length bs) at c.requires.known in
    let block : c.index-used-at.result ≡ block_at bs (at * 32) = read_block bs c.used.result.now (at * 32) c.index-used-at.result c.index-used-at.result (c.used.ensures ∙ used) c.index-used-at.is refl within in
    let first : c.first.result ≡ slice_get (group_heads bs at) 0 = c.first.ensures ∙ (ap (λ (b : List HeadView). slice_get b 0) block ∙ sym (group_first bs at within c.requires.filled)) in
    let numbers : AreAllLengths bs c.self.inside.lengths.items = subst (λ (t : List (List HeadView)). AreAllLengths t c.self.inside.lengths.items) used c.self.invariant.all in
    let entry : c.index-lengths.result.now ≡ lengths_of (group_heads bs at) = number_read bs c.self.inside.lengths.items at c.index-lengths.result.now numbers c.requires.known c.index-lengths.ensures in
    let longest_fits : FitsSigned w128 c.index-lengths.result.now.longest = search rules in
    let shortest_fits : FitsSigned w128 c.index-lengths.result.now.shortest = search rules in
    let longest : to_z w128 (of_z w128 c.index-lengths.result.now.longest) ≡ greatest_length (group_heads bs at) = to_z-of_z w128 c.index-lengths.result.now.longest longest_fits ∙ ap (λ (x : Lengths). x.longest) entry in
    let shortest : to_z w128 (of_z w128 c.index-lengths.result.now.shortest) ≡ least_length (group_heads bs at) = to_z-of_z w128 c.index-lengths.result.now.shortest shortest_fits ∙ ap (λ (x : Lengths). x.shortest) entry in
    rw (first, longest, shortest) refl
