use Rattle.std.proofs.Common.{sym, ◌∙◌, ◌≡◌, ap, subst, rules, to_z, of_z, FitsSigned}
use mir.Syntax.{w128}
use Rattle.shared_order.specs.Reach.{key_by_finish}
use Rattle.shared_order.specs.Heads.{HeadView}
use Rattle.shared_order.specs.Extents.{NoneIsSooner}
use Rattle.shared_order.proofs.Searching.{reads_finish, reads_length, not_less}
use Rattle.shared_order.proofs.Extents.{none_sooner, none_at_all}
use Rattle.shared_order.proofs.search.may_lead.Goals as goal

pub returns-in_default : goal.returns-in_default
returns-in_default c = λ _. none_at_all c.args.turn c.args.heads.now c.args.best.now c.in_default.is

pub returns-in-Some-best : goal.returns-in-Some-best
returns-in-Some-best c =
    let i = c.first.inside in
    let x = c.args.heads.now in
    let first = c.in-Some.first in
    let best = c.in-Some-best.best in
    let key_fits : FitsSigned w128 c.key.result = search rules in
    let best_fits : FitsSigned w128 best.key = search rules in
    let finish_is = reads_finish i.finish i.len c.first.invariant ∙ ap (λ (h : HeadView). h.finish) c.first.view_is in
    let by_first : c.key.result ≡ key_by_finish c.args.turn first.finish (to_z w128 (of_z w128 x.longest)) = c.key.ensures ∙ ap (λ z. key_by_finish c.args.turn z (to_z w128 (of_z w128 x.longest))) finish_is in
    let bound : c.key.result ≡ key_by_finish c.args.turn first.finish x.longest = by_first ∙ ap (key_by_finish c.args.turn first.finish) (reads_length x.longest c.requires.low c.requires.high) in
    λ fails. subst (λ o. NoneIsSooner c.args.turn o x) (sym c.in-Some-best.is) (none_sooner c.args.turn x best first c.key.result c.in-Some.is bound (not_less c.key.result best.key key_fits best_fits fails))
