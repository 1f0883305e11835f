use Rattle.std.proofs.Common.{List, sym, ap, subst, false}
use Rattle.shared_order.specs.Heads.{HeadView}
use Rattle.shared_order.specs.Blocks.{all_heads}
use Rattle.shared_order.specs.Outlook.{IsOutlookOn}
use Rattle.shared_order.proofs.Smaller.{none_eligible}
use Rattle.shared_order.proofs.outlook.outlook.Goals as goal

pub returns-in_ok-head-in-None-clause-outlook : goal.returns-in_ok-head-in-None-clause-outlook
returns-in_ok-head-in-None-clause-outlook c =
    let t = c.head-in-None.inside.tenant in
    subst (λ (heads : List HeadView). IsOutlookOn c.args.turn heads c.args.weights.now c.args.below (record { tenant = t; is_eligible = false; has_smaller = false })) c.groups-groups.ensures.heads (none_eligible c.args.turn (all_heads c.groups-groups.result.now.used) c.args.weights.now c.args.below c.in_ok-head-in-None.head t (sym (ap (λ (h : HeadView). h.tenant) c.head-in-None.view_is)) c.in-None.ensures.none c.in_ok-head-in-None.ensures.soonest)
