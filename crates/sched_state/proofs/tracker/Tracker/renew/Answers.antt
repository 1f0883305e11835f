use Rattle.std.proofs.Common.{sym, subst}
use Rattle.sched_state.specs.Keys.{ChooserIs}
use Rattle.sched_state.proofs.KeyLemmas.{keys_are_new, keys_set}
use Rattle.sched_state.proofs.tracker.Tracker.renew.Goals as goal

pub set-requires-clause-new_request : goal.set-requires-clause-new_request
set-requires-clause-new_request g c =
    let k = c.requires.tracks in
    keys_are_new c.args.config.now c.requires.past c.args.tenant (g.X.Chooser.seen c.args.self.now.chooser) c.keys_of-keys.result k.mirrors.legal k.tenant_known k.chooser_is (c.keys_of-keys.ensures c.requires.past k.mirrors)

pub returns-clause-tracked : goal.returns-clause-tracked
returns-clause-tracked g c = λ P k.
    let m = k.mirrors in
    record {
      mirrors = record { limits = m.limits; legal = m.legal; lists_are = m.lists_are; book_is = m.book_is; accounts_are = m.accounts_are; costs_are = m.costs_are; times_are = m.times_are };
      chooser_is = subst (ChooserIs c.args.config.now P) (sym c.set.ensures) (keys_set c.args.config.now P c.args.tenant (g.X.Chooser.seen c.args.self.now.chooser) c.keys_of-keys.result m.legal k.tenant_known k.chooser_is (c.keys_of-keys.ensures P m));
    }
