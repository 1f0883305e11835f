use Rattle.sched_state.proofs.CallLemmas.{has_room}
use Rattle.sched_state.proofs.scheduler.enter.Goals as goal

pub push-requires : goal.push-requires
push-requires g c = has_room c.args.journal.now c.enter.new.self (g.S.Store.seen c.args.store.now) c.args.entry c.requires.stored c.enter.ensures.journal c.enter.ensures.within
