use Rattle.virtual_clock.proofs.TimeSteps.{times_nil}
use Rattle.virtual_clock.proofs.times.Times.open.Goals as goal

pub returns : goal.returns
returns c = rw (c.new.ensures, c.workers.ensures.value, c.policy.ensures.value, c.in_ok-open.ensures, c.in_ok-open-2.ensures, c.in_ok-open-3.ensures, c.tenants.ensures.value, c.tenants-2.ensures.value) (times_nil c.args.config.now)
