use Rattle.std.proofs.Common.{◌≡◌, take}
use Rattle.journal_check.proofs.explaining.enter_all.Given as goal

abbrev pub invariant-loop-entry : goal.invariant-loop-entry
invariant-loop-entry g l = record {
  config_is : l.scheduler.config ≡ l.fn.scheduler.config;
  past_is : l.scheduler.past ≡ take l.entry-index l.entries;
}
