use Rattle.std.proofs.Common.{◌≡◌}
use Rattle.journal_check.proofs.Judging.{IsJudged}
use Rattle.journal_check.proofs.checking.judge.Given as goal

abbrev pub invariant-loop-entry : goal.invariant-loop-entry
invariant-loop-entry g l = record {
  config_is : l.scheduler.config ≡ l.fn.scheduler.config;
  judged : IsJudged l.fn.scheduler.config l.entries l.entry-index l.scheduler.past;
}
