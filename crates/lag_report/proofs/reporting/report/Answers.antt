use Rattle.fq_model.specs.History.{history_of}
use Rattle.lag_report.proofs.CoursesAre.{names_submitted}
use Rattle.lag_report.proofs.reporting.report.Goals as goal

pub read-requires : goal.read-requires
read-requires c = names_submitted c.args.config.now (history_of c.args.past.now) c.requires.legal
