use Rattle.std.proofs.Common.{subst, sym}
use Rattle.fq_model.specs.History.{history_of}
use Rattle.lag_report.specs.Courses.{NamesSubmitted}
use Rattle.lag_report.proofs.CoursesAre.{names_submitted}
use Rattle.lag_report.proofs.reporting.last_report.Goals as goal

pub read-requires : goal.read-requires
read-requires c = subst (λ es. NamesSubmitted (history_of es)) (sym c.as_slice.ensures.value) (names_submitted c.args.config.now (history_of c.args.past.items) c.requires.legal)
