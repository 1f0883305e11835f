use Rattle.std.proofs.Common.{sym, ◌∙◌}
use Rattle.lag_report.proofs.Gains.{whole, none, part}
use Rattle.lag_report.proofs.work.worked.Goals as goal

pub returns-then-course-moment : goal.returns-then-course-moment
returns-then-course-moment c = sym (whole c.args.course.taken c.args.course.ended c.args.course.cost c.args.moment c.if-course-moment.true)

pub returns-then-moment-course : goal.returns-then-moment-course
returns-then-moment-course c = sym (none c.args.course.taken c.args.course.ended c.args.course.cost c.args.moment c.if-course-moment.false c.if-moment-course.true)

pub returns-else-moment-course : goal.returns-else-moment-course
returns-else-moment-course c = c.part.ensures ∙ sym (part c.args.course.taken c.args.course.ended c.args.course.cost c.args.moment c.if-course-moment.false c.if-moment-course.false)
