use Rattle.std.proofs.Common.{◌≡◌, ◌≤◌, ◌<◌, subst, Some, arith}
use Rattle.std.specs.Prelude.{slice_get}
use Rattle.program_model.specs.declared.trace.TraceRow.{TraceRow}
use Rattle.trace_runner.specs.Staff.{work_moment}
use Rattle.trace_runner.proofs.Order.{timed_work, timed_row, all_later, read_row, read_same, past_rows}
use Rattle.trace_runner.proofs.agenda.Agenda.next_timed.Goals as goal

pub returns-in-Some-None : goal.returns-in-Some-None
returns-in-Some-None c = rw c.of_work.ensures (timed_work c.args.self.now c.args.rows.now c.in-Some-None.worker c.in-Some-None.work c.in-Some-None.ensures (λ row at. past_rows c.args.rows.now c.args.self.now.submitted row c.in-Some-None.ensures'.lookup.3 at))

pub returns-then-moment-row : goal.returns-then-moment-row
returns-then-moment-row c =
    let here : slice_get c.args.rows.now c.args.self.now.submitted ≡ Some c.in-Some-Some.row.now = read_row c.args.rows.now c.args.self.now.submitted c.in-Some-Some.row.now c.in-Some-Some.ensures'.lookup.3.0 c.in-Some-Some.ensures'.lookup.3.1 in
    let le : work_moment c.in-Some-Some.work ≤ c.in-Some-Some.row.now.moment = omega (arith, c.moment.ensures, c.if-moment-row.true) in
    rw c.of_work-then-moment-row.ensures (timed_work c.args.self.now c.args.rows.now c.in-Some-Some.worker c.in-Some-Some.work c.in-Some-Some.ensures
    (λ row at. subst (λ (r : TraceRow). work_moment c.in-Some-Some.work ≤ r.moment) (read_same c.args.rows.now c.args.self.now.submitted c.in-Some-Some.row.now row here at) le))

pub returns-else-moment-row : goal.returns-else-moment-row
returns-else-moment-row c =
    let here : slice_get c.args.rows.now c.args.self.now.submitted ≡ Some c.in-Some-Some.row.now = read_row c.args.rows.now c.args.self.now.submitted c.in-Some-Some.row.now c.in-Some-Some.ensures'.lookup.3.0 c.in-Some-Some.ensures'.lookup.3.1 in
    let lt : c.in-Some-Some.row.now.moment < work_moment c.in-Some-Some.work = omega (arith, c.moment.ensures, c.if-moment-row.false) in
    rw c.of_row-else-moment-row.ensures (timed_row c.args.self.now c.args.rows.now c.in-Some-Some.row.now here (all_later c.args.self.now.staff c.in-Some-Some.worker c.in-Some-Some.row.now.moment c.in-Some-Some.work c.in-Some-Some.ensures lt))
