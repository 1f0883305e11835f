use Rattle.std.proofs.Common.{arith, ap, length, ◌∙◌, subst}
use Rattle.trace_runner.specs.declared.agenda.EventCall.TheVariants as what
use Rattle.trace_runner.specs.Agenda.{IsNext}
use Rattle.trace_reader.specs.Rows.{row_at}
use Rattle.trace_runner.specs.Staff.{new_work}
use Rattle.trace_runner.proofs.Events.{Stepped, report_stepped, done_stepped, submit_stepped, take_stepped, report_answered, done_answered, submit_answered, callers_few, due_low, rows_few, taken_small, change_is_ok, submit_is_ok, take_known, take_runs}
use Rattle.trace_runner.proofs.runner.step.Given as given
use Rattle.trace_runner.proofs.runner.step.Goals as goal
use Rattle.trace_runner.proofs.runner.step.Goals.{In-Report, In-Done, In-Submit, In-Take, After-worked, After-worked-in-Done, After-came, After-taken}

-- the next event, by its kind
next_report : (g : given.Over) (c : In-Report g) → IsNext c.args.agenda.now c.args.trace.now.rows (record { moment = c.args.event.moment; what = what.Report c.in-Report.worker c.in-Report.work })
next_report g c = subst (λ x. IsNext c.args.agenda.now c.args.trace.now.rows (record { moment = c.args.event.moment; what = x })) c.in-Report.is c.requires.next

next_done : (g : given.Over) (c : In-Done g) → IsNext c.args.agenda.now c.args.trace.now.rows (record { moment = c.args.event.moment; what = what.Done c.in-Done.worker c.in-Done.work })
next_done g c = subst (λ x. IsNext c.args.agenda.now c.args.trace.now.rows (record { moment = c.args.event.moment; what = x })) c.in-Done.is c.requires.next

next_submit : (g : given.Over) (c : In-Submit g) → IsNext c.args.agenda.now c.args.trace.now.rows (record { moment = c.args.event.moment; what = what.Submit c.in-Submit.row })
next_submit g c = subst (λ x. IsNext c.args.agenda.now c.args.trace.now.rows (record { moment = c.args.event.moment; what = x })) c.in-Submit.is c.requires.next

next_take : (g : given.Over) (c : In-Take g) → IsNext c.args.agenda.now c.args.trace.now.rows (record { moment = c.args.event.moment; what = what.Take c.in-Take.worker })
next_take g c = subst (λ x. IsNext c.args.agenda.now c.args.trace.now.rows (record { moment = c.args.event.moment; what = x })) c.in-Take.is c.requires.next

pub caller-requires-clause-callers : goal.caller-requires-clause-callers
caller-requires-clause-callers g c = callers_few _ _ _ _ c.requires.simulates

pub caller-requires-in-Done-clause-callers : goal.caller-requires-in-Done-clause-callers
caller-requires-in-Done-clause-callers g c = callers_few _ _ _ _ c.requires.simulates

pub caller-requires-in-Take-clause-callers : goal.caller-requires-in-Take-clause-callers
caller-requires-in-Take-clause-callers g c = callers_few _ _ _ _ c.requires.simulates

pub after_report-requires-clause-used : goal.after_report-requires-clause-used
after_report-requires-clause-used g c = due_low _ _ _ _ _ _ _ c.requires.simulates (next_report g (goal.at.after_report-requires-clause-used g c).In-Report)

pub came-requires-clause-few : goal.came-requires-clause-few
came-requires-clause-few g c = (rows_few _ _ _ _ _ _ c.requires.simulates (next_submit g (goal.at.came-requires-clause-few g c).In-Submit)).0

pub came-requires-clause-waiting : goal.came-requires-clause-waiting
came-requires-clause-waiting g c = (rows_few _ _ _ _ _ _ c.requires.simulates (next_submit g (goal.at.came-requires-clause-waiting g c).In-Submit)).1

pub unwrap-requires : goal.unwrap-requires
unwrap-requires g c = change_is_ok c.report.result (report_answered _ _ _ _ _ _ _ _ _ _ c.requires.simulates (next_report g (goal.at.unwrap-requires g c).In-Report) c.caller.ensures c.report.ensures.answers).0

pub unwrap-requires-in-Done : goal.unwrap-requires-in-Done
unwrap-requires-in-Done g c = change_is_ok c.done.result (done_answered _ _ _ _ _ _ _ _ _ _ c.requires.simulates (next_done g (goal.at.unwrap-requires-in-Done g c).In-Done) c.caller-in-Done.ensures c.done.ensures.answers).0

pub unwrap-requires-in-Submit : goal.unwrap-requires-in-Submit
unwrap-requires-in-Submit g c = submit_is_ok c.submit.result _ (submit_answered _ _ _ _ _ _ _ _ c.requires.simulates (next_submit g (goal.at.unwrap-requires-in-Submit g c).In-Submit) c.submit.ensures.answers).0

pub bounds-rows-request : goal.bounds-rows-request
bounds-rows-request g c = omega (arith, ap length c.rows.ensures, take_known _ _ _ _ _ _ _ _ _ _ _ c.requires.simulates (next_take g (goal.at.bounds-rows-request g c).In-Take) c.in-Run.ensures.answers)

pub taken-requires-clause-small : goal.taken-requires-clause-small
taken-requires-clause-small g c =
    let n = next_take g (goal.at.taken-requires-clause-small g c).In-Take in
    taken_small _ _ _ _ _ _ c.in-Run.request _ c.requires.simulates n (take_known _ _ _ _ _ _ _ _ _ _ _ c.requires.simulates n c.in-Run.ensures.answers) (c.new.ensures ∙ ap (λ rows. new_work c.args.event.moment (row_at rows c.in-Run.request).cost c.args.options.refresh) c.rows.ensures)

pub unreachable-requires : goal.unreachable-requires
unreachable-requires g c = let r = take_runs _ _ _ _ _ _ _ _ _ c.requires.simulates (next_take g (goal.at.unreachable-requires g c).In-Take) c.take.ensures.answers in c.in_default.not-Run _ _ _ r.3

reported_step : (g : given.Over) (c : After-worked g) → Stepped c.args.trace.now c.args.options c.args.scheduler.now c.report.new.self c.worked.new.self
reported_step g c = report_stepped _ _ _ _ _ _ _ _ _ _ _ _ c.requires.simulates (next_report g (goal.at.returns-in-Report-clause-simulates g c).In-Report) c.caller.ensures c.report.ensures.answers c.after_report.ensures c.worked.ensures

pub returns-in-Report-clause-simulates : goal.returns-in-Report-clause-simulates
returns-in-Report-clause-simulates g c = (reported_step g c).simulates

pub returns-in-Report-clause-grows : goal.returns-in-Report-clause-grows
returns-in-Report-clause-grows g c = (reported_step g c).grows

done_step : (g : given.Over) (c : After-worked-in-Done g) → Stepped c.args.trace.now c.args.options c.args.scheduler.now c.done.new.self c.worked-in-Done.new.self
done_step g c = done_stepped _ _ _ _ _ _ _ _ _ _ _ c.requires.simulates (next_done g (goal.at.returns-in-Done-clause-simulates g c).In-Done) c.caller-in-Done.ensures c.done.ensures.answers c.worked-in-Done.ensures

pub returns-in-Done-clause-simulates : goal.returns-in-Done-clause-simulates
returns-in-Done-clause-simulates g c = (done_step g c).simulates

pub returns-in-Done-clause-grows : goal.returns-in-Done-clause-grows
returns-in-Done-clause-grows g c = (done_step g c).grows

submit_step : (g : given.Over) (c : After-came g) → Stepped c.args.trace.now c.args.options c.args.scheduler.now c.submit.new.self c.came.new.self
submit_step g c = submit_stepped _ _ _ _ _ _ _ _ _ c.requires.simulates (next_submit g (goal.at.returns-in-Submit-clause-simulates g c).In-Submit) c.submit.ensures.answers c.came.ensures

pub returns-in-Submit-clause-simulates : goal.returns-in-Submit-clause-simulates
returns-in-Submit-clause-simulates g c = (submit_step g c).simulates

pub returns-in-Submit-clause-grows : goal.returns-in-Submit-clause-grows
returns-in-Submit-clause-grows g c = (submit_step g c).grows

take_step : (g : given.Over) (c : After-taken g) → Stepped c.args.trace.now c.args.options c.args.scheduler.now c.take.new.self c.taken.new.self
take_step g c = take_stepped _ _ _ _ _ _ _ _ _ c.in-Run.request c.in-Run.estimate c.in-Run.job _ c.requires.simulates (next_take g (goal.at.returns-in-Run-clause-simulates g c).In-Take) c.caller-in-Take.ensures c.in-Run.ensures.answers (c.new.ensures ∙ ap (λ rows. new_work c.args.event.moment (row_at rows c.in-Run.request).cost c.args.options.refresh) c.rows.ensures) c.taken.ensures

pub returns-in-Run-clause-simulates : goal.returns-in-Run-clause-simulates
returns-in-Run-clause-simulates g c = (take_step g c).simulates

pub returns-in-Run-clause-grows : goal.returns-in-Run-clause-grows
returns-in-Run-clause-grows g c = (take_step g c).grows
