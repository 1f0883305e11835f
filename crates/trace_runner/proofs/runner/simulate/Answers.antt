use Rattle.std.proofs.Common.{arith, ap, subst, sym, ◌≡◌, ◌≤◌, ◌∙◌, max}
use Rattle.fq_model.specs.declared.limits.TheConstants.{LEAST_ENTRIES, MOST_ENTRIES}
use Rattle.program_model.specs.Courses.{submitters, trace_config}
use Rattle.fq_model.specs.History.{history_of}
use Rattle.program_model.specs.Simulated.{needed_entries, IsSimulated}
use Rattle.sched_state.specs.Scheduler.{SchedulerView}
use Rattle.trace_runner.specs.Agenda.{IsNext, NothingNext, opened_agenda}
use Rattle.trace_runner.specs.Plan.{IsPlan}
use Rattle.trace_runner.proofs.Ending.{simulated, simulates_first, past_low}
use Rattle.trace_runner.proofs.runner.simulate.Goals as goal

pub events-init : goal.events-init
events-init g c =
    let few : needed_entries c.args.trace.now.rows c.args.options.refresh ≤ MOST_ENTRIES = omega (arith, c.needed-needed.ensures, c.if-needed.false) in
    let plan : IsPlan c.args.trace.now c.args.options = record { lawful = c.requires.lawful; options = c.requires.options; few = few } in
    let entries : c.max-entries.result ≡ max LEAST_ENTRIES (needed_entries c.args.trace.now.rows c.args.options.refresh) = omega (arith, c.max-entries.ensures, c.needed-needed.ensures) in
    simulates_first c.args.trace.now c.args.options c.in_ok-scheduler.scheduler c.in_ok-agenda.agenda plan
    (ap (λ (s : SchedulerView _). s.config) c.in_ok-scheduler.ensures ∙ (c.in_ok-config.ensures ∙ ap (λ n. trace_config c.args.trace.now c.args.options n) entries))
    (ap (λ (s : SchedulerView _). s.past) c.in_ok-scheduler.ensures)
    (c.in_ok-agenda.ensures.opened ∙ ap (opened_agenda c.args.options.workers) (c.submitters.ensures.count ∙ ap submitters c.rows.ensures))

pub events-smaller : goal.events-smaller
events-smaller g c = omega (arith, past_low c.args.trace.now c.args.options _ _ c.step.ensures.simulates, c.step.ensures.grows)

pub returns-clause-simulated : goal.returns-clause-simulated
returns-clause-simulated g c =
    let nothing : NothingNext c.events.agenda c.args.trace.now.rows = subst (NothingNext c.events.agenda) c.rows-in-events.ensures c.in_default.ensures in
    subst (λ past. IsSimulated c.args.trace.now c.args.options (history_of past)) (sym c.into_history.ensures.past)
    (simulated c.args.trace.now c.args.options c.events.scheduler _ c.events.agenda _ c.events.invariant nothing c.close.ensures.answers)

pub step-requires-clause-next : goal.step-requires-clause-next
step-requires-clause-next g c = subst (λ rows. IsNext c.events.agenda rows c.in-Some.event) c.rows-in-events.ensures c.in-Some.ensures

pub events-preserved : goal.events-preserved
events-preserved g c = c.step.ensures.simulates
