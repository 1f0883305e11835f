use Rattle.std.proofs.Common.{refl, sym, ap, ◌∙◌}
use Rattle.fq_model.specs.declared.event.Cause.{Cause}
use Rattle.fq_model.specs.declared.event.Reply.TheVariants as answer
use Rattle.sched_state.specs.Replies.{change_reply}
use Rattle.desk.specs.declared.asking.Ask.TheVariants as ask
use Rattle.desk.specs.declared.asking.DeskReply.TheVariants as replies
use Rattle.desk.proofs.Turned.{numbered_by, own_kept, numbered_kept, known_kept, answered, report_leaves, report_runs}
use Rattle.desk.proofs.calls.DeskOf+Floor+J+X.report.Goals as goal

pub invariant_of-running-clause-runs : goal.invariant_of-running-clause-runs
invariant_of-running-clause-runs g c =
    let w = c.args.running.now in report_runs g.J.Job.label_of c.args.self.now.lock w.pass c.change.new.pass c.args.moment w.worker c.args.used w.request _ c.requires w.numbered w.known w.runs c.change.ensures.turned

pub live_refusal-requires : goal.live_refusal-requires
live_refusal-requires g c =
    let w = c.args.running.now in
    let x = report_leaves g.J.Job.label_of c.args.self.now.lock w.pass c.change.new.pass c.args.moment w.worker c.args.used w.request c.change.result _ c.requires w.numbered w.known w.runs c.change.ensures.turned c.in-Err.is in
    x.0

pub invariant_of-running-clause-own : goal.invariant_of-running-clause-own
invariant_of-running-clause-own g c = own_kept g.J.Job.label_of c.args.self.now.lock.frame c.args.running.now.pass c.change.new.pass _ _ c.change.ensures.turned c.change.ensures.stays.number

pub change-requires-clause-own : goal.change-requires-clause-own
change-requires-clause-own g c = c.requires

pub change-requires-clause-allowed : goal.change-requires-clause-allowed
change-requires-clause-allowed g c = numbered_by g.J.Job.label_of c.args.self.now.lock c.args.running.now.pass c.args.running.now.worker c.requires c.args.running.now.numbered

pub invariant_of-running-clause-numbered : goal.invariant_of-running-clause-numbered
invariant_of-running-clause-numbered g c = let w = c.args.running.now in numbered_kept c.args.self.now.lock w.pass c.change.new.pass w.worker c.requires c.change.ensures.stays.own c.change.ensures.stays.number w.numbered

pub invariant_of-running-clause-known : goal.invariant_of-running-clause-known
invariant_of-running-clause-known g c = let w = c.args.running.now in known_kept c.args.self.now.lock w.pass c.change.new.pass w.worker c.requires c.change.ensures.stays.own w.known

pub returns-in-Ok-clause-stays : goal.returns-in-Ok-clause-stays
returns-in-Ok-clause-stays g c = c.change.ensures.stays

pub returns-in-Ok-clause-answers : goal.returns-in-Ok-clause-answers
returns-in-Ok-clause-answers g c = answered g.J.Job.label_of c.args.self.now.lock.frame c.args.running.now.pass c.change.new.pass (ask.Report c.args.moment c.args.running.now.worker c.args.used) (replies.Changed c.change.result) _ c.change.ensures.turned (ap change_reply c.in-Ok.is)

pub returns-in-Ok-clause-run : goal.returns-in-Ok-clause-run
returns-in-Ok-clause-run g c = record { worker = refl; request = refl; estimate = refl }

pub returns-in-Err-clause-stays : goal.returns-in-Err-clause-stays
returns-in-Err-clause-stays g c = c.change.ensures.stays

pub returns-in-Err-clause-answers : goal.returns-in-Err-clause-answers
returns-in-Err-clause-answers g c = answered g.J.Job.label_of c.args.self.now.lock.frame c.args.running.now.pass c.change.new.pass (ask.Report c.args.moment c.args.running.now.worker c.args.used) (replies.Changed c.change.result) _ c.change.ensures.turned (ap change_reply c.in-Err.is ∙ ap (λ (x : Cause). answer.Refused x) (sym c.live_refusal.ensures))

pub returns-in-Err-clause-run : goal.returns-in-Err-clause-run
returns-in-Err-clause-run g c = record { worker = refl; request = refl; estimate = refl }
