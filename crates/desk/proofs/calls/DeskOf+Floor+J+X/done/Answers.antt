use Rattle.std.proofs.Common.{refl, sym, ap, ◌∙◌}
use Rattle.fq_model.specs.declared.event.Cause.{Cause}
use Rattle.fq_model.specs.declared.event.Reply.TheVariants as answer
use Rattle.sched_state.specs.Replies.{change_reply}
use Rattle.desk.specs.declared.asking.Ask.TheVariants as ask
use Rattle.desk.specs.declared.asking.DeskReply.TheVariants as replies
use Rattle.desk.proofs.Turned.{numbered_by, own_kept, numbered_kept, known_kept, answered, done_leaves}
use Rattle.desk.proofs.calls.DeskOf+Floor+J+X.done.Goals as goal

pub invariant_of-result-clause-free : goal.invariant_of-result-clause-free
invariant_of-result-clause-free g c =
    let w = c.args.running in
    done_leaves g.J.Job.label_of c.args.self.now.lock w.pass c.change.new.pass c.args.moment w.worker c.args.cost w.request c.change.result _ c.requires w.numbered w.known w.runs c.change.ensures.turned c.in-Ok.is

pub done_refusal-requires : goal.done_refusal-requires
done_refusal-requires g c =
    let w = c.args.running in
    let x = done_leaves g.J.Job.label_of c.args.self.now.lock w.pass c.change.new.pass c.args.moment w.worker c.args.cost w.request c.change.result _ c.requires w.numbered w.known w.runs c.change.ensures.turned c.in-Err.is in
    x.0

pub invariant_of-running-clause-runs : goal.invariant_of-running-clause-runs
invariant_of-running-clause-runs g c =
    let w = c.args.running in
    let x = done_leaves g.J.Job.label_of c.args.self.now.lock w.pass c.change.new.pass c.args.moment w.worker c.args.cost w.request c.change.result _ c.requires w.numbered w.known w.runs c.change.ensures.turned c.in-Err.is in
    x.1

pub invariant_of-result-clause-own : goal.invariant_of-result-clause-own
invariant_of-result-clause-own g c = own_kept g.J.Job.label_of c.args.self.now.lock.frame c.args.running.pass c.change.new.pass _ _ c.change.ensures.turned c.change.ensures.stays.number

pub invariant_of-running-clause-own : goal.invariant_of-running-clause-own
invariant_of-running-clause-own g c = own_kept g.J.Job.label_of c.args.self.now.lock.frame c.args.running.pass c.change.new.pass _ _ c.change.ensures.turned c.change.ensures.stays.number

pub change-requires-clause-own : goal.change-requires-clause-own
change-requires-clause-own g c = c.requires

pub change-requires-clause-allowed : goal.change-requires-clause-allowed
change-requires-clause-allowed g c = numbered_by g.J.Job.label_of c.args.self.now.lock c.args.running.pass c.args.running.worker c.requires c.args.running.numbered

pub invariant_of-result-clause-numbered : goal.invariant_of-result-clause-numbered
invariant_of-result-clause-numbered g c = let w = c.args.running in numbered_kept c.args.self.now.lock w.pass c.change.new.pass w.worker c.requires c.change.ensures.stays.own c.change.ensures.stays.number w.numbered

pub invariant_of-result-clause-known : goal.invariant_of-result-clause-known
invariant_of-result-clause-known g c = let w = c.args.running in known_kept c.args.self.now.lock w.pass c.change.new.pass w.worker c.requires c.change.ensures.stays.own w.known

pub invariant_of-running-clause-numbered : goal.invariant_of-running-clause-numbered
invariant_of-running-clause-numbered g c = let w = c.args.running in numbered_kept c.args.self.now.lock w.pass c.change.new.pass w.worker c.requires c.change.ensures.stays.own c.change.ensures.stays.number w.numbered

pub invariant_of-running-clause-known : goal.invariant_of-running-clause-known
invariant_of-running-clause-known g c = let w = c.args.running in known_kept c.args.self.now.lock w.pass c.change.new.pass w.worker c.requires c.change.ensures.stays.own w.known

pub returns-in-Ok-clause-stays : goal.returns-in-Ok-clause-stays
returns-in-Ok-clause-stays g c = c.change.ensures.stays

pub returns-in-Ok-clause-answers : goal.returns-in-Ok-clause-answers
returns-in-Ok-clause-answers g c = answered g.J.Job.label_of c.args.self.now.lock.frame c.args.running.pass c.change.new.pass (ask.Done c.args.moment c.args.running.worker c.args.cost) (replies.Changed c.change.result) _ c.change.ensures.turned (ap change_reply c.in-Ok.is)

pub returns-in-Err-clause-stays : goal.returns-in-Err-clause-stays
returns-in-Err-clause-stays g c = c.change.ensures.stays

pub returns-in-Err-clause-answers : goal.returns-in-Err-clause-answers
returns-in-Err-clause-answers g c = answered g.J.Job.label_of c.args.self.now.lock.frame c.args.running.pass c.change.new.pass (ask.Done c.args.moment c.args.running.worker c.args.cost) (replies.Changed c.change.result) _ c.change.ensures.turned (ap change_reply c.in-Err.is ∙ ap (λ (x : Cause). answer.Refused x) (sym c.done_refusal.ensures))

pub returns-in-Err-clause-token : goal.returns-in-Err-clause-token
returns-in-Err-clause-token g c = record { worker = refl; request = refl; estimate = refl }
