use Rattle.std.proofs.Common.{◌∙◌, take}
use Rattle.std.proofs.lemmas.Result.{IfOk-weaker}
use Rattle.fq_model.specs.History.{history_of}
use Rattle.program_model.specs.Document.{config_of}
use Rattle.journal_check.proofs.Turns.{legal_first, taken_legal, legal_here, turn_here, explained_is, tenants_known}
use Rattle.journal_check.proofs.explaining.explain_at.Goals as goal

pub scheduler_after-requires : goal.scheduler_after-requires
scheduler_after-requires g c = rw (c.config.ensures, c.body.ensures) (legal_first (config_of c.args.journal.now) c.args.journal.now.body c.args.taken.place c.requires.legal)

pub turn_of-explained-requires-clause-legal : goal.turn_of-explained-requires-clause-legal
turn_of-explained-requires-clause-legal g c =
    let C = config_of c.args.journal.now in
    let body = c.args.journal.now.body in
    let s = c.in_ok-scheduler.scheduler in
    legal_here C s.config body c.body.result.now s.past c.args.taken.place (c.in_ok-scheduler.ensures.config ∙ c.config.ensures) c.body.ensures c.in_ok-scheduler.ensures.past
    c.args.taken.entry (taken_legal C body c.args.request c.args.taken c.requires.taken c.requires.legal)

pub returns-clause-explained : goal.returns-clause-explained
returns-clause-explained g c =
    let C = config_of c.args.journal.now in
    let body = c.args.journal.now.body in
    let s = c.in_ok-scheduler.scheduler in
    let taken = c.args.taken in
    IfOk-weaker c.turn_of-explained.result _ _ (λ x turn. explained_is C body c.args.request taken c.requires.taken x
    (turn_here C s.config body c.body.result.now s.past taken.place (c.in_ok-scheduler.ensures.config ∙ c.config.ensures) c.body.ensures c.in_ok-scheduler.ensures.past taken.entry.moment taken.worker x turn)) c.turn_of-explained.ensures

pub returns-clause-known : goal.returns-clause-known
returns-clause-known g c =
    let C = config_of c.args.journal.now in
    let body = c.args.journal.now.body in
    let s = c.in_ok-scheduler.scheduler in
    let taken = c.args.taken in
    IfOk-weaker c.turn_of-explained.result _ _ (λ x turn. tenants_known C (history_of (take taken.place body)) taken.entry.moment taken.worker x
    (turn_here C s.config body c.body.result.now s.past taken.place (c.in_ok-scheduler.ensures.config ∙ c.config.ensures) c.body.ensures c.in_ok-scheduler.ensures.past taken.entry.moment taken.worker x turn)) c.turn_of-explained.ensures
