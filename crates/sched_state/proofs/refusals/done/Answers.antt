use Rattle.std.proofs.Common.{◌≡◌, ◌∙◌, arith, sym, ap}
use Rattle.fq_model.specs.declared.config.Config.{Config}
use Rattle.fq_model.specs.Rules.{done_refusal}
use Rattle.charge_book.specs.Book.{BookView, use_refusal}
use Rattle.charge_book.specs.Refusal.{cause_of}
use Rattle.charge_book.proofs.Refusals.{cause_if, use_refused}
use Rattle.sched_journal.specs.Journal.{history}
use Rattle.sched_state.proofs.RefusalLemmas.{told_cause}
use Rattle.sched_state.proofs.refusals.done.Given as given
use Rattle.sched_state.proofs.refusals.done.Goals as goal
use Rattle.sched_state.proofs.refusals.done.Goals.{After-row_for}

-- the definition and the book refuse for one cause
refused_so : (g : given.Over) (c : After-row_for g) → done_refusal c.args.journal.now.config (history c.args.journal.now) c.args.worker c.args.cost ≡ cause_if (use_refusal c.book.result.now c.args.worker c.args.cost)
refused_so g c =
    let m = c.requires.mirrors in
    use_refused c.args.journal.now.config (history c.args.journal.now) c.args.tracker.now.book c.args.worker c.args.cost m.legal m.book_is (omega (arith, c.if-worker-workers.false, c.workers.ensures.value, ap (λ (x : Config). x.workers) c.config.ensures.config)) ∙ ap (λ (b : BookView). cause_if (use_refusal b c.args.worker c.args.cost)) (sym c.book.ensures)

pub returns-in_err-row_for-clause-cause : goal.returns-in_err-row_for-clause-cause
returns-in_err-row_for-clause-cause g c = told_cause c.from_residual.result (cause_of c.in_err-row_for.field-0.0) _ c.from_residual.ensures.1 (refused_so g (goal.at.returns-in_err-row_for-clause-cause g c).After-row_for ∙ ap cause_if c.in_err-row_for.ensures.refused)

pub returns-clause-cause : goal.returns-clause-cause
returns-clause-cause g c = sym (refused_so g (goal.at.returns-clause-cause g c).After-row_for ∙ ap cause_if c.in_ok-row_for.ensures.row.accepted)
