-- The status of `check` tells whether a journal is legal.
use Rattle.std.proofs.Common.{ℕ, ◌≡◌, refl, subst, arith, Option}
use Rattle.std.specs.Prelude.{◌↔◌}
use Rattle.fq_model.specs.History.{history_of}
use Rattle.fq_model.specs.Rules.{IsLegal}
use Rattle.program_model.specs.declared.verdict.Verdict.{Verdict}
use Rattle.program_model.specs.declared.verdict.Verdict.TheVariants.{Legal, Bad}
use Rattle.program_model.specs.Answer.{Answer, answer_status, IsReadAnswer}
use Rattle.program_model.specs.CheckCommand.{verdict_status, IsJudged}
use Rattle.program_model.specs.Document.{config_of}
use Rattle.program_model.specs.FaultTexts.{journal_fault_text}
use Rattle.program_model.specs.Journal.{Journal}
use Rattle.program_model.specs.Verdicts.{IsVerdict}
use Rattle.journal_check.proofs.OneVerdict.{legal_is_legal}
use Rattle.law_book.specs.Programs.{CheckTellsLegal}

-- the status is 8 exactly where this isn't so, and 0 exactly where it is
abbrev Tells : ℕ → Type 0 → Type 0
Tells status Is = ((status ≡ 8) ↔ ¬ Is) × ((status ≡ 0) ↔ Is)

verdict_tells : (journal : Journal) (verdict : Verdict) → IsVerdict (config_of journal) journal.body verdict → Tells (verdict_status verdict) (IsLegal (config_of journal) (history_of journal.body))
verdict_tells journal Legal legal = ((λ e. absurd (omega (arith, e)), λ illegal. absurd (illegal legal)), (λ e. legal, λ is. refl))
verdict_tells journal (Bad place reply wanted) bad =
    let illegal : ¬ IsLegal (config_of journal) (history_of journal.body) = λ legal. let is : Bad place reply wanted ≡ Legal = (legal_is_legal (config_of journal) journal.body (Bad place reply wanted) bad).1 legal in absurd (cc) in
    ((λ e. illegal, λ is. refl), (λ e. absurd (omega (arith, e)), λ legal. absurd (illegal legal)))

judged_tells : (asked : Option ℕ) (journal : Journal) (answer : Answer) → IsJudged asked journal answer → Tells (answer_status answer) (IsLegal (config_of journal) (history_of journal.body))
judged_tells asked journal answer x = rw (x.answer_is) (verdict_tells journal x.verdict x.is_verdict)

pub check_tells_legal : CheckTellsLegal
check_tells_legal asked input journal answer is x = judged_tells asked journal answer (subst (λ read. IsReadAnswer journal_fault_text (IsJudged asked) read answer) is x)
