use Rattle.std.proofs.Common.{ℕ, ◌+◌, ◌++◌, ◌∷◌, [], ◌≡◌, ◌∙◌, length, sym, ap, ap₂, subst}
use Rattle.std.specs.Prelude.{slice_get}
use Rattle.std.proofs.lemmas.Bool.{false≢true}
use Rattle.fq_model.specs.declared.event.Call.{Call}
use Rattle.fq_model.specs.History.{history_of}
use Rattle.fq_model.specs.Rules.{Answers}
use Rattle.program_model.specs.Verdicts.{IsFirstBad}
use Rattle.sched_state.specs.Replies.{AnswersCall}
use Rattle.journal_check.proofs.Judging.{first_bad, added_given, gained, legal_given}
use Rattle.journal_check.proofs.checking.judge_next.Goals as goal

pub returns-then-is_given : goal.returns-then-is_given
returns-then-is_given g c =
    let old = c.args.scheduler.now in
    let new = c.answer-reply.new.scheduler in
    let answers = subst (λ (a : Call). Answers old.config (history_of old.past) a c.answer-reply.result (history_of new.past)) c.call_of.ensures c.answer-reply.ensures.answers in
    let is : c.entry_at-wanted.result ≡ slice_get new.past (length old.past) = c.entry_at-wanted.ensures ∙ ap₂ slice_get c.past.ensures.entries (ap length c.past-k.ensures.entries) in
    let grown : new.past ≡ old.past ++ c.args.given ∷ [] = added_given old.config old.past new.past c.args.given c.answer-reply.result c.entry_at-wanted.result answers is (c.is_given.ensures.0 c.if-is_given.true) in
    record {
      config = c.answer-reply.ensures.config_is;
      verdict = legal_given old.config new.config old.past new.past c.args.given c.answer-reply.ensures.config_is grown c.past.ensures.legal;
      past = λ _. grown;
      bad = tt;
    }

pub returns-else-is_given-clause-verdict : goal.returns-else-is_given-clause-verdict
returns-else-is_given-clause-verdict g c =
    let old = c.args.scheduler.now in
    let new = c.answer-reply.new.scheduler in
    let answers = subst (λ (a : Call). Answers old.config (history_of old.past) a c.answer-reply.result (history_of new.past)) c.call_of.ensures c.answer-reply.ensures.answers in
    let count : length c.past-k.result.now ≡ length old.past = ap length c.past-k.ensures.entries in
    let is : c.entry_at-wanted.result ≡ slice_get new.past (length old.past) = c.entry_at-wanted.ensures ∙ ap₂ slice_get c.past.ensures.entries count in
    subst (λ (k : ℕ). IsFirstBad old.config (old.past ++ c.args.given ∷ []) (k + 1) c.answer-reply.result c.entry_at-wanted.result) (sym count)
    (first_bad old.config old.past new.past c.args.given c.answer-reply.result c.entry_at-wanted.result answers is c.requires c.past-k.ensures.legal (λ same. false≢true (sym c.if-is_given.false ∙ c.is_given.ensures.1 same)))

pub returns-else-is_given-clause-bad : goal.returns-else-is_given-clause-bad
returns-else-is_given-clause-bad g c =
    let old = c.args.scheduler.now in
    let new = c.answer-reply.new.scheduler in
    let answers = subst (λ (a : Call). AnswersCall old a c.answer-reply.result new) c.call_of.ensures c.answer-reply.ensures in
    let is : c.entry_at-wanted.result ≡ slice_get new.past (length old.past) = c.entry_at-wanted.ensures ∙ ap₂ slice_get c.past.ensures.entries (ap length c.past-k.ensures.entries) in
    record { answers = answers; gained = gained old.config old.past new.past c.args.given c.answer-reply.result c.entry_at-wanted.result answers.answers is }
