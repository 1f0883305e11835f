-- A journal at one entry more.
use Rattle.std.proofs.Common.{◌≡◌, sym, subst, List, [], ◌∷◌, ◌++◌}
use Rattle.std.proofs.lemmas.List.{reverse-append}
use Rattle.fq_model.specs.declared.event.Entry.{Entry}
use Rattle.fq_model.specs.History.{history_of}
use Rattle.fq_model.specs.Rules.{IsLegal}
use Rattle.sched_journal.specs.Journal.{JournalView, history}

-- the history of entries of which one more is the last
pub history_with : (past : List Entry) (e : Entry) → history_of (past ++ e ∷ []) ≡ e ∷ history_of past
history_with past e = reverse-append past (e ∷ [])

-- another view of the same journal
pub legal_as : (v w : JournalView) (e : Entry) → w ≡ v → IsLegal v.config (e ∷ history v) → IsLegal w.config (e ∷ history w)
legal_as v w e same l = subst (λ (x : JournalView). IsLegal x.config (e ∷ history x)) (sym same) l
