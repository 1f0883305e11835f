use Rattle.journal_text.proofs.reading.open_document.Goals as goal

pub returns-clause-ok : goal.returns-clause-ok
returns-clause-ok g c = rw c.in_ok-head.ensures c.in_ok-draft.ensures.ok
