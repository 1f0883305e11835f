-- A reader's answers, with one answer more.
use Rattle.std.proofs.Common.{◌≡◌, ℕ, suc, List, [], ◌∷◌, ◌++◌, refl, sym, ap, ◌∙◌, subst, arith, append_assoc, append-nil}
use Rattle.std.proofs.lemmas.List.{length-append}
use Rattle.fq_model.specs.declared.config.Config.{Config}
use Rattle.fq_model.specs.declared.event.Entry.{Entry}
use Rattle.fq_model.specs.declared.parts.Status.{Status}
use Rattle.fq_model.specs.History.{history_of}
use Rattle.fq_model.specs.Status.{status_of}
use Rattle.history_lock.specs.Histories.{IsPrefix}
use Rattle.history_lock.proofs.Histories.{prefix_through}
use Rattle.status_board.specs.Boards.{BoardView, ReaderView, IsReaderOf}
use Rattle.worker_gate.specs.Watching.{AreAnswers, Watched}

module _ (C : Config) where
  -- the history that a reader had seen is a prefix of the history that it has seen
  pub answers_on : (seen : List Entry) (answers : List Status) (seen2 : List Entry) → AreAnswers C seen answers seen2 → IsPrefix seen seen2
  answers_on seen [] seen2 same = ([], same ∙ sym (append-nil seen))
  answers_on seen (status ∷ later) seen2 (P, front, told, more) = prefix_through seen P seen2 front (answers_on P later seen2 more)

  answers_end : (seen : List Entry) (answers : List Status) (seen2 seen3 : List Entry) (last : Status) → AreAnswers C seen answers seen2 → IsPrefix seen2 seen3 → last ≡ status_of C (history_of seen3) → AreAnswers C seen (answers ++ last ∷ []) seen3
  answers_end seen [] seen2 seen3 last same on is = (seen3, subst (λ P. IsPrefix P seen3) same on, is, refl)
  answers_end seen (status ∷ later) seen2 seen3 last (P, front, told, more) on is = (P, front, told, answers_end P later seen2 seen3 last more on is)

module _ (board : BoardView) where
  -- no status is read
  pub watched_none : (reader : ReaderView) (seen : List Status) → IsReaderOf board reader → Watched board 0 reader reader seen seen
  watched_none reader seen own = record { own = own; answers = []; are_its = sym (append-nil reader.answers); are_answers = refl; count = refl; added = sym (append-nil seen) }

  -- one status more is read
  pub watched_more : (times times2 : ℕ) (old new newer : ReaderView) (seen seen2 seen3 : List Status) (last : Status) → times2 ≡ suc times → Watched board times old new seen seen2
      → IsReaderOf board newer → newer.answers ≡ new.answers ++ last ∷ [] → IsPrefix new.seen newer.seen → last ≡ status_of board.config (history_of newer.seen) → seen3 ≡ seen2 ++ last ∷ []
      → Watched board times2 old newer seen seen3
  watched_more times times2 old new newer seen seen2 seen3 last next w own noted on is pushed = record {
    own = own;
    answers = w.answers ++ last ∷ [];
    are_its = noted ∙ (ap (λ l. l ++ last ∷ []) w.are_its ∙ append_assoc old.answers w.answers (last ∷ []));
    are_answers = answers_end board.config old.seen w.answers new.seen newer.seen last w.are_answers on is;
    count = omega (arith, length-append w.answers (last ∷ []), w.count, next);
    added = pushed ∙ (ap (λ l. l ++ last ∷ []) w.added ∙ append_assoc seen w.answers (last ∷ []));
  }
