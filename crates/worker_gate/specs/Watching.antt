-- The status of a desk, read again and again.
use Rattle.std.specs.Prelude.{ℕ, ◌≡◌, List, [], ◌∷◌, ◌++◌, length}
use Rattle.fq_model.specs.declared.config.Config.{Config}
use Rattle.fq_model.specs.declared.event.Entry.{Entry}
use Rattle.fq_model.specs.declared.parts.Status.{Status}
use Rattle.fq_model.specs.History.{history_of}
use Rattle.fq_model.specs.Status.{status_of}
use Rattle.history_lock.specs.Histories.{IsPrefix}
use Rattle.status_board.specs.Boards.{BoardView, ReaderView, IsReaderOf}

-- A reader gave these answers, one after another: each is the status of the history that it had then seen, of which the
-- history that it had seen before is a prefix. It had seen `seen` at first, and has seen `seen2` now
abbrev pub AreAnswers : Config → (seen : List Entry) → List Status → (seen2 : List Entry) → Type 0
AreAnswers C seen [] seen2 = seen2 ≡ seen
AreAnswers C seen (status ∷ later) seen2 =
    (P : List Entry) × IsPrefix seen P × (status ≡ status_of C (history_of P)) × AreAnswers C P later seen2

-- the reader has read the status `times` times, and its answers are behind the older statuses
pub record Watched (board : BoardView) (times : ℕ) (old new : ReaderView) (seen seen2 : List Status) : Type 0 where
  pub own : IsReaderOf board new
  pub answers : List Status
  pub are_its : new.answers ≡ old.answers ++ answers
  pub are_answers : AreAnswers board.config old.seen answers new.seen
  pub count : length answers ≡ times
  pub added : seen2 ≡ seen ++ answers
