-- The statuses that were read of a board while a past grew, as readings of that past.
use Rattle.std.proofs.Common.{◌≡◌, ◌≤◌, ℕ, List, [], ◌∷◌, ◌++◌, length, take, Option, Some, Global, refl, sym, ap, ◌∙◌, subst, arith}
use Rattle.std.specs.declared.vec.Vec.{Vec}
use Rattle.std.proofs.Math.Seq.{take-append_seam}
use Rattle.std.proofs.lemmas.List.{length-append, length-reverse}
use Rattle.fq_model.specs.declared.config.Config.{Config}
use Rattle.fq_model.specs.declared.event.Entry.{Entry}
use Rattle.fq_model.specs.declared.parts.Status.{Status}
use Rattle.fq_model.specs.History.{history_of}
use Rattle.fq_model.specs.Status.{status_of}
use Rattle.history_lock.specs.Histories.{IsPrefix}
use Rattle.history_lock.proofs.Histories.{prefix_through}
use Rattle.program_model.specs.Readings.{IsStatusIn, AreReadings}
use Rattle.status_board.specs.Boards.{BoardView, ReaderView, IsReaderOf}
use Rattle.desk.specs.Shown.{AreReaders, AreReadersOf, HaveSeen}
use Rattle.worker_gate.specs.declared.pool.Hand.TheVariants.{Watch}
use Rattle.worker_gate.specs.Watching.{AreAnswers, Watched}
use Rattle.worker_gate.proofs.Watching.{answers_on}
use Rattle.trace_pool.specs.declared.hands.Tokens.{Tokens}
use Rattle.trace_pool.specs.Serving.{HasWatched}

entries_of : (C : Config) (P : List Entry) (status : Status) → status ≡ status_of C (history_of P) → status.entries ≡ length P
unfolding status_of
entries_of C P status told = ap (λ (s : Status). s.entries) told ∙ length-reverse P

-- a status of a prefix of the past is a status in the past
status_in_past : (C : Config) (P past : List Entry) (status : Status) → IsPrefix P past → status ≡ status_of C (history_of P) → IsStatusIn C past status
status_in_past C P past status (rest, whole) told =
    let entries : status.entries ≡ length P = entries_of C P status told in
    let front : take status.entries past ≡ P = ap (λ n. take n past) entries ∙ (ap (take (length P)) whole ∙ take-append_seam P rest) in record {
      within = omega (arith, entries, ap length whole, length-append P rest);
      is_status = told ∙ ap (λ l. status_of C (history_of l)) (sym front);
    }

-- answers are readings of each past of which the history that was seen last is a prefix
pub readings_of : (C : Config) (seen : List Entry) (answers : List Status) (seen2 past : List Entry) → AreAnswers C seen answers seen2 → IsPrefix seen2 past → AreReadings C past (length seen) answers
readings_of C seen [] seen2 past same on = tt
readings_of C seen (status ∷ later) seen2 past (P, (newer, longer), told, more) on =
    let entries : status.entries ≡ length P = entries_of C P status told in
    let in_past : IsPrefix P past = prefix_through P seen2 past (answers_on C P later seen2 more) on in (
      omega (arith, entries, ap length longer, length-append seen newer),
      status_in_past C P past status in_past told,
      subst (λ n. AreReadings C past n later) (sym entries) (readings_of C P later seen2 past more on),
    )

-- the statuses that a reader, who had seen no entry, read of a board of this configuration
pub readings_watched : (board : BoardView) (times : ℕ) (old new : ReaderView) (given statuses : List Status) (C : Config) (past : List Entry) → Watched board times old new given statuses → given ≡ [] → old.seen ≡ [] → board.config ≡ C → IsPrefix new.seen past
    → (length statuses ≡ times) × AreReadings C past 0 statuses
readings_watched board times old new given statuses C past w none unseen config on =
    let all : statuses ≡ w.answers = w.added ∙ ap (λ l. l ++ w.answers) none in
    let answers : AreAnswers C [] w.answers new.seen = subst (λ D. AreAnswers D [] w.answers new.seen) config (subst (λ l. AreAnswers board.config l w.answers new.seen) unseen w.are_answers) in (
      ap length all ∙ w.count,
      subst (AreReadings C past 0) (sym all) (readings_of C [] w.answers new.seen past answers on),
    )

-- the statuses that the watcher read are readings of the past
pub watch_read : (shared : Option BoardView) (board : BoardView) (reader : ReaderView) (times : ℕ) (given : Vec Status Global) (tokens : Tokens) (C : Config) (past : List Entry)
    → HasWatched shared (Watch reader times 0 given) tokens → shared ≡ Some board → board.config ≡ C → given.items ≡ [] → reader.seen ≡ [] → HaveSeen past tokens.readers.items
    → (length tokens.statuses.items ≡ times) × AreReadings C past 0 tokens.statuses.items
watch_read shared board reader times given tokens C past (board2, reader2, shown, one, w) shared_is config none unseen seen =
    let both : Some board2 ≡ Some board = sym shown ∙ shared_is in
    let same_board : board2 ≡ board = cc in
    let on : IsPrefix reader2.seen past = (subst (HaveSeen past) one seen).0 in
    readings_watched board2 times reader reader2 given.items tokens.statuses.items C past w none unseen (ap (λ (b : BoardView). b.config) same_board ∙ config) on

-- and its reader is of the desk's board
pub watch_readers : (shared of_desk : Option BoardView) (board : BoardView) (reader : ReaderView) (times : ℕ) (given : Vec Status Global) (tokens : Tokens)
    → HasWatched shared (Watch reader times 0 given) tokens → shared ≡ Some board → of_desk ≡ Some board → AreReadersOf of_desk tokens.readers.items
watch_readers shared of_desk board reader times given tokens (board2, reader2, shown, one, w) shared_is desk_is =
    let both : Some board2 ≡ Some board = sym shown ∙ shared_is in
    let same_board : board2 ≡ board = cc in
    let own : IsReaderOf board reader2 = subst (λ b. IsReaderOf b reader2) same_board w.own in
    let all : AreReaders board tokens.readers.items = subst (AreReaders board) (sym one) (own, tt) in
    subst (λ o. AreReadersOf o tokens.readers.items) (sym desk_is) all
