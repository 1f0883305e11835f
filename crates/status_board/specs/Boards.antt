-- The views of a board, of its writer and of a reader.
use Rattle.std.specs.Prelude.{◌≡◌, true, List, [], ◌∷◌, ◌++◌, Option, Some}
use Rattle.atomic_table.specs.Seated.{TableId}
use Rattle.fq_model.specs.declared.config.Config.{Config}
use Rattle.fq_model.specs.declared.event.Entry.{Entry}
use Rattle.fq_model.specs.declared.parts.Status.{Status}
use Rattle.status_board.specs.declared.answers.Answers.{Answers, Nothing, Next'}
use Rattle.status_board.specs.Plays.{Holding}
use Rattle.status_board.specs.Views.{is_idle, is_resting}
use Rattle.status_board.specs.Words.{word_count, status_in}

-- a board: which table is its, and the configuration whose virtual time it shows
pub record BoardView : Type 0 where
  pub table : TableId
  pub config : Config

-- a writer: which board it is of, by table and configuration, and the history that it has shown
pub record WriterView : Type 0 where
  pub table : TableId
  pub config : Option Config
  pub shown : List Entry

-- a reader: which board it is of, the history that it has seen, and all that it has answered, in order
pub record ReaderView : Type 0 where
  pub table : TableId
  pub config : Option Config
  pub seen : List Entry
  pub answers : List Status

abbrev pub writer_view : TableId → Holding → WriterView
writer_view table me = record { table = table; config = me.0.config; shown = me.0.seen }

-- answers in order, the newest last
abbrev pub answers_in : Answers → List Status
answers_in Nothing = []
answers_in (Next' status mark before) = answers_in before ++ status.value ∷ []

abbrev pub reader_view : TableId → Holding → Answers → ReaderView
reader_view table me answers =
    record { table = table; config = me.0.config; seen = me.0.seen; answers = answers_in answers }

-- the writer is of this board
abbrev pub IsWriterOf : BoardView → WriterView → Type 0
IsWriterOf board writer = (writer.table ≡ board.table) × (writer.config ≡ Some board.config)

-- the reader is of this board
abbrev pub IsReaderOf : BoardView → ReaderView → Type 0
IsReaderOf board reader = (reader.table ≡ board.table) × (reader.config ≡ Some board.config)

-- the place is one at the table, which has a board's words
abbrev pub IsPlaceAt : TableId → TableId → Type 0
IsPlaceAt place table = (place ≡ table) × (table.words ≡ word_count)

-- between two calls a writer keeps the status of the history that it has shown
pub record WriterRests (status : Status) (me : Holding) : Type 0 where
  pub bare : me.1 ≡ []
  pub rests : is_resting me.0.stage ≡ true
  pub told : status_in me.0.config me.0.seen ≡ Some status

-- between two calls a reader keeps the status of the history that it has seen
pub record ReaderRests (status : Status) (me : Holding) : Type 0 where
  pub bare : me.1 ≡ []
  pub idle : is_idle me.0.stage ≡ true
  pub told : status_in me.0.config me.0.seen ≡ Some status
