-- The board of a past, and its readers.
use Rattle.std.specs.Prelude.{◌≡◌, refl, List, [], ◌∷◌, Option, Some, None, option_map}
use Rattle.std.specs.Coded.{Coded, code_by, coded×, coded_list}
use Rattle.atomic_table.specs.Seated.{TableId, table_id_coded}
use Rattle.fq_model.specs.contracts.config.Config as config_type
use Rattle.fq_model.specs.contracts.event.Entry as entry_type
use Rattle.fq_model.specs.declared.config.Config.{Config}
use Rattle.fq_model.specs.declared.event.Entry.{Entry}
use Rattle.history_lock.specs.Histories.{IsPrefix}
use Rattle.status_board.specs.Boards.{BoardView, ReaderView, IsReaderOf}

-- a board, and the past that its writer has shown
pub record ShownView : Type 0 where
  pub board : BoardView
  pub past : List Entry

abbrev pub board_code : Coded BoardView
board_code =
    code_by (TableId × Config) (coded× table_id_coded config_type.the_row.coded)
    (λ b. (b.table, b.config)) (λ p. record { table = p.0; config = p.1 }) (λ _. refl)

abbrev pub shown_code : Coded ShownView
shown_code =
    code_by (BoardView × List Entry) (coded× board_code (coded_list entry_type.the_row.coded))
    (λ s. (s.board, s.past)) (λ p. record { board = p.0; past = p.1 }) (λ _. refl)

-- the board, if there is one
abbrev pub board_of : Option ShownView → Option BoardView
board_of shown = option_map (λ s. s.board) shown

-- a board, if there is one, is for this configuration, and shows a prefix of this past
abbrev pub ShowsPart : Config → List Entry → Option ShownView → Type 0
ShowsPart C P None = Unit {0}
ShowsPart C P (Some s) = (s.board.config ≡ C) × IsPrefix s.past P

-- and shows all of it
abbrev pub Shows : Config → List Entry → Option ShownView → Type 0
Shows C P None = Unit {0}
Shows C P (Some s) = (s.board.config ≡ C) × (s.past ≡ P)

-- each reader is of this board
abbrev pub AreReaders : BoardView → List ReaderView → Type 0
AreReaders board [] = Unit {0}
AreReaders board (reader ∷ readers) = IsReaderOf board reader × AreReaders board readers

-- there is a board, and each reader is of it
abbrev pub AreReadersOf : Option BoardView → List ReaderView → Type 0
AreReadersOf None readers = ⊥
AreReadersOf (Some board) readers = AreReaders board readers

-- each reader has seen a prefix of this past
abbrev pub HaveSeen : List Entry → List ReaderView → Type 0
HaveSeen past [] = Unit {0}
HaveSeen past (reader ∷ readers) = IsPrefix reader.seen past × HaveSeen past readers
