-- The rule of a board: the invariant of the words and the views between any two steps.
use Rattle.std.specs.Prelude.{◌≡◌, ℕ, ◌+◌, ◌*◌, ◌≤◌, List, ◌∷◌, length, Some}
use mathlib.Core.Option.{some}
use lib.ListN.{get_elem?}
use Rattle.atomic_table.specs.Table.{State}
use Rattle.fq_model.specs.declared.config.Config.{Config}
use Rattle.fq_model.specs.declared.event.Entry.{Entry}
use Rattle.history_lock.specs.Histories.{IsPrefix}
use Rattle.status_board.specs.declared.table.View.{View}
use Rattle.status_board.specs.declared.table.Stage.{Stage}
use Rattle.status_board.specs.declared.table.Stage.TheVariants.{Spent, Idle, Reading, Rests, Writes}
use Rattle.status_board.specs.Words.{words_of, FitStatus}

-- The marks of the rule: the history that is shown, 1 while the words of the next one are written and else 0, the words
-- but for the version, and which seat writes
pub record Marks : Type 0 where
  pub shown : List Entry
  pub busy : ℕ
  pub rest : List ℕ
  pub writer : ℕ

module _ (C : Config) (k : Marks) (seat : ℕ) (v : View) where
  -- a view has seen a prefix of the shown history, and so had a reader that it took in
  abbrev pub IsLive : Type 0
  IsLive = (v.config ≡ Some C) × IsPrefix v.seen k.shown × IsPrefix v.joined k.shown

  -- The writer knows the whole shown history, and while it writes the words too
  -- While a reader reads, the version that it found was that of a history that it noted, and no version since is less
  abbrev pub Staged : Stage → Type 0
  Staged Spent = Unit {0}
  Staged Idle = IsLive
  Staged Reading =
      IsLive × IsPrefix v.noted k.shown × (2 * length v.noted ≤ v.version) × (v.version ≤ 2 * length k.shown + k.busy)
  Staged Rests = IsLive × (seat ≡ k.writer) × (v.seen ≡ k.shown) × (k.busy ≡ 0)
  Staged Writes = IsLive × (seat ≡ k.writer) × (v.seen ≡ k.shown) × (k.busy ≡ 1) × (v.words ≡ k.rest)

  abbrev pub Knows : Type 0
  Knows = Staged v.stage

-- The version is twice the number of entries shown, and 1 more while the next words are written. At rest the words are
-- those of the history that is shown
pub record Kept (C : Config) (s : State (Unit {0}) View) : Type 0 where
  pub marks : Marks
  pub words : s.words ≡ (2 * length marks.shown + marks.busy) ∷ marks.rest
  pub wide : length marks.rest ≡ 5
  pub low : marks.busy ≤ 1
  pub at_rest : marks.busy ≡ 0 → (marks.rest ≡ words_of C marks.shown) × FitStatus marks.rest
  pub each_seat : (seat : ℕ) (v : View) → get_elem? s.views seat ≡ some v → Knows C marks seat v
