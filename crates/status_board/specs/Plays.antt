-- The fact that each step on the table gives its maker.
use Rattle.std.specs.Prelude.{◌≡◌, ◌≢◌, ℕ, ◌*◌, ◌-◌, ◌%◌, ◌≤◌, List, length, slice_index, slice_set}
use Rattle.atomic_table.specs.Table.{Me, Step}
use Rattle.fq_model.specs.declared.event.Entry.{Entry}
use Rattle.history_lock.specs.Histories.{IsPrefix}
use Rattle.status_board.specs.declared.table.View.{View}
use Rattle.status_board.specs.declared.table.Stage.TheVariants.{Idle, Reading, Rests, Writes}
use Rattle.status_board.specs.Words.{words_in, FitStatus}

abbrev pub Holding : Type 0
Holding = Me (Unit {0}) View

abbrev At : Type 0
At = Step (Unit {0})

-- an even version is that of the shown history, which is noted
abbrev pub looked : At → Holding → ℕ → Holding → Type 0
looked at me found me2 =
    (found % 2 ≡ 0
    → (P : List Entry) × (me2 ≡ (record me.0 { stage = Reading; noted = P; version = found }, me.1))
    × (found ≡ 2 * length P) × IsPrefix me.0.seen P)
    × (found % 2 ≢ 0 → me2 ≡ me)

-- no version since the look is less, and where this one is still that of the noted history, the word is that history's
abbrev pub peeked : At → Holding → ℕ → Holding → Type 0
peeked at me found me2 = (version : ℕ) × (me2 ≡ (record me.0 { version = version }, me.1)) × (me.0.version ≤ version)
    × (version ≤ 2 * length me.0.noted → found ≡ slice_index (words_in me.0.config me.0.noted) (at.word - 1))

-- so it is for all words but the version, found one after the other
abbrev pub HasPeeked : Holding → List ℕ → Holding → Type 0
HasPeeked me found me2 =
    (version : ℕ) × (me2 ≡ (record me.0 { version = version }, me.1)) × (me.0.version ≤ version)
    × (version ≤ 2 * length me.0.noted → found ≡ words_in me.0.config me.0.noted)

-- where the version is still that of the noted history, this history has now been seen
abbrev pub checked : At → Holding → ℕ → Holding → Type 0
checked at me found me2 =
    (found ≡ 2 * length me.0.noted
    → (me.0.version ≤ 2 * length me.0.noted) × FitStatus (words_in me.0.config me.0.noted)
    × (me2 ≡ (record me.0 { stage = Idle; seen = me.0.noted }, me.1)))
    × (found ≢ 2 * length me.0.noted → me2 ≡ (record me.0 { stage = Idle }, me.1))

-- the version is not below that of the history that was seen
abbrev pub glanced : At → Holding → ℕ → Holding → Type 0
glanced at me found me2 = (me2 ≡ me) × (2 * length me.0.seen ≤ found)

-- the writer begins: the words are those of the history that it has shown
abbrev pub began : At → Holding → ℕ → Holding → Type 0
began at me stored me2 = me2 ≡ (record me.0 { stage = Writes; words = words_in me.0.config me.0.seen }, me.1)

-- this stands now as word i of those that the writer knows
abbrev pub HasWritten : Holding → ℕ → ℕ → Holding → Type 0
HasWritten me i stored me2 = me2 ≡ (record me.0 { words = slice_set me.0.words i stored }, me.1)

abbrev pub wrote : At → Holding → ℕ → Holding → Type 0
wrote at me stored me2 = HasWritten me (at.word - 1) stored me2

-- P is shown
abbrev pub published : List Entry → At → Holding → ℕ → Holding → Type 0
published P at me stored me2 = me2 ≡ (record me.0 { stage = Rests; seen = P }, me.1)

-- the history that the last reader taken in had seen is a prefix of the shown history
abbrev pub confirmed : At → Holding → ℕ → Holding → Type 0
confirmed at me found me2 = (me2 ≡ me) × IsPrefix me.0.joined me.0.seen
