-- The views of a lock and of a pass.
use Rattle.std.specs.Prelude.{◌≡◌, ℕ, ◌<◌, ◌≤◌, true, List, [], ◌∷◌, Option, Some}
use mathlib.Core.Option.{some}
use lib.ListN.{get_elem?}
use Rattle.atomic_table.specs.Seated.{TableId}
use Rattle.fq_model.specs.declared.event.Entry.{Entry}
use Rattle.fq_model.specs.Outcome.{own_entries}
use Rattle.history_lock.specs.declared.table.View.{View}
use Rattle.history_lock.specs.Histories.{IsPrefix}
use Rattle.history_lock.specs.Rule.{word_count}
use Rattle.history_lock.specs.Views.{view_of, is_idle}

-- a lock: which table is its, and the frame of the machine that it was opened with
pub record LockView (F : Type 0) : Type 0 where
  pub table : TableId
  pub frame : F

-- A pass: which lock it is of, by table and frame, its number, the history that it has seen and its own entries there
-- For number 0: the number of further passes made, and the numbers that were joined, each with its own entries
pub record PassView (F : Type 0) : Type 0 where
  pub table : TableId
  pub frame : Option F
  pub number : ℕ
  pub seen : List Entry
  pub mine : List Entry
  pub made : ℕ
  pub ended : List (ℕ × List Entry)

-- the place is one at the table, which has the lock's words
abbrev pub IsPlaceAt : TableId → TableId → Type 0
IsPlaceAt place table = (place ≡ table) × (table.words ≡ word_count)

module _ {F : Type 0} where
  abbrev pub held : TableId → View F → PassView F
  held table v = record {
    table = table;
    frame = v.frame;
    number = v.number;
    seen = v.seen;
    mine = v.mine;
    made = v.made;
    ended = v.ended;
  }

  -- the pass is of this lock
  abbrev pub IsOf : LockView F → PassView F → Type 0
  IsOf lock pass = (pass.table ≡ lock.table) × (pass.frame ≡ Some lock.frame)

  -- the pass is of the same caller of this lock: it has seen more, perhaps, and none of that is its own
  pub record SeesMore (lock : LockView F) (old new : PassView F) : Type 0 where
    pub own : IsOf lock new
    pub number : new.number ≡ old.number
    pub made : new.made ≡ old.made
    pub ended : new.ended ≡ old.ended
    pub seen : IsPrefix old.seen new.seen
    pub mine : new.mine ≡ old.mine
    pub mine_is : new.mine ≡ own_entries new.seen new.number

  -- between two calls a pass holds no turn, and its own entries are those of its number in the history that it has seen
  pub record IsAtRest (number made : ℕ) (views : List (View F)) : Type 0 where
    pub whole : views ≡ view_of views ∷ []
    pub idle : is_idle (view_of views).stage ≡ true
    pub numbered : (view_of views).number ≡ number
    pub made_is : (view_of views).made ≡ made
    pub own : (view_of views).mine ≡ own_entries (view_of views).seen number

-- of each number that was joined the past has just its own entries
abbrev pub HasEnded : List Entry → List (ℕ × List Entry) → Type 0
HasEnded past ended = (j : ℕ) (e : ℕ × List Entry) → get_elem? ended j ≡ some e → own_entries past e.0 ≡ e.1

-- no entry is of a number above made
abbrev pub HasNoneAbove : List Entry → ℕ → Type 0
HasNoneAbove past made = (number : ℕ) → made < number → own_entries past number ≡ []

-- each number from 1 to made was joined
abbrev pub AllEnded : ℕ → List (ℕ × List Entry) → Type 0
AllEnded made ended =
    (number : ℕ) → 0 < number → number ≤ made
    → (j : ℕ) × (mine : List Entry) × (get_elem? ended j ≡ some (number, mine))
