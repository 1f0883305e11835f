-- The rule of the lock: the invariant of the words, the slot and the views between any two steps.
use Rattle.std.specs.Prelude.{◌≡◌, ◌⊎◌, ℕ, ◌+◌, ◌%◌, ◌^◌, ◌<◌, ◌≤◌, List, [], ◌∷◌, length, Option, Some}
use mathlib.Core.Option.{some, none}
use mathlib.Core.Option as maybe
use lib.ListN.{get_elem?}
use Rattle.atomic_table.specs.Table.{State}
use Rattle.fq_model.specs.declared.event.Entry.{Entry}
use Rattle.fq_model.specs.Outcome.{own_entries}
use Rattle.history_lock.specs.declared.table.View.{View}
use Rattle.history_lock.specs.declared.table.Stage.{Stage}
use Rattle.history_lock.specs.declared.table.Stage.TheVariants.{Spent, Idle, Waits, Served}
use Rattle.history_lock.specs.Histories.{IsPrefix}
use Rattle.history_lock.specs.Views.{turns_of}

-- the next turn to draw, and the turn that is served
abbrev pub word_count : ℕ
word_count = 2

abbrev pub total : {A : Type 0} → (A → ℕ) → List A → ℕ
total count [] = 0
total count (x ∷ xs) = count x + total count xs

-- The marks of the rule. `drawn` and `served` count all turns ever, `made` is the greatest number given to a pass, and
-- `history` is the past of the machine, or its past at the beginning of the turn that is under way
-- `holder` names for each turn the seat that drew it, `owner` for each number the seat of its view, and `closed` is 1
-- at each number whose pass was joined
pub record Marks : Type 0 where
  pub drawn : ℕ
  pub served : ℕ
  pub made : ℕ
  pub history : List Entry
  pub holder : ℕ → ℕ
  pub owner : ℕ → ℕ
  pub closed : ℕ → ℕ

-- a turn that is held is one of those drawn and not served, and its holder's alone; the turn under way is `served`
module _ (k : Marks) (seat : ℕ) where
  abbrev pub Staged : Stage → Type 0
  Staged Spent = Unit {0}
  Staged Idle = Unit {0}
  Staged (Waits turn) = (k.served ≤ turn) × (turn < k.drawn) × (k.holder turn ≡ seat)
  Staged (Served turn P) = (turn ≡ k.served) × (turn < k.drawn) × (k.holder turn ≡ seat) × (P ≡ k.history)

-- a fact about a view that is not spent
abbrev pub Unless : Type 0 → Stage → Type 0
Unless Known Spent = Unit {0}
Unless Known _ = Known

module _ {F : Type 0} (like : F) (k : Marks) (seat : ℕ) where
  -- A view has the machine's frame. It has seen a prefix of the history, and its own entries are all that the history
  -- has of its number
  -- Its number is no other view's, and none that was joined. Number 0 knows the number of passes made, and the entries
  -- that each joined number has in the history
  pub record Fits (v : View F) : Type 0 where
    pub framed : v.frame ≡ Some like
    pub sees : IsPrefix v.seen k.history
    pub own_seen : own_entries v.seen v.number ≡ v.mine
    pub own_history : own_entries k.history v.number ≡ v.mine
    pub placed : k.owner v.number ≡ seat
    pub numbered : v.number ≤ k.made
    pub alive : k.closed v.number ≡ 0
    pub maker : v.number ≡ 0 → v.made ≡ k.made
    pub saw_before : IsPrefix v.seen_before k.history
    pub other_saw : IsPrefix v.seen_by_other k.history
    pub gone : (j : ℕ) (e : ℕ × List Entry) → get_elem? v.ended j ≡ some e
        → (k.closed e.0 ≡ 1) × (own_entries k.history e.0 ≡ e.1)

  abbrev pub Knows : View F → Type 0
  Knows v = Unless (Fits v) v.stage × Staged k seat v.stage

module _ {M F : Type 0} (past : M → List Entry) (frame : M → F) (like : F) where
  -- the slot is at home and has the machine, or it is out and a view is served
  abbrev pub Slot : List Entry → List (maybe.Option (Option M)) → List (View F) → Type 0
  Slot history homes views =
      ((m : M) × (homes ≡ some (Some m) ∷ []) × (past m ≡ history) × (frame m ≡ like))
      ⊎ ((homes ≡ none ∷ [])
      × ((seat : ℕ) × (v : View F) × (turn : ℕ) × (P : List Entry)
      × (get_elem? views seat ≡ some v) × (v.stage ≡ Served turn P)))

  -- The words count the turns drawn and served, modulo 2^64
  pub record Kept (s : State (Option M) (View F)) : Type 0 where
    pub marks : Marks
    pub words : s.words ≡ marks.drawn % 2 ^ 64 ∷ marks.served % 2 ^ 64 ∷ []
    pub counted : marks.served + total turns_of s.views ≡ marks.drawn
    pub few : length s.views ≤ marks.made + 1
    pub bounded : marks.made < 2 ^ 32
    pub above : (number : ℕ) → marks.made < number → (own_entries marks.history number ≡ []) × (marks.closed number ≡ 0)
    pub each_seat : (seat : ℕ) (v : View F) → get_elem? s.views seat ≡ some v → Knows like marks seat v
    pub slot : Slot marks.history s.homes s.views
