-- The fact that each step on the table gives its maker.
use Rattle.std.specs.Prelude.{◌≡◌, ◌≢◌, ℕ, ◌%◌, ◌^◌, List, [], ◌∷◌, Option, Some, None}
use Rattle.atomic_table.specs.Table.{Me, Step}
use Rattle.fq_model.specs.declared.event.Entry.{Entry}
use Rattle.fq_model.specs.Outcome.{own_entries}
use Rattle.history_lock.specs.declared.table.View.{View}
use Rattle.history_lock.specs.declared.table.Stage.TheVariants.{Waits, Served}
use Rattle.history_lock.specs.Histories.{IsPrefix, Grows, longer}
use Rattle.history_lock.specs.Views.{at_stage, learned}

-- a view, and the slot while it is out with its seat
abbrev Holding : Type 0 → Type 0 → Type 0
Holding M F = Me (Option M) (View F)

abbrev At : Type 0 → Type 0
At M = Step (Option M)

module _ {M F : Type 0} where
  -- the number found is the turn drawn
  abbrev pub HasDrawn : Holding M F → ℕ → Holding M F → Type 0
  HasDrawn me found me2 = (turn : ℕ) × (found ≡ turn % 2 ^ 64) × (me2 ≡ (at_stage me.0 (Waits turn), me.1))

  abbrev pub drew : At M → Holding M F → ℕ → Holding M F → Type 0
  drew at me found me2 = HasDrawn me found me2

  -- a turn is served, with a machine that was taken out of the slot and had this past
  abbrev pub IsServed : Holding M F → List Entry → Holding M F → Type 0
  IsServed me P me2 = (turn : ℕ) × (me2 ≡ (at_stage me.0 (Served turn P), (0, None) ∷ []))

  -- a turn is served and the slot is out, and P2 is the past at the turn's beginning, or that with one entry more of
  -- this number
  abbrev pub MayLeave : Holding M F → List Entry → Type 0
  MayLeave me P2 =
      (turn : ℕ) × (P : List Entry) × (me.0.stage ≡ Served turn P) × (me.1 ≡ (0, None) ∷ []) × Grows me.0.number P P2

  -- the machine m was taken at the turn, with a past that begins with all that was seen and has no other entry of this
  -- number
  abbrev pub TookIt : (M → List Entry) → (M → F) → Holding M F → ℕ → Holding M F → M → Type 0
  TookIt past frame me turn me2 m =
      (me2 ≡ (at_stage me.0 (Served turn (past m)), (0, Some m) ∷ me.1)) × (me.0.frame ≡ Some (frame m))
      × IsPrefix me.0.seen (past m) × (own_entries (past m) me.0.number ≡ me.0.mine)

  -- where the number found is the turn, the machine was taken; else nothing changed
  abbrev pub looked : (M → List Entry) → (M → F) → At M → Holding M F → ℕ → Holding M F → Type 0
  looked past frame at me found me2 =
      (turn : ℕ) → me.0.stage ≡ Waits turn
      → (found ≡ turn % 2 ^ 64 → (m : M) × TookIt past frame me turn me2 m) × (found ≢ turn % 2 ^ 64 → me2 ≡ me)

  -- the machine is given back, and its past is the history that the pass has now seen
  abbrev pub gave : (M → List Entry) → At M → Holding M F → ℕ → Holding M F → Type 0
  gave past at me found me2 = (m : M) → me.1 ≡ (0, Some m) ∷ [] → me2 ≡ (learned me.0 (past m), [])

  -- the seen history has this number's own entries, and both histories seen before the last join are prefixes of it
  abbrev pub noted : At M → Holding M F → ℕ → Holding M F → Type 0
  noted at me found me2 = (me2 ≡ me) × (own_entries me.0.seen me.0.number ≡ me.0.mine)
      × (me.0.seen ≡ longer me.0.seen_before me.0.seen_by_other
      → IsPrefix me.0.seen_before me.0.seen × IsPrefix me.0.seen_by_other me.0.seen)
