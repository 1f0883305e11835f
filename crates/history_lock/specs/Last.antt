-- The last moment of a lock, when no call is under way.
use Rattle.std.specs.Prelude.{◌≡◌, ℕ, List, [], ◌∷◌, Option}
use mathlib.Core.Option.{some}
use lib.ListN.{get_elem?}
use Rattle.atomic_table.specs.Table.{State}
use Rattle.fq_model.specs.declared.event.Entry.{Entry}
use Rattle.history_lock.specs.declared.table.View.{View}
use Rattle.history_lock.specs.Rule.{Kept}
use Rattle.history_lock.specs.Passes.{PassView, held}

module _ {M F : Type 0} (past : M → List Entry) (frame : M → F) where
  -- At the lock's last moment its rule holds, the pass is one of its views, and its two words are these: how many turns
  -- were drawn and how many served, modulo 2^64
  abbrev pub WasLast : F → PassView F → ℕ → ℕ → Type 0
  WasLast like pass drawn served =
      (s : State (Option M) (View F)) × Kept past frame like s × (s.words ≡ drawn ∷ served ∷ [])
      × ((seat : ℕ) × (v : View F) × (get_elem? s.views seat ≡ some v) × (held pass.table v ≡ pass))
