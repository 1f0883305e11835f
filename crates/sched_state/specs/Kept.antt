-- All that a scheduler keeps.
use Rattle.std.specs.Prelude.{ℕ, ◌≡◌, ◌≤◌}
use Rattle.tag_rules.specs.Tables.{ChooserView}
use Rattle.sched_journal.specs.Journal.{JournalView, history}
use Rattle.sched_journal.specs.Stores.{StoreView}
use Rattle.sched_state.specs.declared.tracker.Tracker.{Tracker}
use Rattle.sched_state.specs.Tracker.{Tracks}

-- the entries of the journal came to the store, which has room for all that may come
pub record IsStored (j : JournalView) (s : StoreView) : Type 0 where
  pub past_is : s.past ≡ j.past
  pub room : j.config.entries ≤ s.room

module _ {J X : Type 0} (label : J → ℕ) (seen : X → ChooserView) where
  -- the tracker keeps the consequences of the journal's entries, and those entries came to the store
  pub record KeepsScheduler (j : JournalView) (k : Tracker J X) (s : StoreView) : Type 0 where
    pub tracks : Tracks label seen j.config (history j) k
    pub stored : IsStored j s
