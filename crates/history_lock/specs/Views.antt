-- The parts of a view, and its changes.
use Rattle.std.specs.Prelude.{ℕ, ◌+◌, Bool, true, false, List, [], ◌∷◌, ◌++◌, Some, None}
use Rattle.fq_model.specs.declared.event.Entry.{Entry}
use Rattle.fq_model.specs.Outcome.{own_entries}
use Rattle.history_lock.specs.declared.table.View.{View}
use Rattle.history_lock.specs.declared.table.Stage.{Stage}
use Rattle.history_lock.specs.declared.table.Stage.TheVariants.{Spent, Idle, Waits, Served}
use Rattle.history_lock.specs.Histories.{longer}

abbrev pub is_idle : Stage → Bool
is_idle Idle = true
is_idle _ = false

-- how many turns a view at this stage holds
abbrev pub turns_at : Stage → ℕ
turns_at Spent = 0
turns_at Idle = 0
turns_at (Waits turn) = 1
turns_at (Served turn P) = 1

module _ {F : Type 0} where
  abbrev pub turns_of : View F → ℕ
  turns_of v = turns_at v.stage

  -- the first pass of a lock over a machine with this frame
  abbrev pub newcomer : F → View F
  newcomer like = record {
    number = 0;
    frame = Some like;
    seen = [];
    mine = [];
    stage = Idle;
    made = 0;
    seen_before = [];
    seen_by_other = [];
    ended = [];
  }

  -- a view that is no pass's any more
  abbrev pub spent_view : View F
  spent_view = record {
    number = 0;
    frame = None;
    seen = [];
    mine = [];
    stage = Spent;
    made = 0;
    seen_before = [];
    seen_by_other = [];
    ended = [];
  }

  -- the only view of a badge
  abbrev pub view_of : List (View F) → View F
  view_of [] = spent_view
  view_of (v ∷ vs) = v

  abbrev pub at_stage : View F → Stage → View F
  at_stage v stage = record v { stage = stage }

  -- after a turn, at whose end the machine's past was P2
  abbrev pub learned : View F → List Entry → View F
  learned v P2 = record v { seen = P2; mine = own_entries P2 v.number; stage = Idle }

  -- number 0's view after a split, and the new one
  abbrev pub parent : View F → View F
  parent v = record v { made = v.made + 1 }

  abbrev pub child : View F → View F
  child v = record {
    number = v.made + 1;
    frame = v.frame;
    seen = v.seen;
    mine = [];
    stage = Idle;
    made = 0;
    seen_before = [];
    seen_by_other = [];
    ended = [];
  }

  -- number 0's view after a join
  abbrev pub joined : View F → View F → View F
  joined v w = record v {
    seen = longer v.seen w.seen;
    seen_before = v.seen;
    seen_by_other = w.seen;
    ended = v.ended ++ (w.number, w.mine) ∷ [];
  }
