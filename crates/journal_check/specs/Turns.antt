-- A worker's turn in a journal, and its explanation.
use Rattle.std.specs.Prelude.{ℕ, ◌≡◌, List, Some, slice_get, pos}
use Rattle.fq_model.specs.declared.config.Config.{Config}
use Rattle.fq_model.specs.declared.event.Act.TheVariants.{Take}
use Rattle.fq_model.specs.declared.event.Entry.{Entry}
use Rattle.fq_model.specs.History.{History}
use Rattle.fq_model.specs.Pace.{virtual_time}
use Rattle.fq_model.specs.Keys.{turn_at}
use Rattle.program_model.specs.declared.explained.Explained.{Explained}
use Rattle.journal_check.specs.declared.explaining.TakenAt.{TakenAt}
use Rattle.program_model.specs.Explanations.{AreRows, heads_at}

-- the entry at this place is a Take of the request by this worker
pub record IsTakeAt (entries : List Entry) (request : ℕ) (x : TakenAt) : Type 0 where
  pub estimate : ℕ
  pub there : slice_get entries x.place ≡ Some x.entry
  pub takes : x.entry.act ≡ Take x.worker request estimate

-- the entry is a Take by this worker
pub record IsTakeBy (worker : ℕ) (e : Entry) : Type 0 where
  pub request : ℕ
  pub estimate : ℕ
  pub takes : e.act ≡ Take worker request estimate

-- the explanation of the turn of this worker at m
pub record IsTurn (C : Config) (P : History) (m worker : ℕ) (x : Explained) : Type 0 where
  pub worker_is : x.worker ≡ worker
  pub moment_is : x.moment ≡ m
  pub vtime_is : x.vtime ≡ pos (virtual_time C P m)
  pub rows_are : AreRows (turn_at C P m worker) (heads_at C P m) x.rows.items
