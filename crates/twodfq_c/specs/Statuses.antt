-- How a scheduler stands, in plain numbers.
use Rattle.std.specs.Prelude.{◌≡◌, ◌+◌, ◌*◌, ◌<◌, pos, Some, None}
use Rattle.fq_model.specs.declared.parts.Status.{Status}
use Rattle.fq_model.specs.History.{history_of}
use Rattle.fq_model.specs.Status.{status_of}
use Rattle.twodfq_c.specs.declared.status.PlainStatus.{PlainStatus}
use Rattle.twodfq_c.specs.Held.{Held}

-- the numbers of a status. Its virtual time is in steps, of which a unit has 1,048,576: whole units, and the steps
-- beyond
pub record TellsStatus (s : Status) (plain : PlainStatus) : Type 0 where
  pub kind : plain.kind ≡ 0
  pub entries : plain.entries ≡ s.entries
  pub moment : plain.moment ≡ s.moment
  pub vtime : s.vtime ≡ pos (plain.units * 1048576 + plain.steps)
  pub beyond : plain.steps < 1048576
  pub waiting : plain.waiting ≡ s.waiting
  pub running : plain.running ≡ s.running

-- where no scheduler is held
abbrev pub no_status : PlainStatus
no_status = record { kind = 255; waiting = 0; running = 0; steps = 0; units = 0; entries = 0; moment = 0 }

-- the numbers are of the history that is held
abbrev pub TellsHeld : Held → PlainStatus → Type 0
TellsHeld None plain = plain ≡ no_status
TellsHeld (Some s) plain = TellsStatus (status_of s.config (history_of s.past)) plain
