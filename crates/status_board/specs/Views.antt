-- The parts of a view, and its changes.
use Rattle.std.specs.Prelude.{Bool, true, false, [], Some, None}
use Rattle.fq_model.specs.declared.config.Config.{Config}
use Rattle.status_board.specs.declared.table.View.{View}
use Rattle.status_board.specs.declared.table.Stage.{Stage}
use Rattle.status_board.specs.declared.table.Stage.TheVariants.{Spent, Idle, Rests}

abbrev pub is_idle : Stage → Bool
is_idle Idle = true
is_idle _ = false

abbrev pub is_resting : Stage → Bool
is_resting Rests = true
is_resting _ = false

-- the writer of a board, before anything was shown
abbrev pub first_writer : Config → View
first_writer C = record { config = Some C; seen = []; joined = []; stage = Rests; noted = []; version = 0; words = [] }

-- a view that is nobody's any more
abbrev pub spent_view : View
spent_view = record { config = None; seen = []; joined = []; stage = Spent; noted = []; version = 0; words = [] }

-- a view that stays while another is split off
abbrev pub same_view : View → View
same_view v = v

-- a reader that has seen the same
abbrev pub new_reader : View → View
new_reader v = record v { stage = Idle }

-- the writer keeps the history that a reader had seen which it takes in
abbrev pub with_joined : View → View → View
with_joined v w = record v { joined = w.seen }
