-- The tokens that an opening gives.
use Rattle.std.specs.Prelude.{ℕ, suc, ◌+◌, ◌≡◌, true, false, List, [], ◌∷◌, length, Option, Some}
use Rattle.fq_model.specs.declared.config.Config.{Config}
use Rattle.fq_model.specs.Limits.{is_outside}
use Rattle.history_lock.specs.Passes.{LockView, PassView, IsOf}
use Rattle.status_board.specs.Boards.{BoardView, ReaderView, IsReaderOf}
use Rattle.desk.specs.declared.desk.TheConstants.{MOST_SUBMITTERS}
use Rattle.desk.specs.declared.floor.Crew.{Crew}
use Rattle.desk.specs.declared.refusals.OpenFault.{OpenFault}
use Rattle.desk.specs.declared.refusals.OpenFault.TheVariants as fault
use Rattle.desk.specs.declared.tokens.Submitter.{Submitter}
use Rattle.desk.specs.declared.tokens.Worker.{Worker}
use Rattle.desk.specs.Floors.{crew_for}

-- a pass of this lock with this number, which has seen nothing
pub record IsNew (lock : LockView Crew) (number : ℕ) (pass : PassView Crew) : Type 0 where
  pub own : IsOf lock pass
  pub numbered : pass.number ≡ number
  pub seen : pass.seen ≡ []
  pub mine : pass.mine ≡ []

-- the first pass, after this number of passes were split off
pub record IsSplit (lock : LockView Crew) (made : ℕ) (pass : PassView Crew) : Type 0 where
  pub new : IsNew lock 0 pass
  pub made_is : pass.made ≡ made
  pub ended : pass.ended ≡ []

-- a lock round a floor with no past, and its first pass
pub record IsFresh (crew : Crew) (lock : LockView Crew) (pass : PassView Crew) : Type 0 where
  pub frame : lock.frame ≡ crew
  pub first : IsSplit lock 0 pass

-- the submitters from this number on
abbrev pub AreSubmitters : LockView Crew → ℕ → List Submitter → Type 0
AreSubmitters lock from [] = Unit {0}
AreSubmitters lock from (token ∷ tokens) = IsNew lock from token.pass × AreSubmitters lock (suc from) tokens

-- the workers from this one on
abbrev pub AreWorkers : LockView Crew → ℕ → List Worker → Type 0
AreWorkers lock from [] = Unit {0}
AreWorkers lock from (token ∷ tokens) =
    (IsNew lock (lock.frame.submitters + from) token.pass × (token.worker ≡ from)) × AreWorkers lock (suc from) tokens

-- with the passes that the first one has split off there are this many
abbrev pub HasMade : ℕ → List Submitter → Type 0
HasMade callers [] = ⊥
HasMade callers (token ∷ tokens) = (token.pass.made + 1 ≡ callers) × (token.pass.ended ≡ [])

-- All tokens of a desk that was just opened: submitter j has number j, and worker i the number that follows those of
-- the submitters by i
pub record AreTokens (crew : Crew) (lock : LockView Crew) (first : List Submitter) (second : List Worker) : Type 0 where
  pub frame : lock.frame ≡ crew
  pub submitters_are : AreSubmitters lock 0 first
  pub workers_are : AreWorkers lock 0 second
  pub submitter_count : length first ≡ crew.submitters
  pub worker_count : length second ≡ crew.config.workers
  pub made : HasMade (crew.submitters + crew.config.workers) first

-- A desk that was opened to show its past: its tokens, the board that it shares, and a reader there that has seen
-- nothing
pub record AreShownTokens
    (config : Config) (submitters : ℕ) (lock : LockView Crew) (shared : Option BoardView) (reader : ReaderView)
    (first : List Submitter) (second : List Worker) : Type 0 where
  pub board : BoardView
  pub shared_is : shared ≡ Some board
  pub config_is : board.config ≡ config
  pub tokens : AreTokens (crew_for config submitters (Some board)) lock first second
  pub reader_own : IsReaderOf board reader
  pub reader_seen : reader.seen ≡ []

-- the fault says how many submitters are too few or too many
abbrev pub IsOutside : ℕ → OpenFault → Type 0
IsOutside submitters (fault.Submitters n) = (n ≡ submitters) × (is_outside 1 MOST_SUBMITTERS submitters ≡ true)
IsOutside submitters fault.NoMemory = is_outside 1 MOST_SUBMITTERS submitters ≡ false
