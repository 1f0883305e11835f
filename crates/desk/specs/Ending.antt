-- The tokens that an ending needs, and its results.
use Rattle.std.specs.Prelude.{ℕ, ◌<◌, ◌≤◌, ◌≡◌, ◌⊎◌, List, [], ◌∷◌, ◌++◌}
use mathlib.Core.Option.{some}
use lib.ListN.{get_elem?}
use Rattle.fq_model.specs.declared.event.Entry.{Entry}
use Rattle.fq_model.specs.History.{history_of}
use Rattle.fq_model.specs.Outcome.{own_entries}
use Rattle.fq_model.specs.Rules.{IsLegal}
use Rattle.history_lock.specs.Histories.{IsPrefix}
use Rattle.history_lock.specs.Passes.{LockView, PassView, IsOf}
use Rattle.history_lock.specs.Last.{WasLast}
use Rattle.sched_state.specs.Scheduler.{SchedulerView}
use Rattle.desk.specs.declared.floor.Crew.{Crew}
use Rattle.desk.specs.declared.tokens.Submitter.{Submitter}
use Rattle.desk.specs.declared.tokens.Worker.{Worker}
use Rattle.desk.specs.Staffed.{IsStaffed}
use Rattle.desk.specs.Floors.{FloorView, crew_of}

-- it holds of each
abbrev pub HoldsOfEach : {A : Type 0} → (A → Type 0) → List A → Type 0
HoldsOfEach Holds [] = Unit {0}
HoldsOfEach Holds (x ∷ xs) = Holds x × HoldsOfEach Holds xs

-- it holds of some
abbrev pub HoldsOfSome : {A : Type 0} → (A → Type 0) → List A → Type 0
HoldsOfSome Holds [] = ⊥
HoldsOfSome Holds (x ∷ xs) = Holds x ⊎ HoldsOfSome Holds xs

abbrev pub IsFirst : List Submitter → Type 0
IsFirst [] = ⊥
IsFirst (token ∷ tokens) = token.pass.number ≡ 0

-- the tokens are of this lock, and the first submitter has number 0
pub record AreOf (lock : LockView Crew) (submitters : List Submitter) (workers : List Worker) : Type 0 where
  pub submitters_own : HoldsOfEach (λ t. IsOf lock t.pass) submitters
  pub workers_own : HoldsOfEach (λ t. IsOf lock t.pass) workers
  pub first : IsFirst submitters

-- the past begins with all that the pass had seen, and has of its caller just its own entries
abbrev pub IsIn : List Entry → PassView Crew → Type 0
IsIn past pass = IsPrefix pass.seen past × (own_entries past pass.number ≡ pass.mine)

-- so it is for each token that is handed in
pub record HasAll (past : List Entry) (submitters : List Submitter) (workers : List Worker) : Type 0 where
  pub of_submitters : HoldsOfEach (λ t. IsIn past t.pass) submitters
  pub of_workers : HoldsOfEach (λ t. IsIn past t.pass) workers

-- how many passes the first submitter's split off
abbrev pub first_made : List Submitter → ℕ
first_made [] = 0
first_made (token ∷ tokens) = token.pass.made

-- each pass that was split off is handed in
abbrev pub AreAll : List Submitter → List Worker → Type 0
AreAll submitters workers = (number : ℕ) → 0 < number → number ≤ first_made submitters
    → HoldsOfSome (λ t. t.pass.number ≡ number) submitters ⊎ HoldsOfSome (λ t. t.pass.number ≡ number) workers

-- the scheduler that a desk gives back: its configuration is that of the opening, and its past is one legal history
-- whose entries are made by those who may make them
pub record IsGivenBack {J : Type 0} (crew : Crew) (scheduler : SchedulerView J) : Type 0 where
  pub config : scheduler.config ≡ crew.config
  pub legal : IsLegal crew.config (history_of scheduler.past)
  pub staffed : IsStaffed crew.submitters (history_of scheduler.past)

-- a pass has taken this one in
abbrev pub IsTaken : PassView Crew → PassView Crew → Type 0
IsTaken new pass = IsPrefix pass.seen new.seen × ((j : ℕ) × (get_elem? new.ended j ≡ some (pass.number, pass.mine)))

-- the first pass, after it has taken in those of the tokens
pub record HasJoined
    {A : Type 0} (lock : LockView Crew) (pass_of : A → PassView Crew) (old : PassView Crew) (tokens : List A)
    (new : PassView Crew) : Type 0 where
  pub own : IsOf lock new
  pub number : new.number ≡ 0
  pub seen : IsPrefix old.seen new.seen
  pub mine : new.mine ≡ old.mine
  pub made : new.made ≡ old.made
  pub more : List (ℕ × List Entry)
  pub ended : new.ended ≡ old.ended ++ more
  pub taken : HoldsOfEach (λ t. IsTaken new (pass_of t)) tokens

-- the first submitter's pass, after it has taken in those of the other submitters and then those of the workers
abbrev pub HasTakenIn : LockView Crew → List Submitter → List Worker → PassView Crew → Type 0
HasTakenIn lock [] workers pass = ⊥
HasTakenIn lock (token ∷ tokens) workers pass = (between : PassView Crew)
    × HasJoined lock (λ (t : Submitter). t.pass) token.pass tokens between
    × HasJoined lock (λ (t : Worker). t.pass) between workers pass

-- The last moment of a desk's lock, when no call is under way: the pass that took in all that were handed in is one of
-- its views, and these are the numbers of turns drawn and served, modulo 2^64. J is the view of a job
pub record LastMoment (J : Type 0) (lock : LockView Crew) (submitters : List Submitter) (workers : List Worker)
    (drawn served : ℕ) : Type 0 where
  pub pass : PassView Crew
  pub taken : HasTakenIn lock submitters workers pass
  pub last : WasLast (λ (f : FloorView J). f.scheduler.past) crew_of lock.frame pass drawn served
