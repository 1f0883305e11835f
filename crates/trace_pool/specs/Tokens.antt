-- The tokens of hands.
use Rattle.std.specs.Prelude.{◌≡◌, ◌≤◌, List, [], ◌∷◌, length, vec_capacity}
use Rattle.fq_model.specs.declared.parts.Status.{Status}
use Rattle.status_board.specs.Boards.{ReaderView}
use Rattle.desk.specs.declared.tokens.Submitter.{Submitter}
use Rattle.desk.specs.declared.tokens.Worker.{Worker}
use Rattle.worker_gate.specs.declared.pool.Hand.TheVariants.{Feed, Work, Watch}
use Rattle.trace_pool.specs.declared.hands.Tokens.{Tokens}
use Rattle.trace_pool.specs.Hands.{TraceHand}

-- the submitters of the hands, in order
abbrev pub submitters_in : List TraceHand → List Submitter
submitters_in [] = []
submitters_in (Feed who queue total stopped ∷ hands) = who ∷ submitters_in hands
submitters_in (_ ∷ hands) = submitters_in hands

-- the workers of the hands, in order
abbrev pub workers_in : List TraceHand → List Worker
workers_in [] = []
workers_in (Work worker log ∷ hands) = worker ∷ workers_in hands
workers_in (_ ∷ hands) = workers_in hands

-- the readers of the hands, in order
abbrev pub readers_in : List TraceHand → List ReaderView
readers_in [] = []
readers_in (Watch reader left expected seen ∷ hands) = reader ∷ readers_in hands
readers_in (_ ∷ hands) = readers_in hands

-- the statuses of the last watcher among the hands, and else these
abbrev pub statuses_in : List Status → List TraceHand → List Status
statuses_in older [] = older
statuses_in older (Watch reader left expected seen ∷ hands) = statuses_in seen.items hands
statuses_in older (_ ∷ hands) = statuses_in older hands

-- the tokens are those of these hands, and the statuses those of the last watcher, and else the older ones
pub record AreTokensOf (hands : List TraceHand) (older : List Status) (tokens : Tokens) : Type 0 where
  pub submitters_are : tokens.submitters.items ≡ submitters_in hands
  pub workers_are : tokens.workers.items ≡ workers_in hands
  pub readers_are : tokens.readers.items ≡ readers_in hands
  pub statuses_are : tokens.statuses.items ≡ statuses_in older hands

-- there are no tokens yet, and there is place for those of these hands
pub record HasPlaces (hands : List TraceHand) (tokens : Tokens) : Type 0 where
  pub no_submitters : tokens.submitters.items ≡ []
  pub submitters_fit : length (submitters_in hands) ≤ vec_capacity tokens.submitters
  pub no_workers : tokens.workers.items ≡ []
  pub workers_fit : length (workers_in hands) ≤ vec_capacity tokens.workers
  pub no_readers : tokens.readers.items ≡ []
  pub readers_fit : length (readers_in hands) ≤ vec_capacity tokens.readers
