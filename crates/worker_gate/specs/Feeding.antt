-- A submitter and its rows.
use Rattle.std.specs.Prelude.{◌≡◌, ℕ, suc, ◌==◌, ◌≤◌, Bool, true, false, not, List, [], ◌∷◌, ◌++◌, map, length, reverse, Option, Some, None}
use Rattle.fq_model.specs.declared.config.Config.{Config}
use Rattle.fq_model.specs.declared.event.Act.{Act}
use Rattle.fq_model.specs.declared.event.Act.TheVariants.{Submit}
use Rattle.fq_model.specs.declared.event.Call.TheVariants as call
use Rattle.fq_model.specs.declared.event.Cause.{Cause}
use Rattle.fq_model.specs.declared.event.Cause.TheVariants as cause
use Rattle.fq_model.specs.declared.event.Entry.{Entry}
use Rattle.fq_model.specs.declared.event.Reply.TheVariants as answer
use Rattle.program_model.specs.Courses.{Each}
use Rattle.fq_model.specs.History.{History, history_of, Request, has_act, count_acts, is_close, is_closed}
use Rattle.program_model.specs.PoolHistory.{submitted_requests, is_submit_or_close}
use Rattle.fq_model.specs.Rules.{Answers}
use Rattle.history_lock.specs.Histories.{IsPrefix}
use Rattle.history_lock.specs.Passes.{LockView}
use Rattle.desk.specs.declared.floor.Crew.{Crew}
use Rattle.desk.specs.declared.tokens.Submitter.{Submitter}
use Rattle.desk.specs.Tokens.{Stays}
use Rattle.gate_rules.specs.declared.rows.Fed.{Fed}
use Rattle.gate_rules.specs.declared.rows.Fed.TheVariants.{All, Stopped}
use Rattle.gate_rules.specs.declared.rows.Row.{Row}
use Rattle.worker_gate.specs.Moments.{HasToldMomentsFrom}

-- the act is the Submit of the last of `total` requests
abbrev pub is_last_submit : ℕ → Act → Bool
is_last_submit total (Submit request tenant kind declared label) = suc request == total
is_last_submit total _ = false

-- where a submitter closes: right after its Submit of the last request, or before its rows where there is no request at
-- all and it has number 0
abbrev pub ClosesAt : ℕ → ℕ → History → Type 0
ClosesAt total number [] = (total ≡ 0) × (number ≡ 0)
ClosesAt total number (e ∷ P) = is_last_submit total e.act ≡ true

-- these are new entries of a submitter, the newest first: the Submits of these requests, the first one asked first, and
-- one Close at most
pub record IsFeed (total number : ℕ) (asked : List Request) (own : History) : Type 0 where
  pub rows : submitted_requests own ≡ reverse asked
  pub no_other : has_act (λ act. not (is_submit_or_close act)) own ≡ false
  pub one_close : count_acts is_close own ≤ 1
  pub close_place : Each (λ P e. is_close e.act ≡ true → ClosesAt total number P) own

-- where the submitter was to close, the history that it has seen is closed
pub record HasClosed (total number : ℕ) (own seen : History) : Type 0 where
  pub after_last : has_act (is_last_submit total) own ≡ true → is_closed seen ≡ true
  pub at_once : total ≡ 0 → number ≡ 0 → is_closed seen ≡ true

module _ {J : Type 0} where
  -- these rows were submitted, and these are left: all were submitted, or one was refused and those after it are left
  abbrev pub Splits : List (Row J) → List (Row J) → Option (Row J × Cause) → List (Row J) → Type 0
  Splits rows sent None rest = (rows ≡ sent) × (rest ≡ [])
  Splits rows sent (Some (row, why)) rest = rows ≡ sent ++ row ∷ rest

  -- the refused row with its cause, and the rows that are left
  abbrev pub fed_stopped : Fed J → Option (Row J × Cause)
  fed_stopped All = None
  fed_stopped (Stopped row rest why) = Some (row, why)

  abbrev pub fed_rest : Fed J → List (Row J)
  fed_rest All = []
  fed_rest (Stopped row rest why) = rest.items

  -- no row was refused for its kind
  abbrev pub NotByKind : Option (Row J × Cause) → Type 0
  NotByKind (Some (row, cause.Kind kind)) = ⊥
  NotByKind _ = Unit {0}

  -- `label` gives the label of a job, and `kind_for` the kind that a row is submitted with
  module _ (label : J → ℕ) (kind_for : Row J → ℕ) where
    abbrev pub request_of : Row J → Request
    request_of row = record { tenant = row.tenant; kind = kind_for row; declared = row.declared; label = label row.job }

    -- the refused row, if there is one, is refused with this cause at the history that was seen
    abbrev pub IsRefused : Config → (ℕ → Type 0) → ℕ → History → Option (Row J × Cause) → Type 0
    IsRefused C Tells number seen None = Unit {0}
    IsRefused C Tells number seen (Some (row, why)) = (m : ℕ) × Tells m
        × Answers C seen (call.Submit number m row.tenant (kind_for row) row.declared (label row.job))
        (answer.Refused why) seen

    -- The submitter has submitted its rows in order up to the first that was refused, and has closed where it was to
    -- close, at moments that the clock tells
    pub record Feeds
        (lock : LockView Crew) (Tells : ℕ → Type 0) (total : ℕ) (rows : List (Row J)) (old new : Submitter)
        (stopped : Option (Row J × Cause)) (rest : List (Row J)) : Type 0 where
      pub stays : Stays lock old.pass new.pass
      pub seen : IsPrefix old.pass.seen new.pass.seen
      pub sent : List (Row J)
      pub split : Splits rows sent stopped rest
      pub more : List Entry
      pub mine : new.pass.mine ≡ old.pass.mine ++ more
      pub feed : IsFeed total old.pass.number (map request_of sent) (history_of more)
      pub closed : HasClosed total old.pass.number (history_of more) (history_of new.pass.seen)
      pub refused : IsRefused lock.frame.config Tells old.pass.number (history_of new.pass.seen) stopped
      pub moments : HasToldMomentsFrom Tells old.pass.number (length old.pass.seen) (history_of new.pass.seen)
