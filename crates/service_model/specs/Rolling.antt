-- One scheduler follows another where the present one lacks room.
use Rattle.std.specs.Prelude.{ℕ, suc, ◌≡◌, ◌==◌, not, Bool, ◌&&◌, if◌then◌else◌, List, [], ◌∷◌, ◌++◌, map, length, MatchBool}
use Rattle.std.specs.List.{filter}
use Rattle.fq_model.specs.declared.config.Config.{Config}
use Rattle.fq_model.specs.declared.event.Call.{Call}
use Rattle.fq_model.specs.declared.event.Call.TheVariants as call
use Rattle.fq_model.specs.declared.event.Reply.{Reply}
use Rattle.fq_model.specs.declared.event.Reply.TheVariants as answer
use Rattle.fq_model.specs.History.{weight_at}
use Rattle.fq_model.specs.Outcome.{OutcomeFrom}
use Rattle.fq_model.specs.Sums.{list_below}
use Rattle.service_model.specs.declared.config.ServiceConfig.{ServiceConfig}
use Rattle.service_model.specs.View.{Scheduler, Standing, Forwarded, Admitted, ServiceView, is_forwarded, runs_before, workers_now}
use Rattle.service_model.specs.Scheduling.{service_caller, MakesNow, lacks_room}

-- the submit of an admitted request to a scheduler, at m
abbrev pub submit_call : ServiceConfig → ℕ → Admitted → Call
submit_call c m q = call.Submit (service_caller c) m q.slot q.kind q.declared q.label

-- the number of a forwarded request in the present scheduler (read only there)
abbrev pub request_of : Standing → ℕ
request_of (Forwarded request) = request
request_of _ = 0

abbrev pub withdraw_call : ServiceConfig → ℕ → Admitted → Call
withdraw_call c m q = call.Withdraw (service_caller c) m (request_of q.stands)

-- the requests that wait in the present scheduler, by ticket
abbrev pub forwarded : ServiceView → List Admitted
forwarded v = filter is_forwarded v.admitted

-- the next scheduler has the present weights, and the workers of the opening
abbrev pub next_config : ServiceView → Config
next_config v =
    record v.present.config {
      weights = list_below (weight_at v.present.config v.present.history) (length v.slots);
    }

-- where there are fewer workers than at the opening, the next scheduler is told so
abbrev pub has_fewer : ServiceView → Bool
has_fewer v = not (workers_now v == v.present.config.workers)

-- the calls on the next scheduler, and its replies: the requests that wait come in their order
abbrev pub first_calls : ServiceConfig → ℕ → ServiceView → List Call
first_calls c m v =
    (if has_fewer v then call.Workers (service_caller c) m (workers_now v) ∷ [] else [])
    ++ map (submit_call c m) (forwarded v)

abbrev pub first_replies : ServiceView → List Reply
first_replies v =
    (if has_fewer v then answer.Accepted ∷ [] else []) ++ list_below (λ r. answer.Request r) (length (forwarded v))

-- the last calls on the present scheduler, and its replies: these requests are withdrawn, and it is closed
abbrev pub last_calls : ServiceConfig → ℕ → ServiceView → List Call
last_calls c m v = map (withdraw_call c m) (forwarded v) ++ call.Close (service_caller c) m ∷ []

abbrev pub last_replies : ServiceView → List Reply
last_replies v = map (λ q. answer.Withdrawn q.label) (forwarded v) ++ answer.Accepted ∷ []

-- the forwarded requests have the numbers from this one on
abbrev pub renumbered : ℕ → List Admitted → List Admitted
renumbered n [] = []
renumbered n (q ∷ qs) =
    if is_forwarded q then record q { stands = Forwarded n } ∷ renumbered (suc n) qs else q ∷ renumbered n qs

-- At m the next scheduler is opened, and the requests that wait in the present one move to it. What runs ends in the
-- one that is then the former. Held requests stay held.
pub record RollsOver (c : ServiceConfig) (m : ℕ) (v w : ServiceView) : Type 0 where
  pub next : Scheduler
  pub last : Scheduler
  pub next_is : next.config ≡ next_config v
  pub begins : OutcomeFrom next.config [] (first_calls c m v) (first_replies v) next.history
  pub last_is : last.config ≡ v.present.config
  pub ends : OutcomeFrom last.config v.present.history (last_calls c m v) (last_replies v) last.history
  pub after : w ≡ record v {
    admitted = renumbered 0 v.admitted;
    rolls = suc v.rolls;
    present = next;
    former = last;
  }

-- the next scheduler follows, and answers the call
pub record MakesOnNext (c : ServiceConfig) (m : ℕ) (v : ServiceView) (asked : Call) (reply : Reply) (w : ServiceView)
    : Type 0 where
  pub rolled : ServiceView
  pub rolls_over : RollsOver c m v rolled
  pub makes : MakesNow rolled asked reply w

-- A call that needs room: where the present scheduler lacks it and nothing runs in one before it, the next one
-- follows and answers. Else the present one answers; where something still runs before it, it may refuse for want of
-- room.
abbrev pub MakesWithRoom : ServiceConfig → ℕ → ServiceView → Call → Reply → ServiceView → Type 0
MakesWithRoom c m v asked reply w =
    MatchBool (lacks_room v.present asked && not (runs_before v))
    (MakesOnNext c m v asked reply w)
    (MakesNow v asked reply w)
