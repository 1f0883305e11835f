-- The answer to a call at a caller's turn.
use Rattle.std.specs.Prelude.{ℕ, ◌≡◌, List, Ok, Err}
use Rattle.fq_model.specs.declared.event.Call.{Call}
use Rattle.fq_model.specs.declared.event.Call.TheVariants as call
use Rattle.fq_model.specs.declared.event.Reply.{Reply}
use Rattle.fq_model.specs.declared.event.Entry.{Entry}
use Rattle.fq_model.specs.History.{history_of}
use Rattle.fq_model.specs.Outcome.{own_entries}
use Rattle.fq_model.specs.Rules.{IsLegal, Answers}
use Rattle.history_lock.specs.Histories.{IsPrefix, Gains}
use Rattle.history_lock.specs.Passes.{PassView}
use Rattle.sched_state.specs.Replies.{submit_reply, take_reply, change_reply, close_reply, withdraw_reply}
use Rattle.desk.specs.declared.floor.Crew.{Crew}
use Rattle.desk.specs.declared.asking.Ask.{Ask}
use Rattle.desk.specs.declared.asking.Ask.TheVariants as ask
use Rattle.desk.specs.declared.asking.DeskReply.{DeskReply}
use Rattle.desk.specs.declared.asking.DeskReply.TheVariants as replies
use Rattle.desk.specs.Staffed.{IsStaffed}

-- the call that is asked, by this caller
abbrev pub call_of : {J : Type 0} → (J → ℕ) → ℕ → Ask J → Call
call_of label who (ask.Submit moment tenant kind declared job) = call.Submit who moment tenant kind declared (label job)
call_of label who (ask.Take moment worker) = call.Take who moment worker
call_of label who (ask.Report moment worker used) = call.Report who moment worker used
call_of label who (ask.Done moment worker cost) = call.Done who moment worker cost
call_of label who (ask.Close moment) = call.Close who moment
call_of label who (ask.Weight moment tenant weight) = call.Weight who moment tenant weight
call_of label who (ask.Workers moment count) = call.Workers who moment count
call_of label who (ask.Withdraw moment request) = call.Withdraw who moment request

-- the reply in an answer
abbrev pub reply_of : {J : Type 0} → (J → ℕ) → DeskReply J → Reply
reply_of label (replies.Submitted result) = submit_reply result
reply_of label (replies.Took taken) = take_reply label taken
reply_of label (replies.Closed result) = close_reply result
reply_of label (replies.Changed result) = change_reply result
reply_of label (replies.Withdrawn result) = withdraw_reply label result

-- the answer is of the call's kind, and a refused Submit gives its job back
abbrev pub Suits : {J : Type 0} → Ask J → DeskReply J → Type 0
Suits (ask.Submit moment tenant kind declared job) (replies.Submitted (Ok request)) = Unit {0}
Suits (ask.Submit moment tenant kind declared job) (replies.Submitted (Err refused)) = refused.job ≡ job
Suits (ask.Take moment worker) (replies.Took taken) = Unit {0}
Suits (ask.Report moment worker used) (replies.Changed result) = Unit {0}
Suits (ask.Done moment worker cost) (replies.Changed result) = Unit {0}
Suits (ask.Close moment) (replies.Closed result) = Unit {0}
Suits (ask.Weight moment tenant weight) (replies.Changed result) = Unit {0}
Suits (ask.Workers moment count) (replies.Changed result) = Unit {0}
Suits (ask.Withdraw moment request) (replies.Withdrawn result) = Unit {0}
Suits _ _ = ⊥

-- it is a call that changes something or is refused, and no more
abbrev pub IsChange : {J : Type 0} → Ask J → Type 0
IsChange (ask.Report moment worker used) = Unit {0}
IsChange (ask.Done moment worker cost) = Unit {0}
IsChange (ask.Weight moment tenant weight) = Unit {0}
IsChange (ask.Workers moment count) = Unit {0}
IsChange _ = ⊥

-- At P, which is legal and staffed, this caller makes this call, with this answer; the history is then P2
pub record AnswersAsk
    {J : Type 0} (label : J → ℕ) (crew : Crew) (P : List Entry) (who : ℕ) (asked : Ask J) (reply : DeskReply J)
    (P2 : List Entry) : Type 0 where
  pub legal : IsLegal crew.config (history_of P)
  pub staffed : IsStaffed crew.submitters (history_of P)
  pub answers : Answers crew.config (history_of P) (call_of label who asked) (reply_of label reply) (history_of P2)
  pub suits : Suits asked reply

-- At some history P, which begins with all that the pass had seen, its caller made this call, with this answer; it has
-- then seen the history after the call, and its own entries have gained the new entry, if there is one
abbrev pub HasTurned : {J : Type 0} → (J → ℕ) → Crew → (old new : PassView Crew) → Ask J → DeskReply J → Type 0
HasTurned label crew old new asked reply =
    (P : List Entry) × IsPrefix old.seen P × (own_entries P old.number ≡ old.mine)
    × AnswersAsk label crew P old.number asked reply new.seen × Gains old.number P new.seen old.mine new.mine
