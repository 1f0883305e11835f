-- The request that a worker runs after a turn of its pass, by its own entries.
use Rattle.std.proofs.Common.{◌≡◌, ℕ, ◌+◌, ◌<◌, Some, None, Result, sym, ap, ◌∙◌, subst, refl}
use Rattle.fq_model.specs.declared.event.Reply.{Reply}
use Rattle.fq_model.specs.History.{history_of, running_on}
use Rattle.fq_model.specs.Outcome.{own_entries}
use Rattle.history_lock.specs.Passes.{LockView, PassView, IsOf}
use Rattle.desk.specs.declared.floor.Crew.{Crew}
use Rattle.desk.specs.declared.asking.Ask.{Ask}
use Rattle.desk.specs.declared.asking.Ask.TheVariants as ask
use Rattle.desk.specs.declared.asking.DeskReply.{DeskReply}
use Rattle.desk.specs.declared.asking.DeskReply.TheVariants as replies
use Rattle.sched_state.specs.declared.replies.Taken.{Taken}
use Rattle.sched_state.specs.Replies.{take_reply, change_reply}
use Rattle.fq_model.specs.declared.event.Cause.{Cause}
use Rattle.desk.specs.Staffed.{MayAsk}
use Rattle.desk.specs.Asking.{call_of, reply_of, HasTurned, IsChange, Suits}
use Rattle.desk.specs.Replies.{TookLeft}
use Rattle.desk.specs.Tokens.{submitters_of, workers_of, IsAnswered}
use Rattle.desk.proofs.Keeping.{staffed_on}
use Rattle.desk.proofs.Own.{runs_by_own, own_gained}
use Rattle.desk.proofs.Left.{ReportLeft, DoneLeft, took_left, report_left, done_left, reported_runs, took_same, report_same, done_same}

module _ {J : Type 0} (label : J → ℕ) where
  -- at P before the turn, and after the turn, the request that a worker runs is that of its own entries
  before : (crew : Crew) (old new : PassView Crew) (i : ℕ) (asked : Ask J) (reply : DeskReply J) (t : HasTurned label crew old new asked reply) → old.number ≡ crew.submitters + i → running_on (history_of t.0) i ≡ running_on (history_of old.mine) i
  before crew old new i asked reply t by = sym (runs_by_own crew.submitters i old.number t.0 old.mine by t.2 t.3.staffed)

  after : (crew : Crew) (old new : PassView Crew) (i : ℕ) (asked : Ask J) (reply : DeskReply J) → HasTurned label crew old new asked reply → MayAsk crew old.number asked → old.number ≡ crew.submitters + i → running_on (history_of new.mine) i ≡ running_on (history_of new.seen) i
  after crew old new i asked reply t may by =
      runs_by_own crew.submitters i old.number new.seen new.mine by (own_gained old.number t.0 new.seen old.mine new.mine t.2 t.4) (staffed_on label crew (history_of t.0) old.number asked (reply_of label reply) (history_of new.seen) may t.3.staffed t.3.answers)

  pub numbered_by : (lock : LockView Crew) (old : PassView Crew) (i : ℕ) → IsOf lock old → old.number ≡ submitters_of old.frame + i → old.number ≡ lock.frame.submitters + i
  numbered_by lock old i own by = by ∙ ap (λ f. submitters_of f + i) own.1

  known_by : (lock : LockView Crew) (old : PassView Crew) (i : ℕ) → IsOf lock old → i < workers_of old.frame → i < lock.frame.config.workers
  known_by lock old i own known = subst (λ f. i < workers_of f) own.1 known

  -- a Take is answered u
  pub take_leaves : (lock : LockView Crew) (old new : PassView Crew) (m i : ℕ) (taken u : Taken J) → IsOf lock old → old.number ≡ submitters_of old.frame + i → i < workers_of old.frame → running_on (history_of old.mine) i ≡ None
      → HasTurned label lock.frame old new (ask.Take m i) (replies.Took taken) → taken ≡ u → TookLeft i (history_of new.mine) (take_reply label u)
  take_leaves lock old new m i taken u own by known free t is =
      let n = numbered_by lock old i own by in
      let x : TookLeft i (history_of new.seen) (take_reply label taken) = took_left lock.frame.config (history_of t.0) old.number m i (take_reply label taken) (history_of new.seen) (known_by lock old i own known) (before lock.frame old new i (ask.Take m i) (replies.Took taken) t n ∙ free) t.3.answers in
      took_same i (history_of new.seen) (history_of new.mine) (take_reply label u) (after lock.frame old new i (ask.Take m i) (replies.Took taken) t n n) (subst (λ (v : Taken J). TookLeft i (history_of new.seen) (take_reply label v)) is x)

  -- a Report is answered u
  pub report_leaves : (lock : LockView Crew) (old new : PassView Crew) (m i used r : ℕ) (result u : Result (Unit {0}) Cause) → IsOf lock old → old.number ≡ submitters_of old.frame + i → i < workers_of old.frame → running_on (history_of old.mine) i ≡ Some r
      → HasTurned label lock.frame old new (ask.Report m i used) (replies.Changed result) → result ≡ u → ReportLeft i r (history_of new.mine) (change_reply u)
  report_leaves lock old new m i used r result u own by known runs t is =
      let n = numbered_by lock old i own by in
      let x : ReportLeft i r (history_of new.seen) (change_reply result) = report_left lock.frame.config (history_of t.0) old.number m i used r (change_reply result) (history_of new.seen) (known_by lock old i own known) (before lock.frame old new i (ask.Report m i used) (replies.Changed result) t n ∙ runs) t.3.answers in
      report_same i r (history_of new.seen) (history_of new.mine) (change_reply u) (after lock.frame old new i (ask.Report m i used) (replies.Changed result) t n n) (subst (λ v. ReportLeft i r (history_of new.seen) (change_reply v)) is x)

  -- a Done is answered u
  pub done_leaves : (lock : LockView Crew) (old new : PassView Crew) (m i cost r : ℕ) (result u : Result (Unit {0}) Cause) → IsOf lock old → old.number ≡ submitters_of old.frame + i → i < workers_of old.frame → running_on (history_of old.mine) i ≡ Some r
      → HasTurned label lock.frame old new (ask.Done m i cost) (replies.Changed result) → result ≡ u → DoneLeft i r (history_of new.mine) (change_reply u)
  done_leaves lock old new m i cost r result u own by known runs t is =
      let n = numbered_by lock old i own by in
      let x : DoneLeft i r (history_of new.seen) (change_reply result) = done_left lock.frame.config (history_of t.0) old.number m i cost r (change_reply result) (history_of new.seen) (known_by lock old i own known) (before lock.frame old new i (ask.Done m i cost) (replies.Changed result) t n ∙ runs) t.3.answers in
      done_same i r (history_of new.seen) (history_of new.mine) (change_reply u) (after lock.frame old new i (ask.Done m i cost) (replies.Changed result) t n n) (subst (λ v. DoneLeft i r (history_of new.seen) (change_reply v)) is x)

  -- whatever the answer to a Report, the worker runs on
  pub report_runs : (lock : LockView Crew) (old new : PassView Crew) (m i used r : ℕ) (reply : DeskReply J) → IsOf lock old → old.number ≡ submitters_of old.frame + i → i < workers_of old.frame → running_on (history_of old.mine) i ≡ Some r
      → HasTurned label lock.frame old new (ask.Report m i used) reply → running_on (history_of new.mine) i ≡ Some r
  report_runs lock old new m i used r reply own by known runs t =
      let n = numbered_by lock old i own by in
      after lock.frame old new i (ask.Report m i used) reply t n n ∙ reported_runs i r (history_of new.seen) (reply_of label reply) (report_left lock.frame.config (history_of t.0) old.number m i used r (reply_of label reply) (history_of new.seen) (known_by lock old i own known) (before lock.frame old new i (ask.Report m i used) reply t n ∙ runs) t.3.answers)

  -- the contract of a turn gives that of a call
  pub answered : (crew : Crew) (old new : PassView Crew) (asked : Ask J) (reply : DeskReply J) (r : Reply) → HasTurned label crew old new asked reply → reply_of label reply ≡ r → IsAnswered crew old (call_of label old.number asked) r new
  answered crew old new asked reply r t is = record { P = t.0; begins = t.1; own = t.2; legal = t.3.legal; staffed = t.3.staffed; answers = rw (← is) t.3.answers; gains = t.4 }

  -- a pass's own entries after a turn are its entries in the history that it has seen
  pub own_kept : (crew : Crew) (old new : PassView Crew) (asked : Ask J) (reply : DeskReply J) → HasTurned label crew old new asked reply → new.number ≡ old.number → new.mine ≡ own_entries new.seen new.number
  own_kept crew old new asked reply t same = sym (ap (own_entries new.seen) same ∙ own_gained old.number t.0 new.seen old.mine new.mine t.2 t.4)

-- the pass of a submitter is one after a turn
pub below_kept : (lock : LockView Crew) (old new : PassView Crew) → IsOf lock old → IsOf lock new → new.number ≡ old.number → old.number < submitters_of old.frame → new.number < submitters_of new.frame
below_kept lock old new was is same below = rw (same, is.1) (subst (λ f. old.number < submitters_of f) was.1 below)

-- and so is that of a worker, which keeps its number among the workers
pub numbered_kept : (lock : LockView Crew) (old new : PassView Crew) (i : ℕ) → IsOf lock old → IsOf lock new → new.number ≡ old.number → old.number ≡ submitters_of old.frame + i → new.number ≡ submitters_of new.frame + i
numbered_kept lock old new i was is same by = same ∙ (by ∙ ap (λ f. submitters_of f + i) (was.1 ∙ sym is.1))

pub known_kept : (lock : LockView Crew) (old new : PassView Crew) (i : ℕ) → IsOf lock old → IsOf lock new → i < workers_of old.frame → i < workers_of new.frame
known_kept lock old new i was is known = subst (λ f. i < workers_of f) (was.1 ∙ sym is.1) known

-- a change is answered as one
pub changed_is : {J : Type 0} (asked : Ask J) (reply : DeskReply J) → IsChange asked → Suits asked reply → (result : Result (Unit {0}) Cause) × (reply ≡ replies.Changed result)
changed_is (ask.Report moment worker used) (replies.Changed result) is s = (result, refl)
changed_is (ask.Report moment worker used) (replies.Submitted result) is s = absurd s
changed_is (ask.Report moment worker used) (replies.Took taken) is s = absurd s
changed_is (ask.Report moment worker used) (replies.Closed result) is s = absurd s
changed_is (ask.Report moment worker used) (replies.Withdrawn result) is s = absurd s
changed_is (ask.Done moment worker cost) (replies.Changed result) is s = (result, refl)
changed_is (ask.Done moment worker cost) (replies.Submitted result) is s = absurd s
changed_is (ask.Done moment worker cost) (replies.Took taken) is s = absurd s
changed_is (ask.Done moment worker cost) (replies.Closed result) is s = absurd s
changed_is (ask.Done moment worker cost) (replies.Withdrawn result) is s = absurd s
changed_is (ask.Weight moment tenant weight) (replies.Changed result) is s = (result, refl)
changed_is (ask.Weight moment tenant weight) (replies.Submitted result) is s = absurd s
changed_is (ask.Weight moment tenant weight) (replies.Took taken) is s = absurd s
changed_is (ask.Weight moment tenant weight) (replies.Closed result) is s = absurd s
changed_is (ask.Weight moment tenant weight) (replies.Withdrawn result) is s = absurd s
changed_is (ask.Workers moment count) (replies.Changed result) is s = (result, refl)
changed_is (ask.Workers moment count) (replies.Submitted result) is s = absurd s
changed_is (ask.Workers moment count) (replies.Took taken) is s = absurd s
changed_is (ask.Workers moment count) (replies.Closed result) is s = absurd s
changed_is (ask.Workers moment count) (replies.Withdrawn result) is s = absurd s
changed_is (ask.Submit moment tenant kind declared job) reply is s = absurd is
changed_is (ask.Take moment worker) reply is s = absurd is
changed_is (ask.Close moment) reply is s = absurd is
changed_is (ask.Withdraw moment request) reply is s = absurd is
