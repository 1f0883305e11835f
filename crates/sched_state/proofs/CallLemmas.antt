-- The calls of a scheduler: the rows that they read, and their replies.
use Rattle.std.proofs.Common.{ℕ, ◌<◌, ◌≤◌, ◌≡◌, ◌≢◌, Bool, true, false, cond, arith, refl, sym, ap, subst, ◌∙◌, [], ◌∷◌, ◌++◌, length, Option, Some, None}
use Rattle.std.specs.Prelude.{nat_le, Result, Ok, Err}
use Rattle.std.specs.Result.{IsErrAnd}
use Rattle.std.proofs.lemmas.Bool.{ne_eqb}
use Rattle.std.proofs.lemmas.List.{length-append}
use Rattle.std.proofs.lemmas.Bool.Decides.{nat_tests}
use Rattle.vt_fixed.specs.declared.limits.TheConstants.{GREATEST_MOMENT}
use Rattle.fq_model.specs.declared.config.Config.{Config}
use Rattle.fq_model.specs.declared.event.Entry.{Entry}
use Rattle.fq_model.specs.declared.event.Act.{Act}
use Rattle.fq_model.specs.declared.event.Act.TheVariants.{Submit, Take, Report, Done, Close, Weight, Workers, Withdraw}
use Rattle.fq_model.specs.declared.event.Call.{Call}
use Rattle.fq_model.specs.declared.event.Call.TheVariants as call
use Rattle.fq_model.specs.declared.event.Reply.{Reply}
use Rattle.fq_model.specs.declared.event.Reply.TheVariants as answer
use Rattle.fq_model.specs.declared.event.Cause.{Cause}
use Rattle.fq_model.specs.declared.event.Cause.TheVariants as cause
use Rattle.fq_model.specs.Limits.{InLimits}
use Rattle.fq_model.specs.History.{History, Request, request_at, waiting, is_closed, submits, pool_at}
use Rattle.fq_model.specs.Time.{last_moment, effective_moment}
use Rattle.fq_model.specs.Rules.{IsLegal, FitsUse, IsChosen, IsAccepted, RunsChosen, AnswersFree, RefusedOrElse, Answers, request_on, use_refusals, submit_refusal, take_refusal, report_refusal, done_refusal, close_refusal, weight_refusal, workers_refusal, withdraw_refusal, label_of}
use Rattle.fq_laws.specs.Words.{one_more}
use Rattle.fq_laws.proofs.Rules.Refusals.{all_false, le_false, submit_fits, report_fits, done_fits, close_fits, weight_fits, workers_fits, withdraw_fits, request_on_is}
use Rattle.charge_book.specs.declared.row.RunRow.{RunRow}
use Rattle.charge_book.specs.Book.{row_on}
use Rattle.charge_book.proofs.Refusals.{row_of}
use Rattle.tag_rules.specs.Tables.{ChooserView}
use Rattle.sched_state.specs.declared.tracker.Tracker.{Tracker}
use Rattle.sched_journal.specs.Journal.{JournalView, history, with_entry}
use Rattle.sched_journal.specs.Stores.{StoreView, with_one}
use Rattle.sched_state.specs.Lists.{JobMap}
use Rattle.sched_state.specs.declared.replies.AlreadyClosed.{AlreadyClosed}
use Rattle.sched_state.specs.declared.replies.Taken.{Taken}
use Rattle.sched_state.specs.declared.replies.Taken.TheVariants as taken
use Rattle.sched_state.specs.Refusals.{HasNoJob}
use Rattle.sched_state.specs.Replies.{AnswersCall, HandsOut, HandsBack, change_reply, withdraw_reply, close_reply}
use Rattle.sched_state.specs.Scheduler.{SchedulerView}
use Rattle.sched_state.specs.Kept.{IsStored, KeepsScheduler}
use Rattle.sched_state.specs.Tracker.{Tracks}
use Rattle.sched_journal.proofs.JournalLemmas.{history_with}
use Rattle.sched_state.proofs.RefusalLemmas.{room_row}

-- ---- the scheduler after a call

abbrev with_jobs : {J : Type 0} → JournalView → JobMap J → ℕ → SchedulerView J
with_jobs j jobs keep = record { config = j.config; past = j.past; jobs = jobs; keep = keep }

-- a call that changes nothing
pub unmoved : {J : Type 0} (j : JournalView) (jobs : JobMap J) (keep : ℕ) (now : SchedulerView J) (a : Call) (reply : Reply) → with_jobs j jobs keep ≡ now → Answers j.config (history j) a reply (history j) → AnswersCall now a reply now
unmoved j jobs keep now a reply is x = subst (λ v. AnswersCall v a reply v) is (record { answers = x; config_is = refl; keep_is = refl })

-- a call that adds this entry
pub moved : {J : Type 0} (j k : JournalView) (s t : StoreView) (e : Entry) (jobs more : JobMap J) (now : SchedulerView J) (a : Call) (reply : Reply) → with_jobs j jobs s.keep ≡ now → k ≡ with_entry j e → t ≡ with_one s e → Answers j.config (history j) a reply (e ∷ history j) → AnswersCall now a reply (with_jobs k more t.keep)
moved j k s t e jobs more now a reply is new stored x = subst (λ v. AnswersCall v a reply (with_jobs k more t.keep)) is (rw (new, stored) (record {
  answers = rw (history_with j.past e) x;
  config_is = refl;
  keep_is = refl;
}))

-- all that is kept is of the journal with the entry
pub entered : {J X : Type 0} (label : J → ℕ) (seen : X → ChooserView) (j k : JournalView) (s t : StoreView) (e : Entry) (tracker : Tracker J X) → k ≡ with_entry j e → t ≡ with_one s e → IsStored j s → Tracks label seen j.config (e ∷ history j) tracker → KeepsScheduler label seen k tracker t
entered label seen j k s t e tracker new more stored x = rw (new, more) (record {
  tracks = rw (history_with j.past e) x;
  stored = record { past_is = ap (λ l. l ++ e ∷ []) stored.past_is; room = stored.room };
})

-- the store has room for an entry that came
pub has_room : (j k : JournalView) (s : StoreView) (e : Entry) → IsStored j s → k ≡ with_entry j e → length k.past ≤ k.config.entries → length s.past < s.room
has_room j k s e stored new within = omega (arith, ap (λ (v : JournalView). length v.past) new, ap (λ (v : JournalView). v.config.entries) new, length-append j.past (e ∷ []), within, ap length stored.past_is, stored.room)

-- refused for this cause
pub refused : (o : Option Cause) (c : Cause) (P : History) (Accepted : Type 0) → o ≡ Some c → RefusedOrElse o P (answer.Refused c) P Accepted
refused o c P Accepted e = rw e (refl, refl)

-- refused for the cause of an error that is handed on
pub told_refused : (r : Result (Unit {0}) Cause) (c : Cause) (o : Option Cause) (P : History) (Accepted : Type 0) → IsErrAnd r (λ d. d ≡ c) → Some c ≡ o → RefusedOrElse o P (change_reply r) P Accepted
told_refused (Ok x) c o P Accepted is e = absurd is
told_refused (Err d) c o P Accepted is e = refused o d P Accepted (sym e ∙ ap (λ (x : Cause). Some x) (sym is))

-- or else
pub not_refused : (o : Option Cause) (P : History) (reply : Reply) (Q : History) (Accepted : Type 0) → o ≡ None → Accepted → RefusedOrElse o P reply Q Accepted
not_refused o P reply Q Accepted e x = rw e x

accepted : (P : History) (who moment m : ℕ) (act : Act) (reply : Reply) → m ≡ effective_moment P moment → IsAccepted P who moment act reply reply (one_more who m act P)
accepted P who moment m act reply is = (refl, ap (λ (z : ℕ). one_more who z act P) is)

-- ---- a Submit

-- where nothing refuses it
pub legal_submit : (C : Config) (P : History) (who m r tenant kind declared label : ℕ) → submit_refusal C P tenant kind declared ≡ None → r ≡ submits P → InLimits C → IsLegal C P → last_moment P ≤ m → m ≤ GREATEST_MOMENT → IsLegal C (one_more who m (Submit r tenant kind declared label) P)
legal_submit C P who m r tenant kind declared label none next lim l later in_range = rw next (l, later, in_range, submit_fits C P tenant kind declared lim l none)

pub answered_submit : (C : Config) (P : History) (who moment m r tenant kind declared label written : ℕ) → submit_refusal C P tenant kind declared ≡ None → r ≡ submits P → written ≡ label → m ≡ effective_moment P moment → Answers C P (call.Submit who moment tenant kind declared label) (answer.Request r) (one_more who m (Submit r tenant kind declared written) P)
answered_submit C P who moment m r tenant kind declared label written none next same is = not_refused _ P _ _ _ none (rw (next, same) (accepted P who moment m _ (answer.Request (submits P)) is))

-- ---- a Take

-- a reply without a job hands out none
pub none_handed_out : {J : Type 0} (now : SchedulerView J) (told : Taken J) → HasNoJob told → HandsOut now told now
none_handed_out now (taken.UnknownWorker worker) no_job = refl
none_handed_out now (taken.Busy request) no_job = refl
none_handed_out now (taken.Retired workers) no_job = refl
none_handed_out now (taken.Run request estimate job) no_job = absurd no_job
none_handed_out now taken.Drained no_job = refl
none_handed_out now taken.Idle no_job = refl

at_or_above : (a b : ℕ) → a ≤ b → nat_le a b ≡ true
at_or_above a b h = grind (arith, nat_tests)

below : (a b : ℕ) → b < a → nat_le a b ≡ false
below a b h = grind (arith, nat_tests)

-- the worker is not among those that there are now
pub retired : (C : Config) (P : History) (who moment worker workers : ℕ) → take_refusal C P worker ≡ None → workers ≡ pool_at C P → workers ≤ worker → Answers C P (call.Take who moment worker) (answer.Retired workers) P
retired C P who moment worker workers none is above = not_refused _ P _ _ _ none (rw (is, at_or_above (pool_at C P) worker (omega (arith, is, above))) (refl, refl))

-- nothing waits
pub rested : (C : Config) (P : History) (who moment worker : ℕ) (closed : Bool) → take_refusal C P worker ≡ None → worker < pool_at C P → waiting P ≡ 0 → closed ≡ is_closed P → Answers C P (call.Take who moment worker) (cond closed answer.Drained answer.Idle) P
rested C P who moment worker closed none pooled nothing is = not_refused _ P _ _ _ none (rw (below (pool_at C P) worker pooled, nothing, is) (refl, refl))

some_waits : (C : Config) (P : History) (who moment i : ℕ) (reply : Reply) (Q : History) → i < pool_at C P → waiting P ≢ 0 → RunsChosen C P who moment i reply Q → AnswersFree C P who moment i reply Q
some_waits C P who moment i reply Q pooled some x = rw (below (pool_at C P) i pooled, ne_eqb (waiting P) 0 some) x

pub took : (C : Config) (P : History) (who moment m worker request estimate label : ℕ) (asked : Request) → take_refusal C P worker ≡ None → worker < pool_at C P → waiting P ≢ 0 → m ≡ effective_moment P moment → asked.label ≡ label → IsChosen C P m worker request estimate asked → Answers C P (call.Take who moment worker) (answer.Run request estimate label) (one_more who m (Take worker request estimate) P)
took C P who moment m worker request estimate label asked none pooled some is labelled chosen = not_refused _ P _ _ _ none (some_waits C P who moment worker _ _ pooled some (record {
  request = request;
  estimate = estimate;
  asked = asked;
  chosen = subst (λ z. IsChosen C P z worker request estimate asked) is chosen;
  accepted = (ap (λ (l : ℕ). answer.Run request estimate l) (sym labelled), ap (λ (z : ℕ). one_more who z (Take worker request estimate) P) is);
}))

-- ---- a use or a cost of the request of a row

module _ {J X : Type 0} (label : J → ℕ) (seen : X → ChooserView) (C : Config) (P : History) (k : Tracker J X) (worker used : ℕ) (row : RunRow) (tracks : Tracks label seen C P k) (held : row_on k.book worker ≡ Some row) where
  row_request : worker < C.workers → request_on P worker ≡ row.request
  row_request known = request_on_is P worker row.request (row_of C P k.book worker (Some row) tracks.mirrors.legal tracks.mirrors.book_is known held).running_is

  -- a cost, where nothing refuses it
  module _ (none : done_refusal C P worker used ≡ None) where
    ends : request_on P worker ≡ row.request
    ends = row_request (le_false C.workers worker (all_false (use_refusals C P worker used) none).0)

    pub legal_done : (who m : ℕ) → last_moment P ≤ m → m ≤ GREATEST_MOMENT → IsLegal C (one_more who m (Done worker row.request used) P)
    legal_done who m later in_range = (tracks.mirrors.legal, later, in_range, subst (λ r. FitsUse P worker r used) ends (done_fits C P worker used tracks.mirrors.legal none))

    pub answered_done : (who moment m : ℕ) → m ≡ effective_moment P moment → Answers C P (call.Done who moment worker used) answer.Accepted (one_more who m (Done worker row.request used) P)
    answered_done who moment m is = not_refused _ P _ _ _ none (rw ends (accepted P who moment m _ answer.Accepted is))

  -- a use, where nothing refuses it
  module _ (none : report_refusal C P worker used ≡ None) where
    goes_on : request_on P worker ≡ row.request
    goes_on = row_request (le_false C.workers worker (all_false (use_refusals C P worker used ++ room_row C P) none).0)

    pub legal_report : (who m : ℕ) → last_moment P ≤ m → m ≤ GREATEST_MOMENT → IsLegal C (one_more who m (Report worker row.request used) P)
    legal_report who m later in_range =
        let fits = report_fits C P worker used tracks.mirrors.legal none in
        (tracks.mirrors.legal, later, in_range, (subst (λ r. FitsUse P worker r used) goes_on fits.0, fits.1))

    pub answered_report : (who moment m : ℕ) → m ≡ effective_moment P moment → Answers C P (call.Report who moment worker used) answer.Accepted (one_more who m (Report worker row.request used) P)
    answered_report who moment m is = not_refused _ P _ _ _ none (rw goes_on (accepted P who moment m _ answer.Accepted is))

-- ---- a Close

-- where it is refused
pub closed_again : (r : Result (Unit {0}) AlreadyClosed) (y : AlreadyClosed) (P : History) (Accepted : Type 0) → r ≡ Err y → Some cause.Closed ≡ close_refusal P → RefusedOrElse (close_refusal P) P (close_reply r) P Accepted
closed_again r y P Accepted is e = rw is (refused (close_refusal P) cause.Closed P Accepted (sym e))

-- where nothing refuses it
pub legal_close : (C : Config) (P : History) (who m : ℕ) → close_refusal P ≡ None → IsLegal C P → last_moment P ≤ m → m ≤ GREATEST_MOMENT → IsLegal C (one_more who m Close P)
legal_close C P who m none l later in_range = (l, later, in_range, close_fits P none)

pub answered_close : (C : Config) (P : History) (who moment m : ℕ) → close_refusal P ≡ None → m ≡ effective_moment P moment → Answers C P (call.Close who moment) answer.Accepted (one_more who m Close P)
answered_close C P who moment m none is = not_refused _ P _ _ _ none (accepted P who moment m Close answer.Accepted is)

-- ---- a Weight and a Workers

-- where nothing refuses it
pub legal_weight : (C : Config) (P : History) (who m tenant weight : ℕ) → weight_refusal C P tenant weight ≡ None → IsLegal C P → last_moment P ≤ m → m ≤ GREATEST_MOMENT → IsLegal C (one_more who m (Weight tenant weight) P)
legal_weight C P who m tenant weight none l later in_range = (l, later, in_range, weight_fits C P tenant weight none)

pub answered_weight : (C : Config) (P : History) (who moment m tenant weight : ℕ) → weight_refusal C P tenant weight ≡ None → m ≡ effective_moment P moment → Answers C P (call.Weight who moment tenant weight) answer.Accepted (one_more who m (Weight tenant weight) P)
answered_weight C P who moment m tenant weight none is = not_refused _ P _ _ _ none (accepted P who moment m _ answer.Accepted is)

pub legal_workers : (C : Config) (P : History) (who m count : ℕ) → workers_refusal C P count ≡ None → IsLegal C P → last_moment P ≤ m → m ≤ GREATEST_MOMENT → IsLegal C (one_more who m (Workers count) P)
legal_workers C P who m count none l later in_range = (l, later, in_range, workers_fits C P count none)

pub answered_workers : (C : Config) (P : History) (who moment m count : ℕ) → workers_refusal C P count ≡ None → m ≡ effective_moment P moment → Answers C P (call.Workers who moment count) answer.Accepted (one_more who m (Workers count) P)
answered_workers C P who moment m count none is = not_refused _ P _ _ _ none (accepted P who moment m _ answer.Accepted is)

-- ---- a Withdraw

-- where nothing refuses it
pub legal_withdraw : (C : Config) (P : History) (who m request : ℕ) → withdraw_refusal P request ≡ None → IsLegal C P → last_moment P ≤ m → m ≤ GREATEST_MOMENT → IsLegal C (one_more who m (Withdraw request) P)
legal_withdraw C P who m request none l later in_range = (l, later, in_range, withdraw_fits P request none)

pub answered_withdraw : (C : Config) (P : History) (who moment m request label : ℕ) → withdraw_refusal P request ≡ None → m ≡ effective_moment P moment → label_of (request_at P request) ≡ label → Answers C P (call.Withdraw who moment request) (answer.Withdrawn label) (one_more who m (Withdraw request) P)
answered_withdraw C P who moment m request label none is labelled = not_refused _ P _ _ _ none (ap (λ (l : ℕ). answer.Withdrawn l) (sym labelled), ap (λ (z : ℕ). one_more who z (Withdraw request) P) is)

-- where it is refused no job comes back
pub none_handed_back : {J : Type 0} (now : SchedulerView J) (request : ℕ) (r : Result J Cause) (c : Cause) → IsErrAnd r (λ d. d ≡ c) → HandsBack now request r now
none_handed_back now request (Ok job) c is = absurd is
none_handed_back now request (Err d) c is = refl

-- and it is refused for the cause of the error that is handed on
pub job_refused : {J : Type 0} (label : J → ℕ) (r : Result J Cause) (c : Cause) (o : Option Cause) (P : History) (Accepted : Type 0) → IsErrAnd r (λ d. d ≡ c) → Some c ≡ o → RefusedOrElse o P (withdraw_reply label r) P Accepted
job_refused label (Ok x) c o P Accepted is e = absurd is
job_refused label (Err d) c o P Accepted is e = refused o d P Accepted (sym e ∙ ap (λ (x : Cause). Some x) (sym is))
