-- The invariant of the simulation at each event.
use Rattle.std.proofs.Common.{ℕ, ◌+◌, ◌-◌, ◌<◌, ◌≤◌, ◌≡◌, ◌∷◌, length, Some, None, Result, Ok, Err, arith, refl, ap, sym, ◌∙◌, subst, set}
use Rattle.std.specs.Prelude.{slice_get, IsOk}
use Rattle.vt_fixed.specs.declared.limits.TheConstants.{GREATEST_MOMENT, GREATEST_COST}
use Rattle.fq_model.specs.declared.event.Act.TheVariants.{Take}
use Rattle.fq_model.specs.declared.event.Entry.{Entry}
use Rattle.fq_model.specs.declared.event.Call.TheVariants as call
use Rattle.fq_model.specs.declared.event.Reply.{Reply}
use Rattle.fq_model.specs.declared.event.Reply.TheVariants as answer
use Rattle.program_model.specs.declared.trace.RunOptions.{RunOptions}
use Rattle.program_model.specs.declared.trace.TraceRow.{TraceRow}
use Rattle.program_model.specs.Courses.{worker_caller}
use Rattle.fq_model.specs.History.{History, history_of, submits}
use Rattle.fq_model.specs.Rules.{Answers, FitsTake}
use Rattle.program_model.specs.Simulated.{run_config}
use Rattle.fq_model.specs.Time.{last_moment}
use Rattle.program_model.specs.Trace.{Trace}
use Rattle.sched_state.specs.Scheduler.{SchedulerView}
use Rattle.sched_state.specs.Replies.{AnswersCall, submit_reply, change_reply, take_reply}
use Rattle.sched_state.specs.declared.replies.Refused.{Refused}
use Rattle.sched_state.specs.declared.replies.Taken.{Taken}
use Rattle.sched_state.specs.declared.replies.Taken.TheVariants as takens
use Rattle.fq_model.specs.declared.event.Cause.{Cause}
use Rattle.trace_runner.specs.declared.agenda.Agenda.{Agenda}
use Rattle.trace_runner.specs.declared.agenda.EventCall.TheVariants as what
use Rattle.trace_runner.specs.declared.staff.Work.{Work}
use Rattle.trace_runner.specs.Agenda.{IsNext, ByWorks, ByRows}
use Rattle.trace_reader.specs.Rows.{row_at}
use Rattle.trace_runner.specs.Plan.{IsPlan}
use Rattle.trace_runner.specs.Simulation.{Simulates, Keeps, Serves}
use Rattle.trace_runner.specs.Staff.{work_moment, reported_work, new_work, IsSmall}
use Rattle.trace_runner.proofs.Calls.{effective_now, grown, reported, finished, submitted, took_now, Took}
use Rattle.trace_runner.proofs.Coming.{AtSubmit, came_agenda, submit_entry, fits_submit, keeps_submit}
use Rattle.trace_runner.proofs.Finishing.{AtDone, done_entry, finished_agenda, keeps_done}
use Rattle.trace_runner.proofs.Legal.{pool_same}
use Rattle.trace_runner.proofs.Reporting.{AtReport, report_entry, reported_agenda, keeps_report}
use Rattle.trace_runner.proofs.Room.{room_to_report, waiting_few}
use Rattle.trace_runner.proofs.Rows.{lawful_row, row_there, row_known}
use Rattle.trace_runner.proofs.Sums.{submitters_low}
use Rattle.trace_runner.proofs.Steps.{follows_low, not_late, fits_use, worker_known, reports_next}
use Rattle.trace_runner.proofs.Taking.{AtTake, take_entry, taken_agenda, work_of, taken_row, due_some, keeps_take}

-- the history has this entry more, and all is kept
pub record Stepped (T : Trace) (O : RunOptions) (s t : SchedulerView ℕ) (b : Agenda) : Type 0 where
  pub simulates : Simulates T O t b
  pub grows : length t.past ≡ length s.past + 1

stepped : (T : Trace) (O : RunOptions) (s t : SchedulerView ℕ) (a b c : Agenda) (e : Entry) → Simulates T O s a → t.config ≡ s.config → history_of t.past ≡ e ∷ history_of s.past → Keeps T O (e ∷ history_of s.past) c → b ≡ c → Stepped T O s t b
stepped T O s t a b c e sim config h k bc = record {
  simulates = record {
    plan = sim.plan;
    config_is = config ∙ sim.config_is;
    keeps = subst (Keeps T O (history_of t.past)) (sym bc) (subst (λ Q. Keeps T O Q c) (sym h) k);
  };
  grows = grown s.past t.past e h;
}

-- ---- Reports

abbrev pub at_report : (T : Trace) (O : RunOptions) (P : History) (a : Agenda) (m i : ℕ) (w : Work) → IsPlan T O → Keeps T O P a → IsNext a T.rows (record { moment = m; what = what.Report i w }) → AtReport T O P a i w
at_report T O P a m i w p k n = record {
  plan = p;
  keeps = k;
  at = n.timed.may_come.0;
  below = n.timed.may_come.2;
  works = subst (λ x. ByWorks a.staff x (0, i)) n.timed.may_come.3 n.timed.works;
  requests = subst (λ x. ByRows T.rows a.submitted x (0, i)) n.timed.may_come.3 n.timed.requests;
  settled = λ l. n.settled (omega (arith, l, n.timed.may_come.3));
}

-- the entry of the Report, and that it is accepted
pub report_answered : (T : Trace) (O : RunOptions) (s t : SchedulerView ℕ) (a : Agenda) (m i who : ℕ) (w : Work) (reply : Reply) → (sim : Simulates T O s a) → (n : IsNext a T.rows (record { moment = m; what = what.Report i w })) → who ≡ a.first_caller + i → AnswersCall s (call.Report who m i w.due) reply t →
    (reply ≡ answer.Accepted) × (history_of t.past ≡ report_entry T i (sim.keeps.works i w n.timed.may_come.0).request w ∷ history_of s.past)
report_answered T O s t a m i who w reply sim n by h =
    let P : History = history_of s.past in
    let k = sim.keeps in
    let x : Serves T O P i w = k.works i w n.timed.may_come.0 in
    let next = reports_next T O P i w x n.timed.may_come.2 in
    let known : i < O.workers = omega (arith, worker_known a.staff i w n.timed.may_come.0, k.workers) in
    let low : last_moment P ≤ m = omega (arith, follows_low P (work_moment w) _ (k.works_follow i w n.timed.may_come.0), n.timed.may_come.3) in
    let late : m ≤ GREATEST_MOMENT = not_late T O P a m sim.plan k (omega (arith, x.in_time, n.timed.may_come.3, n.timed.may_come.2)) in
    let caller : who ≡ worker_caller T.rows i = omega (arith, k.caller_is) in
    let r = reported (run_config T O) P (history_of t.past) who m i x.request w.due reply known x.runs
    (fits_use T O P a i w.due w sim.plan k x (omega (arith, next.due_is)) (omega (arith, n.timed.may_come.2)))
    (room_to_report T O P a i w sim.plan k x next.some_refresh next.more)
    (effective_now P m low late)
    (subst (λ C. Answers C P (call.Report who m i w.due) reply (history_of t.past)) sim.config_is h.answers) in
    (r.0, r.1 ∙ rw (caller, n.timed.may_come.3) refl)

pub report_stepped : (T : Trace) (O : RunOptions) (s t : SchedulerView ℕ) (a b : Agenda) (m i who : ℕ) (w v : Work) (reply : Reply) → Simulates T O s a → IsNext a T.rows (record { moment = m; what = what.Report i w }) → who ≡ a.first_caller + i → AnswersCall s (call.Report who m i w.due) reply t → v ≡ reported_work w O.refresh → b ≡ record a { staff = set a.staff i (Some v); moment = m } → Stepped T O s t b
report_stepped T O s t a b m i who w v reply sim n by h vis bis =
    let r = report_answered T O s t a m i who w reply sim n by h in
    stepped T O s t a b (reported_agenda a i w O.refresh) _ sim h.config_is r.1 (keeps_report T O (history_of s.past) a i w (at_report T O (history_of s.past) a m i w sim.plan sim.keeps n)) (bis ∙ rw (vis, n.timed.may_come.3) refl)

-- ---- Dones

abbrev pub at_done : (T : Trace) (O : RunOptions) (P : History) (a : Agenda) (m i : ℕ) (w : Work) → IsPlan T O → Keeps T O P a → IsNext a T.rows (record { moment = m; what = what.Done i w }) → AtDone T O P a i w
at_done T O P a m i w p k n = record {
  plan = p;
  keeps = k;
  at = n.timed.may_come.0;
  whole = n.timed.may_come.2;
  works = subst (λ x. ByWorks a.staff x (1, i)) n.timed.may_come.3 n.timed.works;
  requests = subst (λ x. ByRows T.rows a.submitted x (1, i)) n.timed.may_come.3 n.timed.requests;
  settled = λ l. n.settled (omega (arith, l, n.timed.may_come.3));
}

pub done_answered : (T : Trace) (O : RunOptions) (s t : SchedulerView ℕ) (a : Agenda) (m i who : ℕ) (w : Work) (reply : Reply) → (sim : Simulates T O s a) → (n : IsNext a T.rows (record { moment = m; what = what.Done i w })) → who ≡ a.first_caller + i → AnswersCall s (call.Done who m i w.cost) reply t →
    (reply ≡ answer.Accepted) × (history_of t.past ≡ done_entry T i (sim.keeps.works i w n.timed.may_come.0).request w ∷ history_of s.past)
done_answered T O s t a m i who w reply sim n by h =
    let P : History = history_of s.past in
    let k = sim.keeps in
    let x : Serves T O P i w = k.works i w n.timed.may_come.0 in
    let known : i < O.workers = omega (arith, worker_known a.staff i w n.timed.may_come.0, k.workers) in
    let low : last_moment P ≤ m = omega (arith, follows_low P (work_moment w) _ (k.works_follow i w n.timed.may_come.0), n.timed.may_come.3) in
    let late : m ≤ GREATEST_MOMENT = not_late T O P a m sim.plan k (omega (arith, x.in_time, n.timed.may_come.3, n.timed.may_come.2)) in
    let caller : who ≡ worker_caller T.rows i = omega (arith, k.caller_is) in
    let r = finished (run_config T O) P (history_of t.past) who m i x.request w.cost reply known x.runs
    (fits_use T O P a i w.cost w sim.plan k x (omega (arith, x.below)) (omega arith))
    (effective_now P m low late)
    (subst (λ C. Answers C P (call.Done who m i w.cost) reply (history_of t.past)) sim.config_is h.answers) in
    (r.0, r.1 ∙ rw (caller, n.timed.may_come.3) refl)

pub done_stepped : (T : Trace) (O : RunOptions) (s t : SchedulerView ℕ) (a b : Agenda) (m i who : ℕ) (w : Work) (reply : Reply) → Simulates T O s a → IsNext a T.rows (record { moment = m; what = what.Done i w }) → who ≡ a.first_caller + i → AnswersCall s (call.Done who m i w.cost) reply t → b ≡ record a { staff = set a.staff i None; moment = m } → Stepped T O s t b
done_stepped T O s t a b m i who w reply sim n by h bis =
    let r = done_answered T O s t a m i who w reply sim n by h in
    stepped T O s t a b (finished_agenda a i w) _ sim h.config_is r.1 (keeps_done T O (history_of s.past) a i w (at_done T O (history_of s.past) a m i w sim.plan sim.keeps n)) (bis ∙ rw n.timed.may_come.3 refl)

-- ---- Submits

abbrev pub at_submit : (T : Trace) (O : RunOptions) (P : History) (a : Agenda) (m : ℕ) (row : TraceRow) → IsPlan T O → Keeps T O P a → IsNext a T.rows (record { moment = m; what = what.Submit row }) → AtSubmit T O P a row
at_submit T O P a m row p k n = record {
  plan = p;
  keeps = k;
  at = subst (λ r. slice_get T.rows r ≡ Some row) k.submitted_is n.timed.may_come.0;
  works = subst (λ r. ByWorks a.staff row.moment (2, r)) k.submitted_is (subst (λ x. ByWorks a.staff x (2, a.submitted)) n.timed.may_come.1 n.timed.works);
  settled = λ l. n.settled (omega (arith, l, n.timed.may_come.1));
}

pub submit_answered : (T : Trace) (O : RunOptions) (s t : SchedulerView ℕ) (a : Agenda) (m : ℕ) (row : TraceRow) (reply : Reply) → Simulates T O s a → IsNext a T.rows (record { moment = m; what = what.Submit row }) → AnswersCall s (call.Submit row.submitter m row.tenant row.kind row.declared a.submitted) reply t →
    (reply ≡ answer.Request (submits (history_of s.past))) × (history_of t.past ≡ submit_entry (submits (history_of s.past)) row ∷ history_of s.past)
submit_answered T O s t a m row reply sim n h =
    let P : History = history_of s.past in
    let k = sim.keeps in
    let g = at_submit T O (history_of s.past) a m row sim.plan sim.keeps n in
    let low : last_moment P ≤ m = omega (arith, follows_low P row.moment _ (k.rows_follow row g.at), n.timed.may_come.1) in
    let late : m ≤ GREATEST_MOMENT = omega (arith, (Rattle.trace_runner.proofs.Rows.lawful_row T (submits P) row sim.plan.lawful g.at).moment, n.timed.may_come.1) in
    let r = submitted (run_config T O) P (history_of t.past) row.submitter m row.tenant row.kind row.declared a.submitted reply (fits_submit T O P a row g) (effective_now P m low late)
    (subst (λ C. Answers C P (call.Submit row.submitter m row.tenant row.kind row.declared a.submitted) reply (history_of t.past)) sim.config_is h.answers) in
    (r.0, r.1 ∙ rw (k.submitted_is, n.timed.may_come.1) refl)

pub submit_stepped : (T : Trace) (O : RunOptions) (s t : SchedulerView ℕ) (a b : Agenda) (m : ℕ) (row : TraceRow) (reply : Reply) → Simulates T O s a → IsNext a T.rows (record { moment = m; what = what.Submit row }) → AnswersCall s (call.Submit row.submitter m row.tenant row.kind row.declared a.submitted) reply t → b ≡ record a { submitted = a.submitted + 1; waiting = a.waiting + 1; moment = m } → Stepped T O s t b
submit_stepped T O s t a b m row reply sim n h bis =
    let r = submit_answered T O s t a m row reply sim n h in
    stepped T O s t a b (came_agenda a row) _ sim h.config_is r.1 (keeps_submit T O (history_of s.past) a row (at_submit T O (history_of s.past) a m row sim.plan sim.keeps n)) (bis ∙ rw n.timed.may_come.1 refl)

-- ---- Takes

pub take_answered : (T : Trace) (O : RunOptions) (s t : SchedulerView ℕ) (a : Agenda) (m i who : ℕ) (reply : Reply) → (sim : Simulates T O s a) → (n : IsNext a T.rows (record { moment = m; what = what.Take i })) → AnswersCall s (call.Take who m i) reply t → Took (run_config T O) (history_of s.past) (history_of t.past) who (last_moment (history_of s.past)) i reply
take_answered T O s t a m i who reply sim n h =
    let P : History = history_of s.past in
    let k = sim.keeps in
    let now : m ≡ last_moment P = n.timed.may_come.3 ∙ k.moment_is in
    let late : last_moment P ≤ GREATEST_MOMENT = not_late T O P a (last_moment P) sim.plan k k.in_time in
    took_now (run_config T O) P (history_of t.past) who (last_moment P) i reply k.legal (pool_same (run_config T O) P k.unchanged)
    (omega (arith, n.timed.may_come.0.known, k.workers))
    (k.idle i n.timed.may_come.0.idle)
    (omega (arith, n.timed.may_come.2, k.waiting_is))
    (effective_now P (last_moment P) (omega arith) late)
    (subst (λ x. Answers (run_config T O) P (call.Take who x i) reply (history_of t.past)) now (subst (λ C. Answers C P (call.Take who m i) reply (history_of t.past)) sim.config_is h.answers))

abbrev pub at_take : (T : Trace) (O : RunOptions) (P : History) (a : Agenda) (m i r estimate : ℕ) → IsPlan T O → Keeps T O P a → IsNext a T.rows (record { moment = m; what = what.Take i }) → FitsTake (run_config T O) P (last_moment P) i r estimate → AtTake T O P a i r estimate
at_take T O P a m i r estimate p k n fits =
    let now : m ≡ last_moment P = n.timed.may_come.3 ∙ k.moment_is in
    record {
      plan = p;
      keeps = k;
      idle = n.timed.may_come.0;
      least = n.timed.may_come.1;
      works = subst (λ x. ByWorks a.staff x (3, i)) now n.timed.works;
      requests = subst (λ r. ByRows T.rows r (last_moment P) (3, i)) k.submitted_is (subst (λ x. ByRows T.rows a.submitted x (3, i)) now n.timed.requests);
      fits = fits;
    }

same_run : (q r e f l j : ℕ) → answer.Run q e l ≡ answer.Run r f j → q ≡ r
same_run q r e f l j h = cc

-- the request that is taken is one of the trace
pub take_known : (T : Trace) (O : RunOptions) (s t : SchedulerView ℕ) (a : Agenda) (m i who q estimate label : ℕ) → Simulates T O s a → IsNext a T.rows (record { moment = m; what = what.Take i }) → AnswersCall s (call.Take who m i) (answer.Run q estimate label) t → q < length T.rows
take_known T O s t a m i who q estimate label sim n h =
    let k = take_answered T O s t a m i who (answer.Run q estimate label) sim n h in
    let l = taken_row T O (history_of s.past) a i k.request k.estimate (last_moment (history_of s.past)) sim.keeps k.fits in
    omega (arith, l, same_run _ _ _ _ _ _ k.reply_is)

pub take_stepped : (T : Trace) (O : RunOptions) (s t : SchedulerView ℕ) (a b : Agenda) (m i who q estimate label : ℕ) (v : Work) → Simulates T O s a → IsNext a T.rows (record { moment = m; what = what.Take i }) → who ≡ a.first_caller + i → AnswersCall s (call.Take who m i) (answer.Run q estimate label) t → v ≡ new_work m (row_at T.rows q).cost O.refresh → b ≡ record a { staff = set a.staff i (Some v); waiting = a.waiting - 1 } → Stepped T O s t b
take_stepped T O s t a b m i who q estimate label v sim n by h vis bis =
    let P : History = history_of s.past in
    let k = take_answered T O s t a m i who (answer.Run q estimate label) sim n h in
    let same : q ≡ k.request = same_run _ _ _ _ _ _ k.reply_is in
    let now : m ≡ last_moment P = n.timed.may_come.3 ∙ sim.keeps.moment_is in
    let caller : who ≡ worker_caller T.rows i = omega (arith, sim.keeps.caller_is) in
    let work : v ≡ work_of T O P k.request = vis ∙ ap (λ x. new_work x (row_at T.rows q).cost O.refresh) now ∙ ap (λ r. new_work (last_moment P) (row_at T.rows r).cost O.refresh) same in
    stepped T O s t a b (taken_agenda T O P a i k.request) (take_entry T P i k.request k.estimate) sim h.config_is (k.grows ∙ ap (λ x. let e : Entry = record { who = x; moment = last_moment P; act = Take i k.request k.estimate } in e ∷ P) caller) (keeps_take T O P a i k.request k.estimate (at_take T O P a m i k.request k.estimate sim.plan sim.keeps n k.fits)) (bis ∙ ap (λ x. let b : Agenda = record a { staff = set a.staff i (Some x); waiting = a.waiting - 1 } in b) work)

-- ---- the preconditions of the calls

pub callers_few : (T : Trace) (O : RunOptions) (s : SchedulerView ℕ) (a : Agenda) → Simulates T O s a → a.first_caller ≤ 64
callers_few T O s a sim = omega (arith, sim.keeps.caller_is, submitters_low T.rows (λ r l. (lawful_row T r (row_at T.rows r) sim.plan.lawful (row_there T.rows r l)).submitter))

pub due_low : (T : Trace) (O : RunOptions) (s : SchedulerView ℕ) (a : Agenda) (m i : ℕ) (w : Work) → Simulates T O s a → IsNext a T.rows (record { moment = m; what = what.Report i w }) → w.due ≤ GREATEST_COST
due_low T O s a m i w sim n =
    let x = sim.keeps.works i w n.timed.may_come.0 in
    omega (arith, n.timed.may_come.2, x.cost_is, (lawful_row T x.request x.row sim.plan.lawful x.row_is).cost)

pub rows_few : (T : Trace) (O : RunOptions) (s : SchedulerView ℕ) (a : Agenda) (m : ℕ) (row : TraceRow) → Simulates T O s a → IsNext a T.rows (record { moment = m; what = what.Submit row }) → (a.submitted < 262144) × (a.waiting ≤ a.submitted)
rows_few T O s a m row sim n = (
  omega (arith, row_known T.rows a.submitted row n.timed.may_come.0, sim.plan.lawful.few),
  omega (arith, sim.keeps.waiting_is, sim.keeps.submitted_is, waiting_few T O (history_of s.past) a sim.plan sim.keeps),
)

pub taken_small : (T : Trace) (O : RunOptions) (s : SchedulerView ℕ) (a : Agenda) (m i q : ℕ) (v : Work) → Simulates T O s a → IsNext a T.rows (record { moment = m; what = what.Take i }) → q < length T.rows → v ≡ new_work m (row_at T.rows q).cost O.refresh → IsSmall v
taken_small T O s a m i q v sim n l is =
    let lawful = lawful_row T q (row_at T.rows q) sim.plan.lawful (row_there T.rows q l) in
    let due = due_some m (row_at T.rows q).cost O.refresh lawful.cost.0 in
    let small : IsSmall (new_work m (row_at T.rows q).cost O.refresh) = record {
      ends = omega (arith, n.timed.may_come.3, sim.keeps.moment_is, sim.keeps.in_time, sim.keeps.rows_left, sim.plan.lawful.few, lawful.cost.1);
      due = due.1;
    } in
    subst IsSmall (sym is) small

-- a result is Ok where its reply is an acceptance
pub change_is_ok : (r : Result (Unit {0}) Cause) → change_reply r ≡ answer.Accepted → IsOk r
change_is_ok (Ok accepted) e = refl
change_is_ok (Err c) e = absurd (cc)

pub submit_is_ok : (r : Result ℕ (Refused ℕ)) (q : ℕ) → submit_reply r ≡ answer.Request q → IsOk r
submit_is_ok (Ok request) q e = refl
submit_is_ok (Err refused) q e = absurd (cc)

-- a Take that is the next event is given a request
pub take_runs : (T : Trace) (O : RunOptions) (s t : SchedulerView ℕ) (a : Agenda) (m i who : ℕ) (taken : Taken ℕ) → Simulates T O s a → IsNext a T.rows (record { moment = m; what = what.Take i }) → AnswersCall s (call.Take who m i) (take_reply (λ job. job) taken) t → (q : ℕ) × (estimate : ℕ) × (job : ℕ) × (taken ≡ takens.Run q estimate job)
take_runs T O s t a m i who taken sim n h =
    let k = take_answered T O s t a m i who (take_reply (λ job. job) taken) sim n h in
    by_taken taken k.request k.estimate k.label k.reply_is
  where
    by_taken : (x : Taken ℕ) (r f l : ℕ) → take_reply (λ job. job) x ≡ answer.Run r f l → (q : ℕ) × (estimate : ℕ) × (job : ℕ) × (x ≡ takens.Run q estimate job)
    by_taken (takens.UnknownWorker worker) r f l e = absurd (cc)
    by_taken (takens.Busy request) r f l e = absurd (cc)
    by_taken (takens.Retired workers) r f l e = absurd (cc)
    by_taken (takens.Run q estimate job) r f l e = (q, estimate, job, refl)
    by_taken takens.Drained r f l e = absurd (cc)
    by_taken takens.Idle r f l e = absurd (cc)
