-- The beginning and the end of a simulation.
use Rattle.std.proofs.Common.{ℕ, zero, suc, ◌<◌, ◌≤◌, ◌≡◌, Bool, true, false, max, [], ◌∷◌, length, replicate, Option, Some, None, arith, refl, ap, sym, ◌∙◌, subst, inl, inr, get_or}
use Rattle.std.proofs.lemmas.Bool.{false≢true, and_from, not_from_false}
use Rattle.std.proofs.lemmas.List.{take_all, length-replicate, length-reverse}
use Rattle.fq_model.specs.declared.event.Act.TheVariants.{Close}
use Rattle.fq_model.specs.declared.event.Entry.{Entry}
use Rattle.fq_model.specs.declared.event.Call.TheVariants as call
use Rattle.fq_model.specs.declared.event.Reply.{Reply}
use Rattle.fq_model.specs.declared.event.Reply.TheVariants as answer
use Rattle.program_model.specs.declared.trace.RunOptions.{RunOptions}
use Rattle.program_model.specs.Courses.{submitters}
use Rattle.fq_model.specs.History.{History, history_of, is_closed, is_submitted, is_taken, is_done, is_waiting, submits, waiting, request_bound}
use Rattle.fq_model.specs.Rules.{Answers}
use Rattle.program_model.specs.Simulated.{run_config, row_submits, IsSimulated, InTurn, needed_entries}
use Rattle.fq_model.specs.Time.{last_moment}
use Rattle.program_model.specs.Trace.{Trace}
use Rattle.fq_laws.proofs.History.Asked.{untaken_unremoved}
use Rattle.fq_laws.proofs.History.Counts.{waiting_none}
use Rattle.fq_laws.proofs.Rules.Limits.{last_moment_small, length_entries}
use Rattle.fq_laws.proofs.Sums.{count_some}
use Rattle.sched_state.specs.Scheduler.{SchedulerView}
use Rattle.sched_state.specs.Replies.{AnswersCall}
use Rattle.trace_runner.specs.declared.agenda.Agenda.{Agenda}
use Rattle.trace_runner.specs.declared.staff.Work.{Work}
use Rattle.trace_runner.specs.Agenda.{NothingNext, NoneTakes, opened_agenda}
use Rattle.trace_runner.specs.Plan.{IsPlan}
use Rattle.trace_runner.specs.Simulation.{Simulates, Keeps}
use Rattle.trace_runner.specs.Staff.{work_at}
use Rattle.trace_runner.proofs.Calls.{closed, effective_now}
use Rattle.trace_runner.proofs.InLimits.{in_limits}
use Rattle.trace_runner.proofs.Legal.{submitted_all, somewhere}
use Rattle.trace_runner.proofs.Room.{served_by}
use Rattle.trace_runner.proofs.Rows.{row_known}
use Rattle.trace_runner.proofs.Steps.{served_stays}

-- ---- the beginning

none_at : (n i : ℕ) → ◌≡◌ {A = Option Work} (get_or (replicate n None) i None) None
none_at zero i = refl
none_at (suc n) zero = refl
none_at (suc n) (suc i) = none_at n i

no_work : (n i : ℕ) (w : Work) {A : Type 0} → work_at (replicate n None) i ≡ Some w → A
no_work n i w e = absurd (let x : None ≡ Some w = sym (none_at n i) ∙ e in cc)

abbrev pub first_agenda : Trace → RunOptions → Agenda
first_agenda T O = opened_agenda O.workers (submitters T.rows)

pub begins : (T : Trace) (O : RunOptions) → Keeps T O [] (first_agenda T O)
unfolding is_closed is_done
begins T O = record {
  legal = tt;
  open_still = refl;
  unchanged = refl;
  caller_is = refl;
  moment_is = refl;
  submitted_is = refl;
  waiting_is = sym waiting_none;
  rows_left = omega arith;
  workers = length-replicate O.workers None;
  requests = refl;
  served = λ r row is d. absurd (false≢true d);
  works = λ i w e. no_work O.workers i w e;
  idle = λ i e. refl;
  in_turn = tt;
  busy = tt;
  in_time = omega (arith, waiting_none);
  works_follow = λ i w e. tt;
  rows_follow = λ row e. tt;
  idle_follow = λ i d. tt;
}

pub simulates_first : (T : Trace) (O : RunOptions) (s : SchedulerView ℕ) (a : Agenda) → IsPlan T O → s.config ≡ run_config T O → s.past ≡ [] → a ≡ first_agenda T O → Simulates T O s a
simulates_first T O s a p config past is = record {
  plan = p;
  config_is = config;
  keeps = subst (Keeps T O (history_of s.past)) (sym is) (subst (λ xs. Keeps T O (history_of xs) (first_agenda T O)) (sym past) (begins T O));
}

-- ---- the measure

pub past_low : (T : Trace) (O : RunOptions) (s : SchedulerView ℕ) (a : Agenda) → Simulates T O s a → length s.past ≤ max 4 (needed_entries T.rows O.refresh)
past_low T O s a sim = omega (arith, length_entries (run_config T O) (history_of s.past) (in_limits T O sim.plan) sim.keeps.legal, length-reverse s.past)

-- ---- the end

none_waits : (P : History) (r : ℕ) → r < request_bound → waiting P ≡ 0 → is_waiting P r ≡ true → ⊥
unfolding waiting
none_waits P r b z w = let c : 1 ≤ waiting P = count_some (is_waiting P) r request_bound b w in omega arith

bound_high : 262144 ≤ request_bound
unfolding request_bound
bound_high = omega arith

zero_waits : (T : Trace) (O : RunOptions) (P : History) (a : Agenda) → IsPlan T O → Keeps T O P a → NothingNext a T.rows → waiting P ≡ 0
zero_waits T O P a p k n = by_settled n.settled
  where
    by_settled : NoneTakes a → waiting P ≡ 0
    by_settled (inl z) = omega (arith, k.waiting_is)
    by_settled (inr none) = absurd (none 0 (record { known = omega (arith, k.workers, p.options.workers.0); idle = n.timed.works 0 }))

all_done : (T : Trace) (O : RunOptions) (P : History) (a : Agenda) (r : ℕ) → IsPlan T O → Keeps T O P a → NothingNext a T.rows → r < length T.rows → is_done P r ≡ true
unfolding is_waiting
all_done T O P a r p k n l = by_bool (is_taken P r) refl (is_done P r) refl
  where
    by_bool : (t : Bool) → is_taken P r ≡ t → (d : Bool) → is_done P r ≡ d → is_done P r ≡ true
    by_bool t e true f = f
    by_bool false e false f =
        let sub : is_submitted P r ≡ true = submitted_all (run_config T O) P r k.legal (omega (arith, n.timed.requests, k.submitted_is)) in
        absurd (none_waits P r (omega (arith, bound_high, p.lawful.few)) (zero_waits T O P a p k n) (and_from _ _ sub (not_from_false _ (untaken_unremoved P r k.unchanged e))))
    by_bool true e false f =
        let on = somewhere P r e f in
        let s = served_by T O P a r on.0 k on.1 in
        let idle : None ≡ Some s.1.request = sym (k.idle on.0 (n.timed.works on.0)) ∙ s.1.runs in absurd (cc)

abbrev pub close_entry : History → Entry
close_entry P = record { who = 0; moment = last_moment P; act = Close }

close_in_turn : (P : History) → InTurn P (close_entry P)
close_in_turn [] = tt
close_in_turn (d ∷ P) = λ same open_d open_e. absurd (false≢true (sym open_e))

pub ends : (T : Trace) (O : RunOptions) (P : History) (a : Agenda) → IsPlan T O → Keeps T O P a → NothingNext a T.rows → IsSimulated T O (close_entry P ∷ P)
ends T O P a p k n =
    let all : submits P ≡ length T.rows = omega (arith, n.timed.requests, k.submitted_is, k.rows_left) in
    record {
      legal = (k.legal, omega arith, last_moment_small (run_config T O) P k.legal, k.open_still);
      submitted = k.requests ∙ ap (λ rows. history_of (row_submits 0 rows)) (take_all (submits P) T.rows (omega (arith, all)));
      served = λ r row is. served_stays T O.refresh P (close_entry P) r row refl (k.served r row is (all_done T O P a r p k n (row_known T.rows r row is)));
      in_turn = (k.in_turn, close_in_turn P);
      busy = (k.busy, record { lower_run = tt; settled = λ h. inl (zero_waits T O P a p k n) });
      closed = record { older = P; last_is = refl; once = k.open_still };
      unchanged = k.unchanged;
    }

-- the reply to the Close
pub close_answered : (T : Trace) (O : RunOptions) (s t : SchedulerView ℕ) (a : Agenda) (reply : Reply) → Simulates T O s a → AnswersCall s (call.Close 0 a.moment) reply t → (reply ≡ answer.Accepted) × (history_of t.past ≡ close_entry (history_of s.past) ∷ history_of s.past)
close_answered T O s t a reply sim h =
    let P : History = history_of s.past in
    let now : a.moment ≡ last_moment P = sim.keeps.moment_is in
    let r = closed (run_config T O) P (history_of t.past) 0 (last_moment P) reply sim.keeps.open_still (effective_now P (last_moment P) (omega arith) (last_moment_small (run_config T O) P sim.keeps.legal))
    (subst (λ x. Answers (run_config T O) P (call.Close 0 x) reply (history_of t.past)) now (subst (λ C. Answers C P (call.Close 0 a.moment) reply (history_of t.past)) sim.config_is h.answers)) in
    r

pub simulated : (T : Trace) (O : RunOptions) (s t : SchedulerView ℕ) (a : Agenda) (reply : Reply) → Simulates T O s a → NothingNext a T.rows → AnswersCall s (call.Close 0 a.moment) reply t → IsSimulated T O (history_of t.past)
simulated T O s t a reply sim n h = subst (IsSimulated T O) (sym (close_answered T O s t a reply sim h).1) (ends T O (history_of s.past) a sim.plan sim.keeps n)
