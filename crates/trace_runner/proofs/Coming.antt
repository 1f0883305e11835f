-- The invariant of the simulation at a Submit.
use Rattle.std.proofs.Common.{ℕ, zero, suc, ◌+◌, ◌<◌, ◌≤◌, ◌≡◌, List, [], ◌∷◌, ◌++◌, take, reverse, Some, arith, refl, ap, sym, ◌∙◌, inl, inr}
use Rattle.std.specs.Prelude.{slice_get}
use Rattle.std.proofs.lemmas.Bool.{cases_lt}
use Rattle.std.proofs.lemmas.List.{reverse-append}
use Rattle.fq_model.specs.declared.event.Act.TheVariants.{Submit}
use Rattle.fq_model.specs.declared.event.Entry.{Entry}
use Rattle.program_model.specs.declared.trace.RunOptions.{RunOptions}
use Rattle.program_model.specs.declared.trace.TraceRow.{TraceRow}
use Rattle.fq_model.specs.History.{History, history_of, is_closed, is_done, submits, waiting}
use Rattle.fq_model.specs.Rules.{FitsSubmit}
use Rattle.program_model.specs.Simulated.{run_config, row_submits}
use Rattle.program_model.specs.Trace.{Trace}
use Rattle.fq_laws.proofs.History.Numbers.{waiting_submitted}
use Rattle.trace_runner.specs.declared.agenda.Agenda.{Agenda}
use Rattle.trace_runner.specs.Plan.{IsPlan}
use Rattle.trace_runner.specs.Agenda.{ByWorks, NoneTakes}
use Rattle.trace_runner.specs.Simulation.{FollowsLast, InTime, Keeps}
use Rattle.trace_runner.specs.Staff.{ComesBefore}
use Rattle.trace_runner.proofs.InLimits.{in_limits}
use Rattle.trace_runner.proofs.Room.{room_to_submit, waiting_few}
use Rattle.trace_runner.proofs.Rows.{lawful_row, rows_rise, row_known}
use Rattle.trace_runner.proofs.Steps.{follows_low, in_turn_now, any_work, not_late, settled_now, serves_stays, served_stays}

-- the next request comes now
pub record AtSubmit (T : Trace) (O : RunOptions) (P : History) (a : Agenda) (row : TraceRow) : Type 0 where
  pub plan : IsPlan T O
  pub keeps : Keeps T O P a
  pub at : slice_get T.rows (submits P) ≡ Some row
  pub works : ByWorks a.staff row.moment (2, submits P)
  pub settled : a.moment < row.moment → NoneTakes a

abbrev pub submit_entry : ℕ → TraceRow → Entry
submit_entry r row = record { who = row.submitter; moment = row.moment; act = Submit r row.tenant row.kind row.declared r }

abbrev pub came_agenda : Agenda → TraceRow → Agenda
came_agenda a row = record a { submitted = a.submitted + 1; waiting = a.waiting + 1; moment = row.moment }

row_submits_more : (rows : List TraceRow) (r k : ℕ) (row : TraceRow) → slice_get rows k ≡ Some row → row_submits r (take (suc k) rows) ≡ row_submits r (take k rows) ++ submit_entry (r + k) row ∷ []
row_submits_more [] r k row e = absurd (cc)
row_submits_more (x ∷ xs) r zero row e =
    let same : x ≡ row = some_row x row e in
    let z : r + 0 ≡ r = omega arith in rw (same, z) refl
  where
    some_row : (x y : TraceRow) → Some x ≡ Some y → x ≡ y
    some_row x y e = cc
row_submits_more (x ∷ xs) r (suc k) row e =
    let n : suc r + k ≡ r + suc k = omega arith in
    ap (λ es. submit_entry r x ∷ es) (row_submits_more xs (suc r) k row e ∙ ap (λ m. row_submits (suc r) (take k xs) ++ submit_entry m row ∷ []) n)

-- the Submits so far are those of the first rows
pub submits_more : (rows : List TraceRow) (k : ℕ) (row : TraceRow) → slice_get rows k ≡ Some row → submit_entry k row ∷ history_of (row_submits 0 (take k rows)) ≡ history_of (row_submits 0 (take (suc k) rows))
submits_more rows k row e =
    let z : 0 + k ≡ k = omega arith in
    let more : row_submits 0 (take (suc k) rows) ≡ row_submits 0 (take k rows) ++ submit_entry k row ∷ [] = row_submits_more rows 0 k row e ∙ ap (λ m. row_submits 0 (take k rows) ++ submit_entry m row ∷ []) z in
    sym (ap reverse more ∙ reverse-append (row_submits 0 (take k rows)) (submit_entry k row ∷ []))

pub fits_submit : (T : Trace) (O : RunOptions) (P : History) (a : Agenda) (row : TraceRow) → AtSubmit T O P a row → FitsSubmit (run_config T O) P (submits P) row.tenant row.kind row.declared
fits_submit T O P a row g =
    let r = lawful_row T (submits P) row g.plan.lawful g.at in
    record {
      open_still = g.keeps.open_still;
      numbered = refl;
      tenant_known = omega (arith, r.tenant, g.plan.lawful.weighed);
      kind_known = r.kind;
      declared_low = r.declared.0;
      declared_high = r.declared.1;
      slot = omega (arith, waiting_few T O P a g.plan g.keeps, row_known T.rows (submits P) row g.at);
      room = room_to_submit T O P a g.plan g.keeps (row_known T.rows (submits P) row g.at);
    }

pub keeps_submit : (T : Trace) (O : RunOptions) (P : History) (a : Agenda) (row : TraceRow) → (g : AtSubmit T O P a row) → Keeps T O (submit_entry (submits P) row ∷ P) (came_agenda a row)
unfolding is_closed is_done
keeps_submit T O P a row g =
    let k = g.keeps in
    let e : Entry = submit_entry (submits P) row in
    let Q : History = e ∷ P in
    let fit = fits_submit T O P a row g in
    let wait : waiting Q ≡ suc (waiting P) = waiting_submitted (run_config T O) P row.submitter row.moment (submits P) row.tenant row.kind row.declared (submits P) (in_limits T O g.plan) k.legal fit in
    let turn : FollowsLast P row.moment (2, submits P) = k.rows_follow row g.at in
    let lawful = lawful_row T (submits P) row g.plan.lawful g.at in
    let now : InTime P row.moment = omega (arith, lawful.moment, waiting_few T O P a g.plan k) in
    record {
      legal = (k.legal, follows_low P row.moment (2, submits P) turn, not_late T O P a row.moment g.plan k now, fit);
      open_still = k.open_still;
      unchanged = k.unchanged;
      caller_is = k.caller_is;
      moment_is = refl;
      submitted_is = omega (arith, k.submitted_is);
      waiting_is = omega (arith, k.waiting_is, wait);
      rows_left = omega (arith, row_known T.rows (submits P) row g.at);
      workers = k.workers;
      requests = ap (λ es. e ∷ es) k.requests ∙ submits_more T.rows (submits P) row g.at;
      served = λ r other is d. served_stays T O.refresh P e r other refl (k.served r other is d);
      works = λ j x is. serves_stays T O P e j x (k.works j x is) refl refl (λ t. omega (arith, t, wait));
      idle = λ j is. k.idle j is;
      in_turn = (k.in_turn, in_turn_now P e turn);
      busy = (k.busy, record { lower_run = tt; settled = λ h. elim h [ inl l ↦ settled_now T O P a k (g.settled (omega (arith, l, k.moment_is))) | inr c ↦ absurd (cc) ] });
      in_time = omega (arith, now, wait);
      works_follow = λ j x is. any_work row.moment 2 (submits P) j x (omega arith) (g.works j x is);
      rows_follow = λ next is. by_moment next (rows_rise T (submits P) (suc (submits P)) row next g.plan.lawful (omega arith) g.at is);
      idle_follow = λ j d. inr (refl, inl (omega arith));
    }
  where
    by_moment : (next : TraceRow) → row.moment ≤ next.moment → ComesBefore row.moment (2, submits P) next.moment (2, suc (submits P))
    by_moment next le = elim (cases_lt row.moment next.moment) [ inl l ↦ inl l | inr q ↦ inr (omega arith, inr (refl, omega arith)) ]
