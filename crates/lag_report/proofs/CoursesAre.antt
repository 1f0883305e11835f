-- The list of courses of a legal history has the course of each request.
use Rattle.std.proofs.Common.{ℕ, ◌<◌, ◌≡◌, ◌≢◌, Bool, true, false, nat_eq, List, [], ◌∷◌, ◌++◌, Option, Some, None, unwrap_or, length, slice_set, arith, refl, ap, ap₂, sym, ◌∙◌, subst, inl, inr, length-append, length-set, ◌||◌, get_or-set_same, get_or-set_other}
use Rattle.std.proofs.lemmas.Bool.{cases_eq, cases_Bool, cond-true, cond-false, eq-eqb, ne_eqb, or_parts, false≢true}
use Rattle.std.proofs.Math.ListN.{get_or-append}
use Rattle.std.proofs.Math.Seq.{get_or-append_seam}
use Rattle.fq_model.specs.declared.config.Config.{Config}
use Rattle.fq_model.specs.declared.event.Act.{Act}
use Rattle.fq_model.specs.declared.event.Act.TheVariants.{Submit, Take, Done, Withdraw}
use Rattle.fq_model.specs.declared.fluid.FluidRow.{FluidRow}
use Rattle.fq_model.specs.History.{History, Request, request_at, submits, has_act, is_submit_of, is_take_of, is_done_of, is_taken, is_done, is_ended, is_submitted}
use Rattle.fq_model.specs.Rules.{IsLegal, Fits}
use Rattle.fq_model.specs.Fluid.{moment_of, submit_moment, fluid_rows_of, with_row, with_row_of}
use Rattle.fq_model.specs.Lag.{take_moment, done_moment, measured_cost}
use Rattle.fq_laws.proofs.History.Requests.{fresh_untaken, fresh_undone, fresh_unended, submitted_below, taken_submitted, use_known, use_taken}
use Rattle.fq_laws.proofs.History.Asked.{waits_submitted, asked_submitted}
use Rattle.fq_laws.proofs.Rules.Takes.{take_waits}
use Rattle.fq_laws.proofs.Charge.Requests.{cost_none}
use Rattle.lag_report.specs.declared.course.Course.{Course}
use Rattle.lag_report.specs.Courses.{submitted, course_at, courses_after, courses_of, rows_after, rows_of, NamesOneOf, NamesSubmitted}

-- the tenant of a request, or 0
abbrev pub tenant_in : Option Request → ℕ
tenant_in None = 0
tenant_in (Some q) = q.tenant

-- the course of request r in a history
abbrev pub course_of : History → ℕ → Course
course_of H r = record {
  tenant = tenant_in (request_at H r);
  submit = unwrap_or (submit_moment H r) 0;
  taken = take_moment H r;
  ended = done_moment H r;
  cost = measured_cost H r;
  is_ended = is_ended H r;
}

-- the courses of a history are these
pub record CoursesAre (H : History) (courses : List Course) : Type 0 where
  pub counted : length courses ≡ submits H
  pub each : (r : ℕ) → r < submits H → course_at courses r ≡ course_of H r

-- ---- one entry more

pub no_moment : (test : Act → Bool) (P : History) → has_act test P ≡ false → moment_of test P ≡ None
no_moment test [] h = refl
no_moment test (e ∷ P) h = let p = or_parts (test e.act) (has_act test P) h in cond-false (test e.act) _ _ p.0 ∙ no_moment test P p.1

-- the course of a request that was just submitted
fresh_course : (C : Config) (P : History) (who m tenant kind declared label : ℕ) → IsLegal C P → course_of (record { who = who; moment = m; act = Submit (submits P) tenant kind declared label } ∷ P) (submits P) ≡ submitted tenant m
unfolding is_done is_taken is_ended is_submitted
fresh_course C P who m tenant kind declared label l =
    let own : nat_eq (submits P) (submits P) ≡ true = eq-eqb (submits P) (submits P) refl in
    rw (own, no_moment (is_take_of (submits P)) P (fresh_untaken C P (submits P) l (omega arith)), no_moment (is_done_of (submits P)) P (fresh_undone C P (submits P) l (omega arith)), cost_none P (submits P) (fresh_undone C P (submits P) l (omega arith)), fresh_unended C P (submits P) l (omega arith)) refl

other_submit : (P : History) (who m q tenant kind declared label r : ℕ) → q ≢ r → course_of (record { who = who; moment = m; act = Submit q tenant kind declared label } ∷ P) r ≡ course_of P r
unfolding is_ended
other_submit P who m q tenant kind declared label r ne = rw (ne_eqb q r ne) refl

own_take : (P : History) (who m w r estimate : ℕ) → course_of (record { who = who; moment = m; act = Take w r estimate } ∷ P) r ≡ record (course_of P r) { taken = m }
unfolding is_ended
own_take P who m w r estimate = rw (eq-eqb r r refl) refl

other_take : (P : History) (who m w q estimate r : ℕ) → q ≢ r → course_of (record { who = who; moment = m; act = Take w q estimate } ∷ P) r ≡ course_of P r
unfolding is_ended
other_take P who m w q estimate r ne = rw (ne_eqb q r ne) refl

own_done : (P : History) (who m w r cost : ℕ) → course_of (record { who = who; moment = m; act = Done w r cost } ∷ P) r ≡ record (course_of P r) { ended = m; cost = cost; is_ended = true }
unfolding is_ended
own_done P who m w r cost = rw (eq-eqb r r refl) refl

other_done : (P : History) (who m w q cost r : ℕ) → q ≢ r → course_of (record { who = who; moment = m; act = Done w q cost } ∷ P) r ≡ course_of P r
unfolding is_ended
other_done P who m w q cost r ne = rw (ne_eqb q r ne) refl

own_withdraw : (P : History) (who m r : ℕ) → course_of (record { who = who; moment = m; act = Withdraw r } ∷ P) r ≡ record (course_of P r) { is_ended = true }
unfolding is_ended
own_withdraw P who m r = rw (eq-eqb r r refl) refl

other_withdraw : (P : History) (who m q r : ℕ) → q ≢ r → course_of (record { who = who; moment = m; act = Withdraw q } ∷ P) r ≡ course_of P r
unfolding is_ended
other_withdraw P who m q r ne = rw (ne_eqb q r ne) refl

-- the request that an act names was submitted
pub names_known : (C : Config) (P : History) (m : ℕ) (a : Act) → IsLegal C P → Fits C P m a → NamesOneOf (submits P) a
names_known C P m (Take worker request estimate) l f = submitted_below C P request l (waits_submitted P request (take_waits C P m worker request estimate f))
names_known C P m (Done worker request cost) l f = submitted_below C P request l (taken_submitted C P request l (use_taken P worker request cost f))
names_known C P m (Withdraw request) l f = submitted_below C P request l (waits_submitted P request f)
names_known C P m _ l f = tt

set_same : (H : History) (courses : List Course) (q r : ℕ) (v : Course) → q < length courses → q ≡ r → course_at (slice_set courses q v) r ≡ v
set_same H courses q r v inside is = ap (course_at (slice_set courses q v)) (sym is) ∙ get_or-set_same courses q v (submitted 0 0) inside

step_at : (C : Config) (P : History) (who m : ℕ) (a : Act) (courses : List Course) → IsLegal C P → Fits C P m a → CoursesAre P courses → CoursesAre (record { who = who; moment = m; act = a } ∷ P) (courses_after m a courses)
unfolding is_ended
step_at C P who m (Submit q tenant kind declared label) courses l f are = record {
  counted = omega (arith, are.counted, length-append courses (submitted tenant m ∷ []));
  each = λ r b. elim (cases_eq r (submits P)) [
    | inl e ↦ ap (λ n. course_at (courses ++ submitted tenant m ∷ []) n) (e ∙ sym are.counted) ∙ get_or-append_seam courses (submitted tenant m) [] (submitted 0 0)
        ∙ sym (fresh_course C P who m tenant kind declared label l) ∙ ap₂ (λ n k. course_of (record { who = who; moment = m; act = Submit n tenant kind declared label } ∷ P) k) (sym f.numbered) (sym e)
    | inr ne ↦ get_or-append courses (submitted tenant m ∷ []) (submitted 0 0) r (omega (arith, b, ne, are.counted)) ∙ are.each r (omega (arith, b, ne)) ∙ sym (other_submit P who m q tenant kind declared label r (λ e. ne (sym e ∙ f.numbered)))
  ];
}
step_at C P who m (Take w q estimate) courses l f are =
    let inside : q < submits P = names_known C P m (Take w q estimate) l f in
    record {
      counted = length-set courses q (record (course_at courses q) { taken = m }) ∙ are.counted;
      each = λ r b. elim (cases_eq q r) [
        | inl e ↦ set_same P courses q r (record (course_at courses q) { taken = m }) (omega (arith, inside, are.counted)) e ∙ ap (λ (c : Course). record c { taken = m }) (are.each q inside) ∙ sym (own_take P who m w q estimate) ∙ ap (course_of (record { who = who; moment = m; act = Take w q estimate } ∷ P)) e
        | inr ne ↦ get_or-set_other courses q r (record (course_at courses q) { taken = m }) (submitted 0 0) (λ e. ne (sym e)) ∙ are.each r b ∙ sym (other_take P who m w q estimate r ne)
      ];
    }
step_at C P who m (Done w q cost) courses l f are =
    let inside : q < submits P = names_known C P m (Done w q cost) l f in
    let v : Course = record (course_at courses q) { ended = m; cost = cost; is_ended = true } in
    record {
      counted = length-set courses q v ∙ are.counted;
      each = λ r b. elim (cases_eq q r) [
        | inl e ↦ set_same P courses q r v (omega (arith, inside, are.counted)) e ∙ ap (λ (c : Course). record c { ended = m; cost = cost; is_ended = true }) (are.each q inside) ∙ sym (own_done P who m w q cost) ∙ ap (course_of (record { who = who; moment = m; act = Done w q cost } ∷ P)) e
        | inr ne ↦ get_or-set_other courses q r v (submitted 0 0) (λ e. ne (sym e)) ∙ are.each r b ∙ sym (other_done P who m w q cost r ne)
      ];
    }
step_at C P who m (Withdraw q) courses l f are =
    let inside : q < submits P = names_known C P m (Withdraw q) l f in
    let v : Course = record (course_at courses q) { is_ended = true } in
    record {
      counted = length-set courses q v ∙ are.counted;
      each = λ r b. elim (cases_eq q r) [
        | inl e ↦ set_same P courses q r v (omega (arith, inside, are.counted)) e ∙ ap (λ (c : Course). record c { is_ended = true }) (are.each q inside) ∙ sym (own_withdraw P who m q) ∙ ap (course_of (record { who = who; moment = m; act = Withdraw q } ∷ P)) e
        | inr ne ↦ get_or-set_other courses q r v (submitted 0 0) (λ e. ne (sym e)) ∙ are.each r b ∙ sym (other_withdraw P who m q r ne)
      ];
    }
step_at C P who m _ courses l f are = record { counted = are.counted; each = are.each }

pub courses_are : (C : Config) (H : History) → IsLegal C H → CoursesAre H (courses_of H)
courses_are C [] l = record { counted = refl; each = λ r b. absurd (omega (arith, b)) }
courses_are C (e ∷ P) l = step_at C P e.who e.moment e.act (courses_of P) l.0 l.3 (courses_are C P l.0)

-- a request that is taken, done or withdrawn was submitted
pub names_submitted : (C : Config) (H : History) → IsLegal C H → NamesSubmitted H
names_submitted C [] l = tt
names_submitted C (e ∷ P) l = (names_submitted C P l.0, subst (λ n. NamesOneOf n e.act) (sym (courses_are C P l.0).counted) (names_known C P e.moment e.act l.0 l.3))

-- ---- completed requests

some_moment : (test : Act → Bool) (P : History) → has_act test P ≡ true → (m : ℕ) × (moment_of test P ≡ Some m)
some_moment test [] h = absurd (false≢true h)
some_moment test (e ∷ P) h = elim (cases_Bool (test e.act)) [
  | inl is ↦ (e.moment, cond-true (test e.act) _ _ is)
  | inr is ↦ (let rest = some_moment test P (or_right_true (test e.act) (has_act test P) is h) in (rest.0, cond-false (test e.act) _ _ is ∙ rest.1))
]
  where
    or_right_true : (b c : Bool) → b ≡ false → (b || c) ≡ true → c ≡ true
    or_right_true b c is h = rw is at h

row_at : (C : Config) (P : History) (m : ℕ) (a : Act) (rows : List FluidRow) → IsLegal C P → Fits C P m a → rows_after (courses_of P) a rows ≡ with_row P a rows
unfolding is_submitted
row_at C P m (Done w q cost) rows l f =
    let inside : q < submits P = names_known C P m (Done w q cost) l f in
    let asked = use_known C P w q cost l f in
    let came = some_moment (is_submit_of q) P (asked_submitted P q asked.0 asked.1) in
    let course : course_at (courses_of P) q ≡ course_of P q = (courses_are C P l).each q inside in
    let tenant : (course_at (courses_of P) q).tenant ≡ asked.0.tenant = ap (λ (c : Course). c.tenant) course ∙ ap tenant_in asked.1 in
    let submit : (course_at (courses_of P) q).submit ≡ came.0 = ap (λ (c : Course). c.submit) course ∙ ap (λ o. unwrap_or o 0) came.1 in
    ap₂ (λ (t : ℕ) (s : ℕ). rows ++ record { tenant = t; submit = s; cost = cost } ∷ []) tenant submit ∙ sym (ap₂ (λ o s. with_row_of o s cost rows) asked.1 came.1)
row_at C P m _ rows l f = refl

pub rows_are : (C : Config) (H : History) → IsLegal C H → rows_of H ≡ fluid_rows_of H
rows_are C [] l = refl
rows_are C (e ∷ P) l = row_at C P e.moment e.act (rows_of P) l.0 l.3 ∙ ap (with_row P e.act) (rows_are C P l.0)
