-- The numbers of a legal history are in the limits that slots and lines ask for.
use Rattle.std.proofs.Common.{ℕ, ◌-◌, ◌<◌, ◌≤◌, ◌≡◌, Bool, true, [], ◌∷◌, Some, unwrap_or, arith, ap, sym, ◌∙◌, subst, inl, inr, All}
use Rattle.std.proofs.lemmas.Bool.{cases_eq, cases_Bool, cond-true, cond-false, eq-eqb, ne_eqb, false≢true}
use Rattle.std.proofs.lemmas.List.{get_or_default}
use Rattle.fq_model.specs.declared.config.Config.{Config}
use Rattle.fq_model.specs.declared.event.Act.{Act}
use Rattle.fq_model.specs.declared.event.Act.TheVariants.{Take, Done}
use Rattle.fq_model.specs.History.{History, submits, is_waiting, is_taken, is_done, is_withdrawn, is_ended, is_take_of, is_done_of}
use Rattle.fq_model.specs.Time.{last_moment}
use Rattle.fq_model.specs.Charge.{final_cost, cost_in}
use Rattle.fq_model.specs.Rules.{IsLegal, Fits}
use Rattle.fq_model.specs.Fluid.{moment_of, IsInOrder}
use Rattle.fq_model.specs.Lag.{take_moment, done_moment, measured_cost}
use Rattle.fq_model.specs.Report.{slots_of}
use Rattle.fq_laws.proofs.Rules.Limits.{last_moment_small}
use Rattle.fq_laws.proofs.Rules.Takes.{take_waits}
use Rattle.fq_laws.proofs.History.Requests.{untaken_undone, withdrawn_untaken}
use Rattle.fq_laws.proofs.History.Asked.{waits_untaken, ended_by}
use Rattle.lag_report.specs.Courses.{courses_of}
use Rattle.lag_report.specs.Work.{EndsWithin}
use Rattle.lag_report.proofs.CoursesAre.{course_of, courses_are, no_moment}
use Rattle.lag_report.proofs.Gains.{quotients}

-- ---- moments

pub in_order : (C : Config) (H : History) → IsLegal C H → IsInOrder H
in_order C [] l = tt
in_order C (e ∷ P) l = (l.1, in_order C P l.0)

-- no act came after the last
moment_low : (C : Config) (H : History) (test : Act → Bool) → IsLegal C H → unwrap_or (moment_of test H) 0 ≤ last_moment H
moment_low C [] test l = omega arith
moment_low C (e ∷ P) test l = elim (cases_Bool (test e.act)) [
  | inl is ↦ omega (arith, ap (λ o. unwrap_or o 0) (cond-true (test e.act) (Some e.moment) (moment_of test P) is))
  | inr is ↦ omega (arith, ap (λ o. unwrap_or o 0) (cond-false (test e.act) (Some e.moment) (moment_of test P) is), moment_low C P test l.0, l.1)
]

-- a request that is done was taken before
ends_at : (C : Config) (P : History) (m r : ℕ) (a : Act) → IsLegal C P → last_moment P ≤ m → Fits C P m a → (is_done P r ≡ true → take_moment P r ≤ done_moment P r) → is_done (record { who = 0; moment = m; act = a } ∷ P) r ≡ true →
    take_moment (record { who = 0; moment = m; act = a } ∷ P) r ≤ done_moment (record { who = 0; moment = m; act = a } ∷ P) r
unfolding is_done
ends_at C P m r (Take w q estimate) l late f ih h = elim (cases_eq q r) [
  | inl e ↦ absurd (false≢true (sym (untaken_undone C P r l (waits_untaken P r (subst (λ n. is_waiting P n ≡ true) e (take_waits C P m w q estimate f)))) ∙ h))
  | inr ne ↦ rw (ne_eqb q r ne) (ih h)
]
ends_at C P m r (Done w q cost) l late f ih h = elim (cases_eq q r) [
  | inl e ↦ rw (eq-eqb q r e) (omega (arith, moment_low C P (is_take_of r) l, late))
  | inr ne ↦ rw (ne_eqb q r ne) (ih (rw (ne_eqb q r ne) at h))
]
ends_at C P m r _ l late f ih h = ih h

ends_after : (C : Config) (H : History) (r : ℕ) → IsLegal C H → is_done H r ≡ true → take_moment H r ≤ done_moment H r
unfolding is_done
ends_after C [] r l h = absurd (false≢true h)
ends_after C (e ∷ P) r l h = ends_at C P e.moment r e.act l.0 l.1 l.3 (ends_after C P r l.0) h

-- ---- costs

cost_at : (C : Config) (P : History) (m r : ℕ) (a : Act) → Fits C P m a → unwrap_or (final_cost P r) 0 ≤ 1000000000 → unwrap_or (cost_in r a (final_cost P r)) 0 ≤ 1000000000
cost_at C P m r (Done w q cost) f ih = elim (cases_eq q r) [
  | inl e ↦ rw (eq-eqb q r e) f.in_range
  | inr ne ↦ rw (ne_eqb q r ne) ih
]
cost_at C P m r _ f ih = ih

cost_low : (C : Config) (H : History) (r : ℕ) → IsLegal C H → measured_cost H r ≤ 1000000000
cost_low C [] r l = omega arith
cost_low C (e ∷ P) r l = cost_at C P e.moment r e.act l.3 (cost_low C P r l.0)

-- ---- courses

-- a request that is withdrawn was never taken
never_taken : (C : Config) (H : History) (r : ℕ) → IsLegal C H → is_withdrawn H r ≡ true → take_moment H r ≡ 0
unfolding is_taken
never_taken C H r l withdrawn = ap (λ o. unwrap_or o 0) (no_moment (is_take_of r) H (withdrawn_untaken C H r l withdrawn))

ends : (C : Config) (H : History) (Q r : ℕ) → 1 ≤ Q → IsLegal C H → is_ended H r ≡ true → EndsWithin Q (slots_of H Q) (course_of H r)
ends C H Q r some l ended =
    let low : done_moment H r ≤ last_moment H = moment_low C H (is_done_of r) l in
    record {
      in_order = elim (ended_by H r ended) [
        | inl done ↦ ends_after C H r l done
        | inr withdrawn ↦ omega (arith, never_taken C H r l withdrawn)
      ];
      moment = omega (arith, low, last_moment_small C H l);
      cost = cost_low C H r l;
      slot = omega (arith, quotients (done_moment H r - 1) (last_moment H) Q some (omega (arith, low)));
    }

pub courses_end : (C : Config) (H : History) (Q : ℕ) → 1 ≤ Q → IsLegal C H → ((r : ℕ) → r < submits H → is_ended H r ≡ true) → All (EndsWithin Q (slots_of H Q)) (courses_of H)
courses_end C H Q some l ended k d b =
    let are = courses_are C H l in
    let here : k < submits H = omega (arith, b, are.counted) in
    subst (EndsWithin Q (slots_of H Q)) (sym (get_or_default (courses_of H) k d _ b ∙ are.each k here)) (ends C H Q k some l (ended k here))
