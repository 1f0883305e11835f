-- A course whose work rises by one step a slice.
use Rattle.std.proofs.Common.{ℕ, zero, suc, ◌-◌, ◌<◌, ◌≤◌, ◌*◌, ◌/◌, ◌+◌, ◌%◌, min, max, if◌then◌else◌, arith, refl, sym, ap, ◌∙◌, subst, add-one, zero-add, ◌≡◌, List, length}
use Rattle.std.proofs.Math.Nat.{div-mul-le_self, lt-div-mul-add}
use Rattle.std.proofs.lemmas.Nat.{mul-le, div_below}
use Rattle.std.proofs.lemmas.Bool.{ne_eqb, eq-eqb}
use Rattle.std.proofs.lemmas.List.FromFn.{length-map-range_with_len, get_or-map-range_with_len}
use Rattle.vt_fixed.specs.declared.limits.TheConstants.{GREATEST_COST}
use Rattle.fq_model.specs.declared.limits.TheConstants.{MOST_SLICES}
use Rattle.vt_fixed.specs.Rounding.{ceil_div}
use Rattle.program_model.specs.Courses.{reports_below}
use Rattle.program_model.specs.PoolHistory.{step_of}
use Rattle.gate_rules.specs.declared.counters.Counters.{Counters}
use Rattle.gate_rules.specs.declared.counters.TheConstants.{NO_COUNTERS}
use Rattle.gate_rules.specs.declared.gate.Slice.TheVariants.{More, End}
use Rattle.gate_rules.specs.Counting.{IsAtMost, greater_of}
use Rattle.gate_rules.specs.Slices.{counters_after, counters_before, slice_at, total, IsCourse, Follows}
use Rattle.gate_rules.specs.Stepping.{work_only, step_counters, step_course, IsStepping, StepsCountUp}

pub has_step : (step cost : ℕ) → IsStepping step cost → 0 < step
has_step zero cost s = omega (arith, s.some, s.few)
has_step (suc step) cost s = omega arith

-- the steps that are reported stay below the cost, one more reaches it, and they are few
pub record Reaches (step cost k : ℕ) : Type 0 where
  pub below : k * step < cost
  pub reached : cost ≤ suc k * step
  pub few : suc k ≤ MOST_SLICES

pub reports_are : (step cost : ℕ) → 0 < step → reports_below step cost ≡ (cost - 1) / step
unfolding reports_below
reports_are step cost h = ap (λ b. if b then 0 else (cost - 1) / step) (ne_eqb step 0 (λ e. omega (arith, e, h)))

pub reaches : (step cost : ℕ) → IsStepping step cost → Reaches step cost (reports_below step cost)
reaches step cost s =
    let some : 0 < step = has_step step cost s in
    rw (reports_are step cost some) record {
      below = omega (arith, s.some, div-mul-le_self (cost - 1) step);
      reached = omega (arith, s.some, lt-div-mul-add {a = cost - 1} some);
      few = omega (arith, div_below (cost - 1) step 10000 some (omega (arith, s.some, s.few)));
    }

pub course_length : (step cost : ℕ) → length (step_course step cost) ≡ reports_below step cost + 1
course_length step cost = length-map-range_with_len (step_counters step cost) 0 (reports_below step cost + 1)

pub counted : (step cost : ℕ) → IsStepping step cost → (cost - 1) / step + 1 ≡ length (step_course step cost)
counted step cost s =
    ap (λ n. n + 1) (sym (reports_are step cost (has_step step cost s)))
    ∙ sym (course_length step cost)

pub course_counters : (step cost k : ℕ) → k < reports_below step cost + 1
    → counters_after (step_course step cost) k ≡ step_counters step cost k
course_counters step cost k h =
    get_or-map-range_with_len (step_counters step cost) 0 (reports_below step cost + 1) k k NO_COUNTERS h (zero-add k)

pub course_total : (step cost : ℕ) → IsStepping step cost → total (step_course step cost) ≡ work_only cost
course_total step cost s =
    let q : ℕ = reports_below step cost in
    let whole : min cost (suc q * step) ≡ cost = omega (arith, (reaches step cost s).reached) in
    ap (counters_before (step_course step cost)) (course_length step cost ∙ add-one q)
    ∙ (course_counters step cost q (omega arith) ∙ ap work_only whole)

pub work_rises : (a b : ℕ) → a ≤ b → IsAtMost (work_only a) (work_only b)
work_rises a b h = record { work = h; items = omega arith; bytes = omega arith }

pub course_rises : (step cost k : ℕ) → k < reports_below step cost + 1
    → IsAtMost (counters_before (step_course step cost) k) (counters_after (step_course step cost) k)
course_rises step cost zero h = rw (course_counters step cost zero h) (work_rises 0 (min cost (1 * step)) (omega arith))
course_rises step cost (suc k) h =
    let before : k < reports_below step cost + 1 = omega (arith, h) in
    rw (course_counters step cost k before) rw (course_counters step cost (suc k) h)
    (work_rises (min cost (suc k * step)) (min cost (suc (suc k) * step)) (omega arith))

pub step_is_course : (step cost : ℕ) → IsStepping step cost → IsCourse (step_course step cost)
step_is_course step cost s =
    record {
      some = rw (course_length step cost) (omega arith);
      few = rw (course_length step cost) (omega (arith, (reaches step cost s).few));
      rises = λ k h. course_rises step cost k (subst (λ n. k < n) (course_length step cost) h);
    }

-- the greater of two counters of which one is at most the other
pub greater_is : (a b : Counters) → IsAtMost a b → greater_of a b ≡ b
greater_is a b h =
    let work : max a.work b.work ≡ b.work = omega (arith, h.work) in
    let items : max a.items b.items ≡ b.items = omega (arith, h.items) in
    let bytes : max a.bytes b.bytes ≡ b.bytes = omega (arith, h.bytes) in
    rw work rw items rw bytes refl

pub greater_at_most : (a b most : Counters) → IsAtMost a most → IsAtMost b most → IsAtMost (greater_of a b) most
greater_at_most a b most h k =
    record {
      work = omega (arith, h.work, k.work);
      items = omega (arith, h.items, k.items);
      bytes = omega (arith, h.bytes, k.bytes);
    }

pub step_within : (step cost k : ℕ) → IsStepping step cost
    → IsAtMost (step_counters step cost k) (total (step_course step cost))
step_within step cost k s = rw (course_total step cost s) (work_rises (min cost (suc k * step)) cost (omega arith))

-- A slice of any course, by its counters.

pub greater_after : (course : List Counters) (k : ℕ) (last item : Counters) → IsAtMost (counters_before course k) item
    → last ≡ counters_before course k → greater_of last item ≡ item
greater_after course k last item up before = greater_is last item (subst (λ c. IsAtMost c item) (sym before) up)

pub more_slice : (course : List Counters) (k : ℕ) (item : Counters) → counters_after course k ≡ item
    → suc k < length course
    → More item ≡ slice_at course k
more_slice course k item is h =
    ap More (sym is)
    ∙ sym (ap (λ b. if b then End (counters_after course k) else More (counters_after course k))
    (ne_eqb (suc k) (length course) (λ e. omega (arith, e, h))))

pub end_slice : (course : List Counters) (k : ℕ) (item : Counters) → counters_after course k ≡ item
    → suc k ≡ length course
    → End item ≡ slice_at course k
end_slice course k item is h =
    ap End (sym is)
    ∙ sym (ap (λ b. if b then End (counters_after course k) else More (counters_after course k))
    (eq-eqb (suc k) (length course) h))

-- a slice that isn't the last
pub more_follows : (step cost k : ℕ) (last : Counters) → IsStepping step cost → suc k < length (step_course step cost)
    → Follows (step_course step cost) k last (More (greater_of last (step_counters step cost k)))
more_follows step cost k last s h =
    let course : List Counters = step_course step cost in
    let item : Counters = step_counters step cost k in
    let whole : IsCourse course = step_is_course step cost s in
    let is : counters_after course k ≡ item = course_counters step cost k (omega (arith, h, course_length step cost)) in
    let up : IsAtMost (counters_before course k) item =
    subst (IsAtMost (counters_before course k)) is (whole.rises k (omega (arith, h))) in
    record {
      is_course = whole;
      slice = λ _ before. ap More (greater_after course k last item up before) ∙ more_slice course k item is h;
      within = λ low. greater_at_most last item (total course) low (step_within step cost k s);
      ends = λ _ at. absurd (omega (arith, at, h, whole.few));
    }

pub last_total : (step cost k : ℕ) (last : Counters) → IsStepping step cost → length (step_course step cost) ≤ suc k
    → IsAtMost last (total (step_course step cost))
    → greater_of last (step_counters step cost k) ≡ total (step_course step cost)
last_total step cost k last s h low =
    let q : ℕ = reports_below step cost in
    let reach : Reaches step cost q = reaches step cost s in
    let past : suc q ≤ suc k = omega (arith, h, course_length step cost) in
    let more : suc q * step ≤ suc k * step = mul-le (suc q) step (suc k) step past (omega arith) in
    let whole : min cost (suc k * step) ≡ cost = omega (arith, reach.reached, more) in
    ap (greater_of last) (ap work_only whole ∙ sym (course_total step cost s))
    ∙ greater_is last (total (step_course step cost)) low

-- the last slice, and those that nothing asks for
pub end_follows : (step cost k : ℕ) (last : Counters) → IsStepping step cost → length (step_course step cost) ≤ suc k
    → Follows (step_course step cost) k last (End (greater_of last (step_counters step cost k)))
end_follows step cost k last s h =
    let course : List Counters = step_course step cost in
    let item : Counters = step_counters step cost k in
    let whole : IsCourse course = step_is_course step cost s in
    let item_is : k < length course → counters_after course k ≡ item =
    λ here. course_counters step cost k (omega (arith, here, course_length step cost)) in
    let up : k < length course → IsAtMost (counters_before course k) item =
    λ here. subst (IsAtMost (counters_before course k)) (item_is here) (whole.rises k here) in
    record {
      is_course = whole;
      slice = λ here before. ap End (greater_after course k last item (up here) before)
          ∙ end_slice course k item (item_is here) (omega (arith, h, here));
      within = λ low. last_total step cost k last s h low;
      ends = λ low _. ap End (last_total step cost k last s h low);
    }

-- the code's counters, step and number of slices
pub raised : (step cost k work : ℕ) (last counters : Counters) → work ≡ min cost ((k + 1) * step)
    → counters ≡ greater_of last (work_only work) → counters ≡ greater_of last (step_counters step cost k)
raised step cost k work last counters w e =
    e ∙ ap (λ n. greater_of last (work_only n)) (w ∙ ap (λ n. min cost (n * step)) (add-one k))

pub whole_step : (refresh cost : ℕ) → refresh ≡ 0 → cost ≡ step_of refresh cost
unfolding step_of
whole_step refresh cost h =
    ap (λ b. if b then cost else max refresh (ceil_div cost MOST_SLICES)) (sym (eq-eqb refresh 0 h))

pub refreshed_step : (refresh cost n : ℕ) → (refresh ≡ 0 → ⊥) → n ≡ cost / 10000 + min 1 (cost % 10000)
    → max refresh n ≡ step_of refresh cost
unfolding step_of
refreshed_step refresh cost n h is =
    let up : max refresh n ≡ max refresh (ceil_div cost MOST_SLICES) = omega (arith, is) in
    up ∙ ap (λ b. if b then cost else max refresh (ceil_div cost MOST_SLICES)) (sym (ne_eqb refresh 0 h))

pub steps_fit : (refresh cost : ℕ) → refresh ≤ GREATEST_COST → 1 ≤ cost → cost ≤ GREATEST_COST
    → IsStepping (step_of refresh cost) cost
steps_fit zero cost small some limit =
    subst (λ step. IsStepping step cost) (whole_step 0 cost refl)
    record { some = some; limit = limit; small = limit; few = omega arith }
steps_fit (suc refresh) cost small some limit =
    let n : ℕ = cost / 10000 + min 1 (cost % 10000) in
    subst (λ step. IsStepping step cost) (refreshed_step (suc refresh) cost n (λ e. omega (arith, e)) refl)
    record { some = some; limit = limit; small = omega (arith, small, limit); few = omega arith }

pub reported_counters : (step cost k : ℕ) → IsStepping step cost → k < reports_below step cost
    → counters_after (step_course step cost) k ≡ work_only (suc k * step)
reported_counters step cost k s h =
    let q : ℕ = reports_below step cost in
    let within : suc k * step ≤ q * step = mul-le (suc k) step q step (omega (arith, h)) (omega arith) in
    let low : min cost (suc k * step) ≡ suc k * step = omega (arith, within, (reaches step cost s).below) in
    course_counters step cost k (omega (arith, h)) ∙ ap work_only low

pub steps_count_up : StepsCountUp
steps_count_up refresh cost small some limit =
    let s : IsStepping (step_of refresh cost) cost = steps_fit refresh cost small some limit in
    record {
      is_course = step_is_course (step_of refresh cost) cost s;
      length_is = course_length (step_of refresh cost) cost;
      total_is = course_total (step_of refresh cost) cost s;
      reported = λ k h. reported_counters (step_of refresh cost) cost k s h;
    }
