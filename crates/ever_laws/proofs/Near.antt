-- The cap stays near virtual time, and both stay near the most and the least of tenants.
use Rattle.std.proofs.Common.{ℕ, ◌+◌, ◌≤◌, ◌≡◌, refl, ap, arith, inl, inr, [], ◌∷◌, Option, Some, None, ℤ, pos, ◌≤ℤ◌}
use Rattle.std.specs.Prelude.{◌-ℤ◌, ◌+ℤ◌}
use Rattle.std.proofs.lemmas.Int.{ints, clamps}
use Rattle.std.proofs.lemmas.Bool.{cases_eq}
use Rattle.fq_model.specs.Ever.{greatest_part}
use Rattle.fq_model.specs.declared.config.Config.{Config}
use Rattle.fq_model.specs.declared.event.Entry.{Entry}
use Rattle.fq_model.specs.History.{History, head}
use Rattle.fq_model.specs.Lead.{may_rise, may_fall, start_now}
use Rattle.fq_model.specs.Pace.{pace}
use Rattle.fq_laws.proofs.Charge.Tenants.{virtual_charge_nil}
use Rattle.fq_laws.proofs.Keys.Pace.{base_nil}
use Rattle.gap_laws.proofs.WorstCase.{longest, nothing}
use Rattle.ever_laws.specs.Laws.{all_and_part, MostStaysNear}
use Rattle.ever_laws.specs.Words.{IsPacedWithin, time_now, running_length, ground_for, ground}
use Rattle.ever_laws.proofs.Entries.{starts_at, time_rises}
use Rattle.ever_laws.proofs.Grounds.{runs_within, least_on, ground_low}
use Rattle.ever_laws.proofs.Takes.{Taken, change, cap_change, within_older}

-- ---- the cap and virtual time

pub cap_nil : (C : Config) → (pace C []).reached ≡ 0
unfolding pace
cap_nil C = refl

-- virtual time is never behind the cap by more than one request and one part
pub cap_near : (C : Config) (H : History) (M : ℕ) → IsPacedWithin C H M → (pace C H).reached ≤ time_now C H + greatest_part C M + M
cap_near C [] M is = omega (arith, cap_nil C)
cap_near C (e ∷ P) M is =
    let before : (pace C P).reached ≤ time_now C P + greatest_part C M + M = cap_near C P M (within_older C P e M is) in
    let time = time_rises C P e is.legal in
    elim (cap_change C P e M is) [
      | inl same ↦ omega (arith, before, time, same)
      | inr x ↦ (let n = x.1 in omega (arith, before, time, n.cap_is, n.lifted, n.len_high))
    ]

-- ---- the most of a tenant

pub start_nil : (C : Config) (t M : ℕ) → IsPacedWithin C [] M → start_now C [] t ≡ 0
start_nil C t M is = omega (arith, starts_at C [] t is.policy, virtual_charge_nil C t, base_nil C t)

pub most_near_in : (C : Config) (H : History) (t M : ℕ) → IsPacedWithin C H M → start_now C H t + may_rise (longest M) C H t ≤ time_now C H + all_and_part C M
most_near_in C [] t M is = let within = runs_within C [] t M is in omega (arith, start_nil C t M is, within.parts, within.all)
most_near_in C (e ∷ P) t M is =
    let older = within_older C P e M is in
    let before : start_now C P t + may_rise (longest M) C P t ≤ time_now C P + all_and_part C M = most_near_in C P t M older in
    let within = runs_within C P t M older in
    let time = time_rises C P e is.legal in
    elim (change C P e t M is) [
      | inl s ↦ omega (arith, before, time, s.most_is)
      | inr x ↦ elim x [
        | inl c ↦ omega (arith, before, time, c.start_is, c.rise_is, within.parts, within.all)
        | inr n ↦ omega (arith, time, n.start_is, n.rise_is, n.lifted, within.parts, n.one_free t)
      ]
    ]

pub most_near : MostStaysNear
most_near C H t M is = omega (arith, ints, most_near_in C H t M is)

-- ---- the cap and the ground of a tenant

-- (the finish of the taken request; the start of t, its possible fall and running length, before; its ground after)
near_waiting : (f x d k part M : ℕ) (ground : ℤ) → f ≤ x + M + part → d ≤ k → (pos x -ℤ pos d) ≤ℤ ground → pos f ≤ℤ (ground +ℤ pos (k + M + part))
near_waiting f x d k part M ground finish less low = omega (arith, ints, finish, less, low)

near_away : (f x v k part M : ℕ) (ground : ℤ) → x ≤ v + part → f ≤ x + M → (pos v -ℤ pos k) ≤ℤ ground → pos f ≤ℤ (ground +ℤ pos (k + M + part))
near_away f x v k part M ground lifted finish low = omega (arith, ints, lifted, finish, low)

-- where t does not wait, its ground after a Take is at least virtual time less its running length
coming_low : (o o2 : Option ℕ) (least : ℤ) (v k k2 : ℕ) → o ≡ None → (o ≡ None → o2 ≡ None) → k2 ≤ k → (pos v -ℤ pos k) ≤ℤ ground_for o2 least (pos v -ℤ pos k2)
coming_low o o2 least v k k2 none still runs = rw (still none) (omega (arith, ints, clamps, runs))

came_low : (x d v k : ℕ) (least ground : ℤ) → v ≤ x → d ≤ k → least ≡ pos x -ℤ pos d → least ≤ℤ ground → (pos v -ℤ pos k) ≤ℤ ground
came_low x d v k least ground starts less is low = omega (arith, ints, starts, less, is, low)

pub away_low : (C : Config) (P : History) (e : Entry) (t M : ℕ) → IsPacedWithin C (e ∷ P) M → head P t ≡ None → (pos (time_now C (e ∷ P)) -ℤ pos (running_length M C P t)) ≤ℤ ground M C (e ∷ P) t
away_low C P e t M is none = elim (change C P e t M is) [
  | inl s ↦ coming_low (head P t) (head (e ∷ P) t) _ _ _ _ none s.still (s.runs M)
  | inr x ↦ elim x [
    | inl c ↦ (let within = runs_within C P t M (within_older C P e M is) in came_low (start_now C (e ∷ P) t) (may_fall nothing C (e ∷ P) t) (time_now C (e ∷ P)) (running_length M C P t) _ _ (omega (arith, c.start_is)) (omega (arith, c.fall_is, within.parts)) refl (ground_low (head (e ∷ P) t) _ _))
    | inr n ↦ absurd (let h : head P t ≡ Some n.request = n.some in cc)
  ]
]

-- its ground after an entry is at least its least before
pub least_below : (C : Config) (P : History) (e : Entry) (t M : ℕ) → IsPacedWithin C (e ∷ P) M → (pos (start_now C P t) -ℤ pos (may_fall nothing C P t)) ≤ℤ ground M C (e ∷ P) t
least_below C P e t M is = below (start_now C P t) (may_fall nothing C P t) (start_now C (e ∷ P) t) (may_fall nothing C (e ∷ P) t) _ (least_on C P e t is.limits is.legal) (ground_low (head (e ∷ P) t) _ _)
  where
    below : (x d x2 d2 : ℕ) (ground : ℤ) → x + d2 ≤ x2 + d → (pos x2 -ℤ pos d2) ≤ℤ ground → (pos x -ℤ pos d) ≤ℤ ground
    below x d x2 d2 ground low k = omega (arith, ints, low, k)

-- a Take of u leaves the finish of its request near the ground of t
pub finish_near : (C : Config) (P : History) (e : Entry) (t u M : ℕ) → IsPacedWithin C (e ∷ P) M → (n : Taken C P (e ∷ P) u M) → pos (start_now C P u + n.len) ≤ℤ (ground M C (e ∷ P) t +ℤ pos (running_length M C P t + M + greatest_part C M))
finish_near C P e t u M is n = by_head (head P t) refl
  where
    by_head : (o : Option ℕ) → head P t ≡ o → pos (start_now C P u + n.len) ≤ℤ (ground M C (e ∷ P) t +ℤ pos (running_length M C P t + M + greatest_part C M))
    by_head None none = near_away (start_now C P u + n.len) (start_now C P u) (time_now C (e ∷ P)) (running_length M C P t) (greatest_part C M) M _ n.lifted (omega (arith, n.len_high)) (away_low C P e t M is none)
    by_head (Some r) some = near_waiting (start_now C P u + n.len) (start_now C P t) (may_fall nothing C P t) (running_length M C P t) (greatest_part C M) M _
        (elim (cases_eq t u) [
          | inl same ↦ (let at : start_now C P t ≡ start_now C P u = ap (start_now C P) same in omega (arith, at, n.len_high))
          | inr ne ↦ n.finish_low t r ne some
        ])
        (omega (arith, (runs_within C P t M (within_older C P e M is)).parts)) (least_below C P e t M is)
