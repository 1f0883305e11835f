-- The idle times of a history at one entry more.
use Rattle.std.proofs.Common.{ℕ, ◌+◌, ◌-◌, false, ◌<◌, ◌≤◌, ◌≡◌, ◌≢◌, arith, ap, sym, ◌∙◌, inl, inr, ◌∷◌, [], List, length, replicate, slice_set, pos, ◌+ℤ◌, ◌-ℤ◌, ◌≤ℤ◌, length-set, get_or-set_same, get_or-set_other}
use Rattle.std.proofs.lemmas.Bool.{cases_eq, eq-eqb, ne_eqb}
use Rattle.std.proofs.lemmas.Int.{ints}
use Rattle.std.proofs.lemmas.List.{get_or-replicate, length-replicate}
use Rattle.fq_model.specs.declared.config.Config.{Config}
use Rattle.fq_model.specs.declared.config.Policy.TheVariants.{TwoDfqPlus}
use Rattle.fq_model.specs.declared.event.Entry.{Entry}
use Rattle.fq_model.specs.History.{History}
use Rattle.fq_model.specs.Time.{open_requests, is_active, last_moment, virtual_idle_time}
use Rattle.fq_model.specs.Pace.{virtual_time}
use Rattle.fq_laws.proofs.Time.Open.{open_nil, active_of_open, inactive_of_open}
use Rattle.fq_laws.proofs.Time.Clock.{idle_nil, idle_active, idle_inactive, idle_next_active, idle_next_inactive}
use Rattle.fq_laws.proofs.Keys.Pace.{time_by_clock, virtual_time_nil, entry_rises}
use Rattle.virtual_clock.proofs.ClockSteps.{time_since_last}
use Rattle.virtual_clock.specs.declared.idles.Idle.{Idle}
use Rattle.virtual_clock.specs.Idles.{idle_of, woken, put_to_sleep, opened, closed, asleep_at_first}
use Rattle.virtual_clock.specs.Histories.{IdleAt, IdleIs, IdlesAt, IdlesAre}

-- ---- one tenant

-- where virtual time is that of the clock, virtual idle time moves along with it while a tenant is not active
asleep_here : (C : Config) (P : History) (m t : ℕ) → C.policy ≢ TwoDfqPlus → is_active P t ≡ false → virtual_idle_time C P m t + virtual_time C P (last_moment P) ≡ virtual_idle_time C P (last_moment P) t + virtual_time C P m
asleep_here C P m t ne off = rw (time_by_clock C P (last_moment P) ne, time_by_clock C P m ne) (idle_inactive C P m t off)

asleep_next : (C : Config) (P : History) (e : Entry) (t : ℕ) → C.policy ≢ TwoDfqPlus → is_active P t ≡ false → virtual_idle_time C (e ∷ P) e.moment t + virtual_time C P (last_moment P) ≡ virtual_idle_time C P (last_moment P) t + virtual_time C (e ∷ P) e.moment
asleep_next C P e t ne off = rw (time_by_clock C P (last_moment P) ne, time_by_clock C (e ∷ P) e.moment ne) (idle_next_inactive C P e t off)

-- its total while it is awake, and while it is asleep
pub while_awake : {n : ℕ} (C : Config) (P : History) (m t : ℕ) (i : Idle) → C.policy ≢ TwoDfqPlus → 1 ≤ open_requests P t → IdleAt C P n t i → i.whole ≡ pos (virtual_idle_time C P m t)
while_awake C P m t i ne some is =
    let total : i.whole ≡ pos (virtual_idle_time C P m t) = rw (ne_eqb i.undone 0 (λ e. absurd (omega (arith, is.undone)))) at (is.total ne m) in
    total

pub while_asleep : {n : ℕ} (C : Config) (P : History) (m t : ℕ) (i : Idle) → C.policy ≢ TwoDfqPlus → open_requests P t ≡ 0 → IdleAt C P n t i → i.whole +ℤ (pos (virtual_time C P m) -ℤ i.since) ≡ pos (virtual_idle_time C P m t)
while_asleep C P m t i ne none is = rw (is.undone ∙ none) at (is.total ne m)

-- virtual time is no less at the next entry
earlier_next : (C : Config) (P : History) (e : Entry) (t : ℕ) (i : Idle) → IdleAt C P e.moment t i → i.since ≤ℤ pos (virtual_time C (e ∷ P) e.moment)
earlier_next C P e t i is = omega (arith, ints, is.earlier, entry_rises C P e)

-- the idle time in total stays right while the tenant stays awake, and while it stays asleep
stays_awake : (C : Config) (P : History) (e : Entry) (m t : ℕ) (i : Idle) → C.policy ≢ TwoDfqPlus → 1 ≤ open_requests P t → 1 ≤ open_requests (e ∷ P) t → IdleAt C P e.moment t i → i.whole ≡ pos (virtual_idle_time C (e ∷ P) m t)
stays_awake C P e m t i ne some still is = while_awake C P (last_moment P) t i ne some is ∙ ap pos (sym (idle_active C (e ∷ P) m t (active_of_open (e ∷ P) t still) ∙ idle_next_active C P e t (active_of_open P t some)))

stays_asleep : (C : Config) (P : History) (e : Entry) (m t : ℕ) (i : Idle) → C.policy ≢ TwoDfqPlus → open_requests P t ≡ 0 → open_requests (e ∷ P) t ≡ 0 → IdleAt C P e.moment t i → i.whole +ℤ (pos (virtual_time C (e ∷ P) m) -ℤ i.since) ≡ pos (virtual_idle_time C (e ∷ P) m t)
stays_asleep C P e m t i ne none still is =
    let before = while_asleep C P (last_moment P) t i ne none is in
    let at_entry = asleep_next C P e t ne (inactive_of_open P t none) in
    let after = asleep_here C (e ∷ P) m t ne (inactive_of_open (e ∷ P) t still) in
    omega (arith, ints, before, at_entry, after)

-- where none of its requests is opened or closed, its idle time stays
idle_stays : (C : Config) (P : History) (e : Entry) (t : ℕ) (i : Idle) → open_requests (e ∷ P) t ≡ open_requests P t → IdleAt C P e.moment t i → IdleIs C (e ∷ P) t i
idle_stays C P e t i same is = record {
  undone = is.undone ∙ sym same;
  earlier = earlier_next C P e t i is;
  total = λ ne m. elim (cases_eq i.undone 0) [
    | inl none ↦ rw none (stays_asleep C P e m t i ne (omega (arith, is.undone, none)) (omega (arith, is.undone, none, same)) is)
    | inr some ↦ rw (ne_eqb i.undone 0 some) (stays_awake C P e m t i ne (omega (arith, is.undone, some)) (omega (arith, is.undone, some, same)) is)
  ];
}

-- one more is opened: the first wakes it
idle_wakes : (C : Config) (P : History) (e : Entry) (t : ℕ) (i : Idle) → open_requests P t ≡ 0 → open_requests (e ∷ P) t ≡ 1 → IdleAt C P e.moment t i → IdleIs C (e ∷ P) t (woken i (pos (virtual_time C (e ∷ P) e.moment)))
idle_wakes C P e t i none one is = record {
  undone = sym one;
  earlier = omega (arith, ints);
  total = λ ne m. (
      let before = while_asleep C P (last_moment P) t i ne none is in
      let at_entry = asleep_next C P e t ne (inactive_of_open P t none) in
      let after = idle_active C (e ∷ P) m t (active_of_open (e ∷ P) t (omega (arith, one))) in
      omega (arith, ints, before, at_entry, after)
      );
}

pub idle_opened : (C : Config) (P : History) (e : Entry) (t : ℕ) (i : Idle) → open_requests (e ∷ P) t ≡ open_requests P t + 1 → IdleAt C P e.moment t i → IdleIs C (e ∷ P) t (opened i (pos (virtual_time C (e ∷ P) e.moment)))
idle_opened C P e t i more is = elim (cases_eq i.undone 0) [
  | inl none ↦ rw (eq-eqb i.undone 0 none) (idle_wakes C P e t i (omega (arith, is.undone, none)) (omega (arith, is.undone, none, more)) is)
  | inr some ↦ rw (ne_eqb i.undone 0 some) (record {
    undone = omega (arith, is.undone, more);
    earlier = earlier_next C P e t i is;
    total = λ ne m. rw (ne_eqb (i.undone + 1) 0 (λ e. absurd (omega arith))) (stays_awake C P e m t i ne (omega (arith, is.undone, some)) (omega (arith, more)) is);
  })
]

-- one is closed: without the last it falls asleep
idle_sleeps : (C : Config) (P : History) (e : Entry) (t : ℕ) (i : Idle) → open_requests P t ≡ 1 → open_requests (e ∷ P) t ≡ 0 → IdleAt C P e.moment t i → IdleIs C (e ∷ P) t (put_to_sleep i (pos (virtual_time C (e ∷ P) e.moment)))
idle_sleeps C P e t i one none is = record {
  undone = sym none;
  earlier = omega (arith, ints);
  total = λ ne m. (
      let before = while_awake C P (last_moment P) t i ne (omega (arith, one)) is in
      let at_entry = idle_next_active C P e t (active_of_open P t (omega (arith, one))) in
      let after = asleep_here C (e ∷ P) m t ne (inactive_of_open (e ∷ P) t none) in
      omega (arith, ints, before, at_entry, after)
      );
}

pub idle_closed : (C : Config) (P : History) (e : Entry) (t : ℕ) (i : Idle) → open_requests P t ≡ open_requests (e ∷ P) t + 1 → IdleAt C P e.moment t i → IdleIs C (e ∷ P) t (closed i (pos (virtual_time C (e ∷ P) e.moment)))
idle_closed C P e t i less is = elim (cases_eq i.undone 1) [
  | inl one ↦ rw (eq-eqb i.undone 1 one) (idle_sleeps C P e t i (omega (arith, is.undone, one)) (omega (arith, is.undone, one, less)) is)
  | inr more ↦ rw (ne_eqb i.undone 1 more) (record {
    undone = omega (arith, is.undone, less);
    earlier = earlier_next C P e t i is;
    total = λ ne m. rw (ne_eqb (i.undone - 1) 0 (λ z. absurd (more (omega (arith, is.undone, less))))) (stays_awake C P e m t i ne (omega (arith, less)) (omega (arith, is.undone, less, more)) is);
  })
]

-- ---- all tenants

-- at a later moment nothing is changed
pub idles_later : (C : Config) (P : History) (m : ℕ) (idles : List Idle) → IdlesAre C P idles → IdlesAt C P m idles
idles_later C P m idles is = record {
  tenants = is.tenants;
  each = λ t known. (let i = is.each t known in record { undone = i.undone; earlier = omega (arith, ints, i.earlier, time_since_last C P m); total = i.total });
}

-- at first all are asleep
pub idles_nil : (C : Config) → IdlesAre C [] (replicate (length C.weights) asleep_at_first)
idles_nil C = record {
  tenants = length-replicate (length C.weights) asleep_at_first;
  each = λ t known. rw (get_or-replicate (length C.weights) t asleep_at_first asleep_at_first known) (record {
    undone = sym (open_nil t);
    earlier = omega (arith, ints);
    total = λ ne m. omega (arith, ints, virtual_time_nil C m, idle_nil C m t);
  });
}

-- where no request is opened or closed, all stays
pub idles_stay : (C : Config) (P : History) (e : Entry) (idles : List Idle) → ((t : ℕ) → open_requests (e ∷ P) t ≡ open_requests P t) → IdlesAt C P e.moment idles → IdlesAre C (e ∷ P) idles
idles_stay C P e idles same is = record {
  tenants = is.tenants;
  each = λ t known. idle_stays C P e t (idle_of idles t) (same t) (is.each t known);
}

-- the idle time of one tenant is written, and no request of another is opened or closed
pub idles_written : (C : Config) (P : History) (e : Entry) (t : ℕ) (idles : List Idle) (i : Idle) → t < length C.weights → ((u : ℕ) → u ≢ t → open_requests (e ∷ P) u ≡ open_requests P u) → IdlesAt C P e.moment idles → IdleIs C (e ∷ P) t i → IdlesAre C (e ∷ P) (slice_set idles t i)
idles_written C P e t idles i known same is new = record {
  tenants = length-set idles t i ∙ is.tenants;
  each = λ u b. elim (cases_eq u t) [
    | inl own ↦ rw (own, get_or-set_same idles t i asleep_at_first (omega (arith, is.tenants, known))) new
    | inr other ↦ rw (get_or-set_other idles t u i asleep_at_first other) (idle_stays C P e u (idle_of idles u) (same u other) (is.each u b))
  ];
}
