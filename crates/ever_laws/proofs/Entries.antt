-- The changes of virtual time, of the cap and of one tenant at an entry, under 2dfq+.
use Rattle.std.proofs.Common.{ℕ, ◌+◌, ◌-◌, ◌≤◌, ◌≡◌, ◌==◌, ◌&&◌, ◌∙◌, max, cond, Bool, true, false, not, ◌||◌, refl, sym, arith, [], ◌∷◌, Option, Some, None}
use Rattle.std.specs.Prelude.{is_none}
use Rattle.std.proofs.lemmas.Bool.{and_parts, false≢true}
use Rattle.fq_model.specs.declared.config.Config.{Config}
use Rattle.fq_model.specs.declared.config.Policy.TheVariants.{TwoDfqPlus}
use Rattle.fq_model.specs.declared.event.Act.{Act}
use Rattle.fq_model.specs.declared.event.Act.TheVariants.{Submit, Take, Report, Done, Withdraw}
use Rattle.fq_model.specs.declared.event.Entry.{Entry}
use Rattle.fq_model.specs.History.{History, request_at, request_bound, is_of_tenant, is_removed, head, waits_for}
use Rattle.fq_model.specs.Charge.{virtual_charge}
use Rattle.fq_model.specs.Lead.{may_rise, may_fall, start_now, takes_of}
use Rattle.fq_model.specs.Limits.{InLimits}
use Rattle.fq_model.specs.Pace.{virtual_time, tag_base, is_submit_for}
use Rattle.fq_model.specs.Rules.{IsLegal}
use Rattle.fq_model.specs.Time.{last_moment}
use Rattle.fq_laws.specs.Words.{one_more}
use Rattle.fq_laws.proofs.Charge.Tenants.{virtual_charge_submit}
use Rattle.fq_laws.proofs.Sums.{least_by, least_none}
use Rattle.fq_laws.proofs.History.Heads.{head_same}
use Rattle.fq_laws.proofs.History.Queues.{head_submit, head_take_other}
use Rattle.fq_laws.proofs.Keys.Pace.{base_step, base_by_pace, virtual_time_rises, virtual_time_step, entry_rises}
use Rattle.fq_laws.proofs.Keys.Tags.{start_paced}
use Rattle.gap_laws.proofs.Leads.{rising, falling, most_at, GoesByCharge}
use Rattle.gap_laws.proofs.Running.{over_quiet, over_submit, over_taken, over_reported, over_finished, over_withdraw}
use Rattle.gap_laws.proofs.WorstCase.{longest, nothing, caps_in}
use Rattle.ever_laws.specs.Words.{IsPacedWithin, time_now, running_length}
use Rattle.ever_laws.proofs.Running.{full}

-- ---- virtual time

-- virtual time never falls
pub time_rises : (C : Config) (P : History) (e : Entry) → IsLegal C (e ∷ P) → time_now C P ≤ time_now C (e ∷ P)
time_rises C P e l = omega (arith, virtual_time_rises C P (last_moment P) e.moment l.1, entry_rises C P e)

-- a tenant starts at its virtual charge and its base
pub starts_at : (C : Config) (P : History) (t : ℕ) → C.policy ≡ TwoDfqPlus → start_now C P t ≡ virtual_charge C P t + tag_base C P t
starts_at C P t paced = omega (arith, start_paced C P (last_moment P) t paced, base_by_pace C P t paced)

-- ---- a tenant of which nothing is taken, and whose tag is not raised

pub record Stays (C : Config) (P Q : History) (t M : ℕ) : Type 0 where
  pub most_is : start_now C Q t + may_rise (longest M) C Q t ≤ start_now C P t + may_rise (longest M) C P t
  pub runs : (N : ℕ) → running_length N C Q t ≤ running_length N C P t
  pub still : head P t ≡ None → head Q t ≡ None

taken_less : (own : Bool) (old new M : ℕ) → own ≡ false → new ≡ old + cond own M 0 → new ≤ old
taken_less own old new M is e = let k : new ≡ old + 0 = rw is at e in omega (arith, k)

-- where an act takes no request of the tenant, its request is of another tenant
not_own : (w : ℕ) (own : Bool) → cond own (Some w) None ≡ None → own ≡ false
not_own w true h = absurd (cc)
not_own w false h = refl

runs_at : (C : Config) (P : History) (who m t M : ℕ) (a : Act) → IsLegal C (one_more who m a P) → takes_of t P a ≡ None → running_length M C (one_more who m a P) t ≤ running_length M C P t
runs_at C P who m t M (Submit request tenant kind declared label) l none = omega (arith, over_submit (full M) C P who m t request tenant kind declared label l.0 l.3.numbered)
runs_at C P who m t M (Take w q c) l none =
    taken_less (is_of_tenant t (request_at P q)) _ _ M (not_own w (is_of_tenant t (request_at P q)) none) (over_taken (full M) C P who m t w q c l.0 l.3)
runs_at C P who m t M (Report w q used) l none = omega (arith, over_reported (full M) C P who m t w q used l.0 l.3.0)
runs_at C P who m t M (Done w q cost) l none = omega (arith, over_finished (full M) C P who m t w q cost l.0 l.3)
runs_at C P who m t M (Withdraw q) l none = omega (arith, over_withdraw (full M) C P who m t q)
runs_at C P who m t M a l none = omega (arith, over_quiet (full M) C P who m t a refl)

-- the act raises the tag of t: it submits a request of t while none waits
abbrev pub raises_of : History → ℕ → Act → Bool
raises_of P t a = is_submit_for t a && is_none (head P t)

other_submit : (own : Bool) (o : Option ℕ) → (own && is_none o) ≡ false → o ≡ None → own ≡ false
other_submit true None h is = absurd (false≢true (sym h))
other_submit true (Some r) h is = absurd (cc)
other_submit false o h is = refl

less_waits : (own gone removed : Bool) → (own && not removed) ≡ false → (own && not (gone || removed)) ≡ false
less_waits false gone removed h = refl
less_waits true true removed h = refl
less_waits true false removed h = h

-- where no request of a tenant waits, none does after a Withdraw
none_after : (P : History) (who m t q : ℕ) → head P t ≡ None → head (one_more who m (Withdraw q) P) t ≡ None
unfolding head waits_for is_removed
none_after P who m t q is = least_by (waits_for (one_more who m (Withdraw q) P) t) request_bound None
    (λ r b. less_waits (is_of_tenant t (request_at P r)) (q == r) (is_removed P r) (least_none (waits_for P t) request_bound is r b))

still_at : (C : Config) (P : History) (who m t : ℕ) (a : Act) → InLimits C → IsLegal C (one_more who m a P) → raises_of P t a ≡ false → takes_of t P a ≡ None → head P t ≡ None → head (one_more who m a P) t ≡ None
unfolding waits_for is_removed
still_at C P who m t (Submit q u kind declared label) lim l off none is =
    let other : (u == t) ≡ false = other_submit (u == t) (head P t) off is in
    let h : head (one_more who m (Submit q u kind declared label) P) t ≡ head P t = rw other at (head_submit C P who m t q u kind declared label lim l) in
    h ∙ is
still_at C P who m t (Take w q c) lim l off none is = head_take_other C P who m t w q c lim l (not_own w (is_of_tenant t (request_at P q)) none) ∙ is
still_at C P who m t (Withdraw q) lim l off none is = none_after P who m t q is
still_at C P who m t a lim l off none is = head_same P (one_more who m a P) t (λ r. refl) ∙ is

goes : (C : Config) (P : History) (e : Entry) (t : ℕ) → C.policy ≡ TwoDfqPlus → raises_of P t e.act ≡ false → GoesByCharge C P (e ∷ P) t
goes C P e t paced off =
    let base : tag_base C (e ∷ P) t ≡ tag_base C P t = base_step C P e t ∙ rw off refl in
    omega (arith, starts_at C P t paced, starts_at C (e ∷ P) t paced, base)

pub stays : (C : Config) (P : History) (e : Entry) (t M : ℕ) → IsPacedWithin C (e ∷ P) M → raises_of P t e.act ≡ false → takes_of t P e.act ≡ None → Stays C P (e ∷ P) t M
stays C P e t M is off none = record {
  most_is = most_at C P e.who e.moment t (longest M) e.act is.limits is.legal (is.lengths.requests t) (caps_in C (e ∷ P) P t (longest M) (e ∷ [], refl) (is.lengths.requests t)) none (goes C P e t is.policy off);
  runs = λ N. runs_at C P e.who e.moment t N e.act is.legal none;
  still = still_at C P e.who e.moment t e.act is.limits is.legal off none;
}

-- ---- a tenant to which a request comes while none waits

pub record Comes (C : Config) (P Q : History) (t M : ℕ) : Type 0 where
  pub none : head P t ≡ None
  pub start_is : start_now C Q t ≡ max (time_now C Q) (start_now C P t)
  pub rise_is : may_rise (longest M) C Q t ≡ may_rise (longest M) C P t
  pub fall_is : may_fall nothing C Q t ≡ may_fall nothing C P t
  pub runs_is : (N : ℕ) → running_length N C Q t ≡ running_length N C P t
  pub charge_is : virtual_charge C Q t ≡ virtual_charge C P t

raised_to : (v w charge charge2 base base2 x x2 : ℕ) → x ≡ charge + base → x2 ≡ charge2 + base2 → charge2 ≡ charge → base2 ≡ max (v - charge) base → w ≡ v → x2 ≡ max w x
raised_to v w charge charge2 base base2 x x2 old new charges raised time = omega (arith, old, new, charges, raised, time)

comes_at : (C : Config) (P : History) (who m t M : ℕ) (a : Act) → IsPacedWithin C (one_more who m a P) M → raises_of P t a ≡ true → head P t ≡ None → Comes C P (one_more who m a P) t M
comes_at C P who m t M (Submit q u kind declared label) is raises none =
    let Q : History = one_more who m (Submit q u kind declared label) P in
    let e : Entry = record { who = who; moment = m; act = Submit q u kind declared label } in
    let base : tag_base C Q t ≡ max (virtual_time C P m - virtual_charge C P t) (tag_base C P t) = base_step C P e t ∙ rw raises refl in
    record {
      none = none;
      start_is = raised_to (virtual_time C P m) (time_now C Q) (virtual_charge C P t) (virtual_charge C Q t) (tag_base C P t) (tag_base C Q t) (start_now C P t) (start_now C Q t)
          (starts_at C P t is.policy) (starts_at C Q t is.policy) (virtual_charge_submit C P who m t q u kind declared label is.legal.0 is.legal.3.numbered) base (virtual_time_step C P e refl);
      rise_is = over_submit (rising (longest M)) C P who m t q u kind declared label is.legal.0 is.legal.3.numbered;
      fall_is = over_submit (falling nothing) C P who m t q u kind declared label is.legal.0 is.legal.3.numbered;
      runs_is = λ N. over_submit (full N) C P who m t q u kind declared label is.legal.0 is.legal.3.numbered;
      charge_is = virtual_charge_submit C P who m t q u kind declared label is.legal.0 is.legal.3.numbered;
    }
comes_at C P who m t M a is raises none = absurd (false≢true raises)

none_is : (o : Option ℕ) → is_none o ≡ true → o ≡ None
none_is None h = refl
none_is (Some r) h = absurd (false≢true h)

pub comes : (C : Config) (P : History) (e : Entry) (t M : ℕ) → IsPacedWithin C (e ∷ P) M → raises_of P t e.act ≡ true → Comes C P (e ∷ P) t M
comes C P e t M is raises = comes_at C P e.who e.moment t M e.act is raises (none_is (head P t) (and_parts (is_submit_for t e.act) (is_none (head P t)) raises).1)
