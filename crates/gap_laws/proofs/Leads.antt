-- The lead of one tenant over another: at one entry more, and along a run of shared prefixes.
use Rattle.std.proofs.Common.{ℕ, ◌+◌, ◌-◌, ◌<◌, ◌≤◌, ◌≡◌, ◌≢◌, ◌==◌, ◌∙◌, max, cond, Bool, true, false, refl, sym, ap, subst, arith, inl, inr, ◌⊎◌, [], ◌∷◌, ◌++◌, Option, Some, None, ℤ, pos, ◌≤ℤ◌}
use Rattle.std.specs.Prelude.{◌+ℤ◌, ◌-ℤ◌}
use Rattle.std.specs.Int.{int_max}
use Rattle.std.proofs.lemmas.Int.{ints, clamps}
use Rattle.std.proofs.lemmas.Bool.{eqb-true, ne_eqb}
use Rattle.vt_fixed.specs.Rounding.{length_of}
use Rattle.fq_model.specs.declared.config.Config.{Config}
use Rattle.fq_model.specs.declared.event.Act.{Act}
use Rattle.fq_model.specs.declared.event.Act.TheVariants.{Submit, Take, Report, Done, Withdraw}
use Rattle.fq_model.specs.declared.event.Entry.{Entry}
use Rattle.fq_model.specs.Limits.{InLimits}
use Rattle.fq_model.specs.History.{History, Request, request_at, is_of_tenant, head, weight_at, pool_at}
use Rattle.fq_model.specs.Charge.{charge, taken_weight, virtual_charge, is_taken_of, request_estimate}
use Rattle.fq_model.specs.Keys.{HeadKeys, keys_at, HasKeys, IsChoiceAt, turn_at, start}
use Rattle.fq_model.specs.Rules.{IsLegal, FitsTake, FitsUse, IsChosen}
use Rattle.fq_model.specs.Gap.{is_shared, run_start}
use Rattle.fq_model.specs.Lead.{request_length, may_rise, may_fall, start_now, lead, head_length, lead_of_take, takes_of}
use Rattle.fq_laws.specs.Words.{one_more}
use Rattle.fq_laws.proofs.Charge.Tenants.{virtual_charge_submit, virtual_charge_taken, virtual_charge_reported, virtual_charge_finished, virtual_charge_withdraw, virtual_charge_quiet, taken_of, taken_of_report, taken_of_done}
use Rattle.fq_laws.proofs.Charge.Requests.{charge_report, charge_done}
use Rattle.fq_laws.proofs.History.Requests.{use_taken}
use Rattle.gap_laws.specs.Words.{IsPrefix, RunBegins, AreSharedFrom, AreCaps, AreLows, TakesStayBelow}
use Rattle.gap_laws.proofs.Running.{Measure, over_quiet, over_submit, over_taken, over_reported, over_finished, over_withdraw}
use Rattle.gap_laws.proofs.Runs.{BothWait, both_wait, prefix_older, run_begins}
use Rattle.gap_laws.proofs.Starts.{start_step, start_rises}
use Rattle.gap_laws.proofs.Choices.{keys, chosen_lead}
use Rattle.fq_laws.proofs.Keys.Choices.{KeysOf, keys_of, head_has_keys}
use Rattle.fq_laws.proofs.Keys.Others.{start_moment}
use Rattle.fq_laws.proofs.Rules.Takes.{choice_head}

-- ---- the most and the least of a tenant

abbrev pub rising : (ℕ → ℕ) → Measure
rising cap = λ r x. cap r - x

abbrev pub falling : (ℕ → ℕ) → Measure
falling low = λ r x. x - low r

-- the start s of a tenant goes by its virtual charge v; the sum over its running requests is u; x and z are the lengths
-- of the request of the entry before and after it, if that is a request of the tenant

report_most : (own : Bool) (s s2 v v2 u u2 x z cap : ℕ) → s2 + v ≡ s + v2 → v2 + cond own x 0 ≡ v + cond own z 0 → u2 + cond own (cap - x) 0 ≡ u + cond own (cap - z) 0 → (own ≡ true → x ≤ cap) → (own ≡ true → z ≤ cap) → s2 + u2 ≤ s + u
report_most true s s2 v v2 u u2 x z cap starts charges sums before after = omega (arith, starts, charges, sums, before refl, after refl)
report_most false s s2 v v2 u u2 x z cap starts charges sums before after = omega (arith, starts, charges, sums)

report_least : (own : Bool) (s s2 v v2 u u2 x z low : ℕ) → s + v2 ≤ s2 + v → v2 + cond own x 0 ≡ v + cond own z 0 → u2 + cond own (x - low) 0 ≡ u + cond own (z - low) 0 → (own ≡ true → low ≤ x) → (own ≡ true → low ≤ z) → s + u2 ≤ s2 + u
report_least true s s2 v v2 u u2 x z low starts charges sums before after = omega (arith, starts, charges, sums, before refl, after refl)
report_least false s s2 v v2 u u2 x z low starts charges sums before after = omega (arith, starts, charges, sums)

done_most : (own : Bool) (s s2 v v2 u u2 x z cap : ℕ) → s2 + v ≡ s + v2 → v2 + cond own x 0 ≡ v + cond own z 0 → u2 + cond own (cap - x) 0 ≡ u → (own ≡ true → x ≤ cap) → (own ≡ true → z ≤ cap) → s2 + u2 ≤ s + u
done_most true s s2 v v2 u u2 x z cap starts charges sums before after = omega (arith, starts, charges, sums, before refl, after refl)
done_most false s s2 v v2 u u2 x z cap starts charges sums before after = omega (arith, starts, charges, sums)

done_least : (own : Bool) (s s2 v v2 u u2 x z low : ℕ) → s + v2 ≤ s2 + v → v2 + cond own x 0 ≡ v + cond own z 0 → u2 + cond own (x - low) 0 ≡ u → (own ≡ true → low ≤ x) → (own ≡ true → low ≤ z) → s + u2 ≤ s2 + u
done_least true s s2 v v2 u u2 x z low starts charges sums before after = omega (arith, starts, charges, sums, before refl, after refl)
done_least false s s2 v v2 u u2 x z low starts charges sums before after = omega (arith, starts, charges, sums)

take_least : (own : Bool) (s s2 v v2 u u2 z low : ℕ) → s + v2 ≤ s2 + v → v2 ≡ v + cond own z 0 → u2 ≡ u + cond own (z - low) 0 → s + u2 ≤ s2 + u
take_least true s s2 v v2 u u2 z low starts charges sums = omega (arith, starts, charges, sums)
take_least false s s2 v v2 u u2 z low starts charges sums = omega (arith, starts, charges, sums)

take_most : (own : Bool) (s s2 v v2 u u2 z cap : ℕ) → own ≡ false → s2 + v ≡ s + v2 → v2 ≡ v + cond own z 0 → u2 ≡ u + cond own (cap - z) 0 → s2 + u2 ≤ s + u
take_most own s s2 v v2 u u2 z cap other starts charges sums =
    let c : v2 ≡ v + 0 = rw other at charges in
    let k : u2 ≡ u + 0 = rw other at sums in
    omega (arith, starts, c, k)

-- where an act takes no request of the tenant, its request is of another tenant
not_own : (w : ℕ) (own : Bool) → cond own (Some w) None ≡ None → own ≡ false
not_own w true h = absurd (cc)
not_own w false h = refl

-- ---- the lengths of the request of a use, before and after

is_own : (P : History) (t w q used : ℕ) → FitsUse P w q used → is_of_tenant t (request_at P q) ≡ true → is_taken_of P t q ≡ true
is_own P t w q used f own = taken_of P t q (use_taken P w q used f) ∙ own

new_length : (C : Config) (Q : History) (t q x w : ℕ) → charge Q q ≡ x → taken_weight C Q t q ≡ w → request_length C Q t q ≡ length_of x w
new_length C Q t q x w e f = rw (e, f) refl

module _ (C : Config) (P : History) (who m t w q used : ℕ) (f : FitsUse P w q used) where
  abbrev reported : History
  reported = one_more who m (Report w q used) P

  abbrev finished : History
  finished = one_more who m (Done w q used) P

  reported_length : request_length C reported t q ≡ length_of (max used (charge P q)) (taken_weight C P t q)
  reported_length = new_length C reported t q _ _ (charge_report P who m w q used f) refl

  finished_length : request_length C finished t q ≡ length_of used (taken_weight C P t q)
  finished_length = new_length C finished t q _ _ (charge_done P who m w q used f) refl

  reported_own : is_of_tenant t (request_at P q) ≡ true → is_taken_of reported t q ≡ true
  reported_own own = taken_of_report P who m t q w q used ∙ is_own P t w q used f own

  finished_own : is_of_tenant t (request_at P q) ≡ true → is_taken_of finished t q ≡ true
  finished_own own = taken_of_done P who m t q w q used ∙ is_own P t w q used f own

-- ---- at one entry more

-- the start of a tenant that waits goes by its virtual charge
abbrev pub GoesByCharge : Config → History → History → ℕ → Type 0
GoesByCharge C P Q t = start_now C Q t + virtual_charge C P t ≡ start_now C P t + virtual_charge C Q t

-- and the start of each tenant rises at least as its virtual charge does
abbrev pub AtLeastByCharge : Config → History → History → ℕ → Type 0
AtLeastByCharge C P Q t = start_now C P t + virtual_charge C Q t ≤ start_now C Q t + virtual_charge C P t

-- the most of a tenant does not rise, but where one of its requests is taken
pub most_at : (C : Config) (P : History) (who m t : ℕ) (cap : ℕ → ℕ) (a : Act) → InLimits C → IsLegal C (one_more who m a P) → AreCaps C (one_more who m a P) t cap → AreCaps C P t cap → takes_of t P a ≡ None → GoesByCharge C P (one_more who m a P) t → start_now C (one_more who m a P) t + may_rise cap C (one_more who m a P) t ≤ start_now C P t + may_rise cap C P t
most_at C P who m t cap (Submit request tenant kind declared label) lim l now before none starts =
    omega (arith, starts, virtual_charge_submit C P who m t request tenant kind declared label l.0 l.3.numbered, over_submit (rising cap) C P who m t request tenant kind declared label l.0 l.3.numbered)
most_at C P who m t cap (Take w q c) lim l now before none starts =
    take_most (is_of_tenant t (request_at P q)) _ _ _ _ _ _ (length_of c (weight_at C P t)) (cap q) (not_own w (is_of_tenant t (request_at P q)) none) starts
    (virtual_charge_taken C P who m t w q c lim l.0 l.3) (over_taken (rising cap) C P who m t w q c l.0 l.3)
most_at C P who m t cap (Report w q used) lim l now before none starts =
    report_most (is_of_tenant t (request_at P q)) _ _ _ _ _ _ (request_length C P t q) (length_of (max used (charge P q)) (taken_weight C P t q)) (cap q) starts
    (virtual_charge_reported C P who m t w q used lim l.0 l.3.0) (over_reported (rising cap) C P who m t w q used l.0 l.3.0)
    (λ own. before P q ([], refl) (is_own P t w q used l.3.0 own))
    (λ own. rw (← reported_length C P who m t w q used l.3.0) (now (one_more who m (Report w q used) P) q ([], refl) (reported_own C P who m t w q used l.3.0 own)))
most_at C P who m t cap (Done w q used) lim l now before none starts =
    done_most (is_of_tenant t (request_at P q)) _ _ _ _ _ _ (request_length C P t q) (length_of used (taken_weight C P t q)) (cap q) starts
    (virtual_charge_finished C P who m t w q used lim l.0 l.3) (over_finished (rising cap) C P who m t w q used l.0 l.3)
    (λ own. before P q ([], refl) (is_own P t w q used l.3 own))
    (λ own. rw (← finished_length C P who m t w q used l.3) (now (one_more who m (Done w q used) P) q ([], refl) (finished_own C P who m t w q used l.3 own)))
most_at C P who m t cap (Withdraw q) lim l now before none starts = omega (arith, starts, virtual_charge_withdraw C P who m t q, over_withdraw (rising cap) C P who m t q)
most_at C P who m t cap a lim l now before none starts = omega (arith, starts, virtual_charge_quiet C P who m t a refl, over_quiet (rising cap) C P who m t a refl)

-- the least of a tenant does not fall
pub least_at : (C : Config) (P : History) (who m t : ℕ) (low : ℕ → ℕ) (a : Act) → InLimits C → IsLegal C (one_more who m a P) → AreLows C (one_more who m a P) t low → AreLows C P t low → AtLeastByCharge C P (one_more who m a P) t → start_now C P t + may_fall low C (one_more who m a P) t ≤ start_now C (one_more who m a P) t + may_fall low C P t
least_at C P who m t low (Submit request tenant kind declared label) lim l now before starts =
    omega (arith, starts, virtual_charge_submit C P who m t request tenant kind declared label l.0 l.3.numbered, over_submit (falling low) C P who m t request tenant kind declared label l.0 l.3.numbered)
least_at C P who m t low (Take w q c) lim l now before starts =
    take_least (is_of_tenant t (request_at P q)) _ _ _ _ _ _ (length_of c (weight_at C P t)) (low q) starts
    (virtual_charge_taken C P who m t w q c lim l.0 l.3) (over_taken (falling low) C P who m t w q c l.0 l.3)
least_at C P who m t low (Report w q used) lim l now before starts =
    report_least (is_of_tenant t (request_at P q)) _ _ _ _ _ _ (request_length C P t q) (length_of (max used (charge P q)) (taken_weight C P t q)) (low q) starts
    (virtual_charge_reported C P who m t w q used lim l.0 l.3.0) (over_reported (falling low) C P who m t w q used l.0 l.3.0)
    (λ own. before P q ([], refl) (is_own P t w q used l.3.0 own))
    (λ own. rw (← reported_length C P who m t w q used l.3.0) (now (one_more who m (Report w q used) P) q ([], refl) (reported_own C P who m t w q used l.3.0 own)))
least_at C P who m t low (Done w q used) lim l now before starts =
    done_least (is_of_tenant t (request_at P q)) _ _ _ _ _ _ (request_length C P t q) (length_of used (taken_weight C P t q)) (low q) starts
    (virtual_charge_finished C P who m t w q used lim l.0 l.3) (over_finished (falling low) C P who m t w q used l.0 l.3)
    (λ own. before P q ([], refl) (is_own P t w q used l.3 own))
    (λ own. rw (← finished_length C P who m t w q used l.3) (now (one_more who m (Done w q used) P) q ([], refl) (finished_own C P who m t w q used l.3 own)))
least_at C P who m t low (Withdraw q) lim l now before starts = omega (arith, starts, virtual_charge_withdraw C P who m t q, over_withdraw (falling low) C P who m t q)
least_at C P who m t low a lim l now before starts = omega (arith, starts, virtual_charge_quiet C P who m t a refl, over_quiet (falling low) C P who m t a refl)

-- ---- a Take of f

-- the keys of the head of t, by the start of t now
head_is : (C : Config) (P : History) (m t : ℕ) (k : HeadKeys) → IsLegal C P → keys_at C P m t ≡ Some k → k ≡ keys (start_now C P t) (head_length C P t) k.request
head_is C P m t k l h =
    let z : KeysOf C P m t k = keys_of C P m t k h in
    let now : start C P m t ≡ start_now C P t = start_moment C P m t k.request l z.is_head in
    let long : head_length C P t ≡ length_of (request_estimate C P z.what) (weight_at C P t) = rw (z.is_head, z.was_asked) refl in
    z.is ∙ rw (now, long) refl

-- the finish of the chosen tenant f is above the start of g by no more than the lead of the Take
pub chosen_ahead : (C : Config) (P : History) (m w f g r : ℕ) (k : HeadKeys) → g ≢ f → IsLegal C P → head P g ≡ Some r → w < pool_at C P → IsChoiceAt C P m w f k → pos (start_now C P f + head_length C P f) ≤ℤ (pos (start_now C P g) +ℤ lead_of_take C P w f g)
chosen_ahead C P m w f g r k ne l waits known choice =
    let other = head_has_keys C P m g r waits in
    let at_g : HasKeys C P m g (keys (start_now C P g) (head_length C P g) other.0.request) = subst (HasKeys C P m g) (head_is C P m g other.0 l other.1) other.1 in
    let at_f : IsChoiceAt C P m w f (keys (start_now C P f) (head_length C P f) k.request) = subst (IsChoiceAt C P m w f) (head_is C P m f k l (choice_head C P m w f k choice)) choice in
    chosen_lead (turn_at C P m w) (HasKeys C P m) f g (start_now C P f) (start_now C P g) (head_length C P f) (head_length C P g) k.request other.0.request known ne at_g at_f

-- the request of a Take is the head of its tenant, and is as long by the estimate of the Take as that head
pub record OfHead (C : Config) (P : History) (m w f c : ℕ) : Type 0 where
  pub its_keys : HeadKeys
  pub choice : IsChoiceAt C P m w f its_keys
  pub length_is : length_of c (weight_at C P f) ≡ head_length C P f

pub of_head : (C : Config) (P : History) (m w q c f : ℕ) → FitsTake C P m w q c → is_of_tenant f (request_at P q) ≡ true → OfHead C P m w f c
of_head C P m w q c f fits own =
    let z : IsChosen C P m w q c fits.asked = fits.chosen in
    let k : KeysOf C P m z.tenant z.keys = keys_of C P m z.tenant z.keys (choice_head C P m w z.tenant z.keys z.choice) in
    let was : request_at P z.keys.request ≡ Some fits.asked = subst (λ x. request_at P x ≡ Some fits.asked) z.request_is z.asked in
    let same : Some k.what ≡ Some fits.asked = sym k.was_asked ∙ was in
    let j : k.what ≡ fits.asked = cc in
    let mine : (fits.asked.tenant == f) ≡ true = rw z.asked at own in
    let is_f : z.tenant ≡ f = sym k.mine ∙ (ap (λ x. x.tenant) j ∙ eqb-true fits.asked.tenant f mine) in
    let heads : head P f ≡ Some z.keys.request = subst (λ t. head P t ≡ Some z.keys.request) is_f k.is_head in
    let long : head_length C P f ≡ length_of (request_estimate C P fits.asked) (weight_at C P f) = rw (heads, was) refl in
    record {
      its_keys = z.keys;
      choice = subst (λ t. IsChoiceAt C P m w t z.keys) is_f z.choice;
      length_is = ap (λ x. length_of x (weight_at C P f)) z.estimate_is ∙ sym long;
    }

-- a request of f is no request of g
pub not_both : (f g : ℕ) (o : Option Request) → f ≢ g → is_of_tenant f o ≡ true → is_of_tenant g o ≡ false
not_both f g None ne h = refl
not_both f g (Some q) ne h = ne_eqb q.tenant g (λ e. ne (sym (eqb-true q.tenant f h) ∙ e))

ahead_then : (own mine : Bool) (sf sf2 vf vf2 sg sg2 vg vg2 x y : ℕ) (T : ℤ) → own ≡ true → mine ≡ false → sf2 + vf ≡ sf + vf2 → sg2 + vg ≡ sg + vg2 → vf2 ≡ vf + cond own x 0 → vg2 ≡ vg + cond mine y 0 → pos (sf + x) ≤ℤ (pos sg +ℤ T) → (pos sf2 -ℤ pos sg2) ≤ℤ T
ahead_then own mine sf sf2 vf vf2 sg sg2 vg vg2 x y T is_own is_not starts_f starts_g charge_f charge_g low =
    let a : vf2 ≡ vf + x = rw is_own at charge_f in
    let b : vg2 ≡ vg + 0 = rw is_not at charge_g in
    omega (arith, ints, starts_f, starts_g, a, b, low)

-- after a Take of a request of f, the start of f is above that of g by no more than the lead of the Take
take_ahead : (C : Config) (P : History) (who m w q c f g r : ℕ) → f ≢ g → InLimits C → IsLegal C (one_more who m (Take w q c) P) → is_of_tenant f (request_at P q) ≡ true → head P g ≡ Some r → GoesByCharge C P (one_more who m (Take w q c) P) f → GoesByCharge C P (one_more who m (Take w q c) P) g → (pos (start_now C (one_more who m (Take w q c) P) f) -ℤ pos (start_now C (one_more who m (Take w q c) P) g)) ≤ℤ lead_of_take C P w f g
take_ahead C P who m w q c f g r ne lim l own waits starts_f starts_g =
    let z : OfHead C P m w f c = of_head C P m w q c f l.3 own in
    let ahead : pos (start_now C P f + head_length C P f) ≤ℤ (pos (start_now C P g) +ℤ lead_of_take C P w f g) = chosen_ahead C P m w f g r z.its_keys (λ e. ne (sym e)) l.0 waits l.3.worker_known z.choice in
    let low : pos (start_now C P f + length_of c (weight_at C P f)) ≤ℤ (pos (start_now C P g) +ℤ lead_of_take C P w f g) = rw z.length_is ahead in
    ahead_then (is_of_tenant f (request_at P q)) (is_of_tenant g (request_at P q)) _ _ _ _ _ _ _ _ (length_of c (weight_at C P f)) (length_of c (weight_at C P g)) (lead_of_take C P w f g) own (not_both f g (request_at P q) ne own) starts_f starts_g
    (virtual_charge_taken C P who m f w q c lim l.0 l.3) (virtual_charge_taken C P who m g w q c lim l.0 l.3) low

-- so it is after each act that takes a request of f
pub some_own : (w i : ℕ) (own : Bool) → cond own (Some w) None ≡ Some i → (own ≡ true) × (w ≡ i)
some_own w i true h = (refl, cc)
some_own w i false h = absurd (cc)

taken_ahead : (C : Config) (P : History) (who m f g i r : ℕ) (a : Act) → f ≢ g → InLimits C → IsLegal C (one_more who m a P) → takes_of f P a ≡ Some i → head P g ≡ Some r → GoesByCharge C P (one_more who m a P) f → GoesByCharge C P (one_more who m a P) g → (pos (start_now C (one_more who m a P) f) -ℤ pos (start_now C (one_more who m a P) g)) ≤ℤ lead_of_take C P i f g
taken_ahead C P who m f g i r (Take w q c) ne lim l some waits starts_f starts_g =
    let z = some_own w i (is_of_tenant f (request_at P q)) some in
    rw (← z.1) (take_ahead C P who m w q c f g r ne lim l z.0 waits starts_f starts_g)
taken_ahead C P who m f g i r _ ne lim l some waits starts_f starts_g = absurd (cc)

-- ---- along a run

-- the lead does not rise, or it is at most B
abbrev Steps : (ℕ → ℕ) → (ℕ → ℕ) → Config → History → History → ℕ → ℕ → ℤ → Type 0
Steps cap low C P Q f g B = (lead cap low C Q f g ≤ℤ lead cap low C P f g) ⊎ (lead cap low C Q f g ≤ℤ B)

-- where the most of f does not rise, and the least of g does not fall
not_more : (sf sf2 uf uf2 sg sg2 ug ug2 : ℕ) → sf2 + uf2 ≤ sf + uf → sg + ug2 ≤ sg2 + ug → (pos (sf2 + uf2) -ℤ (pos sg2 -ℤ pos ug2)) ≤ℤ (pos (sf + uf) -ℤ (pos sg -ℤ pos ug))
not_more sf sf2 uf uf2 sg sg2 ug ug2 high low = omega (arith, ints, high, low)

at_most : (sf sg uf ug : ℕ) (T B : ℤ) → (pos sf -ℤ pos sg) ≤ℤ T → (T +ℤ pos (uf + ug)) ≤ℤ B → (pos (sf + uf) -ℤ (pos sg -ℤ pos ug)) ≤ℤ B
at_most sf sg uf ug T B ahead with_doubt = omega (arith, ints, ahead, with_doubt)

-- the premises of the law, of the history H from S on
pub record Premises (cap low : ℕ → ℕ) (C : Config) (S H : History) (f g : ℕ) (B : ℤ) : Type 0 where
  pub limits : InLimits C
  pub legal : IsLegal C H
  pub caps : AreCaps C H f cap
  pub lows : AreLows C H g low
  pub takes : TakesStayBelow cap low C S H f g B

premises_older : (cap low : ℕ → ℕ) (C : Config) (e : Entry) (S P : History) (f g : ℕ) (B : ℤ) → Premises cap low C S (e ∷ P) f g B → Premises cap low C S P f g B
premises_older cap low C e S P f g B h = record {
  limits = h.limits;
  legal = h.legal.0;
  caps = λ Q r is taken. h.caps Q r (prefix_older e P Q is) taken;
  lows = λ Q r is taken. h.lows Q r (prefix_older e P Q is) taken;
  takes = λ d Q i is from shared takes. h.takes d Q i (prefix_older e P (d ∷ Q) is) from shared takes;
}

step_on : (cap low : ℕ → ℕ) (C : Config) (S P : History) (who m f g : ℕ) (a : Act) (B : ℤ) → f ≢ g → Premises cap low C S (one_more who m a P) f g B → IsPrefix S P → is_shared P f g ≡ true → (o : Option ℕ) → takes_of f P a ≡ o → Steps cap low C P (one_more who m a P) f g B
step_on cap low C S P who m f g a B ne h from shared None none =
    let w : BothWait P f g = both_wait P f g shared in
    let older : Premises cap low C S P f g B = premises_older cap low C (record { who = who; moment = m; act = a }) S P f g B h in
    inl (not_more _ _ _ _ _ _ _ _
    (most_at C P who m f cap a h.limits h.legal h.caps older.caps none (start_step C P (record { who = who; moment = m; act = a }) f w.first h.legal.0 w.first_is))
    (least_at C P who m g low a h.limits h.legal h.lows older.lows (start_rises C P (record { who = who; moment = m; act = a }) g)))
step_on cap low C S P who m f g a B ne h from shared (Some i) some =
    let w : BothWait P f g = both_wait P f g shared in
    let one : Entry = record { who = who; moment = m; act = a } in
    let ahead : (pos (start_now C (one_more who m a P) f) -ℤ pos (start_now C (one_more who m a P) g)) ≤ℤ lead_of_take C P i f g =
    taken_ahead C P who m f g i w.second a ne h.limits h.legal some w.second_is (start_step C P one f w.first h.legal.0 w.first_is) (start_step C P one g w.second h.legal.0 w.second_is) in
    inr (at_most _ _ _ _ (lead_of_take C P i f g) B ahead (h.takes one P i ([], refl) from shared some))

within_either : (x y z b : ℤ) → x ≤ℤ int_max z b → (y ≤ℤ x) ⊎ (y ≤ℤ b) → y ≤ℤ int_max z b
within_either x y z b h (inl k) = omega (arith, ints, clamps)
within_either x y z b h (inr k) = omega (arith, ints, clamps)

at_first : (x b : ℤ) → x ≤ℤ int_max x b
at_first x b = omega (arith, ints, clamps)

-- while both wait, from P on, the lead is at most the lead at P, or B
pub lead_on : (cap low : ℕ → ℕ) (C : Config) (newer P : History) (f g : ℕ) (B : ℤ) → f ≢ g → Premises cap low C P (newer ++ P) f g B → AreSharedFrom P (newer ++ P) f g → lead cap low C (newer ++ P) f g ≤ℤ int_max (lead cap low C P f g) B
lead_on cap low C [] P f g B ne h shared = at_first (lead cap low C P f g) B
lead_on cap low C (e ∷ newer) P f g B ne h shared =
    let before : is_shared (newer ++ P) f g ≡ true = shared (newer ++ P) (e ∷ [], refl) (newer, refl) in
    let older : lead cap low C (newer ++ P) f g ≤ℤ int_max (lead cap low C P f g) B =
    lead_on cap low C newer P f g B ne (premises_older cap low C e P (newer ++ P) f g B h) (λ R inner outer. shared R (prefix_older e (newer ++ P) R inner) outer) in
    within_either _ _ _ _ older (step_on cap low C P (newer ++ P) e.who e.moment f g e.act B ne h (newer, refl) before (takes_of f (newer ++ P) e.act) refl)

-- to any later prefix
pub lead_from : (cap low : ℕ → ℕ) (C : Config) (P Q : History) (f g : ℕ) (B : ℤ) → f ≢ g → Premises cap low C P Q f g B → IsPrefix P Q → AreSharedFrom P Q f g → lead cap low C Q f g ≤ℤ int_max (lead cap low C P f g) B
lead_from cap low C P Q f g B ne h is shared =
    let newer : History = is.0 in
    let split : Q ≡ newer ++ P = is.1 in
    subst (λ H. lead cap low C H f g ≤ℤ int_max (lead cap low C P f g) B) (sym split)
    (lead_on cap low C newer P f g B ne (subst (λ H. Premises cap low C P H f g B) split h) (λ R inner outer. shared R (subst (IsPrefix R) (sym split) inner) outer))

-- so it is at most the lead where the run began, or B
abbrev pub StaysBelow : (ℕ → ℕ) → (ℕ → ℕ) → Config → History → ℕ → ℕ → ℤ → Type 0
StaysBelow cap low C P f g B = lead cap low C P f g ≤ℤ int_max (lead cap low C (run_start P f g) f g) B

pub lead_below : (cap low : ℕ → ℕ) (C : Config) (P : History) (f g : ℕ) (B : ℤ) → f ≢ g → Premises cap low C (run_start P f g) P f g B → is_shared P f g ≡ true → StaysBelow cap low C P f g B
lead_below cap low C P f g B ne h shared =
    let run : RunBegins P f g (run_start P f g) = run_begins P f g shared in
    lead_from cap low C (run_start P f g) P f g B ne h run.first.0.0 run.shared
