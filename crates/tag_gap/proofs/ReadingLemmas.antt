-- The state that is kept of a history, one entry on.
use Rattle.std.proofs.Common.{ℕ, ◌+◌, ◌-◌, ◌<◌, ◌≤◌, ◌≡◌, ◌≢◌, ◌==◌, ◌∙◌, true, false, Bool, cond, refl, ap, ap₂, sym, subst, arith, inl, inr, List, [], ◌∷◌, length, replicate, Some, None, ℤ, pos, get_or, ◌+ℤ◌, length-set, get_or-set_same, get_or-set_other, length-append, length-drop}
use Rattle.std.specs.Prelude.{slice_index, slice_set}
use Rattle.std.proofs.lemmas.Bool.{cases_Bool, cases_eq, eq-eqb, ne_eqb, and_from, not_from_false}
use Rattle.std.proofs.lemmas.Int.{ints}
use Rattle.std.proofs.lemmas.List.{get_or-replicate, length-replicate}
use Rattle.std.proofs.lemmas.Option.{get_or_from_slice_get, slice_get_read}
use Rattle.vt_fixed.specs.Rounding.{length_of}
use Rattle.vt_fixed.specs.declared.limits.TheConstants.{GREATEST_COST}
use Rattle.fq_model.specs.declared.config.Config.{Config}
use Rattle.fq_model.specs.declared.config.Policy.TheVariants.{TwoDfqPlus}
use Rattle.fq_model.specs.declared.event.Act.{Act}
use Rattle.fq_model.specs.declared.event.Act.TheVariants.{Submit, Take, Withdraw}
use Rattle.fq_model.specs.declared.event.Entry.{Entry}
use Rattle.fq_model.specs.Limits.{InLimits}
use Rattle.fq_model.specs.History.{History, Request, request_at, is_of_tenant, head, queue, queue_after, weight_at, is_submit, is_waiting, waits_for}
use Rattle.fq_model.specs.Pace.{virtual_time}
use Rattle.fq_model.specs.Charge.{virtual_charge, request_estimate}
use Rattle.fq_model.specs.Keys.{HeadKeys, tag, start}
use Rattle.fq_model.specs.Rules.{IsLegal, Fits, FitsTake}
use Rattle.fq_laws.specs.Words.{Member, Ascends, one_more, first}
use Rattle.fq_laws.specs.Steps.{Awaits, Follows, Submits, Ends}
use Rattle.fq_laws.proofs.History.Queues.{head_is_first, queue_is, but, but_none}
use Rattle.fq_laws.proofs.History.Requests.{request_known}
use Rattle.fq_laws.proofs.History.Asked.{of_own, of_other, waits_unremoved}
use Rattle.fq_laws.proofs.Charge.Estimates.{estimate_range}
use Rattle.fq_laws.proofs.Charge.Tenants.{virtual_charge_taken}
use Rattle.fq_laws.proofs.Rules.Takes.{choice_head, take_head}
use Rattle.fq_laws.proofs.Rules.Limits.{length_entries}
use Rattle.fq_laws.proofs.Keys.Choices.{KeysOf, keys_of}
use Rattle.fq_laws.proofs.Keys.Pace.{virtual_time_step}
use Rattle.virtual_clock.specs.declared.times.Times.{Times}
use Rattle.virtual_clock.specs.Histories.{TimesAt, TimesAre, ComesTo, TakesChoice, AwaitsTake, FollowsTake, AwaitsEnd, FollowsEnd, IsTimeOf, IsWeightOf}
use Rattle.virtual_clock.proofs.Opening.{passes, submits_open}
use Rattle.virtual_clock.proofs.TakeSteps.{times_take}
use Rattle.tag_rules.specs.Accounts.{AccountsView, AccountsAre, IsCharge, at_first, charge_of, base_of, charged}
use Rattle.tag_rules.proofs.AccountSteps.{accounts_nil, accounts_raise, accounts_leave, accounts_charge, accounts_withdraw, may_charge, tag_is_sum}
use Rattle.tag_gap.specs.declared.reading.Reading.{Reading}
use Rattle.tag_gap.specs.Reading.{WaitingAre, Keeps, Takes, Withdraws, raised_first}

-- an entry, once its act is known
entry_is : (e : Entry) (a : Act) → e.act ≡ a → e ≡ record { who = e.who; moment = e.moment; act = a }
entry_is e a is = ap (λ (x : Act). record { who = e.who; moment = e.moment; act = x }) is

-- ---- the empty history

pub keeps_nil : (C : Config) (k : Reading) → InLimits C → k.policy ≡ C.policy → TimesAre C [] k.times → k.accounts ≡ at_first (length C.weights) → k.waiting.items ≡ replicate (length C.weights) 0 → Keeps C [] k
keeps_nil C k lim policy times accounts waiting = record {
  limits = lim;
  legal = tt;
  policy_is = policy;
  times_are = times;
  accounts_are = rw accounts (accounts_nil C);
  waiting_are = rw waiting (record { tenants = length-replicate (length C.weights) 0; each = λ t b. get_or-replicate (length C.weights) t 0 0 b });
}

-- ---- how many wait

-- where the queue of one tenant changes, its number is written
waiting_written : (C : Config) (P : History) (e : Entry) (t n : ℕ) (waiting : List ℕ) → t < length C.weights → n ≡ length (queue (e ∷ P) t) → ((u : ℕ) → u ≢ t → queue (e ∷ P) u ≡ queue P u) → WaitingAre C P waiting → WaitingAre C (e ∷ P) (slice_set waiting t n)
waiting_written C P e t n waiting known own others is = record {
  tenants = length-set waiting t n ∙ is.tenants;
  each = λ u b. elim (cases_eq u t) [
    | inl same ↦ rw (same, get_or-set_same waiting t n 0 (omega (arith, is.tenants, known))) own
    | inr other ↦ rw (get_or-set_other waiting t u n 0 other) (is.each u b ∙ ap length (sym (others u other)))
  ];
}

but_low : (q : ℕ) (xs : List ℕ) → length (but q xs) ≤ length xs
but_low q [] = omega arith
but_low q (x ∷ xs) = elim (cases_Bool (x == q)) [ inl e ↦ rw e (omega (arith, but_low q xs)) | inr e ↦ rw e (omega (arith, but_low q xs)) ]

queue_low_at : (P : History) (t : ℕ) (a : Act) → length (queue P t) ≤ length P → length (queue_after P t a (queue P t)) ≤ length P + 1
queue_low_at P t (Submit request tenant kind declared label) h = elim (cases_Bool (tenant == t)) [ inl e ↦ rw e (omega (arith, length-append (queue P t) (request ∷ []), h)) | inr e ↦ rw e (omega (arith, h)) ]
queue_low_at P t (Take worker request estimate) h = elim (cases_Bool (is_of_tenant t (request_at P request))) [ inl e ↦ rw e (omega (arith, length-drop 1 (queue P t), h)) | inr e ↦ rw e (omega (arith, h)) ]
queue_low_at P t (Withdraw request) h = elim (cases_Bool (is_of_tenant t (request_at P request))) [ inl e ↦ rw e (omega (arith, but_low request (queue P t), h)) | inr e ↦ rw e (omega (arith, h)) ]
queue_low_at P t a h = omega (arith, h)

queue_low : (P : History) (t : ℕ) → length (queue P t) ≤ length P
queue_low [] t = omega arith
queue_low (e ∷ P) t = omega (arith, queue_low_at P t e.act (queue_low P t))

-- no count passes 32 bits
pub waiting_low : (C : Config) (P : History) (k : Reading) (t : ℕ) → t < length C.weights → Keeps C P k → slice_index k.waiting.items t < 4294967295
waiting_low C P k t known is = omega (arith, is.waiting_are.each t known, queue_low P t, length_entries C P is.limits is.legal, is.limits.entries.1)

-- a tenant has a head where one waits
pub no_first : (xs : List ℕ) → length xs ≡ 0 → first xs ≡ None
no_first [] e = refl
no_first (x ∷ xs) e = absurd (omega arith)

pub some_first : (xs : List ℕ) → length xs ≢ 0 → (x : ℕ) × (first xs ≡ Some x)
some_first [] ne = absurd (ne refl)
some_first (x ∷ xs) ne = (x, refl)

first_some : (xs : List ℕ) (x : ℕ) → first xs ≡ Some x → 1 ≤ length xs
first_some [] x e = absurd (cc)
first_some (y ∷ ys) x e = omega arith

-- ---- a Submit

accounts_submit : (C : Config) (P : History) (a : AccountsView) (who m r t kind declared label n : ℕ) → InLimits C → IsLegal C (one_more who m (Submit r t kind declared label) P) → n ≡ length (queue P t) → AccountsAre C P a → AccountsAre C (one_more who m (Submit r t kind declared label) P) (raised_first n a t (pos (virtual_time C P m)))
accounts_submit C P a who m r t kind declared label n lim l count is = elim (cases_eq n 0) [
  | inl e ↦ rw (eq-eqb n 0 e) (accounts_raise C P a who m r t kind declared label lim l (head_is_first C P t lim l.0 ∙ no_first (queue P t) (omega (arith, e, count))) is)
  | inr ne ↦ (
      let x = some_first (queue P t) (λ z. ne (omega (arith, z, count))) in
      rw (ne_eqb n 0 ne) (accounts_leave C P a who m r t kind declared label x.0 lim l (head_is_first C P t lim l.0 ∙ x.1) is)
      )
]

queue_submit_own : (P : History) (who m r t kind declared label : ℕ) → length (queue (one_more who m (Submit r t kind declared label) P) t) ≡ length (queue P t) + 1
queue_submit_own P who m r t kind declared label = rw (eq-eqb t t refl) (length-append (queue P t) (r ∷ []))

queue_submit_other : (P : History) (who m r t u kind declared label : ℕ) → u ≢ t → queue (one_more who m (Submit r t kind declared label) P) u ≡ queue P u
queue_submit_other P who m r t u kind declared label ne = rw (ne_eqb t u (λ e. ne (sym e))) refl

-- the kept state after a Submit, once the tag is raised at v and one request more waits
submitted_keeps : (C : Config) (P : History) (k n : Reading) (who m r t kind declared label : ℕ) → InLimits C → IsLegal C (one_more who m (Submit r t kind declared label) P) → Keeps C P k → n.policy ≡ k.policy → TimesAre C (one_more who m (Submit r t kind declared label) P) n.times → n.accounts ≡ raised_first (slice_index k.waiting.items t) k.accounts t (pos (virtual_time C P m)) → n.waiting.items ≡ slice_set k.waiting.items t (slice_index k.waiting.items t + 1) → Keeps C (one_more who m (Submit r t kind declared label) P) n
submitted_keeps C P k n who m r t kind declared label lim l is policy times accounts waiting =
    let count = is.waiting_are.each t l.3.tenant_known in
    record {
      limits = lim;
      legal = l;
      policy_is = policy ∙ is.policy_is;
      times_are = times;
      accounts_are = rw accounts (accounts_submit C P k.accounts who m r t kind declared label (slice_index k.waiting.items t) lim l count is.accounts_are);
      waiting_are = rw waiting (waiting_written C P (record { who = who; moment = m; act = Submit r t kind declared label }) t _ k.waiting.items l.3.tenant_known (omega (arith, count, queue_submit_own P who m r t kind declared label)) (λ u ne. queue_submit_other P who m r t u kind declared label ne) is.waiting_are);
    }

-- a number that is read, and found there
pub read_number : (xs : List ℕ) (i x : ℕ) → i < length xs → x ≡ get_or xs i x → x ≡ slice_index xs i
read_number xs i x b is = sym (get_or_from_slice_get xs i x 0 (slice_get_read xs (length xs) i x refl b is))

pub submit_follows : (m t w : ℕ) (k n : Reading) (v z : ℤ) → n.policy ≡ k.policy → Follows TimesAre (Submits m t) k.times n.times → IsTimeOf n.times v → z ≡ v → w ≡ slice_index k.waiting.items t → n.accounts ≡ raised_first w k.accounts t z → n.waiting.items ≡ slice_set k.waiting.items t (w + 1) → Follows Keeps (Submits m t) k n
submit_follows m t w k n v z policy times shows same read accounts waiting = λ C P e lim l s is.
    let entry = entry_is e _ s.act_is in
    let are : TimesAre C (e ∷ P) n.times = times C P e lim l s is.times_are in
    let at : z ≡ pos (virtual_time C P e.moment) = same ∙ (shows C (e ∷ P) e.moment are ∙ ap pos (virtual_time_step C P e (rw s.act_is refl))) in
    let raises : n.accounts ≡ raised_first (slice_index k.waiting.items t) k.accounts t (pos (virtual_time C P e.moment)) = accounts ∙ ap₂ (λ (x : ℕ) y. raised_first x k.accounts t y) read at in
    let more : n.waiting.items ≡ slice_set k.waiting.items t (slice_index k.waiting.items t + 1) = waiting ∙ ap (λ (x : ℕ). slice_set k.waiting.items t (x + 1)) read in
    subst (λ (x : Entry). Keeps C (x ∷ P) n) (sym entry) (submitted_keeps C P k n e.who e.moment s.request t s.kind s.declared s.label lim (subst (λ (x : Entry). IsLegal C (x ∷ P)) entry l) is policy (subst (λ (x : Entry). TimesAre C (x ∷ P) n.times) entry are) raises more)

-- the requirements of the calls at a Submit
pub record MaySubmit (k : Reading) (t : ℕ) : Type 0 where
  pub waits : t < length k.waiting.items
  pub few : slice_index k.waiting.items t < 4294967295

pub may_submit : (m t : ℕ) (k : Reading) → Awaits Keeps (Submits m t) k → MaySubmit k t
may_submit m t k w =
    let known = (submits_open w.config w.history w.entry m t w.limits w.legal w.comes).known in
    record {
      waits = omega (arith, known, w.kept_is.waiting_are.tenants);
      few = waiting_low w.config w.history k t known w.kept_is;
    }

-- ---- a Take

-- the changes by a Take of a request of tenant t, at this estimate
record TakeStep (C : Config) (P : History) (e : Entry) (t estimate : ℕ) : Type 0 where
  known : t < length C.weights
  low : estimate ≤ GREATEST_COST
  no_submit : is_submit e.act ≡ false
  waits : 1 ≤ length (queue P t)
  own_charge : virtual_charge C (e ∷ P) t ≡ virtual_charge C P t + length_of estimate (weight_at C P t)
  other_charges : (u : ℕ) → u ≢ t → virtual_charge C (e ∷ P) u ≡ virtual_charge C P u
  own_queue : length (queue (e ∷ P) t) ≡ length (queue P t) - 1
  other_queues : (u : ℕ) → u ≢ t → queue (e ∷ P) u ≡ queue P u

taken_charge : (C : Config) (P : History) (who m w r estimate u : ℕ) (b : Bool) → InLimits C → IsLegal C (one_more who m (Take w r estimate) P) → is_of_tenant u (request_at P r) ≡ b → virtual_charge C (one_more who m (Take w r estimate) P) u ≡ virtual_charge C P u + cond b (length_of estimate (weight_at C P u)) 0
taken_charge C P who m w r estimate u b lim l own = virtual_charge_taken C P who m u w r estimate lim l.0 l.3 ∙ ap (λ (b : Bool). virtual_charge C P u + cond b (length_of estimate (weight_at C P u)) 0) own

taken_waits : (C : Config) (P : History) (m w r estimate : ℕ) (q : Request) → InLimits C → IsLegal C P → FitsTake C P m w r estimate → request_at P r ≡ Some q → 1 ≤ length (queue P q.tenant)
taken_waits C P m w r estimate q lim l f was =
    let x = take_head C P m w r estimate f in
    let same : Some x.what ≡ Some q = sym x.was_asked ∙ was in
    let j : x.what ≡ q = cc in
    let at : head P q.tenant ≡ Some r = subst (λ (y : Request). head P y.tenant ≡ Some r) j x.is_head in
    first_some (queue P q.tenant) r (sym (head_is_first C P q.tenant lim l) ∙ at)

take_step_at : (C : Config) (P : History) (who m w r estimate : ℕ) (q : Request) → InLimits C → IsLegal C (one_more who m (Take w r estimate) P) → request_at P r ≡ Some q → TakeStep C P (record { who = who; moment = m; act = Take w r estimate }) q.tenant estimate
take_step_at C P who m w r estimate q lim l was =
    let own : is_of_tenant q.tenant (request_at P r) ≡ true = of_own P q.tenant r q was refl in
    record {
      known = (request_known C P r q l.0 was).tenant_known;
      low = omega (arith, l.3.chosen.estimate_is, (estimate_range C P r l.3.asked lim l.0 l.3.chosen.asked).1);
      no_submit = refl;
      waits = taken_waits C P m w r estimate q lim l.0 l.3 was;
      own_charge = taken_charge C P who m w r estimate q.tenant true lim l own;
      other_charges = λ u ne. omega (arith, taken_charge C P who m w r estimate u false lim l (of_other P u r q was (λ e. ne (sym e))));
      own_queue = rw own (length-drop 1 (queue P q.tenant));
      other_queues = λ u ne. rw (of_other P u r q was (λ e. ne (sym e))) refl;
    }

take_step : (C : Config) (P : History) (e : Entry) (m w t estimate : ℕ) → InLimits C → IsLegal C (e ∷ P) → Takes m w t estimate P e → TakeStep C P e t estimate
take_step C P e m w t estimate lim l s =
    let entry = entry_is e _ s.act_is in
    let at = take_step_at C P e.who e.moment w s.request estimate s.asked lim (subst (λ (x : Entry). IsLegal C (x ∷ P)) entry l) s.asked_is in
    subst (λ (u : ℕ). TakeStep C P e u estimate) s.tenant_is (subst (λ (x : Entry). TakeStep C P x s.asked.tenant estimate) (sym entry) at)

own_change : (a b d : ℕ) → b ≡ a + d → pos a +ℤ pos d ≡ pos b
own_change a b d e = omega (arith, ints)

-- the weight, the length and the tag of the request that is taken, once the times have come to its moment
pub record AtTake (m w t estimate : ℕ) (k : Reading) (passed : Times) (weight : ℕ) (len tag_now : ℤ) : Type 0 where
  pub times : ComesTo m k.times passed
  pub weight_is : IsWeightOf passed t weight
  pub len_is : len ≡ pos (length_of estimate weight)
  pub tag_is : tag_now ≡ charge_of k.accounts t +ℤ base_of k.accounts t

start_tagged : (C : Config) (P : History) (m t : ℕ) → C.policy ≡ TwoDfqPlus → start C P m t ≡ tag C P t
unfolding start
start_tagged C P m t plus = rw plus refl

-- the worker takes the choice
taken_choice : (C : Config) (P : History) (e : Entry) (m w t estimate : ℕ) (start_at len : ℤ) → IsLegal C (e ∷ P) → Takes m w t estimate P e → start_at ≡ pos (start C P e.moment t) → len ≡ pos (length_of estimate (weight_at C P t)) → TakesChoice w start_at len C P e
taken_choice C P e m w t estimate start_at len l s starts long =
    let f : FitsTake C P e.moment w s.request estimate = subst (Fits C P e.moment) s.act_is l.3 in
    let x = f.chosen in
    let known : KeysOf C P e.moment x.tenant x.keys = keys_of C P e.moment x.tenant x.keys (choice_head C P e.moment w x.tenant x.keys x.choice) in
    let asked : request_at P s.request ≡ Some known.what = ap (request_at P) x.request_is ∙ known.was_asked in
    let both : Some s.asked ≡ Some known.what = sym s.asked_is ∙ asked in
    let what_is : s.asked ≡ known.what = cc in
    let again : Some f.asked ≡ Some known.what = sym x.asked ∙ asked in
    let what_was : f.asked ≡ known.what = cc in
    let mine : x.tenant ≡ t = sym known.mine ∙ (ap (λ (q : Request). q.tenant) (sym what_is) ∙ s.tenant_is) in
    let thought : estimate ≡ request_estimate C P known.what = x.estimate_is ∙ ap (request_estimate C P) what_was in
    record {
      request = s.request;
      estimate = estimate;
      tenant = x.tenant;
      keys = x.keys;
      act_is = s.act_is;
      choice = x.choice;
      start_is = starts ∙ (ap (λ (u : ℕ). pos (start C P e.moment u)) (sym mine) ∙ ap (λ (h : HeadKeys). h.start) (sym known.is));
      len_is = long ∙ (ap₂ (λ (c : ℕ) (u : ℕ). pos (length_of c (weight_at C P u))) thought (sym mine) ∙ ap (λ (h : HeadKeys). h.len) (sym known.is));
    }

module _ (C : Config) (P : History) (e : Entry) (m w t estimate : ℕ) (k : Reading) (passed : Times) (weight : ℕ) (len tag_now : ℤ) (lim : InLimits C) (l : IsLegal C (e ∷ P)) (s : Takes m w t estimate P e) (is : Keeps C P k) (at : AtTake m w t estimate k passed weight len tag_now) where
  come : TimesAt C P e.moment passed
  come = subst (λ (x : ℕ). TimesAt C P x passed) (sym s.moment_is) (at.times C P lim l.0 is.times_are)

  long_at : t < length C.weights → len ≡ pos (length_of estimate (weight_at C P t))
  long_at known = at.len_is ∙ ap (λ (y : ℕ). pos (length_of estimate y)) (at.weight_is C P e.moment come known)

  chosen_at : t < length C.weights → C.policy ≡ TwoDfqPlus → TakesChoice w tag_now len C P e
  chosen_at known plus = taken_choice C P e m w t estimate tag_now len l s (at.tag_is ∙ (tag_is_sum C P k.accounts t known is.accounts_are ∙ ap pos (sym (start_tagged C P e.moment t plus)))) (long_at known)

take_passes : (C : Config) (P : History) (e : Entry) (m w t estimate : ℕ) → Takes m w t estimate P e → passes e.act ≡ true
take_passes C P e m w t estimate s = rw s.act_is refl

-- the times after it, by the policy
pub record TimesTake (w : ℕ) (k : Reading) (passed after : Times) (len tag_now : ℤ) : Type 0 where
  pub paced : k.policy ≡ TwoDfqPlus → FollowsTake w tag_now len passed after
  pub by_clock : k.policy ≢ TwoDfqPlus → after ≡ passed

pub take_follows : (m w t estimate weight waited : ℕ) (k n : Reading) (passed : Times) (len tag_now : ℤ) → AtTake m w t estimate k passed weight len tag_now → TimesTake w k passed n.times len tag_now → n.policy ≡ k.policy → n.accounts ≡ charged k.accounts t len → waited ≡ slice_index k.waiting.items t → n.waiting.items ≡ slice_set k.waiting.items t (waited - 1) → Follows Keeps (Takes m w t estimate) k n
take_follows m w t estimate weight waited k n passed len tag_now at times policy accounts read waiting = λ C P e lim l s is.
    let x = take_step C P e m w t estimate lim l s in
    let change = long_at C P e m w t estimate k passed weight len tag_now lim l s is at x.known in
    let own : pos (virtual_charge C P t) +ℤ len ≡ pos (virtual_charge C (e ∷ P) t) = rw change (own_change _ _ _ x.own_charge) in
    record {
      limits = lim;
      legal = l;
      policy_is = policy ∙ is.policy_is;
      times_are = times_take C P e k.policy w tag_now len passed n.times is.policy_is lim l (take_passes C P e m w t estimate s) (chosen_at C P e m w t estimate k passed weight len tag_now lim l s is at x.known) times.paced times.by_clock (come C P e m w t estimate k passed weight len tag_now lim l s is at);
      accounts_are = rw accounts (accounts_charge C P k.accounts e t len x.no_submit x.known own x.other_charges is.accounts_are);
      waiting_are = rw waiting (waiting_written C P e t (waited - 1) k.waiting.items x.known (omega (arith, read, is.waiting_are.each t x.known, x.own_queue)) x.other_queues is.waiting_are);
    }

-- the requirements of the calls at a Take
pub record MayTake (k : Reading) (passed : Times) (w t estimate : ℕ) : Type 0 where
  pub weighed : t < length passed.weights
  pub low : estimate ≤ GREATEST_COST
  pub charged_one : t < length k.accounts.charges
  pub charge : (weight : ℕ) (len : ℤ) → IsWeightOf passed t weight → len ≡ pos (length_of estimate weight) → IsCharge (charge_of k.accounts t +ℤ len)
  pub lifts : (weight : ℕ) (len tag_now : ℤ) → IsWeightOf passed t weight → len ≡ pos (length_of estimate weight) → tag_now ≡ charge_of k.accounts t +ℤ base_of k.accounts t → k.policy ≡ TwoDfqPlus → AwaitsTake w tag_now len passed
  pub waits : t < length k.waiting.items
  pub some : 1 ≤ slice_index k.waiting.items t

pub may_take : (m w t estimate : ℕ) (k : Reading) (passed : Times) → Awaits Keeps (Takes m w t estimate) k → ComesTo m k.times passed → MayTake k passed w t estimate
may_take m w t estimate k passed a comes =
    let C = a.config in
    let P = a.history in
    let e = a.entry in
    let x = take_step C P e m w t estimate a.limits a.legal a.comes in
    let are : TimesAt C P m passed = comes C P a.limits a.legal.0 a.kept_is.times_are in
    record {
      weighed = omega (arith, x.known, are.weights_are.tenants);
      low = x.low;
      charged_one = omega (arith, x.known, a.kept_is.accounts_are.charges_sized);
      charge = λ weight len shows long. (
          let change : len ≡ pos (length_of estimate (weight_at C P t)) = long ∙ ap (λ (y : ℕ). pos (length_of estimate y)) (shows C P m are x.known) in
          may_charge C P k.accounts e t len a.limits a.legal x.known (rw change (own_change _ _ _ x.own_charge)) a.kept_is.accounts_are
          );
      lifts = λ weight len tag_now shows long tagged plus. (
          let at : AtTake m w t estimate k passed weight len tag_now = record { times = comes; weight_is = shows; len_is = long; tag_is = tagged } in
          record {
            config = C;
            history = P;
            entry = e;
            paced = sym a.kept_is.policy_is ∙ plus;
            limits = a.limits;
            legal = a.legal;
            takes = chosen_at C P e m w t estimate k passed weight len tag_now a.limits a.legal a.comes a.kept_is at x.known (sym a.kept_is.policy_is ∙ plus);
            times_at = come C P e m w t estimate k passed weight len tag_now a.limits a.legal a.comes a.kept_is at;
          }
          );
      waits = omega (arith, x.known, a.kept_is.waiting_are.tenants);
      some = omega (arith, a.kept_is.waiting_are.each t x.known, x.waits);
    }

-- ---- a Withdraw

-- an ascending list without one of its items is one shorter
one_fewer : (q : ℕ) (xs : List ℕ) → Ascends xs → Member q xs → length (but q xs) + 1 ≡ length xs
one_fewer q [] a h = absurd h
one_fewer q (x ∷ xs) a (inl e) = rw (eq-eqb x q (sym e), but_none q xs (λ r k same. let b : x < r = a.0 r k in omega (arith, e, same, b))) (omega arith)
one_fewer q (x ∷ xs) a (inr h) = let b : x < q = a.0 q h in rw (ne_eqb x q (λ e. omega (arith, e, b))) (omega (arith, one_fewer q xs a.1 h))

-- a request that is withdrawn waits for its tenant
waits_own : (P : History) (t r : ℕ) → is_of_tenant t (request_at P r) ≡ true → is_waiting P r ≡ true → waits_for P t r ≡ true
unfolding waits_for
waits_own P t r own w = and_from _ _ own (not_from_false _ (waits_unremoved P r w))

-- the changes by a Withdraw of a request of tenant t
record WithdrawStep (C : Config) (P : History) (e : Entry) (t : ℕ) : Type 0 where
  known : t < length C.weights
  own_queue : length (queue (e ∷ P) t) + 1 ≡ length (queue P t)
  other_queues : (u : ℕ) → u ≢ t → queue (e ∷ P) u ≡ queue P u
  accounts_stay : (a : AccountsView) → AccountsAre C P a → AccountsAre C (e ∷ P) a

withdraw_step_at : (C : Config) (P : History) (who m r : ℕ) (q : Request) → IsLegal C (one_more who m (Withdraw r) P) → request_at P r ≡ Some q → WithdrawStep C P (record { who = who; moment = m; act = Withdraw r }) q.tenant
withdraw_step_at C P who m r q l was =
    let own : is_of_tenant q.tenant (request_at P r) ≡ true = of_own P q.tenant r q was refl in
    let queued = queue_is C P q.tenant l.0 in
    record {
      known = (request_known C P r q l.0 was).tenant_known;
      own_queue = rw own (one_fewer r (queue P q.tenant) queued.ascends (queued.every r (waits_own P q.tenant r own l.3)));
      other_queues = λ u ne. rw (of_other P u r q was (λ e. ne (sym e))) refl;
      accounts_stay = λ a is. accounts_withdraw C P a who m r is;
    }

withdraw_step : (C : Config) (P : History) (e : Entry) (m t : ℕ) → IsLegal C (e ∷ P) → Withdraws m t P e → WithdrawStep C P e t
withdraw_step C P e m t l s =
    let entry = entry_is e _ s.act_is in
    let at = withdraw_step_at C P e.who e.moment s.request s.asked (subst (λ (x : Entry). IsLegal C (x ∷ P)) entry l) s.asked_is in
    subst (λ (u : ℕ). WithdrawStep C P e u) s.tenant_is (subst (λ (x : Entry). WithdrawStep C P x s.asked.tenant) (sym entry) at)

-- it ends the request
withdraw_ends : (P : History) (e : Entry) (m t : ℕ) → Withdraws m t P e → Ends m t P e
withdraw_ends P e m t s = record { request = s.request; asked = s.asked; moment_is = s.moment_is; ends = rw s.act_is (eq-eqb s.request s.request refl); asked_is = s.asked_is; tenant_is = s.tenant_is }

-- after it the tag of the tenant is that of the accounts, which it leaves
tag_withdrawn : (C : Config) (P : History) (e : Entry) (m t : ℕ) (a : AccountsView) (start_at : ℤ) → IsLegal C (e ∷ P) → Withdraws m t P e → AccountsAre C P a → start_at ≡ charge_of a t +ℤ base_of a t → start_at ≡ pos (tag C (e ∷ P) t)
tag_withdrawn C P e m t a start_at l s is tagged =
    let x = withdraw_step C P e m t l s in
    tagged ∙ tag_is_sum C (e ∷ P) a t x.known (x.accounts_stay a is)

pub awaits_end : (m t : ℕ) (start_at : ℤ) (k : Reading) → Awaits Keeps (Withdraws m t) k → start_at ≡ charge_of k.accounts t +ℤ base_of k.accounts t → AwaitsEnd k.policy m t start_at k.times
awaits_end m t start_at k a tagged = record {
  config = a.config;
  history = a.history;
  entry = a.entry;
  policy_is = a.kept_is.policy_is;
  limits = a.limits;
  legal = a.legal;
  ends = withdraw_ends a.history a.entry m t a.comes;
  starts = λ plus. tag_withdrawn a.config a.history a.entry m t k.accounts start_at a.legal a.comes a.kept_is.accounts_are tagged;
  times_are = a.kept_is.times_are;
}

pub withdraw_follows : (m t waited : ℕ) (start_at : ℤ) (k n : Reading) → start_at ≡ charge_of k.accounts t +ℤ base_of k.accounts t → FollowsEnd k.policy m t start_at k.times n.times → n.policy ≡ k.policy → n.accounts ≡ k.accounts → waited ≡ slice_index k.waiting.items t → n.waiting.items ≡ slice_set k.waiting.items t (waited - 1) → Follows Keeps (Withdraws m t) k n
withdraw_follows m t waited start_at k n tagged times policy accounts read waiting = λ C P e lim l s is.
    let x = withdraw_step C P e m t l s in
    record {
      limits = lim;
      legal = l;
      policy_is = policy ∙ is.policy_is;
      times_are = times C P e is.policy_is lim l (withdraw_ends P e m t s) (λ plus. tag_withdrawn C P e m t k.accounts start_at l s is.accounts_are tagged) is.times_are;
      accounts_are = rw accounts (x.accounts_stay k.accounts is.accounts_are);
      waiting_are = rw waiting (waiting_written C P e t (waited - 1) k.waiting.items x.known (omega (arith, read, is.waiting_are.each t x.known, x.own_queue)) x.other_queues is.waiting_are);
    }

-- the requirements of the calls at a Withdraw
pub record MayWithdraw (k : Reading) (t : ℕ) : Type 0 where
  pub charged_one : t < length k.accounts.charges
  pub waits : t < length k.waiting.items
  pub some : 1 ≤ slice_index k.waiting.items t

pub may_withdraw : (m t : ℕ) (k : Reading) → Awaits Keeps (Withdraws m t) k → MayWithdraw k t
may_withdraw m t k a =
    let x = withdraw_step a.config a.history a.entry m t a.legal a.comes in
    record {
      charged_one = omega (arith, x.known, a.kept_is.accounts_are.charges_sized);
      waits = omega (arith, x.known, a.kept_is.waiting_are.tenants);
      some = omega (arith, a.kept_is.waiting_are.each t x.known, x.own_queue);
    }
