-- The difference of two starts at a prefix, and the greatest numbers at the prefixes.
use Rattle.std.proofs.Common.{ℕ, ◌+◌, ◌*◌, ◌<◌, ◌≤◌, ◌≡◌, ◌≢◌, ◌∙◌, ◌&&◌, max, Bool, true, false, refl, sym, ap, subst, arith, inl, inr, List, [], ◌∷◌, length, Option, Some, None, ℤ, pos, ◌≤ℤ◌}
use Rattle.std.specs.Prelude.{is_some, option_map, IfSome, ◌+ℤ◌, ◌-ℤ◌, unsigned_abs, if◌then◌else◌}
use Rattle.std.proofs.lemmas.Bool.{cases_Bool, cases_eq, eq-eqb, ne_eqb, and_parts}
use Rattle.std.proofs.lemmas.Int.{ints}
use Rattle.vt_fixed.specs.Rounding.{length_of}
use Rattle.fq_model.specs.declared.config.Config.{Config}
use Rattle.fq_model.specs.declared.config.Policy.{Policy}
use Rattle.fq_model.specs.declared.event.Act.{Act}
use Rattle.fq_model.specs.declared.event.Act.TheVariants.{Take}
use Rattle.fq_model.specs.declared.event.Entry.{Entry}
use Rattle.fq_model.specs.Limits.{InLimits}
use Rattle.fq_model.specs.History.{History, Request, request_at, is_of_tenant, waits_for, head, weight_at, history_of}
use Rattle.fq_model.specs.Charge.{greatest, request_estimate}
use Rattle.fq_model.specs.Keys.{HeadKeys, keys_at}
use Rattle.fq_model.specs.Time.{last_moment}
use Rattle.fq_model.specs.Gap.{is_shared, start_difference, greatest_of, lengths_in_bound, largest_difference, shared_differences}
use Rattle.fq_model.specs.Lead.{may_rise, may_fall, doubt, start_now, head_length, length_of_head, length_of_request, is_lead_take, longest_of, shortest_of, measured_lead, first_leads, take_lengths, take_doubts, lead_bound, measured_gap}
use Rattle.fq_model.specs.Rules.{IsLegal, Fits, FitsTake}
use Rattle.fq_laws.proofs.Charge.Estimates.{estimate_range}
use Rattle.fq_laws.proofs.Charge.Limits.{length_low}
use Rattle.fq_laws.proofs.History.Asked.{is_of_asked}
use Rattle.fq_laws.proofs.Keys.Choices.{KeysOf, keys_of, head_has_keys}
use Rattle.fq_laws.proofs.Rules.Takes.{heads, take_head}
use Rattle.gap_laws.proofs.Measured.{measured_bounded}
use Rattle.tag_difference.specs.declared.gap.Gap.{Gap}
use Rattle.tag_difference.specs.Found.{at_least}
use Rattle.tag_difference.specs.Pairs.{told}
use Rattle.tag_difference.specs.Pairs.{difference_at}
use Rattle.tag_difference.proofs.FoundLemmas.{at_least_is, gap_is, found_nil, found_next}
use Rattle.tag_difference.proofs.Prefixes.{first_entries, next_entry, one_on, all_entries}
use Rattle.tag_lead.specs.declared.limits.TheConstants.{GREATEST_LENGTH, GREATEST_DOUBT}
use Rattle.tag_lead.specs.declared.maxima.Leads.{Leads}
use Rattle.tag_lead.specs.Maxima.{no_leads, asks_doubt, first_with, longest_with, doubt_with, leads_with, heads_in_bound, lead_from, LeadsIn}
use Rattle.tag_lead.specs.Leads.{difference_by, taken_by, taken_at}

-- ---- keys of heads

-- the tenant's head has these keys
pub record HeadIs (C : Config) (P : History) (t : ℕ) (k : HeadKeys) : Type 0 where
  pub is_head : head P t ≡ Some k.request
  pub start_is : k.start ≡ pos (start_now C P t)
  pub length_is : k.len ≡ pos (head_length C P t)
  pub length_short : head_length C P t ≤ GREATEST_LENGTH

pub head_is : (C : Config) (P : History) (t : ℕ) (k : HeadKeys) → InLimits C → IsLegal C P → t < length C.weights → keys_at C P (last_moment P) t ≡ Some k → HeadIs C P t k
head_is C P t k lim l known h =
    let x : KeysOf C P (last_moment P) t k = keys_of C P (last_moment P) t k h in
    let long : head_length C P t ≡ length_of (request_estimate C P x.what) (weight_at C P t) = ap (length_of_head C P t) x.is_head ∙ ap (length_of_request C P t) x.was_asked in
    record {
      is_head = x.is_head;
      start_is = ap (λ (j : HeadKeys). j.start) x.is;
      length_is = ap (λ (j : HeadKeys). j.len) x.is ∙ ap pos (sym long);
      length_short = omega (arith, long, length_low C P t (request_estimate C P x.what) lim l known (estimate_range C P k.request x.what lim l x.was_asked).1);
    }

-- no keys, no head
pub headless : (C : Config) (P : History) (t : ℕ) → keys_at C P (last_moment P) t ≡ None → is_some (head P t) ≡ false
headless C P t h = go (head P t) refl
  where
    go : (o : Option ℕ) → head P t ≡ o → is_some o ≡ false
    go None is = refl
    go (Some r) is = let x = head_has_keys C P (last_moment P) t r is in let same : None ≡ Some x.0 = sym h ∙ x.1 in absurd (cc)

-- ---- the difference and the Take by the keys of two heads

neither : (b : Bool) → (b && false) ≡ false
neither true = refl
neither false = refl

-- a test that fails gives none
none_if : {A : Type 0} (b : Bool) (x : A) → b ≡ false → None ≡ (if b then Some x else None)
none_if b x h = rw h refl

some_if : {A : Type 0} (b : Bool) (x y : A) → b ≡ true → x ≡ y → Some x ≡ (if b then Some y else None)
some_if b x y h same = rw (h, same) refl

unshared_first : (P : History) (f g : ℕ) → is_some (head P f) ≡ false → is_shared P f g ≡ false
unfolding is_shared
unshared_first P f g h = rw h refl

unshared_second : (P : History) (f g : ℕ) → is_some (head P g) ≡ false → is_shared P f g ≡ false
unfolding is_shared
unshared_second P f g h = rw h (neither (is_some (head P f)))

both_shared : (P : History) (f g i j : ℕ) → head P f ≡ Some i → head P g ≡ Some j → is_shared P f g ≡ true
unfolding is_shared
both_shared P f g i j h k = rw (h, k) refl

apart_is : (C : Config) (P : History) (f g : ℕ) (x y : ℤ) → x ≡ pos (start_now C P f) → y ≡ pos (start_now C P g) → (x -ℤ y) ≡ start_difference C P f g
unfolding start_difference
apart_is C P f g x y e h = rw (e, h) refl

-- how far the start of the first is above that of the second
pub difference_is : (C : Config) (P : History) (f g : ℕ) (k l : Option HeadKeys) → InLimits C → IsLegal C P → f < length C.weights → g < length C.weights → k ≡ keys_at C P (last_moment P) f → l ≡ keys_at C P (last_moment P) g → difference_by k l ≡ difference_at C P f g
difference_is C P f g None l lim legal f_known g_known is_k is_l = none_if (is_shared P f g) _ (unshared_first P f g (headless C P f (sym is_k)))
difference_is C P f g (Some i) None lim legal f_known g_known is_k is_l = none_if (is_shared P f g) _ (unshared_second P f g (headless C P g (sym is_l)))
difference_is C P f g (Some i) (Some j) lim legal f_known g_known is_k is_l =
    let x : HeadIs C P f i = head_is C P f i lim legal f_known (sym is_k) in
    let y : HeadIs C P g j = head_is C P g j lim legal g_known (sym is_l) in
    let apart : (i.start -ℤ j.start) ≡ start_difference C P f g = apart_is C P f g i.start j.start x.start_is y.start_is in
    some_if (is_shared P f g) _ _ (both_shared P f g i.request j.request x.is_head y.is_head) apart

no_take_unshared : (P : History) (a : Act) (f g : ℕ) → is_shared P f g ≡ false → is_lead_take P a f g ≡ false
no_take_unshared P a f g h = rw h refl

-- a Take of the head of f is one of f, and one of another request is none
take_own : (P : History) (f g w r c : ℕ) → is_shared P f g ≡ true → head P f ≡ Some r → is_lead_take P (Take w r c) f g ≡ true
unfolding waits_for
take_own P f g w r c shared is =
    let mine : is_of_tenant f (request_at P r) ≡ true = (and_parts _ _ (heads P f r is).waits_now).0 in
    rw (shared, mine) refl

take_other : (C : Config) (P : History) (f g m w r s c : ℕ) → FitsTake C P m w r c → head P f ≡ Some s → r ≢ s → is_lead_take P (Take w r c) f g ≡ false
take_other C P f g m w r s c fits is ne = elim (cases_Bool (is_of_tenant f (request_at P r))) [
  | inr other ↦ rw other (neither (is_shared P f g))
  | inl own ↦
      let x = take_head C P m w r c fits in
      let q = is_of_asked f (request_at P r) own in
      let same : Some x.what ≡ Some q.0 = sym x.was_asked ∙ q.1 in
      let j : q.0 ≡ x.what = cc in
      let mine : x.what.tenant ≡ f = ap (λ (y : Request). y.tenant) (sym j) ∙ q.2 in
      let at : head P f ≡ Some r = subst (λ (t : ℕ). head P t ≡ Some r) mine x.is_head in
      let again : Some r ≡ Some s = sym at ∙ is in
      absurd (ne (cc))
]

lengths_are : (C : Config) (P : History) (f g : ℕ) (x y : ℤ) → x ≡ pos (head_length C P f) → y ≡ pos (head_length C P g) → max (unsigned_abs x) (unsigned_abs y) ≡ max (head_length C P f) (head_length C P g)
lengths_are C P f g x y e h = rw (e, h) refl

module _ (C : Config) (P : History) (m f g : ℕ) (lim : InLimits C) (legal : IsLegal C P) (f_known : f < length C.weights) (g_known : g < length C.weights) where
  take_is : (w r c : ℕ) (k l : Option HeadKeys) → FitsTake C P m w r c → k ≡ keys_at C P (last_moment P) f → l ≡ keys_at C P (last_moment P) g → taken_by (Take w r c) k l ≡ taken_at C P (Take w r c) f g
  take_is w r c None l fits is_k is_l = none_if (is_lead_take P (Take w r c) f g) _ (no_take_unshared P (Take w r c) f g (unshared_first P f g (headless C P f (sym is_k))))
  take_is w r c (Some i) None fits is_k is_l = none_if (is_lead_take P (Take w r c) f g) _ (no_take_unshared P (Take w r c) f g (unshared_second P f g (headless C P g (sym is_l))))
  take_is w r c (Some i) (Some j) fits is_k is_l =
      let x : HeadIs C P f i = head_is C P f i lim legal f_known (sym is_k) in
      let y : HeadIs C P g j = head_is C P g j lim legal g_known (sym is_l) in
      let shared = both_shared P f g i.request j.request x.is_head y.is_head in
      elim (cases_eq r i.request) [
        | inr ne ↦ rw (ne_eqb r i.request ne) (none_if (is_lead_take P (Take w r c) f g) _ (take_other C P f g m w r i.request c fits x.is_head ne))
        | inl same ↦ rw (eq-eqb r i.request same) (some_if (is_lead_take P (Take w r c) f g) _ _ (take_own P f g w r c shared (x.is_head ∙ ap Some (sym same))) (lengths_are C P f g i.len j.len x.length_is y.length_is))
      ]

  -- the greater length at a Take, by the keys
  pub taken_is : (a : Act) (k l : Option HeadKeys) → Fits C P m a → k ≡ keys_at C P (last_moment P) f → l ≡ keys_at C P (last_moment P) g → taken_by a k l ≡ taken_at C P a f g
  taken_is (Take worker request estimate) k l fits is_k is_l = take_is worker request estimate k l fits is_k is_l
  taken_is a k l fits is_k is_l = rw (neither (is_shared P f g)) refl

-- that is no more than the greatest length
pub taken_short : (C : Config) (P : History) (a : Act) (f g : ℕ) (k l : Option HeadKeys) → InLimits C → IsLegal C P → f < length C.weights → g < length C.weights → k ≡ keys_at C P (last_moment P) f → l ≡ keys_at C P (last_moment P) g → IfSome (taken_by a k l) (λ x. x ≤ GREATEST_LENGTH)
taken_short C P (Take worker request estimate) f g (Some i) (Some j) lim legal f_known g_known is_k is_l =
    let x : HeadIs C P f i = head_is C P f i lim legal f_known (sym is_k) in
    let y : HeadIs C P g j = head_is C P g j lim legal g_known (sym is_l) in
    let short : max (unsigned_abs i.len) (unsigned_abs j.len) ≤ GREATEST_LENGTH = omega (arith, lengths_are C P f g i.len j.len x.length_is y.length_is, x.length_short, y.length_short) in
    elim (cases_eq request i.request) [ inl same ↦ rw (eq-eqb request i.request same) short | inr ne ↦ rw (ne_eqb request i.request ne) tt ]
taken_short C P a f g k l lim legal f_known g_known is_k is_l = tt

-- ---- the greatest numbers at the prefixes

pub leads_nil : (C : Config) (H : History) (f g : ℕ) → LeadsIn C H [] f g no_leads
unfolding first_leads take_lengths take_doubts
leads_nil C H f g = record { starts_in = found_nil C f g; first_is = refl; longest_is = refl; doubt_is = refl; longest_low = omega arith; doubt_low = omega arith }

-- the lead is the difference and the doubt
lead_parts : (C : Config) (H P : History) (f g : ℕ) → start_difference C P f g +ℤ pos (doubt (longest_of C H f) (shortest_of C H g) C P f g) ≡ measured_lead C H P f g
unfolding start_difference
lead_parts C H P f g = parts (start_now C P f) (start_now C P g) (may_rise (longest_of C H f) C P f) (may_fall (shortest_of C H g) C P g)
  where
    parts : (a b u v : ℕ) → ((pos a -ℤ pos b) +ℤ pos (u + v)) ≡ (pos (a + u) -ℤ (pos b -ℤ pos v))
    parts a b u v = omega (arith, ints)

module _ (C : Config) (H P : History) (e : Entry) (f g : ℕ) (leads : Leads) (is : LeadsIn C H P f g leads) (d : ℕ) (d_is : asks_doubt leads (difference_at C (e ∷ P) f g) (taken_at C P e.act f g) ≡ true → d ≡ doubt (longest_of C H f) (shortest_of C H g) C (e ∷ P) f g) where
  -- where both begin to wait the doubt counts
  begins : is_shared (e ∷ P) f g ≡ true → is_shared P f g ≡ false → d ≡ doubt (longest_of C H f) (shortest_of C H g) C (e ∷ P) f g
  begins now before = d_is (rw (now, is.starts_in.shared_is, before) refl)

  led : is_shared (e ∷ P) f g ≡ true → is_shared P f g ≡ false → start_difference C (e ∷ P) f g +ℤ pos d ≡ measured_lead C H (e ∷ P) f g
  led now before = ap (λ (n : ℕ). start_difference C (e ∷ P) f g +ℤ pos n) (begins now before) ∙ lead_parts C H (e ∷ P) f g

  firsts : first_with leads (difference_at C (e ∷ P) f g) d ≡ greatest_of (first_leads C H (e ∷ P) f g)
  unfolding first_leads
  firsts = elim (cases_Bool (is_shared (e ∷ P) f g)) [
    | inr now ↦ rw now is.first_is
    | inl now ↦ elim (cases_Bool (is_shared P f g)) [
      | inl before ↦ rw (now, is.starts_in.shared_is, before) is.first_is
      | inr before ↦ rw (now, is.starts_in.shared_is, before) (ap Some (ap (λ (z : ℤ). at_least z leads.first) (led now before) ∙ ap (at_least (measured_lead C H (e ∷ P) f g)) is.first_is ∙ at_least_is (measured_lead C H (e ∷ P) f g) (first_leads C H P f g)))
    ]
  ]

  lengths : longest_with leads.longest (taken_at C P e.act f g) ≡ greatest (take_lengths C (e ∷ P) f g)
  unfolding take_lengths
  lengths = elim (cases_Bool (is_lead_take P e.act f g)) [
    | inl now ↦ rw now (omega (arith, is.longest_is))
    | inr now ↦ rw now is.longest_is
  ]

  doubts : doubt_with leads.doubt (taken_at C P e.act f g) d ≡ greatest (take_doubts C H (e ∷ P) f g)
  unfolding take_doubts
  doubts = elim (cases_Bool (is_lead_take P e.act f g)) [
    | inl now ↦ (
        let counts : d ≡ doubt (longest_of C H f) (shortest_of C H g) C (e ∷ P) f g = d_is (rw now refl) in
        rw now (omega (arith, is.doubt_is, counts)))
    | inr now ↦ rw now is.doubt_is
  ]

  longest_stays_low : (o : Option ℕ) → IfSome o (λ x. x ≤ GREATEST_LENGTH) → longest_with leads.longest o ≤ GREATEST_LENGTH
  longest_stays_low None low = is.longest_low
  longest_stays_low (Some x) low = omega (arith, is.longest_low, low)

  doubt_stays_low : (o : Option ℕ) → d ≤ GREATEST_DOUBT → doubt_with leads.doubt o d ≤ GREATEST_DOUBT
  doubt_stays_low None low = is.doubt_low
  doubt_stays_low (Some x) low = omega (arith, is.doubt_low, low)

  -- one entry on
  pub leads_next : IfSome (taken_at C P e.act f g) (λ x. x ≤ GREATEST_LENGTH) → d ≤ GREATEST_DOUBT → LeadsIn C H (e ∷ P) f g (leads_with leads (difference_at C (e ∷ P) f g) (taken_at C P e.act f g) d)
  leads_next short few = record {
    starts_in = found_next C P e f g leads.starts is.starts_in;
    first_is = firsts;
    longest_is = lengths;
    doubt_is = doubts;
    longest_low = longest_stays_low (taken_at C P e.act f g) short;
    doubt_low = doubt_stays_low (taken_at C P e.act f g) few;
  }

-- at the end they are the lead
pub leads_measured : (C : Config) (H : History) (f g : ℕ) (leads : Leads) (p : Policy) → p ≡ C.policy → LeadsIn C H H f g leads → option_map told (lead_from leads p) ≡ measured_gap C H f g
unfolding measured_gap largest_difference lead_bound
leads_measured C H f g leads p same is =
    let takes : heads_in_bound p leads.longest + leads.doubt ≡ lengths_in_bound C.policy * greatest (take_lengths C H f g) + greatest (take_doubts C H H f g) = rw (same, is.longest_is, is.doubt_is) refl in
    let bound : at_least (pos (heads_in_bound p leads.longest + leads.doubt)) leads.first ≡ lead_bound C H f g = ap (λ (n : ℕ). at_least (pos n) leads.first) takes ∙ ap (at_least _) is.first_is ∙ at_least_is _ (first_leads C H H f g) in
    rw is.starts_in.largest_is (gap_is (greatest_of (shared_differences C H f g)) _ _ bound)

-- whose bound is one
pub lead_bounded : (C : Config) (H : History) (f g : ℕ) (o : Option Gap) → f ≢ g → InLimits C → IsLegal C H → option_map told o ≡ measured_gap C H f g → IfSome o (λ x. x.largest ≤ℤ x.bound)
lead_bounded C H f g None ne lim l is = tt
lead_bounded C H f g (Some x) ne lim l is = measured_bounded C H f g (told x) ne lim l (sym is)

-- ---- over the entries of a past

pub leads_on : (C : Config) (past : List Entry) (i f g d : ℕ) (leads n : Leads) (difference : Option ℤ) (taken : Option ℕ) → i < length past
    → LeadsIn C (history_of past) (first_entries past i) f g leads
    → (asks_doubt leads difference taken ≡ true → d ≡ doubt (longest_of C (history_of past) f) (shortest_of C (history_of past) g) C (next_entry past i ∷ first_entries past i) f g) → d ≤ GREATEST_DOUBT
    → taken ≡ taken_at C (first_entries past i) (next_entry past i).act f g → IfSome taken (λ x. x ≤ GREATEST_LENGTH)
    → difference ≡ difference_at C (next_entry past i ∷ first_entries past i) f g → n ≡ leads_with leads difference taken d
    → LeadsIn C (history_of past) (first_entries past (i + 1)) f g n
leads_on C past i f g d leads n difference taken b is d_is few taken_is short difference_is n_is =
    let e = next_entry past i in
    let P = first_entries past i in
    let low = subst (λ (o : Option ℕ). IfSome o (λ x. x ≤ GREATEST_LENGTH)) taken_is short in
    let counts = λ (h : asks_doubt leads (difference_at C (e ∷ P) f g) (taken_at C P e.act f g) ≡ true). d_is (rw (difference_is, taken_is) h) in
    let next = leads_next C (history_of past) P e f g leads is d counts low few in
    rw (n_is, difference_is, taken_is) (subst (λ (Q : History). LeadsIn C (history_of past) Q f g (leads_with leads (difference_at C (e ∷ P) f g) (taken_at C P e.act f g) d)) (sym (one_on past i b)) next)

pub leads_all : (C : Config) (past : List Entry) (i f g : ℕ) (leads : Leads) → length past ≤ i → LeadsIn C (history_of past) (first_entries past i) f g leads → LeadsIn C (history_of past) (history_of past) f g leads
leads_all C past i f g leads b is = subst (λ (Q : History). LeadsIn C (history_of past) Q f g leads) (all_entries past i b) is
