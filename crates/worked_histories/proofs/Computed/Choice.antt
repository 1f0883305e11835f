-- A test of the choice that computes.
use Rattle.std.proofs.Common.{◌<◌, ◌≡◌, true, arith, int_lt, ℤ, ◌<ℤ◌, ◌≤◌, false, Bool, refl, ◌≢◌, ◌||◌, inl, inr, nat_lt, ◌&&◌, int_eq, Option, Some, None, ℕ, zero, suc, nat_eq, ap, sym, ◌∙◌, not, subst}
use Rattle.std.proofs.lemmas.Int.{ints}
use Rattle.std.proofs.lemmas.Bool.{or_cases, ltb-true, and_parts, cases_eq, eqb-true, cases_lt, not-true, false≢true, eqb-false}
use Rattle.std.proofs.lemmas.Bool.Decides.{Decides-int_eq}
use Rattle.fq_model.specs.Keys.{HeadKeys, Turn, eligible_key, finish, FinishBefore, EligibleBefore, NoneIsEligible, IsChoice, HasKeys, keys_at, IsChoiceAt, turn_at}
use Rattle.fq_model.specs.declared.config.Config.{Config}
use Rattle.fq_model.specs.History.{History}
use Rattle.worked_histories.proofs.Computed.Histories.{IsShort, keys_within, keys_are, keys_none, turn_within, turn_is}
use Rattle.fq_laws.proofs.Keys.Choices.{is_eligible, eligible_true, eligible_false, chosen_one}

-- ---- eligibility, and the two orders

int_lt_true : (a b : ℤ) → int_lt a b ≡ true → a <ℤ b
int_lt_true a b h = omega (arith, ints)

abbrev pub finish_before : HeadKeys → HeadKeys → Bool
finish_before a b = int_lt (finish a) (finish b) || (int_eq (finish a) (finish b) && nat_lt a.request b.request)

finish_true : (a b : HeadKeys) → finish_before a b ≡ true → FinishBefore a b
finish_true a b h = elim (or_cases _ _ h) [
  | inl e ↦ inl (int_lt_true _ _ e)
  | inr e ↦ (let p = and_parts _ _ e in inr ((Decides-int_eq (finish a) (finish b)).0 p.0, ltb-true a.request b.request p.1))
]

abbrev pub eligible_before : Turn → HeadKeys → HeadKeys → Bool
eligible_before at a b = int_lt (eligible_key at a) (eligible_key at b) || (int_eq (eligible_key at a) (eligible_key at b) && finish_before a b)

eligible_before_true : (at : Turn) (a b : HeadKeys) → eligible_before at a b ≡ true → EligibleBefore at a b
eligible_before_true at a b h = elim (or_cases _ _ h) [
  | inl e ↦ inl (int_lt_true _ _ e)
  | inr e ↦ (let p = and_parts _ _ e in inr ((Decides-int_eq (eligible_key at a) (eligible_key at b)).0 p.0, finish_true a b p.1))
]

-- ---- the other tenants

abbrev keys_pass : (HeadKeys → Bool) → Option HeadKeys → Bool
keys_pass ok None = true
keys_pass ok (Some l) = ok l

-- of the tenants below n, the keys of each but t pass
abbrev pub others_pass : (HeadKeys → Bool) → (ℕ → Option HeadKeys) → ℕ → ℕ → Bool
others_pass ok K t zero = true
others_pass ok K t (suc n) = (nat_eq n t || keys_pass ok (K n)) && others_pass ok K t n

others_true : (ok : HeadKeys → Bool) (K : ℕ → Option HeadKeys) (t n u : ℕ) (l : HeadKeys) → others_pass ok K t n ≡ true → u < n → u ≢ t → K u ≡ Some l → ok l ≡ true
others_true ok K t zero u l h b ne has = absurd (omega arith)
others_true ok K t (suc n) u l h b ne has =
    let p = and_parts _ _ h in
    elim (cases_eq u n) [
      | inr other ↦ others_true ok K t n u l p.1 (omega arith) ne has
      | inl e ↦ elim (or_cases _ _ p.0) [
        | inl same ↦ absurd (ne (e ∙ eqb-true n t same))
        | inr passes ↦ (let at_n : K n ≡ Some l = ap K (sym e) ∙ has in let here : keys_pass ok (K n) ≡ true = passes in rw at_n at here)
      ]
    ]

-- ---- the choice

-- among the tenants below n, t with these keys is the choice
abbrev pub choice_test : Turn → (ℕ → Option HeadKeys) → ℕ → ℕ → HeadKeys → Bool
choice_test at K n t k =
    (is_eligible at k && others_pass (λ l. not (is_eligible at l) || finish_before k l) K t n)
    || (others_pass (λ l. not (is_eligible at l)) K n n && others_pass (eligible_before at k) K t n)

below : (H : ℕ → Option HeadKeys) (n u : ℕ) (l : HeadKeys) → ((u : ℕ) → n ≤ u → H u ≡ None) → H u ≡ Some l → u < n
below H n u l none has = elim (cases_lt u n) [ inl b ↦ b | inr b ↦ absurd (let e : None ≡ Some l = sym (none u b) ∙ has in cc) ]

none_tested : (at : Turn) (H K : ℕ → Option HeadKeys) (n : ℕ) → ((u : ℕ) → H u ≡ K u) → ((u : ℕ) → n ≤ u → H u ≡ None) → others_pass (λ l. not (is_eligible at l)) K n n ≡ true → NoneIsEligible at (λ u l. H u ≡ Some l)
none_tested at H K n same none h = λ u l has.
    let b : u < n = below H n u l none has in
    eligible_false at l (not-true _ (others_true (λ l. not (is_eligible at l)) K n n u l h b (λ e. omega arith) (sym (same u) ∙ has)))

choice_tested : (at : Turn) (H K : ℕ → Option HeadKeys) (n t : ℕ) (k : HeadKeys) → ((u : ℕ) → H u ≡ K u) → ((u : ℕ) → n ≤ u → H u ≡ None) → H t ≡ Some k → choice_test at K n t k ≡ true → IsChoice at (λ u l. H u ≡ Some l) t k
choice_tested at H K n t k same none has h = elim (or_cases _ _ h) [
  | inl x ↦ (let p = and_parts _ _ x in inl (record {
    has = has;
    passes = eligible_true at k p.0;
    first = λ u l ne has_l pass_l. elim (or_cases _ _ (others_true (λ l. not (is_eligible at l) || finish_before k l) K t n u l p.1 (below H n u l none has_l) ne (sym (same u) ∙ has_l))) [
      | inl out ↦ absurd (eligible_false at l (not-true _ out) pass_l)
      | inr sooner ↦ finish_true k l sooner
    ];
  }))
  | inr x ↦ (let p = and_parts _ _ x in inr (
    none_tested at H K n same none p.0,
    record {
      has = has;
      passes = tt;
      first = λ u l ne has_l pass_l. eligible_before_true at k l (others_true (eligible_before at k) K t n u l p.1 (below H n u l none has_l) ne (sym (same u) ∙ has_l));
    },
  ))
]

-- in a short history the test shows the choice
pub choice_is : (n k : ℕ) (C : Config) (P : History) (m i t : ℕ) (l : HeadKeys) → IsShort n k P → keys_within n C P m t ≡ Some l → choice_test (turn_within n C P m i) (keys_within n C P m) k t l ≡ true → IsChoiceAt C P m i t l
choice_is n k C P m i t l s has h = subst (λ at. IsChoice at (HasKeys C P m) t l) (sym (turn_is n k C P m i s)) (choice_tested (turn_within n C P m i) (keys_at C P m) (keys_within n C P m) k t l (λ u. keys_are n k C P m u s) (λ u b. keys_none n k C P m u s b) (keys_are n k C P m t s ∙ has) h)

-- tenant t, whose keys these are, is the choice
abbrev pub tenant_test : ℕ → ℕ → Config → History → ℕ → ℕ → ℕ → Option HeadKeys → Bool
tenant_test n k C P m i t None = false
tenant_test n k C P m i t (Some l) = choice_test (turn_within n C P m i) (keys_within n C P m) k t l

pub tenant_chosen : (n k : ℕ) (C : Config) (P : History) (m i t : ℕ) (o : Option HeadKeys) → IsShort n k P → keys_within n C P m t ≡ o → tenant_test n k C P m i t o ≡ true → (l : HeadKeys) × IsChoiceAt C P m i t l
tenant_chosen n k C P m i t None s is h = absurd (false≢true h)
tenant_chosen n k C P m i t (Some l) s is h = (l, choice_is n k C P m i t l s is h)

-- where t is the choice, no other tenant is
pub choice_is_not : (n k : ℕ) (C : Config) (P : History) (m i t u : ℕ) → IsShort n k P → tenant_test n k C P m i t (keys_within n C P m t) ≡ true → nat_eq t u ≡ false → (l : HeadKeys) → ¬ IsChoiceAt C P m i u l
choice_is_not n k C P m i t u s h ne l = λ c.
    let x = tenant_chosen n k C P m i t (keys_within n C P m t) s refl h in
    eqb-false t u ne (chosen_one C P m i t u x.0 l x.1 c)

-- the keys of each tenant leave it not eligible
pub none_is_eligible : (n k : ℕ) (C : Config) (P : History) (m i : ℕ) → IsShort n k P → others_pass (λ l. not (is_eligible (turn_within n C P m i) l)) (keys_within n C P m) k k ≡ true → NoneIsEligible (turn_at C P m i) (HasKeys C P m)
none_is_eligible n k C P m i s h = subst (λ at. NoneIsEligible at (HasKeys C P m)) (sym (turn_is n k C P m i s)) (none_tested (turn_within n C P m i) (keys_at C P m) (keys_within n C P m) k (λ u. keys_are n k C P m u s) (λ u b. keys_none n k C P m u s b) h)
