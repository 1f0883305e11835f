-- Where something waits a worker has exactly one choice.
use Rattle.std.proofs.Common.{Bool, true, false, ◌||◌, int_le, ◌≡◌, ◌≢◌, refl, inl, inr, ◌⊎◌, ◌≤◌, arith, ◌≤ℤ◌, sym, ◌<◌, ℤ, ◌<ℤ◌, ℕ, Option, Some, suc, ◌∙◌, zero, None, ap, length}
use Rattle.std.proofs.lemmas.Int.{ints, by_lt_z}
use Rattle.std.proofs.lemmas.Bool.{cases_Bool, or_cases, or_parts, cases_order, cases_eq, and_parts}
use Rattle.fq_model.specs.declared.config.Policy.{Policy}
use Rattle.fq_model.specs.declared.config.Policy.TheVariants.{Wfq}
use Rattle.fq_model.specs.Keys.{HeadKeys, Turn, eligible_key, IsEligible, finish, FinishBefore, EligibleBefore, Every, IsChoice, head_keys, keys_at, keys_of_head, keys_of_request, turn_at, IsChoiceAt, HasKeys}
use Rattle.fq_model.specs.declared.config.Config.{Config}
use Rattle.fq_model.specs.History.{History, Request, request_at, head, waits_for, waiting}
use Rattle.fq_model.specs.Rules.{IsLegal}
use Rattle.fq_laws.proofs.Rules.Takes.{keys_head, heads, Heads, choice_head}
use Rattle.fq_laws.proofs.History.Asked.{is_of_asked}
use Rattle.fq_laws.proofs.History.Heads.{head_tenant_known, HasHead, waiting_head}

-- ---- eligibility is decidable

int_le_true : (a b : ℤ) → int_le a b ≡ true → a ≤ℤ b
int_le_true a b h = omega (arith, ints)

int_le_false : (a b : ℤ) → int_le a b ≡ false → ¬ (a ≤ℤ b)
int_le_false a b h = λ b. omega (arith, ints)

abbrev is_wfq : Policy → Bool
is_wfq Wfq = true
is_wfq _ = false

wfq_true : (p : Policy) → is_wfq p ≡ true → p ≡ Wfq
wfq_true Wfq h = refl
wfq_true _ h = absurd (cc)

wfq_false : (p : Policy) → is_wfq p ≡ false → p ≢ Wfq
wfq_false Wfq h = absurd (cc)
wfq_false _ h = λ e. cc

-- the test of eligibility
abbrev pub is_eligible : Turn → HeadKeys → Bool
is_eligible at k = is_wfq at.policy || int_le (eligible_key at k) at.virtual_time

pub eligible_true : (at : Turn) (k : HeadKeys) → is_eligible at k ≡ true → IsEligible at k
eligible_true at k h = elim (or_cases _ _ h) [
  | inl e ↦ inl (wfq_true at.policy e)
  | inr e ↦ inr (int_le_true _ _ e)
]

pub eligible_false : (at : Turn) (k : HeadKeys) → is_eligible at k ≡ false → ¬ IsEligible at k
eligible_false at k h =
    let p = or_parts _ _ h in
    λ x. elim x [
      | inl e ↦ wfq_false at.policy p.0 e
      | inr e ↦ int_le_false _ _ p.1 e
    ]

pub eligible_or_not : (at : Turn) (k : HeadKeys) → IsEligible at k ⊎ ¬ IsEligible at k
eligible_or_not at k = elim (cases_Bool (is_eligible at k)) [ inl e ↦ inl (eligible_true at k e) | inr e ↦ inr (eligible_false at k e) ]

-- ---- the two orders of keys

-- an order of keys of different requests
pub record IsOrder (Before : HeadKeys → HeadKeys → Type 0) : Type 0 where
  pub goes_on : (x y z : HeadKeys) → Before x y → Before y z → Before x z
  pub total : (x y : HeadKeys) → x.request ≢ y.request → Before x y ⊎ Before y x
  pub one_way : (x y : HeadKeys) → Before x y → Before y x → ⊥

finish_total : (x y : HeadKeys) → x.request ≢ y.request → FinishBefore x y ⊎ FinishBefore y x
finish_total x y ne = by_lt_z (finish x) (finish y) (λ h. inl (inl h)) (λ h. by_lt_z (finish y) (finish x) (λ g. inr (inl g)) (λ g.
    let e : finish x ≡ finish y = omega (arith, ints) in
    elim (cases_order x.request y.request) [
      | inl same ↦ absurd (ne same)
      | inr o ↦ elim o [ inl less ↦ inl (inr (e, less)) | inr more ↦ inr (inr (sym e, more)) ]
    ]))

pub by_finish : IsOrder FinishBefore
by_finish = record {
  goes_on = λ x y z p q. grind (arith, ints);
  total = finish_total;
  one_way = λ x y p q. grind (arith, ints);
}

eligible_total : (at : Turn) (x y : HeadKeys) → x.request ≢ y.request → EligibleBefore at x y ⊎ EligibleBefore at y x
eligible_total at x y ne = by_lt_z (eligible_key at x) (eligible_key at y) (λ h. inl (inl h)) (λ h. by_lt_z (eligible_key at y) (eligible_key at x) (λ g. inr (inl g)) (λ g.
    let e : eligible_key at x ≡ eligible_key at y = omega (arith, ints) in
    elim (finish_total x y ne) [ inl less ↦ inl (inr (e, less)) | inr more ↦ inr (inr (sym e, more)) ]))

eligible_goes_on : (a b c : ℤ) (x y z : HeadKeys) → (a <ℤ b) ⊎ ((a ≡ b) × FinishBefore x y) → (b <ℤ c) ⊎ ((b ≡ c) × FinishBefore y z) → (a <ℤ c) ⊎ ((a ≡ c) × FinishBefore x z)
eligible_goes_on a b c x y z p q = grind (arith, ints)

eligible_one_way : (a b : ℤ) (x y : HeadKeys) → (a <ℤ b) ⊎ ((a ≡ b) × FinishBefore x y) → (b <ℤ a) ⊎ ((b ≡ a) × FinishBefore y x) → ⊥
eligible_one_way a b x y p q = grind (arith, ints)

pub by_eligible : (at : Turn) → IsOrder (EligibleBefore at)
by_eligible at = record {
  goes_on = λ x y z p q. eligible_goes_on (eligible_key at x) (eligible_key at y) (eligible_key at z) x y z p q;
  total = eligible_total at;
  one_way = λ x y p q. eligible_one_way (eligible_key at x) (eligible_key at y) x y p q;
}

-- ---- the first of the tenants

-- of the tenants below n, t has the least keys that pass
pub record BestBelow (Passes : HeadKeys → Type 0) (Before : HeadKeys → HeadKeys → Type 0) (K : ℕ → Option HeadKeys) (n t : ℕ) (k : HeadKeys) : Type 0 where
  pub has : K t ≡ Some k
  pub passes : Passes k
  pub below : t < n
  pub least : (u : ℕ) (l : HeadKeys) → u < n → u ≢ t → K u ≡ Some l → Passes l → Before k l

abbrev pub NoneBelow : (HeadKeys → Type 0) → (ℕ → Option HeadKeys) → ℕ → Type 0
NoneBelow Passes K n = (u : ℕ) (l : HeadKeys) → u < n → K u ≡ Some l → ¬ Passes l

abbrev pub Differ : (ℕ → Option HeadKeys) → Type 0
Differ K = (t u : ℕ) (k l : HeadKeys) → t ≢ u → K t ≡ Some k → K u ≡ Some l → k.request ≢ l.request

abbrev pub Found : (HeadKeys → Type 0) → (HeadKeys → HeadKeys → Type 0) → (ℕ → Option HeadKeys) → ℕ → Type 0
Found Passes Before K n = NoneBelow Passes K n ⊎ ((t : ℕ) × (k : HeadKeys) × BestBelow Passes Before K n t k)

-- the keys of n do not pass
pass_over : (Passes : HeadKeys → Type 0) (Before : HeadKeys → HeadKeys → Type 0) (K : ℕ → Option HeadKeys) (n : ℕ) → ((l : HeadKeys) → K n ≡ Some l → ¬ Passes l) → Found Passes Before K n → Found Passes Before K (suc n)
pass_over Passes Before K n out (inl none) = inl (λ u l b has. elim (cases_eq u n) [ inl e ↦ out l (rw e at has) | inr ne ↦ none u l (omega arith) has ])
pass_over Passes Before K n out (inr x) = inr (
  x.0,
  x.1,
  record {
    has = x.2.has;
    passes = x.2.passes;
    below = omega (arith, x.2.below);
    least = λ u l b ne has p. elim (cases_eq u n) [ inl e ↦ absurd (out l (rw e at has) p) | inr other ↦ x.2.least u l (omega arith) ne has p ];
  },
)

-- the keys of n pass
pass_in : (Passes : HeadKeys → Type 0) (Before : HeadKeys → HeadKeys → Type 0) (K : ℕ → Option HeadKeys) (n : ℕ) (k : HeadKeys) → IsOrder Before → Differ K → K n ≡ Some k → Passes k → Found Passes Before K n → Found Passes Before K (suc n)
pass_in Passes Before K n k order differ has p (inl none) = inr (
  n,
  k,
  record {
    has = has;
    passes = p;
    below = omega arith;
    least = λ u l b ne has_l p_l. absurd (none u l (omega arith) has_l p_l);
  },
)
pass_in Passes Before K n k order differ has p (inr x) = elim (order.total k x.1 (differ n x.0 k x.1 (λ e. omega (arith, e, x.2.below)) has x.2.has)) [
  | inl sooner ↦ inr (
    n,
    k,
    record {
      has = has;
      passes = p;
      below = omega arith;
      least = λ u l b ne has_l p_l. elim (cases_eq u x.0) [
        | inl e ↦ (let same : Some x.1 ≡ Some l = sym x.2.has ∙ (rw e at has_l) in let j : x.1 ≡ l = cc in rw j at sooner)
        | inr other ↦ order.goes_on k x.1 l sooner (x.2.least u l (omega arith) other has_l p_l)
      ];
    },
  )
  | inr later ↦ inr (
    x.0,
    x.1,
    record {
      has = x.2.has;
      passes = x.2.passes;
      below = omega (arith, x.2.below);
      least = λ u l b ne has_l p_l. elim (cases_eq u n) [
        | inl e ↦ (let same : Some k ≡ Some l = sym has ∙ (rw e at has_l) in let j : k ≡ l = cc in rw j at later)
        | inr other ↦ x.2.least u l (omega arith) ne has_l p_l
      ];
    },
  )
]

pub best_below : (Passes : HeadKeys → Type 0) (Before : HeadKeys → HeadKeys → Type 0) (K : ℕ → Option HeadKeys) → ((k : HeadKeys) → Passes k ⊎ ¬ Passes k) → IsOrder Before → Differ K → (n : ℕ) → Found Passes Before K n
best_below Passes Before K test order differ zero = inl (λ u l b has. absurd (omega arith))
best_below Passes Before K test order differ (suc n) = go (best_below Passes Before K test order differ n) (K n) refl
  where
    go : Found Passes Before K n → (o : Option HeadKeys) → K n ≡ o → Found Passes Before K (suc n)
    go ih None is = pass_over Passes Before K n (λ l has. absurd (let k : Some l ≡ None = sym has ∙ is in cc)) ih
    go ih (Some k) is = elim (test k) [
      | inl p ↦ pass_in Passes Before K n k order differ is p ih
      | inr out ↦ pass_over Passes Before K n (λ l has p. out (let same : Some l ≡ Some k = sym has ∙ is in let j : l ≡ k = cc in rw j at p)) ih
    ]

-- ---- a choice exists, and is the only one

-- where a tenant has keys, one is chosen; the tenants with keys have different requests and stand below a bound
pub choice_exists : (at : Turn) (K : ℕ → Option HeadKeys) (tenants t : ℕ) (k : HeadKeys) → Differ K → ((u : ℕ) (l : HeadKeys) → K u ≡ Some l → u < tenants) → K t ≡ Some k → (u : ℕ) × (l : HeadKeys) × IsChoice at (λ a b. K a ≡ Some b) u l
choice_exists at K tenants t k differ below has = elim (best_below (IsEligible at) FinishBefore K (eligible_or_not at) by_finish differ tenants) [
  | inr x ↦ (x.0, x.1, inl (record { has = x.2.has; passes = x.2.passes; first = λ u l ne h p. x.2.least u l (below u l h) ne h p }))
  | inl none ↦ elim (best_below Every (EligibleBefore at) K (λ l. inl tt) (by_eligible at) differ tenants) [
    | inr x ↦ (x.0, x.1, inr (λ u l h. none u l (below u l h) h, record { has = x.2.has; passes = tt; first = λ u l ne h p. x.2.least u l (below u l h) ne h p }))
    | inl nobody ↦ absurd (nobody t k (below t k has) has tt)
  ]
]

-- no two tenants are chosen
pub choice_one : (at : Turn) (K : ℕ → HeadKeys → Type 0) (t u : ℕ) (k l : HeadKeys) → IsChoice at K t k → IsChoice at K u l → t ≡ u
choice_one at K t u k l (inl a) (inl b) = elim (cases_eq t u) [ inl e ↦ e | inr ne ↦ absurd (by_finish.one_way k l (a.first u l (λ e. ne (sym e)) b.has b.passes) (b.first t k ne a.has a.passes)) ]
choice_one at K t u k l (inl a) (inr b) = absurd (b.0 t k a.has a.passes)
choice_one at K t u k l (inr a) (inl b) = absurd (a.0 u l b.has b.passes)
choice_one at K t u k l (inr a) (inr b) = elim (cases_eq t u) [ inl e ↦ e | inr ne ↦ absurd ((by_eligible at).one_way k l (a.1.first u l (λ e. ne (sym e)) b.1.has tt) (b.1.first t k ne a.1.has tt)) ]

-- ---- over histories

-- k is the keys of tenant t: its head is a request of t, and the keys are made from the fields of that request
pub record KeysOf (C : Config) (P : History) (m t : ℕ) (k : HeadKeys) : Type 0 where
  pub what : Request
  pub is_head : head P t ≡ Some k.request
  pub was_asked : request_at P k.request ≡ Some what
  pub mine : what.tenant ≡ t
  pub is : k ≡ head_keys C P m t k.request what

pub keys_of : (C : Config) (P : History) (m t : ℕ) (k : HeadKeys) → keys_at C P m t ≡ Some k → KeysOf C P m t k
unfolding waits_for
keys_of C P m t k h =
    let x = keys_head C P m t k h in
    let y : Heads P t k.request = heads P t k.request x.1 in
    let z = is_of_asked t (request_at P k.request) (and_parts _ _ y.waits_now).0 in
    let same : Some x.0 ≡ Some z.0 = sym x.2 ∙ z.1 in
    let j : z.0 ≡ x.0 = cc in
    record { what = x.0; is_head = x.1; was_asked = x.2; mine = rw j at z.2; is = x.3 }

-- the keys of different tenants are of different requests
pub keys_differ : (C : Config) (P : History) (m : ℕ) → Differ (keys_at C P m)
keys_differ C P m = λ t u k l ne at_t at_u e.
    let x = keys_of C P m t k at_t in
    let y = keys_of C P m u l at_u in
    let p : request_at P l.request ≡ Some x.what = ap (request_at P) (sym e) ∙ x.was_asked in
    let same : Some x.what ≡ Some y.what = sym p ∙ y.was_asked in
    let j : x.what ≡ y.what = cc in
    ne (sym x.mine ∙ (ap (λ a. a.tenant) j ∙ y.mine))

-- a tenant with a head has keys
pub head_has_keys : (C : Config) (P : History) (m t r : ℕ) → head P t ≡ Some r → (k : HeadKeys) × (keys_at C P m t ≡ Some k)
unfolding keys_at waits_for
head_has_keys C P m t r h =
    let y : Heads P t r = heads P t r h in
    let z = is_of_asked t (request_at P r) (and_parts _ _ y.waits_now).0 in
    (head_keys C P m t r z.0, ap (keys_of_head C P m t) h ∙ ap (keys_of_request C P m t r) z.1)

-- the keys of a head
pub head_keys_are : (C : Config) (P : History) (m t r : ℕ) (q : Request) → head P t ≡ Some r → request_at P r ≡ Some q → keys_at C P m t ≡ Some (head_keys C P m t r q)
unfolding keys_at
head_keys_are C P m t r q h a = ap (keys_of_head C P m t) h ∙ ap (keys_of_request C P m t r) a

pub no_head_no_keys : (C : Config) (P : History) (m t : ℕ) → head P t ≡ None → keys_at C P m t ≡ None
unfolding keys_at
no_head_no_keys C P m t h = rw h refl

pub keys_tenant_known : (C : Config) (P : History) (m t : ℕ) (k : HeadKeys) → IsLegal C P → keys_at C P m t ≡ Some k → t < length C.weights
keys_tenant_known C P m t k l h = let z : KeysOf C P m t k = keys_of C P m t k h in head_tenant_known C P t k.request l z.is_head

-- where something waits, a tenant is chosen
pub chosen : (C : Config) (P : History) (m i : ℕ) → IsLegal C P → 1 ≤ waiting P → (t : ℕ) × (k : HeadKeys) × IsChoiceAt C P m i t k
chosen C P m i l h =
    let x : HasHead C P = waiting_head C P l h in
    let y = head_has_keys C P m x.tenant x.request x.is_head in
    choice_exists (turn_at C P m i) (keys_at C P m) (length C.weights) x.tenant y.0 (keys_differ C P m) (λ u k has. keys_tenant_known C P m u k l has) y.1

-- one tenant is chosen at most
pub chosen_one : (C : Config) (P : History) (m i t u : ℕ) (k l : HeadKeys) → IsChoiceAt C P m i t k → IsChoiceAt C P m i u l → t ≡ u
chosen_one C P m i t u k l a b = choice_one (turn_at C P m i) (HasKeys C P m) t u k l a b

-- and two choices have equal keys
pub chosen_keys : (C : Config) (P : History) (m i t u : ℕ) (k l : HeadKeys) → IsChoiceAt C P m i t k → IsChoiceAt C P m i u l → k ≡ l
chosen_keys C P m i t u k l a b =
    let e : t ≡ u = chosen_one C P m i t u k l a b in
    let x : keys_at C P m t ≡ Some k = choice_head C P m i t k a in
    let y : keys_at C P m u ≡ Some l = choice_head C P m i u l b in
    let j : Some k ≡ Some l = sym x ∙ (ap (keys_at C P m) e ∙ y) in
    cc
