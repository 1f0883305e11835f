-- The request of a Take that fits is the head of its tenant.
use Rattle.std.proofs.Common.{ℕ, ◌≡◌, refl, Option, Some, None, ◌^◌, ◌<◌, true, false, inl, inr}
use Rattle.std.proofs.lemmas.Bool.{and_parts, and_from}
use Rattle.fq_model.specs.declared.config.Config.{Config}
use Rattle.fq_model.specs.History.{History, Request, request_at, head, waits_for, request_bound, is_waiting}
use Rattle.fq_model.specs.Keys.{HeadKeys, head_keys, keys_of_request, keys_of_head, keys_at, IsChoiceAt}
use Rattle.fq_model.specs.Rules.{FitsTake}
use Rattle.fq_laws.proofs.Sums.{least_some, least_none}
use Rattle.fq_laws.proofs.History.Asked.{asked_submitted, is_of_asked}

-- ---- heads

pub keys_head : (C : Config) (P : History) (m t : ℕ) (k : HeadKeys) → keys_at C P m t ≡ Some k → (a : Request) × (head P t ≡ Some k.request) × (request_at P k.request ≡ Some a) × (k ≡ head_keys C P m t k.request a)
unfolding keys_at
keys_head C P m t k h = go (head P t) refl h
  where
    inner : (r : ℕ) (o : Option Request) → head P t ≡ Some r → request_at P r ≡ o → keys_of_request C P m t r o ≡ Some k → (a : Request) × (head P t ≡ Some k.request) × (request_at P k.request ≡ Some a) × (k ≡ head_keys C P m t k.request a)
    inner r None is was h = cc
    inner r (Some a) is was h =
        let e : r ≡ k.request = cc in
        (a, rw (← e) is, rw (← e) was, cc)

    go : (o : Option ℕ) → head P t ≡ o → keys_of_head C P m t o ≡ Some k → (a : Request) × (head P t ≡ Some k.request) × (request_at P k.request ≡ Some a) × (k ≡ head_keys C P m t k.request a)
    go None is h = cc
    go (Some r) is h = inner r (request_at P r) is refl h

-- r waits for tenant t, its number fits 32 bits, and no lesser request of t waits
pub record Heads (P : History) (t r : ℕ) : Type 0 where
  pub waits_now : waits_for P t r ≡ true
  pub small : r < 2 ^ 32
  pub least : (s : ℕ) → s < r → waits_for P t s ≡ false

pub heads : (P : History) (t r : ℕ) → head P t ≡ Some r → Heads P t r
unfolding head request_bound
heads P t r h = let x = least_some (waits_for P t) (2 ^ 32) r h in record { waits_now = x.0; small = x.1; least = x.2 }

pub no_head : (P : History) (t s : ℕ) → head P t ≡ None → s < 2 ^ 32 → waits_for P t s ≡ false
unfolding head request_bound
no_head P t s h b = least_none (waits_for P t) (2 ^ 32) h s b

-- a waiting request of t waits
pub of_waits : (P : History) (t r : ℕ) → waits_for P t r ≡ true → is_waiting P r ≡ true
unfolding is_waiting waits_for
of_waits P t r h =
    let x = is_of_asked t (request_at P r) (and_parts _ _ h).0 in
    and_from _ _ (asked_submitted P r x.0 x.1) (and_parts _ _ h).1

pub choice_head : (C : Config) (P : History) (m i t : ℕ) (k : HeadKeys) → IsChoiceAt C P m i t k → keys_at C P m t ≡ Some k
choice_head C P m i t k (inl x) = x.has
choice_head C P m i t k (inr x) = x.1.has

-- the request of a fitting Take is the head of its tenant
pub record TakesHead (C : Config) (P : History) (r : ℕ) : Type 0 where
  pub what : Request
  pub was_asked : request_at P r ≡ Some what
  pub heads_it : Heads P what.tenant r
  pub is_head : head P what.tenant ≡ Some r

pub take_head : (C : Config) (P : History) (m i r c : ℕ) → FitsTake C P m i r c → TakesHead C P r
unfolding waits_for
take_head C P m i r c f =
    let c = f.chosen in
    let h = keys_head C P m c.tenant c.keys (choice_head C P m i c.tenant c.keys c.choice) in
    let is : head P c.tenant ≡ Some r = rw (← c.request_is) at h.1 in
    let x : Heads P c.tenant r = heads P c.tenant r is in
    let o = is_of_asked c.tenant (request_at P r) (and_parts _ _ x.waits_now).0 in
    record { what = o.0; was_asked = o.1; heads_it = rw o.2 x; is_head = rw o.2 is }

-- the request of a fitting Take waits
pub take_waits : (C : Config) (P : History) (m i r c : ℕ) → FitsTake C P m i r c → is_waiting P r ≡ true
take_waits C P m i r c f = let x = take_head C P m i r c f in of_waits P x.what.tenant r x.heads_it.waits_now
