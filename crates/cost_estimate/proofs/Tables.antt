-- Tables by the places of tenants and kinds, after one more completed request.
use Rattle.std.proofs.Common.{ℕ, zero, suc, ◌+◌, ◌*◌, ◌<◌, ◌≡◌, ◌≢◌, ◌⊎◌, max, List, [], ◌∷◌, length, take, get_or, slice_set, slice_index, slice_index_or, arith, refl, sym, ap, ◌∙◌, inl, inr, get_or-set_same, get_or-set_other}
use Rattle.std.proofs.lemmas.Bool.{cases_eq}
use Rattle.std.proofs.lemmas.Nat.{same_from_place, mul-add-lt}
use Rattle.circular_buffer.specs.Buffer.{Buffer, buffer}
use Rattle.vt_fixed.specs.Rounding.{decay_of}
use Rattle.fq_model.specs.Charge.{Completed, completed_costs}
use Rattle.fq_laws.specs.Changes.{greatest_cost_from}
use Rattle.fq_laws.proofs.Charge.Estimates.{costs_own, costs_other_tenant, costs_other_kind, greatest_next}
use Rattle.cost_estimate.specs.Tables.{HasGreatest, HasRecent}

-- ---- places

-- a fact of each pair, after a write at the place of one
written : {X : Type 0} (Old New : ℕ → ℕ → X → Type 0) (tenants kinds : ℕ) (table : List X) (new d : X) (tenant kind : ℕ) → length table ≡ tenants * kinds → tenant < tenants → kind < kinds → New tenant kind new → ((t k : ℕ) (x : X) → (tenant ≢ t) ⊎ (kind ≢ k) → Old t k x → New t k x) → ((t k : ℕ) → t < tenants → k < kinds → Old t k (get_or table (t * kinds + k) d)) → (t k : ℕ) → t < tenants → k < kinds → New t k (get_or (slice_set table (tenant * kinds + kind) new) (t * kinds + k) d)
written Old New tenants kinds table new d tenant kind sized tenant_in kind_in own others had = λ t k t_in k_in.
    elim (cases_eq tenant t) [
      | inl same_t ↦ elim (cases_eq kind k) [
        | inl same_k ↦ rw (← same_t, ← same_k, get_or-set_same table (tenant * kinds + kind) new d within) own
        | inr other ↦ rw (get_or-set_other table (tenant * kinds + kind) (t * kinds + k) new d (λ e. other (sym (same_from_place t k tenant kind kinds k_in kind_in e).1))) (others t k _ (inr other) (had t k t_in k_in))
      ]
      | inr other ↦ rw (get_or-set_other table (tenant * kinds + kind) (t * kinds + k) new d (λ e. other (sym (same_from_place t k tenant kind kinds k_in kind_in e).0))) (others t k _ (inl other) (had t k t_in k_in))
    ]
  where
    within : tenant * kinds + kind < length table
    within = omega (arith, mul-add-lt tenant kinds kind tenants tenant_in kind_in)

-- the costs of another tenant or kind stay
other_costs : (cs : List Completed) (tenant kind cost t k : ℕ) → (tenant ≢ t) ⊎ (kind ≢ k) → completed_costs (record { tenant = tenant; kind = kind; cost = cost } ∷ cs) t k ≡ completed_costs cs t k
other_costs cs tenant kind cost t k (inl other) = costs_other_tenant cs t k tenant kind cost other
other_costs cs tenant kind cost t k (inr other) = costs_other_kind cs t k tenant kind cost other

-- ---- the greatest costs

pub greatest_learned : (tenants kinds initial : ℕ) (table : List ℕ) (cs : List Completed) (tenant kind cost new : ℕ) → length table ≡ tenants * kinds → tenant < tenants → kind < kinds → new ≡ max (decay_of (slice_index table (tenant * kinds + kind))) cost → HasGreatest tenants kinds initial table cs → HasGreatest tenants kinds initial (slice_set table (tenant * kinds + kind) new) (record { tenant = tenant; kind = kind; cost = cost } ∷ cs)
greatest_learned tenants kinds initial table cs tenant kind cost new sized tenant_in kind_in is had =
    written (λ t k x. x ≡ greatest_cost_from initial (completed_costs cs t k))
    (λ t k x. x ≡ greatest_cost_from initial (completed_costs (record { tenant = tenant; kind = kind; cost = cost } ∷ cs) t k))
    tenants kinds table new 0 tenant kind sized tenant_in kind_in
    own
    (λ t k x other was. was ∙ ap (greatest_cost_from initial) (sym (other_costs cs tenant kind cost t k other)))
    had
  where
    own : new ≡ greatest_cost_from initial (completed_costs (record { tenant = tenant; kind = kind; cost = cost } ∷ cs) tenant kind)
    own = rw (costs_own cs tenant kind cost, greatest_next initial cost (completed_costs cs tenant kind), ← had tenant kind tenant_in kind_in) (omega (arith, is))

-- ---- the last costs

taken_more : {X : Type 0} (n : ℕ) (xs : List X) → take n (take (suc n) xs) ≡ take n xs
taken_more zero [] = refl
taken_more zero (x ∷ xs) = refl
taken_more (suc n) [] = refl
taken_more (suc n) (x ∷ xs) = ap (λ l. x ∷ l) (taken_more n xs)

pub recent_learned : (tenants kinds : ℕ) (rings : List (Buffer ℕ)) (cs : List Completed) (tenant kind cost : ℕ) (old new : Buffer ℕ) → length rings ≡ tenants * kinds → tenant < tenants → kind < kinds → old ≡ slice_index_or rings (tenant * kinds + kind) (buffer [] 8) → new.items ≡ take 8 (cost ∷ old.items) → HasRecent tenants kinds rings cs → HasRecent tenants kinds (slice_set rings (tenant * kinds + kind) new) (record { tenant = tenant; kind = kind; cost = cost } ∷ cs)
recent_learned tenants kinds rings cs tenant kind cost old new sized tenant_in kind_in was is had =
    written (λ t k (x : Buffer ℕ). x.items ≡ take 8 (completed_costs cs t k))
    (λ t k (x : Buffer ℕ). x.items ≡ take 8 (completed_costs (record { tenant = tenant; kind = kind; cost = cost } ∷ cs) t k))
    tenants kinds rings new (buffer [] 8) tenant kind sized tenant_in kind_in
    own
    (λ t k x other same. same ∙ ap (take 8) (sym (other_costs cs tenant kind cost t k other)))
    had
  where
    held : old.items ≡ take 8 (completed_costs cs tenant kind)
    held = ap (λ (b : Buffer ℕ). b.items) was ∙ had tenant kind tenant_in kind_in

    own : new.items ≡ take 8 (completed_costs (record { tenant = tenant; kind = kind; cost = cost } ∷ cs) tenant kind)
    own = rw (costs_own cs tenant kind cost) (is ∙ (ap (λ l. take 8 (cost ∷ l)) held ∙ ap (λ l. cost ∷ l) (taken_more 7 (completed_costs cs tenant kind))))
