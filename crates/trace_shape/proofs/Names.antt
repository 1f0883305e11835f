-- Names and weights, one after the other.
use Rattle.std.proofs.Common.{ℕ, ◌+◌, ◌<◌, ◌≡◌, List, [], ◌∷◌, ◌++◌, length, get_or, take, None, Some, arith, ap, ap₂, sym, ◌∙◌}
use Rattle.std.specs.Prelude.{slice_get, slice_index}
use Rattle.std.proofs.lemmas.List.{get_or-take, get_or-map, length-take, length-map, take-map, take_more}
use Rattle.std.proofs.lemmas.Option.{slice_get_within, get_or_from_slice_get}
use Rattle.fq_model.specs.Names.{AreNames, number_among}
use Rattle.tenant_table.specs.Names.{names_of, weights_of}
use Rattle.trace_reader.proofs.ReadBack.{none_among}

-- a name is not among those before it
pub new_name : (limit : ℕ) (names : List (List ℕ)) (k : ℕ) (name : List ℕ) → AreNames limit names → slice_get names k ≡ Some name → number_among (take k names) name ≡ None
new_name limit names k name are is = none_among (take k names) name (λ i l same.
    let before : i < k = omega (arith, l, length-take k names) in
    are.distinct i k [] before (slice_get_within names k name is) (sym (get_or-take k names i [] before) ∙ (same ∙ sym (get_or_from_slice_get names k name [] is))))

pub new_tenant : (limit : ℕ) (tenants copy : List (List ℕ × ℕ)) (t : ℕ) (name : List ℕ) → copy ≡ take t tenants → AreNames limit (names_of tenants) → slice_get (names_of tenants) t ≡ Some name
    → number_among (names_of copy) name ≡ None
new_tenant limit tenants copy t name copied are is = rw (copied, sym (take-map (λ (x : List ℕ × ℕ). x.0) t tenants)) (new_name limit (names_of tenants) t name are is)

-- one more is copied
pub one_kind_more : (kinds copy more : List (List ℕ)) (k : ℕ) (name : List ℕ) → copy ≡ take k kinds → slice_get kinds k ≡ Some name → more ≡ copy ++ name ∷ [] → more ≡ take (k + 1) kinds
one_kind_more kinds copy more k name copied is added =
    added ∙ ap (λ xs. xs ++ name ∷ []) copied ∙ sym (take_more kinds k [] (slice_get_within kinds k name is) ∙ ap (λ x. take k kinds ++ x ∷ []) (get_or_from_slice_get kinds k name [] is))

pub one_tenant_more : (tenants copy more : List (List ℕ × ℕ)) (t : ℕ) (name : List ℕ) (weight : ℕ) → copy ≡ take t tenants → slice_get (names_of tenants) t ≡ Some name → weight ≡ slice_index (weights_of tenants) t
    → more ≡ copy ++ (name, weight) ∷ [] → more ≡ take (t + 1) tenants
one_tenant_more tenants copy more t name weight copied is weight_is added =
    let within : t < length tenants = omega (arith, slice_get_within (names_of tenants) t name is, length-map tenants (λ (x : List ℕ × ℕ). x.0)) in
    let name_is : (get_or tenants t ([], 0)).0 ≡ name = sym (get_or-map (λ (x : List ℕ × ℕ). x.0) tenants t ([], 0) [] within) ∙ get_or_from_slice_get (names_of tenants) t name [] is in
    let heavy : (get_or tenants t ([], 0)).1 ≡ weight = sym (get_or-map (λ (x : List ℕ × ℕ). x.1) tenants t ([], 0) 0 within) ∙ sym weight_is in
    let here : get_or tenants t ([], 0) ≡ (name, weight) = ap₂ (λ a b. (a, b)) name_is heavy in
    added ∙ ap (λ xs. xs ++ (name, weight) ∷ []) copied ∙ sym (take_more tenants t ([], 0) within ∙ ap (λ x. take t tenants ++ x ∷ []) here)
