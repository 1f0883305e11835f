-- Names of tenants and kinds, each a list of bytes, numbered from 0 in the order in which they were added.
use Rattle.std.specs.Prelude.{ℕ, ◌≡◌, nat_le, not, List, [], ◌∷◌, length, map, All, Option, Some, None, is_some, unwrap_or, Result, Ok, Err}
use Rattle.fq_model.specs.declared.limits.TheConstants.{TEXT_WEIGHT, TEXT_TENANTS, MOST_KINDS}
use Rattle.fq_model.specs.Rows.{first_true}
use Rattle.fq_model.specs.Limits.{IsTextWeight, is_outside}
use Rattle.fq_model.specs.Spelling.{is_name}
pub use Rattle.fq_model.specs.Names.{number_among, AreNames}
use Rattle.tenant_table.specs.declared.fault.NameFault.{NameFault}
use Rattle.tenant_table.specs.declared.fault.NameFault.TheVariants.{Word, Weight, Twice, TooMany, NoMemory}

-- the names of tenants, by number, from their names and weights
abbrev pub names_of : List (List ℕ × ℕ) → List (List ℕ)
names_of tenants = map (λ t. t.0) tenants

-- their weights, by number
abbrev pub weights_of : List (List ℕ × ℕ) → List ℕ
weights_of tenants = map (λ t. t.1) tenants

-- at most 4,096 names, and each weight from 1 to 1,000
pub record AreTenants (tenants : List (List ℕ × ℕ)) : Type 0 where
  pub names : AreNames TEXT_TENANTS (names_of tenants)
  pub weights : All IsTextWeight (weights_of tenants)

-- why a kind of this name is not added, if it is not (the number is read only below the row that asks for it)
abbrev pub kind_refusal : List (List ℕ) → List ℕ → Option NameFault
kind_refusal kinds name = first_true
    ((not (is_name name), Word)
    ∷ (is_some (number_among kinds name), Twice (unwrap_or (number_among kinds name) 0))
    ∷ (nat_le MOST_KINDS (length kinds), TooMany MOST_KINDS)
    ∷ [])

-- why a tenant of this name and weight is not added, if it is not
abbrev pub tenant_refusal : List (List ℕ × ℕ) → List ℕ → ℕ → Option NameFault
tenant_refusal tenants name weight = first_true
    ((not (is_name name), Word)
    ∷ (is_outside 1 TEXT_WEIGHT weight, Weight weight)
    ∷ (is_some (number_among (names_of tenants) name), Twice (unwrap_or (number_among (names_of tenants) name) 0))
    ∷ (nat_le TEXT_TENANTS (length tenants), TooMany TEXT_TENANTS)
    ∷ [])

-- the fault is the reason; want of memory comes only where there is no other
abbrev pub IsReason : NameFault → Option NameFault → Type 0
IsReason NoMemory refusal = refusal ≡ None
IsReason fault refusal = refusal ≡ Some fault

-- the answer to adding a name: its number, where nothing speaks against it, and else the reason
abbrev pub IsAnswer : Result ℕ NameFault → ℕ → Option NameFault → Type 0
IsAnswer (Ok n) number refusal = (n ≡ number) × (refusal ≡ None)
IsAnswer (Err fault) number refusal = IsReason fault refusal
