-- The view of accounts in contracts, the accounts after each call, and the accounts of a history.
use Rattle.std.specs.Prelude.{ℕ, ◌<◌, ◌≡◌, List, length, replicate, slice_index_or, slice_set, All, ℤ, pos, ◌+ℤ◌, ◌-ℤ◌, ◌≤ℤ◌}
use Rattle.std.specs.Int.{int_max}
use Rattle.fq_model.specs.declared.limits.TheConstants.{GREATEST_VIRTUAL_CHARGE, GREATEST_VIRTUAL_TIME}
use Rattle.fq_model.specs.declared.config.Config.{Config}
use Rattle.fq_model.specs.History.{History}
use Rattle.fq_model.specs.Charge.{virtual_charge}
use Rattle.fq_model.specs.Pace.{tag_base}

-- by tenant: the virtual charges, and the bases of the tags
pub record AccountsView : Type 0 where
  pub charges : List ℤ
  pub bases : List ℤ

abbrev pub at_first : ℕ → AccountsView
at_first tenants = record { charges = replicate tenants (pos 0); bases = replicate tenants (pos 0) }

abbrev pub charge_of : AccountsView → ℕ → ℤ
charge_of a tenant = slice_index_or a.charges tenant (pos 0)

abbrev pub base_of : AccountsView → ℕ → ℤ
base_of a tenant = slice_index_or a.bases tenant (pos 0)

-- the tag of the tenant is v at least: its base is the greater of its old base and v less the charge
abbrev pub raised : AccountsView → ℕ → ℤ → AccountsView
raised a tenant v = record {
  charges = a.charges;
  bases = slice_set a.bases tenant (int_max (base_of a tenant) (v -ℤ charge_of a tenant));
}

-- the virtual charge of the tenant has moved by `delta`
abbrev pub charged : AccountsView → ℕ → ℤ → AccountsView
charged a tenant delta = record { charges = slice_set a.charges tenant (charge_of a tenant +ℤ delta); bases = a.bases }

-- ---- the invariant of accounts

abbrev pub IsCharge : ℤ → Type 0
IsCharge charge = (pos 0 ≤ℤ charge) × (charge ≤ℤ GREATEST_VIRTUAL_CHARGE)

abbrev pub IsBase : ℤ → Type 0
IsBase base = (pos 0 ≤ℤ base) × (base ≤ℤ GREATEST_VIRTUAL_TIME)

-- a charge and a base a tenant, each in its limits
pub record IsSound (a : AccountsView) : Type 0 where
  pub paired : length a.bases ≡ length a.charges
  pub charges_in_range : All IsCharge a.charges
  pub bases_in_range : All IsBase a.bases

-- ---- the accounts of a history

-- each charge is a virtual charge, and each base the base of a tag
pub record AccountsAre (C : Config) (P : History) (a : AccountsView) : Type 0 where
  pub charges_sized : length a.charges ≡ length C.weights
  pub bases_sized : length a.bases ≡ length C.weights
  pub charges_are : (t : ℕ) → t < length C.weights → charge_of a t ≡ pos (virtual_charge C P t)
  pub bases_are : (t : ℕ) → t < length C.weights → base_of a t ≡ pos (tag_base C P t)
