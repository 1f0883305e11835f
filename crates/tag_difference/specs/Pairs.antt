-- Two tenants: how far one starts above the other, and which two have no gap.
use Rattle.std.specs.Prelude.{ℕ, ℤ, ◌==◌, nat_le, if◌then◌else◌, Bool, List, [], ◌∷◌, Option, Some, None, length}
use Rattle.fq_model.specs.declared.config.Config.{Config}
use Rattle.fq_model.specs.Rows.{first_true}
use Rattle.fq_model.specs.History.{History}
use Rattle.fq_model.specs.Gap.{TagGap, is_shared, start_difference}
use Rattle.tag_difference.specs.declared.gap.Gap.{Gap}
use Rattle.tag_difference.specs.declared.fault.GapFault.{GapFault}
use Rattle.tag_difference.specs.declared.fault.GapFault.TheVariants.{UnknownTenant, SameTenant}

-- how far the start of f is above that of g, where both wait
abbrev pub difference_at : Config → History → ℕ → ℕ → Option ℤ
difference_at C P f g = if is_shared P f g then Some (start_difference C P f g) else None

-- the gap, as definitions have it
abbrev pub told : Gap → TagGap
told gap = record { largest = gap.largest; bound = gap.bound }

-- why these two tenants have no gap in any history, as rows
abbrev pub tenant_faults : Config → ℕ → ℕ → List (Bool × GapFault)
tenant_faults C f g =
    (nat_le (length C.weights) f, UnknownTenant f)
    ∷ (nat_le (length C.weights) g, UnknownTenant g)
    ∷ (f == g, SameTenant)
    ∷ []

abbrev pub tenant_fault : Config → ℕ → ℕ → Option GapFault
tenant_fault C f g = first_true (tenant_faults C f g)
