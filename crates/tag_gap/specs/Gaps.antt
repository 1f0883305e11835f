-- Why two tenants have no gap in a history.
use Rattle.std.specs.Prelude.{ℕ, [], ◌∷◌, ◌++◌, Option, is_some, unwrap_or}
use Rattle.fq_model.specs.declared.config.Config.{Config}
use Rattle.fq_model.specs.Rows.{first_true}
use Rattle.fq_model.specs.History.{History}
use Rattle.fq_model.specs.Gap.{not_declared}
use Rattle.tag_difference.specs.Pairs.{tenant_faults}
use Rattle.tag_difference.specs.declared.fault.GapFault.{GapFault}
use Rattle.tag_difference.specs.declared.fault.GapFault.TheVariants.{NotDeclared}

-- why these two tenants have no gap in this history (the request is read only where there is one)
abbrev pub gap_fault : Config → History → ℕ → ℕ → Option GapFault
gap_fault C H f g =
    first_true
    (tenant_faults C f g ++ (is_some (not_declared C H), NotDeclared (unwrap_or (not_declared C H) 0)) ∷ [])
