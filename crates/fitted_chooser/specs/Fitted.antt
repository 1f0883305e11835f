-- Which of two choosers there is, and its view in contracts.
use Rattle.std.specs.Prelude.{nat_le, Bool, true, false, length}
use Rattle.fq_model.specs.declared.config.Config.{Config}
use Rattle.tag_rules.specs.Tables.{ChooserView}
use Rattle.fitted_chooser.specs.declared.bounds.TheConstants.{FEW_TENANTS}
use Rattle.fitted_chooser.specs.declared.chooser.FittedChooser.{FittedChooser}
use Rattle.fitted_chooser.specs.declared.chooser.FittedChooser.TheVariants.{ForFew, ForMany}

-- a configuration has few tenants
abbrev pub are_few : Config → Bool
are_few C = nat_le (length C.weights) FEW_TENANTS

-- it is the chooser for few
abbrev pub is_for_few : {F M : Type 0} → FittedChooser F M → Bool
is_for_few (ForFew inner) = true
is_for_few (ForMany inner) = false

-- the view of the chooser that there is
abbrev pub seen_of : {F M : Type 0} → (F → ChooserView) → (M → ChooserView) → FittedChooser F M → ChooserView
seen_of few many (ForFew inner) = few inner
seen_of few many (ForMany inner) = many inner
