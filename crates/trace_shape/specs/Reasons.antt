-- Why a trace is not shaped.
use Rattle.std.specs.Prelude.{ℕ, ◌≡◌, List, None, Some}
use Rattle.program_model.specs.Conforms.{IsLeastConforming, too_big, too_late}
use Rattle.program_model.specs.Trace.{Trace}
use Rattle.trace_shape.specs.declared.fault.ShapeFault.{ShapeFault}
use Rattle.trace_shape.specs.declared.fault.ShapeFault.TheVariants.{TooBig, TooLate, NoMemory}

-- no row is too big; of the least moments that conform, that of row r is the first that is too late
pub record IsFirstLate (T : Trace) (rate burst r : ℕ) : Type 0 where
  pub none_big : too_big T burst ≡ None
  pub moments : List ℕ
  pub least : IsLeastConforming T rate burst moments
  pub late : too_late moments ≡ Some r

-- the fault is the reason; want of memory comes only where no row is too big
abbrev pub IsReason : Trace → ℕ → ℕ → ShapeFault → Type 0
IsReason T rate burst (TooBig r) = too_big T burst ≡ Some r
IsReason T rate burst (TooLate r) = IsFirstLate T rate burst r
IsReason T rate burst NoMemory = too_big T burst ≡ None
