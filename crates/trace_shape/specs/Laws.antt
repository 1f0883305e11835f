-- Consequences of moments that conform.
use Rattle.std.specs.Prelude.{ℕ, ◌≤◌, ◌≡◌, List, None, Some}
use Rattle.program_model.specs.Conforms.{Conforms, IsLeastConforming, too_big}
use Rattle.program_model.specs.Trace.{Trace}
use Rattle.program_model.specs.TraceText.{IsLawfulTrace}
use Rattle.program_model.specs.Shaped.{IsShaped}

-- where a row is too big no moments conform
abbrev pub NoneConformsToTooBig : Type 0
NoneConformsToTooBig = (T : Trace) (rate burst r : ℕ) (moments : List ℕ) →
    too_big T burst ≡ Some r → ¬ Conforms T rate burst moments

-- where no row is too big there are least moments
abbrev pub LeastIsThere : Type 0
LeastIsThere = (T : Trace) (rate burst : ℕ) → IsLawfulTrace T → 1 ≤ rate →
    too_big T burst ≡ None → (moments : List ℕ) × IsLeastConforming T rate burst moments

-- there are no two lists of least moments
abbrev pub LeastIsOne : Type 0
LeastIsOne = (T : Trace) (rate burst : ℕ) (some others : List ℕ) →
    IsLeastConforming T rate burst some → IsLeastConforming T rate burst others → some ≡ others

-- a shaped trace stays as it is where it is shaped again with the same numbers
abbrev pub ShapedStays : Type 0
ShapedStays = (T S : Trace) (rate burst : ℕ) → IsShaped T rate burst S → IsShaped S rate burst S
