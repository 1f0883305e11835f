-- A choice among heads in order, foreseen.
use Rattle.std.specs.Prelude.{ℕ, ◌≡◌, ◌<◌, ◌≤◌, ◌↔◌, IsTrue, List, [], length, Option, Some, None, ℤ, pos, unsigned_abs, ◌≤ℤ◌}
use Rattle.std.specs.List.{Contains}
use Rattle.vt_fixed.specs.declared.limits.TheConstants.{GREATEST_LENGTH}
use Rattle.vt_fixed.specs.Rounding.{cost_of}
use Rattle.fq_model.specs.Keys.{Turn}
use Rattle.tag_rules.specs.Foreseen.{IsShort}
use Rattle.tag_rules.specs.declared.foresees.ForeseenChoice.{ForeseenChoice}
use Rattle.shared_order.specs.Heads.{HeadView}
use Rattle.shared_order.specs.Search.{IsReached}
use Rattle.shared_order.specs.Mirrors.{keys_of, IsChosen}

-- the tenant of the head has a weight among these
abbrev pub IsWeighed : List ℕ → HeadView → Type 0
IsWeighed weights h = h.tenant < length weights

-- the head is eligible and has an estimate below this
abbrev pub IsSought : Turn → List ℕ → ℕ → HeadView → Type 0
IsSought at weights below h = IsReached at h × IsShort weights below h.tenant (keys_of h)

-- some head among these is so
abbrev pub SomeIsSought : Turn → List HeadView → List ℕ → ℕ → Type 0
SomeIsSought at heads weights below = (h : HeadView) × (Contains heads h × IsSought at weights below h)

-- the chosen head is of this tenant; whether it is eligible, and whether a head is that has an estimate below this
pub record IsOutlookOn (at : Turn) (heads : List HeadView) (weights : List ℕ) (below : ℕ) (f : ForeseenChoice)
    : Type 0 where
  pub head : HeadView
  pub tenant_is : head.tenant ≡ f.tenant
  pub chosen : IsChosen at heads head
  pub eligible : IsTrue f.is_eligible ↔ IsReached at head
  pub smaller : IsTrue f.has_smaller ↔ SomeIsSought at heads weights below

-- the result of a look at the heads: that there is none, or the choice
abbrev pub IsOutlook : Turn → List HeadView → List ℕ → ℕ → Option ForeseenChoice → Type 0
IsOutlook at heads weights below None = heads ≡ []
IsOutlook at heads weights below (Some f) = IsOutlookOn at heads weights below f

-- no head with an estimate below this is longer, whatever its tenant's weight
pub record IsLongestBelow (below : ℕ) (longest : ℤ) : Type 0 where
  pub low : pos 0 ≤ℤ longest
  pub high : longest ≤ℤ GREATEST_LENGTH
  pub bounds : (len : ℤ) (weight : ℕ) → pos 0 ≤ℤ len → len ≤ℤ GREATEST_LENGTH → 1 ≤ weight
      → cost_of (unsigned_abs len) weight < below → len ≤ℤ longest
