-- The two passes of a choice: which heads go in them, and in which order.
use Rattle.std.specs.Prelude.{ℕ}
use Rattle.fq_model.specs.Keys.{HeadKeys, Turn, IsEligible, FinishBefore, EligibleBefore, Every, IsFirst}
use Rattle.tag_rules.specs.declared.pass.Pass.{Pass}
use Rattle.tag_rules.specs.declared.pass.Pass.TheVariants.{Eligible, Fallback}
use Rattle.tag_rules.specs.declared.scan.Found.{Found}
use Rattle.tag_rules.specs.Tables.{Table, Has}

abbrev pub GoesIn : Pass → Turn → HeadKeys → Type 0
GoesIn Eligible at = IsEligible at
GoesIn Fallback at = Every

abbrev pub BeforeIn : Pass → Turn → HeadKeys → HeadKeys → Type 0
BeforeIn Eligible at = FinishBefore
BeforeIn Fallback at = EligibleBefore at

-- of the tenants whose heads go in the pass, this one has the first by it
abbrev pub IsFirstIn : Pass → Turn → Table → Found → Type 0
IsFirstIn pass at table found = IsFirst (GoesIn pass at) (BeforeIn pass at) (Has table) found.tenant found.keys

-- no tenant's head goes in the pass
abbrev pub NoneGoesIn : Pass → Turn → Table → Type 0
NoneGoesIn pass at table = (t : ℕ) (k : HeadKeys) → Has table t k → ¬ GoesIn pass at k
