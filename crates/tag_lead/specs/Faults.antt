-- Why entries have no lead.
use Rattle.std.specs.Prelude.{ℕ, ◌≡◌, ◌≢◌, List, Some}
use Rattle.fq_model.specs.declared.config.Config.{Config}
use Rattle.fq_model.specs.declared.event.Entry.{Entry}
use Rattle.program_model.specs.declared.verdict.Verdict.TheVariants.{Legal}
use Rattle.program_model.specs.Verdicts.{IsVerdict}
use Rattle.tag_difference.specs.Pairs.{tenant_fault}
use Rattle.tag_lead.specs.declared.fault.LeadFault.{LeadFault}
use Rattle.tag_lead.specs.declared.fault.LeadFault.TheVariants.{NotLegal, NoMemory}
use Rattle.tag_lead.specs.declared.fault.PairFault.{PairFault}
use Rattle.tag_lead.specs.declared.fault.PairFault.TheVariants.{Tenants, Entries}

-- the entries are not legal, and this is the verdict on them; or there was no memory
abbrev pub IsLeadFault : Config → List Entry → LeadFault → Type 0
IsLeadFault C entries (NotLegal verdict) = (verdict ≢ Legal) × IsVerdict C entries verdict
IsLeadFault C entries NoMemory = Unit {0}

-- the two tenants have this fault in any entries; or the entries have this one
abbrev pub IsPairFault : Config → List Entry → ℕ → ℕ → PairFault → Type 0
IsPairFault C entries f g (Tenants fault) = tenant_fault C f g ≡ Some fault
IsPairFault C entries f g (Entries fault) = IsLeadFault C entries fault
