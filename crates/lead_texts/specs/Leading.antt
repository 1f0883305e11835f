-- The two tenants of a lead, and its line.
use Rattle.std.specs.Prelude.{ℕ, ◌<◌, ◌≡◌, ◌≢◌, List, length, Option, Some, None}
use Rattle.fq_model.specs.Names.{number_among}
use Rattle.program_model.specs.Journal.{Journal}
use Rattle.program_model.specs.LeadCommand.{lead_text}
use Rattle.tag_difference.specs.Pairs.{told}
use Rattle.tag_lead.specs.declared.leads.Lead.{Lead}

-- two tenants of the journal have these names and numbers
pub record ArePair (of over : List ℕ) (journal : Journal) (f g : ℕ) : Type 0 where
  pub of_is : number_among journal.tenants of ≡ Some f
  pub over_is : number_among journal.tenants over ≡ Some g
  pub f_known : f < length journal.weights
  pub g_known : g < length journal.weights
  pub apart : f ≢ g

-- this is the line of the lead, or that of two who never waited together
abbrev pub IsLineOf : (of over : List ℕ) → Option Lead → List ℕ → Type 0
IsLineOf of over None text = text ≡ lead_text of over None None
IsLineOf of over (Some lead) text = text ≡ lead_text of over lead.ever (Some (told lead.gap))
