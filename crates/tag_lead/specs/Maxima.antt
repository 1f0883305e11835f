-- The greatest leads of one tenant over another, and the greatest numbers that bound them.
use Rattle.std.specs.Prelude.{ℕ, ℤ, ◌+◌, ◌*◌, ◌≤◌, ◌≡◌, max, Bool, not, ◌&&◌, ◌||◌, if◌then◌else◌}
use Rattle.std.specs.Prelude.{Option, Some, None, is_some, option_map, pos, ◌+ℤ◌}
use Rattle.fq_model.specs.declared.config.Config.{Config}
use Rattle.fq_model.specs.declared.config.Policy.{Policy}
use Rattle.fq_model.specs.Charge.{greatest}
use Rattle.fq_model.specs.History.{History}
use Rattle.fq_model.specs.Gap.{greatest_of, lengths_in_bound}
use Rattle.fq_model.specs.Lead.{first_leads, take_lengths, take_doubts}
use Rattle.tag_difference.specs.declared.gap.Gap.{Gap}
use Rattle.tag_difference.specs.Found.{nothing, at_least, with_difference, FoundIn}
use Rattle.tag_lead.specs.declared.limits.TheConstants.{GREATEST_LENGTH, GREATEST_DOUBT}
use Rattle.tag_lead.specs.declared.maxima.Leads.{Leads}

-- no prefix yet
abbrev pub no_leads : Leads
no_leads = record { starts = nothing; first = None; longest = 0; doubt = 0 }

-- whether the doubt after one prefix more counts: where both begin to wait, and after a Take that counts
abbrev pub asks_doubt : Leads → Option ℤ → Option ℕ → Bool
asks_doubt leads difference taken = is_some taken || (is_some difference && not leads.starts.shared)

-- the greatest lead with which both begin to wait, with one prefix more
abbrev pub first_with : Leads → Option ℤ → ℕ → Option ℤ
first_with leads None doubt = leads.first
first_with leads (Some d) doubt =
    if leads.starts.shared then leads.first else Some (at_least (d +ℤ pos doubt) leads.first)

-- the greatest length with that of a Take, if there is one
abbrev pub longest_with : ℕ → Option ℕ → ℕ
longest_with longest None = longest
longest_with longest (Some length) = max longest length

-- the greatest doubt with that after a Take, if there is one
abbrev pub doubt_with : ℕ → Option ℕ → ℕ → ℕ
doubt_with greatest None doubt = greatest
doubt_with greatest (Some length) doubt = max greatest doubt

-- all of these with one entry more
abbrev pub leads_with : Leads → Option ℤ → Option ℕ → ℕ → Leads
leads_with leads difference taken doubt = record {
  starts = with_difference leads.starts difference;
  first = first_with leads difference doubt;
  longest = longest_with leads.longest taken;
  doubt = doubt_with leads.doubt taken doubt;
}

abbrev pub heads_in_bound : Policy → ℕ → ℕ
heads_in_bound policy longest = lengths_in_bound policy * longest

-- the bound of the largest difference
abbrev pub bound_from : Leads → Policy → ℤ
bound_from leads policy = at_least (pos (heads_in_bound policy leads.longest + leads.doubt)) leads.first

-- the largest difference and its bound, if some prefix is shared
abbrev pub lead_from : Leads → Policy → Option Gap
lead_from leads policy = option_map (λ x. record { largest = x; bound = bound_from leads policy }) leads.starts.largest

-- these are the greatest numbers at the prefixes of P, by the lengths of the requests in H
pub record LeadsIn (C : Config) (H P : History) (f g : ℕ) (leads : Leads) : Type 0 where
  pub starts_in : FoundIn C P f g leads.starts
  pub first_is : leads.first ≡ greatest_of (first_leads C H P f g)
  pub longest_is : leads.longest ≡ greatest (take_lengths C P f g)
  pub doubt_is : leads.doubt ≡ greatest (take_doubts C H P f g)
  pub longest_low : leads.longest ≤ GREATEST_LENGTH
  pub doubt_low : leads.doubt ≤ GREATEST_DOUBT
