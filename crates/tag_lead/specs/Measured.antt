-- The lengths of the requests of a history.
use Rattle.std.specs.Prelude.{ℕ, ◌≡◌, ◌≤◌}
use Rattle.fq_model.specs.declared.config.Config.{Config}
use Rattle.fq_model.specs.Ever.{longest_of_all}
use Rattle.fq_model.specs.History.{History}
use Rattle.fq_model.specs.Rules.{IsLegal}
use Rattle.tag_lead.specs.declared.limits.TheConstants.{GREATEST_LENGTH}
use Rattle.tag_lead.specs.declared.measuring.Measured.{Measured}
use Rattle.tag_lead.specs.Spans.{LongestAre, ShortestAre}

-- H is legal; these are the greatest lengths of the requests of f in it and the least lengths of the requests of g,
-- with numbers below n, and the greatest length of any request
pub record IsMeasured (C : Config) (H : History) (f g n : ℕ) (measured : Measured) : Type 0 where
  pub legal : IsLegal C H
  pub longest : LongestAre C H f n measured.spans.longest.items
  pub shortest : ShortestAre C H g n measured.spans.shortest.items
  pub longest_is : measured.longest ≡ longest_of_all C H
  pub longest_low : measured.longest ≤ GREATEST_LENGTH
