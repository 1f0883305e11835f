-- The difference of two heads by their keys, and the lead of one tenant over another.
use Rattle.std.specs.Prelude.{ℕ, ℤ, ◌≡◌, ◌==◌, max, if◌then◌else◌}
use Rattle.std.specs.Prelude.{Option, Some, None, option_map, IfSome, unsigned_abs, ◌-ℤ◌}
use Rattle.fq_model.specs.declared.config.Config.{Config}
use Rattle.fq_model.specs.declared.event.Act.{Act}
use Rattle.fq_model.specs.declared.event.Act.TheVariants.{Take}
use Rattle.fq_model.specs.History.{History}
use Rattle.fq_model.specs.Keys.{HeadKeys}
use Rattle.fq_model.specs.Ever.{measured_ever_bound}
use Rattle.fq_model.specs.Lead.{head_length, is_lead_take, measured_gap}
use Rattle.tag_difference.specs.Pairs.{told}
use Rattle.tag_lead.specs.declared.leads.Lead.{Lead}

-- how far the start of the first is above that of the second
abbrev pub difference_by : Option HeadKeys → Option HeadKeys → Option ℤ
difference_by (Some k) (Some l) = Some (k.start -ℤ l.start)
difference_by _ _ = None

-- the greater length of their heads, where this act after P takes a request of f while both wait
abbrev pub taken_at : Config → History → Act → ℕ → ℕ → Option ℕ
taken_at C P a f g =
    if is_lead_take P a f g then Some (max (head_length C P f) (head_length C P g)) else None

-- the greater length by the keys of their heads: a Take of a request of f takes its head
abbrev pub taken_by : Act → Option HeadKeys → Option HeadKeys → Option ℕ
taken_by (Take worker request estimate) (Some k) (Some l) =
    if request == k.request then Some (max (unsigned_abs k.len) (unsigned_abs l.len)) else None
taken_by _ _ _ = None

-- this is the lead of f over g, or none where they never wait both
pub record IsLead (C : Config) (H : History) (f g : ℕ) (lead : Option Lead) : Type 0 where
  pub gap_is : option_map (λ x. told x.gap) lead ≡ measured_gap C H f g
  pub ever_is : IfSome lead (λ x. x.ever ≡ measured_ever_bound C H)
