use Rattle.std.proofs.Common.{◌+◌, ◌/◌, ap₂}
use Rattle.vt_fixed.specs.Rounding.{part_of}
use Rattle.tag_lead.proofs.greatest.most_lead.Goals as goal

pub returns-clause-value : goal.returns-clause-value
unfolding part_of
returns-clause-value c = ap₂ (λ whole part. whole + part / c.args.workers) c.times.ensures.value c.times-2.ensures.value
