-- The numbers that give the longest length of a tenant's requests.
use Rattle.std.specs.Prelude.{ℕ, max, min, ◌==◌, if◌then◌else◌}
use Rattle.fq_model.specs.declared.event.Act.{Act}
use Rattle.fq_model.specs.declared.event.Act.TheVariants.{Submit, Weight}
use Rattle.tag_gap.specs.declared.lengths.Extremes.{Extremes}

-- the greatest declared cost and the least weight of a tenant, with one act more
abbrev pub extremes_with : Extremes → Act → ℕ → Extremes
extremes_with x (Submit request tenant kind declared label) t =
    if tenant == t then record x { cost = max x.cost declared } else x
extremes_with x (Weight tenant weight) t = if tenant == t then record x { weight = min x.weight weight } else x
extremes_with x _ t = x
