-- Strays: requests that are not as declared.
use Rattle.std.specs.Prelude.{ℕ, min, nat_lt, ◌<◌, ◌==◌, if◌then◌else◌, List, Option, Some, None, slice_index_or}
use Rattle.fq_model.specs.declared.event.Act.{Act}
use Rattle.fq_model.specs.declared.event.Act.TheVariants.{Report, Done}
use Rattle.tag_gap.specs.declared.asked.Asked.{Asked}

-- the request that the act reports or ends is one of the first n
abbrev pub IsKnown : Act → ℕ → Type 0
IsKnown (Report worker request used) n = request < n
IsKnown (Done worker request cost) n = request < n
IsKnown _ n = Unit {0}

-- the declared cost of a request
abbrev pub declared_of : List Asked → ℕ → ℕ
declared_of asked r = (slice_index_or asked r (record { tenant = 0; declared = 0 })).declared

-- the request that the act shows not to be as declared, if it does: it used more, or cost another
abbrev pub stray : List Asked → Act → Option ℕ
stray asked (Report worker request used) = if nat_lt (declared_of asked request) used then Some request else None
stray asked (Done worker request cost) = if cost == declared_of asked request then None else Some request
stray asked _ = None

-- the lesser of the numbers that are there
abbrev pub lesser : Option ℕ → Option ℕ → Option ℕ
lesser None b = b
lesser (Some x) None = Some x
lesser (Some x) (Some y) = Some (min x y)
