-- Tables of the tests.
use Rattle.std.specs.Prelude.{ℕ, ◌≡◌}
use Rattle.fq_model.specs.Keys.{HeadKeys}
use Rattle.tag_rules.specs.Tables.{Table, Has}

-- the head of each tenant has its number
abbrev pub IsByTenant : Table → Type 0
IsByTenant table = (t : ℕ) (k : HeadKeys) → Has table t k → k.request ≡ t
