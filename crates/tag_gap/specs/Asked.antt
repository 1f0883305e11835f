-- The tenants and the declared costs of requests.
use Rattle.std.specs.Prelude.{ℕ, ◌≡◌, List, Option, Some, None, slice_get, option_map}
use Rattle.fq_model.specs.declared.event.Act.{Act}
use Rattle.fq_model.specs.declared.event.Act.TheVariants.{Submit}
use Rattle.fq_model.specs.History.{History, Request, request_at}
use Rattle.tag_gap.specs.declared.asked.Asked.{Asked}

-- the tenant and the declared cost of the request that the act submits, if it does
abbrev pub submitted : Act → Option Asked
submitted (Submit request tenant kind declared label) = Some (record { tenant = tenant; declared = declared })
submitted _ = None

-- the kept part of a request
abbrev pub asked_of : Request → Asked
asked_of q = record { tenant = q.tenant; declared = q.declared }

-- at each place are the tenant and the declared cost of the request of this number, and nothing where there is none
abbrev pub AreAsked : History → List Asked → Type 0
AreAsked H asked = (r : ℕ) → slice_get asked r ≡ option_map asked_of (request_at H r)
