-- Traces that are made of random numbers: each request takes three of them.
use Rattle.std.specs.Prelude.{ℕ, zero, suc, ◌+◌, ◌*◌, ◌/◌, ◌%◌, ◌==◌, if◌then◌else◌, List, [], ◌++◌, map, codes}
use Rattle.std.specs.Fmt.{decimal}
use Rattle.std.specs.List.{range_with_len}
use Rattle.rand_core.specs.Pcg32Seed.{pcg32_seed}
use Rattle.rand_pcg.specs.Lcg.{Lcg}
use Rattle.rand_pcg.specs.Pcg.{pcg32, pcg32_of_seed}
use Rattle.program_model.specs.Trace.{Trace, last_row_moment, with_row, with_some_kind}

-- Random numbers.

-- the generator of random numbers of a seed, after this number of draws
unfoldable pub after_draws : ℕ → ℕ → Lcg
after_draws seed zero = pcg32_of_seed (pcg32_seed 16 seed)
after_draws seed (suc k) = (pcg32 (after_draws seed k)).1

-- random number k of a seed, where the first is number 0
unfoldable pub draw : ℕ → ℕ → ℕ
draw seed k = (pcg32 (after_draws seed k)).0

-- Tenants.

-- `t` and the tenant's number
abbrev pub generated_name : ℕ → List ℕ
generated_name i = codes "t" ++ decimal i

-- 1 to 4, in turn
abbrev pub generated_weight : ℕ → ℕ
generated_weight i = 1 + i % 4

-- the tenants alone
abbrev pub generated_tenants : ℕ → Trace
generated_tenants tenants = record {
  tenants = map generated_name (range_with_len 0 tenants);
  weights = map generated_weight (range_with_len 0 tenants);
  kinds = [];
  rows = [];
}

-- Requests. Each tenant is of one of four classes, by its number: two get, one sends a mix, one scans.

-- the name of the kind that a tenant's requests have
abbrev pub generated_kind : ℕ → List ℕ
generated_kind i =
    if i % 4 == 2 then codes "mix"
    else if i % 4 == 3 then codes "scan"
    else codes "get"

-- the declared cost of a tenant's requests
abbrev pub generated_declared : ℕ → ℕ
generated_declared i =
    if i % 4 == 2 then 1000
    else if i % 4 == 3 then 50000
    else 500

-- the cost of a mixed request, one of ten a large one
abbrev pub mixed_cost : ℕ → ℕ
mixed_cost c = if c % 10 == 0 then 20000 + c / 10 % 30000 else 200 + c % 1800

-- the cost of a request of tenant i, by a random number
abbrev pub generated_cost : ℕ → ℕ → ℕ
generated_cost i c =
    if i % 4 == 2 then mixed_cost c
    else if i % 4 == 3 then 10000 + c % 90000
    else 100 + c % 900

-- the trace with request j: of the tenant, and after the last moment, as random numbers a, b and c say
abbrev pub with_generated : ℕ → ℕ → Trace → ℕ → ℕ → ℕ → Trace
with_generated tenants j t a b c = with_row t
    (last_row_moment t.rows + a % 200) (j % 4) (b % tenants)
    (generated_kind (b % tenants)) (generated_declared (b % tenants)) (generated_cost (b % tenants) c)

-- the tenants and this number of first requests
unfoldable pub generated_requests : ℕ → ℕ → ℕ → Trace
generated_requests seed tenants zero = generated_tenants tenants
generated_requests seed tenants (suc j) =
    with_generated tenants j (generated_requests seed tenants j)
    (draw seed (3 * j)) (draw seed (3 * j + 1)) (draw seed (3 * j + 2))

-- the trace of a seed, with these numbers of tenants and requests
unfoldable pub generated_trace : ℕ → ℕ → ℕ → Trace
generated_trace seed tenants requests = with_some_kind (generated_requests seed tenants requests)
