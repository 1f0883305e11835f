use Rattle.std.proofs.Common.{ℕ, suc, ◌<◌, ◌≡◌, List, [], length, arith, ap, subst, sym, ◌∙◌}
use Rattle.fq_model.specs.declared.config.Config.{Config}
use Rattle.fq_model.specs.declared.fluid.FluidRow.{FluidRow}
use Rattle.fq_model.specs.Fluid.{fluid, fluid_table}
use Rattle.fq_model.specs.History.{History}
use Rattle.fq_model.specs.Sums.{list_below}
use Rattle.fluid_reference.specs.Slots.{slot_at}
use Rattle.fq_laws.proofs.Lists.{list_at, list_length}
use Rattle.text_tests.proofs.slot_tests.expect_served.Goals as goal

-- each slot of a table tells of each tenant
of_each : (C : Config) (rows : List FluidRow) (H : History) (Q n k : ℕ) (table : List (List ℕ)) → table ≡ fluid_table C rows H Q n → k < length table → length (slot_at table k) ≡ length C.weights
of_each C rows H Q n k table is here =
    let row : ℕ → List ℕ = λ j. list_below (λ t. fluid C rows H Q t (suc j)) (length C.weights) in
    let inside : k < n = omega (arith, here, ap length is, list_length row n) in
    ap length (ap (λ xs. slot_at xs k) is ∙ list_at row n k [] inside) ∙ list_length (λ t. fluid C rows H Q t (suc k)) (length C.weights)

pub expect_services-requires-clause-known : goal.expect_services-requires-clause-known
expect_services-requires-clause-known g c k l =
    let both : length c.two_tenants-config.result.weights ≡ 2 = ap (λ (C : Config). length C.weights) c.two_tenants-config.ensures in
    omega (arith, c.loop-tenant-test.true, of_each _ _ _ _ _ k c.in-Ok.told c.in-Ok.ensures.table l, both)
