-- The fluid service is at most the costs of the requests that came.
use Rattle.std.proofs.Common.{ℕ, zero, suc, ◌*◌, ◌≤◌, List, arith}
use Rattle.std.proofs.lemmas.List.Sums.{sum_by-le-sum_by}
use Rattle.std.proofs.Math.Nat.{add-mul}
use Rattle.std.proofs.lemmas.Bool.Decides.{nat_tests}
use Rattle.fq_model.specs.declared.config.Config.{Config}
use Rattle.fq_model.specs.declared.fluid.FluidRow.{FluidRow}
use Rattle.fq_model.specs.declared.level.Backlog.{Backlog}
use Rattle.fq_model.specs.declared.level.Level.{Level}
use Rattle.fq_model.specs.declared.level.Level.TheVariants as levels
use Rattle.fq_model.specs.History.{History}
use Rattle.fq_model.specs.Level.{gift}
use Rattle.fq_model.specs.Fluid.{fluid, cost_by, costs_by, slot_level, backlog_at}

pub gift_low : (l : Level) (b : Backlog) → gift l b ≤ b.units
gift_low levels.All b = omega arith
gift_low (levels.At x) b = omega arith

cost_more : (m n t : ℕ) (row : FluidRow) → m ≤ n → cost_by m t row ≤ cost_by n t row
cost_more m n t row h = grind (arith, nat_tests)

pub costs_more : (rows : List FluidRow) (m n t : ℕ) → m ≤ n → costs_by rows m t ≤ costs_by rows n t
costs_more rows m n t h = sum_by-le-sum_by (cost_by m t) (cost_by n t) rows (λ row. cost_more m n t row h)

-- the fluid service in the first slots is at most the costs of the requests that came by the start of the last of them
pub within : (C : Config) (rows : List FluidRow) (H : History) (Q t k : ℕ) → fluid C rows H Q t (suc k) ≤ costs_by rows (k * Q) t
unfolding fluid
within C rows H Q t zero = omega (arith, gift_low (slot_level C rows H Q (0 * Q) (λ u. fluid C rows H Q u 0)) (backlog_at C rows H (0 * Q) (λ u. fluid C rows H Q u 0) t))
within C rows H Q t (suc k) =
    let before : fluid C rows H Q t (suc k) ≤ costs_by rows (k * Q) t = within C rows H Q t k in
    let more : costs_by rows (k * Q) t ≤ costs_by rows (suc k * Q) t = costs_more rows (k * Q) (suc k * Q) t (omega (arith, add-mul 1 k Q)) in
    omega (arith, before, more, gift_low (slot_level C rows H Q (suc k * Q) (λ u. fluid C rows H Q u (suc k))) (backlog_at C rows H (suc k * Q) (λ u. fluid C rows H Q u (suc k)) t))
