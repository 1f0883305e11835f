-- Costs, weights and workers at a slot's start give the service by its end.
use Rattle.std.proofs.Common.{ℕ, suc, ◌+◌, ◌-◌, ◌*◌, ◌<◌, ◌≤◌, ◌≡◌, List, ◌++◌, length, arith, refl, ap, ap₂, sym, ◌∙◌, subst, All, take, drop, zero, replicate, append-nil}
use Rattle.std.proofs.lemmas.List.{get_or-replicate, length-replicate, take_all}
use Rattle.std.proofs.Math.ListN.{drop_of_length-le}
use Rattle.std.proofs.Math.Nat.{add-mul, mul-le-mul_right}
use Rattle.std.proofs.lemmas.List.Sums.{sum_by-le}
use Rattle.std.proofs.lemmas.Bool.Decides.{nat_tests}
use Rattle.std.specs.List.Sorted.{IsNonDecreasingBy, IsPermutation}
use Rattle.fq_model.specs.declared.config.Config.{Config}
use Rattle.fq_model.specs.declared.fluid.FluidRow.{FluidRow}
use Rattle.fq_model.specs.declared.fluid.Change.{Change}
use Rattle.fq_model.specs.declared.level.Backlog.{Backlog}
use Rattle.fq_model.specs.Sums.{list_below}
use Rattle.fq_model.specs.History.{History, weight_at, pool_at}
use Rattle.fq_model.specs.declared.level.Level.{Level}
use Rattle.fq_model.specs.Limits.{IsTextWeight}
use Rattle.fq_model.specs.Level.{gift, level, IsLevel}
use Rattle.water_level.specs.Backlogs.{IsBacklog}
use Rattle.water_level.proofs.TheOne.{the_one}
use Rattle.fq_model.specs.Fluid.{prefix_at, history_of_changes, fluid, slot_gift, backlog_at, backlogs_at, costs_by, cost_by}
use Rattle.fluid_reference.specs.Slots.{IsRowOf, CostsAre, SettingIs, row_of, change_of, number_at, want_of, wants_of, served_after, served_next, level_of_slot}
use Rattle.fq_laws.proofs.Lists.{list_same, list_at, list_length}
use Rattle.fluid_reference.proofs.Places.{prefix_to, costs_to}
use Rattle.fluid_reference.proofs.Within.{within}

-- the costs, the weights and the workers at the start of slot k
pub record IsKnown (C : Config) (rows : List FluidRow) (H : History) (Q k : ℕ) (costs weights : List ℕ) (workers : ℕ) : Type 0 where
  pub tenants : length costs ≡ length C.weights
  pub costs_are : (t : ℕ) → t < length C.weights → number_at costs t ≡ costs_by rows (k * Q) t
  pub weights_are : (t : ℕ) → t < length C.weights → number_at weights t ≡ weight_at C (prefix_at H (k * Q)) t
  pub workers_are : workers ≡ pool_at C (prefix_at H (k * Q))

-- these values at slot k, from the lists as read up to a place
pub known : (C : Config) (rows sorted : List FluidRow) (changes : List Change) (Q k j i : ℕ) (costs weights : List ℕ) (workers : ℕ) → length costs ≡ length C.weights →
    IsPermutation rows sorted → IsNonDecreasingBy (λ (r : FluidRow). r.submit) sorted → IsNonDecreasingBy (λ (c : Change). c.moment) changes →
    CostsAre (take j sorted) costs → All (λ r. r.submit ≤ k * Q) (take j sorted) → (j < length sorted → k * Q < (row_of sorted j).submit) →
    SettingIs C (take i changes) weights workers → All (λ c. c.moment ≤ k * Q) (take i changes) → (i < length changes → k * Q < (change_of changes i).moment) →
    IsKnown C rows (history_of_changes changes) Q k costs weights workers
known C rows sorted changes Q k j i costs weights workers len moved up rise are joined more set changed next =
    let prefix = prefix_to changes i (k * Q) rise changed next in
    record {
      tenants = len;
      costs_are = λ t l. are t (omega (arith, l, len)) ∙ costs_to rows sorted j (k * Q) t moved up joined more;
      weights_are = λ t l. set.each t l ∙ ap (λ P. weight_at C P t) (sym prefix);
      workers_are = set.pool ∙ ap (pool_at C) (sym prefix);
    }

-- the service of each tenant by the start of slot k
pub record IsServed (C : Config) (rows : List FluidRow) (H : History) (Q k : ℕ) (served : List ℕ) : Type 0 where
  pub tenants : length served ≡ length C.weights
  pub each : (t : ℕ) → t < length C.weights → number_at served t ≡ fluid C rows H Q t k

-- one slot more
pub fluid_more : (C : Config) (rows : List FluidRow) (H : History) (Q t k : ℕ) → fluid C rows H Q t (suc k) ≡ fluid C rows H Q t k + slot_gift C rows H Q (k * Q) (λ u. fluid C rows H Q u k) t
unfolding fluid
fluid_more C rows H Q t k = refl

-- the backlogs at the start of slot k, and its level
wants_are : (C : Config) (rows : List FluidRow) (H : History) (Q k : ℕ) (costs weights served : List ℕ) (workers t : ℕ) → IsKnown C rows H Q k costs weights workers → IsServed C rows H Q k served → t < length C.weights → want_of costs served weights t ≡ backlog_at C rows H (k * Q) (λ u. fluid C rows H Q u k) t
wants_are C rows H Q k costs weights served workers t p s l = ap₂ (λ (n : ℕ) (w : ℕ). record { units = n; weight = w }) (ap₂ ◌-◌ (p.costs_are t l) (s.each t l)) (p.weights_are t l)

pub level_known : (C : Config) (rows : List FluidRow) (H : History) (Q k : ℕ) (costs weights served : List ℕ) (workers : ℕ) → IsKnown C rows H Q k costs weights workers → IsServed C rows H Q k served → level (workers * Q) (wants_of costs served weights) ≡ level_of_slot C rows H Q k
level_known C rows H Q k costs weights served workers p s =
    let all : wants_of costs served weights ≡ backlogs_at C rows H (k * Q) (λ u. fluid C rows H Q u k) = ap (list_below (want_of costs served weights)) p.tenants ∙ list_same _ _ (length C.weights) (λ t l. wants_are C rows H Q k costs weights served workers t p s l) in
    ap₂ (λ n bs. level (n * Q) bs) p.workers_are all

pub row_is : (C : Config) (rows : List FluidRow) (H : History) (Q k : ℕ) (costs weights served : List ℕ) (workers : ℕ) → IsKnown C rows H Q k costs weights workers → IsServed C rows H Q k served →
    served_next (workers * Q) costs served weights ≡ list_below (λ t. fluid C rows H Q t (suc k)) (length C.weights)
row_is C rows H Q k costs weights served workers p s =
    ap (list_below (served_after (level (workers * Q) (wants_of costs served weights)) (wants_of costs served weights) served)) p.tenants
    ∙ list_same _ _ (length C.weights) (λ t l. ap₂ ◌+◌ (s.each t l) (ap₂ gift (level_known C rows H Q k costs weights served workers p s) (list_at (want_of costs served weights) (length costs) t _ (omega (arith, l, p.tenants)) ∙ wants_are C rows H Q k costs weights served workers t p s l)) ∙ sym (fluid_more C rows H Q t k))

pub served_then : (C : Config) (rows : List FluidRow) (H : History) (Q k : ℕ) (after : List ℕ) → after ≡ list_below (λ t. fluid C rows H Q t (suc k)) (length C.weights) → IsServed C rows H Q (k + 1) after
served_then C rows H Q k after is = record {
  tenants = ap length is ∙ list_length (λ t. fluid C rows H Q t (suc k)) (length C.weights);
  each = λ t l. ap (λ xs. number_at xs t) is ∙ list_at (λ u. fluid C rows H Q u (suc k)) (length C.weights) t 0 l ∙ ap (fluid C rows H Q t) (omega arith);
}

-- ---- bounds

cost_low : (m t : ℕ) (row : FluidRow) → row.cost ≤ 1000000000 → cost_by m t row ≤ 1000000000
cost_low m t row h = grind (arith, nat_tests)

pub costs_low : (n : ℕ) (rows : List FluidRow) (m t : ℕ) → All (IsRowOf n) rows → length rows ≤ 2000000 → costs_by rows m t ≤ 2000000000000000
costs_low n rows m t a few = omega (arith, few, sum_by-le (cost_by m t) 1000000000 rows (λ k d l. cost_low m t _ (a k d l).cost))

pub served_low : (C : Config) (n : ℕ) (rows : List FluidRow) (H : History) (Q t k : ℕ) → All (IsRowOf n) rows → length rows ≤ 2000000 → fluid C rows H Q t k ≤ 2000000000000000
unfolding fluid
served_low C n rows H Q t zero a few = omega arith
served_low C n rows H Q t (suc k) a few = omega (arith, within C rows H Q t k, costs_low n rows (k * Q) t a few)

-- ---- backlogs are in their limits

pub wants_in_range : (costs served weights : List ℕ) → ((t : ℕ) → t < length costs → number_at costs t ≤ 2000000000000000) → length weights ≡ length costs → All IsTextWeight weights → All IsBacklog (wants_of costs served weights)
wants_in_range costs served weights low same heavy k d l =
    let here : k < length costs = omega (arith, l, list_length (want_of costs served weights) (length costs)) in
    subst IsBacklog (sym (list_at (want_of costs served weights) (length costs) k d here)) (record {
      units = omega (arith, low k here);
      weight = heavy k 0 (omega (arith, here, same));
    })

-- backlogs have no level but `level`
pub level_of_wants : (cap : ℕ) (wants : List Backlog) (l : Level) → All IsBacklog wants → IsLevel cap wants l → l ≡ level cap wants
level_of_wants cap wants l a is = (the_one cap wants l (λ k d m. (a k d m).weight.0)).0 is

-- ---- at first

pub costs_none : (n : ℕ) (rows : List FluidRow) (costs : List ℕ) → costs ≡ replicate n 0 → CostsAre (take 0 rows) costs
costs_none n rows costs is t l = let few : length (replicate n (zero)) ≡ n = length-replicate {A = ℕ} n 0 in ap (λ xs. number_at xs t) is ∙ get_or-replicate n t 0 0 (omega (arith, l, ap length is, few))

pub served_none : (C : Config) (rows : List FluidRow) (H : History) (Q : ℕ) (served : List ℕ) → served ≡ replicate (length C.weights) 0 → IsServed C rows H Q 0 served
unfolding fluid
served_none C rows H Q served is = record {
  tenants = ap length is ∙ length-replicate (length C.weights) 0;
  each = λ t l. ap (λ xs. number_at xs t) is ∙ get_or-replicate (length C.weights) t 0 0 l;
}

-- items that came by a slot's start came by the start of each later slot, so by that of the next
pub by_later : {X : Type 0} (n : X → ℕ) (xs : List X) (k j Q : ℕ) → k ≤ j → All (λ x. n x ≤ k * Q) xs → All (λ x. n x ≤ j * Q) xs
by_later n xs k j Q le before i d l = omega (arith, before i d l, mul-le-mul_right {m = k} {n = j} Q le)

pub still_before : {X : Type 0} (n : X → ℕ) (xs : List X) (k Q : ℕ) → All (λ x. n x ≤ k * Q) xs → All (λ x. n x ≤ (k + 1) * Q) xs
still_before n xs k Q before i d l = omega (arith, before i d l, add-mul k 1 Q)

-- a vector that is written through a slice of all its elements holds the new elements of the slice
pub written_back : {X : Type 0} (n : ℕ) (old new : List X) → length new ≡ length old → n ≡ length old → take n (new ++ drop (length new) old) ≡ new
written_back n old new same len = ap (λ xs. take n (new ++ xs)) (drop_of_length-le old (omega (arith, same))) ∙ ap (take n) (append-nil new) ∙ take_all n new (omega (arith, same, len))
