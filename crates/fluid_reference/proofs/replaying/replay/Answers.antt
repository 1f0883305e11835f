use Rattle.std.proofs.Common.{ℕ, suc, ◌+◌, ◌-◌, ◌*◌, ◌<◌, ◌≤◌, ◌≡◌, ◌++◌, ◌∷◌, [], true, nat_eq, get_or, length, take, All, arith, refl, ap, ap₂, sym, subst, ◌∙◌, add-one}
use Rattle.std.proofs.lemmas.Bool.{eqb-true}
use Rattle.std.proofs.lemmas.List.{get_or_default}
use Rattle.std.proofs.lemmas.List.Elements.{All-filter, filter_passes}
use Rattle.std.proofs.lemmas.List.Sums.{length-filter, count_by-le-length}
use Rattle.std.proofs.Math.Nat.{mul-le-mul_right}
use Rattle.std.specs.List.Sorted.{IsNonDecreasingBy}
use Rattle.fq_model.specs.declared.fluid.FluidRow.{FluidRow}
use Rattle.fq_model.specs.declared.fluid.Change.{Change}
use Rattle.fq_model.specs.declared.level.Backlog.{Backlog}
use Rattle.fq_model.specs.History.{weight_at}
use Rattle.fq_model.specs.Fluid.{prefix_at, history_of_changes, costs_by}
use Rattle.fq_model.specs.Level.{gift}
use Rattle.fq_model.specs.Sums.{list_below}
use Rattle.fluid_reference.specs.Slots.{changes_for, own_backlog, owner_of, replayed, row_of}
use Rattle.fluid_reference.proofs.Known.{by_later, still_before}
use Rattle.fq_laws.proofs.Lists.{list_more, list_none}
use Rattle.fluid_reference.proofs.Lists.{list_resized}
use Rattle.fluid_reference.proofs.Places.{prefix_to}
use Rattle.fluid_reference.proofs.Replays.{came_is, replayed_low, replayed_more, replayed_none, replayed_still, weight_none}
use Rattle.fluid_reference.proofs.replaying.replay.Goals as goal
use Rattle.fluid_reference.proofs.replaying.replay.Goals.{After-weigh}

pub slots-init : goal.slots-init
slots-init c = record {
  within = omega arith;
  joined = record { in_list = omega arith; theirs = refl; before = λ k d l. absurd (omega (arith, l)) };
  changed = record { in_list = omega arith; before = λ k d l. absurd (omega (arith, l)) };
  weight = ap (λ ws. get_or ws c.args.tenant 0) c.weights.ensures.value ∙ sym (weight_none c.args.config.now c.args.tenant);
  served = sym (replayed_none c.args.config.now c.args.rows.now c.args.changes.now c.args.levels.now c.args.slot c.args.tenant);
  services = c.in_ok-services.ensures.items ∙ sym (list_none (λ k. replayed c.args.config.now c.args.rows.now c.args.changes.now c.args.levels.now c.args.slot c.args.tenant (suc k)));
}

pub join_own-requires-clause-few : goal.join_own-requires-clause-few
join_own-requires-clause-few c = omega (arith, ap length c.of_tenant-own.ensures, length-filter (λ (r : FluidRow). nat_eq r.tenant c.args.tenant) c.args.rows.now, count_by-le-length (λ (r : FluidRow). nat_eq r.tenant c.args.tenant) c.args.rows.now, c.requires.ready.few)

pub join_own-requires-clause-small : goal.join_own-requires-clause-small
join_own-requires-clause-small c = subst (All (λ (r : FluidRow). r.cost ≤ 1000000000)) (sym c.of_tenant-own.ensures)
    (All-filter (λ (r : FluidRow). nat_eq r.tenant c.args.tenant) (λ (r : FluidRow). r.cost ≤ 1000000000) c.args.rows.now (λ k d l. (c.requires.ready.in_range k d l).cost))

pub join_own-requires-clause-came : goal.join_own-requires-clause-came
join_own-requires-clause-came c = c.slots.invariant.joined

-- the costs of the tenant's requests by a slot's start, up to the next request
costs_at : (c : After-weigh) (j : ℕ) → c.slots.k ≤ j → (c.join_own.result.0 < length c.of_tenant-own.result.now → j * c.args.slot < (row_of c.of_tenant-own.result.now c.join_own.result.0).submit) → c.join_own.result.1 ≡ costs_by c.args.rows.now (j * c.args.slot) c.args.tenant
costs_at c j le next =
    c.join_own.ensures.came.theirs
    ∙ came_is c.args.rows.now c.of_tenant-own.result.now c.join_own.result.0 (j * c.args.slot) c.args.tenant c.of_tenant-own.ensures
    (subst (IsNonDecreasingBy (λ (r : FluidRow). r.submit)) (sym c.of_tenant-own.ensures) (c.requires.ready.submits_in_order c.args.tenant))
    (subst (All (λ (r : FluidRow). nat_eq r.tenant c.args.tenant ≡ true)) (sym c.of_tenant-own.ensures) (filter_passes (λ (r : FluidRow). nat_eq r.tenant c.args.tenant) c.args.rows.now))
    (by_later (λ (r : FluidRow). r.submit) _ c.slots.k j c.args.slot le c.join_own.ensures.came.before) next

-- and by now
cost_is : (c : After-weigh) → c.join_own.result.1 ≡ costs_by c.args.rows.now (c.slots.k * c.args.slot) c.args.tenant
cost_is c = costs_at c c.slots.k (omega arith) c.join_own.ensures.next

-- its weight by now
weight_set : (c : After-weigh) → c.weigh.result.1 ≡ weight_at c.args.config.now (history_of_changes (take c.weigh.result.0 c.of_tenant-changes.result.now)) c.args.tenant
weight_set c =
    let own : All (λ x. owner_of x ≡ c.args.tenant) c.of_tenant-changes.result.now = subst (All (λ x. owner_of x ≡ c.args.tenant)) (sym c.of_tenant-changes.ensures)
    (λ k d l. eqb-true _ _ (filter_passes (λ x. nat_eq (owner_of x) c.args.tenant) c.args.changes.now k d l)) in
    c.weigh.ensures.weight c.args.config.now c.args.tenant own c.slots.invariant.weight

weight_is : (c : After-weigh) → c.weigh.result.1 ≡ weight_at c.args.config.now (prefix_at (history_of_changes (changes_for c.args.tenant c.args.changes.now)) (c.slots.k * c.args.slot)) c.args.tenant
weight_is c =
    let rise : IsNonDecreasingBy (λ (x : Change). x.moment) c.of_tenant-changes.result.now = subst (IsNonDecreasingBy (λ (x : Change). x.moment)) (sym c.of_tenant-changes.ensures) (c.requires.ready.moments_in_order c.args.tenant) in
    weight_set c
    ∙ ap (λ P. weight_at c.args.config.now P c.args.tenant) (sym (prefix_to c.of_tenant-changes.result.now c.weigh.result.0 (c.slots.k * c.args.slot) rise c.weigh.ensures.came.before c.weigh.ensures.next))
    ∙ ap (λ xs. weight_at c.args.config.now (prefix_at (history_of_changes xs) (c.slots.k * c.args.slot)) c.args.tenant) c.of_tenant-changes.ensures

-- its backlog in this slot
wants_is : (c : After-weigh) → (let b : Backlog = record { units = c.join_own.result.1 - c.slots.served; weight = c.weigh.result.1 } in b) ≡ own_backlog c.args.config.now c.args.rows.now c.args.changes.now (c.slots.k * c.args.slot) (λ u. replayed c.args.config.now c.args.rows.now c.args.changes.now c.args.levels.now c.args.slot u c.slots.k) c.args.tenant
wants_is c = ap₂ (λ (n : ℕ) (w : ℕ). record { units = n; weight = w }) (ap₂ ◌-◌ (cost_is c) c.slots.invariant.served) (weight_is c)

served_low : (c : After-weigh) → c.slots.served ≤ c.join_own.result.1
served_low c = omega (arith, cost_is c, c.slots.invariant.served, replayed_low c.args.config.now c.args.rows.now c.args.changes.now c.args.levels.now c.args.slot c.args.tenant c.slots.k)

pub overflow_sub-units : goal.overflow_sub-units
overflow_sub-units c = served_low (goal.at.overflow_sub-units c).After-weigh

-- its service with this slot
more : (c : goal.In_ok-push) → c.slots.served + c.give-served.result ≡ replayed c.args.config.now c.args.rows.now c.args.changes.now c.args.levels.now c.args.slot c.args.tenant (c.slots.k + 1)
more c =
    ap₂ ◌+◌ c.slots.invariant.served (c.give-served.ensures ∙ ap₂ gift (get_or_default c.args.levels.now c.slots.k _ _ c.slots-test.true) (wants_is (goal.at.slots-preserved c).After-weigh))
    ∙ sym (replayed_more c.args.config.now c.args.rows.now c.args.changes.now c.args.levels.now c.args.slot c.args.tenant c.slots.k)
    ∙ ap (replayed c.args.config.now c.args.rows.now c.args.changes.now c.args.levels.now c.args.slot c.args.tenant) (sym (add-one c.slots.k))

pub slots-preserved : goal.slots-preserved
slots-preserved c =
    let now : After-weigh = (goal.at.slots-preserved c).After-weigh in
    record {
      within = omega (arith, c.slots-test.true);
      joined = record { in_list = c.join_own.ensures.came.in_list; theirs = c.join_own.ensures.came.theirs; before = still_before (λ (r : FluidRow). r.submit) _ c.slots.k c.args.slot c.join_own.ensures.came.before };
      changed = record { in_list = c.weigh.ensures.came.in_list; before = still_before (λ (x : Change). x.moment) _ c.slots.k c.args.slot c.weigh.ensures.came.before };
      weight = weight_set now;
      served = more c;
      services = c.in_ok-push.ensures.items ∙ ap₂ (λ xs n. xs ++ n ∷ []) c.slots.invariant.services (more c ∙ ap (replayed c.args.config.now c.args.rows.now c.args.changes.now c.args.levels.now c.args.slot c.args.tenant) (add-one c.slots.k))
          ∙ sym (list_more (λ k. replayed c.args.config.now c.args.rows.now c.args.changes.now c.args.levels.now c.args.slot c.args.tenant (suc k)) c.slots.k);
    }

-- where it has no backlog, it is served nothing in the slots up to the next request
served_by : (c : goal.In_ok-resize) → c.slots.served ≡ c.join_own.result.1
served_by c = omega (arith, served_low (goal.at.slots-preserved-then-units-eq0 c).After-weigh, c.if-units-eq0.true)

quiet : (c : goal.In_ok-resize) (i : ℕ) → c.slots.k ≤ i → i ≤ c.next_busy-k.result → replayed c.args.config.now c.args.rows.now c.args.changes.now c.args.levels.now c.args.slot c.args.tenant i ≡ c.slots.served
quiet c i from to =
    let last : (j : ℕ) → j < c.next_busy-k.result → j * c.args.slot ≤ (c.next_busy-k.result - 1) * c.args.slot = λ j lt. mul-le-mul_right {m = j} {n = c.next_busy-k.result - 1} c.args.slot (omega (arith, lt)) in
    let came : (j : ℕ) → c.slots.k ≤ j → j < c.next_busy-k.result → costs_by c.args.rows.now (j * c.args.slot) c.args.tenant ≡ c.slots.served = λ j le lt.
    sym (served_by c ∙ costs_at (goal.at.slots-preserved-then-units-eq0 c).After-weigh j le (λ some. omega (arith, c.next_busy-k.ensures.later some, last j lt))) in
    let there : i ≡ c.slots.k + (i - c.slots.k) = omega (arith, from) in
    ap (replayed c.args.config.now c.args.rows.now c.args.changes.now c.args.levels.now c.args.slot c.args.tenant) there
    ∙ replayed_still c.args.config.now c.args.rows.now c.args.changes.now c.args.levels.now c.args.slot c.args.tenant c.slots.k c.next_busy-k.result c.slots.served (sym c.slots.invariant.served) came (i - c.slots.k) (omega (arith, from, to))

pub slots-preserved-then-units-eq0 : goal.slots-preserved-then-units-eq0
slots-preserved-then-units-eq0 c =
    let now : After-weigh = (goal.at.slots-preserved-then-units-eq0 c).After-weigh in
    let on : c.slots.k ≤ c.next_busy-k.result = omega (arith, c.next_busy-k.ensures.after) in
    record {
      within = c.next_busy-k.ensures.inside;
      joined = record { in_list = c.join_own.ensures.came.in_list; theirs = c.join_own.ensures.came.theirs; before = by_later (λ (r : FluidRow). r.submit) _ c.slots.k c.next_busy-k.result c.args.slot on c.join_own.ensures.came.before };
      changed = record { in_list = c.weigh.ensures.came.in_list; before = by_later (λ (x : Change). x.moment) _ c.slots.k c.next_busy-k.result c.args.slot on c.weigh.ensures.came.before };
      weight = weight_set now;
      served = sym (quiet c c.next_busy-k.result on (omega arith));
      services = c.in_ok-resize.ensures.items
          ∙ list_resized (λ k. replayed c.args.config.now c.args.rows.now c.args.changes.now c.args.levels.now c.args.slot c.args.tenant (suc k)) c.slots.served c.slots.k c.next_busy-k.result c.slots.services.len c.slots.services.items c.slots.invariant.services c.slots.services.ok.0 on
          (λ i from to. quiet c (suc i) (omega (arith, from)) (omega (arith, to)));
    }

pub next_busy-k-requires-clause-later : goal.next_busy-k-requires-clause-later
next_busy-k-requires-clause-later c = c.join_own.ensures.next

pub returns : goal.returns
returns c = c.slots.invariant.services ∙ ap (list_below (λ k. replayed c.args.config.now c.args.rows.now c.args.changes.now c.args.levels.now c.args.slot c.args.tenant (suc k))) (omega (arith, c.slots-test.false, c.slots.invariant.within))
