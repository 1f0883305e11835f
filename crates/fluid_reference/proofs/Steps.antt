-- One request more joins, and one change more is made.
use Rattle.std.proofs.Common.{ℕ, ◌+◌, ◌<◌, ◌≤◌, ◌≡◌, ◌≢◌, List, [], ◌∷◌, ◌++◌, length, arith, refl, ap, ap₂, sym, ◌∙◌, subst, inl, inr, cond, nat_eq, All, take, get_or, slice_set, sum_by, length-set, get_or-set_same, get_or-set_other}
use Rattle.std.proofs.lemmas.Bool.{cases_eq, eq-eqb, ne_eqb}
use Rattle.std.proofs.lemmas.List.Sums.{sum_by_push, sum_by-le}
use Rattle.std.proofs.lemmas.List.{take_more, length-take}
use Rattle.std.proofs.lemmas.List.Elements.{All-push, All-take}
use Rattle.fq_model.specs.declared.config.Config.{Config}
use Rattle.fq_model.specs.declared.fluid.FluidRow.{FluidRow}
use Rattle.fq_model.specs.declared.fluid.Change.{Change}
use Rattle.fq_model.specs.declared.fluid.What.TheVariants as changed
use Rattle.fq_model.specs.History.{weight_at, pool_at, weight_after, pool_after}
use Rattle.fq_model.specs.Fluid.{history_of_changes, change_act}
use Rattle.fluid_reference.specs.Slots.{IsRowOf, CostsAre, SettingIs, cost_of, row_of, number_at}
use Rattle.fluid_reference.proofs.Places.{one_more}

-- ---- requests

sum_more : (sorted : List FluidRow) (j t : ℕ) → j < length sorted → sum_by (cost_of t) (take (j + 1) sorted) ≡ sum_by (cost_of t) (take j sorted) + cost_of t (row_of sorted j)
sum_more sorted j t some = ap (sum_by (cost_of t)) (take_more sorted j _ some) ∙ sum_by_push (cost_of t) (take j sorted) (row_of sorted j)

own_cost : (row : FluidRow) → cost_of row.tenant row ≡ row.cost
own_cost row = ap (λ b. cond b row.cost 0) (eq-eqb row.tenant row.tenant refl)

other_cost : (row : FluidRow) (t : ℕ) → t ≢ row.tenant → cost_of t row ≡ 0
other_cost row t other = ap (λ b. cond b row.cost 0) (ne_eqb row.tenant t (λ e. other (sym e)))

pub join_one : (sorted : List FluidRow) (j : ℕ) (costs : List ℕ) → j < length sorted → CostsAre (take j sorted) costs → (row_of sorted j).tenant < length costs → CostsAre (take (j + 1) sorted) (slice_set costs (row_of sorted j).tenant (number_at costs (row_of sorted j).tenant + (row_of sorted j).cost))
join_one sorted j costs some are known t l =
    let T : ℕ = (row_of sorted j).tenant in
    let v : ℕ = number_at costs T + (row_of sorted j).cost in
    elim (cases_eq t T) [
      | inl own ↦ ap (number_at (slice_set costs T v)) own ∙ get_or-set_same costs T v 0 known ∙ ap₂ ◌+◌ (are T known) (sym (own_cost (row_of sorted j))) ∙ sym (sum_more sorted j T some) ∙ ap (λ u. sum_by (cost_of u) (take (j + 1) sorted)) (sym own)
      | inr other ↦ get_or-set_other costs T t v 0 other ∙ are t (omega (arith, l, length-set costs T v)) ∙ sym (sum_more sorted j t some ∙ omega (arith, other_cost (row_of sorted j) t other))
    ]

pub before_more : {X : Type 0} (P : X → Type 0) (xs : List X) (j : ℕ) (e : X) → j < length xs → All P (take j xs) → P (get_or xs j e) → All P (take (j + 1) xs)
before_more P xs j e some before here = subst (All P) (sym (take_more xs j e some)) (All-push P (take j xs) (get_or xs j e) before here)

-- a tenant's costs are few
pub cost_bound : (n : ℕ) (rows : List FluidRow) (t : ℕ) → All (IsRowOf n) rows → length rows ≤ 2000000 → sum_by (cost_of t) rows ≤ 2000000000000000
cost_bound n rows t a few = omega (arith, few, sum_by-le (cost_of t) 1000000000 rows (λ k d l. one (get_or rows k d) (a k d l).cost))
  where
    one : (row : FluidRow) → row.cost ≤ 1000000000 → cost_of t row ≤ 1000000000
    one row h = elim (Rattle.std.proofs.lemmas.Bool.cases_Bool (nat_eq row.tenant t)) [
      | inl e ↦ rw e h
      | inr e ↦ rw e (omega arith)
    ]

-- also with the next request
pub next_low : (n : ℕ) (sorted : List FluidRow) (j : ℕ) → All (IsRowOf n) sorted → length sorted ≤ 2000000 → j < length sorted → sum_by (cost_of (row_of sorted j).tenant) (take j sorted) + (row_of sorted j).cost ≤ 2000000000000000
next_low n sorted j a few some = omega (
  arith,
  sum_more sorted j (row_of sorted j).tenant some,
  own_cost (row_of sorted j),
  cost_bound n (take (j + 1) sorted) (row_of sorted j).tenant (All-take (IsRowOf n) (j + 1) sorted a) (omega (arith, length-take (j + 1) sorted, few)),
)

-- ---- changes

pub weight_more : (C : Config) (older : List Change) (c : Change) (t : ℕ) → weight_at C (history_of_changes (older ++ c ∷ [])) t ≡ weight_after t (change_act c.what) (weight_at C (history_of_changes older) t)
unfolding weight_at
weight_more C older c t = ap (λ P. weight_at C P t) (one_more older c)

pool_more : (C : Config) (older : List Change) (c : Change) → pool_at C (history_of_changes (older ++ c ∷ [])) ≡ pool_after (change_act c.what) (pool_at C (history_of_changes older))
unfolding pool_at
pool_more C older c = ap (pool_at C) (one_more older c)

pub set_weight : (C : Config) (older : List Change) (c : Change) (weights : List ℕ) (workers tenant weight : ℕ) → c.what ≡ changed.Weight tenant weight → tenant < length weights → SettingIs C older weights workers → SettingIs C (older ++ c ∷ []) (slice_set weights tenant weight) workers
set_weight C older c weights workers tenant weight is known set = record {
  tenants = length-set weights tenant weight ∙ set.tenants;
  each = λ t l. elim (cases_eq t tenant) [
    | inl own ↦ ap (λ i. number_at (slice_set weights tenant weight) i) own ∙ get_or-set_same weights tenant weight 0 known ∙ sym (weight_more C older c t ∙ ap (λ w. weight_after t (change_act w) (weight_at C (history_of_changes older) t)) is ∙ ap (λ b. cond b weight (weight_at C (history_of_changes older) t)) (eq-eqb tenant t (sym own)))
    | inr other ↦ get_or-set_other weights tenant t weight 0 other ∙ set.each t l ∙ sym (weight_more C older c t ∙ ap (λ w. weight_after t (change_act w) (weight_at C (history_of_changes older) t)) is ∙ ap (λ b. cond b weight (weight_at C (history_of_changes older) t)) (ne_eqb tenant t (λ e. other (sym e))))
  ];
  pool = set.pool ∙ sym (pool_more C older c ∙ ap (λ w. pool_after (change_act w) (pool_at C (history_of_changes older))) is);
}

pub set_workers : (C : Config) (older : List Change) (c : Change) (weights : List ℕ) (workers count : ℕ) → c.what ≡ changed.Workers count → SettingIs C older weights workers → SettingIs C (older ++ c ∷ []) weights count
set_workers C older c weights workers count is set = record {
  tenants = set.tenants;
  each = λ t l. set.each t l ∙ sym (weight_more C older c t ∙ ap (λ w. weight_after t (change_act w) (weight_at C (history_of_changes older) t)) is);
  pool = sym (pool_more C older c ∙ ap (λ w. pool_after (change_act w) (pool_at C (history_of_changes older))) is);
}

-- at first
pub set_none : (C : Config) → SettingIs C [] C.weights C.workers
unfolding weight_at pool_at
set_none C = record { tenants = refl; each = λ t l. refl; pool = refl }
