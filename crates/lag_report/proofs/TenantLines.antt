-- The lines by courses and by the table of the fluid service are those of the definitions.
use Rattle.std.proofs.Common.{ℕ, zero, suc, ◌-◌, ◌*◌, ◌<◌, ◌≤◌, ◌≡◌, true, List, [], length, arith, refl, ap, ap₂, sym, ◌∙◌, filter, sum_by, ℤ, pos, ◌-ℤ◌, All, slice_index, subst}
use Rattle.std.specs.List.Sorted.{IsPermutation}
use Rattle.std.proofs.lemmas.List.Sums.{length-filter, sum_by_push}
use Rattle.std.proofs.lemmas.List.Sorted.{sum_by-IsPermutation}
use Rattle.fq_laws.proofs.Lists.{list_same, list_at, list_length}
use Rattle.fluid_reference.proofs.Known.{served_low}
use Rattle.fluid_reference.proofs.Changes.{changes_say_all}
use Rattle.fluid_reference.specs.Slots.{IsRowOf, table_of_changes, number_at, slot_at, column_of}
use Rattle.fq_model.specs.declared.fluid.Change.{Change}
use Rattle.fq_model.specs.declared.config.Config.{Config}
use Rattle.fq_model.specs.declared.fluid.FluidRow.{FluidRow}
use Rattle.fq_model.specs.declared.lag.TenantLag.{TenantLag}
use Rattle.fq_model.specs.Limits.{InLimits}
use Rattle.fq_model.specs.Sums.{list_below, sum_below}
use Rattle.fq_model.specs.History.{History, submits, is_ended}
use Rattle.fq_model.specs.Rules.{IsLegal}
use Rattle.fq_model.specs.Charge.{net_charge}
use Rattle.fq_model.specs.Fluid.{fluid, fluid_table, fluid_rows_of, fluid_service, changes_of}
use Rattle.fq_model.specs.Ranks.{least_sample, percentile, greatest_sample}
use Rattle.fq_model.specs.Report.{slots_of, samples_of, submits_for, tenant_lag, lag_report, LagReport}
use Rattle.lag_report.specs.declared.course.Course.{Course}
use Rattle.lag_report.specs.Courses.{courses_of, rows_of, own}
use Rattle.lag_report.specs.Work.{worked, lags_from, line_for, IsTable}
use Rattle.lag_report.specs.Laws.{RowsCountSubmits}
use Rattle.lag_report.proofs.CoursesAre.{rows_are}
use Rattle.lag_report.proofs.Ends.{in_order}
use Rattle.lag_report.proofs.Groups.{is_own, own_sum}
use Rattle.lag_report.proofs.Totals.{work_is, net_is, count_is, once, all_submits}

-- ---- the table

slot_is : (C : Config) (rows : List FluidRow) (H : History) (Q n k : ℕ) → k < n → slot_at (fluid_table C rows H Q n) k ≡ list_below (λ t. fluid C rows H Q t (suc k)) (length C.weights)
slot_is C rows H Q n k l = list_at (λ k. list_below (λ t. fluid C rows H Q t (suc k)) (length C.weights)) n k [] l

cell_is : (C : Config) (rows : List FluidRow) (H : History) (Q n k t : ℕ) → k < n → t < length C.weights → number_at (slot_at (fluid_table C rows H Q n) k) t ≡ fluid C rows H Q t (suc k)
cell_is C rows H Q n k t l m = ap (λ row. number_at row t) (slot_is C rows H Q n k l) ∙ list_at (λ t. fluid C rows H Q t (suc k)) (length C.weights) t 0 m

table_long : (C : Config) (rows : List FluidRow) (H : History) (Q n : ℕ) → length (fluid_table C rows H Q n) ≡ n
table_long C rows H Q n = list_length (λ k. list_below (λ t. fluid C rows H Q t (suc k)) (length C.weights)) n

pub is_table : (C : Config) (rows : List FluidRow) (H : History) (Q n : ℕ) → 1 ≤ n → n * length C.weights ≤ 4000000 → All (IsRowOf (length C.weights)) rows → length rows ≤ 2000000 → IsTable (length C.weights) (fluid_table C rows H Q n)
is_table C rows H Q n some few in_range count =
    let long : length (fluid_table C rows H Q n) ≡ n = table_long C rows H Q n in
    record {
      some = omega (arith, long, some);
      few = subst (λ k. k * length C.weights ≤ 4000000) (sym long) few;
      tenants_are = λ k l. ap length (slot_is C rows H Q n k (omega (arith, l, long))) ∙ list_length (λ t. fluid C rows H Q t (suc k)) (length C.weights);
      low = λ k t l m. omega (arith, cell_is C rows H Q n k t (omega (arith, l, long)) m, served_low C (length C.weights) rows H Q t (suc k) in_range count);
    }

-- the table by a history's completed requests and changes is that of its fluid service
pub table_is : (C : Config) (H : History) (Q n : ℕ) (rows : List FluidRow) (changes : List Change) (table : List (List ℕ)) → IsLegal C H → n ≡ slots_of H Q → rows ≡ rows_of H → changes ≡ changes_of H →
    table ≡ table_of_changes C rows changes Q n → table ≡ fluid_table C (fluid_rows_of H) H Q (slots_of H Q)
table_is C H Q n rows changes table l count all in_time is =
    is
    ∙ ap₂ (λ rs cs. table_of_changes C rs cs Q n) (all ∙ rows_are C H l) in_time
    ∙ ap (table_of_changes C (fluid_rows_of H) (changes_of H) Q) count
    ∙ list_same _ _ (slots_of H Q) (λ k b. list_same _ _ (length C.weights) (λ t m. changes_say_all C (fluid_rows_of H) H Q t (suc k) (in_order C H l)))

-- ---- a tenant

-- a sum over a tenant's requests, in whatever order they are
own_is : (H : History) (sorted : List Course) (t : ℕ) (f : Course → ℕ) → IsPermutation (courses_of H) sorted → sum_by f (filter (is_own t) sorted) ≡ sum_by (own t f) (courses_of H)
own_is H sorted t f moved = own_sum t f sorted ∙ sum_by-IsPermutation (own t f) (courses_of H) sorted moved

lags_are : (C : Config) (H : History) (Q t : ℕ) (sorted : List Course) → InLimits C → IsLegal C H → t < length C.weights → IsPermutation (courses_of H) sorted →
    lags_from (column_of (fluid_table C (fluid_rows_of H) H Q (slots_of H Q)) t) (filter (is_own t) sorted) Q ≡ samples_of C H Q t
lags_are C H Q t sorted lim l known moved =
    let n : ℕ = slots_of H Q in
    let table : List (List ℕ) = fluid_table C (fluid_rows_of H) H Q n in
    let long : length table ≡ n = table_long C (fluid_rows_of H) H Q n in
    let column : length (column_of table t) ≡ n = list_length (λ k. number_at (slot_at table k) t) (length table) ∙ long in
    ap (list_below _) column ∙ list_same _ _ n (λ k b.
    ap₂ (λ (s : ℕ) (w : ℕ). pos s -ℤ pos w)
    (list_at (λ k. number_at (slot_at table k) t) (length table) k 0 (omega (arith, b, long)) ∙ cell_is C (fluid_rows_of H) H Q n k t b known)
    (own_is H sorted t (worked (suc k * Q)) moved ∙ sym (work_is C H t (suc k * Q) lim l)))

line_with : ℕ → ℕ → ℕ → ℕ → List ℤ → TenantLag
line_with weight requests charged served lags = record { weight = weight; requests = requests; charged = charged; fluid = served; least = least_sample lags; p50 = percentile 50 lags; p90 = percentile 90 lags; p99 = percentile 99 lags; greatest = greatest_sample lags }

pub line_is : (C : Config) (H : History) (Q t : ℕ) (sorted : List Course) → InLimits C → IsLegal C H → ((r : ℕ) → r < submits H → is_ended H r ≡ true) → t < length C.weights → IsPermutation (courses_of H) sorted →
    line_for C.weights sorted (fluid_table C (fluid_rows_of H) H Q (slots_of H Q)) Q t ≡ tenant_lag C H Q t
unfolding line_with
line_is C H Q t sorted lim l ended known moved =
    let n : ℕ = slots_of H Q in
    let table : List (List ℕ) = fluid_table C (fluid_rows_of H) H Q n in
    let long : length table ≡ n = table_long C (fluid_rows_of H) H Q n in
    let column : length (column_of table t) ≡ n = list_length (λ k. number_at (slot_at table k) t) (length table) ∙ long in
    let requests : length (filter (is_own t) sorted) ≡ submits_for H t = length-filter (is_own t) sorted ∙ sum_by-IsPermutation (own t once) (courses_of H) sorted moved ∙ sym (count_is C H t l) in
    let charged : sum_by (λ c. c.cost) (filter (is_own t) sorted) ≡ net_charge H t = own_is H sorted t (λ c. c.cost) moved ∙ sym (net_is C H t lim l ended) in
    let last : length (column_of table t) - 1 < length table = omega (arith, column, long) in
    let whole : suc (length (column_of table t) - 1) ≡ n = omega (arith, column) in
    let served : number_at (column_of table t) (length (column_of table t) - 1) ≡ fluid_service C H Q t n =
    list_at (λ k. number_at (slot_at table k) t) (length table) (length (column_of table t) - 1) 0 last
    ∙ cell_is C (fluid_rows_of H) H Q n (length (column_of table t) - 1) t (omega (arith, last, long)) known
    ∙ ap (fluid C (fluid_rows_of H) H Q t) whole in
    let weight : ℕ = slice_index C.weights t in
    ap₂ (λ (r : ℕ) (c : ℕ). line_with weight r c (number_at (column_of table t) (length (column_of table t) - 1)) (lags_from (column_of table t) (filter (is_own t) sorted) Q)) requests charged
    ∙ ap₂ (λ (s : ℕ) (g : List ℤ). line_with weight (submits_for H t) (net_charge H t) s g) served (lags_are C H Q t sorted lim l known moved)

pub lines_are : (C : Config) (H : History) (Q : ℕ) (sorted : List Course) → InLimits C → IsLegal C H → ((r : ℕ) → r < submits H → is_ended H r ≡ true) → IsPermutation (courses_of H) sorted →
    list_below (line_for C.weights sorted (fluid_table C (fluid_rows_of H) H Q (slots_of H Q)) Q) (length C.weights) ≡ (lag_report C H Q).rows
lines_are C H Q sorted lim l ended moved = list_same _ _ (length C.weights) (λ t b. line_is C H Q t sorted lim l ended b moved)

-- the lines by these weights, courses and table are those of the report
pub lines_from : (C : Config) (H : History) (Q : ℕ) (sorted : List Course) (table : List (List ℕ)) (weights : List ℕ) (rows : List TenantLag) → InLimits C → IsLegal C H → ((r : ℕ) → r < submits H → is_ended H r ≡ true) → IsPermutation (courses_of H) sorted →
    table ≡ fluid_table C (fluid_rows_of H) H Q (slots_of H Q) → weights ≡ C.weights → rows ≡ list_below (line_for weights sorted table Q) (length weights) → rows ≡ (lag_report C H Q).rows
lines_from C H Q sorted table weights rows lim l ended moved is_table same is =
    is ∙ ap₂ (λ (ws : List ℕ) (cells : List (List ℕ)). list_below (line_for ws sorted cells Q) (length ws)) same is_table ∙ lines_are C H Q sorted lim l ended moved

-- a report of these parts
pub report_of : (Q slots slots2 end end2 entries entries2 : ℕ) (rows rows2 : List TenantLag) → slots ≡ slots2 → rows ≡ rows2 → end ≡ end2 → entries ≡ entries2 →
    (let r : LagReport = record { slot = Q; slots = slots; rows = rows; end = end; entries = entries } in r) ≡ record { slot = Q; slots = slots2; rows = rows2; end = end2; entries = entries2 }
report_of Q slots slots2 end end2 entries entries2 rows rows2 f g h i = cc

-- ---- all tenants

sum_of_list : {A : Type 0} (f : A → ℕ) (g : ℕ → A) (n : ℕ) → sum_by f (list_below g n) ≡ sum_below (λ k. f (g k)) n
unfolding list_below sum_below
sum_of_list f g zero = refl
sum_of_list f g (suc n) = omega (arith, sum_by_push f (list_below g n) (g n), sum_of_list f g n)

pub rows_count_submits : RowsCountSubmits
rows_count_submits C H Q l = sum_of_list (λ (row : TenantLag). row.requests) (tenant_lag C H Q) (length C.weights) ∙ all_submits C H l
