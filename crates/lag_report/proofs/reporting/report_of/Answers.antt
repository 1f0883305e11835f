use Rattle.std.proofs.Common.{ℕ, ◌+◌, ◌*◌, ◌/◌, ◌<◌, ◌≤◌, ◌≡◌, true, not, Some, None, length, All, arith, rules, ap, sym, ◌∙◌, subst, ◌^◌}
use Rattle.std.specs.List.{position}
use Rattle.std.specs.List.Sorted.{IsNonDecreasingBy}
use Rattle.std.proofs.lemmas.List.Sorted.{All-permutation, length_permutation, sum_by-IsPermutation}
use Rattle.std.proofs.lemmas.List.{length-reverse}
use Rattle.fq_model.specs.declared.limits.TheConstants.{TEXT_TENANTS}
use Rattle.fq_laws.proofs.Limits.{within_text}
use Rattle.fluid_reference.specs.Slots.{IsRowOf, IsChangeOf}
use Rattle.fq_laws.proofs.Lists.{list_length}
use Rattle.fq_model.specs.declared.fluid.Change.{Change}
use Rattle.fq_model.specs.History.{history_of, submits, is_ended}
use Rattle.fq_model.specs.Fluid.{fluid_table, fluid_rows_of, changes_of}
use Rattle.fq_model.specs.Report.{slots_of, unfinished}
use Rattle.lag_report.specs.declared.course.Course.{Course}
use Rattle.lag_report.specs.Courses.{courses_of, rows_of}
use Rattle.lag_report.specs.Work.{EndsWithin, IsTable, line_for}
use Rattle.lag_report.specs.Reports.{report_refusal, IsReason}
use Rattle.lag_report.proofs.CoursesAre.{courses_are, rows_are}
use Rattle.lag_report.proofs.Totals.{unfinished_is, all_ended}
use Rattle.lag_report.proofs.Ends.{courses_end}
use Rattle.lag_report.proofs.Counts.{courses_in, submits_few, costs_few, rows_few, rows_in, changes_in, changes_order}
use Rattle.lag_report.proofs.TenantLines.{is_table, lines_from, table_is, report_of}
use Rattle.lag_report.proofs.Refusals.{small, for_request, for_none, for_fluid, none_from, given_reason}
use Rattle.lag_report.specs.Faults.{fault_from}
use Rattle.std.specs.List.Sorted.{IsPermutation}
use Rattle.lag_report.proofs.reporting.report_of.Goals as goal
use Rattle.lag_report.proofs.reporting.report_of.Goals.{In-Some, After-as_slice-2, After-as_slice-3}

-- the first course that is not ended is that of the least request that is not
found : (c : In-Some) → unfinished (history_of c.args.contents.now.past.items) ≡ Some c.in-Some.request
found c =
    let at : position (λ (r : Course). not r.is_ended) c.as_slice.result.now ≡ unfinished (history_of c.args.contents.now.past.items) = ap (position (λ (r : Course). not r.is_ended)) (c.as_slice.ensures.value ∙ c.requires.courses) ∙ unfinished_is c.args.config.now (history_of c.args.contents.now.past.items) c.weights-weights.ensures.limits c.requires.legal in
    sym (c.in-Some.ensures ∙ at)

pub overflow_cast-result : goal.overflow_cast-result
overflow_cast-result c = let fits : c.in-Some.request < 2 ^ 32 = small (history_of c.args.contents.now.past.items) c.in-Some.request (found c) in search rules

pub returns-in-Some-clause-reason : goal.returns-in-Some-clause-reason
returns-in-Some-clause-reason c = for_request c.args.config.now (history_of c.args.contents.now.past.items) c.args.slot c.in-Some.request (found (goal.at.returns-in-Some-clause-reason c).In-Some)

-- all requests are done or withdrawn
none : (c : After-as_slice-2) → unfinished (history_of c.args.contents.now.past.items) ≡ None
none c =
    let at : position (λ (r : Course). not r.is_ended) c.as_slice.result.now ≡ unfinished (history_of c.args.contents.now.past.items) = ap (position (λ (r : Course). not r.is_ended)) (c.as_slice.ensures.value ∙ c.requires.courses) ∙ unfinished_is c.args.config.now (history_of c.args.contents.now.past.items) c.weights-weights.ensures.limits c.requires.legal in
    sym at ∙ sym c.unfinished.ensures ∙ none_from c.unfinished.result c.in_default.not-Some

-- the completed requests and the changes, as the fluid service takes them
rows_now : (c : After-as_slice-2) → c.replace-rows.result.items ≡ rows_of (history_of c.args.contents.now.past.items)
rows_now c = ap (λ v. v.items) c.replace-rows.ensures.value ∙ c.requires.rows

changes_now : (c : After-as_slice-2) → c.as_slice-2.result.now ≡ changes_of (history_of c.args.contents.now.past.items)
changes_now c = c.as_slice-2.ensures.value ∙ c.requires.changes

count_is : (c : After-as_slice-2) → c.args.end / c.args.slot + 1 ≡ slots_of (history_of c.args.contents.now.past.items) c.args.slot
count_is c = ap (λ n. n / c.args.slot + 1) c.requires.end

pub last_slots-requires-clause-few : goal.last_slots-requires-clause-few
last_slots-requires-clause-few c = omega (arith, ap length (rows_now c), rows_few c.args.config.now (history_of c.args.contents.now.past.items) c.weights-weights.ensures.limits c.requires.text c.requires.legal)

pub last_slots-requires-clause-rows : goal.last_slots-requires-clause-rows
last_slots-requires-clause-rows c = subst (All (IsRowOf (length c.args.config.now.weights))) (sym (rows_now c)) (rows_in c.args.config.now (history_of c.args.contents.now.past.items) c.requires.legal)

pub last_slots-requires-clause-changes : goal.last_slots-requires-clause-changes
last_slots-requires-clause-changes c = subst (All (IsChangeOf (length c.args.config.now.weights))) (sym (changes_now c)) (changes_in c.args.config.now (history_of c.args.contents.now.past.items) c.weights-weights.ensures.limits c.requires.text c.requires.legal)

pub last_slots-requires-clause-order : goal.last_slots-requires-clause-order
last_slots-requires-clause-order c = subst (IsNonDecreasingBy (λ (x : Change). x.moment)) (sym (changes_now c)) (changes_order c.args.config.now (history_of c.args.contents.now.past.items) c.requires.legal)

pub returns-in_err-fluid-clause-reason : goal.returns-in_err-fluid-clause-reason
returns-in_err-fluid-clause-reason c =
    let b : After-as_slice-2 = (goal.at.returns-in_err-fluid-clause-reason c).After-as_slice-2 in
    let reason : IsReason (fault_from c.in_err-fluid.field-0.0) (report_refusal c.args.config.now (history_of c.args.contents.now.past.items) c.args.slot) = for_fluid c.args.config.now (history_of c.args.contents.now.past.items) c.args.slot (c.args.end / c.args.slot + 1) c.in_err-fluid.field-0.0 (none b) (count_is b) c.in_err-fluid.ensures.fault in
    given_reason _ _ _ c.from_residual-in_err-fluid.ensures.1 reason

-- the table is that of the fluid service
table_now : (c : After-as_slice-3) → c.in_ok-fluid.fluid ≡ fluid_table c.args.config.now (fluid_rows_of (history_of c.args.contents.now.past.items)) (history_of c.args.contents.now.past.items) c.args.slot (slots_of (history_of c.args.contents.now.past.items) c.args.slot)
table_now c = table_is c.args.config.now (history_of c.args.contents.now.past.items) c.args.slot (c.args.end / c.args.slot + 1) c.replace-rows.result.items c.as_slice-2.result.now c.in_ok-fluid.fluid c.requires.legal
    (ap (λ n. n / c.args.slot + 1) c.requires.end)
    (ap (λ v. v.items) c.replace-rows.ensures.value ∙ c.requires.rows)
    (c.as_slice-2.ensures.value ∙ c.requires.changes)
    c.in_ok-fluid.ensures.table

-- the courses are those of the history, in another order
sorted_now : (c : After-as_slice-3) → c.as_slice-3.result.now ≡ c.in_ok-courses.courses.items
sorted_now c = c.as_slice-3.ensures.value

courses_now : (c : After-as_slice-3) → IsPermutation (courses_of (history_of c.args.contents.now.past.items)) c.as_slice-3.result.now
courses_now c =
    subst (λ cs. IsPermutation cs c.as_slice-3.result.now) (ap (λ v. v.items) c.replace-taken.ensures.value ∙ c.requires.courses) (subst (IsPermutation c.replace-taken.result.items) (sym (sorted_now c)) c.in_ok-courses.ensures.same)

pub by_tenant-requires : goal.by_tenant-requires
by_tenant-requires c =
    let taken : c.replace-taken.result.items ≡ courses_of (history_of c.args.contents.now.past.items) = ap (λ v. v.items) c.replace-taken.ensures.value ∙ c.requires.courses in
    subst (All (λ (x : Course). x.tenant ≤ TEXT_TENANTS)) (sym taken) (λ k d l. omega (arith, courses_in c.args.config.now (history_of c.args.contents.now.past.items) c.requires.legal k d l, (within_text c.args.config.now c.weights-weights.ensures.limits c.requires.text).tenants))

all_are_ended : (c : After-as_slice-3) → (r : ℕ) → r < submits (history_of c.args.contents.now.past.items) → is_ended (history_of c.args.contents.now.past.items) r ≡ true
all_are_ended c =
    let at : position (λ (r : Course). not r.is_ended) c.as_slice.result.now ≡ unfinished (history_of c.args.contents.now.past.items) = ap (position (λ (r : Course). not r.is_ended)) (c.as_slice.ensures.value ∙ c.requires.courses) ∙ unfinished_is c.args.config.now (history_of c.args.contents.now.past.items) c.weights-weights.ensures.limits c.requires.legal in
    all_ended c.args.config.now (history_of c.args.contents.now.past.items) c.requires.legal c.weights-weights.ensures.limits (sym at ∙ sym c.unfinished.ensures ∙ none_from c.unfinished.result c.in_default.not-Some)

cells_few : (c : After-as_slice-3) → slots_of (history_of c.args.contents.now.past.items) c.args.slot * length c.args.config.now.weights ≤ 4000000
cells_few c = subst (λ n. n * length c.args.config.now.weights ≤ 4000000) (ap (λ n. n / c.args.slot + 1) c.requires.end) c.in_ok-fluid.ensures.fits

pub lines-requires-clause-table : goal.lines-requires-clause-table
lines-requires-clause-table c =
    let b : After-as_slice-3 = (goal.at.lines-requires-clause-table c).After-as_slice-3 in
    let C = c.args.config.now in
    let H = history_of c.args.contents.now.past.items in
    let lim = c.weights-weights.ensures.limits in
    let rows : rows_of H ≡ fluid_rows_of H = rows_are C H c.requires.legal in
    let table : IsTable (length C.weights) (fluid_table C (fluid_rows_of H) H c.args.slot (slots_of H c.args.slot)) = is_table C (fluid_rows_of H) H c.args.slot (slots_of H c.args.slot) (omega arith) (cells_few b) (subst (All (IsRowOf (length C.weights))) rows (rows_in C H c.requires.legal)) (subst (λ rs. length rs ≤ 2000000) rows (rows_few C H lim c.requires.text c.requires.legal)) in
    subst (λ ws. IsTable (length ws) c.in_ok-fluid.fluid) (sym c.weights-weights.ensures.value) (subst (IsTable (length C.weights)) (sym (table_now b)) table)

pub lines-requires-clause-order : goal.lines-requires-clause-order
lines-requires-clause-order c =
    let b : After-as_slice-3 = (goal.at.lines-requires-clause-order c).After-as_slice-3 in
    subst (IsNonDecreasingBy (λ (x : Course). x.tenant)) (sym (sorted_now b)) c.in_ok-courses.ensures.order

pub lines-requires-clause-requests : goal.lines-requires-clause-requests
lines-requires-clause-requests c =
    let b : After-as_slice-3 = (goal.at.lines-requires-clause-requests c).After-as_slice-3 in
    omega (arith, length_permutation _ _ (courses_now b), (courses_are c.args.config.now (history_of c.args.contents.now.past.items) c.requires.legal).counted, submits_few c.args.config.now (history_of c.args.contents.now.past.items) c.weights-weights.ensures.limits c.requires.text c.requires.legal)

pub lines-requires-clause-costs : goal.lines-requires-clause-costs
lines-requires-clause-costs c =
    let b : After-as_slice-3 = (goal.at.lines-requires-clause-costs c).After-as_slice-3 in
    omega (arith, sum_by-IsPermutation (λ (x : Course). x.cost) _ _ (courses_now b), costs_few c.args.config.now (history_of c.args.contents.now.past.items) c.weights-weights.ensures.limits c.requires.text c.requires.legal)

pub lines-requires-clause-end : goal.lines-requires-clause-end
lines-requires-clause-end c =
    let b : After-as_slice-3 = (goal.at.lines-requires-clause-end c).After-as_slice-3 in
    let C = c.args.config.now in
    let H = history_of c.args.contents.now.past.items in
    let long : length c.in_ok-fluid.fluid ≡ slots_of H c.args.slot = c.in_ok-fluid.ensures.len ∙ ap (λ n. n / c.args.slot + 1) c.requires.end in
    subst (λ n. All (EndsWithin c.args.slot n) c.as_slice-3.result.now) (sym long) (All-permutation (EndsWithin c.args.slot (slots_of H c.args.slot)) _ _ (courses_now b) (courses_end C H c.args.slot c.requires.positive c.requires.legal (all_are_ended b)))

pub new-requires-3 : goal.new-requires-3
new-requires-3 c = omega (
  arith,
  ap length c.in_ok-rows.ensures,
  list_length (line_for c.weights-weights.result.now c.as_slice-3.result.now c.in_ok-fluid.fluid c.args.slot) (length c.weights-weights.result.now),
  ap length c.weights-weights.ensures.value,
  (within_text c.args.config.now c.weights-weights.ensures.limits c.requires.text).tenants,
)

pub returns-clause-report : goal.returns-clause-report
returns-clause-report c =
    let b : After-as_slice-3 = (goal.at.returns-clause-report c).After-as_slice-3 in
    let C = c.args.config.now in
    let H = history_of c.args.contents.now.past.items in
    c.new-3.ensures
    ∙ report_of c.args.slot _ _ _ _ _ _ _ _
    (ap (λ n. n / c.args.slot + 1) c.requires.end)
    (lines_from C H c.args.slot c.as_slice-3.result.now c.in_ok-fluid.fluid c.weights-weights.result.now c.in_ok-rows.rows.items c.weights-weights.ensures.limits c.requires.legal (all_are_ended b) (courses_now b) (table_now b) c.weights-weights.ensures.value c.in_ok-rows.ensures)
    c.requires.end
    (c.requires.entries ∙ sym (length-reverse c.args.contents.now.past.items))

pub returns-clause-sound : goal.returns-clause-sound
returns-clause-sound c =
    let b : After-as_slice-3 = (goal.at.returns-clause-sound c).After-as_slice-3 in
    let a : After-as_slice-2 = (goal.at.returns-clause-sound c).After-as_slice-2 in
    for_none c.args.config.now (history_of c.args.contents.now.past.items) c.args.slot (none a) (cells_few b)
