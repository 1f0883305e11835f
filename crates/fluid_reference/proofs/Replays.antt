-- The service by the levels of slots is the fluid service.
use Rattle.std.proofs.Common.{ℕ, zero, suc, ◌+◌, ◌-◌, ◌*◌, ◌<◌, ◌≤◌, ◌≡◌, true, false, nat_le, nat_eq, List, [], ◌∷◌, ◌++◌, length, get_or, take, sum_by, cond, All, arith, refl, ap, ap₂, sym, ◌∙◌, subst, inl, inr, append_assoc, append-nil, length-append}
use Rattle.std.specs.List.Sorted.{IsNonDecreasingBy}
use Rattle.std.proofs.lemmas.Bool.{cases_Bool, cond-true, cond-false, eq-eqb, leb-true}
use Rattle.std.proofs.lemmas.List.{take_more}
use Rattle.std.proofs.lemmas.List.Elements.{filter-append, All-filter, All-push, All-take}
use Rattle.std.proofs.lemmas.List.Sorted.{IsPermutation-refl}
use Rattle.std.proofs.lemmas.List.Sums.{sum_by-cons}
use Rattle.std.proofs.Math.ListN.{get_or-append}
use Rattle.std.proofs.Math.Seq.{get_or-append_seam}
use Rattle.std.proofs.Math.Nat.{add-mul}
use Rattle.fq_model.specs.declared.config.Config.{Config}
use Rattle.fq_model.specs.declared.fluid.FluidRow.{FluidRow}
use Rattle.fq_model.specs.declared.fluid.Change.{Change}
use Rattle.fq_model.specs.declared.fluid.What.{What}
use Rattle.fq_model.specs.declared.fluid.What.TheVariants as changed
use Rattle.fq_model.specs.declared.level.Level.{Level}
use Rattle.fq_model.specs.Sums.{list_below}
use Rattle.fq_model.specs.History.{History, weight_at, weight_after, pool_at}
use Rattle.fq_model.specs.Level.{gift, level}
use Rattle.fq_model.specs.Fluid.{prefix_at, history_of_changes, change_act, change_entry, fluid, fluid_table, slot_gift, backlog_at, cost_by, costs_by}
use Rattle.fluid_reference.specs.Slots.{change_of, changes_for, column_of, cost_of, level_in, level_of_slot, levels_of, number_at, own_backlog, owner_of, owner_of_set, replayed, replayed_table, row_of, rows_for, slot_at}
use Rattle.fluid_reference.proofs.Changes.{whole, not_by}
use Rattle.fq_laws.proofs.Lists.{list_at, list_length, list_same}
use Rattle.fluid_reference.proofs.Lists.{sum_same}
use Rattle.fluid_reference.proofs.Places.{all_by, costs_to, one_more}
use Rattle.fluid_reference.proofs.Steps.{weight_more}
use Rattle.fluid_reference.proofs.Within.{costs_more, gift_low}

-- ---- requests of one tenant

not_own : (m t : ℕ) (row : FluidRow) → nat_eq row.tenant t ≡ false → cost_by m t row ≡ 0
not_own m t row e = rw e refl

only_own : (m t : ℕ) (rows : List FluidRow) → costs_by (rows_for t rows) m t ≡ costs_by rows m t
only_own m t [] = refl
only_own m t (row ∷ rows) = elim (cases_Bool (nat_eq row.tenant t)) [
  | inl e ↦ ap (λ xs. costs_by xs m t) (cond-true (nat_eq row.tenant t) _ _ e) ∙ sum_by-cons (cost_by m t) row (rows_for t rows) ∙ ap (λ n. cost_by m t row + n) (only_own m t rows) ∙ sym (sum_by-cons (cost_by m t) row rows)
  | inr e ↦ ap (λ xs. costs_by xs m t) (cond-false (nat_eq row.tenant t) _ _ e) ∙ only_own m t rows ∙ omega (arith, sum_by-cons (cost_by m t) row rows, not_own m t row e)
]

own_cost : (t : ℕ) (row : FluidRow) → nat_eq row.tenant t ≡ true → row.cost ≡ cost_of t row
own_cost t row e = rw e refl

-- the costs of a tenant's requests up to a place, where these came by m and the next request came later
pub came_is : (rows own : List FluidRow) (j m t : ℕ) → own ≡ rows_for t rows → IsNonDecreasingBy (λ (r : FluidRow). r.submit) own → All (λ r. nat_eq r.tenant t ≡ true) own → All (λ r. r.submit ≤ m) (take j own) → (j < length own → m < (row_of own j).submit) →
    sum_by (λ (r : FluidRow). r.cost) (take j own) ≡ costs_by rows m t
came_is rows own j m t is rise theirs came next =
    sum_same (λ (r : FluidRow). r.cost) (cost_of t) (take j own) (λ k d l. own_cost t (get_or (take j own) k d) (All-take (λ r. nat_eq r.tenant t ≡ true) j own theirs k d l))
    ∙ costs_to own own j m t (IsPermutation-refl own) rise came next
    ∙ ap (λ xs. costs_by xs m t) is
    ∙ only_own m t rows

-- ---- changes of one tenant's weight

-- from the end of a list
by_last : {X : Type 0} (P : List X → Type 0) → P [] → ((xs : List X) (x : X) → P xs → P (xs ++ x ∷ [])) → (before after : List X) → P before → P (before ++ after)
by_last P none more before [] p = subst P (sym (append-nil before)) p
by_last P none more before (x ∷ after) p = subst P (append_assoc before (x ∷ []) after) (by_last P none more (before ++ x ∷ []) after (more before x p))

for_last : (t : ℕ) (xs : List Change) (c : Change) → changes_for t (xs ++ c ∷ []) ≡ changes_for t xs ++ cond (nat_eq (owner_of c) t) (c ∷ []) []
for_last t xs c = filter-append (λ x. nat_eq (owner_of x) t) xs (c ∷ [])

with_own : (t : ℕ) (xs : List Change) (c : Change) → nat_eq (owner_of c) t ≡ true → changes_for t (xs ++ c ∷ []) ≡ changes_for t xs ++ c ∷ []
with_own t xs c e = for_last t xs c ∙ ap (λ ys. changes_for t xs ++ ys) (cond-true (nat_eq (owner_of c) t) (c ∷ []) [] e)

with_other : (t : ℕ) (xs : List Change) (c : Change) → nat_eq (owner_of c) t ≡ false → changes_for t (xs ++ c ∷ []) ≡ changes_for t xs
with_other t xs c e = for_last t xs c ∙ ap (λ ys. changes_for t xs ++ ys) (cond-false (nat_eq (owner_of c) t) (c ∷ []) [] e) ∙ append-nil (changes_for t xs)

other_weight : (t w : ℕ) (what : What) → nat_eq (owner_of_set what) t ≡ false → weight_after t (change_act what) w ≡ w
other_weight t w (changed.Weight tenant weight) e = cond-false (nat_eq tenant t) weight w e
other_weight t w (changed.Workers count) e = refl

weight_last : (C : Config) (t : ℕ) (xs : List Change) (c : Change) → weight_at C (history_of_changes (changes_for t xs)) t ≡ weight_at C (history_of_changes xs) t →
    weight_at C (history_of_changes (changes_for t (xs ++ c ∷ []))) t ≡ weight_at C (history_of_changes (xs ++ c ∷ [])) t
weight_last C t xs c same = elim (cases_Bool (nat_eq (owner_of c) t)) [
  | inl e ↦ ap (λ ys. weight_at C (history_of_changes ys) t) (with_own t xs c e) ∙ weight_more C (changes_for t xs) c t ∙ ap (weight_after t (change_act c.what)) same ∙ sym (weight_more C xs c t)
  | inr e ↦ ap (λ ys. weight_at C (history_of_changes ys) t) (with_other t xs c e) ∙ same ∙ sym (other_weight t (weight_at C (history_of_changes xs) t) c.what e) ∙ sym (weight_more C xs c t)
]

-- others' changes leave a weight as it is
own_weight : (C : Config) (t : ℕ) (xs : List Change) → weight_at C (history_of_changes (changes_for t xs)) t ≡ weight_at C (history_of_changes xs) t
own_weight C t xs = by_last (λ ys. weight_at C (history_of_changes (changes_for t ys)) t ≡ weight_at C (history_of_changes ys) t) refl (weight_last C t) [] xs refl

rise_before : (xs : List Change) (c : Change) → IsNonDecreasingBy (λ (r : Change). r.moment) (xs ++ c ∷ []) → IsNonDecreasingBy (λ (r : Change). r.moment) xs
rise_before xs c rise i j d h l =
    let long = length-append xs (c ∷ []) in
    omega (arith, ap (λ (r : Change). r.moment) (get_or-append xs (c ∷ []) d i (omega (arith, h, l))), ap (λ (r : Change). r.moment) (get_or-append xs (c ∷ []) d j l), rise i j d h (omega (arith, l, long)))

none_later : (xs : List Change) (c : Change) → IsNonDecreasingBy (λ (r : Change). r.moment) (xs ++ c ∷ []) → All (λ r. r.moment ≤ c.moment) xs
none_later xs c rise k d l =
    let long = length-append xs (c ∷ []) in
    omega (arith, ap (λ (r : Change). r.moment) (get_or-append xs (c ∷ []) d k l), ap (λ (r : Change). r.moment) (get_or-append_seam xs c [] d), rise k (length xs) d (omega (arith, l)) (omega (arith, long)))

abbrev SameBy : Config → ℕ → ℕ → List Change → Type 0
SameBy C t m xs = IsNonDecreasingBy (λ (r : Change). r.moment) xs → weight_at C (prefix_at (history_of_changes (changes_for t xs)) m) t ≡ weight_at C (prefix_at (history_of_changes xs) m) t

late_one : (m : ℕ) (xs : List Change) (c : Change) → nat_le c.moment m ≡ false → prefix_at (history_of_changes (xs ++ c ∷ [])) m ≡ prefix_at (history_of_changes xs) m
late_one m xs c late = ap (λ P. prefix_at P m) (one_more xs c) ∙ not_by m (change_entry c) (history_of_changes xs) late

all_came : (m : ℕ) (xs : List Change) → All (λ r. r.moment ≤ m) xs → prefix_at (history_of_changes xs) m ≡ history_of_changes xs
all_came m xs came = whole m (history_of_changes xs) (all_by m xs came)

same_last : (C : Config) (t m : ℕ) (xs : List Change) (c : Change) → SameBy C t m xs → SameBy C t m (xs ++ c ∷ [])
same_last C t m xs c same rise = elim (cases_Bool (nat_le c.moment m)) [
  | inl e ↦
      let by : c.moment ≤ m = leb-true _ _ e in
      let came : All (λ r. r.moment ≤ m) (xs ++ c ∷ []) = All-push (λ (r : Change). r.moment ≤ m) xs c (λ k d l. omega (arith, none_later xs c rise k d l, by)) by in
      ap (λ P. weight_at C P t) (all_came m (changes_for t (xs ++ c ∷ [])) (All-filter (λ x. nat_eq (owner_of x) t) (λ r. r.moment ≤ m) (xs ++ c ∷ []) came))
      ∙ own_weight C t (xs ++ c ∷ [])
      ∙ ap (λ P. weight_at C P t) (sym (all_came m (xs ++ c ∷ []) came))
  | inr e ↦
      let own : weight_at C (prefix_at (history_of_changes (changes_for t (xs ++ c ∷ []))) m) t ≡ weight_at C (prefix_at (history_of_changes (changes_for t xs)) m) t = elim (cases_Bool (nat_eq (owner_of c) t)) [
        | inl o ↦ ap (λ ys. weight_at C (prefix_at (history_of_changes ys) m) t) (with_own t xs c o) ∙ ap (λ P. weight_at C P t) (late_one m (changes_for t xs) c e)
        | inr o ↦ ap (λ ys. weight_at C (prefix_at (history_of_changes ys) m) t) (with_other t xs c o)
      ] in
      own ∙ same (rise_before xs c rise) ∙ ap (λ P. weight_at C P t) (sym (late_one m xs c e))
]

pub weight_by : (C : Config) (t m : ℕ) (xs : List Change) → IsNonDecreasingBy (λ (r : Change). r.moment) xs → weight_at C (prefix_at (history_of_changes (changes_for t xs)) m) t ≡ weight_at C (prefix_at (history_of_changes xs) m) t
weight_by C t m xs = by_last (SameBy C t m) (λ _. refl) (same_last C t m) [] xs (λ _. refl)

-- one change more of a list
weight_next : (C : Config) (t : ℕ) (xs : List Change) (i : ℕ) → i < length xs → weight_at C (history_of_changes (take (i + 1) xs)) t ≡ weight_after t (change_act (change_of xs i).what) (weight_at C (history_of_changes (take i xs)) t)
weight_next C t xs i some = ap (λ ys. weight_at C (history_of_changes ys) t) (take_more xs i _ some) ∙ weight_more C (take i xs) (change_of xs i) t

pub set_by : (C : Config) (t : ℕ) (xs : List Change) (i tenant weight : ℕ) → i < length xs → (change_of xs i).what ≡ changed.Weight tenant weight → owner_of (change_of xs i) ≡ t → weight_at C (history_of_changes (take (i + 1) xs)) t ≡ weight
set_by C t xs i tenant weight some is own =
    let older : ℕ = weight_at C (history_of_changes (take i xs)) t in
    weight_next C t xs i some ∙ ap (λ w. weight_after t (change_act w) older) is ∙ cond-true (nat_eq tenant t) weight older (eq-eqb tenant t (sym (ap owner_of_set is) ∙ own))

pub kept_by : (C : Config) (t : ℕ) (xs : List Change) (i count : ℕ) → i < length xs → (change_of xs i).what ≡ changed.Workers count → weight_at C (history_of_changes (take (i + 1) xs)) t ≡ weight_at C (history_of_changes (take i xs)) t
kept_by C t xs i count some is = weight_next C t xs i some ∙ ap (λ w. weight_after t (change_act w) (weight_at C (history_of_changes (take i xs)) t)) is

pub weight_none : (C : Config) (t : ℕ) → weight_at C [] t ≡ get_or C.weights t 0
unfolding weight_at
weight_none C t = refl

-- ---- the service goes by the sums of costs

abbrev pub CostTheSame : List FluidRow → List FluidRow → Type 0
CostTheSame rows others = (m t : ℕ) → costs_by rows m t ≡ costs_by others m t

backlog_rows : (C : Config) (rows others : List FluidRow) (H : History) (m t : ℕ) (s r : ℕ → ℕ) → CostTheSame rows others → ((u : ℕ) → s u ≡ r u) → backlog_at C rows H m s t ≡ backlog_at C others H m r t
backlog_rows C rows others H m t s r cost h = ap₂ (λ n x. record { units = n - x; weight = weight_at C (prefix_at H m) t }) (cost m t) (h t)

gift_rows : (C : Config) (rows others : List FluidRow) (H : History) (Q m t : ℕ) (s r : ℕ → ℕ) → CostTheSame rows others → ((u : ℕ) → s u ≡ r u) → slot_gift C rows H Q m s t ≡ slot_gift C others H Q m r t
gift_rows C rows others H Q m t s r cost h = ap₂ gift
    (ap (level (pool_at C (prefix_at H m) * Q)) (list_same _ _ (length C.weights) (λ u l. backlog_rows C rows others H m u s r cost h)))
    (backlog_rows C rows others H m t s r cost h)

fluid_rows : (C : Config) (rows others : List FluidRow) (H : History) (Q t k : ℕ) → CostTheSame rows others → fluid C rows H Q t k ≡ fluid C others H Q t k
unfolding fluid
fluid_rows C rows others H Q t zero cost = refl
fluid_rows C rows others H Q t (suc k) cost = ap₂ ◌+◌ (fluid_rows C rows others H Q t k cost) (gift_rows C rows others H Q (k * Q) t _ _ cost (λ u. fluid_rows C rows others H Q u k cost))

-- ---- the service by the levels

pub replayed_more : (C : Config) (rows : List FluidRow) (changes : List Change) (slots : List Level) (Q t k : ℕ) → replayed C rows changes slots Q t (suc k) ≡ replayed C rows changes slots Q t k + gift (level_in slots k) (own_backlog C rows changes (k * Q) (λ u. replayed C rows changes slots Q u k) t)
unfolding replayed
replayed_more C rows changes slots Q t k = refl

pub replayed_none : (C : Config) (rows : List FluidRow) (changes : List Change) (slots : List Level) (Q t : ℕ) → replayed C rows changes slots Q t 0 ≡ 0
unfolding replayed
replayed_none C rows changes slots Q t = refl

-- it is at most the costs of the requests that came
pub replayed_low : (C : Config) (rows : List FluidRow) (changes : List Change) (slots : List Level) (Q t k : ℕ) → replayed C rows changes slots Q t k ≤ costs_by rows (k * Q) t
unfolding replayed
replayed_low C rows changes slots Q t zero = omega arith
replayed_low C rows changes slots Q t (suc k) =
    let more : costs_by rows (k * Q) t ≤ costs_by rows (suc k * Q) t = costs_more rows (k * Q) (suc k * Q) t (omega (arith, add-mul 1 k Q)) in
    omega (arith, replayed_low C rows changes slots Q t k, more, gift_low (level_in slots k) (own_backlog C rows changes (k * Q) (λ u. replayed C rows changes slots Q u k) t))

-- nothing is served while there is no backlog: its costs stay, and they are served
pub replayed_still : (C : Config) (rows : List FluidRow) (changes : List Change) (slots : List Level) (Q t k n cost : ℕ) → replayed C rows changes slots Q t k ≡ cost → ((j : ℕ) → k ≤ j → j < n → costs_by rows (j * Q) t ≡ cost) →
    (i : ℕ) → k + i ≤ n → replayed C rows changes slots Q t (k + i) ≡ cost
replayed_still C rows changes slots Q t k n cost now came zero l = ap (replayed C rows changes slots Q t) (omega arith) ∙ now
replayed_still C rows changes slots Q t k n cost now came (suc i) l =
    let before : replayed C rows changes slots Q t (k + i) ≡ cost = replayed_still C rows changes slots Q t k n cost now came i (omega (arith, l)) in
    let costs : costs_by rows ((k + i) * Q) t ≡ cost = came (k + i) (omega arith) (omega (arith, l)) in
    let next : k + suc i ≡ suc (k + i) = omega arith in
    ap (replayed C rows changes slots Q t) next ∙ replayed_more C rows changes slots Q t (k + i)
    ∙ omega (arith, before, costs, gift_low (level_in slots (k + i)) (own_backlog C rows changes ((k + i) * Q) (λ u. replayed C rows changes slots Q u (k + i)) t))

-- these are requests and changes in another order; the changes of each tenant's weight keep their order
pub record Parted (sorted parted : List FluidRow) (changes parted_changes : List Change) : Type 0 where
  pub cost : CostTheSame parted sorted
  pub order : IsNonDecreasingBy (λ (c : Change). c.moment) changes
  pub each : (t : ℕ) → changes_for t parted_changes ≡ changes_for t changes

replayed_is : (C : Config) (sorted parted : List FluidRow) (changes parted_changes : List Change) (Q n t k : ℕ) → Parted sorted parted changes parted_changes → k ≤ n →
    replayed C parted parted_changes (levels_of C sorted changes Q n) Q t k ≡ fluid C sorted (history_of_changes changes) Q t k
unfolding replayed fluid
replayed_is C sorted parted changes parted_changes Q n t zero p l = refl
replayed_is C sorted parted changes parted_changes Q n t (suc k) p l =
    let before : replayed C parted parted_changes (levels_of C sorted changes Q n) Q t k ≡ fluid C sorted (history_of_changes changes) Q t k = replayed_is C sorted parted changes parted_changes Q n t k p (omega (arith, l)) in
    let weight : weight_at C (prefix_at (history_of_changes (changes_for t parted_changes)) (k * Q)) t ≡ weight_at C (prefix_at (history_of_changes changes) (k * Q)) t =
    ap (λ cs. weight_at C (prefix_at (history_of_changes cs) (k * Q)) t) (p.each t) ∙ weight_by C t (k * Q) changes p.order in
    let wants : own_backlog C parted parted_changes (k * Q) (λ u. replayed C parted parted_changes (levels_of C sorted changes Q n) Q u k) t ≡ backlog_at C sorted (history_of_changes changes) (k * Q) (λ u. fluid C sorted (history_of_changes changes) Q u k) t =
    ap₂ (λ (n : ℕ) (w : ℕ). record { units = n; weight = w }) (ap₂ ◌-◌ (p.cost (k * Q) t) before) weight in
    ap₂ ◌+◌ before (ap₂ gift (list_at (level_of_slot C sorted (history_of_changes changes) Q) n k _ (omega (arith, l))) wants)

pub table_length : (C : Config) (rows : List FluidRow) (changes : List Change) (slots : List Level) (Q : ℕ) → length (replayed_table C rows changes slots Q) ≡ length slots
table_length C rows changes slots Q = list_length (λ k. list_below (λ t. replayed C rows changes slots Q t (suc k)) (length C.weights)) (length slots)

pub row_length : (C : Config) (rows : List FluidRow) (changes : List Change) (slots : List Level) (Q k : ℕ) → k < length slots → length (slot_at (replayed_table C rows changes slots Q) k) ≡ length C.weights
row_length C rows changes slots Q k some =
    ap length (list_at (λ j. list_below (λ t. replayed C rows changes slots Q t (suc j)) (length C.weights)) (length slots) k [] some)
    ∙ list_length (λ t. replayed C rows changes slots Q t (suc k)) (length C.weights)

-- so the table is that of the fluid reference
pub table_is : (C : Config) (rows sorted parted : List FluidRow) (changes parted_changes : List Change) (Q n : ℕ) → CostTheSame sorted rows → Parted sorted parted changes parted_changes →
    replayed_table C parted parted_changes (levels_of C sorted changes Q n) Q ≡ fluid_table C rows (history_of_changes changes) Q n
table_is C rows sorted parted changes parted_changes Q n cost p =
    ap (list_below (λ k. list_below (λ t. replayed C parted parted_changes (levels_of C sorted changes Q n) Q t (suc k)) (length C.weights))) (list_length (level_of_slot C sorted (history_of_changes changes) Q) n)
    ∙ list_same _ _ n (λ k l. list_same _ _ (length C.weights) (λ t _. replayed_is C sorted parted changes parted_changes Q n t (suc k) p (omega (arith, l)) ∙ fluid_rows C sorted rows (history_of_changes changes) Q t (suc k) cost))

-- and a tenant's column is its service
pub column_is : (C : Config) (rows : List FluidRow) (changes : List Change) (slots : List Level) (Q t : ℕ) → t < length C.weights →
    column_of (replayed_table C rows changes slots Q) t ≡ list_below (λ k. replayed C rows changes slots Q t (suc k)) (length slots)
column_is C rows changes slots Q t known =
    let row : ℕ → List ℕ = λ k. list_below (λ u. replayed C rows changes slots Q u (suc k)) (length C.weights) in
    ap (list_below (λ k. number_at (slot_at (replayed_table C rows changes slots Q) k) t)) (list_length row (length slots))
    ∙ list_same _ _ (length slots) (λ k l. ap (λ xs. number_at xs t) (list_at row (length slots) k [] l) ∙ list_at (λ u. replayed C rows changes slots Q u (suc k)) (length C.weights) t 0 known)
