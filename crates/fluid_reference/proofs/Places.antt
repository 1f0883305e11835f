-- The requests joined and the changes made by a moment, by the place up to which a list in order has been read.
use Rattle.std.proofs.Common.{ℕ, suc, ◌+◌, ◌<◌, ◌≤◌, ◌≡◌, true, nat_le, nat_eq, ◌&&◌, List, [], ◌∷◌, ◌++◌, map, length, arith, refl, ap, sym, ◌∙◌, subst, inl, inr, reverse, cond, All, take, drop, sum_by, append_assoc}
use Rattle.std.proofs.lemmas.List.{map-append, reverse-append, take-append-drop}
use Rattle.std.proofs.lemmas.List.Sums.{sum_by-take-drop}
use Rattle.std.proofs.lemmas.List.Sorted.{sum_by-IsPermutation}
use Rattle.std.proofs.lemmas.Bool.{le-leb, lt-leb, and_from, and_right, and_parts, cond-false, cases_Bool}
use Rattle.std.specs.List.Sorted.{IsNonDecreasingBy, IsPermutation}
use Rattle.fq_model.specs.declared.fluid.FluidRow.{FluidRow}
use Rattle.fq_model.specs.declared.fluid.Change.{Change}
use Rattle.fq_model.specs.History.{History}
use Rattle.fq_model.specs.Fluid.{is_all_by, prefix_at, history_of_changes, change_entry, cost_by, costs_by}
use Rattle.fluid_reference.specs.Slots.{cost_of, row_of, change_of}
use Rattle.fluid_reference.proofs.Lists.{sum_same, sum_none, beyond}
use Rattle.fluid_reference.proofs.Changes.{whole, not_by}

-- ---- changes

-- the history with one change more, at its end and at its beginning
pub one_more : (older : List Change) (c : Change) → history_of_changes (older ++ c ∷ []) ≡ change_entry c ∷ history_of_changes older
one_more older c = ap reverse (map-append change_entry older (c ∷ [])) ∙ reverse-append (map change_entry older) (change_entry c ∷ [])

one_before : (c : Change) (later : List Change) → history_of_changes (c ∷ later) ≡ history_of_changes later ++ change_entry c ∷ []
one_before c later = reverse-append (change_entry c ∷ []) (map change_entry later)

all_append : (m : ℕ) (P Q : History) → is_all_by m P ≡ true → is_all_by m Q ≡ true → is_all_by m (P ++ Q) ≡ true
all_append m [] Q h g = g
all_append m (e ∷ P) Q h g = let p = and_parts _ _ h in and_from _ _ p.0 (all_append m P Q p.1 g)

-- all that came by m
pub all_by : (m : ℕ) (cs : List Change) → All (λ c. c.moment ≤ m) cs → is_all_by m (history_of_changes cs) ≡ true
all_by m [] h = refl
all_by m (c ∷ cs) h = subst (λ P. is_all_by m P ≡ true) (sym (one_before c cs)) (all_append m (history_of_changes cs) (change_entry c ∷ []) (all_by m cs (λ k d l. h (suc k) d (omega (arith, l)))) (and_from _ _ (le-leb _ _ (h 0 c (omega arith))) refl))

-- later changes are passed over
passed_over : (m : ℕ) (cs : List Change) (P : History) → All (λ c. m < c.moment) cs → prefix_at (history_of_changes cs ++ P) m ≡ prefix_at P m
passed_over m [] P h = refl
passed_over m (c ∷ cs) P h = ap (λ Q. prefix_at Q m) (ap (λ Q. Q ++ P) (one_before c cs) ∙ append_assoc (history_of_changes cs) (change_entry c ∷ []) P)
    ∙ passed_over m cs (change_entry c ∷ P) (λ k d l. h (suc k) d (omega (arith, l)))
    ∙ not_by m (change_entry c) P (lt-leb _ _ (h 0 c (omega arith)))

pub prefix_to : (changes : List Change) (i m : ℕ) → IsNonDecreasingBy (λ (c : Change). c.moment) changes → All (λ c. c.moment ≤ m) (take i changes) → (i < length changes → m < (change_of changes i).moment) → prefix_at (history_of_changes changes) m ≡ history_of_changes (take i changes)
prefix_to changes i m order before next =
    let split : history_of_changes changes ≡ history_of_changes (drop i changes) ++ history_of_changes (take i changes) = ap history_of_changes (sym (take-append-drop i changes)) ∙ ap reverse (map-append change_entry (take i changes) (drop i changes)) ∙ reverse-append (map change_entry (take i changes)) (map change_entry (drop i changes)) in
    ap (λ P. prefix_at P m) split
    ∙ passed_over m (drop i changes) (history_of_changes (take i changes)) (beyond (λ (c : Change). c.moment) changes i m _ order next)
    ∙ whole m (history_of_changes (take i changes)) (all_by m (take i changes) before)

-- ---- requests

cost_before : (m t : ℕ) (row : FluidRow) → row.submit ≤ m → cost_by m t row ≡ cost_of t row
cost_before m t row h = ap (λ b. cond (nat_eq row.tenant t && b) row.cost 0) (le-leb _ _ h) ∙ elim (cases_Bool (nat_eq row.tenant t)) [
  | inl e ↦ rw e refl
  | inr e ↦ rw e refl
]

cost_after : (m t : ℕ) (row : FluidRow) → m < row.submit → cost_by m t row ≡ 0
cost_after m t row h = cond-false (nat_eq row.tenant t && nat_le row.submit m) _ _ (and_right _ _ (lt-leb _ _ h))

pub costs_to : (rows sorted : List FluidRow) (j m t : ℕ) → IsPermutation rows sorted → IsNonDecreasingBy (λ (r : FluidRow). r.submit) sorted → All (λ r. r.submit ≤ m) (take j sorted) → (j < length sorted → m < (row_of sorted j).submit) → sum_by (cost_of t) (take j sorted) ≡ costs_by rows m t
costs_to rows sorted j m t moved order before next =
    let joined : sum_by (cost_by m t) (take j sorted) ≡ sum_by (cost_of t) (take j sorted) = sum_same (cost_by m t) (cost_of t) (take j sorted) (λ k d l. cost_before m t _ (before k d l)) in
    let rest : sum_by (cost_by m t) (drop j sorted) ≡ 0 = sum_none (cost_by m t) (drop j sorted) (λ k d l. cost_after m t _ (beyond (λ (r : FluidRow). r.submit) sorted j m _ order next k d l)) in
    let both : sum_by (cost_by m t) (take j sorted) + sum_by (cost_by m t) (drop j sorted) ≡ sum_by (cost_by m t) sorted = sum_by-take-drop (cost_by m t) sorted j in
    let all : sum_by (cost_by m t) sorted ≡ costs_by rows m t = sum_by-IsPermutation (cost_by m t) rows sorted moved in
    omega (arith, joined, rest, both, all)
