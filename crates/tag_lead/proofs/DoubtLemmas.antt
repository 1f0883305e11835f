-- The doubt about the requests of the workers, one after another.
use Rattle.std.proofs.Common.{ℕ, ◌+◌, ◌-◌, ◌<◌, ◌≤◌, ◌≡◌, ◌==◌, ◌∙◌, cond, Bool, false, refl, sym, ap, ap₂, subst, arith, inl, inr, List, length, Option, Some, None, add-one}
use Rattle.std.specs.Prelude.{slice_index, IfSome}
use Rattle.std.proofs.lemmas.Bool.{cases_eq, eq-eqb, ne_eqb}
use Rattle.vt_fixed.specs.Rounding.{length_of}
use Rattle.fq_model.specs.declared.config.Config.{Config}
use Rattle.fq_model.specs.Limits.{InLimits}
use Rattle.fq_model.specs.History.{History, request_at, is_of_tenant, running_on}
use Rattle.fq_model.specs.Charge.{charge, taken_weight}
use Rattle.fq_model.specs.Lead.{request_length, of_request, over_running, doubt}
use Rattle.fq_model.specs.Rules.{IsLegal}
use Rattle.fq_model.specs.Sums.{sum_below}
use Rattle.fq_laws.proofs.History.Asked.{of_own, of_other}
use Rattle.fq_laws.proofs.Sums.{sum_same}
use Rattle.charge_book.specs.declared.row.RunRow.{RunRow}
use Rattle.charge_book.specs.Rows.{row_charge}
use Rattle.charge_book.specs.Histories.{run_row, row_of_worker}
use Rattle.charge_book.proofs.Rows.{of_worker_none}
use Rattle.tag_lead.specs.Doubts.{CanDoubt, part_of}
use Rattle.tag_lead.proofs.Rows.{RowIs, row_is, own_measurable}

-- ---- one worker

-- by how much its request may become longer, where it is one of tenant t
abbrev pub rise_on : Config → History → List ℕ → ℕ → ℕ → ℕ
rise_on C P longest t i = of_request P t (λ r. slice_index longest r - request_length C P t r) (running_on P i)

-- and shorter
abbrev pub fall_on : Config → History → List ℕ → ℕ → ℕ → ℕ
fall_on C P shortest t i = of_request P t (λ r. request_length C P t r - slice_index shortest r) (running_on P i)

same_part : (v : ℕ → ℕ) (own mine : Bool) (c k w z : ℕ) → own ≡ mine → c ≡ k → w ≡ z → cond own (v (length_of c w)) 0 ≡ cond mine (v (length_of k z)) 0
same_part v own mine c k w z e f g = rw (e, f, g) refl

no_part : (own mine : Bool) (x y : ℕ) → own ≡ false → mine ≡ false → cond own x 0 ≡ cond mine y 0
no_part own mine x y e f = rw (e, f) refl

-- a number reckoned from the length of a request, where it is one of tenant t
row_part : (v : ℕ → ℕ) (C : Config) (P : History) (i r t : ℕ) (x : RowIs C P i r) → cond (x.what.tenant == t) (v (length_of (row_charge (run_row C P r x.what)) (taken_weight C P x.what.tenant r))) 0 ≡ cond (is_of_tenant t (request_at P r)) (v (request_length C P t r)) 0
row_part v C P i r t x = elim (cases_eq x.what.tenant t) [
  | inl own ↦ same_part v _ _ _ (charge P r) _ _ (eq-eqb x.what.tenant t own ∙ sym (of_own P t r x.what x.was own)) (sym x.charge_was) (ap (λ (u : ℕ). taken_weight C P u r) own)
  | inr other ↦ no_part _ _ _ _ (ne_eqb x.what.tenant t other) (of_other P t r x.what x.was other)
]

-- the doubt by a worker's row is the doubt that the worker adds
pub part_is : (C : Config) (P : History) (longest shortest : List ℕ) (f g i : ℕ) (row : Option RunRow) → IsLegal C P → row ≡ row_of_worker C P i → part_of longest shortest f g row ≡ rise_on C P longest f i + fall_on C P shortest g i
part_is C P longest shortest f g i row l is = ap (part_of longest shortest f g) is ∙ go (running_on P i) refl
  where
    go : (o : Option ℕ) → running_on P i ≡ o → part_of longest shortest f g (row_of_worker C P i) ≡ of_request P f (λ r. slice_index longest r - request_length C P f r) o + of_request P g (λ r. request_length C P g r - slice_index shortest r) o
    go None on = rw (of_worker_none C P i on) refl
    go (Some r) on = let x : RowIs C P i r = row_is C P i r l on in rw x.row_is (ap₂ (λ (a : ℕ) b. a + b) (row_part (λ n. slice_index longest r - n) C P i r f x) (row_part (λ n. n - slice_index shortest r) C P i r g x))

-- the row fits the lists
pub can_doubt : (C : Config) (P : History) (n m i : ℕ) (row : Option RunRow) → InLimits C → IsLegal C P → length P ≤ n → length P ≤ m → row ≡ row_of_worker C P i → IfSome row (CanDoubt n m)
can_doubt C P n m i row lim l few less is = subst (λ o. IfSome o (CanDoubt n m)) (sym is) (go (running_on P i) refl)
  where
    go : (o : Option ℕ) → running_on P i ≡ o → IfSome (row_of_worker C P i) (CanDoubt n m)
    go None on = rw (of_worker_none C P i on) tt
    go (Some r) on =
        let x : RowIs C P i r = row_is C P i r l on in
        rw x.row_is (record { measurable = own_measurable C P i r x lim l; among_longest = omega (arith, x.below, few); among_shortest = omega (arith, x.below, less) })

-- ---- all workers

-- the doubt about the first n workers
abbrev pub doubt_below : Config → History → List ℕ → List ℕ → ℕ → ℕ → ℕ → ℕ
doubt_below C P longest shortest f g n = sum_below (rise_on C P longest f) n + sum_below (fall_on C P shortest g) n

pub doubt_none : (C : Config) (P : History) (longest shortest : List ℕ) (f g : ℕ) → doubt_below C P longest shortest f g 0 ≡ 0
unfolding sum_below
doubt_none C P longest shortest f g = refl

pub doubt_more : (C : Config) (P : History) (longest shortest : List ℕ) (f g n part : ℕ) → part ≡ rise_on C P longest f n + fall_on C P shortest g n → doubt_below C P longest shortest f g (n + 1) ≡ doubt_below C P longest shortest f g n + part
unfolding sum_below
doubt_more C P longest shortest f g n part is = rw add-one (omega (arith, is))

pub doubt_all : (C : Config) (P : History) (longest shortest : List ℕ) (f g : ℕ) → doubt_below C P longest shortest f g C.workers ≡ doubt (slice_index longest) (slice_index shortest) C P f g
unfolding over_running
doubt_all C P longest shortest f g = refl

-- ---- by the lengths of the requests in a longer history

over_same : (C : Config) (P : History) (t : ℕ) (x y : ℕ → ℕ) → ((i r : ℕ) → running_on P i ≡ Some r → x r ≡ y r) → over_running C P t x ≡ over_running C P t y
unfolding over_running
over_same C P t x y same = sum_same (λ i. of_request P t x (running_on P i)) (λ i. of_request P t y (running_on P i)) C.workers (λ i b. go (running_on P i) (λ r on. same i r on))
  where
    go : (o : Option ℕ) → ((r : ℕ) → o ≡ Some r → x r ≡ y r) → of_request P t x o ≡ of_request P t y o
    go None h = refl
    go (Some r) h = ap (λ (n : ℕ). cond (is_of_tenant t (request_at P r)) n 0) (h r refl)

-- the doubt by lists that are of H
pub doubt_same : (C : Config) (P : History) (longest shortest : List ℕ) (cap low : ℕ → ℕ) (f g n : ℕ) → IsLegal C P → length P ≤ n → ((r : ℕ) → r < n → slice_index longest r ≡ cap r) → ((r : ℕ) → r < n → slice_index shortest r ≡ low r) → doubt (slice_index longest) (slice_index shortest) C P f g ≡ doubt cap low C P f g
doubt_same C P longest shortest cap low f g n l few caps lows =
    ap₂ (λ (a : ℕ) b. a + b)
    (over_same C P f _ _ (λ i r on. let x : RowIs C P i r = row_is C P i r l on in ap (λ (c : ℕ). c - request_length C P f r) (caps r (omega (arith, x.below, few)))))
    (over_same C P g _ _ (λ i r on. let x : RowIs C P i r = row_is C P i r l on in ap (λ (c : ℕ). request_length C P g r - c) (lows r (omega (arith, x.below, few)))))
