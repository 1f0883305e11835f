-- The places of held requests, as what is held changes.
use Rattle.std.proofs.Common.{ℕ, suc, ◌≡◌, ◌≢◌, ◌+◌, ◌/◌, ◌%◌, ◌<◌, ◌≤◌, List, [], ◌∷◌, ◌++◌, length, get_or, drop, sum_by, cond, eqb, refl, arith, ap, sym, subst, ◌∙◌, inl, inr}
use Rattle.std.proofs.lemmas.Bool.{cases_Bool, cond-true, cond-false, eq-eqb, eqb-true, ne_eqb}
use Rattle.std.specs.List.{All}
use Rattle.std.proofs.lemmas.List.{length-set}
use Rattle.std.proofs.lemmas.List.Elements.{All-nil, All-cons, All-head, All-tail}
use Rattle.std.proofs.lemmas.List.Sums.{get_or-le-sum_by, sum_by-set, sum_by-cons, sum_by-append, sum_by_push}
use Rattle.request_limits.specs.declared.held.Held.{Held}
use Rattle.request_limits.specs.Limits.{LimitsView, HasCells, HasCell, kinds, cell_of, held_in, IsFree, with_held, with_youngest, IsRemoved}
use Rattle.request_limits.specs.Kept.{count_at, all_at, AreTotals, Keeps}
use Rattle.request_limits.proofs.Sends.{cell_held, split_known, split_is}

-- whether a held request has this place, as a number
abbrev pub one_at : ℕ → Held → ℕ
one_at place h = cond (eqb h.place place) 1 0

one_of : (place : ℕ) (h : Held) → h.place ≡ place → one_at place h ≡ 1
one_of place h same = cond-true {A = ℕ} (eqb h.place place) 1 0 (eq-eqb h.place place same)

one_small : (place : ℕ) (h : Held) → one_at place h ≤ 1
one_small place h = elim (cases_Bool (eqb h.place place)) [
  | inl e ↦ omega (arith, cond-true {A = ℕ} (eqb h.place place) 1 0 e)
  | inr e ↦ omega (arith, cond-false {A = ℕ} (eqb h.place place) 1 0 e)
]

-- ---- a free place

count_none : (place : ℕ) (list : List Held) → All (λ h. h.place ≢ place) list → count_at place list ≡ 0
count_none place [] none = refl
count_none place (h ∷ list) none =
    let first : one_at place h ≡ 0 = cond-false {A = ℕ} (eqb h.place place) 1 0 (ne_eqb h.place place (All-head (λ (q : Held). q.place ≢ place) h list none)) in
    omega (arith, first, count_none place list (All-tail (λ (q : Held). q.place ≢ place) h list none), sum_by-cons (one_at place) h list)

none_of_count : (place : ℕ) (list : List Held) → count_at place list ≡ 0 → All (λ h. h.place ≢ place) list
none_of_count place [] none = All-nil (λ (q : Held). q.place ≢ place)
none_of_count place (h ∷ list) none =
    All-cons (λ (q : Held). q.place ≢ place) h list
    (λ same. absurd (omega (arith, none, one_of place h same, sum_by-cons (one_at place) h list)))
    (none_of_count place list (omega (arith, none, sum_by-cons (one_at place) h list)))

none_in : (place : ℕ) (lists : List (List Held)) → ((cell : ℕ) → cell < length lists → All (λ h. h.place ≢ place) (get_or lists cell [])) → sum_by (count_at place) lists ≡ 0
none_in place [] none = refl
none_in place (list ∷ lists) none =
    omega (arith, count_none place list (none 0 (omega arith)), none_in place lists (λ cell below. none (suc cell) (omega arith)), sum_by-cons (count_at place) list lists)

pub none_at_free : (v : LimitsView) (place : ℕ) → HasCells v → IsFree v place → all_at v place ≡ 0
none_at_free v place cells free =
    none_in place v.held
    (λ cell below. subst (λ i. All (λ (h : Held). h.place ≢ place) (get_or v.held i [])) (sym (split_is v cell)) (free (cell / kinds v) (cell % kinds v) (split_known v cell (omega (arith, below, cells.held_size)))))

pub free_from_none : (v : LimitsView) (place : ℕ) → HasCells v → all_at v place ≡ 0 → IsFree v place
free_from_none v place cells none = λ slot kind known.
    none_of_count place (held_in v slot kind)
    (omega (arith, none, get_or-le-sum_by (count_at place) v.held (cell_of v slot kind) [] (cell_held v slot kind cells known)))

-- ---- changes

module _ (v : LimitsView) (slot kind : ℕ) (cells : HasCells v) (known : HasCell v slot kind) where
  -- as many have a place as before, but for those of this slot and kind
  pub all_at_with : (place : ℕ) (list : List Held) → all_at (with_held v slot kind list) place + count_at place (held_in v slot kind) ≡ all_at v place + count_at place list
  all_at_with place list = sum_by-set (count_at place) v.held (cell_of v slot kind) list [] (cell_held v slot kind cells known)

  pub cells_with : (list : List Held) → HasCells (with_held v slot kind list)
  cells_with list = record {
    slots_fit = cells.slots_fit;
    kinds_fit = cells.kinds_fit;
    cells_fit = cells.cells_fit;
    sent_size = cells.sent_size;
    held_size = length-set v.held (cell_of v slot kind) list ∙ cells.held_size;
  }

  module _ (totals : List ℕ) (are : AreTotals v totals) (single : (place : ℕ) → all_at v place ≤ 1) where
    pub keeps_youngest : (h : Held) → IsFree v h.place → Keeps (with_youngest v slot kind h) totals
    keeps_youngest h free = record {
      cells = cells_with (held_in v slot kind ++ h ∷ []);
      totals_are = record { size = are.size; sums = are.sums };
      single = λ place.
          let more = sum_by_push (one_at place) (held_in v slot kind) h in
          let all = all_at_with place (held_in v slot kind ++ h ∷ []) in
          elim (cases_Bool (eqb h.place place)) [
            | inl e ↦
                let none : all_at v place ≡ 0 = ap (all_at v) (sym (eqb-true h.place place e)) ∙ none_at_free v h.place cells free in
                omega (arith, none, more, all, one_small place h)
            | inr e ↦ omega (arith, single place, more, all, cond-false {A = ℕ} (eqb h.place place) 1 0 e)
          ];
    }

    pub keeps_fewer : (list : List Held) → ((place : ℕ) → count_at place list ≤ count_at place (held_in v slot kind)) → Keeps (with_held v slot kind list) totals
    keeps_fewer list fewer = record {
      cells = cells_with list;
      totals_are = record { size = are.size; sums = are.sums };
      single = λ place. omega (arith, single place, fewer place, all_at_with place list);
    }

pub rest_fewer : (list : List Held) (place : ℕ) → count_at place (drop 1 list) ≤ count_at place list
rest_fewer [] place = omega arith
rest_fewer (h ∷ list) place = omega (arith, sum_by-cons (one_at place) h list)

pub middle_at : (front rest : List Held) (h : Held) (place : ℕ) → count_at place (front ++ h ∷ rest) ≡ count_at place (front ++ rest) + one_at place h
middle_at front rest h place =
    omega (arith, sum_by-append (one_at place) front (h ∷ rest), sum_by-append (one_at place) front rest, sum_by-cons (one_at place) h rest)

-- once a held request is removed, its place is free
module _ (v w : LimitsView) (place : ℕ) (h : Held) (r : IsRemoved v place h w) (totals : List ℕ) (k : Keeps v totals) where
  counts : (p : ℕ) → count_at p (held_in v r.slot r.kind) ≡ count_at p (r.front ++ r.rest) + one_at p h
  counts p = ap (λ list. count_at p list) r.was ∙ middle_at r.front r.rest h p

  pub removed_keeps : Keeps w totals
  removed_keeps =
      subst (λ (u : LimitsView). Keeps u totals) (sym r.after)
      (keeps_fewer v r.slot r.kind k.cells r.known totals k.totals_are k.single (r.front ++ r.rest) (λ p. omega (arith, counts p)))

  pub removed_free : IsFree w place
  removed_free =
      let all = all_at_with v r.slot r.kind k.cells r.known place (r.front ++ r.rest) in
      let none : all_at (with_held v r.slot r.kind (r.front ++ r.rest)) place ≡ 0 = omega (arith, one_of place h r.place_is, all, counts place, k.single place) in
      free_from_none w place removed_keeps.cells (subst (λ (u : LimitsView). all_at u place ≡ 0) (sym r.after) none)
