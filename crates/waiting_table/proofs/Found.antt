-- What is found in a table after each change, and by a walk.
use Rattle.std.proofs.Common.{◌≡◌, ◌≢◌, ℕ, zero, suc, ◌+◌, ◌<◌, ◌≤◌, Bool, true, false, cond, not, eqb, leb, List, [], ◌∷◌, ◌++◌, Option, Some, None, map, length, get_or, arith, refl, sym, ap, ◌∙◌, subst, inl, inr}
use Rattle.std.specs.List.{All, filter, find}
use Rattle.std.specs.Option.{option_map}
use Rattle.std.proofs.lemmas.Bool.{cases_Bool, cases_eq, cond-true, cond-false, eqb-true, eq-eqb, ne_eqb, le-leb, lt-leb}
use Rattle.std.proofs.lemmas.List.{append_assoc, get_or-append-add, length-append}
use Rattle.std.proofs.lemmas.List.Elements.{All-nil, All-head, All-tail, All-push, All-weaker}
use Rattle.waiting_table.specs.declared.row.Due.{Due}
use Rattle.waiting_table.specs.declared.row.Waiting.{Waiting}
use Rattle.waiting_table.specs.Table.{TableView, AreRising, has_ticket, first_from, numbered, row_of}
use Rattle.waiting_table.specs.Due.{IsNoLater}
use Rattle.waiting_table.specs.Laws.{AddedIsFound, RemovedIsGone, ForwardedIsFound, WalkMeetsEach, FirstDueIsUnique, met, walk}
use Rattle.waiting_table.proofs.Places.{same_ticket}

module _ (p : Waiting → Bool) where
  yes_first : (w : Waiting) (ws : List Waiting) → p w ≡ true → find p (w ∷ ws) ≡ Some w
  yes_first w ws h = cond-true (p w) (Some w) (find p ws) h

  not_first : (w : Waiting) (ws : List Waiting) → p w ≡ false → find p (w ∷ ws) ≡ find p ws
  not_first w ws h = cond-false (p w) (Some w) (find p ws) h

  -- a search passes over rows that fail
  find_past : (xs ys : List Waiting) → All (λ w. p w ≡ false) xs → find p (xs ++ ys) ≡ find p ys
  find_past [] ys h = refl
  find_past (w ∷ xs) ys h =
      not_first w (xs ++ ys) (All-head (λ w. p w ≡ false) w xs h) ∙ find_past xs ys (All-tail (λ w. p w ≡ false) w xs h)

  -- a row at the end that fails
  find_before : (xs : List Waiting) (w : Waiting) → p w ≡ false → find p (xs ++ w ∷ []) ≡ find p xs
  find_before [] w h = not_first w [] h
  find_before (v ∷ xs) w h = ap (λ (o : Option Waiting). cond (p v) (Some v) o) (find_before xs w h)

pub added_is_found : AddedIsFound
added_is_found v w ticket above = elim (cases_eq ticket w.ticket) [
  | inl e ↦
      find_past (has_ticket ticket) v.rows (w ∷ []) (All-weaker (λ (u : Waiting). u.ticket < w.ticket) (λ (u : Waiting). has_ticket ticket u ≡ false) (λ u l. ne_eqb u.ticket ticket (λ t. absurd (omega (arith, l, t, e)))) v.rows above)
      ∙ yes_first (has_ticket ticket) w [] (eq-eqb w.ticket ticket (sym e))
      ∙ sym (cond-true (eqb ticket w.ticket) (Some w) (row_of v ticket) (eq-eqb ticket w.ticket e))
  | inr ne ↦
      find_before (has_ticket ticket) v.rows w (ne_eqb w.ticket ticket (λ t. ne (sym t)))
      ∙ sym (cond-false (eqb ticket w.ticket) (Some w) (row_of v ticket) (ne_eqb ticket w.ticket ne))
]

module _ (removed : ℕ) where
  kept : (w : Waiting) (ws : List Waiting) → has_ticket removed w ≡ false → filter (λ w. not (has_ticket removed w)) (w ∷ ws) ≡ w ∷ filter (λ w. not (has_ticket removed w)) ws
  kept w ws h = cond-true (not (has_ticket removed w)) (w ∷ filter (λ w. not (has_ticket removed w)) ws) (filter (λ w. not (has_ticket removed w)) ws) (ap not h)

  left_out : (w : Waiting) (ws : List Waiting) → has_ticket removed w ≡ true → filter (λ w. not (has_ticket removed w)) (w ∷ ws) ≡ filter (λ w. not (has_ticket removed w)) ws
  left_out w ws h = cond-false (not (has_ticket removed w)) (w ∷ filter (λ w. not (has_ticket removed w)) ws) (filter (λ w. not (has_ticket removed w)) ws) (ap not h)

  gone : (ws : List Waiting) → find (has_ticket removed) (filter (λ w. not (has_ticket removed w)) ws) ≡ None
  gone [] = refl
  gone (w ∷ ws) = elim (cases_Bool (has_ticket removed w)) [
    | inl y ↦ ap (find (has_ticket removed)) (left_out w ws y) ∙ gone ws
    | inr n ↦ ap (find (has_ticket removed)) (kept w ws n) ∙ not_first (has_ticket removed) w (filter (λ w. not (has_ticket removed w)) ws) n ∙ gone ws
  ]

  still : (ticket : ℕ) → ticket ≢ removed → (ws : List Waiting) → find (has_ticket ticket) (filter (λ w. not (has_ticket removed w)) ws) ≡ find (has_ticket ticket) ws
  still ticket ne [] = refl
  still ticket ne (w ∷ ws) = elim (cases_Bool (has_ticket removed w)) [
    | inl y ↦
        ap (find (has_ticket ticket)) (left_out w ws y)
        ∙ still ticket ne ws
        ∙ sym (not_first (has_ticket ticket) w ws (ne_eqb w.ticket ticket (λ e. ne (sym e ∙ eqb-true w.ticket removed y))))
    | inr n ↦
        ap (find (has_ticket ticket)) (kept w ws n)
        ∙ ap (λ (o : Option Waiting). cond (has_ticket ticket w) (Some w) o) (still ticket ne ws)
  ]

pub removed_is_gone : RemovedIsGone
removed_is_gone v removed ticket = elim (cases_eq ticket removed) [
  | inl e ↦
      ap (λ n. find (has_ticket n) (filter (λ w. not (has_ticket removed w)) v.rows)) e
      ∙ gone removed v.rows
      ∙ sym (cond-true (eqb ticket removed) None (row_of v ticket) (eq-eqb ticket removed e))
  | inr ne ↦
      still removed ticket ne v.rows ∙ sym (cond-false (eqb ticket removed) None (row_of v ticket) (ne_eqb ticket removed ne))
]

found_numbered : (sent request ticket : ℕ) (ws : List Waiting) → find (has_ticket ticket) (map (numbered sent request) ws) ≡ option_map (numbered sent request) (find (has_ticket ticket) ws)
found_numbered sent request ticket [] = refl
found_numbered sent request ticket (w ∷ ws) =
    let same : has_ticket ticket (numbered sent request w) ≡ has_ticket ticket w = ap (λ n. eqb n ticket) (same_ticket sent request w) in
    elim (cases_Bool (has_ticket ticket w)) [
      | inl y ↦
          yes_first (has_ticket ticket) (numbered sent request w) (map (numbered sent request) ws) (same ∙ y)
          ∙ sym (ap (option_map (numbered sent request)) (yes_first (has_ticket ticket) w ws y))
      | inr n ↦
          not_first (has_ticket ticket) (numbered sent request w) (map (numbered sent request) ws) (same ∙ n)
          ∙ found_numbered sent request ticket ws
          ∙ sym (ap (option_map (numbered sent request)) (not_first (has_ticket ticket) w ws n))
    ]

pub forwarded_is_found : ForwardedIsFound
forwarded_is_found v sent request ticket = found_numbered sent request ticket v.rows

-- ---- a walk

abbrev table : ℕ → List Waiting → TableView
table room rows = record { rows = rows; room = room }

-- a walk that is past the front rows, and before the others
walk_on : (room : ℕ) (front back : List Waiting) (from steps : ℕ) → AreRising (front ++ back) → All (λ w. w.ticket < from) front → All (λ w. from ≤ w.ticket) back → length back ≤ steps → walk steps (table room (front ++ back)) from ≡ back
walk_on room front [] from zero rising past ahead enough = refl
walk_on room front [] from (suc steps) rising past ahead enough =
    ap (met (walk steps (table room (front ++ []))))
    (find_past (λ w. leb from w.ticket) front [] (All-weaker (λ (w : Waiting). w.ticket < from) (λ (w : Waiting). leb from w.ticket ≡ false) (λ w l. lt-leb from w.ticket l) front past))
walk_on room front (w ∷ back) from zero rising past ahead enough = absurd (omega (arith, enough))
walk_on room front (w ∷ back) from (suc steps) rising past ahead enough =
    let at : from ≤ w.ticket = All-head (λ (v : Waiting). from ≤ v.ticket) w back ahead in
    let first : first_from (table room (front ++ w ∷ back)) from ≡ Some w =
    find_past (λ v. leb from v.ticket) front (w ∷ back) (All-weaker (λ (v : Waiting). v.ticket < from) (λ (v : Waiting). leb from v.ticket ≡ false) (λ v l. lt-leb from v.ticket l) front past)
    ∙ yes_first (λ v. leb from v.ticket) w back (le-leb from w.ticket at) in
    let split : (front ++ w ∷ []) ++ back ≡ front ++ w ∷ back = append_assoc front (w ∷ []) back in
    let done : All (λ (v : Waiting). v.ticket < w.ticket + 1) (front ++ w ∷ []) =
    All-push (λ (v : Waiting). v.ticket < w.ticket + 1) front w (All-weaker (λ (v : Waiting). v.ticket < from) (λ (v : Waiting). v.ticket < w.ticket + 1) (λ v l. omega (arith, l, at)) front past) (omega arith) in
    let left : All (λ (v : Waiting). w.ticket + 1 ≤ v.ticket) back = λ k d l.
    let size : length (front ++ w ∷ back) ≡ length front + suc (length back) = length-append front (w ∷ back) in
    let here : (get_or (front ++ w ∷ back) (length front + 0) d).ticket ≡ w.ticket = ap (λ (v : Waiting). v.ticket) (get_or-append-add front (w ∷ back) 0 d) in
    let there : (get_or (front ++ w ∷ back) (length front + suc k) d).ticket ≡ (get_or back k d).ticket = ap (λ (v : Waiting). v.ticket) (get_or-append-add front (w ∷ back) (suc k) d) in
    omega (arith, here, there, rising (length front + 0) (length front + suc k) d (omega arith) (omega (arith, l, size))) in
    let rest : walk steps (table room ((front ++ w ∷ []) ++ back)) (w.ticket + 1) ≡ back =
    walk_on room (front ++ w ∷ []) back (w.ticket + 1) steps (subst AreRising (sym split) rising) done left (omega (arith, enough)) in
    ap (met (walk steps (table room (front ++ w ∷ back)))) first
    ∙ ap (λ (l : List Waiting). w ∷ l) (ap (λ (l : List Waiting). walk steps (table room l) (w.ticket + 1)) (sym split) ∙ rest)

pub walk_meets_each : WalkMeetsEach
walk_meets_each v steps k enough =
    walk_on v.room [] v.rows 0 steps k.rising (All-nil (λ (w : Waiting). w.ticket < 0)) (λ i d l. omega arith) enough

-- ---- the first deadline

same_dues : (d e : Due) → IsNoLater d e → IsNoLater e d → (d.deadline ≡ e.deadline) × (d.ticket ≡ e.ticket)
same_dues d e (inl h) (inl g) = absurd (omega (arith, h, g))
same_dues d e (inl h) (inr g) = absurd (omega (arith, h, g.0))
same_dues d e (inr h) (inl g) = absurd (omega (arith, h.0, g))
same_dues d e (inr h) (inr g) = (h.0, omega (arith, h.1, g.1))

pub first_due_is_unique : FirstDueIsUnique
first_due_is_unique v d e h g =
    let same = same_dues d e (h.first e g.due) (g.first d h.due) in
    ap (λ n. let x : Due = record { deadline = n; ticket = d.ticket } in x) same.0
    ∙ ap (λ n. let x : Due = record { deadline = e.deadline; ticket = n } in x) same.1
