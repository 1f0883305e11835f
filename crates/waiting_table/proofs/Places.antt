-- The places of rows, and those that are free.
use Rattle.std.proofs.Common.{◌≡◌, ◌≢◌, ℕ, zero, suc, ◌+◌, ◌-◌, ◌<◌, ◌≤◌, Bool, true, false, cond, not, eqb, ltb, List, [], ◌∷◌, ◌++◌, Some, map, length, get_or, arith, refl, sym, ap, ◌∙◌, subst, inl, inr}
use Rattle.std.specs.List.{AllPairs, Contains, filter, find, count_by}
use Rattle.std.proofs.lemmas.Bool.{cases_Bool, cases_order, cond-true, cond-false, cond_both, eqb-true, eq-eqb, ne_eqb, le-ltb, lt-ltb, cases_lt, cases_eq}
use Rattle.std.proofs.lemmas.List.{get_or-map, length-map, get_or_default}
use Rattle.std.proofs.lemmas.List.Sums.{sum_by-cons, sum_by_push, get_or-le-sum_by}
use Rattle.std.proofs.lemmas.List.Elements.{All-contains, All-contains_itself, All-filter, Contains-get_or}
use Rattle.std.proofs.lemmas.List.Kept.{AllPairs-cons}
use Rattle.std.proofs.lemmas.Option.{none-some, same_Some}
use Rattle.waiting_table.specs.declared.row.Waiting.{Waiting}
use Rattle.waiting_table.specs.Table.{AreRising, has_ticket, numbered}
use Rattle.waiting_table.specs.Kept.{ArePlaces, key_at}

-- how often a row has this place, and how often it is among the free ones
abbrev pub taken : ℕ → List Waiting → ℕ
taken place rows = count_by (λ w. eqb w.place place) rows

abbrev pub spare : ℕ → List ℕ → ℕ
spare place free = count_by (λ p. eqb p place) free

pub one_at : (n place : ℕ) → n ≡ place → cond {A = ℕ} (eqb n place) 1 0 ≡ 1
one_at n place e = cond-true {A = ℕ} (eqb n place) 1 0 (eq-eqb n place e)

pub none_at : (n place : ℕ) → n ≢ place → cond {A = ℕ} (eqb n place) 1 0 ≡ 0
none_at n place ne = cond-false {A = ℕ} (eqb n place) 1 0 (ne_eqb n place ne)

-- a row takes its place
pub taken_by : (rows : List Waiting) (w : Waiting) → Contains rows w → 1 ≤ taken w.place rows
taken_by rows w h =
    let le : cond (eqb (get_or rows h.0 w).place w.place) 1 0 ≤ taken w.place rows = get_or-le-sum_by (λ (v : Waiting). cond (eqb v.place w.place) 1 0) rows h.0 w h.1 in
    omega (arith, le, one_at (get_or rows h.0 w).place w.place (ap (λ (v : Waiting). v.place) h.2))

pub taken_cons : (place : ℕ) (w : Waiting) (rows : List Waiting) → taken place (w ∷ rows) ≡ cond (eqb w.place place) 1 0 + taken place rows
taken_cons place w rows = sum_by-cons (λ (v : Waiting). cond (eqb v.place place) 1 0) w rows

-- if no place is taken twice, no two rows have one place
pub apart_from_taken : (rows : List Waiting) → ((place : ℕ) → taken place rows ≤ 1) → AllPairs (λ (w other : Waiting). w.place ≢ other.place) rows
apart_from_taken [] h = λ i j d lt l. absurd (omega (arith, l))
apart_from_taken (w ∷ rows) h =
    AllPairs-cons (λ (w other : Waiting). w.place ≢ other.place) w rows
    (λ k d l e.
    let v : Waiting = get_or rows k d in
    absurd (omega (arith, h v.place, taken_cons v.place w rows, one_at w.place v.place e, taken_by rows v (Contains-get_or rows k d l))))
    (apart_from_taken rows (λ place. omega (arith, h place, taken_cons place w rows)))

-- a place that is in the room
pub place_within : (rows : List Waiting) (free : List ℕ) (room : ℕ) → ArePlaces rows free room → (w : Waiting) → Contains rows w → w.place < room
place_within rows free room h w has = elim (cases_lt w.place room) [
  | inl l ↦ l
  | inr l ↦ absurd (omega (arith, h w.place, taken_by rows w has, cond-false {A = ℕ} (ltb w.place room) 1 0 (le-ltb w.place room l)))
]

pub cond_le : (b : Bool) → cond b 1 0 ≤ 1
cond_le b = cond_both {A = ℕ} b 1 0 (λ n. n ≤ 1) (λ e. omega arith) (λ e. omega arith)

-- a free place is in the room, and no row has it
pub free_within : (rows : List Waiting) (free : List ℕ) (room place : ℕ) → ArePlaces rows (free ++ place ∷ []) room → (place < room) × (taken place rows ≡ 0)
free_within rows free room place h =
    let more : spare place (free ++ place ∷ []) ≡ spare place free + cond (eqb place place) 1 0 = sum_by_push (λ p. cond (eqb p place) 1 0) free place in
    let one : cond {A = ℕ} (eqb place place) 1 0 ≡ 1 = one_at place place refl in
    elim (cases_lt place room) [
      | inl l ↦ (l, omega (arith, h place, more, one, cond_le (ltb place room)))
      | inr l ↦ absurd (omega (arith, h place, more, one, cond-false {A = ℕ} (ltb place room) 1 0 (le-ltb place room l)))
    ]

-- the free places of an empty room, from the greatest one down to this
module _ (free : List ℕ) (room given : ℕ) (some : given < room) (lower : (place : ℕ) → place < room - given → spare place free ≡ 0) where
  abbrev next : ℕ
  next = room - 1 - given

  more : (place : ℕ) → spare place (free ++ next ∷ []) ≡ spare place free + cond {A = ℕ} (eqb next place) 1 0
  more place = sum_by_push (λ p. cond (eqb p place) 1 0) free next

  pub places_more : ArePlaces [] free room → ArePlaces [] (free ++ next ∷ []) room
  places_more h place = elim (cases_eq next place) [
    | inl e ↦ omega (arith, more place, one_at next place e, lower place (omega (arith, e, some)), cond-true {A = ℕ} (ltb place room) 1 0 (lt-ltb place room (omega (arith, e, some))))
    | inr ne ↦ omega (arith, more place, none_at next place ne, h place)
  ]

  pub lower_more : (place : ℕ) → place < room - (given + 1) → spare place (free ++ next ∷ []) ≡ 0
  lower_more place l = omega (arith, more place, none_at next place (λ e. absurd (omega (arith, e, l, some))), lower place (omega (arith, l)))

module _ (ticket : ℕ) where
  abbrev pub others : List Waiting → List Waiting
  others rows = filter (λ w. not (has_ticket ticket w)) rows

  others_yes : (v : Waiting) (rows : List Waiting) → has_ticket ticket v ≡ true → others (v ∷ rows) ≡ others rows
  others_yes v rows y = cond-false (not (has_ticket ticket v)) (v ∷ others rows) (others rows) (ap not y)

  others_no : (v : Waiting) (rows : List Waiting) → has_ticket ticket v ≡ false → others (v ∷ rows) ≡ v ∷ others rows
  others_no v rows n = cond-true (not (has_ticket ticket v)) (v ∷ others rows) (others rows) (ap not n)

  pub found_here : (rows : List Waiting) (w : Waiting) → find (has_ticket ticket) rows ≡ Some w → Contains rows w
  found_here [] w h = absurd (none-some w h)
  found_here (v ∷ rows) w h = elim (cases_Bool (has_ticket ticket v)) [
    | inl y ↦ (0, omega arith, same_Some v w (sym (cond-true (has_ticket ticket v) (Some v) (find (has_ticket ticket) rows) y) ∙ h))
    | inr n ↦
        let rest = found_here rows w (sym (cond-false (has_ticket ticket v) (Some v) (find (has_ticket ticket) rows) n) ∙ h) in
        (suc rest.0, omega (arith, rest.1), rest.2)
  ]

  pub found_ticket : (rows : List Waiting) (w : Waiting) → find (has_ticket ticket) rows ≡ Some w → w.ticket ≡ ticket
  found_ticket [] w h = absurd (none-some w h)
  found_ticket (v ∷ rows) w h = elim (cases_Bool (has_ticket ticket v)) [
    | inl y ↦ ap (λ (x : Waiting). x.ticket) (sym (same_Some v w (sym (cond-true (has_ticket ticket v) (Some v) (find (has_ticket ticket) rows) y) ∙ h))) ∙ eqb-true v.ticket ticket y
    | inr n ↦ found_ticket rows w (sym (cond-false (has_ticket ticket v) (Some v) (find (has_ticket ticket) rows) n) ∙ h)
  ]

  -- tickets that rise are those of one row each
  pub same_row : (rows : List Waiting) (v w : Waiting) → AreRising rows → Contains rows v → Contains rows w → v.ticket ≡ w.ticket → v ≡ w
  same_row rows v w rising hv hw e =
      let at : (d : Waiting) → get_or rows hv.0 d ≡ v = λ d. get_or_default rows hv.0 d v hv.1 ∙ hv.2 in
      let aw : (d : Waiting) → get_or rows hw.0 d ≡ w = λ d. get_or_default rows hw.0 d w hw.1 ∙ hw.2 in
      elim (cases_order hv.0 hw.0) [
        | inl same ↦ sym (at v) ∙ ap (λ n. get_or rows n v) same ∙ aw v
        | inr (inl lower) ↦ absurd (omega (arith, rising hv.0 hw.0 v lower hw.1, ap (λ (x : Waiting). x.ticket) (at v), ap (λ (x : Waiting). x.ticket) (aw v), e))
        | inr (inr higher) ↦ absurd (omega (arith, rising hw.0 hv.0 v higher hv.1, ap (λ (x : Waiting). x.ticket) (at v), ap (λ (x : Waiting). x.ticket) (aw v), e))
      ]

  -- no other row has a ticket that is lower than all
  others_all : (rows : List Waiting) → ((k : ℕ) (d : Waiting) → k < length rows → ticket < (get_or rows k d).ticket) → others rows ≡ rows
  others_all [] h = refl
  others_all (v ∷ rows) h =
      others_no v rows (ne_eqb v.ticket ticket (λ e. absurd (omega (arith, h 0 v (omega arith), e))))
      ∙ ap (λ (l : List Waiting). v ∷ l) (others_all rows (λ k d l. h (suc k) d (omega (arith, l))))

  tail_rises : (v : Waiting) (rows : List Waiting) → AreRising (v ∷ rows) → AreRising rows
  tail_rises v rows h i j d lt l = h (suc i) (suc j) d (omega (arith, lt)) (omega (arith, l))

  -- a count of the others is less by the row
  pub count_others : (P : Waiting → Bool) (rows : List Waiting) (w : Waiting) → AreRising rows → find (has_ticket ticket) rows ≡ Some w → count_by P (others rows) + cond (P w) 1 0 ≡ count_by P rows
  count_others P [] w rising h = absurd (none-some w h)
  count_others P (v ∷ rows) w rising h =
      let head : count_by P (v ∷ rows) ≡ cond (P v) 1 0 + count_by P rows = sum_by-cons (λ (x : Waiting). cond (P x) 1 0) v rows in
      elim (cases_Bool (has_ticket ticket v)) [
        | inl y ↦
            let e : v ≡ w = same_Some v w (sym (cond-true (has_ticket ticket v) (Some v) (find (has_ticket ticket) rows) y) ∙ h) in
            let low : v.ticket ≡ ticket = eqb-true v.ticket ticket y in
            let all : others rows ≡ rows = others_all rows (λ k d l. omega (arith, rising 0 (suc k) d (omega arith) (omega (arith, l)), low)) in
            let left : count_by P (others (v ∷ rows)) ≡ count_by P rows = ap (λ (l : List Waiting). count_by P l) (others_yes v rows y ∙ all) in
            omega (arith, left, head, ap (λ (x : Waiting). cond {A = ℕ} (P x) 1 0) e)
        | inr n ↦
            let rest = count_others P rows w (tail_rises v rows rising) (sym (cond-false (has_ticket ticket v) (Some v) (find (has_ticket ticket) rows) n) ∙ h) in
            let left : count_by P (others (v ∷ rows)) ≡ cond (P v) 1 0 + count_by P (others rows) = ap (λ (l : List Waiting). count_by P l) (others_no v rows n) ∙ sum_by-cons (λ (x : Waiting). cond (P x) 1 0) v (others rows) in
            omega (arith, rest, left, head)
      ]

  pub others_are : (rows : List Waiting) (v : Waiting) → Contains (others rows) v → Contains rows v
  others_are rows v h = All-contains (Contains rows) (others rows) v (All-filter (λ w. not (has_ticket ticket w)) (Contains rows) rows (All-contains_itself rows)) h

  others_have_at : (rows : List Waiting) (v : Waiting) (k : ℕ) → k < length rows → get_or rows k v ≡ v → v.ticket ≢ ticket → Contains (others rows) v
  others_have_at [] v k l e ne = absurd (omega (arith, l))
  others_have_at (u ∷ rows) v zero l e ne =
      subst (λ (x : List Waiting). Contains x v) (sym (others_no u rows (ne_eqb u.ticket ticket (λ t. ne (ap (λ (x : Waiting). x.ticket) (sym e) ∙ t)))))
      (0, omega arith, e)
  others_have_at (u ∷ rows) v (suc k) l e ne =
      let rest = others_have_at rows v k (omega (arith, l)) e ne in
      elim (cases_Bool (has_ticket ticket u)) [
        | inl y ↦ subst (λ (x : List Waiting). Contains x v) (sym (others_yes u rows y)) rest
        | inr n ↦ subst (λ (x : List Waiting). Contains x v) (sym (others_no u rows n)) (suc rest.0, omega (arith, rest.1), rest.2)
      ]

  pub others_have : (rows : List Waiting) (v : Waiting) → Contains rows v → v.ticket ≢ ticket → Contains (others rows) v
  others_have rows v h ne = others_have_at rows v h.0 h.1 h.2 ne

-- ---- a number in the scheduler changes no ticket, place or key

module _ (ticket request : ℕ) where
  pub same_ticket : (w : Waiting) → (numbered ticket request w).ticket ≡ w.ticket
  same_ticket w = cond_both (has_ticket ticket w) (record w { request = Some request }) w (λ (v : Waiting). v.ticket ≡ w.ticket) (λ e. refl) (λ e. refl)

  pub same_place : (w : Waiting) → (numbered ticket request w).place ≡ w.place
  same_place w = cond_both (has_ticket ticket w) (record w { request = Some request }) w (λ (v : Waiting). v.place ≡ w.place) (λ e. refl) (λ e. refl)

  pub same_deadline : (w : Waiting) → (numbered ticket request w).deadline ≡ w.deadline
  same_deadline w = cond_both (has_ticket ticket w) (record w { request = Some request }) w (λ (v : Waiting). v.deadline ≡ w.deadline) (λ e. refl) (λ e. refl)

  pub same_key : (w : Waiting) → key_at (numbered ticket request w) ≡ key_at w
  same_key w = cond_both (has_ticket ticket w) (record w { request = Some request }) w (λ (v : Waiting). key_at v ≡ key_at w) (λ e. refl) (λ e. refl)

  pub taken_numbered : (place : ℕ) (rows : List Waiting) → taken place (map (numbered ticket request) rows) ≡ taken place rows
  taken_numbered place [] = refl
  taken_numbered place (w ∷ rows) =
      taken_cons place (numbered ticket request w) (map (numbered ticket request) rows)
      ∙ ap (λ n. cond (eqb n place) 1 0 + taken place (map (numbered ticket request) rows)) (same_place w)
      ∙ ap (λ n. cond (eqb w.place place) 1 0 + n) (taken_numbered place rows)
      ∙ sym (taken_cons place w rows)

  pub rising_numbered : (rows : List Waiting) → AreRising rows → AreRising (map (numbered ticket request) rows)
  rising_numbered rows rising i j d lt l =
      let size : length (map (numbered ticket request) rows) ≡ length rows = length-map rows (numbered ticket request) in
      let at : (k : ℕ) → k < length rows → (get_or (map (numbered ticket request) rows) k d).ticket ≡ (get_or rows k d).ticket = λ k h. ap (λ (w : Waiting). w.ticket) (get_or-map (numbered ticket request) rows k d d h) ∙ same_ticket (get_or rows k d) in
      omega (arith, at i (omega (arith, lt, l, size)), at j (omega (arith, l, size)), rising i j d lt (omega (arith, l, size)))
