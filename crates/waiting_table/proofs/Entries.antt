-- Entries, and the rows among them that wait.
use Rattle.std.proofs.Common.{◌≡◌, ◌≢◌, ℕ, zero, suc, ◌+◌, ◌<◌, ◌≤◌, Bool, true, false, cond, not, List, [], ◌∷◌, ◌++◌, Some, None, map, length, get_or, set, take, drop, arith, refl, sym, ap, ◌∙◌, subst, inl, inr}
use Rattle.std.specs.List.{All, filter, find, slice_get}
use Rattle.std.proofs.lemmas.Bool.{cases_Bool, cond-true, cond-false}
use Rattle.std.proofs.lemmas.List.{map-append, take-append-drop, append-nil, get_or-drop, length-drop}
use Rattle.std.proofs.lemmas.List.Elements.{filter-append, All-head, All-tail}
use Rattle.std.proofs.lemmas.Option.{none-some, same_Some}
use Rattle.waiting_table.specs.declared.row.Waiting.{Waiting}
use Rattle.waiting_table.specs.declared.order.Entry.{Entry}
use Rattle.waiting_table.specs.Order.{rows_of}

pub rows_yes : (x : Entry) (es : List Entry) → x.waits ≡ true → rows_of (x ∷ es) ≡ x.row ∷ rows_of es
rows_yes x es w = ap (λ (l : List Entry). map (λ (e : Entry). e.row) l) (cond-true x.waits (x ∷ filter (λ e. e.waits) es) (filter (λ e. e.waits) es) w)

pub rows_no : (x : Entry) (es : List Entry) → x.waits ≡ false → rows_of (x ∷ es) ≡ rows_of es
rows_no x es w = ap (λ (l : List Entry). map (λ (e : Entry). e.row) l) (cond-false x.waits (x ∷ filter (λ e. e.waits) es) (filter (λ e. e.waits) es) w)

pub rows_append : (xs ys : List Entry) → rows_of (xs ++ ys) ≡ rows_of xs ++ rows_of ys
rows_append xs ys =
    ap (λ (l : List Entry). map (λ (e : Entry). e.row) l) (filter-append (λ (e : Entry). e.waits) xs ys)
    ∙ map-append (λ (e : Entry). e.row) (filter (λ e. e.waits) xs) (filter (λ e. e.waits) ys)

-- what holds of each row holds of each entry that waits
pub all_rows : (P : Waiting → Type 0) (es : List Entry) → All P (rows_of es) → (k : ℕ) (d : Entry) → k < length es → (get_or es k d).waits ≡ true → P (get_or es k d).row
all_rows P [] h k d l w = absurd (omega (arith, l))
all_rows P (x ∷ es) h zero d l w = All-head P x.row (rows_of es) (subst (All P) (rows_yes x es w) h)
all_rows P (x ∷ es) h (suc k) d l w = elim (cases_Bool x.waits) [
  | inl y ↦ all_rows P es (All-tail P x.row (rows_of es) (subst (All P) (rows_yes x es y) h)) k d (omega (arith, l)) w
  | inr n ↦ all_rows P es (subst (All P) (rows_no x es n) h) k d (omega (arith, l)) w
]

-- holes are no rows
pub no_rows : (es : List Entry) → ((k : ℕ) (d : Entry) → k < length es → (get_or es k d).waits ≡ false) → rows_of es ≡ []
no_rows [] h = refl
no_rows (x ∷ es) h = rows_no x es (h 0 x (omega arith)) ∙ no_rows es (λ k d l. h (suc k) d (omega (arith, l)))

-- the first entry that waits has the first row
pub first_row : (es : List Entry) (i : ℕ) (e : Entry) → slice_get es i ≡ Some e → e.waits ≡ true → ((k : ℕ) (d : Entry) → k < i → (get_or es k d).waits ≡ false) → slice_get (rows_of es) 0 ≡ Some e.row
first_row [] i e at w before = absurd (none-some e at)
first_row (x ∷ es) zero e at w before =
    let same : x ≡ e = same_Some x e at in
    ap (λ (y : Entry). slice_get (rows_of (y ∷ es)) 0) same ∙ ap (λ (l : List Waiting). slice_get l 0) (rows_yes e es w)
first_row (x ∷ es) (suc i) e at w before =
    ap (λ (l : List Waiting). slice_get l 0) (rows_no x es (before 0 x (omega arith)))
    ∙ first_row es i e at w (λ k d l. before (suc k) d (omega (arith, l)))

-- so holes at the end may go
pub rows_before : (es : List Entry) (n : ℕ) → n ≤ length es → ((k : ℕ) (d : Entry) → n ≤ k → k < length es → (get_or es k d).waits ≡ false) → rows_of (take n es) ≡ rows_of es
rows_before es n within h =
    let none : rows_of (drop n es) ≡ [] = no_rows (drop n es) (λ k d l. subst (λ (e : Entry). e.waits ≡ false) (sym (get_or-drop n es k d)) (h (n + k) d (omega arith) (omega (arith, l, length-drop n es)))) in
    sym (append-nil (rows_of (take n es)))
    ∙ ap (λ l. rows_of (take n es) ++ l) (sym none)
    ∙ sym (rows_append (take n es) (drop n es))
    ∙ ap (λ l. rows_of l) (take-append-drop n es)

-- a squeeze leaves the rows
pub rows_squeezed : (es : List Entry) → rows_of (filter (λ e. e.waits) es) ≡ rows_of es
rows_squeezed [] = refl
rows_squeezed (x ∷ es) = elim (cases_Bool x.waits) [
  | inl y ↦
      ap (λ l. rows_of l) (cond-true x.waits (x ∷ filter (λ e. e.waits) es) (filter (λ e. e.waits) es) y)
      ∙ rows_yes x (filter (λ e. e.waits) es) y
      ∙ ap (λ (l : List Waiting). x.row ∷ l) (rows_squeezed es)
      ∙ sym (rows_yes x es y)
  | inr n ↦
      ap (λ l. rows_of l) (cond-false x.waits (x ∷ filter (λ e. e.waits) es) (filter (λ e. e.waits) es) n)
      ∙ rows_squeezed es
      ∙ sym (rows_no x es n)
]

module _ (p : Waiting → Bool) where
  find_yes : (w : Waiting) (ws : List Waiting) → p w ≡ true → find p (w ∷ ws) ≡ Some w
  find_yes w ws h = cond-true (p w) (Some w) (find p ws) h

  find_no : (w : Waiting) (ws : List Waiting) → p w ≡ false → find p (w ∷ ws) ≡ find p ws
  find_no w ws h = cond-false (p w) (Some w) (find p ws) h

  find_on : (x : Entry) (es : List Entry) → p x.row ≡ false → find p (rows_of (x ∷ es)) ≡ find p (rows_of es)
  find_on x es h = elim (cases_Bool x.waits) [
    | inl y ↦ ap (find p) (rows_yes x es y) ∙ find_no x.row (rows_of es) h
    | inr n ↦ ap (find p) (rows_no x es n)
  ]

  -- the only entry that passes waits
  pub find_at : (es : List Entry) (i : ℕ) (e : Entry) → slice_get es i ≡ Some e → e.waits ≡ true → p e.row ≡ true → ((k : ℕ) (d : Entry) → k < i → p (get_or es k d).row ≡ false) → find p (rows_of es) ≡ Some e.row
  find_at [] i e at w t before = absurd (none-some e at)
  find_at (x ∷ es) zero e at w t before =
      let same : x ≡ e = same_Some x e at in
      subst (λ (y : Entry). find p (rows_of (y ∷ es)) ≡ Some e.row) (sym same)
      (ap (find p) (rows_yes e es w) ∙ find_yes e.row (rows_of es) t)
  find_at (x ∷ es) (suc i) e at w t before =
      find_on x es (before 0 x (omega arith)) ∙ find_at es i e at w t (λ k d l. before (suc k) d (omega (arith, l)))

  -- no row passes
  pub find_none : (es : List Entry) → ((k : ℕ) (d : Entry) → k < length es → (get_or es k d).waits ≡ true → p (get_or es k d).row ≡ false) → find p (rows_of es) ≡ None
  find_none [] h = refl
  find_none (x ∷ es) h =
      let rest : find p (rows_of es) ≡ None = find_none es (λ k d l. h (suc k) d (omega (arith, l))) in
      elim (cases_Bool x.waits) [
        | inl y ↦ ap (find p) (rows_yes x es y) ∙ find_no x.row (rows_of es) (h 0 x (omega arith) y) ∙ rest
        | inr n ↦ ap (find p) (rows_no x es n) ∙ rest
      ]

  -- the entries before an index fail, and the others pass
  pub find_behind : (es : List Entry) (i : ℕ) → ((k : ℕ) (d : Entry) → k < i → p (get_or es k d).row ≡ false) → ((k : ℕ) (d : Entry) → i ≤ k → k < length es → p (get_or es k d).row ≡ true) → find p (rows_of es) ≡ slice_get (rows_of (drop i es)) 0
  find_behind [] zero before behind = refl
  find_behind [] (suc i) before behind = refl
  find_behind (x ∷ es) zero before behind = elim (cases_Bool x.waits) [
    | inl y ↦ ap (find p) (rows_yes x es y) ∙ find_yes x.row (rows_of es) (behind 0 x (omega arith) (omega arith)) ∙ sym (ap (λ (l : List Waiting). slice_get l 0) (rows_yes x es y))
    | inr n ↦
        ap (find p) (rows_no x es n)
        ∙ find_behind es zero (λ k d l. absurd (omega (arith, l))) (λ k d g l. behind (suc k) d (omega arith) (omega (arith, l)))
        ∙ sym (ap (λ (l : List Waiting). slice_get l 0) (rows_no x es n))
  ]
  find_behind (x ∷ es) (suc i) before behind =
      find_on x es (before 0 x (omega arith))
      ∙ find_behind es i (λ k d l. before (suc k) d (omega (arith, l))) (λ k d g l. behind (suc k) d (omega (arith, g)) (omega (arith, l)))

  keeps_no : (w : Waiting) (ws : List Waiting) → p w ≡ false → filter (λ w. not (p w)) (w ∷ ws) ≡ w ∷ filter (λ w. not (p w)) ws
  keeps_no w ws h = cond-true (not (p w)) (w ∷ filter (λ w. not (p w)) ws) (filter (λ w. not (p w)) ws) (ap not h)

  drops_yes : (w : Waiting) (ws : List Waiting) → p w ≡ true → filter (λ w. not (p w)) (w ∷ ws) ≡ filter (λ w. not (p w)) ws
  drops_yes w ws h = cond-false (not (p w)) (w ∷ filter (λ w. not (p w)) ws) (filter (λ w. not (p w)) ws) (ap not h)

  keeps_on : (x : Entry) (es : List Entry) (ws : List Waiting) → p x.row ≡ false → filter (λ w. not (p w)) (rows_of es) ≡ ws → filter (λ w. not (p w)) (rows_of (x ∷ es)) ≡ cond x.waits (x.row ∷ ws) ws
  keeps_on x es ws h e = elim (cases_Bool x.waits) [
    | inl y ↦ ap (filter (λ w. not (p w))) (rows_yes x es y) ∙ keeps_no x.row (rows_of es) h ∙ ap (λ (l : List Waiting). x.row ∷ l) e ∙ sym (cond-true x.waits (x.row ∷ ws) ws y)
    | inr n ↦ ap (filter (λ w. not (p w))) (rows_no x es n) ∙ e ∙ sym (cond-false x.waits (x.row ∷ ws) ws n)
  ]

  rows_cond : (x : Entry) (es : List Entry) → rows_of (x ∷ es) ≡ cond x.waits (x.row ∷ rows_of es) (rows_of es)
  rows_cond x es = elim (cases_Bool x.waits) [
    | inl y ↦ rows_yes x es y ∙ sym (cond-true x.waits (x.row ∷ rows_of es) (rows_of es) y)
    | inr n ↦ rows_no x es n ∙ sym (cond-false x.waits (x.row ∷ rows_of es) (rows_of es) n)
  ]

  keeps_all : (es : List Entry) → ((k : ℕ) (d : Entry) → k < length es → p (get_or es k d).row ≡ false) → filter (λ w. not (p w)) (rows_of es) ≡ rows_of es
  keeps_all [] h = refl
  keeps_all (x ∷ es) h =
      keeps_on x es (rows_of es) (h 0 x (omega arith)) (keeps_all es (λ k d l. h (suc k) d (omega (arith, l)))) ∙ sym (rows_cond x es)

  -- if one entry alone passes, the others are what is left once it is a hole
  pub rows_without : (es : List Entry) (i : ℕ) (e : Entry) → slice_get es i ≡ Some e → e.waits ≡ true → p e.row ≡ true → ((k : ℕ) (d : Entry) → k ≢ i → k < length es → p (get_or es k d).row ≡ false) → rows_of (set es i (record e { waits = false })) ≡ filter (λ w. not (p w)) (rows_of es)
  rows_without [] i e at w t others = absurd (none-some e at)
  rows_without (x ∷ es) zero e at w t others =
      let same : x ≡ e = same_Some x e at in
      let rest : filter (λ w. not (p w)) (rows_of es) ≡ rows_of es = keeps_all es (λ k d l. others (suc k) d (λ z. absurd (omega (arith, z))) (omega (arith, l))) in
      let gone : filter (λ w. not (p w)) (rows_of (e ∷ es)) ≡ rows_of es = ap (filter (λ w. not (p w))) (rows_yes e es w) ∙ drops_yes e.row (rows_of es) t ∙ rest in
      sym (ap (λ (y : Entry). filter (λ w. not (p w)) (rows_of (y ∷ es))) same ∙ gone)
  rows_without (x ∷ es) (suc i) e at w t others =
      let rest : rows_of (set es i (record e { waits = false })) ≡ filter (λ w. not (p w)) (rows_of es) = rows_without es i e at w t (λ k d ne l. others (suc k) d (λ z. ne (omega (arith, z))) (omega (arith, l))) in
      rows_cond x (set es i (record e { waits = false }))
      ∙ ap (λ (l : List Waiting). cond x.waits (x.row ∷ l) l) rest
      ∙ sym (keeps_on x es (filter (λ w. not (p w)) (rows_of es)) (others 0 x (λ z. absurd (omega (arith, z))) (omega arith)) refl)

  module _ (f : Waiting → Waiting) (stays : (w : Waiting) → p w ≡ false → f w ≡ w) where
    map_on : (x : Entry) (es : List Entry) (ws : List Waiting) → p x.row ≡ false → map f (rows_of es) ≡ ws → map f (rows_of (x ∷ es)) ≡ cond x.waits (x.row ∷ ws) ws
    map_on x es ws h e = elim (cases_Bool x.waits) [
      | inl y ↦ ap (map f) (rows_yes x es y) ∙ ap (λ (w : Waiting). w ∷ map f (rows_of es)) (stays x.row h) ∙ ap (λ (l : List Waiting). x.row ∷ l) e ∙ sym (cond-true x.waits (x.row ∷ ws) ws y)
      | inr n ↦ ap (map f) (rows_no x es n) ∙ e ∙ sym (cond-false x.waits (x.row ∷ ws) ws n)
    ]

    pub map_all : (es : List Entry) → ((k : ℕ) (d : Entry) → k < length es → (get_or es k d).waits ≡ true → p (get_or es k d).row ≡ false) → map f (rows_of es) ≡ rows_of es
    map_all [] h = refl
    map_all (x ∷ es) h =
        let rest : map f (rows_of es) ≡ rows_of es = map_all es (λ k d l. h (suc k) d (omega (arith, l))) in
        elim (cases_Bool x.waits) [
          | inl y ↦ map_on x es (rows_of es) (h 0 x (omega arith) y) rest ∙ sym (rows_cond x es)
          | inr n ↦ ap (map f) (rows_no x es n) ∙ rest ∙ sym (rows_no x es n)
        ]

    -- if one entry alone passes, its row alone is changed
    pub rows_mapped : (es : List Entry) (i : ℕ) (e : Entry) → slice_get es i ≡ Some e → e.waits ≡ true → ((k : ℕ) (d : Entry) → k ≢ i → k < length es → p (get_or es k d).row ≡ false) → rows_of (set es i (record e { row = f e.row })) ≡ map f (rows_of es)
    rows_mapped [] i e at w others = absurd (none-some e at)
    rows_mapped (x ∷ es) zero e at w others =
        let same : x ≡ e = same_Some x e at in
        let rest : map f (rows_of es) ≡ rows_of es = map_all es (λ k d l _. others (suc k) d (λ z. absurd (omega (arith, z))) (omega (arith, l))) in
        let now : map f (rows_of (e ∷ es)) ≡ f e.row ∷ rows_of es = ap (map f) (rows_yes e es w) ∙ ap (λ (l : List Waiting). f e.row ∷ l) rest in
        rows_yes (record e { row = f e.row }) es w ∙ sym (ap (λ (y : Entry). map f (rows_of (y ∷ es))) same ∙ now)
    rows_mapped (x ∷ es) (suc i) e at w others =
        let rest : rows_of (set es i (record e { row = f e.row })) ≡ map f (rows_of es) = rows_mapped es i e at w (λ k d ne l. others (suc k) d (λ z. ne (omega (arith, z))) (omega (arith, l))) in
        rows_cond x (set es i (record e { row = f e.row }))
        ∙ ap (λ (l : List Waiting). cond x.waits (x.row ∷ l) l) rest
        ∙ sym (map_on x es (map f (rows_of es)) (others 0 x (λ z. absurd (omega (arith, z))) (omega arith)) refl)

-- one row fewer waits once an entry is a hole
pub fewer_rows : (es : List Entry) (i : ℕ) (e : Entry) → slice_get es i ≡ Some e → e.waits ≡ true → length (rows_of (set es i (record e { waits = false }))) + 1 ≡ length (rows_of es)
fewer_rows [] i e at w = absurd (none-some e at)
fewer_rows (x ∷ es) zero e at w =
    let same : x ≡ e = same_Some x e at in
    let all : length (rows_of (x ∷ es)) ≡ suc (length (rows_of es)) = ap (λ (y : Entry). length (rows_of (y ∷ es))) same ∙ ap (λ (l : List Waiting). length l) (rows_yes e es w) in
    omega (arith, all)
fewer_rows (x ∷ es) (suc i) e at w =
    let rest : length (rows_of (set es i (record e { waits = false }))) + 1 ≡ length (rows_of es) = fewer_rows es i e at w in
    let here : (ys : List Entry) → length (rows_of (x ∷ ys)) ≡ cond x.waits 1 0 + length (rows_of ys) = λ ys. elim (cases_Bool x.waits) [
      | inl y ↦ (let a : length (rows_of (x ∷ ys)) ≡ suc (length (rows_of ys)) = ap (λ (l : List Waiting). length l) (rows_yes x ys y) in omega (arith, a, cond-true {A = ℕ} x.waits 1 0 y))
      | inr n ↦ (let a : length (rows_of (x ∷ ys)) ≡ length (rows_of ys) = ap (λ (l : List Waiting). length l) (rows_no x ys n) in omega (arith, a, cond-false {A = ℕ} x.waits 1 0 n))
    ] in
    omega (arith, rest, here (set es i (record e { waits = false })), here es)
