-- Rising tickets of entries.
use Rattle.std.proofs.Common.{◌≡◌, ◌≢◌, ℕ, ◌+◌, ◌-◌, ◌<◌, ◌≤◌, true, false, ltb, leb, List, [], ◌∷◌, ◌++◌, Some, map, length, get_or, set, take, drop, not, ◌*◌, arith, refl, sym, ap, ◌∙◌, subst, inl, inr}
use Rattle.std.specs.List.{All, filter, find, slice_get}
use Rattle.std.specs.List.Sorted.{IsNonDecreasingBy, IsPartitionPoint}
use Rattle.std.proofs.lemmas.Bool.{cases_Bool, cases_eq, cases_order, lt-leb, le-leb, ltb-true, ltb-false, ne_eqb, eq-eqb, cond-true, cond-false}
use Rattle.std.proofs.lemmas.List.{get_or-map, get_or-set_same, get_or-set_other, get_or-take, length-take-le, length-set, length-map, length_push}
use Rattle.std.proofs.lemmas.List.Kept.{AllPairs-filter}
use Rattle.std.proofs.lemmas.List.Quantifiers.{all_pairs_push}
use Rattle.std.proofs.lemmas.Option.{slice_get_within, get_or_from_slice_get}
use Rattle.waiting_table.specs.declared.row.Waiting.{Waiting}
use Rattle.waiting_table.specs.declared.order.Entry.{Entry}
use Rattle.waiting_table.specs.Table.{AreRising, has_ticket, numbered}
use Rattle.waiting_table.specs.Order.{rows_of, EntriesRise, HasNone, IsEntryOf, IsPlaceOf, EndsAt, KeepsOrder, squeezed}
use Rattle.waiting_table.proofs.Entries.{all_rows, find_at, find_none, find_behind, rows_without, rows_mapped, rows_before, rows_append, rows_squeezed, fewer_rows}

pub rising_rows : (es : List Entry) → EntriesRise es → AreRising (rows_of es)
rising_rows es h i j d lt within =
    let kept : List Entry = filter (λ e. e.waits) es in
    let o : Entry = record { row = d; waits = false } in
    let size : length (rows_of es) ≡ length kept = length-map kept (λ (e : Entry). e.row) in
    let below : (get_or kept i o).row.ticket < (get_or kept j o).row.ticket = AllPairs-filter (λ (e later : Entry). e.row.ticket < later.row.ticket) (λ (e : Entry). e.waits) es h i j o lt (omega (arith, within, size)) in
    subst (λ (w : Waiting). w.ticket < (get_or (rows_of es) j d).ticket) (sym (get_or-map (λ (e : Entry). e.row) kept i o d (omega (arith, lt, within, size))))
    (subst (λ (w : Waiting). (get_or kept i o).row.ticket < w.ticket) (sym (get_or-map (λ (e : Entry). e.row) kept j o d (omega (arith, within, size)))) below)

pub nondecreasing : (es : List Entry) → EntriesRise es → IsNonDecreasingBy (λ e. e.row.ticket) es
nondecreasing es h i j d le within = elim (cases_eq i j) [
  | inl e ↦ (let s : (get_or es i d).row.ticket ≡ (get_or es j d).row.ticket = ap (λ k. (get_or es k d).row.ticket) e in omega (arith, s))
  | inr ne ↦ (let l : i < j = omega (arith, le, ne) in omega (arith, h i j d l within))
]

pub place_from_point : (es : List Entry) (ticket i : ℕ) → i ≤ length es → IsPartitionPoint (λ (e : Entry). ltb e.row.ticket ticket ≡ true) (λ (e : Entry). ltb e.row.ticket ticket ≡ false) es i → IsPlaceOf es ticket i
place_from_point es ticket i within h = record {
  within = within;
  before = λ k d l. ltb-true (get_or es k d).row.ticket ticket (h.0 k d (omega arith) l);
  behind = λ k d g l. ltb-false (get_or es k d).row.ticket ticket (h.1 k d g l);
}

-- the first row from a ticket on
pub first_behind : (es : List Entry) (ticket i : ℕ) → IsPlaceOf es ticket i → find (λ (w : Waiting). leb ticket w.ticket) (rows_of es) ≡ slice_get (rows_of (drop i es)) 0
first_behind es ticket i h =
    find_behind (λ (w : Waiting). leb ticket w.ticket) es i
    (λ k d l. lt-leb ticket (get_or es k d).row.ticket (h.before k d l))
    (λ k d g l. le-leb ticket (get_or es k d).row.ticket (h.behind k d g l))

module _ (es : List Entry) (ticket : ℕ) (rising : EntriesRise es) where
  -- if at the place of a ticket stands another one, or a hole, no row of the ticket waits
  pub none_from_place : (i : ℕ) → IsPlaceOf es ticket i → ((d : Entry) → i < length es → (get_or es i d).waits ≡ true → (get_or es i d).row.ticket ≢ ticket) → HasNone es ticket
  none_from_place i h apart = find_none (has_ticket ticket) es (λ k d l w. ne_eqb (get_or es k d).row.ticket ticket (λ e. elim (cases_order k i) [
    | inl at ↦ apart d (omega (arith, l, at)) (subst (λ n. (get_or es n d).waits ≡ true) at w) (subst (λ n. (get_or es n d).row.ticket ≡ ticket) at e)
    | inr (inl lower) ↦ absurd (omega (arith, h.before k d lower, e))
    | inr (inr higher) ↦ absurd (omega (arith, rising i k d higher l, h.behind i d (omega arith) (omega (arith, l, higher)), e))
  ]))

  module _ (i : ℕ) (found : IsEntryOf es ticket i) where
    pub entry_within : i < length es
    entry_within = slice_get_within es i found.entry found.stands

    here : (d : Entry) → get_or es i d ≡ found.entry
    here d = get_or_from_slice_get es i found.entry d found.stands

    has_it : has_ticket ticket found.entry.row ≡ true
    has_it = eq-eqb found.entry.row.ticket ticket found.ticket_is

    -- no other entry has the ticket
    others_apart : (k : ℕ) (d : Entry) → k ≢ i → k < length es → has_ticket ticket (get_or es k d).row ≡ false
    others_apart k d ne l = ne_eqb (get_or es k d).row.ticket ticket (λ e.
        let at : (get_or es i d).row.ticket ≡ ticket = ap (λ (x : Entry). x.row.ticket) (here d) ∙ found.ticket_is in
        elim (cases_order k i) [
          | inl same ↦ ne same
          | inr (inl lower) ↦ absurd (omega (arith, rising k i d lower entry_within, e, at))
          | inr (inr higher) ↦ absurd (omega (arith, rising i k d higher l, e, at))
        ])

    pub found_row : find (has_ticket ticket) (rows_of es) ≡ Some found.entry.row
    found_row = find_at (has_ticket ticket) es i found.entry found.stands found.waits has_it (λ k d l. others_apart k d (λ e. absurd (omega (arith, e, l))) (omega (arith, l, entry_within)))

    -- what is read at the index
    module _ (x : Entry) (read : x ≡ get_or es i x) where
      it : found.entry ≡ x
      it = sym (read ∙ here x)

      pub read_waits : x.waits ≡ true
      read_waits = ap (λ (y : Entry). y.waits) (sym it) ∙ found.waits

      pub read_row : find (has_ticket ticket) (rows_of es) ≡ Some x.row
      read_row = found_row ∙ ap (λ (y : Entry). Some y.row) it

      -- another entry of this ticket stands in its place
      pub rising_with : (e : Entry) → e.row.ticket ≡ x.row.ticket → EntriesRise (set es i e)
      rising_with e same j k d lt within =
          let ticket_at : (n : ℕ) → (get_or (set es i e) n d).row.ticket ≡ (get_or es n d).row.ticket = λ n. elim (cases_eq n i) [
            | inl at ↦ subst (λ m. (get_or (set es i e) m d).row.ticket ≡ (get_or es m d).row.ticket) (sym at) (ap (λ (y : Entry). y.row.ticket) (get_or-set_same es i e d entry_within) ∙ same ∙ ap (λ (y : Entry). y.row.ticket) (sym it) ∙ ap (λ (y : Entry). y.row.ticket) (sym (here d)))
            | inr ne ↦ ap (λ (y : Entry). y.row.ticket) (get_or-set_other es i n e d ne)
          ] in
          omega (arith, rising j k d lt (omega (arith, within, length-set es i e)), ticket_at j, ticket_at k)

      abbrev hole : List Entry
      hole = set es i (record x { waits = false })

      pub rows_removed : rows_of hole ≡ filter (λ w. not (has_ticket ticket w)) (rows_of es)
      rows_removed =
          ap (λ (y : Entry). rows_of (set es i (record y { waits = false }))) (sym it)
          ∙ rows_without (has_ticket ticket) es i found.entry found.stands found.waits has_it others_apart

      one_fewer : length (rows_of hole) + 1 ≡ length (rows_of es)
      one_fewer =
          ap (λ (y : Entry). length (rows_of (set es i (record y { waits = false }))) + 1) (sym it)
          ∙ fewer_rows es i found.entry found.stands found.waits

      abbrev renumbered : ℕ → List Entry
      renumbered request = set es i (record x { row = record x.row { request = Some request } })

      numbered_it : (request : ℕ) → numbered ticket request found.entry.row ≡ record found.entry.row { request = Some request }
      numbered_it request = cond-true (has_ticket ticket found.entry.row) (record found.entry.row { request = Some request }) found.entry.row has_it

      pub rows_forwarded : (request : ℕ) → rows_of (renumbered request) ≡ map (numbered ticket request) (rows_of es)
      rows_forwarded request =
          ap (λ (y : Entry). rows_of (set es i (record y { row = record y.row { request = Some request } }))) (sym it)
          ∙ ap (λ (w : Waiting). rows_of (set es i (record found.entry { row = w }))) (sym (numbered_it request))
          ∙ rows_mapped (has_ticket ticket) (numbered ticket request) (λ w h. cond-false (has_ticket ticket w) (record w { request = Some request }) w h)
          es i found.entry found.stands found.waits others_apart

      module _ (waiting room capacity : ℕ) (k : KeepsOrder es waiting room capacity) where
        pub some_wait : 0 < waiting
        some_wait = omega (arith, one_fewer, k.count)

        pub hole_rises : EntriesRise hole
        hole_rises = rising_with (record x { waits = false }) refl

        pub hole_count : waiting - 1 ≡ length (rows_of hole)
        hole_count = omega (arith, one_fewer, k.count)

        pub keeps_forwarded : (request : ℕ) → KeepsOrder (renumbered request) waiting room capacity
        keeps_forwarded request = record {
          rising = rising_with (record x { row = record x.row { request = Some request } }) refl;
          count = omega (arith, k.count, ap (λ (l : List Waiting). length l) (rows_forwarded request), length-map (rows_of es) (numbered ticket request));
          fits = k.fits;
          half = omega (arith, k.half, length-set es i (record x { row = record x.row { request = Some request } }));
          reserved = k.reserved;
        }

-- ---- a squeeze

pub squeezed_rows : (waiting : ℕ) (es : List Entry) → rows_of (squeezed waiting es) ≡ rows_of es
squeezed_rows waiting es = elim (cases_Bool (ltb (2 * waiting) (length es))) [
  | inl y ↦ ap (λ l. rows_of l) (cond-true (ltb (2 * waiting) (length es)) (filter (λ e. e.waits) es) es y) ∙ rows_squeezed es
  | inr n ↦ ap (λ l. rows_of l) (cond-false (ltb (2 * waiting) (length es)) (filter (λ e. e.waits) es) es n)
]

pub keeps_squeezed : (waiting room capacity : ℕ) (es : List Entry) → EntriesRise es → waiting ≡ length (rows_of es) → waiting ≤ room → 2 * room ≤ capacity → KeepsOrder (squeezed waiting es) waiting room capacity
keeps_squeezed waiting room capacity es rising count fits reserved = elim (cases_Bool (ltb (2 * waiting) (length es))) [
  | inl y ↦
      let kept : List Entry = filter (λ e. e.waits) es in
      let size : length (rows_of es) ≡ length kept = length-map kept (λ (e : Entry). e.row) in
      subst (λ (l : List Entry). KeepsOrder l waiting room capacity) (sym (cond-true (ltb (2 * waiting) (length es)) kept es y)) (record {
        rising = AllPairs-filter (λ (e later : Entry). e.row.ticket < later.row.ticket) (λ (e : Entry). e.waits) es rising;
        count = omega (arith, count, ap (λ (l : List Waiting). length l) (rows_squeezed es));
        fits = fits;
        half = omega (arith, size, count);
        reserved = reserved;
      })
  | inr n ↦
      subst (λ (l : List Entry). KeepsOrder l waiting room capacity) (sym (cond-false (ltb (2 * waiting) (length es)) (filter (λ e. e.waits) es) es n)) (record {
        rising = rising;
        count = count;
        fits = fits;
        half = ltb-false (2 * waiting) (length es) n;
        reserved = reserved;
      })
]

-- ---- a row at the end

module _ (es : List Entry) (n : ℕ) (ends : EndsAt es n) (w : Waiting) where
  abbrev pushed : List Entry
  pushed = take n es ++ record { row = w; waits = true } ∷ []

  pub rows_pushed : rows_of pushed ≡ rows_of es ++ w ∷ []
  rows_pushed =
      rows_append (take n es) (record { row = w; waits = true } ∷ [])
      ∙ ap (λ (l : List Waiting). l ++ w ∷ []) (rows_before es n ends.within ends.holes)

  module _ (above : All (λ (v : Waiting). v.ticket < w.ticket) (rows_of es)) (rising : EntriesRise es) where
    last_below : (d : Entry) → 0 < n → (get_or es (n - 1) d).row.ticket < w.ticket
    last_below d some = all_rows (λ (v : Waiting). v.ticket < w.ticket) es above (n - 1) d (omega (arith, some, ends.within)) (ends.last some d)

    each_below : (k : ℕ) (d : Entry) → k < length (take n es) → (get_or (take n es) k d).row.ticket < w.ticket
    each_below k d l =
        let size : length (take n es) ≡ n = length-take-le n es ends.within in
        let at : (get_or (take n es) k d).row.ticket ≡ (get_or es k d).row.ticket = ap (λ (e : Entry). e.row.ticket) (get_or-take n es k d (omega (arith, l, size))) in
        let last : (get_or es (n - 1) d).row.ticket < w.ticket = last_below d (omega (arith, l, size)) in
        elim (cases_eq k (n - 1)) [
          | inl e ↦ (let same : (get_or es k d).row.ticket ≡ (get_or es (n - 1) d).row.ticket = ap (λ m. (get_or es m d).row.ticket) e in omega (arith, at, last, same))
          | inr ne ↦ omega (arith, at, last, rising k (n - 1) d (omega (arith, l, size, ne)) (omega (arith, l, size, ends.within)))
        ]

    rising_taken : EntriesRise (take n es)
    rising_taken i j d lt l =
        let size : length (take n es) ≡ n = length-take-le n es ends.within in
        omega (arith, ap (λ (e : Entry). e.row.ticket) (get_or-take n es i d (omega (arith, lt, l, size))), ap (λ (e : Entry). e.row.ticket) (get_or-take n es j d (omega (arith, l, size))), rising i j d lt (omega (arith, l, size, ends.within)))

    rising_pushed : EntriesRise pushed
    rising_pushed = all_pairs_push (λ (e later : Entry). e.row.ticket < later.row.ticket) (take n es) (record { row = w; waits = true }) rising_taken each_below

    pub keeps_pushed : (waiting room capacity : ℕ) → KeepsOrder es waiting room capacity → length (rows_of es) < room → KeepsOrder pushed (waiting + 1) room capacity
    keeps_pushed waiting room capacity k space = record {
      rising = rising_pushed;
      count = omega (arith, k.count, ap (λ (l : List Waiting). length l) rows_pushed, length_push (rows_of es) w);
      fits = omega (arith, k.count, space);
      half = omega (arith, k.half, length_push (take n es) (record { row = w; waits = true }), length-take-le n es ends.within, ends.within);
      reserved = k.reserved;
    }
