-- A book stays sound where one worker's row and one tenant's net charge are written.
use Rattle.std.proofs.Common.{ℕ, ◌+◌, ◌-◌, ◌*◌, ◌^◌, ◌<◌, ◌≤◌, ◌≡◌, ◌≢◌, List, length, get_or, slice_set, slice_index, slice_index_or, sum_by, Option, Some, None, arith, refl, sym, ap, subst, ◌∙◌, if◌then◌else◌, nat_lt, inl, inr, length-set, get_or-set_same, get_or-set_other}
use Rattle.std.proofs.lemmas.Bool.{cases_eq, cases_lt, lt-ltb, le-ltb, eq-eqb, ne_eqb}
use Rattle.std.proofs.lemmas.Option.{none-some}
use Rattle.std.proofs.lemmas.List.{get_or_past}
use Rattle.std.proofs.lemmas.List.Elements.{All-set}
use Rattle.std.proofs.lemmas.List.Sums.{sum_by-set}
use Rattle.vt_fixed.specs.declared.limits.TheConstants.{GREATEST_COST}
use Rattle.charge_book.specs.declared.row.RunRow.{RunRow}
use Rattle.charge_book.specs.declared.refusal.BookRefusal.TheVariants.{CostRange, Falling}
use Rattle.charge_book.specs.Rows.{row_charge}
use Rattle.charge_book.specs.Book.{BookView, row_on, MayUse, with_use, nets_recharged, row_refusal, IsRow, IsRunRow, owed, spare, IsSound}

-- the row of a worker and the net charge of a tenant that are written
record Write (rows : List (Option RunRow)) (nets : List ℕ) (begins worker tenant : ℕ) (old new : Option RunRow) (net begun : ℕ) : Type 0 where
  worker_in : worker < length rows
  tenant_in : tenant < length nets
  was : slice_index_or rows worker None ≡ old
  new_in : IsRow (length nets) new
  owed_others : (t : ℕ) → tenant ≢ t → owed t new ≡ owed t old
  spare_others : (t : ℕ) → tenant ≢ t → spare t new ≡ spare t old
  covers_own : owed tenant new + slice_index nets tenant ≤ net + owed tenant old
  room_own : net + spare tenant new + begins * GREATEST_COST ≤ slice_index nets tenant + spare tenant old + begun * GREATEST_COST
  rises : begins ≤ begun
  few : begun ≤ 2 ^ 32

sound_write : (rows : List (Option RunRow)) (nets : List ℕ) (begins worker tenant : ℕ) (old new : Option RunRow) (net begun : ℕ) → IsSound rows nets begins → Write rows nets begins worker tenant old new net begun → IsSound (slice_set rows worker new) (slice_set nets tenant net) begun
sound_write rows nets begins worker tenant old new net begun s w = record {
  in_range = rw (length-set nets tenant net) (All-set (IsRow (length nets)) rows worker new w.new_in s.in_range);
  covers = λ t b. covers t (rw (length-set nets tenant net) at b);
  room = λ t b. room t (rw (length-set nets tenant net) at b);
  few = w.few;
}
  where
    owes : (t : ℕ) → sum_by (owed t) (slice_set rows worker new) + owed t old ≡ sum_by (owed t) rows + owed t new
    owes t = rw (← w.was) (sum_by-set (owed t) rows worker new None w.worker_in)

    spares : (t : ℕ) → sum_by (spare t) (slice_set rows worker new) + spare t old ≡ sum_by (spare t) rows + spare t new
    spares t = rw (← w.was) (sum_by-set (spare t) rows worker new None w.worker_in)

    covers : (t : ℕ) → t < length nets → sum_by (owed t) (slice_set rows worker new) ≤ get_or (slice_set nets tenant net) t 0
    covers t b = elim (cases_eq tenant t) [
      | inl same ↦ rw (← same, get_or-set_same nets tenant net 0 w.tenant_in) (omega (arith, owes tenant, s.covers tenant w.tenant_in, w.covers_own))
      | inr other ↦ rw (get_or-set_other nets tenant t net 0 (λ e. other (sym e))) (omega (arith, owes t, s.covers t b, w.owed_others t other))
    ]

    room : (t : ℕ) → t < length nets → get_or (slice_set nets tenant net) t 0 + sum_by (spare t) (slice_set rows worker new) ≤ begun * GREATEST_COST
    room t b = elim (cases_eq tenant t) [
      | inl same ↦ rw (← same, get_or-set_same nets tenant net 0 w.tenant_in) (omega (arith, spares tenant, s.room tenant w.tenant_in, w.room_own))
      | inr other ↦ rw (get_or-set_other nets tenant t net 0 (λ e. other (sym e))) (omega (arith, spares t, s.room t b, w.spare_others t other, w.rises))
    ]

owed_own : (row : RunRow) (t : ℕ) → row.tenant ≡ t → owed t (Some row) ≡ row_charge row
owed_own row t e = rw (eq-eqb row.tenant t e) refl

owed_other : (row : RunRow) (t : ℕ) → row.tenant ≢ t → owed t (Some row) ≡ 0
owed_other row t ne = rw (ne_eqb row.tenant t ne) refl

spare_own : (row : RunRow) (t : ℕ) → row.tenant ≡ t → spare t (Some row) ≡ GREATEST_COST - row_charge row
spare_own row t e = rw (eq-eqb row.tenant t e) refl

spare_other : (row : RunRow) (t : ℕ) → row.tenant ≢ t → spare t (Some row) ≡ 0
spare_other row t ne = rw (ne_eqb row.tenant t ne) refl

-- a net charge covers each running request
covered : (rows : List (Option RunRow)) (nets : List ℕ) (begins worker : ℕ) (row : RunRow) → IsSound rows nets begins → worker < length rows → row.tenant < length nets → slice_index_or rows worker None ≡ Some row → row_charge row ≤ slice_index nets row.tenant
covered rows nets begins worker row s b t is =
    let written = subst (λ o. sum_by (owed row.tenant) (slice_set rows worker None) + owed row.tenant o ≡ sum_by (owed row.tenant) rows + 0) is (sum_by-set (owed row.tenant) rows worker None None b) in
    omega (arith, written, s.covers row.tenant t, owed_own row row.tenant refl)

-- a use that is not refused is in range and does not fall
accepted : (row : RunRow) (used : ℕ) → row_refusal (Some row) used ≡ None → (row.last ≤ used) × (used ≤ GREATEST_COST)
accepted row used none = elim (cases_lt GREATEST_COST used) [
  | inl above ↦ absurd (none-some _ (sym none ∙ ap (λ b. if b then Some (CostRange used) else (if nat_lt used row.last then Some (Falling row.last used) else None)) (lt-ltb GREATEST_COST used above)))
  | inr low ↦ elim (cases_lt used row.last) [
    | inl falls ↦ absurd (none-some _ (sym none ∙ (ap (λ b. if b then Some (CostRange used) else (if nat_lt used row.last then Some (Falling row.last used) else None)) (le-ltb GREATEST_COST used low) ∙ ap (λ b. if b then Some (Falling row.last used) else None) (lt-ltb used row.last falls))))
    | inr rises ↦ (rises, low)
  ]
]

abbrev pub book_of : List (Option RunRow) → List ℕ → ℕ → BookView
book_of rows nets begins = record { rows = rows; nets = nets; begins = begins }

-- the worker is free, and a request of this row may begin on it
pub record MayStart (b : BookView) (worker : ℕ) (row : RunRow) : Type 0 where
  pub worker_in : worker < length b.rows
  pub free : row_on b worker ≡ None
  pub row_in : IsRunRow (length b.nets) row
  pub fresh : row.last ≡ 0
  pub few : b.begins < 2 ^ 32

-- a request begins on a free worker
pub sound_begun : (rows : List (Option RunRow)) (nets : List ℕ) (begins worker : ℕ) (row : RunRow) → IsSound rows nets begins → MayStart (book_of rows nets begins) worker row → IsSound (slice_set rows worker (Some row)) (slice_set nets row.tenant (slice_index nets row.tenant + row.estimate)) (begins + 1)
sound_begun rows nets begins worker row s may = sound_write rows nets begins worker row.tenant None (Some row) (slice_index nets row.tenant + row.estimate) (begins + 1) s (record {
  worker_in = may.worker_in;
  tenant_in = may.row_in.tenant;
  was = may.free;
  new_in = may.row_in;
  owed_others = λ t ne. owed_other row t ne;
  spare_others = λ t ne. spare_other row t ne;
  covers_own = omega (arith, owed_own row row.tenant refl, may.fresh);
  room_own = omega (arith, spare_own row row.tenant refl, may.fresh, may.row_in.estimate);
  rises = omega arith;
  few = omega (arith, may.few);
})

-- ---- a use or a cost

-- a row, and a use or a cost that it may have, in their limits
record Held (rows : List (Option RunRow)) (nets : List ℕ) (worker : ℕ) (row : RunRow) (used : ℕ) : Type 0 where
  worker_in : worker < length rows
  row_in : IsRunRow (length nets) row
  covers : row_charge row ≤ slice_index nets row.tenant
  low : row_charge row ≤ GREATEST_COST
  used_low : used ≤ GREATEST_COST

held : (rows : List (Option RunRow)) (nets : List ℕ) (begins worker : ℕ) (row : RunRow) (used : ℕ) → IsSound rows nets begins → MayUse (book_of rows nets begins) worker row used → Held rows nets worker row used
held rows nets begins worker row used s may = record {
  worker_in = inside;
  row_in = ok;
  covers = covered rows nets begins worker row s inside ok.tenant may.row_is;
  low = omega (arith, ok.estimate, ok.last);
  used_low = (accepted row used (subst (λ o. row_refusal o used ≡ None) may.row_is may.accepted)).1;
}
  where
    inside : worker < length rows
    inside = elim (cases_lt worker (length rows)) [
      | inl b ↦ b
      | inr out ↦ absurd (none-some row (sym (get_or_past rows worker None out) ∙ may.row_is))
    ]

    ok : IsRunRow (length nets) row
    ok = subst (IsRow (length nets)) may.row_is (s.in_range worker None inside)

-- the request of a worker is charged by a use
pub sound_used : (rows : List (Option RunRow)) (nets : List ℕ) (begins worker : ℕ) (row : RunRow) (used : ℕ) → IsSound rows nets begins → MayUse (book_of rows nets begins) worker row used → IsSound (slice_set rows worker (Some (with_use row used))) (nets_recharged nets row (row_charge (with_use row used))) begins
sound_used rows nets begins worker row used s may = sound_write rows nets begins worker row.tenant (Some row) (Some next) (slice_index nets row.tenant - row_charge row + row_charge next) begins s (record {
  worker_in = h.worker_in;
  tenant_in = h.row_in.tenant;
  was = may.row_is;
  new_in = record { tenant = h.row_in.tenant; weight_positive = h.row_in.weight_positive; weight_in_range = h.row_in.weight_in_range; estimate = h.row_in.estimate; last = h.used_low };
  owed_others = λ t ne. owed_other next t ne ∙ sym (owed_other row t ne);
  spare_others = λ t ne. spare_other next t ne ∙ sym (spare_other row t ne);
  covers_own = omega (arith, owed_own next row.tenant refl, owed_own row row.tenant refl, h.covers);
  room_own = omega (arith, spare_own next row.tenant refl, spare_own row row.tenant refl, h.covers, h.low, h.row_in.estimate, h.used_low);
  rises = omega arith;
  few = s.few;
})
  where
    h : Held rows nets worker row used
    h = held rows nets begins worker row used s may

    next : RunRow
    next = with_use row used

-- the request of a worker is done
pub sound_finished : (rows : List (Option RunRow)) (nets : List ℕ) (begins worker : ℕ) (row : RunRow) (cost : ℕ) → IsSound rows nets begins → MayUse (book_of rows nets begins) worker row cost → IsSound (slice_set rows worker None) (nets_recharged nets row cost) begins
sound_finished rows nets begins worker row cost s may = sound_write rows nets begins worker row.tenant (Some row) None (slice_index nets row.tenant - row_charge row + cost) begins s (record {
  worker_in = h.worker_in;
  tenant_in = h.row_in.tenant;
  was = may.row_is;
  new_in = tt;
  owed_others = λ t ne. sym (owed_other row t ne);
  spare_others = λ t ne. sym (spare_other row t ne);
  covers_own = omega (arith, owed_own row row.tenant refl, h.covers);
  room_own = omega (arith, spare_own row row.tenant refl, h.covers, h.low, h.used_low);
  rises = omega arith;
  few = s.few;
})
  where
    h : Held rows nets worker row cost
    h = held rows nets begins worker row cost s may
