-- How the counts of forwarded requests change.
use Rattle.std.proofs.Common.{ℕ, ◌≡◌, ◌+◌, ◌-◌, ◌*◌, ◌/◌, ◌%◌, ◌<◌, ◌≤◌, List, length, get_or, set, sum, arith, ap, sym, subst, ◌∙◌, inl, inr}
use Rattle.std.proofs.lemmas.Bool.{cases_eq, cases_lt}
use Rattle.std.proofs.lemmas.List.{length-set, get_or-set_same, get_or-set_other, get_or_read}
use Rattle.std.proofs.lemmas.Nat.{mul-add-lt, div_below, div-add-mod'}
use Rattle.request_limits.specs.Limits.{LimitsView, HasCells, HasCell, kinds, slots, cell_of, sent_in, sent_of, with_sent}
use Rattle.request_limits.specs.Kept.{all_at, AreTotals, Keeps}
use Rattle.request_limits.proofs.Rows.{cell_le_row, row_same, row_other}

positive : (n s k : ℕ) → n < s * k → 0 < k
positive n s k below = elim (cases_lt 0 k) [
  | inl some ↦ some
  | inr none ↦ let zero : k ≡ 0 = omega arith in absurd (omega (arith, below, ap (λ j. s * j) zero))
]

-- the slot and the kind of a cell
pub split_known : (v : LimitsView) (cell : ℕ) → cell < slots v * kinds v → HasCell v (cell / kinds v) (cell % kinds v)
split_known v cell below =
    let some : 0 < kinds v = positive cell (slots v) (kinds v) below in
    record { slot_known = div_below cell (kinds v) (slots v) some below; kind_known = omega (arith, some) }

pub split_is : (v : LimitsView) (cell : ℕ) → cell ≡ cell_of v (cell / kinds v) (cell % kinds v)
split_is v cell = sym (div-add-mod' cell (kinds v))

module _ (v : LimitsView) (slot kind : ℕ) (cells : HasCells v) (known : HasCell v slot kind) where
  pub cell_below : cell_of v slot kind < slots v * kinds v
  cell_below = omega (arith, mul-add-lt slot (kinds v) kind (slots v) known.slot_known known.kind_known)

  pub cell_sent : cell_of v slot kind < length v.sent
  cell_sent = omega (arith, cell_below, cells.sent_size)

  pub cell_held : cell_of v slot kind < length v.held
  cell_held = omega (arith, cell_below, cells.held_size)

  pub sent_le : sent_in v slot kind ≤ sent_of v slot
  sent_le = cell_le_row (kinds v) v.sent slot kind known.kind_known cell_sent

  pub sent_of_with : (n : ℕ) → sent_of (with_sent v slot kind n) slot + sent_in v slot kind ≡ sent_of v slot + n
  sent_of_with n = row_same (kinds v) v.sent slot kind known.kind_known cell_sent n

  pub sent_in_with : (n : ℕ) → sent_in (with_sent v slot kind n) slot kind ≡ n
  sent_in_with n = get_or-set_same v.sent (cell_of v slot kind) n 0 cell_sent

  pub cells_with : (n : ℕ) → HasCells (with_sent v slot kind n)
  cells_with n = record {
    slots_fit = cells.slots_fit;
    kinds_fit = cells.kinds_fit;
    cells_fit = cells.cells_fit;
    sent_size = length-set v.sent (cell_of v slot kind) n ∙ cells.sent_size;
    held_size = cells.held_size;
  }

  -- with another count of a cell, and a total that changes alike
  module _ (totals : List ℕ) (n m : ℕ) (are : AreTotals v totals) (alike : m + sent_in v slot kind ≡ sent_of v slot + n) where
    totals_with : AreTotals (with_sent v slot kind n) (set totals slot m)
    totals_with = record {
      size = length-set totals slot m ∙ are.size;
      sums = λ t below. elim (cases_eq t slot) [
        | inl same ↦
            subst (λ u. get_or (set totals slot m) u 0 ≡ sent_of (with_sent v slot kind n) u) (sym same)
            (get_or-set_same totals slot m 0 (omega (arith, are.size, known.slot_known)) ∙ omega (arith, alike, sent_of_with n))
        | inr ne ↦
            get_or-set_other totals slot t m 0 ne ∙ are.sums t below ∙ sym (ap (λ ys. sum ys) (row_other (kinds v) v.sent slot kind known.kind_known cell_sent t n ne))
      ];
    }

    pub keeps_with : ((place : ℕ) → all_at v place ≤ 1) → Keeps (with_sent v slot kind n) (set totals slot m)
    keeps_with single = record { cells = cells_with n; totals_are = totals_with; single = single }

-- what is read at the cell
pub sent_read : (v : LimitsView) (slot kind cell n : ℕ) → HasCells v → HasCell v slot kind → cell ≡ cell_of v slot kind → n ≡ get_or v.sent cell n → n ≡ sent_in v slot kind
sent_read v slot kind cell n cells known cell_is n_read =
    get_or_read v.sent cell n (omega (arith, cell_is, cell_sent v slot kind cells known)) n_read 0
    ∙ ap (λ i. get_or v.sent i 0) cell_is

-- What the code reads, and what it writes: `cell` is the cell, `n` its count, and `m` the total of its slot.
module _ (v : LimitsView) (totals : List ℕ) (slot kind cell n m : ℕ) (k : Keeps v totals) (known : HasCell v slot kind) (cell_is : cell ≡ cell_of v slot kind) (n_read : n ≡ get_or v.sent cell n) (m_read : m ≡ get_or totals slot m) where
  sent_is : n ≡ sent_in v slot kind
  sent_is = sent_read v slot kind cell n k.cells known cell_is n_read

  total_is : m ≡ sent_of v slot
  total_is =
      get_or_read totals slot m (omega (arith, k.totals_are.size, known.slot_known)) m_read 0
      ∙ k.totals_are.sums slot known.slot_known

  keeps_at : (n2 m2 : ℕ) → m2 + n ≡ m + n2 → Keeps (record v { sent = set v.sent cell n2 }) (set totals slot m2)
  keeps_at n2 m2 e =
      subst (λ i. Keeps (record v { sent = set v.sent i n2 }) (set totals slot m2)) (sym cell_is)
      (keeps_with v slot kind k.cells known totals n2 m2 k.totals_are (omega (arith, e, sent_is, total_is)) k.single)

  pub keeps_more : Keeps (record v { sent = set v.sent cell (n + 1) }) (set totals slot (m + 1))
  keeps_more = keeps_at (n + 1) (m + 1) (omega arith)

  pub total_above : n ≤ m
  total_above = omega (arith, sent_is, total_is, sent_le v slot kind k.cells known)

  pub keeps_fewer : 0 < n → Keeps (record v { sent = set v.sent cell (n - 1) }) (set totals slot (m - 1))
  keeps_fewer some = keeps_at (n - 1) (m - 1) (omega (arith, some, total_above))
