-- The book of a history.
use Rattle.std.specs.Prelude.{ℕ, ◌<◌, ◌≡◌, ◌≢◌, Bool, true, false, length, slice_index, Option, unwrap_or, option_map, option_and_then, ℤ, pos, ◌+ℤ◌}
use Rattle.fq_model.specs.declared.config.Config.{Config}
use Rattle.fq_model.specs.declared.event.Act.{Act}
use Rattle.fq_model.specs.declared.event.Act.TheVariants.{Take}
use Rattle.fq_model.specs.History.{History, Request, request_at, running_on, last_use, count_acts}
use Rattle.fq_model.specs.Charge.{taken_estimate, taken_weight, virtual_charge, net_charge}
use Rattle.charge_book.specs.declared.row.RunRow.{RunRow}
use Rattle.charge_book.specs.Book.{BookView, row_on}

abbrev pub is_take : Act → Bool
is_take (Take worker request estimate) = true
is_take _ = false

-- the number of Takes
abbrev pub takes : History → ℕ
takes P = count_acts is_take P

-- the row of a running request in a history: its weight is that of its tenant just before its Take, whatever it is now
abbrev pub run_row : Config → History → ℕ → Request → RunRow
run_row C P r q = record {
  request = r;
  tenant = q.tenant;
  kind = q.kind;
  weight = taken_weight C P q.tenant r;
  estimate = unwrap_or (taken_estimate P r) 0;
  last = last_use P r;
}

abbrev pub row_of_request : Config → History → ℕ → Option RunRow
row_of_request C P r = option_map (run_row C P r) (request_at P r)

-- the row on worker i in a history; the worker may be one that the pool has no place for any more
abbrev pub row_of_worker : Config → History → ℕ → Option RunRow
row_of_worker C P i = option_and_then (row_of_request C P) (running_on P i)

-- the book has the row on each worker of the configuration, the net charge of each tenant, and the number of Takes
pub record BookIs (C : Config) (P : History) (b : BookView) : Type 0 where
  pub workers : length b.rows ≡ C.workers
  pub tenants : length b.nets ≡ length C.weights
  pub rows : (i : ℕ) → i < C.workers → row_on b i ≡ row_of_worker C P i
  pub nets : (t : ℕ) → t < length C.weights → slice_index b.nets t ≡ net_charge P t
  pub begins : b.begins ≡ takes P

-- between P and Q the virtual charge of tenant t changes by `change`, and that of no other
pub record IsChange (C : Config) (P Q : History) (t : ℕ) (change : ℤ) : Type 0 where
  pub own : pos (virtual_charge C P t) +ℤ change ≡ pos (virtual_charge C Q t)
  pub others : (u : ℕ) → u ≢ t → virtual_charge C Q u ≡ virtual_charge C P u

-- the book is that of the longer history, and between the two the virtual charge of the tenant changes by `change`
pub record BookFollows (C : Config) (P Q : History) (tenant : ℕ) (b : BookView) (change : ℤ) : Type 0 where
  pub book_is : BookIs C Q b
  pub changes_by : IsChange C P Q tenant change
