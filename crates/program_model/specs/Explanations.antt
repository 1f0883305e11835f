-- Why a worker took a request: the heads among which it was chosen, and the keys by which they were compared.
use Rattle.std.specs.Prelude.{ℕ, zero, suc, ◌≡◌, ◌↔◌, IsTrue, false, List, [], ◌∷◌, ◌++◌, length, Option, Some, None, pos}
use Rattle.fq_model.specs.declared.config.Config.{Config}
use Rattle.fq_model.specs.declared.event.Act.TheVariants.{Take}
use Rattle.fq_model.specs.declared.event.Entry.{Entry}
use Rattle.fq_model.specs.History.{History, history_of, is_taken}
use Rattle.fq_model.specs.Pace.{virtual_time}
use Rattle.fq_model.specs.Keys.{HeadKeys, Turn, finish, eligible_key, IsEligible, keys_at, turn_at}
use Rattle.program_model.specs.declared.explained.Explained.{Explained}
use Rattle.program_model.specs.declared.explained.ExplainRow.{ExplainRow}

-- the row of the head of a tenant, which has the keys k, at a worker's turn
pub record IsRow (at : Turn) (tenant : ℕ) (k : HeadKeys) (row : ExplainRow) : Type 0 where
  pub tenant_is : row.tenant ≡ tenant
  pub head_is : row.head ≡ k.request
  pub start_is : row.start ≡ k.start
  pub finish_is : row.finish ≡ finish k
  pub key_is : row.key ≡ eligible_key at k
  pub eligible_is : IsTrue row.eligible ↔ IsEligible at k

-- a tenant with the keys of its head, if it has one
abbrev pub with_head : ℕ → Option HeadKeys → List (ℕ × HeadKeys)
with_head tenant None = []
with_head tenant (Some k) = (tenant, k) ∷ []

-- the tenants with numbers below this that have a head, with its keys, by number
abbrev pub heads_below : (ℕ → Option HeadKeys) → ℕ → List (ℕ × HeadKeys)
heads_below keys zero = []
heads_below keys (suc tenant) = heads_below keys tenant ++ with_head tenant (keys tenant)

-- the tenants of a history that have a head, with its keys at m
abbrev pub heads_at : Config → History → ℕ → List (ℕ × HeadKeys)
heads_at C P m = heads_below (keys_at C P m) (length C.weights)

-- a row for each head, in order
abbrev pub AreRows : Turn → List (ℕ × HeadKeys) → List ExplainRow → Type 0
AreRows at [] [] = Unit {0}
AreRows at (head ∷ heads) (row ∷ rows) = IsRow at head.0 head.1 row × AreRows at heads rows
AreRows at _ _ = ⊥

-- One of these entries, in order of time, is a Take of the request. The explanation has its worker, its moment, and
-- the virtual time at that moment; and of each head, as it stood after the entries before the Take, the keys by which
-- it was compared at that moment.
pub record IsExplained (C : Config) (entries : List Entry) (request : ℕ) (x : Explained) : Type 0 where
  pub before : List Entry
  pub after : List Entry
  pub who : ℕ
  pub estimate : ℕ
  pub split : entries ≡ before ++ record { who = who; moment = x.moment; act = Take x.worker request estimate } ∷ after
  pub vtime_is : x.vtime ≡ pos (virtual_time C (history_of before) x.moment)
  pub rows_are : AreRows (turn_at C (history_of before) x.moment x.worker) (heads_at C (history_of before) x.moment)
      x.rows.items

-- the explanation of a request, or none where it was not taken
abbrev pub Explains : Config → List Entry → ℕ → Option Explained → Type 0
Explains C entries request None = is_taken (history_of entries) request ≡ false
Explains C entries request (Some x) = IsExplained C entries request x
