-- The limits of tenants and of their kinds of requests, what is forwarded, and what is held back.
use Rattle.std.specs.Prelude.{ℕ, ◌≡◌, ◌≢◌, ◌<◌, ◌≤◌, ◌+◌, ◌-◌, ◌*◌, ◌==◌, not, Bool, ◌&&◌, ◌||◌, List, [], ◌∷◌, ◌++◌, Option, length, replicate, take, drop, sum, sum_by, All, is_some, nat_lt, slice_get, slice_index, slice_index_or, slice_set}
use Rattle.request_limits.specs.declared.held.Held.{Held}

-- The view of the limits in contracts. A tenant has a slot, and each slot a cell for each kind; the cells of a slot
-- stand side by side, by kind. By kind, and by slot, how many requests may be forwarded and not ended: 0 is no limit.
-- By cell, how many are, and which requests are held, the oldest first. Last, how many may be held in all.
pub record LimitsView : Type 0 where
  pub kind_limits : List ℕ
  pub limits : List ℕ
  pub sent : List ℕ
  pub held : List (List Held)
  pub room : ℕ

abbrev pub kinds : LimitsView → ℕ
kinds v = length v.kind_limits

abbrev pub slots : LimitsView → ℕ
slots v = length v.limits

-- there are such a slot and such a kind
pub record HasCell (v : LimitsView) (slot kind : ℕ) : Type 0 where
  pub slot_known : slot < slots v
  pub kind_known : kind < kinds v

abbrev pub cell_of : LimitsView → ℕ → ℕ → ℕ
cell_of v slot kind = slot * kinds v + kind

-- each slot has a cell for each kind, and there are not too many
pub record HasCells (v : LimitsView) : Type 0 where
  pub slots_fit : slots v ≤ 65536
  pub kinds_fit : kinds v ≤ 64
  pub cells_fit : slots v * kinds v ≤ 1048576
  pub sent_size : length v.sent ≡ slots v * kinds v
  pub held_size : length v.held ≡ slots v * kinds v

-- ---- what is forwarded

abbrev pub limit_of : LimitsView → ℕ → ℕ
limit_of v slot = slice_index v.limits slot

abbrev pub kind_limit_of : LimitsView → ℕ → ℕ
kind_limit_of v kind = slice_index v.kind_limits kind

-- how many requests of a slot and kind are forwarded and not ended
abbrev pub sent_in : LimitsView → ℕ → ℕ → ℕ
sent_in v slot kind = slice_index v.sent (cell_of v slot kind)

-- how many of a slot are, over all its kinds
abbrev pub sent_of : LimitsView → ℕ → ℕ
sent_of v slot = sum (take (kinds v) (drop (slot * kinds v) v.sent))

-- one more keeps within the limit; 0 is no limit
abbrev pub is_below : ℕ → ℕ → Bool
is_below n limit = (limit == 0) || nat_lt n limit

-- one more request of this slot and kind keeps within the limit of the tenant and that of its kind
abbrev pub passes : LimitsView → ℕ → ℕ → Bool
passes v slot kind =
    is_below (sent_of v slot) (limit_of v slot) && is_below (sent_in v slot kind) (kind_limit_of v kind)

-- ---- what is held

-- the held requests of a slot and kind, the oldest first
abbrev pub held_in : LimitsView → ℕ → ℕ → List Held
held_in v slot kind = slice_index_or v.held (cell_of v slot kind) []

abbrev pub oldest_in : LimitsView → ℕ → ℕ → Option Held
oldest_in v slot kind = slice_get (held_in v slot kind) 0

-- a request that comes now is not held back: it passes both limits, and no older one of its tenant and kind is held
abbrev pub goes_at_once : LimitsView → ℕ → ℕ → Bool
goes_at_once v slot kind = passes v slot kind && not (is_some (oldest_in v slot kind))

abbrev pub all_held : LimitsView → ℕ
all_held v = sum_by (λ list. length list) v.held

-- no held request has this place
abbrev pub IsFree : LimitsView → ℕ → Type 0
IsFree v place = (slot kind : ℕ) → HasCell v slot kind → All (λ h. h.place ≢ place) (held_in v slot kind)

-- ---- changes

abbrev pub with_limit : LimitsView → ℕ → ℕ → LimitsView
with_limit v slot most = record v { limits = slice_set v.limits slot most }

abbrev pub with_sent : LimitsView → ℕ → ℕ → ℕ → LimitsView
with_sent v slot kind n = record v { sent = slice_set v.sent (cell_of v slot kind) n }

abbrev pub with_held : LimitsView → ℕ → ℕ → List Held → LimitsView
with_held v slot kind list = record v { held = slice_set v.held (cell_of v slot kind) list }

-- one more of this slot and kind is forwarded
abbrev pub with_one_more : LimitsView → ℕ → ℕ → LimitsView
with_one_more v slot kind = with_sent v slot kind (sent_in v slot kind + 1)

-- one fewer is
abbrev pub with_one_fewer : LimitsView → ℕ → ℕ → LimitsView
with_one_fewer v slot kind = with_sent v slot kind (sent_in v slot kind - 1)

-- a request is held, as the youngest of its slot and kind
abbrev pub with_youngest : LimitsView → ℕ → ℕ → Held → LimitsView
with_youngest v slot kind h = with_held v slot kind (held_in v slot kind ++ h ∷ [])

-- the oldest held request of a slot and kind is held no more
abbrev pub without_oldest : LimitsView → ℕ → ℕ → LimitsView
without_oldest v slot kind = with_held v slot kind (drop 1 (held_in v slot kind))

-- The held request of this place is held no more: it was one of this slot and kind, and the others of these stay in
-- order. All else is as before.
pub record IsRemoved (v : LimitsView) (place : ℕ) (h : Held) (w : LimitsView) : Type 0 where
  pub slot : ℕ
  pub kind : ℕ
  pub known : HasCell v slot kind
  pub place_is : h.place ≡ place
  pub front : List Held
  pub rest : List Held
  pub was : held_in v slot kind ≡ front ++ h ∷ rest
  pub after : w ≡ with_held v slot kind (front ++ rest)

-- nothing is forwarded or held, and each slot has this limit
abbrev pub opened : ℕ → List ℕ → ℕ → ℕ → LimitsView
opened slots kind_limits limit room = record {
  kind_limits = kind_limits;
  limits = replicate slots limit;
  sent = replicate (slots * length kind_limits) 0;
  held = replicate (slots * length kind_limits) [];
  room = room;
}
