-- Tags, keys and the choice.
use Rattle.std.specs.Prelude.{ℕ, ◌+◌, ◌<◌, ◌≡◌, ◌≢◌, Option, Some, None, ℤ, pos, unsigned_abs, ◌+ℤ◌, ◌-ℤ◌, ◌<ℤ◌, ◌≤ℤ◌, ◌⊎◌}
use Rattle.vt_fixed.specs.Rounding.{length_of, part_of}
use Rattle.fq_model.specs.declared.config.Config.{Config}
use Rattle.fq_model.specs.declared.config.Policy.{Policy}
use Rattle.fq_model.specs.declared.config.Policy.TheVariants.{Wfq, Msf2q, TwoDfq, TwoDfqPlus}
use Rattle.fq_model.specs.History.{History, Request, request_at, head, weight_at, pool_at}
use Rattle.fq_model.specs.Time.{virtual_idle_time}
use Rattle.fq_model.specs.Charge.{virtual_charge, request_estimate}
use Rattle.fq_model.specs.Pace.{virtual_time, tag_base}

-- the tag of tenant t: its virtual charge and its base
unfoldable pub tag : Config → History → ℕ → ℕ
tag C P t = virtual_charge C P t + tag_base C P t

abbrev pub start_for : Policy → ℕ → ℕ → ℕ
start_for Msf2q by_tag by_idle_time = by_idle_time
start_for _ by_tag by_idle_time = by_tag

-- the start of tenant t at m: its tag; under msf2q its virtual charge plus the virtual time that passed while it was
-- not active
unfoldable pub start : Config → History → ℕ → ℕ → ℕ
start C P m t = start_for C.policy (tag C P t) (virtual_charge C P t + virtual_idle_time C P m t)

-- the keys by which a head is compared: the start of its tenant, the length of its estimate, and its number
pub record HeadKeys : Type 0 where
  pub start : ℤ
  pub len : ℤ
  pub request : ℕ

-- the finish of the head
abbrev pub finish : HeadKeys → ℤ
finish k = k.start +ℤ k.len

-- the turn of a choice: its policy, the number of workers, its worker, and virtual time
pub record Turn : Type 0 where
  pub policy : Policy
  pub workers : ℕ
  pub worker : ℕ
  pub virtual_time : ℤ

-- the part of its length by which a head may begin before its start, under 2dfq and 2dfq+ alone: the greater the
-- worker's number, the greater the part
abbrev pub stagger : Policy → ℤ → ℕ → ℕ → ℤ
stagger TwoDfq len i n = pos (part_of (unsigned_abs len) i n)
stagger TwoDfqPlus len i n = pos (part_of (unsigned_abs len) i n)
stagger _ len i n = pos 0

-- the virtual time from which on the head is eligible for this worker
abbrev pub eligible_key : Turn → HeadKeys → ℤ
eligible_key at k = k.start -ℤ stagger at.policy k.len at.worker at.workers

-- under wfq every head is eligible
abbrev pub IsEligible : Turn → HeadKeys → Type 0
IsEligible at k = (at.policy ≡ Wfq) ⊎ (eligible_key at k ≤ℤ at.virtual_time)

-- by finish, then by number
abbrev pub FinishBefore : HeadKeys → HeadKeys → Type 0
FinishBefore a b = (finish a <ℤ finish b) ⊎ ((finish a ≡ finish b) × (a.request < b.request))

-- by eligible key, then by finish, then by number: the order where none is eligible
abbrev pub EligibleBefore : Turn → HeadKeys → HeadKeys → Type 0
EligibleBefore at a b =
    (eligible_key at a <ℤ eligible_key at b) ⊎ ((eligible_key at a ≡ eligible_key at b) × FinishBefore a b)

-- of the tenants whose keys pass, t has the first
pub record IsFirst (Passes : HeadKeys → Type 0) (Before : HeadKeys → HeadKeys → Type 0) (Has : ℕ → HeadKeys → Type 0)
    (t : ℕ) (k : HeadKeys) : Type 0 where
  pub has : Has t k
  pub passes : Passes k
  pub first : (u : ℕ) (l : HeadKeys) → u ≢ t → Has u l → Passes l → Before k l

abbrev pub Every : HeadKeys → Type 0
Every k = Unit {0}

abbrev pub NoneIsEligible : Turn → (ℕ → HeadKeys → Type 0) → Type 0
NoneIsEligible at Has = (u : ℕ) (l : HeadKeys) → Has u l → ¬ IsEligible at l

-- tenant t, which has the keys k, is the choice: the first eligible one by finish, or, where none is eligible,
-- the first of all by eligible key
abbrev pub IsChoice : Turn → (ℕ → HeadKeys → Type 0) → ℕ → HeadKeys → Type 0
IsChoice at Has t k =
    IsFirst (IsEligible at) FinishBefore Has t k ⊎ (NoneIsEligible at Has × IsFirst Every (EligibleBefore at) Has t k)

-- the keys of the head r of tenant t, of which q is known
abbrev pub head_keys : Config → History → ℕ → ℕ → ℕ → Request → HeadKeys
head_keys C P m t r q = record {
  start = pos (start C P m t);
  len = pos (length_of (request_estimate C P q) (weight_at C P t));
  request = r;
}

abbrev pub keys_of_request : Config → History → ℕ → ℕ → ℕ → Option Request → Option HeadKeys
keys_of_request C P m t r None = None
keys_of_request C P m t r (Some q) = Some (head_keys C P m t r q)

abbrev pub keys_of_head : Config → History → ℕ → ℕ → Option ℕ → Option HeadKeys
keys_of_head C P m t None = None
keys_of_head C P m t (Some r) = keys_of_request C P m t r (request_at P r)

-- the keys of the head of tenant t at m, if it has one
unfoldable pub keys_at : Config → History → ℕ → ℕ → Option HeadKeys
keys_at C P m t = keys_of_head C P m t (head P t)

abbrev pub HasKeys : Config → History → ℕ → ℕ → HeadKeys → Type 0
HasKeys C P m t k = keys_at C P m t ≡ Some k

abbrev pub turn_at : Config → History → ℕ → ℕ → Turn
turn_at C P m i =
    record { policy = C.policy; workers = pool_at C P; worker = i; virtual_time = pos (virtual_time C P m) }

-- tenant t, whose head has the keys k, is the choice of worker i at m
abbrev pub IsChoiceAt : Config → History → ℕ → ℕ → ℕ → HeadKeys → Type 0
IsChoiceAt C P m i t k = IsChoice (turn_at C P m i) (HasKeys C P m) t k
