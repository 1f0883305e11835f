-- How the counts of a room change, and what an admission says of them.
use Rattle.std.proofs.Common.{ℕ, ◌≡◌, ◌+◌, ◌-◌, ◌*◌, ◌^◌, ◌<◌, ◌≤◌, true, false, None, length, set, get_or, sum_by, nat_lt, nat_le, arith, sym, ap, ◌∙◌, inl, inr}
use Rattle.std.proofs.lemmas.Bool.{cases_Bool, cases_lt, cases_eq, cond-true, cond-false, le-leb, ltb-true}
use Rattle.std.proofs.lemmas.Option.{none-some}
use Rattle.waiting_room.specs.declared.refusal.Refusal.TheVariants.{TooManyWait, TenantFull}
use Rattle.std.proofs.lemmas.Bool.Decides.{nat_tests}
use Rattle.std.proofs.lemmas.List.{length-set, get_or_read}
use Rattle.std.proofs.lemmas.List.Sums.{sum_by-set, sum_by-le-sum_by, get_or-le-sum_by}
use Rattle.std.proofs.Math.Nat.{div-mul-le_self}
use Rattle.waiting_room.specs.Room.{RoomView, own_part, own_places, shared_places, shared_of, shared_taken, shared_free, waiting_of, all_waiting, has_place, refusal, with_waiting, entered, left}
use Rattle.waiting_room.specs.Kept.{Keeps, IsWithin}

-- the own places of all tenants fit the room
pub own_fits : (places slots : ℕ) → 1 ≤ slots → slots * own_part places slots ≤ places
own_fits places slots h = elim (cases_eq slots 1) [
  | inl e ↦ rw e (omega arith)
  | inr ne ↦ let d = div-mul-le_self places (2 * slots) in grind (arith, nat_tests)
]

module _ (r : RoomView) (slot n : ℕ) where
  pub own_same : own_places (with_waiting r slot n) ≡ own_places r
  own_same = ap (own_part r.places) (length-set r.waiting slot n)

  pub shared_same : shared_places (with_waiting r slot n) ≡ shared_places r
  shared_same = ap (λ l. r.places - l * own_part r.places l) (length-set r.waiting slot n)

  module _ (known : slot < length r.waiting) where
    pub all_with : all_waiting (with_waiting r slot n) + waiting_of r slot ≡ all_waiting r + n
    all_with = sum_by-set (λ w. w) r.waiting slot n 0 known

    pub taken_with : shared_taken (with_waiting r slot n) + shared_of r slot ≡ shared_taken r + (n - own_places r)
    taken_with =
        let own : ℕ → ℕ → ℕ = λ o w. w - o in
        ap (λ o. sum_by (own o) (set r.waiting slot n) + shared_of r slot) own_same
        ∙ sum_by-set (own (own_places r)) r.waiting slot n 0 known

pub taken_le_all : (r : RoomView) → shared_taken r ≤ all_waiting r
taken_le_all r = sum_by-le-sum_by (λ w. w - own_places r) (λ w. w) r.waiting (λ w. omega arith)

pub waiting_le_all : (r : RoomView) (slot : ℕ) → slot < length r.waiting → waiting_of r slot ≤ all_waiting r
waiting_le_all r slot known = get_or-le-sum_by (λ w. w) r.waiting slot 0 known

pub shared_le_taken : (r : RoomView) (slot : ℕ) → slot < length r.waiting → shared_of r slot ≤ shared_taken r
shared_le_taken r slot known = get_or-le-sum_by (λ w. w - own_places r) r.waiting slot 0 known

pub leb_not : (a b : ℕ) → b < a → nat_le a b ≡ false
leb_not a b h = grind (arith, nat_tests)

pub ltb_not : (a b : ℕ) → b ≤ a → nat_lt a b ≡ false
ltb_not a b h = grind (arith, nat_tests)

-- what an admission says
module _ (r : RoomView) (slot : ℕ) (admitted : refusal r slot ≡ None) where
  pub admitted_space : all_waiting r < r.places
  admitted_space = elim (cases_lt (all_waiting r) r.places) [
    | inl l ↦ l
    | inr l ↦ absurd (none-some TooManyWait (sym admitted ∙ cond-true (nat_le r.places (all_waiting r)) _ _ (le-leb _ _ l)))
  ]

  admitted_place : has_place r slot ≡ true
  admitted_place = elim (cases_Bool (has_place r slot)) [
    | inl e ↦ e
    | inr e ↦ absurd (none-some TenantFull (sym admitted ∙ cond-false (nat_le r.places (all_waiting r)) _ _ (leb_not _ _ admitted_space) ∙ cond-false (has_place r slot) _ _ e))
  ]

  pub admitted_shared : r.per_tenant ≡ 0 → own_places r ≤ waiting_of r slot → shared_of r slot < shared_free r
  admitted_shared none over =
      let place : has_place r slot ≡ true = admitted_place in
      let limit : nat_lt 0 r.per_tenant ≡ false = ltb_not 0 r.per_tenant (omega (arith, none)) in
      let own : nat_lt (waiting_of r slot) (own_places r) ≡ false = ltb_not (waiting_of r slot) (own_places r) over in
      ltb-true (shared_of r slot) (shared_free r) (sym (cond-false (nat_lt 0 r.per_tenant) _ _ limit ∙ cond-false (nat_lt (waiting_of r slot) (own_places r)) _ _ own) ∙ place)

pub within_entered : (r : RoomView) (slot : ℕ) → slot < length r.waiting → refusal r slot ≡ None → IsWithin r → IsWithin (entered r slot)
within_entered r slot known admitted k = record {
  all = omega (arith, all_with r slot (waiting_of r slot + 1) known, admitted_space r slot admitted);
  shared = λ none. elim (cases_lt (waiting_of r slot) (own_places r)) [
    | inl l ↦ omega (arith, taken_with r slot (waiting_of r slot + 1) known, shared_same r slot (waiting_of r slot + 1), k.shared none)
    | inr l ↦ omega (arith, taken_with r slot (waiting_of r slot + 1) known, shared_same r slot (waiting_of r slot + 1), admitted_shared r slot admitted none l)
  ];
}

pub within_left : (r : RoomView) (slot : ℕ) → slot < length r.waiting → 0 < waiting_of r slot → IsWithin r → IsWithin (left r slot)
within_left r slot known some k = record {
  all = omega (arith, all_with r slot (waiting_of r slot - 1) known, k.all);
  shared = λ none. omega (arith, taken_with r slot (waiting_of r slot - 1) known, shared_same r slot (waiting_of r slot - 1), k.shared none);
}

-- a number that is read from the list of counts
pub read : (r : RoomView) (slot before : ℕ) → slot < length r.waiting → before ≡ get_or r.waiting slot before → waiting_of r slot ≡ before
read r slot before known e = sym (get_or_read r.waiting slot before known e 0)

-- The numbers that a room keeps, once `n` wait in a slot where `before` did: fewer shared places are taken by `cut`, and
-- more by `more`.
module _ (r : RoomView) (slot n before cut more own shared all taken : ℕ) (known : slot < length r.waiting) (k : Keeps r own shared all taken) (e : before ≡ get_or r.waiting slot before) (cut_is : cut ≡ before - own) (more_is : more ≡ n - own) (w : IsWithin (with_waiting r slot n)) where
  was : waiting_of r slot ≡ before
  was = read r slot before known e

  taken_now : taken - cut + more ≡ shared_taken (with_waiting r slot n)
  taken_now = omega (arith, was, cut_is, more_is, k.own_is, k.taken_is, taken_with r slot n known, shared_le_taken r slot known)

  pub keeps_with : Keeps (with_waiting r slot n) own shared (all - before + n) (taken - cut + more)
  keeps_with = record {
    own_is = k.own_is ∙ sym (own_same r slot n);
    shared_is = k.shared_is ∙ sym (shared_same r slot n);
    all_is = omega (arith, was, k.all_is, all_with r slot n known, waiting_le_all r slot known);
    taken_is = taken_now;
    within = w;
  }

  pub taken_fits : r.places < 2 ^ 32 → taken - cut + more < 2 ^ 32
  taken_fits h = omega (arith, taken_now, taken_le_all (with_waiting r slot n), w.all, h)
