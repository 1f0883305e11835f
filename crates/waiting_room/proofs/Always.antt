-- The laws of a room.
use Rattle.std.proofs.Common.{ℕ, ◌≡◌, ◌+◌, ◌-◌, ◌*◌, ◌<◌, ◌≤◌, List, [], ◌∷◌, None, length, sum, sum_by, nat_lt, nat_le, arith, ap, ◌∙◌}
use Rattle.std.proofs.lemmas.Bool.{cond-true, cond-false, lt-ltb}
use Rattle.std.proofs.lemmas.List.{length-set, get_or-set_same}
use Rattle.std.proofs.lemmas.List.Folds.{sum_by-replicate}
use Rattle.std.proofs.lemmas.List.Sums.{sum_by-cons}
use Rattle.waiting_room.specs.Room.{RoomView, own_part, own_places, shared_of, shared_taken, shared_free, waiting_of, all_waiting, has_place, refusal, with_waiting, entered}
use Rattle.waiting_room.specs.Kept.{IsWithin}
use Rattle.waiting_room.specs.Runs.{Step, Enters, Leaves, opened, after, IsRun}
use Rattle.waiting_room.specs.Laws.{WaitingFits, OwnPlacesAreKept, FloodsAreHalved}
use Rattle.waiting_room.proofs.Steps.{own_fits, own_same, shared_same, all_with, taken_with, within_entered, within_left, admitted_shared, leb_not, ltb_not}

opened_within : (places slots per_tenant : ℕ) → IsWithin (opened places slots per_tenant)
opened_within places slots per_tenant =
    let r : RoomView = opened places slots per_tenant in
    let none : 0 - own_places r ≡ 0 = omega arith in
    record {
      all = omega (arith, sum_by-replicate (λ w. w) slots 0);
      shared = λ _. omega (arith, sum_by-replicate (λ w. w - own_places r) slots 0, ap (λ n. slots * n) none);
    }

within : (r : RoomView) (steps : List Step) → IsWithin r → IsRun r steps → IsWithin (after r steps)
within r [] k run = k
within r (Enters slot ∷ older) k run = within_entered (after r older) slot run.1.0 run.1.1 (within r older k run.0)
within r (Leaves slot ∷ older) k run = within_left (after r older) slot run.1.0 run.1.1 (within r older k run.0)

always : (places slots per_tenant : ℕ) (steps : List Step) → IsRun (opened places slots per_tenant) steps → IsWithin (after (opened places slots per_tenant) steps)
always places slots per_tenant steps run = within (opened places slots per_tenant) steps (opened_within places slots per_tenant) run

pub waiting_fits : WaitingFits
waiting_fits places slots per_tenant steps run = (always places slots per_tenant steps run).all

-- so many own places and the shared ones that are taken hold all that wait
all_le_of : (own : ℕ) (counts : List ℕ) → sum counts ≤ length counts * own + sum_by (λ w. w - own) counts
all_le_of own [] = omega arith
all_le_of own (w ∷ counts) =
    let rest = all_le_of own counts in
    let all : sum (w ∷ counts) ≡ w + sum counts = sum_by-cons (λ n. n) w counts in
    let taken : sum_by (λ n. n - own) (w ∷ counts) ≡ w - own + sum_by (λ n. n - own) counts = sum_by-cons (λ n. n - own) w counts in
    let size : length (w ∷ counts) * own ≡ own + length counts * own = omega arith in
    omega (arith, rest, all, taken, size)

all_le : (r : RoomView) → all_waiting r ≤ length r.waiting * own_places r + shared_taken r
all_le r = all_le_of (own_places r) r.waiting

-- where a tenant has fewer than its own places, one more for each of the places that it lacks would fit
own_space : (r : RoomView) (slot : ℕ) → IsWithin r → slot < length r.waiting → r.per_tenant ≡ 0 → waiting_of r slot < own_places r → all_waiting r < r.places
own_space r slot k known none own =
    let filled : RoomView = with_waiting r slot (own_places r) in
    let size : length filled.waiting ≡ length r.waiting = length-set r.waiting slot (own_places r) in
    let fits : length r.waiting * own_places r ≤ r.places = own_fits r.places (length r.waiting) (omega arith) in
    let product : length filled.waiting * own_places filled ≡ length r.waiting * own_places r = ap (λ l. l * own_part r.places l) size in
    omega (arith, all_with r slot (own_places r) known, taken_with r slot (own_places r) known, all_le filled, product, fits, k.shared none, own)

pub own_places_are_kept : OwnPlacesAreKept
own_places_are_kept places slots per_tenant steps run slot known none own =
    let r : RoomView = after (opened places slots per_tenant) steps in
    let space : all_waiting r < r.places = own_space r slot (always places slots per_tenant steps run) known none own in
    cond-false (nat_le r.places (all_waiting r)) _ _ (leb_not r.places (all_waiting r) space)
    ∙ cond-true (has_place r slot) _ _ (cond-false (nat_lt 0 r.per_tenant) _ _ (ltb_not 0 r.per_tenant (omega (arith, none))) ∙ cond-true (nat_lt (waiting_of r slot) (own_places r)) _ _ (lt-ltb _ _ own))

halved : (r : RoomView) (slot : ℕ) → slot < length r.waiting → r.per_tenant ≡ 0 → refusal r slot ≡ None → own_places r ≤ waiting_of r slot → shared_of (entered r slot) slot ≤ shared_free (entered r slot) + 1
halved r slot known none admitted own =
    let n : ℕ = waiting_of r slot + 1 in
    let is : waiting_of (entered r slot) slot ≡ n = get_or-set_same r.waiting slot n 0 known in
    omega (arith, is, own_same r slot n, shared_same r slot n, taken_with r slot n known, admitted_shared r slot admitted none own, own)

pub floods_are_halved : FloodsAreHalved
floods_are_halved places slots per_tenant steps run slot known none admitted own =
    halved (after (opened places slots per_tenant) steps) slot known none admitted own
