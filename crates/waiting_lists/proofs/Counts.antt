-- How many items there are, and the whole of the lists.
use Rattle.std.proofs.Common.{◌≡◌, ℕ, ◌+◌, ◌-◌, ◌<◌, ◌≤◌, List, [], ◌∷◌, ◌++◌, Option, Some, None, Result, Ok, Err, OnOk, OnErr, IsErr, length, get_or, set, take, drop, slice_get, arith, refl, sym, ap, ◌∙◌, subst}
use Rattle.std.proofs.lemmas.List.{take_at}
use Rattle.std.proofs.lemmas.Result.{IfOk-from_err}
use Rattle.std.proofs.lemmas.List.Sums.{sum_by-set}
use Rattle.waiting_lists.specs.declared.item.Item.{Item}
use Rattle.waiting_lists.specs.declared.links.Slot.{Slot}
use Rattle.waiting_lists.specs.declared.links.Ends.{Ends}
use Rattle.waiting_lists.specs.Lists.{ListsView, list_of, waiting, with_list}
use Rattle.waiting_lists.specs.Linked.{lists_of, count_of, Keeps, IsMadeFree}
use Rattle.waiting_lists.specs.Cells.{number_at, KeepsIndex}
use Rattle.waiting_lists.specs.Kept.{Kept, KeepsCount}
use Rattle.waiting_lists.proofs.Chains.{none_not_some}
use Rattle.waiting_lists.proofs.Owners.{lists_length}
use Rattle.waiting_lists.proofs.Moves.{made_index}

pub on_err : {T E : Type 0} (r : Result T E) (P : Type 0) → P → OnErr r P
on_err (Ok x) P p = tt
on_err (Err e) P p = p

pub not_ok : {T E : Type 0} (r : Result T E) (P : Type 0) → IsErr r → OnOk r P
not_ok {T} {E} (Ok x) P err = IfOk-from_err {E = E} (Ok x) (λ _. P) err
not_ok (Err e) P err = tt

-- a vector that lent all its items, and has them back
pub back_is : {X : Type 0} (n : ℕ) (items old : List X) → length items ≡ n → take n (items ++ drop (length items) old) ≡ items
back_is n items old e = take_at items (drop (length items) old) n e

module _ {J : Type 0} where
  pub lists_back : (n m : ℕ) (after slots : List (Slot J)) (cells : List (Option ℕ)) (now ends : List (Option Ends)) (link : Option ℕ) (len room capacity : ℕ) → length after ≡ n → length now ≡ m → KeepsCount after cells now link len room capacity → KeepsCount (take n (after ++ drop (length after) slots)) cells (take m (now ++ drop (length now) ends)) link len room capacity
  lists_back n m after slots cells now ends link len room capacity p r k =
      rw (back_is n after slots p, back_is m now ends r) k

  pub kept_back : (n q m : ℕ) (after slots : List (Slot J)) (cells2 cells : List (Option ℕ)) (now ends : List (Option Ends)) (link : Option ℕ) (len room capacity : ℕ) → length after ≡ n → length cells2 ≡ q → length now ≡ m → KeepsCount after cells2 now link len room capacity → KeepsCount (take n (after ++ drop (length after) slots)) (take q (cells2 ++ drop (length cells2) cells)) (take m (now ++ drop (length now) ends)) link len room capacity
  kept_back n q m after slots cells2 cells now ends link len room capacity p e r k =
      rw (back_is q cells2 cells e) (lists_back n m after slots cells2 now ends link len room capacity p r k)

  -- the whole of the lists
  abbrev pub whole : List (Slot J) → List (Option Ends) → ℕ → ListsView J
  whole slots ends room = record { lists = lists_of slots ends; slots = room }

  pub whole_back : (n m : ℕ) (after slots : List (Slot J)) (now ends : List (Option Ends)) (room : ℕ) → length after ≡ n → length now ≡ m → whole (take n (after ++ drop (length after) slots)) (take m (now ++ drop (length now) ends)) room ≡ whole after now room
  whole_back n m after slots now ends room p q = ap (λ (s : List (Slot J)). whole s (take m (now ++ drop (length now) ends)) room) (back_is n after slots p) ∙ ap (λ (e : List (Option Ends)). whole after e room) (back_is m now ends q)

  pub whole_is : (after : List (Slot J)) (now : List (Option Ends)) (room : ℕ) (lists : List (List (Item J))) → lists_of after now ≡ lists → whole after now room ≡ record { lists = lists; slots = room }
  whole_is after now room lists p = ap (λ (l : List (List (Item J))). record { lists = l; slots = room }) p

  count_set : (lists : List (List (Item J))) (t : ℕ) (list : List (Item J)) → t < length lists → count_of (set lists t list) + length (get_or lists t []) ≡ count_of lists + length list
  count_set lists t list lt = sum_by-set (λ (l : List (Item J)). length l) lists t list [] lt

  -- a slot made free
  pub counted_made : (slots after : List (Slot J)) (cells : List (Option ℕ)) (ends : List (Option Ends)) (free link : Option ℕ) (len room capacity now : ℕ) → KeepsCount slots cells ends free len room capacity → IsMadeFree slots free room after link → now ≡ capacity → KeepsCount after cells ends link len room now
  counted_made slots after cells ends free link len room capacity now k made same = record {
    kept = record {
      links = made.keeps ends k.kept.links;
      index = made_index cells slots after free link room made k.kept.index;
      some = k.kept.some;
    };
    counted = k.counted ∙ ap (λ (ls : List (List (Item J))). count_of ls) (sym (made.same ends k.kept.links));
    within = made.within;
    reserved = omega (arith, k.reserved, same);
  }

  -- slots and ends that stay
  pub counted_same : (slots after : List (Slot J)) (cells : List (Option ℕ)) (ends now : List (Option Ends)) (free link : Option ℕ) (len room capacity : ℕ) → KeepsCount slots cells ends free len room capacity → Keeps after now link → after ≡ slots → now ≡ ends → KeepsCount after cells now link len room capacity
  counted_same slots after cells ends now free link len room capacity k links same same_ends = record {
    kept = record {
      links = links;
      index = subst (λ (s : List (Slot J)). KeepsIndex (number_at s) cells s) (sym same) k.kept.index;
      some = k.kept.some;
    };
    counted = k.counted ∙ ap (λ (s : List (Slot J)). count_of (lists_of s ends)) (sym same) ∙ ap (λ (e : List (Option Ends)). count_of (lists_of after e)) (sym same_ends);
    within = omega (arith, ap (λ (s : List (Slot J)). length s) same, k.within);
    reserved = k.reserved;
  }

  -- another list of a tenant, an item longer or shorter
  module _ (slots after : List (Slot J)) (cells cells2 : List (Option ℕ)) (ends now : List (Option Ends)) (free link : Option ℕ) (len room capacity t : ℕ) (k : KeepsCount slots cells ends free len room capacity) (kept : Kept after cells2 now link) (size : length after ≡ length slots) (lt : t < length ends) (list : List (Item J)) (lists : lists_of after now ≡ set (lists_of slots ends) t list) where
    sum : count_of (lists_of after now) + length (get_or (lists_of slots ends) t []) ≡ count_of (lists_of slots ends) + length list
    sum = ap (λ (ls : List (List (Item J))). count_of ls + length (get_or (lists_of slots ends) t [])) lists ∙ count_set (lists_of slots ends) t list (omega (arith, lists_length slots ends, lt))

    pub counted_more : length list ≡ length (get_or (lists_of slots ends) t []) + 1 → KeepsCount after cells2 now link (len + 1) room capacity
    counted_more longer = record {
      kept = kept;
      counted = omega (arith, k.counted, sum, longer);
      within = omega (arith, size, k.within);
      reserved = k.reserved;
    }

    pub counted_less : length list + 1 ≡ length (get_or (lists_of slots ends) t []) → KeepsCount after cells2 now link (len - 1) room capacity
    counted_less shorter = record {
      kept = kept;
      counted = omega (arith, k.counted, sum, shorter);
      within = omega (arith, size, k.within);
      reserved = k.reserved;
    }

  pub length_rest : (l : List (Item J)) (item : Item J) → slice_get l 0 ≡ Some item → length (drop 1 l) + 1 ≡ length l
  length_rest [] item e = absurd (none_not_some None item refl e)
  length_rest (x ∷ xs) item e = omega arith

  -- a tenant that callers know has ends
  pub known_tenant : (slots : List (Slot J)) (ends : List (Option Ends)) (room : ℕ) (seen : ListsView J) (t : ℕ) → whole slots ends room ≡ seen → t < length seen.lists → t < length ends
  known_tenant slots ends room seen t e h = omega (arith, lists_length slots ends, ap (λ (w : ListsView J). length w.lists) e, h)

  -- a slot that was left is room for one more
  pub room_left : (slots after : List (Slot J)) (ends : List (Option Ends)) (free link : Option ℕ) (room : ℕ) (seen : ListsView J) → whole slots ends room ≡ seen → Keeps slots ends free → IsMadeFree slots free room after link → count_of (lists_of after ends) < length after → waiting seen < seen.slots
  room_left slots after ends free link room seen e k made lt = omega (arith, ap (λ (w : ListsView J). waiting w) e, ap (λ (w : ListsView J). w.slots) e, ap (λ (ls : List (List (Item J))). count_of ls) (made.same ends k), made.within, lt)

  -- and one more can be counted
  pub count_left : (slots after : List (Slot J)) (cells : List (Option ℕ)) (ends : List (Option Ends)) (free link : Option ℕ) (len room capacity : ℕ) → KeepsCount slots cells ends free len room capacity → IsMadeFree slots free room after link → count_of (lists_of after ends) < length after → len + 1 ≤ room
  count_left slots after cells ends free link len room capacity k made lt = omega (arith, k.counted, ap (λ (ls : List (List (Item J))). count_of ls) (made.same ends k.kept.links), made.within, lt)

  -- a list with an item is counted
  pub item_counts : (slots : List (Slot J)) (cells : List (Option ℕ)) (ends : List (Option Ends)) (free : Option ℕ) (len room capacity t : ℕ) → KeepsCount slots cells ends free len room capacity → t < length ends → 1 ≤ length (get_or (lists_of slots ends) t []) → 1 ≤ len
  item_counts slots cells ends free len room capacity t k lt some = omega (arith, k.counted, count_set (lists_of slots ends) t [] (omega (arith, lists_length slots ends, lt)), some)

  -- the whole of lists of which one was changed, as callers see it
  pub list_set : (n m : ℕ) (after lent slots : List (Slot J)) (now ends : List (Option Ends)) (room t : ℕ) (seen : ListsView J) (change : List (Item J) → List (Item J)) → length after ≡ n → length now ≡ m → whole slots ends room ≡ seen → lists_of after now ≡ set (lists_of slots ends) t (change (get_or (lists_of slots ends) t [])) → whole (take n (after ++ drop (length after) lent)) (take m (now ++ drop (length now) ends)) room ≡ with_list seen t (change (list_of seen t))
  list_set n m after lent slots now ends room t seen change p q e lists =
      whole_back n m after lent now ends room p q
      ∙ whole_is after now room (set (lists_of slots ends) t (change (get_or (lists_of slots ends) t []))) lists
      ∙ ap (λ (w : ListsView J). with_list w t (change (list_of w t))) e

  -- a list that has nothing to be taken off stays
  pub same_whole : (slots : List (Slot J)) (ends : List (Option Ends)) (room t : ℕ) (seen : ListsView J) (change : List (Item J) → List (Item J)) → whole slots ends room ≡ seen → lists_of slots ends ≡ set (lists_of slots ends) t (change (get_or (lists_of slots ends) t [])) → seen ≡ with_list seen t (change (list_of seen t))
  same_whole slots ends room t seen change e lists =
      subst (λ (w : ListsView J). w ≡ with_list w t (change (list_of w t))) e (ap (λ (l : List (List (Item J))). record { lists = l; slots = room }) lists)
