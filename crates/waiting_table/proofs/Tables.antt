-- What a table keeps.
use Rattle.std.proofs.Common.{◌≡◌, ◌≢◌, ℕ, ◌+◌, ◌<◌, ◌≤◌, ◌^◌, IfSome, true, cond, eqb, ltb, not, List, [], ◌∷◌, ◌++◌, Option, Some, None, length, get_or, set, replicate, arith, refl, sym, ap, ◌∙◌, subst}
use Rattle.std.specs.List.{count_by}
use Rattle.std.proofs.lemmas.List.{length-set, length_push, length-map, length-replicate}
use Rattle.std.proofs.lemmas.List.Sums.{sum_by_push, sum_by-cons}
use Rattle.std.proofs.lemmas.List.Elements.{All-nil, All-push, All-map, All-filter, Contains-get_or}
use Rattle.std.proofs.lemmas.List.Kept.{AllPairs-filter}
use Rattle.std.proofs.lemmas.List.Quantifiers.{all_pairs_push}
use Rattle.winner_tree.specs.declared.key.Key.{Key}
use Rattle.waiting_table.specs.declared.row.Waiting.{Waiting}
use Rattle.waiting_table.specs.Table.{TableView, IsAbove, IsFree, IsTable, row_of, with_row, without, forwarded, has_ticket, numbered}
use Rattle.waiting_table.specs.Kept.{ArePlaces, AreKeys, IsInRange, KeepsTable, key_at}
use Rattle.waiting_table.proofs.Places.{apart_from_taken, place_within, free_within, found_here, count_others, cond_le, taken, spare, taken_by, taken_numbered, rising_numbered, same_ticket, same_deadline, others}
use Rattle.waiting_table.proofs.Keys.{no_keys, keys_pushed, keys_removed, keys_forwarded}

count_all : (rows : List Waiting) → count_by (λ (x : Waiting). true) rows ≡ length rows
count_all [] = refl
count_all (w ∷ rows) =
    let more : count_by (λ (x : Waiting). true) (w ∷ rows) ≡ 1 + count_by (λ (x : Waiting). true) rows = sum_by-cons (λ (x : Waiting). 1) w rows in
    omega (arith, more, count_all rows)

module _ (v : TableView) (free : List ℕ) (capacity : ℕ) (keys : List (Option Key)) (k : KeepsTable v free capacity keys) where
  pub is_table : IsTable v
  is_table = record {
    rising = k.rising;
    apart = apart_from_taken v.rows (λ place. omega (arith, k.places place, cond_le (ltb place v.room)));
    within = λ i d l. place_within v.rows free v.room k.places (get_or v.rows i d) (Contains-get_or v.rows i d l);
    fits = omega (arith, k.all);
  }

  pub keeps_forwarded : (ticket request : ℕ) → KeepsTable (forwarded v ticket request) free capacity keys
  keeps_forwarded ticket request = record {
    rising = rising_numbered ticket request v.rows k.rising;
    in_range = All-map IsInRange (numbered ticket request) v.rows (λ i d l.
        let w : Waiting = get_or v.rows i d in
        subst (λ n. (n < 2 ^ 64) × IfSome (numbered ticket request w).deadline (λ e. e < 2 ^ 64)) (sym (same_ticket ticket request w))
        (subst (λ o. (w.ticket < 2 ^ 64) × IfSome o (λ e. e < 2 ^ 64)) (sym (same_deadline ticket request w)) (k.in_range i d l)));
    places = λ place. omega (arith, k.places place, taken_numbered ticket request place v.rows);
    all = omega (arith, k.all, length-map v.rows (numbered ticket request));
    reserved = k.reserved;
    leaves = k.leaves;
    due = keys_forwarded v.rows keys ticket request k.due;
  }

  -- the last of the free places is given to a row
  module _ (rest : List ℕ) (place : ℕ) (last : free ≡ rest ++ place ∷ []) where
    pub is_free : IsFree v place
    is_free =
        let at = free_within v.rows rest v.room place (subst (λ (l : List ℕ). ArePlaces v.rows l v.room) last k.places) in (
          at.0,
          λ i d l e.
              let w : Waiting = get_or v.rows i d in
              absurd (omega (arith, at.1, subst (λ n. 1 ≤ taken n v.rows) e (taken_by v.rows w (Contains-get_or v.rows i d l)))),
        )

    pub keeps_pushed : (w : Waiting) → w.place ≡ place → IsInRange w → IsAbove v w.ticket → KeepsTable (with_row v w) rest capacity (set keys place (key_at w))
    keeps_pushed w at range above = record {
      rising = all_pairs_push (λ (x later : Waiting). x.ticket < later.ticket) v.rows w k.rising above;
      in_range = All-push IsInRange v.rows w k.in_range range;
      places = λ q.
          let more : taken q (v.rows ++ w ∷ []) ≡ taken q v.rows + cond (eqb w.place q) 1 0 = sum_by_push (λ (x : Waiting). cond (eqb x.place q) 1 0) v.rows w in
          let less : spare q free ≡ spare q rest + cond (eqb place q) 1 0 = ap (λ (l : List ℕ). spare q l) last ∙ sum_by_push (λ p. cond (eqb p q) 1 0) rest place in
          omega (arith, k.places q, more, less, ap (λ n. cond {A = ℕ} (eqb n q) 1 0) at);
      all = omega (arith, k.all, length_push v.rows w, ap (λ (l : List ℕ). length l) last, length_push rest place);
      reserved = k.reserved;
      leaves = length-set keys place (key_at w) ∙ k.leaves;
      due = subst (λ n. AreKeys (v.rows ++ w ∷ []) (set keys n (key_at w))) at
          (keys_pushed v.rows keys w k.due (λ i d l. subst (λ n. (get_or v.rows i d).place ≢ n) (sym at) (is_free.1 i d l)) (omega (arith, at, is_free.0, k.leaves)));
    }

  -- a row goes, and its place is free
  module _ (ticket : ℕ) (w : Waiting) (found : row_of v ticket ≡ Some w) where
    pub found_within : w.place < v.room
    found_within = place_within v.rows free v.room k.places w (found_here ticket v.rows w found)

    one_fewer : length (others ticket v.rows) + 1 ≡ length v.rows
    one_fewer =
        let some : count_by (λ (x : Waiting). true) (others ticket v.rows) + 1 ≡ count_by (λ (x : Waiting). true) v.rows = count_others ticket (λ (x : Waiting). true) v.rows w k.rising found in
        omega (arith, some, count_all (others ticket v.rows), count_all v.rows)

    pub space : length free < v.room
    space = omega (arith, one_fewer, k.all)

    pub keeps_removed : KeepsTable (without v ticket) (free ++ w.place ∷ []) capacity (set keys w.place None)
    keeps_removed = record {
      rising = AllPairs-filter (λ (x later : Waiting). x.ticket < later.ticket) (λ (x : Waiting). not (has_ticket ticket x)) v.rows k.rising;
      in_range = All-filter (λ (x : Waiting). not (has_ticket ticket x)) IsInRange v.rows k.in_range;
      places = λ q.
          let less : taken q (others ticket v.rows) + cond (eqb w.place q) 1 0 ≡ taken q v.rows = count_others ticket (λ (x : Waiting). eqb x.place q) v.rows w k.rising found in
          let more : spare q (free ++ w.place ∷ []) ≡ spare q free + cond (eqb w.place q) 1 0 = sum_by_push (λ p. cond (eqb p q) 1 0) free w.place in
          omega (arith, k.places q, less, more);
      all = omega (arith, k.all, one_fewer, length_push free w.place);
      reserved = k.reserved;
      leaves = length-set keys w.place None ∙ k.leaves;
      due = keys_removed v.rows free v.room ticket w k.rising k.places found keys k.due (omega (arith, found_within, k.leaves));
    }

pub keeps_opened : (room capacity : ℕ) (free : List ℕ) → ArePlaces [] free room → length free ≡ room → room ≤ capacity → KeepsTable (record { rows = []; room = room }) free capacity (replicate room None)
keeps_opened room capacity free places size reserved = record {
  rising = λ i j d lt l. absurd (omega (arith, l));
  in_range = All-nil IsInRange;
  places = places;
  all = omega (arith, size);
  reserved = reserved;
  leaves = length-replicate {A = Option Key} room None;
  due = no_keys room;
}
