-- The keys of deadlines, by place.
use Rattle.std.proofs.Common.{◌≡◌, ◌≢◌, ℕ, ◌+◌, ◌<◌, cond, eqb, ltb, List, [], ◌∷◌, ◌++◌, Option, Some, None, map, length, get_or, set, replicate, arith, sym, ap, ◌∙◌, inl, inr}
use Rattle.std.specs.List.{All, Contains, find}
use Rattle.std.proofs.lemmas.Bool.{cases_eq, cases_lt}
use Rattle.std.proofs.lemmas.List.{get_or-set_same, get_or-set_other, get_or-map, length-map, get_or-replicate, get_or_past, length-replicate}
use Rattle.std.proofs.lemmas.List.Elements.{All-nil, All-push, All-map, All-contains, Contains-push, Contains-append_left, Contains-get_or}
use Rattle.std.proofs.lemmas.Option.{none-some}
use Rattle.winner_tree.specs.declared.key.Key.{Key}
use Rattle.winner_tree.specs.Order.{key_of}
use Rattle.waiting_table.specs.declared.row.Waiting.{Waiting}
use Rattle.waiting_table.specs.Table.{AreRising, has_ticket, numbered}
use Rattle.waiting_table.specs.Kept.{ArePlaces, AreKeys, key_at}
use Rattle.waiting_table.proofs.Places.{others, found_here, found_ticket, same_row, others_are, others_have, count_others, taken, taken_by, one_at, same_place, same_key, cond_le}

none_there : (room place : ℕ) → key_of (replicate room None) place ≡ None
none_there room place = elim (cases_lt place room) [
  | inl l ↦ get_or-replicate room place None None l
  | inr l ↦ get_or_past (replicate room None) place None (omega (arith, l, length-replicate {A = Option Key} room None))
]

pub no_keys : (room : ℕ) → AreKeys [] (replicate room None)
no_keys room = record {
  of_rows = All-nil (λ (w : Waiting). key_of (replicate room None) w.place ≡ key_at w);
  others = λ place key h. absurd (none-some key (sym (none_there room place) ∙ h));
}

-- a row comes at a place that nobody has
pub keys_pushed : (rows : List Waiting) (keys : List (Option Key)) (w : Waiting) → AreKeys rows keys → All (λ (v : Waiting). v.place ≢ w.place) rows → w.place < length keys → AreKeys (rows ++ w ∷ []) (set keys w.place (key_at w))
keys_pushed rows keys w k apart within = record {
  of_rows =
      All-push (λ (v : Waiting). key_of (set keys w.place (key_at w)) v.place ≡ key_at v) rows w
      (λ i d l. get_or-set_other keys w.place (get_or rows i d).place (key_at w) None (apart i d l) ∙ k.of_rows i d l)
      (get_or-set_same keys w.place (key_at w) None within);
  others = λ place key h. elim (cases_eq place w.place) [
    | inl e ↦ record {
      row = w;
      waits = Contains-push rows w;
      place_is = sym e;
      key_is = sym (get_or-set_same keys w.place (key_at w) None within) ∙ ap (key_of (set keys w.place (key_at w))) (sym e) ∙ h;
    }
    | inr ne ↦
        let old = k.others place key (sym (get_or-set_other keys w.place place (key_at w) None ne) ∙ h) in
        record { row = old.row; waits = Contains-append_left rows (w ∷ []) old.row old.waits; place_is = old.place_is; key_is = old.key_is }
  ];
}

module _ (rows : List Waiting) (free : List ℕ) (room ticket : ℕ) (w : Waiting) (rising : AreRising rows) (places : ArePlaces rows free room) (found : find (has_ticket ticket) rows ≡ Some w) where
  -- no other row has the place of the row that goes
  pub others_apart : (v : Waiting) → Contains (others ticket rows) v → v.place ≢ w.place
  others_apart v h e =
      let more : taken v.place (others ticket rows) + cond (eqb w.place v.place) 1 0 ≡ taken v.place rows = count_others ticket (λ (x : Waiting). eqb x.place v.place) rows w rising found in
      absurd (omega (arith, places v.place, more, taken_by (others ticket rows) v h, one_at w.place v.place (sym e), cond_le (ltb v.place room)))

  -- a row at another place stays
  stays : (v : Waiting) → Contains rows v → v.place ≢ w.place → Contains (others ticket rows) v
  stays v h ne = others_have ticket rows v h (λ e. ne (ap (λ (x : Waiting). x.place) (same_row ticket rows v w rising h (found_here ticket rows w found) (e ∙ sym (found_ticket ticket rows w found)))))

  pub keys_removed : (keys : List (Option Key)) → AreKeys rows keys → w.place < length keys → AreKeys (others ticket rows) (set keys w.place None)
  keys_removed keys k within = record {
    of_rows = λ i d l.
        let v : Waiting = get_or (others ticket rows) i d in
        let has : Contains (others ticket rows) v = Contains-get_or (others ticket rows) i d l in
        get_or-set_other keys w.place v.place None None (others_apart v has)
        ∙ All-contains (λ (x : Waiting). key_of keys x.place ≡ key_at x) rows v k.of_rows (others_are ticket rows v has);
    others = λ place key h. elim (cases_eq place w.place) [
      | inl e ↦ absurd (none-some key (sym (get_or-set_same keys w.place None None within) ∙ ap (key_of (set keys w.place None)) (sym e) ∙ h))
      | inr ne ↦
          let old = k.others place key (sym (get_or-set_other keys w.place place None None ne) ∙ h) in
          record { row = old.row; waits = stays old.row old.waits (λ e. ne (sym old.place_is ∙ e)); place_is = old.place_is; key_is = old.key_is }
    ];
  }

pub keys_forwarded : (rows : List Waiting) (keys : List (Option Key)) (ticket request : ℕ) → AreKeys rows keys → AreKeys (map (numbered ticket request) rows) keys
keys_forwarded rows keys ticket request k = record {
  of_rows =
      All-map (λ (w : Waiting). key_of keys w.place ≡ key_at w) (numbered ticket request) rows
      (λ i d l. ap (key_of keys) (same_place ticket request (get_or rows i d)) ∙ k.of_rows i d l ∙ sym (same_key ticket request (get_or rows i d)));
  others = λ place key h.
      let old = k.others place key h in
      let w : Waiting = numbered ticket request old.row in
      record {
        row = w;
        waits = (
          old.waits.0,
          omega (arith, old.waits.1, length-map rows (numbered ticket request)),
          get_or-map (numbered ticket request) rows old.waits.0 old.row w old.waits.1 ∙ ap (numbered ticket request) old.waits.2,
        );
        place_is = same_place ticket request old.row ∙ old.place_is;
        key_is = same_key ticket request old.row ∙ old.key_is;
      };
}
