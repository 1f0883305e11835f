-- The least key is that of the first deadline.
use Rattle.std.proofs.Common.{◌≡◌, ℕ, ◌<◌, ◌^◌, pos, IfSome, List, Option, Some, None, get_or, arith, refl, sym, ap, ◌∙◌, subst, inl, inr}
use Rattle.std.specs.Option.{option_map}
use Rattle.std.specs.List.{All}
use Rattle.std.proofs.lemmas.Bool.{cases_eq}
use Rattle.std.proofs.lemmas.Int.{ints}
use Rattle.std.proofs.lemmas.List.Elements.{All-contains}
use Rattle.std.proofs.lemmas.Option.{none-some, same_Some}
use Rattle.winner_tree.specs.declared.key.Key.{Key}
use Rattle.winner_tree.specs.Order.{key_of, HasKey, HasNoKey, IsFirst, Precedes, IsBefore}
use Rattle.waiting_table.specs.declared.row.Waiting.{Waiting}
use Rattle.waiting_table.specs.declared.row.Due.{Due}
use Rattle.waiting_table.specs.Table.{TableView}
use Rattle.waiting_table.specs.Due.{HasNoDeadline, IsDue, IsFirstDue, IsNoLater}
use Rattle.waiting_table.specs.Kept.{AreKeys, IsKeyed, IsInRange, key_at}

-- the key of a deadline
abbrev pub due_key : Due → Key
due_key d = record { a = pos d.deadline; b = pos d.ticket; c = 0 }

key_of_due : (w : Waiting) (d : Due) → w.deadline ≡ Some d.deadline → w.ticket ≡ d.ticket → key_at w ≡ Some (due_key d)
key_of_due w d e t =
    ap (λ o. option_map (λ (n : ℕ). let k : Key = record { a = pos n; b = pos w.ticket; c = 0 } in k) o) e
    ∙ ap (λ (n : ℕ). let k : Key = record { a = pos d.deadline; b = pos n; c = 0 } in Some k) t

-- a row that has a key has a deadline
deadline_from : (w : Waiting) (o : Option ℕ) (key : Key) → option_map (λ (n : ℕ). let k : Key = record { a = pos n; b = pos w.ticket; c = 0 } in k) o ≡ Some key → (d : ℕ) × (o ≡ Some d) × (key ≡ record { a = pos d; b = pos w.ticket; c = 0 })
deadline_from w None key h = absurd (none-some key h)
deadline_from w (Some d) key h = (d, refl, sym (same_Some (record { a = pos d; b = pos w.ticket; c = 0 }) key h))

no_key_from : (w : Waiting) (o : Option ℕ) → option_map (λ (n : ℕ). let k : Key = record { a = pos n; b = pos w.ticket; c = 0 } in k) o ≡ None → o ≡ None
no_key_from w None h = refl
no_key_from w (Some d) h = absurd (none-some (record { a = pos d; b = pos w.ticket; c = 0 }) (sym h))

-- the key of a deadline that comes first
no_later : (d e : Due) → IsBefore (due_key d) (due_key e) → IsNoLater d e
no_later d e (inl h) = inl (omega (arith, ints, h))
no_later d e (inr (same, inl h)) = inr (omega (arith, ints, same), omega (arith, ints, h))
no_later d e (inr (same, inr h)) = inr (omega (arith, ints, same), omega (arith, ints, h.0))

same_due : (d e : Due) → due_key d ≡ due_key e → IsNoLater d e
same_due d e h = inr (omega (arith, ints, ap (λ (k : Key). k.a) h), omega (arith, ints, ap (λ (k : Key). k.b) h))

precedes : (d e : Due) (leaf u : ℕ) → Precedes (due_key d) leaf (due_key e) u → IsNoLater d e
precedes d e leaf u (inl h) = no_later d e h
precedes d e leaf u (inr h) = same_due d e h.0

module _ (v : TableView) (keys : List (Option Key)) (k : AreKeys v.rows keys) where
  pub none_due : HasNoKey keys → HasNoDeadline v
  none_due none = λ i d l.
      let w : Waiting = get_or v.rows i d in
      no_key_from w w.deadline (sym (k.of_rows i d l) ∙ none w.place)

  -- a deadline is among the keys
  has_due : (e : Due) (due : IsDue v e) → HasKey keys due.row.place (due_key e)
  has_due e due =
      All-contains (λ (w : Waiting). key_of keys w.place ≡ key_at w) v.rows due.row k.of_rows due.waits
      ∙ key_of_due due.row e due.deadline_is due.ticket_is

  pub record FirstAt (key : Key) : Type 0 where
    pub due : Due
    pub key_is : key ≡ due_key due
    pub deadline_fits : due.deadline < 2 ^ 64
    pub ticket_fits : due.ticket < 2 ^ 64
    pub first : IsFirstDue v due

  module _ (range : All IsInRange v.rows) (leaf : ℕ) (key : Key) (first : IsFirst keys leaf key) where
    keyed : IsKeyed v.rows leaf key
    keyed = k.others leaf key first.found

    its_deadline : (d : ℕ) × (keyed.row.deadline ≡ Some d) × (key ≡ record { a = pos d; b = pos keyed.row.ticket; c = 0 })
    its_deadline = deadline_from keyed.row keyed.row.deadline key keyed.key_is

    its_due : Due
    its_due = record { deadline = its_deadline.0; ticket = keyed.row.ticket }

    comes_first : (e : Due) → IsDue v e → IsNoLater its_due e
    unfolding its_due
    comes_first e due = elim (cases_eq due.row.place leaf) [
      | inl at ↦ same_due its_due e (sym its_deadline.2 ∙ same_Some key (due_key e) (sym first.found ∙ ap (key_of keys) (sym at) ∙ has_due e due))
      | inr ne ↦ precedes its_due e leaf due.row.place (subst (λ (x : Key). Precedes x leaf (due_key e) due.row.place) its_deadline.2 (first.before due.row.place (due_key e) ne (has_due e due)))
    ]

    pub first_at : FirstAt key
    unfolding its_due
    first_at =
        let fits = All-contains IsInRange v.rows keyed.row range keyed.waits in
        record {
          due = its_due;
          key_is = its_deadline.2;
          deadline_fits = subst (λ o. IfSome o (λ d. d < 2 ^ 64)) its_deadline.1 fits.1;
          ticket_fits = fits.0;
          first = record {
            due = record { row = keyed.row; waits = keyed.waits; deadline_is = its_deadline.1; ticket_is = refl };
            first = comes_first;
          };
        }
