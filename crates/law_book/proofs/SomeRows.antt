-- The rows of an explanation, held as a value of the program holds them.
use Rattle.std.proofs.Common.{ℕ, zero, suc, ◌<◌, ◌≤◌, ◌≡◌, ◌^◌, ap, Bool, true, false, List, [], ◌∷◌, length, length-append, replicate, Option, Some, None, refl, arith, inl, inr}
use Rattle.std.specs.Prelude.{Vec, slice_index}
use Rattle.std.specs.declared.alloc.Global.{Global}
use Rattle.std.proofs.lemmas.List.{length-replicate}
use Rattle.std.proofs.lemmas.Str.{IsUtf8-from_ascii}
use Rattle.std_alloc.proofs.StringFromBytes.{spelled}
use Rattle.std_alloc.specs.String.{string_vec}
use Rattle.std_alloc.specs.formers.vec.Vec.{holding}
use Rattle.std_heap.proofs.Handle.{handle}
use Rattle.fq_model.specs.Keys.{HeadKeys, Turn, eligible_key, finish}
use Rattle.fq_laws.proofs.Keys.Choices.{eligible_or_not}
use Rattle.program_model.specs.declared.explained.ExplainRow.{ExplainRow}
use Rattle.program_model.specs.Explanations.{IsRow, AreRows, with_head, heads_below}

zeros : (n i : ℕ) → slice_index (replicate n 0) i < 128
zeros zero i = omega arith
zeros (suc n) zero = omega arith
zeros (suc n) (suc i) = zeros n i

-- A `Vec` that holds these items. A proof can't write its fields, which are private: so it is that of a text of as many
-- bytes, with the items in their place.
pub holds : {X : Type 0} (xs : List X) → length xs < 2 ^ 63 → (v : Vec X Global) × (v.items ≡ xs)
holds {X} xs small =
    let bytes : List ℕ = replicate (length xs) 0 in
    let long : length bytes ≡ length xs = length-replicate (length xs) 0 in
    let text = spelled handle bytes ∣ IsUtf8-from_ascii bytes (zeros (length xs)) ∣₁ (omega (arith, long, small)) in
    (holding (string_vec text) xs (omega (arith, long), omega arith), refl {A = List X})

-- the row of a head
row_of : (at : Turn) (head : ℕ × HeadKeys) → (row : ExplainRow) × IsRow at head.0 head.1 row
row_of at head = elim (eligible_or_not at head.1) [
  | inl is ↦ (told true, record { tenant_is = refl; head_is = refl; start_is = refl; finish_is = refl; key_is = refl; eligible_is = (λ t. is, λ e. refl) })
  | inr not ↦ (told false, record { tenant_is = refl; head_is = refl; start_is = refl; finish_is = refl; key_is = refl; eligible_is = (λ t. absurd (cc), λ e. absurd (not e)) })
]
  where
    told : Bool → ExplainRow
    told eligible = record { tenant = head.0; head = head.1.request; start = head.1.start; finish = finish head.1; key = eligible_key at head.1; eligible = eligible }

-- a row for each head
record SomeRows (at : Turn) (heads : List (ℕ × HeadKeys)) : Type 0 where
  pub rows : List ExplainRow
  pub are : AreRows at heads rows
  pub counted : length rows ≡ length heads

some_rows : (at : Turn) (heads : List (ℕ × HeadKeys)) → SomeRows at heads
some_rows at [] = record { rows = []; are = tt; counted = refl }
some_rows at (head ∷ heads) =
    let row = row_of at head in
    let more = some_rows at heads in
    record { rows = row.0 ∷ more.rows; are = (row.1, more.are); counted = ap suc more.counted }

one_head : (n : ℕ) (o : Option HeadKeys) → length (with_head n o) ≤ 1
one_head n None = omega arith
one_head n (Some k) = omega arith

heads_few : (keys : ℕ → Option HeadKeys) (n : ℕ) → length (heads_below keys n) ≤ n
heads_few keys zero = omega arith
heads_few keys (suc n) = omega (arith, heads_few keys n, one_head n (keys n), length-append (heads_below keys n) (with_head n (keys n)))

-- held so
pub record HeldRows (at : Turn) (heads : List (ℕ × HeadKeys)) : Type 0 where
  pub rows : Vec ExplainRow Global
  pub are : AreRows at heads rows.items

pub held_rows : (at : Turn) (keys : ℕ → Option HeadKeys) (n : ℕ) → n < 2 ^ 63 → HeldRows at (heads_below keys n)
held_rows at keys n small =
    let some = some_rows at (heads_below keys n) in
    let held = holds some.rows (omega (arith, small, some.counted, heads_few keys n)) in
    record { rows = held.0; are = rw held.1 some.are }
