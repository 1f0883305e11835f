-- Reading a text: one step after another, up to the first fault, and where that fault is.
use Rattle.std.specs.Prelude.{ℕ, ◌==◌, Bool, List, [], length, Option, Some, None, Result, Ok, Err, slice_index_or, bytes_eq}

-- one step after another, up to the first fault
infixl 10 ◌>>=◌
abbrev pub ◌>>=◌ : {A B F : Type 0} → Result A F → (A → Result B F) → Result B F
(Ok x) >>= f = f x
(Err e) >>= f = Err e

-- a value, or else this fault
abbrev pub or_fault : {A F : Type 0} → F → Option A → Result A F
or_fault fault None = Err fault
or_fault fault (Some x) = Ok x

-- a fault with the line at which it is
abbrev pub at_line : {A F : Type 0} → ℕ → Result A F → Result A (ℕ × F)
at_line place (Ok x) = Ok x
at_line place (Err fault) = Err (place, fault)

-- this is the first of these words
abbrev pub begins_with : List (List ℕ) → List ℕ → Bool
begins_with words first = bytes_eq (slice_index_or words 0 []) first

-- the list has no items
abbrev pub is_empty : {A : Type 0} → List A → Bool
is_empty xs = length xs == 0
