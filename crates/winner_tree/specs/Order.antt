-- The order of keys, and of the leaves that have them.
use Rattle.std.specs.Prelude.{ℕ, ◌≡◌, ◌≢◌, ◌<◌, ◌<ℤ◌, ◌⊎◌, List, Option, Some, None, slice_index_or}
use Rattle.winner_tree.specs.declared.key.Key.{Key}

-- keys are ordered by their three parts, the first part first
abbrev pub IsBefore : Key → Key → Type 0
IsBefore x y = (x.a <ℤ y.a) ⊎ ((x.a ≡ y.a) × ((x.b <ℤ y.b) ⊎ ((x.b ≡ y.b) × (x.c < y.c))))

-- a leaf with the key x comes before the leaf u with the key y: by the keys, and of equal keys the lesser leaf
abbrev pub Precedes : Key → ℕ → Key → ℕ → Type 0
Precedes x leaf y u = IsBefore x y ⊎ ((x ≡ y) × (leaf < u))

-- the key of a leaf, if it has one: the map from leaves to keys is a list by leaf
abbrev pub key_of : List (Option Key) → ℕ → Option Key
key_of map leaf = slice_index_or map leaf None

abbrev pub HasKey : List (Option Key) → ℕ → Key → Type 0
HasKey map leaf key = key_of map leaf ≡ Some key

-- no leaf has a key
abbrev pub HasNoKey : List (Option Key) → Type 0
HasNoKey map = (leaf : ℕ) → key_of map leaf ≡ None

-- both leaves have keys, and the first comes before the second
pub record IsAhead (map : List (Option Key)) (leaf u : ℕ) : Type 0 where
  pub key : Key
  pub other : Key
  pub has : HasKey map leaf key
  pub other_has : HasKey map u other
  pub before : Precedes key leaf other u

-- of the leaves that have keys, this one with this key comes before all others
pub record IsFirst (map : List (Option Key)) (leaf : ℕ) (key : Key) : Type 0 where
  pub found : HasKey map leaf key
  pub before : (u : ℕ) (other : Key) → u ≢ leaf → HasKey map u other → Precedes key leaf other u
