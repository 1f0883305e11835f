-- Heads, and lists of them in order.
use Rattle.std.specs.Prelude.{ℕ, ◌≡◌, ◌<◌, ◌≤◌, length, take, drop, List, [], ◌∷◌, ◌++◌, ℤ, pos, ◌<ℤ◌, ◌⊎◌}
use Rattle.std.specs.List.{All, AllPairs}
use Rattle.std.specs.Int.{int_max, int_min}
use Rattle.vt_fixed.specs.declared.limits.TheConstants.{GREATEST_LENGTH}
use Rattle.fq_model.specs.Keys.{HeadKeys, finish}
use Rattle.shared_order.specs.declared.lengths.Lengths.{Lengths}

-- the head of a tenant in the order: its finish, its length by the estimate, and its number
pub record HeadView : Type 0 where
  pub tenant : ℕ
  pub finish : ℤ
  pub len : ℤ
  pub request : ℕ

-- the head of this tenant, which has these keys
abbrev pub head_of : ℕ → HeadKeys → HeadView
head_of t k = record { tenant = t; finish = finish k; len = k.len; request = k.request }

-- by finish, then by number
abbrev pub HeadBefore : HeadView → HeadView → Type 0
HeadBefore a b = (a.finish <ℤ b.finish) ⊎ ((a.finish ≡ b.finish) × (a.request < b.request))

-- each comes before all that follow
abbrev pub IsSorted : List HeadView → Type 0
IsSorted heads = AllPairs HeadBefore heads

-- the greatest length of a head, 0 where there is none
abbrev pub greatest_length : List HeadView → ℤ
greatest_length [] = pos 0
greatest_length (head ∷ heads) = int_max head.len (greatest_length heads)

-- the least length of a head; if there is none, the greatest that a length can be
abbrev pub least_length : List HeadView → ℤ
least_length [] = GREATEST_LENGTH
least_length (head ∷ heads) = int_min head.len (least_length heads)

-- both lengths
abbrev pub lengths_of : List HeadView → Lengths
lengths_of heads = record { longest = greatest_length heads; shortest = least_length heads }

-- both, with one head more, which has this length
abbrev pub with_length : Lengths → ℤ → Lengths
with_length lengths len = record { longest = int_max lengths.longest len; shortest = int_min lengths.shortest len }

-- both, of the heads of two lists
abbrev pub joined_lengths : Lengths → Lengths → Lengths
joined_lengths a b = record { longest = int_max a.longest b.longest; shortest = int_min a.shortest b.shortest }

-- the second list is the first with one head more, which stands somewhere in it
pub record Gains (old : List HeadView) (head : HeadView) (new : List HeadView) : Type 0 where
  pub front : List HeadView
  pub back : List HeadView
  pub before : old ≡ front ++ back
  pub after : new ≡ front ++ head ∷ back

-- the first `place` heads of the list, and no others, come before this head
pub record IsPlaceOf (head : HeadView) (heads : List HeadView) (place : ℕ) : Type 0 where
  pub within : place ≤ length heads
  pub before : All (λ other. HeadBefore other head) (take place heads)
  pub rest : All (λ other. ¬ HeadBefore other head) (drop place heads)
