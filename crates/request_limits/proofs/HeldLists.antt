-- Held requests as the items of lists.
use Rattle.std.proofs.Common.{ℕ, ◌≡◌, List, [], ◌∷◌, ◌++◌, length, map, get_or, set, drop, sum_by, slice_get, option_map, zero, suc, arith, refl, ap, sym, ◌∙◌}
use Rattle.std.proofs.lemmas.List.{map-set, map-append, length-map, drop-map}
use Rattle.std.proofs.lemmas.List.Sums.{sum_by-cons}
use Rattle.std.proofs.lemmas.Option.{slice_get-map}
use Rattle.waiting_lists.specs.declared.item.Item.{Item}
use Rattle.request_limits.specs.declared.held.Held.{Held}
use Rattle.request_limits.specs.Kept.{held_of, held_lists}

-- the list of a cell
pub held_at : (lists : List (List (Item ℕ))) (cell : ℕ) → get_or (held_lists lists) cell [] ≡ map held_of (get_or lists cell [])
held_at [] cell = refl
held_at (list ∷ lists) zero = refl
held_at (list ∷ lists) (suc cell) = held_at lists cell

pub oldest_at : (lists : List (List (Item ℕ))) (cell : ℕ) → slice_get (get_or (held_lists lists) cell []) 0 ≡ option_map held_of (slice_get (get_or lists cell []) 0)
oldest_at lists cell = ap (λ list. slice_get list 0) (held_at lists cell) ∙ slice_get-map held_of (get_or lists cell []) 0

pub held_set : (lists : List (List (Item ℕ))) (cell : ℕ) (items : List (Item ℕ)) → held_lists (set lists cell items) ≡ set (held_lists lists) cell (map held_of items)
held_set lists cell items = map-set (λ list. map held_of list) lists cell items

pub held_push : (lists : List (List (Item ℕ))) (cell : ℕ) (item : Item ℕ) → held_lists (set lists cell (get_or lists cell [] ++ item ∷ [])) ≡ set (held_lists lists) cell (get_or (held_lists lists) cell [] ++ held_of item ∷ [])
held_push lists cell item =
    held_set lists cell (get_or lists cell [] ++ item ∷ [])
    ∙ ap (λ list. set (held_lists lists) cell list) (map-append held_of (get_or lists cell []) (item ∷ []) ∙ ap (λ list. list ++ held_of item ∷ []) (sym (held_at lists cell)))

pub held_pop : (lists : List (List (Item ℕ))) (cell : ℕ) → held_lists (set lists cell (drop 1 (get_or lists cell []))) ≡ set (held_lists lists) cell (drop 1 (get_or (held_lists lists) cell []))
held_pop lists cell =
    held_set lists cell (drop 1 (get_or lists cell []))
    ∙ ap (λ list. set (held_lists lists) cell list) (sym (drop-map held_of 1 (get_or lists cell [])) ∙ ap (λ list. drop 1 list) (sym (held_at lists cell)))

-- as many are held as there are items
pub held_count : (lists : List (List (Item ℕ))) → sum_by (λ (list : List Held). length list) (held_lists lists) ≡ sum_by (λ (list : List (Item ℕ)). length list) lists
held_count [] = refl
held_count (list ∷ lists) =
    omega (arith, held_count lists, length-map list held_of, sum_by-cons (λ (l : List Held). length l) (map held_of list) (held_lists lists), sum_by-cons (λ (l : List (Item ℕ)). length l) list lists)
