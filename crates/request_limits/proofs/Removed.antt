-- A held request is removed from whichever list it is in.
use Rattle.std.proofs.Common.{ℕ, ◌≡◌, ◌≢◌, ◌*◌, ◌/◌, ◌%◌, ◌<◌, List, [], ◌∷◌, ◌++◌, length, map, get_or, set, arith, ap, sym, ◌∙◌}
use Rattle.std.proofs.lemmas.List.{length-map, map-append}
use Rattle.std.proofs.lemmas.List.Elements.{All-same, All-map}
use Rattle.waiting_lists.specs.declared.item.Item.{Item}
use Rattle.waiting_lists.specs.Lists.{ListsView, HasNone}
use Rattle.waiting_lists.specs.Lists as lists
use Rattle.request_limits.specs.declared.held.Held.{Held}
use Rattle.request_limits.specs.Limits.{LimitsView, HasCells, cell_of, kinds, slots, held_in, IsFree, IsRemoved}
use Rattle.request_limits.specs.Kept.{view_of, held_of, held_lists}
use Rattle.request_limits.proofs.HeldLists.{held_at, held_set}
use Rattle.request_limits.proofs.Sends.{cell_held, split_known, split_is}

module _ (kind_limits limits sent : List ℕ) (w : ListsView ℕ) where
  abbrev view : LimitsView
  view = view_of kind_limits limits sent w

  pub none_free : (place : ℕ) → HasCells view → HasNone w place → IsFree view place
  none_free place cells none = λ slot kind known.
      let cell : ℕ = cell_of view slot kind in
      let below : cell < length w.lists = omega (arith, cell_held view slot kind cells known, length-map w.lists (λ (list : List (Item ℕ)). map held_of list)) in
      All-same (λ (h : Held). h.place ≢ place) (held_in view slot kind) (map held_of (get_or w.lists cell [])) (held_at w.lists cell)
      (All-map (λ (h : Held). h.place ≢ place) held_of (get_or w.lists cell []) (none cell below))

  module _ (w2 : ListsView ℕ) (place tenant : ℕ) (item : Item ℕ) (cells : HasCells view) (r : lists.IsRemoved w place tenant item w2) where
    below : tenant < slots view * kinds view
    below = omega (arith, r.known, cells.held_size, length-map w.lists (λ (list : List (Item ℕ)). map held_of list))

    cell : tenant ≡ cell_of view (tenant / kinds view) (tenant % kinds view)
    cell = split_is view tenant

    at_cell : held_in view (tenant / kinds view) (tenant % kinds view) ≡ map held_of r.front ++ held_of item ∷ map held_of r.rest
    at_cell =
        ap (λ i. get_or (held_lists w.lists) i []) (sym cell)
        ∙ held_at w.lists tenant
        ∙ ap (λ (items : List (Item ℕ)). map held_of items) r.was
        ∙ map-append held_of r.front (item ∷ r.rest)

    pub view_removed : IsRemoved view place (held_of item) (view_of kind_limits limits sent w2)
    view_removed = record {
      slot = tenant / kinds view;
      kind = tenant % kinds view;
      known = split_known view tenant below;
      place_is = r.number;
      front = map held_of r.front;
      rest = map held_of r.rest;
      was = at_cell;
      after = ap (λ u. view_of kind_limits limits sent u) r.is
          ∙ ap (λ l. record view { held = l }) (held_set w.lists tenant (r.front ++ r.rest))
          ∙ ap (λ list. record view { held = set (held_lists w.lists) tenant list }) (map-append held_of r.front r.rest)
          ∙ ap (λ i. record view { held = set (held_lists w.lists) i (map held_of r.front ++ map held_of r.rest) }) cell;
    }
