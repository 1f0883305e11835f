-- The view, as the lists of held requests change.
use Rattle.std.proofs.Common.{ℕ, ◌≡◌, List, [], ◌∷◌, ◌++◌, drop, ap, sym, subst, ◌∙◌}
use Rattle.waiting_lists.specs.declared.item.Item.{Item}
use Rattle.waiting_lists.specs.Lists.{ListsView, list_of, with_list, waiting}
use Rattle.request_limits.specs.Limits.{LimitsView, HasCell, cell_of, held_in, all_held, IsFree, with_youngest, without_oldest}
use Rattle.request_limits.specs.Kept.{view_of, held_of, Keeps}
use Rattle.request_limits.proofs.HeldLists.{held_push, held_pop, held_count}
use Rattle.request_limits.proofs.Places.{keeps_youngest, keeps_fewer, rest_fewer}

module _ (kind_limits limits sent : List ℕ) (w : ListsView ℕ) where
  abbrev view : LimitsView
  view = view_of kind_limits limits sent w

  pub count_is : all_held view ≡ waiting w
  count_is = held_count w.lists

  module _ (slot kind cell : ℕ) (w2 : ListsView ℕ) (cell_is : cell ≡ cell_of view slot kind) where
    pub pushed : (item : Item ℕ) → w2 ≡ with_list w cell (list_of w cell ++ item ∷ []) → view_of kind_limits limits sent w2 ≡ with_youngest view slot kind (held_of item)
    pushed item e =
        ap (λ u. view_of kind_limits limits sent u) e
        ∙ ap (λ i. view_of kind_limits limits sent (with_list w i (list_of w i ++ item ∷ []))) cell_is
        ∙ ap (λ l. record view { held = l }) (held_push w.lists (cell_of view slot kind) item)

    pub popped : w2 ≡ with_list w cell (drop 1 (list_of w cell)) → view_of kind_limits limits sent w2 ≡ without_oldest view slot kind
    popped e =
        ap (λ u. view_of kind_limits limits sent u) e
        ∙ ap (λ i. view_of kind_limits limits sent (with_list w i (drop 1 (list_of w i)))) cell_is
        ∙ ap (λ l. record view { held = l }) (held_pop w.lists (cell_of view slot kind))

    module _ (totals : List ℕ) (k : Keeps view totals) (known : HasCell view slot kind) where
      pub keeps_pushed : (item : Item ℕ) → w2 ≡ with_list w cell (list_of w cell ++ item ∷ []) → IsFree view item.request → Keeps (view_of kind_limits limits sent w2) totals
      keeps_pushed item e free =
          subst (λ (u : LimitsView). Keeps u totals) (sym (pushed item e))
          (keeps_youngest view slot kind k.cells known totals k.totals_are k.single (held_of item) free)

      pub keeps_popped : w2 ≡ with_list w cell (drop 1 (list_of w cell)) → Keeps (view_of kind_limits limits sent w2) totals
      keeps_popped e =
          subst (λ (u : LimitsView). Keeps u totals) (sym (popped e))
          (keeps_fewer view slot kind k.cells known totals k.totals_are k.single (drop 1 (held_in view slot kind)) (rest_fewer (held_in view slot kind)))
