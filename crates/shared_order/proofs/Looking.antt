-- Looking at the groups of a row, one after the other.
use Rattle.std.proofs.Common.{ℕ, ◌+◌, ◌*◌, sym, subst, List, take, Option, pos, ◌≤ℤ◌}
use Rattle.std.specs.List.{All}
use Rattle.std.proofs.lemmas.List.Elements.{All-append, All-same}
use Rattle.vt_fixed.specs.declared.limits.TheConstants.{GREATEST_LENGTH}
use Rattle.fq_model.specs.Keys.{Turn}
use Rattle.shared_order.specs.Heads.{HeadView, HeadBefore, IsSorted}
use Rattle.shared_order.specs.Blocks.{all_heads}
use Rattle.shared_order.specs.Groups.{group_heads}
use Rattle.shared_order.specs.Search.{AreInRange, AreInOrder, IsFirstThat, IsSoonest, TakesSoonest}
use Rattle.shared_order.specs.declared.search.Candidate.{Candidate}
use Rattle.shared_order.proofs.Pieces.{cut_pairs, cut_all}
use Rattle.shared_order.proofs.Searching.{first_in_part, soonest_part}
use Rattle.shared_order.proofs.Grouping.{group_more, group_cut}

module _ (bs : List (List HeadView)) (g : ℕ) where
  pub group_all : (P : HeadView → Type 0) → All P (all_heads bs) → All P (group_heads bs g)
  group_all P = cut_all P _ _ (group_heads bs g) _ (group_cut bs g)

  pub group_range : AreInRange (all_heads bs) → AreInRange (group_heads bs g)
  group_range = group_all (λ (h : HeadView). (pos 0 ≤ℤ h.len) × (h.len ≤ℤ GREATEST_LENGTH))

  pub group_order : IsSorted (all_heads bs) → AreInRange (all_heads bs) → AreInOrder (group_heads bs g)
  group_order sorted in_range =
      record { sorted = cut_pairs HeadBefore _ _ (group_heads bs g) _ (group_cut bs g) sorted; in_range = group_range in_range }

  -- it is in a group before which none is
  pub first_in_group : (P : HeadView → Type 0) (h : HeadView) → All (λ x. ¬ P x) (all_heads (take (g * 32) bs)) → IsFirstThat P (group_heads bs g) h → IsFirstThat P (all_heads bs) h
  first_in_group P h = first_in_part P _ _ (group_heads bs g) _ h (group_cut bs g)

  -- a group in which none is
  pub none_in_group : (P : HeadView → Type 0) → All P (all_heads (take (g * 32) bs)) → All P (group_heads bs g) → All P (all_heads (take ((g + 1) * 32) bs))
  none_in_group P none here = All-same P _ _ (group_more bs g) (All-append P (all_heads (take (g * 32) bs)) (group_heads bs g) none here)

  -- a group more
  pub soonest_group : (at : Turn) (older newer : Option Candidate) → IsSorted (all_heads bs) → IsSoonest at (all_heads (take (g * 32) bs)) older → TakesSoonest at older (group_heads bs g) newer → IsSoonest at (all_heads (take ((g + 1) * 32) bs)) newer
  soonest_group at older newer sorted so_far takes =
      subst (λ e. IsSoonest at e newer) (sym (group_more bs g)) (soonest_part at _ _ (group_heads bs g) _ older newer (group_cut bs g) sorted so_far takes)
