-- Nothing is forwarded or held at the opening.
use Rattle.std.proofs.Common.{ℕ, zero, suc, ◌≡◌, ◌*◌, ◌<◌, ◌≤◌, List, [], ◌∷◌, length, replicate, arith, refl, ap, sym, subst, ◌∙◌}
use Rattle.std.proofs.lemmas.List.{length-replicate, get_or-replicate}
use Rattle.std.proofs.lemmas.List.Folds.{sum_by-replicate}
use Rattle.waiting_lists.specs.Lists.{ListsView}
use Rattle.request_limits.specs.Limits.{LimitsView, opened}
use Rattle.request_limits.specs.Kept.{view_of, held_lists, count_at, all_at, Keeps}
use Rattle.request_limits.proofs.Rows.{row_of_zeros}

lists_empty : (n : ℕ) → held_lists (replicate n []) ≡ replicate n []
lists_empty zero = refl
lists_empty (suc n) = ap (λ lists. [] ∷ lists) (lists_empty n)

pub opened_keeps : (slots : ℕ) (kind_limits : List ℕ) (limit room : ℕ) → slots ≤ 65536 → length kind_limits ≤ 64 → slots * length kind_limits ≤ 1048576 → Keeps (opened slots kind_limits limit room) (replicate slots 0)
opened_keeps slots kind_limits limit room small few fit =
    let size : length (replicate slots limit) ≡ slots = length-replicate slots limit in
    let cells : length (replicate slots limit) * length kind_limits ≡ slots * length kind_limits = ap (λ n. n * length kind_limits) size in
    let none_at : (place : ℕ) → all_at (opened slots kind_limits limit room) place ≡ 0 = λ place. omega (arith, sum_by-replicate (count_at place) (slots * length kind_limits) []) in
    record {
      cells = record {
        slots_fit = omega (arith, size, small);
        kinds_fit = few;
        cells_fit = omega (arith, fit, cells);
        sent_size = length-replicate (slots * length kind_limits) 0 ∙ sym cells;
        held_size = length-replicate (slots * length kind_limits) [] ∙ sym cells;
      };
      totals_are = record {
        size = length-replicate slots 0 ∙ sym size;
        sums = λ slot below.
            let known : slot < slots = omega (arith, size, below) in
            get_or-replicate slots slot 0 0 known ∙ sym (row_of_zeros (length kind_limits) slots slot known);
      };
      single = λ place. omega (arith, none_at place);
    }

module _ (kind_limits limits sent totals : List ℕ) (w : ListsView ℕ) (slots limit room cells : ℕ) (small : slots ≤ 65536) (few : length kind_limits ≤ 64) (fit : slots * length kind_limits ≤ 1048576) (limits_are : limits ≡ replicate slots limit) (sent_are : sent ≡ replicate cells 0) (totals_are : totals ≡ replicate slots 0) (held_are : w ≡ record { lists = replicate cells []; slots = room }) (cells_are : cells ≡ slots * length kind_limits) where
  pub opened_view : view_of kind_limits limits sent w ≡ opened slots kind_limits limit room
  opened_view =
      ap (λ u. view_of kind_limits limits sent u) held_are
      ∙ ap (λ l. record (opened slots kind_limits limit room) { limits = limits; sent = sent; held = l }) (lists_empty cells)
      ∙ ap (λ n. record (opened slots kind_limits limit room) { limits = limits; sent = sent; held = replicate n [] }) cells_are
      ∙ ap (λ s. record (opened slots kind_limits limit room) { limits = limits; sent = s }) (sent_are ∙ ap (λ n. replicate n 0) cells_are)
      ∙ ap (λ l. record (opened slots kind_limits limit room) { limits = l }) limits_are

  pub view_keeps : Keeps (view_of kind_limits limits sent w) totals
  view_keeps =
      subst (λ (v : LimitsView). Keeps v totals) (sym opened_view)
      (subst (λ (t : List ℕ). Keeps (opened slots kind_limits limit room) t) (sym totals_are) (opened_keeps slots kind_limits limit room small few fit))
