-- A board at the start meets the rule.
use Rattle.std.proofs.Common.{◌≡◌, ℕ, zero, suc, List, [], ◌∷◌, sym, refl, subst, arith}
use mathlib.Core.Option.{some, some-ne-none, some-injective}
use lib.ListN.{get_elem?}
use Rattle.atomic_table.specs.Table.{opening}
use Rattle.fq_model.specs.declared.config.Config.{Config}
use Rattle.status_board.specs.declared.table.View.{View}
use Rattle.status_board.specs.Rule.{Marks, Knows, Kept}
use Rattle.status_board.specs.Views.{first_writer}
use Rattle.status_board.proofs.Statuses.{opening_words}

abbrev start : Marks
start = record { shown = []; busy = 0; rest = 0 ∷ 0 ∷ 0 ∷ 0 ∷ 0 ∷ []; writer = 0 }

pub opens : (C : Config) → Kept C (opening (0 ∷ 0 ∷ 0 ∷ 0 ∷ 0 ∷ 0 ∷ []) [] (first_writer C))
opens C = record {
  marks = start;
  words = refl;
  wide = refl;
  low = omega arith;
  at_rest = λ _. (opening_words C, (Rattle.std.proofs.Common.lit< tt, Rattle.std.proofs.Common.lit< tt, Rattle.std.proofs.Common.lit< tt));
  each_seat = λ j v at. first j v at;
}
  where
    first : (j : ℕ) (v : View) → get_elem? (first_writer C ∷ []) j ≡ some v → Knows C start j v
    first zero v at = subst (λ (x : View). Knows C start 0 x) (some-injective (first_writer C) v at) ((refl, ([], refl), ([], refl)), refl, refl, refl)
    first (suc j) v at = absurd (some-ne-none v (sym at))
