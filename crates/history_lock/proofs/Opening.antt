-- A table at the start meets the rule.
use Rattle.std.proofs.Common.{◌≡◌, ℕ, zero, suc, ◌-◌, ◌<◌, List, [], ◌∷◌, sym, refl, subst, inl, arith, Some}
use mathlib.Core.Option.{some, some-ne-none, some-injective}
use lib.ListN.{get_elem?}
use Rattle.atomic_table.specs.Table.{opening}
use Rattle.fq_model.specs.declared.event.Entry.{Entry}
use Rattle.history_lock.specs.declared.table.View.{View}
use Rattle.history_lock.specs.Views.{newcomer}
use Rattle.history_lock.specs.Rule.{Knows, Marks, Kept}

module _ {M F : Type 0} (past : M → List Entry) (frame : M → F) (like : F) where
  abbrev start : Marks
  start = record { drawn = 0; served = 0; made = 0; history = []; holder = λ _. 0; owner = λ _. 0; closed = λ _. 0 }

  pub opens : (m : M) → past m ≡ [] → frame m ≡ like → Kept past frame like (opening (0 ∷ 0 ∷ []) (Some m ∷ []) (newcomer like))
  opens m empty is = record {
    marks = start;
    words = refl;
    counted = refl;
    few = omega arith;
    bounded = Rattle.std.proofs.Common.lit< tt;
    above = λ _ _. (refl, refl);
    each_seat = λ j v at. first j v at;
    slot = inl (m, refl, empty, is);
  }
    where
      first : (j : ℕ) (v : View F) → get_elem? (newcomer like ∷ []) j ≡ some v → Knows like start j v
      first zero v at = subst (λ (x : View F). Knows like start 0 x) (some-injective (newcomer like) v at) (
        record {
          framed = refl;
          sees = ([], refl);
          own_seen = refl;
          own_history = refl;
          placed = refl;
          numbered = omega arith;
          alive = refl;
          maker = λ _. refl;
          saw_before = ([], refl);
          other_saw = ([], refl);
          gone = λ i e h. absurd (some-ne-none e (sym h));
        },
        tt,
      )
      first (suc j) v at = absurd (some-ne-none v (sym at))
