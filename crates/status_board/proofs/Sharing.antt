-- A reader is made, or taken in by the writer: the rule stays.
use Rattle.std.proofs.Common.{◌≡◌, ℕ, List, [], ◌∷◌, ◌++◌, length, set, sym, refl, ◌∙◌, subst, ⊎_elim}
use mathlib.Core.Option.{none, some}
use lib.ListN.{get_elem?}
use Rattle.atomic_table.specs.Table.{State, step, keeps, Allows, Splits, Joins}
use Rattle.atomic_table.proofs.Lists.{set_else, set_again}
use Rattle.fq_model.specs.declared.config.Config.{Config}
use Rattle.fq_model.specs.declared.event.Entry.{Entry}
use Rattle.history_lock.specs.Histories.{IsPrefix}
use Rattle.history_lock.proofs.Lists.{seats_stay, at_end}
use Rattle.status_board.specs.declared.table.View.{View}
use Rattle.status_board.specs.declared.table.Stage.TheVariants.{Idle, Rests}
use Rattle.status_board.specs.Plays.{Holding, confirmed}
use Rattle.status_board.specs.Rule.{IsLive, Staged, Knows, Kept}
use Rattle.status_board.specs.Views.{same_view, new_reader, with_joined, spent_view}
use Rattle.status_board.proofs.Stages.{known, loaded}

module _ (C : Config) where
  -- a reader more, that has seen the history that a view has seen
  adds : (s : State (Unit {0}) View) (r : Kept C s) (id : ℕ) (v : View) → get_elem? s.views id ≡ some v → IsLive C r.marks id v
      → Kept C record { words = s.words; homes = s.homes; views = set s.views id v ++ new_reader v ∷ [] }
  adds s r id v at live = subst (λ (vs : List View). Kept C record { words = s.words; homes = s.homes; views = vs ++ new_reader v ∷ [] }) (sym (set_again s.views id v at)) record {
    marks = r.marks;
    words = r.words;
    wide = r.wide;
    low = r.low;
    at_rest = r.at_rest;
    each_seat = λ j x there. ⊎_elim (λ (t : get_elem? s.views j ≡ some x). r.each_seat j x t)
        (λ (t : (j ≡ length s.views) × (new_reader v ≡ x)). subst (λ (y : View). Knows C r.marks j y) t.1 live) (at_end s.views (new_reader v) x j there);
  }

  pub writer_splits : (id : ℕ) (v : View) → v.stage ≡ Rests → Splits (Kept C) id v (same_view v) (new_reader v)
  writer_splits id v rests s r at = adds s r id v at (known C s r id v Rests at rests).0

  pub reader_splits : (id : ℕ) (v : View) → v.stage ≡ Idle → Splits (Kept C) id v (same_view v) (new_reader v)
  reader_splits id v idle s r at = adds s r id v at (known C s r id v Idle at idle)

  pub merges : (id : ℕ) (v : View) (other : ℕ) (w : View) → v.stage ≡ Rests → w.stage ≡ Idle → Joins (Kept C) id v other w (with_joined v w) spent_view
  merges id v other w rests idle s r at apart there =
      let both : View = with_joined v w in
      let at_other : get_elem? s.views other ≡ some w = sym (set_else s.views id other both apart) ∙ there in
      let mine = known C s r id v Rests at rests in let theirs = known C s r other w Idle at_other idle in
      let joined : Knows C r.marks id both = subst (Staged C r.marks id both) (sym rests) ((mine.0.0, mine.0.1, theirs.1), mine.1, mine.2, mine.3) in record {
        marks = r.marks;
        words = r.words;
        wide = r.wide;
        low = r.low;
        at_rest = r.at_rest;
        each_seat = seats_stay (Knows C r.marks) (set s.views id both) other spent_view tt
            (λ j x away h. seats_stay (Knows C r.marks) s.views id both joined (λ i y _ e. r.each_seat i y e) j x h);
      }

  pub confirms : (slots id : ℕ) (me : Holding) → me.0.stage ≡ Rests → Allows (Kept C) slots id me 0 (λ n. n) (confirmed (step slots 0 0 0 none) me)
  confirms slots id me rests s r deep at _ = let k = known C s r id me.0 Rests at rests in (
    me.0,
    keeps,
    tt,
    loaded C s r 0 id me.0 (r.each_seat id me.0 at),
    (refl, subst (λ (P : List Entry). IsPrefix me.0.joined P) (sym k.2) k.0.2),
  )
