-- The writer's steps keep the rule.
use Rattle.std.proofs.Common.{◌≡◌, ℕ, zero, suc, ◌+◌, ◌-◌, ◌*◌, ◌<◌, List, [], ◌∷◌, Some, pos, length, set, sym, refl, ap, ◌∙◌, subst, arith, length-set}
use mathlib.Core.Option.{none}
use Rattle.atomic_table.specs.Table.{step, keeps, Allows}
use Rattle.fq_model.specs.declared.config.Config.{Config}
use Rattle.fq_model.specs.declared.event.Entry.{Entry}
use Rattle.fq_model.specs.declared.parts.Status.{Status}
use Rattle.history_lock.specs.Histories.{IsPrefix}
use Rattle.history_lock.proofs.Histories.{prefix_through}
use Rattle.history_lock.proofs.Lists.{seats_stay}
use Rattle.status_board.specs.declared.table.View.{View}
use Rattle.status_board.specs.declared.table.Stage.TheVariants.{Rests, Writes}
use Rattle.status_board.specs.Plays.{Holding, began, HasWritten, wrote, published}
use Rattle.status_board.specs.Rule.{Marks, Staged, Knows, Kept}
use Rattle.status_board.specs.Words.{status_at, words_of, words_in, FitStatus}
use Rattle.status_board.proofs.Lists.{prefix_of_itself}
use Rattle.status_board.proofs.Statuses.{words_are}
use Rattle.status_board.proofs.Stages.{known, others_know}

module _ (C : Config) where
  pub begins : (slots id old : ℕ) (me : Holding) → me.0.stage ≡ Rests → old ≡ length me.0.seen → Allows (Kept C) slots id me 0 (λ _. 2 * old + 1) (λ _. began (step slots 0 (2 * old + 1) 0 none) me (2 * old + 1))
  begins slots id old me rests count s r deep at _ =
      let k : Marks = r.marks in let k2 : Marks = record k { busy = 1 } in let know = known C s r id me.0 Rests at rests in
      let w : View = record me.0 { stage = Writes; words = words_in me.0.config me.0.seen } in let quiet = know.3 in
      let stand : words_in me.0.config me.0.seen ≡ k.rest = ap (λ c. words_in c me.0.seen) know.0.0 ∙ (ap (words_of C) know.2 ∙ sym (r.at_rest quiet).0) in
      let odd : 2 * old + 1 ≡ 2 * length k.shown + 1 = ap (λ (n : ℕ). 2 * n + 1) (count ∙ ap length know.2) in (
        w,
        keeps,
        tt,
        record {
          marks = k2;
          words = ap (λ (ws : List ℕ). set ws 0 (2 * old + 1)) r.words ∙ ap (λ (n : ℕ). n ∷ k.rest) odd;
          wide = r.wide;
          low = omega arith;
          at_rest = λ e. absurd (omega arith);
          each_seat = seats_stay (Knows C k2) s.views id w (know.0, know.1, know.2, refl, stand)
              (λ j v away there. others_know C k k2 j v refl (λ e. away (e ∙ sym know.1)) (prefix_of_itself k.shown) (omega arith) (r.each_seat j v there));
        },
        refl,
      )

  pub puts : (slots id i x : ℕ) (me : Holding) → me.0.stage ≡ Writes → 0 < i → i < 6 → Allows (Kept C) slots id me i (λ _. x) (λ _. wrote (step slots i x 0 none) me x)
  puts slots id i x me writes above inside s r deep at _ =
      let k : Marks = r.marks in let know = known C s r id me.0 Writes at writes in
      let rest2 : List ℕ = set k.rest (i - 1) x in let k2 : Marks = record k { rest = rest2 } in
      let w : View = record me.0 { words = set me.0.words (i - 1) x } in let busy = know.3 in (
        w,
        keeps,
        tt,
        record {
          marks = k2;
          words = ap (λ (ws : List ℕ). set ws i x) r.words ∙ here i above;
          wide = length-set k.rest (i - 1) x ∙ r.wide;
          low = r.low;
          at_rest = λ e. absurd (omega arith);
          each_seat = seats_stay (Knows C k2) s.views id w
              (subst (Staged C k2 id w) (sym writes) (know.0, know.1, know.2, know.3, ap (λ (l : List ℕ). set l (i - 1) x) know.4))
              (λ j v away there. others_know C k k2 j v refl (λ e. away (e ∙ sym know.1)) (prefix_of_itself k.shown) (omega arith) (r.each_seat j v there));
        },
        refl,
      )
    where
      here : (j : ℕ) → 0 < j → set ((2 * length r.marks.shown + r.marks.busy) ∷ r.marks.rest) j x ≡ (2 * length r.marks.shown + r.marks.busy) ∷ set r.marks.rest (j - 1) x
      here zero l = absurd (omega arith)
      here (suc j) l = ap (λ (y : ℕ). (2 * length r.marks.shown + r.marks.busy) ∷ set r.marks.rest y x) (omega arith)

  pub publishes : (slots id n : ℕ) (me : Holding) (P : List Entry) → me.0.stage ≡ Writes → n ≡ 2 * length P → IsPrefix me.0.seen P → length me.0.seen < length P → me.0.words ≡ words_of C P → FitStatus me.0.words
      → Allows (Kept C) slots id me 0 (λ _. n) (λ _. published P (step slots 0 n 0 none) me n)
  publishes slots id n me P writes even more longer right fit s r deep at _ =
      let k : Marks = r.marks in let know = known C s r id me.0 Writes at writes in let k2 : Marks = record k { shown = P; busy = 0 } in
      let w : View = record me.0 { stage = Rests; seen = P } in let same : length me.0.seen ≡ length k.shown = ap length know.2 in let low = r.low in
      let goes_on : IsPrefix k.shown P = subst (λ (l : List Entry). IsPrefix l P) know.2 more in (
        w,
        keeps,
        tt,
        record {
          marks = k2;
          words = ap (λ (ws : List ℕ). set ws 0 n) r.words ∙ ap (λ (m : ℕ). m ∷ k.rest) (omega arith);
          wide = r.wide;
          low = omega arith;
          at_rest = λ _. (sym know.4 ∙ right, subst FitStatus know.4 fit);
          each_seat = seats_stay (Knows C k2) s.views id w
              ((know.0.0, prefix_of_itself P, prefix_through me.0.joined k.shown P know.0.2 goes_on), know.1, refl, refl)
              (λ j v away there. others_know C k k2 j v refl (λ e. away (e ∙ sym know.1)) goes_on (omega arith) (r.each_seat j v there));
        },
        refl,
      )

-- since it began the writer knows these words
abbrev pub Writing : Holding → Holding → List ℕ → Type 0
Writing before me words = me ≡ (record before.0 { stage = Writes; words = words }, before.1)

-- it begins with the words of the status that is shown
pub begun : (C : Config) (me me2 : Holding) (s : Status) (low high : ℕ) → me.0.config ≡ Some C → s ≡ status_at C me.0.seen → s.vtime ≡ pos (high * 18446744073709551616 + low) → low < 18446744073709551616
    → Writing me me2 (words_in me.0.config me.0.seen) → Writing me me2 (s.moment ∷ low ∷ high ∷ s.waiting ∷ s.running ∷ [])
begun C me me2 s low high config is halved less told =
    let stand : words_in me.0.config me.0.seen ≡ s.moment ∷ low ∷ high ∷ s.waiting ∷ s.running ∷ [] = ap (λ c. words_in c me.0.seen) config ∙ sym (words_are C me.0.seen s is low high halved less) in
    told ∙ ap (λ words. (record me.0 { stage = Writes; words = words }, me.1)) stand

-- another word stands now
pub then_wrote : (before me me2 : Holding) (words : List ℕ) (i x : ℕ) → Writing before me words → HasWritten me i x me2 → Writing before me2 (set words i x)
then_wrote before me me2 words i x is told = subst (λ m. HasWritten m i x me2) is told
