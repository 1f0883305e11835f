-- The steps of a look keep the rule.
use Rattle.std.proofs.Common.{◌≡◌, ◌≢◌, ℕ, zero, suc, ◌+◌, ◌-◌, ◌*◌, ◌%◌, ◌<◌, ◌≤◌, List, ◌∷◌, length, get_or, set, sym, refl, ap, ◌∙◌, subst, arith, Option}
use mathlib.Core.Logic.{dite}
use mathlib.Core.Option.{none}
use native.Mathlib.Decide.{ℕ_discrete}
use Rattle.atomic_table.specs.Table.{State, step, keeps, Allows}
use Rattle.fq_model.specs.declared.config.Config.{Config}
use Rattle.fq_model.specs.declared.event.Entry.{Entry}
use Rattle.history_lock.specs.Histories.{IsPrefix}
use Rattle.status_board.specs.declared.table.View.{View}
use Rattle.status_board.specs.declared.table.Stage.TheVariants.{Idle, Reading}
use Rattle.status_board.specs.Plays.{Holding, looked, peeked, HasPeeked, checked, glanced}
use Rattle.status_board.specs.Rule.{Marks, Staged, Kept}
use Rattle.status_board.specs.Words.{words_of, words_in, FitStatus}
use Rattle.status_board.proofs.Lists.{prefix_of_itself, prefix_length, prefix_whole}
use Rattle.status_board.proofs.Stages.{known, loaded}

module _ (C : Config) where
  version_is : (s : State (Unit {0}) View) (r : Kept C s) → get_or s.words 0 0 ≡ 2 * length r.marks.shown + r.marks.busy
  version_is s r = ap (λ (ws : List ℕ). get_or ws 0 0) r.words

  pub looks : (slots id : ℕ) (me : Holding) → me.0.stage ≡ Idle → Allows (Kept C) slots id me 0 (λ n. n) (looked (step slots 0 0 0 none) me)
  looks slots id me idle s r deep at _ =
      let found : ℕ = get_or s.words 0 0 in let live = known C s r id me.0 Idle at idle in let is = version_is s r in let low = r.low in
      let noted : View = record me.0 { stage = Reading; noted = r.marks.shown; version = found } in
      dite (ℕ_discrete (found % 2) 0)
      (λ even. let double : found ≡ 2 * length r.marks.shown = omega arith in (
        noted,
        keeps,
        tt,
        loaded C s r 0 id noted (live, prefix_of_itself r.marks.shown, omega arith, omega arith),
        ((λ _. (r.marks.shown, refl, double, live.1)), λ odd. absurd (odd even)),
      ))
      (λ odd. (me.0, keeps, tt, loaded C s r 0 id me.0 (r.each_seat id me.0 at), ((λ even. absurd (odd even)), λ _. refl)))

  pub peeks : (slots id i : ℕ) (me : Holding) → me.0.stage ≡ Reading → me.0.config ≡ Rattle.std.proofs.Common.Some C → 0 < i → i < 6 → Allows (Kept C) slots id me i (λ n. n) (peeked (step slots i 0 0 none) me)
  peeks slots id i me reading config above inside s r deep at _ =
      let k : Marks = r.marks in let know = known C s r id me.0 Reading at reading in
      let now : ℕ = 2 * length k.shown + k.busy in let w : View = record me.0 { version = now } in
      let before = know.2 in let after = know.3 in let low = r.low in let long = prefix_length me.0.noted k.shown know.1 in (
        w,
        keeps,
        tt,
        loaded C s r i id w (subst (Staged C k id w) (sym reading) (know.0, know.1, omega arith, omega arith)),
        (
          now,
          refl,
          after,
          λ le. let quiet : k.busy ≡ 0 = omega arith in let same : k.shown ≡ me.0.noted = prefix_whole me.0.noted k.shown know.1 (omega arith) in
              ap (λ (ws : List ℕ). get_or ws i 0) r.words
              ∙ (word i above ∙ (ap (λ (l : List ℕ). get_or l (i - 1) 0) ((r.at_rest quiet).0 ∙ ap (words_of C) same)
              ∙ ap (λ (c : Option Config). get_or (words_in c me.0.noted) (i - 1) 0) (sym config))),
        ),
      )
    where
      word : (j : ℕ) → 0 < j → get_or ((2 * length r.marks.shown + r.marks.busy) ∷ r.marks.rest) j 0 ≡ get_or r.marks.rest (j - 1) 0
      word zero l = absurd (omega arith)
      word (suc j) l = ap (λ (x : ℕ). get_or r.marks.rest x 0) (omega arith)

  pub checks : (slots id : ℕ) (me : Holding) → me.0.stage ≡ Reading → me.0.config ≡ Rattle.std.proofs.Common.Some C → Allows (Kept C) slots id me 0 (λ n. n) (checked (step slots 0 0 0 none) me)
  checks slots id me reading config s r deep at _ =
      let k : Marks = r.marks in let found : ℕ = get_or s.words 0 0 in let is = version_is s r in
      let know = known C s r id me.0 Reading at reading in let before = know.2 in let after = know.3 in let low = r.low in
      let seen : View = record me.0 { stage = Idle; seen = me.0.noted } in let kept : View = record me.0 { stage = Idle } in
      dite (ℕ_discrete found (2 * length me.0.noted))
      (λ hit. let long = prefix_length me.0.noted k.shown know.1 in let quiet : k.busy ≡ 0 = omega arith in
      let same : k.shown ≡ me.0.noted = prefix_whole me.0.noted k.shown know.1 (omega arith) in
      let words : k.rest ≡ words_in me.0.config me.0.noted = (r.at_rest quiet).0 ∙ (ap (words_of C) same ∙ ap (λ (c : Option Config). words_in c me.0.noted) (sym config)) in (
        seen,
        keeps,
        tt,
        loaded C s r 0 id seen (know.0.0, know.1, know.0.2),
        ((λ _. (omega arith, subst FitStatus words (r.at_rest quiet).1, refl)), λ miss. absurd (miss hit)),
      ))
      (λ miss. (kept, keeps, tt, loaded C s r 0 id kept know.0, ((λ hit. absurd (miss hit)), λ _. refl)))

  pub glances : (slots id : ℕ) (me : Holding) → me.0.stage ≡ Idle → Allows (Kept C) slots id me 0 (λ n. n) (glanced (step slots 0 0 0 none) me)
  glances slots id me idle s r deep at _ =
      let live = known C s r id me.0 Idle at idle in let is = version_is s r in
      let long = prefix_length me.0.seen r.marks.shown live.1 in
      (me.0, keeps, tt, loaded C s r 0 id me.0 (r.each_seat id me.0 at), (refl, omega (arith, is, long)))

-- the fact of a look at one word, for the place as it was at the look at the first word
pub then_peeked : (slots i : ℕ) (me0 me me2 : Holding) (version found : ℕ) → me ≡ (record me0.0 { version = version }, me0.1) → peeked (step slots i 0 0 none) me found me2
    → (later : ℕ) × (me2 ≡ (record me0.0 { version = later }, me0.1)) × (version ≤ later) × (later ≤ 2 * length me0.0.noted → found ≡ get_or (words_in me0.0.config me0.0.noted) (i - 1) 0)
then_peeked slots i me0 me me2 version found is told = subst (λ (m : Holding). peeked (step slots i 0 0 none) m found me2) is told

module _ (slots : ℕ) (me0 me1 me2 me3 : Holding) (version found : ℕ) (words : List ℕ) where
  -- a look at all words between two equal even versions
  pub sees_whole : looked (step slots 0 0 0 none) me0 version me1 → version % 2 ≡ 0 → HasPeeked me1 words me2 → checked (step slots 0 0 0 none) me2 found me3 → found ≡ version
      → (P : List Entry) × (later : ℕ) × (version ≡ 2 * length P) × IsPrefix me0.0.seen P × (words ≡ words_in me0.0.config P) × FitStatus words
      × (me3 ≡ (record me0.0 { stage = Idle; seen = P; noted = P; version = later }, me0.1))
  sees_whole look even peek check same =
      let l = look.0 even in
      let p = subst (λ (m : Holding). HasPeeked m words me2) l.1 peek in
      let k = subst (λ (m : Holding). checked (step slots 0 0 0 none) m found me3) p.1 check in
      let hit = k.0 (same ∙ l.2) in let words_is = p.3 hit.0 in
      (l.0, p.0, l.2, l.3, words_is, subst FitStatus (sym words_is) hit.1, hit.2)

  -- and between two others
  pub sees_nothing : looked (step slots 0 0 0 none) me0 version me1 → version % 2 ≡ 0 → HasPeeked me1 words me2 → checked (step slots 0 0 0 none) me2 found me3 → found ≢ version
      → (P : List Entry) × (later : ℕ) × (me3 ≡ (record me0.0 { stage = Idle; noted = P; version = later }, me0.1))
  sees_nothing look even peek check other =
      let l = look.0 even in
      let p = subst (λ (m : Holding). HasPeeked m words me2) l.1 peek in
      let k = subst (λ (m : Holding). checked (step slots 0 0 0 none) m found me3) p.1 check in
      (l.0, p.0, k.1 (λ e. other (e ∙ sym l.2)))
