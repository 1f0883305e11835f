-- The machine at the lock's last moment, by the rule.
use Rattle.std.proofs.Common.{◌≡◌, ℕ, ◌%◌, List, [], ◌∷◌, refl, sym, ap, ◌∙◌, subst, inl, inr, arith, Option, Some}
use mathlib.Core.Logic.{dite}
use mathlib.Core.Option.{some, some-injective}
use mathlib.Core.Option as maybe
use native.Mathlib.Decide.{ℕ_discrete}
use lib.ListN.{get_elem?}
use Rattle.atomic_table.specs.Table.{State, Final, Seen}
use Rattle.atomic_table.proofs.Lists.{one_turn}
use Rattle.fq_model.specs.declared.event.Entry.{Entry}
use Rattle.fq_model.specs.Outcome.{own_entries}
use Rattle.history_lock.specs.declared.table.View.{View}
use Rattle.history_lock.specs.declared.table.Stage.TheVariants.{Idle}
use Rattle.history_lock.specs.Histories.{IsPrefix}
use Rattle.history_lock.specs.Views.{turns_of, turns_at}
use Rattle.history_lock.specs.Rule.{total, Fits, Slot, Kept}
use Rattle.history_lock.specs.Passes.{PassView, held, HasEnded, HasNoneAbove, AllEnded}
use Rattle.history_lock.specs.Last.{WasLast}
use Rattle.atomic_table.specs.Seated.{TableId}
use Rattle.history_lock.proofs.Lists.{one_view, one_of, total_zero}
use Rattle.history_lock.proofs.Histories.{own}
use Rattle.history_lock.proofs.Stages.{turns_few, code, spent_quiet}
use Rattle.history_lock.proofs.Views.{fits}

module _ {M F : Type 0} (past : M → List Entry) (frame : M → F) (like : F) where
  words_of : (s : State (Option M) (View F)) (r : Kept past frame like s) (ws : List ℕ) (d w : ℕ) → s.words ≡ ws → get_elem? ws 0 ≡ some d → get_elem? ws 1 ≡ some w → (r.marks.drawn % 18446744073709551616 ≡ d) × (r.marks.served % 18446744073709551616 ≡ w)
  words_of s r ws d w is first second = let all : ws ≡ r.marks.drawn % 18446744073709551616 ∷ r.marks.served % 18446744073709551616 ∷ [] = sym is ∙ r.words in
      (some-injective _ d (sym (ap (λ (l : List ℕ). get_elem? l 0) all) ∙ first), some-injective _ w (sym (ap (λ (l : List ℕ). get_elem? l 1) all) ∙ second))

  -- the words that the table was closed with are those of the last moment
  pub last_words : (table : TableId) (id : ℕ) (v : View F) (ws : List ℕ) (xs : List (Option M)) (d w : ℕ) → Final (Seen (Kept past frame like) id v) ws xs → get_elem? ws 0 ≡ some d → get_elem? ws 1 ≡ some w
      → WasLast past frame like (held table v) d w
  last_words table id v ws xs d w (s, (r, at), is, wide, keeps_home) first second = let p = words_of s r ws d w is first second in
      (s, r, r.words ∙ (ap (λ (n : ℕ). n ∷ r.marks.served % 18446744073709551616 ∷ []) p.0 ∙ ap (λ (n : ℕ). d ∷ n ∷ []) p.1), (id, v, at, refl))

  -- the facts about the machine then, by the pass that closes
  abbrev pub Ends : PassView F → M → Type 0
  Ends h m = (frame m ≡ like) × IsPrefix h.seen (past m) × (own_entries (past m) h.number ≡ h.mine) × HasEnded (past m) h.ended × HasNoneAbove (past m) h.made

  -- where as many turns were served as drawn, the machine is at home
  pub settles : (table : TableId) (id : ℕ) (v : View F) (ws : List ℕ) (xs : List (Option M)) (d w : ℕ) (x : Option M) → v.stage ≡ Idle → v.number ≡ 0 → Final (Seen (Kept past frame like) id v) ws xs
      → get_elem? ws 0 ≡ some d → get_elem? ws 1 ≡ some w → get_elem? xs 0 ≡ some x → d ≡ w → (m : M) × (x ≡ Some m) × Ends (held table v) m
  settles table id v ws xs d w x idle zeroth (s, (r, at), is, wide, keeps_home) first second third same =
      let k = r.marks in let one : code v.stage ≡ 1 = ap code idle in let f = fits past frame like s r id v at (λ e. omega arith) in
      let a = turns_few s.views in let b = r.few in let c = r.counted in let e = r.bounded in
      let p = words_of s r ws d w is first second in
      let equal : k.served ≡ k.drawn = one_turn k.served k.drawn 18446744073709551616 (omega arith) (omega arith) (p.1 ∙ (sym same ∙ sym p.0)) in
      let none_out : total turns_of s.views ≡ 0 = omega arith in go r.slot none_out f
    where
      go : Slot past frame like r.marks.history s.homes s.views → total turns_of s.views ≡ 0 → Fits like r.marks id v → (m : M) × (x ≡ Some m) × Ends (held table v) m
      go (inl (m, homes_is, past_is, frame_is)) z f = (
        m,
        some-injective x (Some m) (sym third ∙ keeps_home 0 (Some m) (ap (λ (l : List (maybe.Option (Option M))). get_elem? l 0) homes_is)),
        (
          frame_is,
          subst (λ (l : List Entry). IsPrefix v.seen l) (sym past_is) f.sees,
          ap (own v.number) past_is ∙ f.own_history,
          (λ j e q. ap (own e.0) past_is ∙ (f.gone j e q).1),
          λ n over. ap (own n) past_is ∙ (r.above n (let g = f.maker zeroth in omega arith)).0,
        ),
      )
      go (inr (none_is, (j, u, t, q, there, served))) z f = let a = one_of turns_of s.views j u there in let b : turns_at u.stage ≡ 1 = ap turns_at served in absurd (omega arith)

  -- where every other number has ended, as many turns were served as drawn
  pub all_served : (id : ℕ) (v : View F) (ws : List ℕ) (xs : List (Option M)) (d w : ℕ) → v.stage ≡ Idle → v.number ≡ 0 → Final (Seen (Kept past frame like) id v) ws xs
      → get_elem? ws 0 ≡ some d → get_elem? ws 1 ≡ some w → AllEnded v.made v.ended → d ≡ w
  all_served id v ws xs d w idle zeroth (s, (r, at), is, wide, keeps_home) first second covers =
      let p = words_of s r ws d w is first second in
      let c = r.counted in let z = total_zero turns_of s.views quiet in let equal : r.marks.drawn ≡ r.marks.served = omega arith in
      sym p.0 ∙ (ap (λ (n : ℕ). n % 18446744073709551616) equal ∙ p.1)
    where
      f : Fits like r.marks id v
      f = fits past frame like s r id v at (λ e. let one : code v.stage ≡ 1 = ap code idle in omega arith)

      live_quiet : (j : ℕ) (x : View F) → get_elem? s.views j ≡ some x → Fits like r.marks j x → turns_at x.stage ≡ 0
      live_quiet j x there g = dite (ℕ_discrete x.number 0)
          (λ e. let here : j ≡ id = sym g.placed ∙ (ap r.marks.owner (e ∙ sym zeroth) ∙ f.placed) in
          ap (λ (y : View F). turns_at y.stage) (one_view s.views id x v (ap (get_elem? s.views) (sym here) ∙ there) at) ∙ ap turns_at idle)
          (λ n. let low = g.numbered in let made = f.maker zeroth in let got = covers x.number (omega arith) (omega arith) in
          let shut : r.marks.closed x.number ≡ 1 = (f.gone got.0 (x.number, got.1) got.2).0 in let alive = g.alive in absurd (omega arith))

      quiet : (j : ℕ) (x : View F) → get_elem? s.views j ≡ some x → turns_of x ≡ 0
      quiet j x there = dite (ℕ_discrete (code x.stage) 0) (λ e. spent_quiet x.stage e) (λ n. live_quiet j x there (fits past frame like s r j x there n))

pub ends_moved : {M F : Type 0} (past : M → List Entry) (frame : M → F) (like like2 : F) (h h2 : PassView F) (m m2 : M) → like ≡ like2 → h ≡ h2 → m ≡ m2 → Ends past frame like h m → Ends past frame like2 h2 m2
ends_moved {M = M} {F = F} past frame like like2 h h2 m m2 a b c = subst (λ (x : F × PassView F × M). Ends past frame x.0 x.1 x.2) (λ i. (a i, b i, c i))

pub last_moved : {M F : Type 0} (past : M → List Entry) (frame : M → F) (like like2 : F) (h h2 : PassView F) (d w : ℕ) → like ≡ like2 → h ≡ h2 → WasLast past frame like h d w → WasLast past frame like2 h2 d w
last_moved {F = F} past frame like like2 h h2 d w a b = subst (λ (x : F × PassView F). WasLast past frame x.0 x.1 d w) (λ i. (a i, b i))
