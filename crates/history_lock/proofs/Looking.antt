-- A look at the turn that is served: the rule stays, and the machine is found where it is the caller's turn.
use Rattle.std.proofs.Common.{◌≡◌, ℕ, ◌%◌, List, ◌∷◌, get_or, set, sym, refl, ap, ◌∙◌, subst, inl, inr, arith, Option, Some, length-set}
use mathlib.Core.Logic.{dite}
use mathlib.Core.Option.{none, some}
use mathlib.Core.Option as maybe
use native.Mathlib.Decide.{ℕ_discrete}
use lib.ListN.{get_elem?}
use Rattle.atomic_table.specs.Table.{State, Me, step, Act, keeps, takes, stepped, Allows, Valid, carried_after}
use Rattle.atomic_table.proofs.Lists.{set_here, one_turn}
use Rattle.fq_model.specs.declared.event.Entry.{Entry}
use Rattle.history_lock.specs.declared.table.View.{View}
use Rattle.history_lock.specs.declared.table.Stage.{Stage}
use Rattle.history_lock.specs.declared.table.Stage.TheVariants.{Waits, Served}
use Rattle.history_lock.specs.Histories.{IsPrefix}
use Rattle.history_lock.specs.Views.{turns_of, turns_at, at_stage}
use Rattle.history_lock.specs.Rule.{Staged, Knows, Marks, Slot, Kept}
use Rattle.history_lock.specs.Plays.{looked}
use Rattle.history_lock.proofs.Lists.{total_set, seats_stay, one_view, within}
use Rattle.history_lock.proofs.Histories.{own}
use Rattle.history_lock.proofs.Stages.{turns_few, turn_or, code}
use Rattle.history_lock.proofs.Views.{fits, restaged, same_rule, same_head}

module _ {M F : Type 0} (past : M → List Entry) (frame : M → F) (like : F) where
  -- only the view that waits for the turn that is served finds its number
  its_turn : (s : State (Option M) (View F)) (r : Kept past frame like s) (id t : ℕ) (v : View F) → get_elem? s.views id ≡ some v → v.stage ≡ Waits t → get_or s.words 1 0 ≡ t % 18446744073709551616 → t ≡ r.marks.served
  its_turn s r id t v at is found =
      let k = subst (Staged r.marks id) is (r.each_seat id v at).1 in
      let word : get_or s.words 1 0 ≡ r.marks.served % 18446744073709551616 = ap (λ (ws : List ℕ). get_or ws 1 0) r.words in
      let a = turns_few s.views in let b = r.few in let c = r.counted in let e = r.bounded in let low = k.0 in let high = k.1 in
      sym (one_turn r.marks.served t 18446744073709551616 low (omega arith) (sym word ∙ found))

  pub looks : (slots id : ℕ) (me : Me (Option M) (View F)) (t : ℕ) → me.0.stage ≡ Waits t → Allows (Kept past frame like) slots id me 1 (λ n. n) (looked past frame (step slots 1 0 0 none) me)
  looks slots id me t waits s r deep at _ = dite (ℕ_discrete (get_or s.words 1 0) (t % 18446744073709551616))
      (λ hit. taken r.slot (its_turn s r id t me.0 at waits hit))
      (λ miss. (
        me.0,
        keeps,
        tt,
        same_rule past frame like s r id 1 me.0 (omega arith) at,
        λ t' is. ((λ hit. absurd (miss (hit ∙ ap (λ (x : Stage). turn_or x % 18446744073709551616) (sym is ∙ waits)))), λ _. refl),
      ))
    where
      k : Marks
      k = r.marks

      two : code me.0.stage ≡ 2
      two = ap code waits

      taken : Slot past frame like r.marks.history s.homes s.views → t ≡ r.marks.served
          → (w : View F) × (a : Act (Option M)) × Valid s.homes me.1 a × Kept past frame like (stepped s 1 (get_or s.words 1 0) id me.1 w a)
          × looked past frame (step slots 1 0 0 none) me (get_or s.words 1 0) (w, carried_after me.1 a)
      taken (inl (m, homes_is, past_is, frame_is)) same =
          let f = fits past frame like s r id me.0 at (λ e. let d = two in omega arith) in let x = subst (Staged r.marks id) waits (r.each_seat id me.0 at).1 in
          let w : View F = at_stage me.0 (Served t (past m)) in (
            w,
            takes 0 (Some m),
            ap (λ (l : List (maybe.Option (Option M))). get_elem? l 0) homes_is,
            record {
              marks = r.marks;
              words = ap (λ (ws : List ℕ). set ws 1 (get_or ws 1 0)) r.words;
              counted = (let a = total_set turns_of s.views id me.0 w at in let b : turns_at me.0.stage ≡ 1 = ap turns_at waits in let c = r.counted in omega arith);
              few = (let a = length-set s.views id w in let b = r.few in omega arith);
              bounded = r.bounded;
              above = r.above;
              each_seat = seats_stay (Knows like r.marks) s.views id w
                  (restaged like r.marks r.marks.drawn r.marks.holder id me.0 (Served t (past m)) f, (same, x.1, x.2, past_is))
                  (λ j v other there. r.each_seat j v there);
              slot = inr (same_head s.homes (some (Some m)) none homes_is, (id, w, t, past m, set_here s.views id w (within s.views id me.0 at), refl));
            },
            λ t' is. (
              (λ _. let e : t ≡ t' = ap turn_or (sym waits ∙ is) in (
                m,
                (
                  ap (λ (n : ℕ). (at_stage me.0 (Served n (past m)), (0, Some m) ∷ me.1)) e,
                  f.framed ∙ ap (λ (x : F). Some x) (sym frame_is),
                  subst (λ (l : List Entry). IsPrefix me.0.seen l) (sym past_is) f.sees,
                  ap (own me.0.number) past_is ∙ f.own_history,
                ),
              )),
              λ miss. absurd (miss (ap (λ (ws : List ℕ). get_or ws 1 0) r.words ∙ ap (λ (n : ℕ). n % 18446744073709551616) (sym same ∙ ap turn_or (sym waits ∙ is)))),
            ),
          )
      taken (inr (none_is, (j, u, q, p, there, served))) same =
          let x = subst (Staged r.marks id) waits (r.each_seat id me.0 at).1 in
          let l = subst (Staged r.marks j) served (r.each_seat j u there).1 in
          let one : j ≡ id = sym l.2 ∙ (ap r.marks.holder (l.0 ∙ sym same) ∙ x.2) in
          let both : me.0 ≡ u = one_view s.views id me.0 u at (ap (get_elem? s.views) (sym one) ∙ there) in
          let b : code me.0.stage ≡ 3 = ap (λ (x : View F). code x.stage) both ∙ ap code served in let d = two in absurd (omega arith)
