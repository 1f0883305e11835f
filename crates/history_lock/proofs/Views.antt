-- The facts about views that stay true while others step, and the slot.
use Rattle.std.proofs.Common.{◌≡◌, ◌≢◌, ℕ, ◌<◌, List, [], ◌∷◌, get_or, set, sym, ap, ◌∙◌, subst, inl, inr, Option}
use mathlib.Core.Option.{some}
use mathlib.Core.Option as maybe
use lib.ListN.{get_elem?}
use Rattle.atomic_table.specs.Table.{State}
use Rattle.atomic_table.proofs.Lists.{set_else, set_again}
use Rattle.fq_model.specs.declared.event.Entry.{Entry}
use Rattle.history_lock.specs.declared.table.View.{View}
use Rattle.history_lock.specs.declared.table.Stage.{Stage}
use Rattle.history_lock.specs.Views.{at_stage}
use Rattle.history_lock.specs.Rule.{Fits, Marks, Slot, Kept}
use Rattle.history_lock.proofs.Lists.{one_view}
use Rattle.history_lock.proofs.Stages.{code, unless}

module _ {M : Type 0} where
  pub same_head : (homes : List (maybe.Option (Option M))) (x y : maybe.Option (Option M)) → homes ≡ x ∷ [] → set homes 0 y ≡ y ∷ []
  same_head homes x y e = ap (λ (l : List (maybe.Option (Option M))). set l 0 y) e

module _ {F : Type 0} (like : F) where
  -- a view that changes its stage alone, while turns are drawn
  pub restaged : (k : Marks) (d : ℕ) (h : ℕ → ℕ) (seat : ℕ) (v : View F) (x : Stage) → Fits like k seat v → Fits like (record k { drawn = d; holder = h }) seat (at_stage v x)
  restaged k d h seat v x f = record {
    framed = f.framed;
    sees = f.sees;
    own_seen = f.own_seen;
    own_history = f.own_history;
    placed = f.placed;
    numbered = f.numbered;
    alive = f.alive;
    maker = f.maker;
    saw_before = f.saw_before;
    other_saw = f.other_saw;
    gone = f.gone;
  }

  pub same_fits : (k : Marks) (d : ℕ) (h : ℕ → ℕ) (seat : ℕ) (v : View F) → Fits like k seat v → Fits like (record k { drawn = d; holder = h }) seat v
  same_fits k d h seat v f = record {
    framed = f.framed;
    sees = f.sees;
    own_seen = f.own_seen;
    own_history = f.own_history;
    placed = f.placed;
    numbered = f.numbered;
    alive = f.alive;
    maker = f.maker;
    saw_before = f.saw_before;
    other_saw = f.other_saw;
    gone = f.gone;
  }

module _ {M F : Type 0} (past : M → List Entry) (frame : M → F) (like : F) where
  -- a served view is another's
  pub slot_kept : (log : List Entry) (homes : List (maybe.Option (Option M))) (views : List (View F)) (id : ℕ) (v w : View F) → get_elem? views id ≡ some v → code v.stage ≢ 3 → Slot past frame like log homes views
      → Slot past frame like log homes (set views id w)
  slot_kept log homes views id v w at n (inl h) = inl h
  slot_kept log homes views id v w at n (inr (none_is, (j, u, t, p, there, served))) =
      let apart : j ≢ id = λ e. n (ap (λ (x : View F). code x.stage) (one_view views id v u at (ap (get_elem? views) (sym e) ∙ there)) ∙ ap code served) in
      inr (none_is, (j, u, t, p, set_else views id j w apart ∙ there, served))

  pub fits : (s : State (Option M) (View F)) (r : Kept past frame like s) (id : ℕ) (v : View F) → get_elem? s.views id ≡ some v → code v.stage ≢ 0 → Fits like r.marks id v
  fits s r id v at n = unless v.stage n (r.each_seat id v at).0

  -- nothing changes
  pub same_rule : (s : State (Option M) (View F)) (r : Kept past frame like s) (id i : ℕ) (v : View F) → i < 2 → get_elem? s.views id ≡ some v → Kept past frame like record { words = set s.words i (get_or s.words i 0); homes = s.homes; views = set s.views id v }
  same_rule s r id i v two at = subst (λ (z : List ℕ × List (View F)). Kept past frame like record { words = z.0; homes = s.homes; views = z.1 })
      (λ c. (sym (Rattle.std.proofs.Math.Seq.set-get_or s.words i 0) c, sym (set_again s.views id v at) c)) r
