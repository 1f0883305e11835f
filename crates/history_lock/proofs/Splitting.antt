-- A pass is made: the rule stays.
use Rattle.std.proofs.Common.{◌≡◌, ◌≢◌, ℕ, ◌+◌, ◌^◌, ◌<◌, List, [], ◌∷◌, ◌++◌, length, set, sym, refl, ap, ◌∙◌, subst, ⊎_elim, inl, inr, arith, Option, length-set, length-append}
use mathlib.Core.Option.{none, some, some-ne-none}
use mathlib.Core.Option as maybe
use lib.ListN.{get_elem?}
use Rattle.atomic_table.specs.Table.{Splits}
use Rattle.atomic_table.proofs.Lists.{at_longer}
use Rattle.fq_model.specs.declared.event.Entry.{Entry}
use Rattle.history_lock.specs.declared.table.View.{View}
use Rattle.history_lock.specs.declared.table.Stage.{Stage}
use Rattle.history_lock.specs.declared.table.Stage.TheVariants.{Idle}
use Rattle.history_lock.specs.Views.{turns_of, parent, child}
use Rattle.history_lock.specs.Rule.{Staged, Fits, Knows, Marks, Slot, Kept, Unless}
use Rattle.history_lock.proofs.Functions.{put, put_here, put_else}
use Rattle.history_lock.proofs.Lists.{total_set, seats_stay, total_append, at_end}
use Rattle.history_lock.proofs.Histories.{none_before}
use Rattle.history_lock.proofs.Stages.{code, unless_map}
use Rattle.history_lock.proofs.Views.{slot_kept, fits}

module _ {M F : Type 0} (past : M → List Entry) (frame : M → F) (like : F) where
  slot_longer : (log : List Entry) (homes : List (maybe.Option (Option M))) (views : List (View F)) (w : View F) → Slot past frame like log homes views → Slot past frame like log homes (views ++ w ∷ [])
  slot_longer log homes views w (inl h) = inl h
  slot_longer log homes views w (inr (none_is, (j, u, t, p, there, served))) = inr (none_is, (j, u, t, p, at_longer views (w ∷ []) j u there, served))

  pub splits : (id : ℕ) (v : View F) → v.stage ≡ Idle → v.number ≡ 0 → v.made + 1 < 2 ^ 32 → Splits (Kept past frame like) id v (parent v) (child v)
  splits id v idle zeroth room s r at =
      let k = r.marks in let one : code v.stage ≡ 1 = ap code idle in let f = fits past frame like s r id v at (λ e. omega arith) in
      let made : v.made ≡ k.made = f.maker zeroth in let n : ℕ = v.made + 1 in
      let k' : Marks = record k { made = k.made + 1; owner = put k.owner n (length s.views) } in
      let old = r.above n (omega arith) in
      let map : (j : ℕ) (x : View F) → j ≢ id → Fits like k j x → Fits like k' j x = λ j x other g. let low = g.numbered in record {
        framed = g.framed;
        sees = g.sees;
        own_seen = g.own_seen;
        own_history = g.own_history;
        placed = put_else k.owner n (length s.views) x.number (λ e. omega arith) ∙ g.placed;
        numbered = omega arith;
        alive = g.alive;
        maker = λ z. absurd (other (sym g.placed ∙ (ap k.owner (z ∙ sym zeroth) ∙ f.placed)));
        saw_before = g.saw_before;
        other_saw = g.other_saw;
        gone = g.gone;
      } in
      let first : Fits like k' id (parent v) = record {
        framed = f.framed;
        sees = f.sees;
        own_seen = f.own_seen;
        own_history = f.own_history;
        placed = put_else k.owner n (length s.views) v.number (λ e. omega arith) ∙ f.placed;
        numbered = omega arith;
        alive = f.alive;
        maker = λ _. ap (λ (x : ℕ). x + 1) made;
        saw_before = f.saw_before;
        other_saw = f.other_saw;
        gone = f.gone;
      } in
      let second : Fits like k' (length s.views) (child v) = record {
        framed = f.framed;
        sees = f.sees;
        own_seen = none_before n k.history v.seen f.sees old.0;
        own_history = old.0;
        placed = put_here k.owner n (length s.views);
        numbered = omega arith;
        alive = old.1;
        maker = λ z. absurd (omega arith);
        saw_before = (k.history, refl);
        other_saw = (k.history, refl);
        gone = λ i e h. absurd (some-ne-none e (sym h));
      } in record {
        marks = k';
        words = r.words;
        counted = (let a = total_set turns_of s.views id v (parent v) at in let b = total_append turns_of (set s.views id (parent v)) (child v) in let c = r.counted in omega arith);
        few = (let a = length-set s.views id (parent v) in let b = length-append (set s.views id (parent v)) (child v ∷ []) in let c = r.few in omega arith);
        bounded = omega arith;
        above = λ number over. r.above number (omega arith);
        each_seat = λ j x there. ⊎_elim
            (λ (t : get_elem? (set s.views id (parent v)) j ≡ some x). seats_stay (Knows like k') s.views id (parent v)
            (subst (λ (y : Stage). Unless (Fits like k' id (parent v)) y × Staged k' id y) (sym idle) (first, tt))
            (λ i y other h. let u = r.each_seat i y h in (unless_map y.stage (map i y other) u.0, u.1)) j x t)
            (λ (t : (j ≡ length (set s.views id (parent v))) × (child v ≡ x)). subst (λ (z : ℕ × View F). Knows like k' z.0 z.1) (λ c. (sym (t.0 ∙ length-set s.views id (parent v)) c, t.1 c)) (second, tt))
            (at_end (set s.views id (parent v)) (child v) x j there);
        slot = slot_longer k.history s.homes (set s.views id (parent v)) (child v) (slot_kept past frame like k.history s.homes s.views id v (parent v) at (λ e. omega arith) r.slot);
      }
