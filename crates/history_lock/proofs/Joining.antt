-- A pass is taken in: the rule stays, and the pass that stays learns of it.
use Rattle.std.proofs.Common.{◌≡◌, ◌≢◌, ℕ, List, set, sym, refl, ap, ◌∙◌, subst, ⊎_elim, arith, Option, length-set}
use mathlib.Core.Option.{none, some}
use lib.ListN.{get_elem?}
use Rattle.atomic_table.specs.Table.{Me, step, keeps, Allows, Joins}
use Rattle.atomic_table.proofs.Lists.{at_set, set_else, at_snoc}
use Rattle.fq_model.specs.declared.event.Entry.{Entry}
use Rattle.history_lock.specs.declared.table.View.{View}
use Rattle.history_lock.specs.declared.table.Stage.{Stage}
use Rattle.history_lock.specs.declared.table.Stage.TheVariants.{Idle}
use Rattle.history_lock.specs.Histories.{IsPrefix}
use Rattle.history_lock.specs.Views.{turns_of, turns_at, spent_view, joined}
use Rattle.history_lock.specs.Rule.{Staged, Fits, Knows, Marks, Kept, Unless}
use Rattle.history_lock.specs.Plays.{noted}
use Rattle.history_lock.proofs.Functions.{put, put_here, put_else, put_one}
use Rattle.history_lock.proofs.Lists.{total_set, seats_stay}
use Rattle.history_lock.proofs.Histories.{own, longer_sees, longer_both, own_longer}
use Rattle.history_lock.proofs.Stages.{code, unless_map}
use Rattle.history_lock.proofs.Views.{slot_kept, fits, same_rule}

module _ {M F : Type 0} (past : M → List Entry) (frame : M → F) (like : F) where
  pub merges : (id : ℕ) (v : View F) (other : ℕ) (w : View F) → v.stage ≡ Idle → v.number ≡ 0 → w.stage ≡ Idle → Joins (Kept past frame like) id v other w (joined v w) spent_view
  merges id v other w idle zeroth idle' s r at apart there =
      let k = r.marks in let one : code v.stage ≡ 1 = ap code idle in let one' : code w.stage ≡ 1 = ap code idle' in let f = fits past frame like s r id v at (λ e. omega arith) in
      let jv : View F = joined v w in let vs : List (View F) = set s.views id jv in
      let at_other : get_elem? s.views other ≡ some w = sym (set_else s.views id other jv apart) ∙ there in
      let g = fits past frame like s r other w at_other (λ e. omega arith) in
      let k' : Marks = record k { closed = put k.closed w.number 1 } in
      let low = g.numbered in
      let open_still : (n : ℕ) → k.owner n ≢ other → k.closed n ≡ 0 → put k.closed w.number 1 n ≡ 0 = λ n away h. put_else k.closed w.number 1 n (λ e. away (ap k.owner e ∙ g.placed)) ∙ h in
      let gone_map : (e : ℕ × List Entry) → (k.closed e.0 ≡ 1) × (own e.0 k.history ≡ e.1) → (put k.closed w.number 1 e.0 ≡ 1) × (own e.0 k.history ≡ e.1) = λ e h. (put_one k.closed w.number e.0 h.0, h.1) in
      let map : (j : ℕ) (x : View F) → j ≢ other → Fits like k j x → Fits like k' j x = λ j x away h. record {
        framed = h.framed;
        sees = h.sees;
        own_seen = h.own_seen;
        own_history = h.own_history;
        placed = h.placed;
        numbered = h.numbered;
        alive = open_still x.number (λ e. away (sym h.placed ∙ e)) h.alive;
        maker = h.maker;
        saw_before = h.saw_before;
        other_saw = h.other_saw;
        gone = λ i e q. gone_map e (h.gone i e q);
      } in
      let both : Fits like k' id jv = record {
        framed = f.framed;
        sees = longer_sees k.history v.seen w.seen f.sees g.sees;
        own_seen = own_longer v.number k.history v.seen w.seen v.mine f.sees g.sees f.own_seen f.own_history;
        own_history = f.own_history;
        placed = f.placed;
        numbered = f.numbered;
        alive = open_still v.number (λ e. apart (sym (sym f.placed ∙ e))) f.alive;
        maker = f.maker;
        saw_before = f.sees;
        other_saw = g.sees;
        gone = λ i e q. ⊎_elim (λ (t : get_elem? v.ended i ≡ some e). gone_map e (f.gone i e t)) (λ (t : (w.number, w.mine) ≡ e). subst (λ (z : ℕ × List Entry). (put k.closed w.number 1 z.0 ≡ 1) × (own z.0 k.history ≡ z.1)) t (put_here k.closed w.number 1, g.own_history))
            (at_snoc v.ended (w.number, w.mine) e i q);
      } in record {
        marks = k';
        words = r.words;
        counted = (let a = total_set turns_of s.views id v jv at in let b = total_set turns_of vs other w spent_view there in let c : turns_at v.stage ≡ 0 = ap turns_at idle in let d : turns_at w.stage ≡ 0 = ap turns_at idle' in let e = r.counted in omega arith);
        few = (let a = length-set s.views id jv in let b = length-set vs other spent_view in let c = r.few in omega arith);
        bounded = r.bounded;
        above = λ number over. ((r.above number over).0, put_else k.closed w.number 1 number (λ e. omega arith) ∙ (r.above number over).1);
        each_seat = seats_stay (Knows like k') vs other spent_view (tt, tt) (λ j x away h.
            ⊎_elim (λ (t : (j ≡ id) × (jv ≡ x)). subst (λ (z : ℕ × View F). Knows like k' z.0 z.1) (λ c. (sym t.0 c, t.1 c)) (subst (λ (y : Stage). Unless (Fits like k' id jv) y × Staged k' id y) (sym idle) (both, tt)))
            (λ (t : (j ≢ id) × (get_elem? s.views j ≡ some x)). let u = r.each_seat j x t.1 in (unless_map x.stage (map j x away) u.0, u.1)) (at_set s.views id j jv x h));
        slot = slot_kept past frame like k.history s.homes vs other w spent_view there (λ e. omega arith) (slot_kept past frame like k.history s.homes s.views id v jv at (λ e. omega arith) r.slot);
      }

  pub notes : (slots id : ℕ) (me : Me (Option M) (View F)) → me.0.stage ≡ Idle → Allows (Kept past frame like) slots id me 1 (λ n. n) (noted (step slots 1 0 0 none) me)
  notes slots id me idle s r deep at _ = let one : code me.0.stage ≡ 1 = ap code idle in let f = fits past frame like s r id me.0 at (λ e. omega arith) in (
    me.0,
    keeps,
    tt,
    same_rule past frame like s r id 1 me.0 (omega arith) at,
    (refl, f.own_seen, λ is. let b = longer_both r.marks.history me.0.seen_before me.0.seen_by_other f.saw_before f.other_saw in (subst (λ (l : List Entry). IsPrefix me.0.seen_before l) (sym is) b.0, subst (λ (l : List Entry). IsPrefix me.0.seen_by_other l) (sym is) b.1)),
  )
