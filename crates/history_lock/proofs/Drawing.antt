-- A turn is drawn: the rule stays.
use Rattle.std.proofs.Common.{◌≡◌, ℕ, ◌+◌, ◌%◌, ◌^◌, List, [], ◌∷◌, get_or, set, refl, ap, ◌∙◌, arith, Option, length-set}
use mathlib.Core.Option.{none}
use Rattle.atomic_table.specs.Table.{Me, step, keeps, Allows}
use Rattle.fq_model.specs.declared.event.Entry.{Entry}
use Rattle.history_lock.specs.declared.table.View.{View}
use Rattle.history_lock.specs.declared.table.Stage.TheVariants.{Idle, Waits}
use Rattle.history_lock.specs.Views.{turns_of, turns_at, at_stage}
use Rattle.history_lock.specs.Rule.{Knows, Kept}
use Rattle.history_lock.specs.Plays.{drew}
use Rattle.history_lock.proofs.Functions.{put, put_here, next_word}
use Rattle.history_lock.proofs.Lists.{total_set, seats_stay}
use Rattle.history_lock.proofs.Stages.{code, unless_map, drawing, staged_drawn}
use Rattle.history_lock.proofs.Views.{slot_kept, fits, restaged, same_fits}

module _ {M F : Type 0} (past : M → List Entry) (frame : M → F) (like : F) where
  pub draws : (slots id : ℕ) (me : Me (Option M) (View F)) → me.0.stage ≡ Idle → Allows (Kept past frame like) slots id me 0 (λ n. (n + 1) % 2 ^ 64) (drew (step slots 0 1 0 none) me)
  draws slots id me idle s r deep at _ =
      let k = r.marks in
      let w : View F = at_stage me.0 (Waits k.drawn) in
      let one : code me.0.stage ≡ 1 = ap code idle in
      let f = fits past frame like s r id me.0 at (λ e. omega arith) in
      let c = r.counted in (
        w,
        keeps,
        tt,
        record {
          marks = drawing k id;
          words = ap (λ (ws : List ℕ). set ws 0 ((get_or ws 0 0 + 1) % 18446744073709551616)) r.words ∙ ap (λ (n : ℕ). n ∷ k.served % 18446744073709551616 ∷ []) (next_word k.drawn);
          counted = (let a = total_set turns_of s.views id me.0 w at in let b : turns_at me.0.stage ≡ 0 = ap turns_at idle in omega arith);
          few = (let a = length-set s.views id w in let b = r.few in omega arith);
          bounded = r.bounded;
          above = r.above;
          each_seat = seats_stay (Knows like (drawing k id)) s.views id w
              (restaged like k (k.drawn + 1) (put k.holder k.drawn id) id me.0 (Waits k.drawn) f, (omega arith, omega arith, put_here k.holder k.drawn id))
              (λ j v other there. let x = r.each_seat j v there in
              (unless_map v.stage (same_fits like k (k.drawn + 1) (put k.holder k.drawn id) j v) x.0, staged_drawn k j id v.stage x.1));
          slot = slot_kept past frame like k.history s.homes s.views id me.0 w at (λ e. omega arith) r.slot;
        },
        (k.drawn, ap (λ (ws : List ℕ). get_or ws 0 0) r.words, refl),
      )
