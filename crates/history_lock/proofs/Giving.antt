-- The machine is given back and the turn ends: the rule stays.
use Rattle.std.proofs.Common.{◌≡◌, ◌≢◌, ℕ, ◌+◌, ◌%◌, ◌^◌, List, [], ◌∷◌, get_or, set, sym, refl, ap, ◌∙◌, subst, inl, inr, arith, Option, Some, length-set, append-nil, unwrap_or}
use mathlib.Core.Option.{none, some}
use lib.ListN.{get_elem?}
use Rattle.atomic_table.specs.Table.{State, Me, step, gives, stepped, Allows, rest}
use Rattle.fq_model.specs.declared.event.Entry.{Entry}
use Rattle.history_lock.specs.declared.table.View.{View}
use Rattle.history_lock.specs.declared.table.Stage.{Stage}
use Rattle.history_lock.specs.declared.table.Stage.TheVariants.{Served}
use Rattle.history_lock.specs.Histories.{Grows}
use Rattle.history_lock.specs.Views.{turns_of, turns_at, learned}
use Rattle.history_lock.specs.Rule.{Staged, Fits, Knows, Marks, Slot, Kept, Unless}
use Rattle.history_lock.specs.Plays.{gave}
use Rattle.history_lock.proofs.Functions.{next_word}
use Rattle.history_lock.proofs.Lists.{total_set, seats_stay}
use Rattle.history_lock.proofs.Histories.{own, own_same, starts_more}
use Rattle.history_lock.proofs.Stages.{code, unless_map, ending, staged_ended}
use Rattle.history_lock.proofs.Views.{fits, same_head}

module _ {M F : Type 0} (past : M → List Entry) (frame : M → F) (like : F) where
  abbrev carried_or : M → List (ℕ × Option M) → M
  carried_or d [] = d
  carried_or d (x ∷ xs) = unwrap_or x.1 d

  -- an ended number's entries stay, since the caller's number has not ended
  gone_still : (k : Marks) (who : ℕ) (q : List Entry) (ended : List (ℕ × List Entry)) → k.closed who ≡ 0 → Grows who k.history q
      → ((j : ℕ) (e : ℕ × List Entry) → get_elem? ended j ≡ some e → (k.closed e.0 ≡ 1) × (own e.0 k.history ≡ e.1)) → (j : ℕ) (e : ℕ × List Entry) → get_elem? ended j ≡ some e → (k.closed e.0 ≡ 1) × (own e.0 q ≡ e.1)
  gone_still k who q ended alive grows old j e at = let g = old j e at in let a = g.0 in
      (g.0, own_same who e.0 k.history q grows (λ same. let b : k.closed e.0 ≡ 0 = ap k.closed (sym same) ∙ alive in omega arith) ∙ g.1)

  -- another seat's view stays true over the end of a turn
  others_end : (s : State (Option M) (View F)) (r : Kept past frame like s) (id j : ℕ) (me v : View F) (q : List Entry) → get_elem? s.views id ≡ some me → j ≢ id → code me.stage ≢ 0 → Grows me.number r.marks.history q → r.marks.holder r.marks.served ≡ id
      → (x : Stage) → Unless (Fits like r.marks j v) x → Staged r.marks j x → Unless (Fits like (ending r.marks q) j v) x × Staged (ending r.marks q) j x
  others_end s r id j me v q at other live grows here x u k =
      let mine = fits past frame like s r id me at live in
      let map : Fits like r.marks j v → Fits like (ending r.marks q) j v =
      λ f. let apart : me.number ≢ v.number = λ e. other (sym f.placed ∙ (ap r.marks.owner (sym e) ∙ mine.placed)) in record {
        framed = f.framed;
        sees = starts_more me.number r.marks.history q v.seen grows f.sees;
        own_seen = f.own_seen;
        own_history = own_same me.number v.number r.marks.history q grows apart ∙ f.own_history;
        placed = f.placed;
        numbered = f.numbered;
        alive = f.alive;
        maker = f.maker;
        saw_before = starts_more me.number r.marks.history q v.seen_before grows f.saw_before;
        other_saw = starts_more me.number r.marks.history q v.seen_by_other grows f.other_saw;
        gone = gone_still r.marks me.number q v.ended mine.alive grows f.gone;
      } in
      (unless_map x map u, staged_ended r.marks q j id here other x k)

  pub gives_back : (slots id : ℕ) (me : Me (Option M) (View F)) (t : ℕ) (p : List Entry) (m : M) → me.0.stage ≡ Served t p → me.1 ≡ (0, Some m) ∷ [] → me.0.frame ≡ Some (frame m) → Grows me.0.number p (past m)
      → Allows (Kept past frame like) slots id me 1 (λ n. (n + 1) % 2 ^ 64) (gave past (step slots 1 1 0 none) me)
  gives_back slots id me t p m serves carried framed grown s r deep at _ =
      let three : code me.0.stage ≡ 3 = ap code serves in
      let live : code me.0.stage ≢ 0 = λ e. omega arith in
      let f = fits past frame like s r id me.0 at live in
      let k = r.marks in
      let x = subst (Staged r.marks id) serves (r.each_seat id me.0 at).1 in
      let here : k.holder k.served ≡ id = ap k.holder (sym x.0) ∙ x.2 in
      let grows : Grows me.0.number k.history (past m) = subst (λ (l : List Entry). Grows me.0.number l (past m)) x.3 grown in
      let w : View F = learned me.0 (past m) in
      let like_is : frame m ≡ like = ap (λ (o : Option F). unwrap_or o (frame m)) (sym framed ∙ f.framed) in (
        w,
        gives,
        tt,
        subst (λ (cs : List (ℕ × Option M)). Kept past frame like (stepped s 1 ((get_or s.words 1 0 + 1) % 18446744073709551616) id cs w gives)) (sym carried) record {
          marks = ending k (past m);
          words = ap (λ (ws : List ℕ). set ws 1 ((get_or ws 1 0 + 1) % 18446744073709551616)) r.words ∙ ap (λ (n : ℕ). k.drawn % 18446744073709551616 ∷ n ∷ []) (next_word k.served);
          counted = (let a = total_set turns_of s.views id me.0 w at in let b : turns_at me.0.stage ≡ 1 = ap turns_at serves in let c = r.counted in omega arith);
          few = (let a = length-set s.views id w in let b = r.few in omega arith);
          bounded = r.bounded;
          above = λ number over. (own_same me.0.number number k.history (past m) grows (λ e. let n = f.numbered in omega arith) ∙ (r.above number over).0, (r.above number over).1);
          each_seat = seats_stay (Knows like (ending k (past m))) s.views id w (
            record {
              framed = f.framed;
              sees = ([], sym (append-nil (past m)));
              own_seen = refl;
              own_history = refl;
              placed = f.placed;
              numbered = f.numbered;
              alive = f.alive;
              maker = f.maker;
              saw_before = starts_more me.0.number k.history (past m) me.0.seen_before grows f.saw_before;
              other_saw = starts_more me.0.number k.history (past m) me.0.seen_by_other grows f.other_saw;
              gone = gone_still k me.0.number (past m) me.0.ended f.alive grows f.gone;
            },
            tt,
          )
              (λ j v other there. let u = r.each_seat j v there in others_end s r id j me.0 v (past m) at other live grows here v.stage u.0 u.1);
          slot = inl (m, home r.slot, refl, like_is);
        },
        λ m' is. let same : m ≡ m' = ap (carried_or m) (sym carried ∙ is) in let none_left : rest me.1 ≡ [] = ap rest carried in λ i. (learned me.0 (past (same i)), none_left i),
      )
    where
      home : Slot past frame like r.marks.history s.homes s.views → set s.homes 0 (some (Some m)) ≡ some (Some m) ∷ []
      home (inl h) = same_head s.homes (some (Some h.0)) (some (Some m)) h.1
      home (inr h) = same_head s.homes none (some (Some m)) h.0
