use Rattle.std.proofs.Common.{rules, sym, ap, ◌∙◌, ◌≡◌, ◌*◌, arith, subst, length, slice_index}
use Rattle.std.proofs.lemmas.Int.{ints}
use Rattle.std.specs.Int.{w128}
use mir.Val.{to_z, of_z}
use Rattle.status_board.specs.Words.{words_of, FitStatus}
use Rattle.status_board.proofs.Statuses.{entries_are, words_are, time_is}
use Rattle.status_board.proofs.Writing.{begins, publishes, begun, then_wrote}
use Rattle.status_board.proofs.writer.publish.Goals as goal

pub halves-shown_low-requires : goal.halves-shown_low-requires
halves-shown_low-requires g c =
    let time = time_is c.args.table.now.shared.key.value c.args.place.now.me.0.seen c.args.shown c.requires.shown in
    let back : to_z w128 (of_z w128 c.args.shown.vtime) ≡ c.args.shown.vtime = omega (arith, ints) in
    rw (back, time) (omega (arith, ints))

pub halves-low-requires : goal.halves-low-requires
halves-low-requires g c =
    let time = time_is c.args.table.now.shared.key.value c.args.past.now c.args.status c.requires.status in
    let back : to_z w128 (of_z w128 c.args.status.vtime) ≡ c.args.status.vtime = omega (arith, ints) in
    rw (back, time) (omega (arith, ints))

pub overflow_mul-shown : goal.overflow_mul-shown
overflow_mul-shown g c =
    let n = entries_are c.args.table.now.shared.key.value c.args.place.now.me.0.seen c.args.shown c.requires.shown in omega (arith, n, c.requires.longer)

pub overflow_add-shown : goal.overflow_add-shown
overflow_add-shown g c =
    let n = entries_are c.args.table.now.shared.key.value c.args.place.now.me.0.seen c.args.shown c.requires.shown in omega (arith, n, c.requires.longer)

pub store-requires : goal.store-requires
store-requires g c =
    (search rules, search rules, begins _ _ _ _ _ c.requires.rests.0 (entries_are c.args.table.now.shared.key.value c.args.place.now.me.0.seen c.args.shown c.requires.shown))

pub put-requires-clause-stands : goal.put-requires-clause-stands
put-requires-clause-stands g c =
    let back : to_z w128 (of_z w128 c.args.shown.vtime) ≡ c.args.shown.vtime = omega (arith, ints) in
    let h0 = begun c.args.table.now.shared.key.value c.args.place.now.me _ c.args.shown _ _ c.requires.config c.requires.shown (sym back ∙ c.halves-shown_low.ensures.value) (omega arith) c.store.ensures.2 in
    ap (λ m. slice_index m.0.words 0) h0

pub put-requires-2-clause-stands : goal.put-requires-2-clause-stands
put-requires-2-clause-stands g c =
    let back : to_z w128 (of_z w128 c.args.shown.vtime) ≡ c.args.shown.vtime = omega (arith, ints) in
    let h0 = begun c.args.table.now.shared.key.value c.args.place.now.me _ c.args.shown _ _ c.requires.config c.requires.shown (sym back ∙ c.halves-shown_low.ensures.value) (omega arith) c.store.ensures.2 in
    let h1 = then_wrote c.args.place.now.me _ _ _ 0 _ h0 c.put.ensures.written in
    ap (λ m. slice_index m.0.words 1) h1

pub put-requires-3-clause-stands : goal.put-requires-3-clause-stands
put-requires-3-clause-stands g c =
    let back : to_z w128 (of_z w128 c.args.shown.vtime) ≡ c.args.shown.vtime = omega (arith, ints) in
    let h0 = begun c.args.table.now.shared.key.value c.args.place.now.me _ c.args.shown _ _ c.requires.config c.requires.shown (sym back ∙ c.halves-shown_low.ensures.value) (omega arith) c.store.ensures.2 in
    let h1 = then_wrote c.args.place.now.me _ _ _ 0 _ h0 c.put.ensures.written in
    let h2 = then_wrote c.args.place.now.me _ _ _ 1 _ h1 c.put-2.ensures.written in
    ap (λ m. slice_index m.0.words 2) h2

pub put-requires-4-clause-stands : goal.put-requires-4-clause-stands
put-requires-4-clause-stands g c =
    let back : to_z w128 (of_z w128 c.args.shown.vtime) ≡ c.args.shown.vtime = omega (arith, ints) in
    let h0 = begun c.args.table.now.shared.key.value c.args.place.now.me _ c.args.shown _ _ c.requires.config c.requires.shown (sym back ∙ c.halves-shown_low.ensures.value) (omega arith) c.store.ensures.2 in
    let h1 = then_wrote c.args.place.now.me _ _ _ 0 _ h0 c.put.ensures.written in
    let h2 = then_wrote c.args.place.now.me _ _ _ 1 _ h1 c.put-2.ensures.written in
    let h3 = then_wrote c.args.place.now.me _ _ _ 2 _ h2 c.put-3.ensures.written in
    ap (λ m. slice_index m.0.words 3) h3

pub put-requires-5-clause-stands : goal.put-requires-5-clause-stands
put-requires-5-clause-stands g c =
    let back : to_z w128 (of_z w128 c.args.shown.vtime) ≡ c.args.shown.vtime = omega (arith, ints) in
    let h0 = begun c.args.table.now.shared.key.value c.args.place.now.me _ c.args.shown _ _ c.requires.config c.requires.shown (sym back ∙ c.halves-shown_low.ensures.value) (omega arith) c.store.ensures.2 in
    let h1 = then_wrote c.args.place.now.me _ _ _ 0 _ h0 c.put.ensures.written in
    let h2 = then_wrote c.args.place.now.me _ _ _ 1 _ h1 c.put-2.ensures.written in
    let h3 = then_wrote c.args.place.now.me _ _ _ 2 _ h2 c.put-3.ensures.written in
    let h4 = then_wrote c.args.place.now.me _ _ _ 3 _ h3 c.put-4.ensures.written in
    ap (λ m. slice_index m.0.words 4) h4

pub store-requires-2 : goal.store-requires-2
store-requires-2 g c =
    let back : to_z w128 (of_z w128 c.args.shown.vtime) ≡ c.args.shown.vtime = omega (arith, ints) in
    let h0 = begun c.args.table.now.shared.key.value c.args.place.now.me _ c.args.shown _ _ c.requires.config c.requires.shown (sym back ∙ c.halves-shown_low.ensures.value) (omega arith) c.store.ensures.2 in
    let h1 = then_wrote c.args.place.now.me _ _ _ 0 _ h0 c.put.ensures.written in
    let h2 = then_wrote c.args.place.now.me _ _ _ 1 _ h1 c.put-2.ensures.written in
    let h3 = then_wrote c.args.place.now.me _ _ _ 2 _ h2 c.put-3.ensures.written in
    let h4 = then_wrote c.args.place.now.me _ _ _ 3 _ h3 c.put-4.ensures.written in
    let h5 = then_wrote c.args.place.now.me _ _ _ 4 _ h4 c.put-5.ensures.written in
    let full = ap (λ m. m.0.words) h5 in
    let whole : to_z w128 (of_z w128 c.args.status.vtime) ≡ c.args.status.vtime = omega (arith, ints) in
    let right = words_are c.args.table.now.shared.key.value c.args.past.now c.args.status c.requires.status _ _ (sym whole ∙ c.halves-low.ensures.value) (omega arith) in (
      search rules,
      search rules,
      publishes _ _ _ _ _ _ (ap (λ m. m.0.stage) h5) (ap (λ P. 2 * length P) c.requires.picked) (rw (h5, ← c.requires.picked) c.requires.past) (rw (h5, ← c.requires.picked) c.requires.longer) (full ∙ (right ∙ ap (words_of c.args.table.now.shared.key.value) c.requires.picked))
          (subst FitStatus (sym full) (c.halves-low.ensures.high, omega arith, omega arith)),
    )
