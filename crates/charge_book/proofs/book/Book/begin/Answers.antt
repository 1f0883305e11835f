use Rattle.std.proofs.Common.{◌<◌, ◌≡◌, length, slice_index, refl, ap, arith, ◌∙◌}
use Rattle.std.proofs.lemmas.Option.{slice_get_read, get_or_from_slice_get}
use Rattle.charge_book.specs.Book.{BookView, row_on, row_of_run, IsRunRow}
use Rattle.charge_book.proofs.Sound.{book_of, MayStart, sound_begun}
use Rattle.charge_book.proofs.book.Book.begin.Goals as goal

pub invariant_of-self : goal.invariant_of-self
invariant_of-self c =
    let nets = c.self.inside.nets.items in
    let row = row_of_run c.args.request c.args.tenant c.args.kind c.args.weight c.args.estimate in
    let tenant_in : c.args.tenant < length nets = omega (arith, ap (λ (b : BookView). length b.nets) c.self.view_is, c.requires.tenant) in
    let net : slice_index nets c.args.tenant ≡ c.index_mut-2.result.now = get_or_from_slice_get nets c.args.tenant c.index_mut-2.result.now 0 (slice_get_read nets _ c.args.tenant c.index_mut-2.result.now refl tenant_in c.index_mut-2.ensures.value) in
    let row_in : IsRunRow (length nets) row = record { tenant = tenant_in; weight_positive = c.requires.weight_positive; weight_in_range = c.requires.weight_in_range; estimate = c.requires.estimate; last = omega arith } in
    let may : MayStart (book_of c.self.inside.rows.items nets c.self.inside.begins) c.args.worker row = record {
      worker_in = omega (arith, ap (λ (b : BookView). length b.rows) c.self.view_is, c.requires.worker);
      free = ap (λ (b : BookView). row_on b c.args.worker) c.self.view_is ∙ c.requires.free;
      row_in = row_in;
      fresh = refl;
      few = omega (arith, ap (λ (b : BookView). b.begins) c.self.view_is, c.requires.few);
    } in
    rw (← net) (sound_begun c.self.inside.rows.items nets c.self.inside.begins c.args.worker row c.self.invariant may)
