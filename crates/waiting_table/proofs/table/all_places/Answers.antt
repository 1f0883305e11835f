use Rattle.std.proofs.Common.{◌-◌, arith, ◌∙◌}
use Rattle.std.proofs.lemmas.List.{length_push}
use Rattle.waiting_table.proofs.Places.{places_more, lower_more}
use Rattle.waiting_table.proofs.table.all_places.Goals as goal

pub places-preserved : goal.places-preserved
places-preserved c =
    let free = c.places.free.items in
    let k = c.places.invariant in
    record {
      places = rw c.push_reserved.ensures.items (places_more free c.args.room c.places.given c.places-test.true k.lower k.places);
      lower = rw c.push_reserved.ensures.items (lower_more free c.args.room c.places.given c.places-test.true k.lower);
      size = rw c.push_reserved.ensures.items (omega (arith, length_push free (c.args.room - 1 - c.places.given), k.size));
      reserved = c.push_reserved.ensures.capacity ∙ k.reserved;
    }
