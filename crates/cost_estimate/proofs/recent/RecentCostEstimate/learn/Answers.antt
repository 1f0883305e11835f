use Rattle.std.proofs.Common.{ℕ, ◌+◌, ◌*◌, ◌<◌, ◌≡◌, [], ◌∷◌, length, take, slice_index_or, sym, ap, ◌∙◌, refl}
use Rattle.std.proofs.lemmas.Option.{slice_get_read, get_or_from_slice_get}
use Rattle.circular_buffer.specs.Buffer.{Buffer, buffer}
use Rattle.cost_estimate.specs.Tables.{IsRing}
use Rattle.cost_estimate.proofs.Tables.{recent_learned}
use Rattle.cost_estimate.proofs.recent.RecentCostEstimate.learn.Goals as goal

pub returns-clause-learned : goal.returns-clause-learned
returns-clause-learned c = λ cs had.
    let rings = c.args.self.now.rings.items in
    let tenants = c.args.self.now.pairs.tenants in
    let kinds = c.args.self.now.pairs.kinds in
    let place = c.args.tenant * kinds + c.args.kind in
    let ring = c.index_mut-ring.result.now in
    let within : place < length rings = rw (c.args.self.now.sized, ← c.place-at.ensures.value) c.place-at.ensures.within in
    let reads = rw c.place-at.ensures.value at c.index_mut-ring.ensures.value in
    let was : ring ≡ slice_index_or rings place (buffer [] 8) = sym (get_or_from_slice_get rings place ring (buffer [] 8) (slice_get_read rings _ place ring refl within reads)) in
    let holds : IsRing ring = rw was (c.args.self.now.in_range place (buffer [] 8) within) in
    let is : c.push_front.new.self.items ≡ take 8 (c.args.cost ∷ ring.items) = ap (λ (b : Buffer ℕ). b.items) c.push_front.ensures.items ∙ ap (λ n. take n (c.args.cost ∷ ring.items)) holds.capacity in
    rw c.place-at.ensures.value (recent_learned tenants kinds rings cs c.args.tenant c.args.kind c.args.cost ring c.push_front.new.self c.args.self.now.sized c.requires.tenant c.requires.kind was is had)
