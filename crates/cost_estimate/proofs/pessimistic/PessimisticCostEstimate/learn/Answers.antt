use Rattle.std.proofs.Common.{arith, ◌∙◌, ◌+◌, ◌*◌, ◌≤◌, ◌≡◌, ◌<◌, length, refl, max, slice_index, length-set}
use Rattle.std.proofs.lemmas.List.Elements.{All-set}
use Rattle.std.proofs.lemmas.Option.{slice_get_read, get_or_from_slice_get}
use Rattle.vt_fixed.specs.Rounding.{decay_of}
use Rattle.vt_fixed.proofs.Bounds.{decay_at_most}
use Rattle.cost_estimate.proofs.Tables.{greatest_learned}
use Rattle.cost_estimate.proofs.pessimistic.PessimisticCostEstimate.learn.Goals as goal

pub invariant_of-self : goal.invariant_of-self
invariant_of-self c =
    let table = c.args.self.now.greatest.items in
    let place = c.place-at.result in
    let within : place < length table = omega (arith, c.args.self.now.sized, c.place-at.ensures.within) in
    let old : c.index.result.now ≤ 1000000000 = rw c.index.ensures (c.args.self.now.bounded place c.index.result.now within) in
    let new : c.max.result ≤ 1000000000 = omega (arith, c.max.ensures, c.decay.ensures, decay_at_most c.index.result.now, c.requires.cost) in
    record {
      sized = length-set table place c.max.result ∙ c.args.self.now.sized;
      bounded = All-set (λ x. x ≤ 1000000000) table place c.max.result new c.args.self.now.bounded;
    }

pub returns-clause-learned : goal.returns-clause-learned
returns-clause-learned c = λ cs had.
    let table = c.args.self.now.greatest.items in
    let tenants = c.args.self.now.pairs.tenants in
    let kinds = c.args.self.now.pairs.kinds in
    let place = c.args.tenant * kinds + c.args.kind in
    let within : place < length table = rw (c.args.self.now.sized, ← c.place-at.ensures.value) c.place-at.ensures.within in
    let reads = rw c.place-at.ensures.value at c.index.ensures in
    let read : slice_index table place ≡ c.index.result.now = get_or_from_slice_get table place c.index.result.now 0 (slice_get_read table _ place c.index.result.now refl within reads) in
    let is : c.max.result ≡ max (decay_of (slice_index table place)) c.args.cost = rw (read, ← c.decay.ensures) c.max.ensures in
    rw c.place-at.ensures.value (greatest_learned tenants kinds c.args.self.now.initial table cs c.args.tenant c.args.kind c.args.cost c.max.result c.args.self.now.sized c.requires.tenant c.requires.kind is had)
