use Rattle.std.proofs.Common.{◌<◌, ◌∙◌, arith, inl, inr, length}
use Rattle.std.proofs.lemmas.Int.{ints}
use Rattle.fq_model.specs.Time.{last_moment}
use Rattle.fq_laws.proofs.Keys.Tags.{start_within}
use Rattle.fq_laws.proofs.Rules.Limits.{last_moment_small}
use Rattle.tag_gap.proofs.ReadingLemmas.{read_number}
use Rattle.tag_gap.proofs.EntryLemmas.{apart_none, apart_some}
use Rattle.tag_gap.proofs.reading.Reading.difference.Goals as goal
use Rattle.tag_gap.proofs.reading.Reading.difference.Goals.{then-index-eq0-via-then-index-eq0, then-index-eq0-via-else-index-eq0+then-index-eq0-2}

pub returns-then-index-eq0 : goal.returns-then-index-eq0
returns-then-index-eq0 c = λ C P k.
    let waits = k.waiting_are.tenants in
    let f : c.args.f < length C.weights = omega (arith, waits, c.requires.f) in
    let g : c.args.g < length C.weights = omega (arith, waits, c.requires.g) in
    elim c.then-index-eq0.branch [
      | then-index-eq0-via-then-index-eq0 w ↦ apart_none C P c.args.self.now c.args.f c.args.g f g k (inl (omega (arith, w.if-index-eq0.true, read_number c.args.self.now.waiting.items c.args.f c.index.result.now c.requires.f c.index.ensures)))
      | then-index-eq0-via-else-index-eq0+then-index-eq0-2 w ↦ apart_none C P c.args.self.now c.args.f c.args.g f g k (inr (omega (arith, w.if-index-eq0-2.true, read_number c.args.self.now.waiting.items c.args.g w.index-else-index-eq0.result.now c.requires.g w.index-else-index-eq0.ensures)))
    ]

pub returns : goal.returns
returns c = λ C P k.
    let waits = k.waiting_are.tenants in
    let f : c.args.f < length C.weights = omega (arith, waits, c.requires.f) in
    let g : c.args.g < length C.weights = omega (arith, waits, c.requires.g) in
    let read_f = read_number c.args.self.now.waiting.items c.args.f c.index.result.now c.requires.f c.index.ensures in
    let read_g = read_number c.args.self.now.waiting.items c.args.g c.index-else-index-eq0.result.now c.requires.g c.index-else-index-eq0.ensures in
    let late = last_moment_small C P k.legal in
    let low_f = start_within C P (last_moment P) c.args.f k.limits k.legal (omega arith) late in
    let low_g = start_within C P (last_moment P) c.args.g k.limits k.legal (omega arith) late in
    apart_some C P c.args.self.now c.args.f c.args.g _ f g k (λ e. c.if-index-eq0.false (read_f ∙ e)) (λ e. c.if-index-eq0-2.false (read_g ∙ e)) (omega (arith, ints, c.start.ensures C P k, c.start-2.ensures C P k, low_f, low_g))
