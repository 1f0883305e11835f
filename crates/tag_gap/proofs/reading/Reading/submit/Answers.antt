use Rattle.std.proofs.Common.{◌≡◌, arith, refl}
use Rattle.std.proofs.lemmas.Int.{ints}
use Rattle.std.specs.Int.{w128}
use mir.Val.{to_z, of_z}
use Rattle.tag_gap.proofs.ReadingLemmas.{read_number, may_submit, submit_follows}
use Rattle.tag_gap.proofs.reading.Reading.submit.Goals as goal

pub overflow_add-waiting : goal.overflow_add-waiting
overflow_add-waiting c =
    let may = may_submit c.args.moment c.args.tenant c.args.self.now c.requires in
    omega (arith, may.few, read_number c.args.self.now.waiting.items c.args.tenant c.index-waiting.result.now may.waits c.index-waiting.ensures)

pub returns : goal.returns
returns c =
    let may = may_submit c.args.moment c.args.tenant c.args.self.now c.requires in
    let back : to_z w128 (of_z w128 c.now.result) ≡ c.now.result = omega (arith, ints, c.now.ensures.low, c.now.ensures.high) in
    submit_follows c.args.moment c.args.tenant c.index-waiting.result.now c.args.self.now _ c.now.result _ refl c.submit.ensures c.now.ensures.value back (read_number c.args.self.now.waiting.items c.args.tenant c.index-waiting.result.now may.waits c.index-waiting.ensures) c.raise_first.ensures refl
