use Rattle.std.proofs.Common.{◌≡◌, arith, refl, pos}
use Rattle.std.proofs.lemmas.Int.{ints}
use Rattle.std.specs.Int.{w128}
use Rattle.std.specs.Prelude.{◌+ℤ◌}
use mir.Val.{to_z, of_z}
use Rattle.vt_fixed.specs.Rounding.{length_of}
use Rattle.tag_rules.specs.Accounts.{charge_of, base_of}
use Rattle.tag_gap.proofs.ReadingLemmas.{read_number, may_take, take_follows}
use Rattle.tag_gap.proofs.reading.Reading.take.Goals as goal

pub weight-weight-requires : goal.weight-weight-requires
weight-weight-requires c = (may_take c.args.moment c.args.worker c.args.tenant c.args.estimate c.args.self.now c.come_to.new.self c.requires c.come_to.ensures).weighed

pub length-len-requires-clause-cost_in_range : goal.length-len-requires-clause-cost_in_range
length-len-requires-clause-cost_in_range c = (may_take c.args.moment c.args.worker c.args.tenant c.args.estimate c.args.self.now c.come_to.new.self c.requires c.come_to.ensures).low

pub tag-tag-requires : goal.tag-tag-requires
tag-tag-requires c = record { tenant = (may_take c.args.moment c.args.worker c.args.tenant c.args.estimate c.args.self.now c.come_to.new.self c.requires c.come_to.ensures).charged_one }

pub take-requires : goal.take-requires
take-requires c =
    let may = may_take c.args.moment c.args.worker c.args.tenant c.args.estimate c.args.self.now c.come_to.new.self c.requires c.come_to.ensures in
    let len : to_z w128 (of_z w128 c.length-len.result) ≡ pos (length_of c.args.estimate c.weight-weight.result) = omega (arith, ints, c.length-len.ensures, c.length-len.type_inv) in
    let tag : to_z w128 (of_z w128 c.tag-tag.result) ≡ charge_of c.args.self.now.accounts c.args.tenant +ℤ base_of c.args.self.now.accounts c.args.tenant = omega (arith, ints, c.tag-tag.ensures.value, c.tag-tag.type_inv) in
    may.lifts c.weight-weight.result _ _ c.weight-weight.ensures.value len tag

pub charge-requires-clause-tenant : goal.charge-requires-clause-tenant
charge-requires-clause-tenant c = (may_take c.args.moment c.args.worker c.args.tenant c.args.estimate c.args.self.now c.come_to.new.self c.requires c.come_to.ensures).charged_one

pub charge-requires-clause-low : goal.charge-requires-clause-low
charge-requires-clause-low c =
    let may = may_take c.args.moment c.args.worker c.args.tenant c.args.estimate c.args.self.now c.come_to.new.self c.requires c.come_to.ensures in
    let len : to_z w128 (of_z w128 c.length-len.result) ≡ pos (length_of c.args.estimate c.weight-weight.result) = omega (arith, ints, c.length-len.ensures, c.length-len.type_inv) in
    (may.charge c.weight-weight.result _ c.weight-weight.ensures.value len).0

pub charge-requires-clause-high : goal.charge-requires-clause-high
charge-requires-clause-high c =
    let may = may_take c.args.moment c.args.worker c.args.tenant c.args.estimate c.args.self.now c.come_to.new.self c.requires c.come_to.ensures in
    let len : to_z w128 (of_z w128 c.length-len.result) ≡ pos (length_of c.args.estimate c.weight-weight.result) = omega (arith, ints, c.length-len.ensures, c.length-len.type_inv) in
    (may.charge c.weight-weight.result _ c.weight-weight.ensures.value len).1

pub index-waiting-requires : goal.index-waiting-requires
index-waiting-requires c = omega (arith, (may_take c.args.moment c.args.worker c.args.tenant c.args.estimate c.args.self.now c.come_to.new.self c.requires c.come_to.ensures).waits, c.args.self.now.waiting.ok.0)

pub overflow_sub-waiting : goal.overflow_sub-waiting
overflow_sub-waiting c =
    let may = may_take c.args.moment c.args.worker c.args.tenant c.args.estimate c.args.self.now c.come_to.new.self c.requires c.come_to.ensures in
    omega (arith, may.some, read_number c.args.self.now.waiting.items c.args.tenant c.index-waiting.result.now may.waits c.index-waiting.ensures)

pub index_mut-requires : goal.index_mut-requires
index_mut-requires c = omega (arith, (may_take c.args.moment c.args.worker c.args.tenant c.args.estimate c.args.self.now c.come_to.new.self c.requires c.come_to.ensures).waits, c.args.self.now.waiting.ok.0)

pub returns : goal.returns
returns c =
    let may = may_take c.args.moment c.args.worker c.args.tenant c.args.estimate c.args.self.now c.come_to.new.self c.requires c.come_to.ensures in
    let len : to_z w128 (of_z w128 c.length-len.result) ≡ pos (length_of c.args.estimate c.weight-weight.result) = omega (arith, ints, c.length-len.ensures, c.length-len.type_inv) in
    let tag : to_z w128 (of_z w128 c.tag-tag.result) ≡ charge_of c.args.self.now.accounts c.args.tenant +ℤ base_of c.args.self.now.accounts c.args.tenant = omega (arith, ints, c.tag-tag.ensures.value, c.tag-tag.type_inv) in
    take_follows c.args.moment c.args.worker c.args.tenant c.args.estimate c.weight-weight.result c.index-waiting.result.now c.args.self.now _ c.come_to.new.self _ _
    (record { times = c.come_to.ensures; weight_is = c.weight-weight.ensures.value; len_is = len; tag_is = tag })
    (record { paced = c.take.ensures.paced; by_clock = c.take.ensures.by_clock })
    refl c.charge.ensures (read_number c.args.self.now.waiting.items c.args.tenant c.index-waiting.result.now may.waits c.index-waiting.ensures) refl
