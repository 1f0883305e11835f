use Rattle.std.proofs.Common.{◌≡◌, arith, refl}
use Rattle.std.proofs.lemmas.Int.{ints}
use Rattle.std.specs.Int.{w128}
use Rattle.std.specs.Prelude.{◌+ℤ◌}
use mir.Val.{to_z, of_z}
use Rattle.tag_rules.specs.Accounts.{charge_of, base_of}
use Rattle.tag_gap.proofs.ReadingLemmas.{read_number, awaits_end, may_withdraw, withdraw_follows}
use Rattle.tag_gap.proofs.reading.Reading.withdraw.Goals as goal

pub tag-tag-requires : goal.tag-tag-requires
tag-tag-requires c = record { tenant = (may_withdraw c.args.moment c.args.tenant c.args.self.now c.requires).charged_one }

pub end-requires : goal.end-requires
end-requires c =
    let tag : to_z w128 (of_z w128 c.tag-tag.result) ≡ charge_of c.args.self.now.accounts c.args.tenant +ℤ base_of c.args.self.now.accounts c.args.tenant = omega (arith, ints, c.tag-tag.ensures.value, c.tag-tag.type_inv) in
    awaits_end c.args.moment c.args.tenant _ c.args.self.now c.requires tag

pub index-requires : goal.index-requires
index-requires c = omega (arith, (may_withdraw c.args.moment c.args.tenant c.args.self.now c.requires).waits, c.args.self.now.waiting.ok.0)

pub overflow_sub-left : goal.overflow_sub-left
overflow_sub-left c =
    let may = may_withdraw c.args.moment c.args.tenant c.args.self.now c.requires in
    omega (arith, may.some, read_number c.args.self.now.waiting.items c.args.tenant c.index.result.now may.waits c.index.ensures)

pub index_mut-requires : goal.index_mut-requires
index_mut-requires c = omega (arith, (may_withdraw c.args.moment c.args.tenant c.args.self.now c.requires).waits, c.args.self.now.waiting.ok.0)

pub returns : goal.returns
returns c =
    let may = may_withdraw c.args.moment c.args.tenant c.args.self.now c.requires in
    let tag : to_z w128 (of_z w128 c.tag-tag.result) ≡ charge_of c.args.self.now.accounts c.args.tenant +ℤ base_of c.args.self.now.accounts c.args.tenant = omega (arith, ints, c.tag-tag.ensures.value, c.tag-tag.type_inv) in
    withdraw_follows c.args.moment c.args.tenant c.index.result.now _ c.args.self.now _ tag c.end.ensures refl refl (read_number c.args.self.now.waiting.items c.args.tenant c.index.result.now may.waits c.index.ensures) refl
