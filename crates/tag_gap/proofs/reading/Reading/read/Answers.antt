use Rattle.std.proofs.Common.{◌≡◌, ◌∙◌, arith, refl}
use Rattle.std.proofs.lemmas.Int.{ints}
use Rattle.std.specs.Int.{w128}
use mir.Val.{to_z, of_z}
use Rattle.tag_gap.proofs.EntryLemmas.{read_submit, read_take, read_pass, read_done, read_weight, read_workers, read_withdraw, is_passed, awaits_pass, done_known, awaits_done, done_within, awaits_withdraw, withdraw_within}
use Rattle.tag_gap.proofs.reading.Reading.read.Goals as goal

pub bounds-asked-request-in-Done : goal.bounds-asked-request-in-Done
bounds-asked-request-in-Done c = done_within c.args.asked.now c.args.entry.now c.args.self.now c.in-Done.worker c.in-Done.request c.in-Done.cost c.requires c.in-Done.is

pub pass-requires : goal.pass-requires
pass-requires c = awaits_pass c.args.asked.now c.args.entry.now c.args.self.now c.requires (is_passed c.args.entry.now c.in-Report.is)

pub tag-tag-requires : goal.tag-tag-requires
tag-tag-requires c = record { tenant = done_known c.args.asked.now c.args.entry.now c.args.self.now c.in-Done.worker c.in-Done.request c.in-Done.cost c.requires c.in-Done.is }

pub end-requires : goal.end-requires
end-requires c =
    let back : to_z w128 (of_z w128 c.tag-tag.result) ≡ c.tag-tag.result = omega (arith, ints, c.tag-tag.type_inv) in
    awaits_done c.args.asked.now c.args.entry.now c.args.self.now c.in-Done.worker c.in-Done.request c.in-Done.cost _ c.requires c.in-Done.is (back ∙ c.tag-tag.ensures.value)

pub bounds-asked-request-in-Withdraw : goal.bounds-asked-request-in-Withdraw
bounds-asked-request-in-Withdraw c = withdraw_within c.args.asked.now c.args.entry.now c.args.self.now c.in-Withdraw.request c.requires c.in-Withdraw.is

pub withdraw-requires : goal.withdraw-requires
withdraw-requires c = awaits_withdraw c.args.asked.now c.args.entry.now c.args.self.now c.in-Withdraw.request c.requires c.in-Withdraw.is

pub returns-in-Submit : goal.returns-in-Submit
returns-in-Submit c = read_submit c.args.asked.now c.args.entry.now c.args.self.now c.submit.new.self c.in-Submit.request c.in-Submit.tenant c.in-Submit.kind c.in-Submit.declared c.in-Submit.label c.in-Submit.is c.submit.ensures

pub returns-in-Take : goal.returns-in-Take
returns-in-Take c = read_take c.args.asked.now c.args.entry.now c.args.self.now c.take.new.self c.in-Take.worker c.in-Take.request c.in-Take.estimate c.in-Take.is c.take.ensures

pub returns-in-Report : goal.returns-in-Report
returns-in-Report c = read_pass c.args.asked.now c.args.entry.now c.args.self.now _ (is_passed c.args.entry.now c.in-Report.is) c.pass.ensures (record { policy = refl; accounts = refl; waiting = refl })

pub returns-in-Done : goal.returns-in-Done
returns-in-Done c =
    let back : to_z w128 (of_z w128 c.tag-tag.result) ≡ c.tag-tag.result = omega (arith, ints, c.tag-tag.type_inv) in
    read_done c.args.asked.now c.args.entry.now c.args.self.now _ c.in-Done.worker c.in-Done.request c.in-Done.cost _ c.in-Done.is (back ∙ c.tag-tag.ensures.value) c.end.ensures (record { policy = refl; accounts = refl; waiting = refl })

pub returns-in-Weight : goal.returns-in-Weight
returns-in-Weight c = read_weight c.args.asked.now c.args.entry.now c.args.self.now _ c.in-Weight.tenant c.in-Weight.weight c.in-Weight.is c.reweigh.ensures (record { policy = refl; accounts = refl; waiting = refl })

pub returns-in-Workers : goal.returns-in-Workers
returns-in-Workers c = read_workers c.args.asked.now c.args.entry.now c.args.self.now _ c.in-Workers.count c.in-Workers.is c.staff.ensures (record { policy = refl; accounts = refl; waiting = refl })

pub returns-in-Withdraw : goal.returns-in-Withdraw
returns-in-Withdraw c = read_withdraw c.args.asked.now c.args.entry.now c.args.self.now c.withdraw.new.self c.in-Withdraw.request c.in-Withdraw.is c.withdraw.ensures
