use Rattle.std.proofs.Common.{◌≡◌, ◌≤◌, ◌^◌, true, false, arith, ◌∙◌, sym, subst, below_more, lit≤}
use Rattle.std.proofs.Math.Nat.{pow-le-pow_right}
use Rattle.fq_model.specs.History.{history_of}
use Rattle.fq_model.specs.Report.{are_cells_few, doubled_slot, auto_slot}
use Rattle.lag_report.specs.Reports.{Serves}
use Rattle.lag_report.proofs.Doublings.{found, missed, auto_slot_serves, slot_low, twice}
use Rattle.lag_report.proofs.automatic.auto_slot.Goals as goal
use Rattle.lag_report.proofs.automatic.auto_slot.Goals.{Then-are_few, After-loop-doublings}

first : (c : Then-are_few) → c.loop-doublings.slot ≡ auto_slot c.args.config.now (history_of c.args.past.now)
first c =
    let few : are_cells_few c.args.config.now (history_of c.args.past.now) (doubled_slot c.loop-doublings.doublings) ≡ true = cc in
    c.loop-doublings.invariant.doubled ∙ found c.args.config.now (history_of c.args.past.now) c.loop-doublings.doublings c.loop-doublings-test.true few c.loop-doublings.invariant.below

none : (c : After-loop-doublings) → 1000 ≡ auto_slot c.args.config.now (history_of c.args.past.now)
none c = missed c.args.config.now (history_of c.args.past.now) (λ i l. c.loop-doublings.invariant.below i (omega (arith, l)))

pub returns-then-are_few-clause-value : goal.returns-then-are_few-clause-value
returns-then-are_few-clause-value c = first c

pub returns-then-are_few-clause-serves : goal.returns-then-are_few-clause-serves
returns-then-are_few-clause-serves c = λ l. subst (Serves c.args.config.now (history_of c.args.past.now)) (sym (first c)) (auto_slot_serves c.args.config.now (history_of c.args.past.now) c.tenants-tenants.ensures.limits l)

pub returns-clause-value : goal.returns-clause-value
returns-clause-value c = none c

pub returns-clause-serves : goal.returns-clause-serves
returns-clause-serves c = λ l. subst (Serves c.args.config.now (history_of c.args.past.now)) (sym (none c)) (auto_slot_serves c.args.config.now (history_of c.args.past.now) c.tenants-tenants.ensures.limits l)

pub loop-doublings-preserved : goal.loop-doublings-preserved
loop-doublings-preserved c =
    let few : are_cells_few c.args.config.now (history_of c.args.past.now) (doubled_slot c.loop-doublings.doublings) ≡ false = cc in
    record {
      doubled = twice c.loop-doublings.slot c.loop-doublings.doublings c.loop-doublings.invariant.doubled;
      below = below_more _ _ c.loop-doublings.invariant.below few;
    }

pub are_few-requires : goal.are_few-requires
are_few-requires c = omega (arith, c.loop-doublings.invariant.doubled, slot_low c.loop-doublings.doublings)

pub overflow_mul-slot : goal.overflow_mul-slot
overflow_mul-slot c =
    let few : c.loop-doublings.doublings ≤ 41 = omega arith in
    let high : 2 ^ c.loop-doublings.doublings ≤ 2 ^ 41 = pow-le-pow_right {n = 2} (lit≤ tt) few in
    omega (arith, c.loop-doublings.invariant.doubled, high)
