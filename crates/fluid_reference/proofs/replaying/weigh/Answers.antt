use Rattle.std.proofs.Common.{◌≤◌, arith, sym, ◌∙◌}
use Rattle.fq_model.specs.declared.fluid.Change.{Change}
use Rattle.fluid_reference.proofs.Steps.{before_more}
use Rattle.fluid_reference.proofs.Replays.{set_by, kept_by}
use Rattle.fluid_reference.proofs.replaying.weigh.Goals as goal
use Rattle.fluid_reference.proofs.replaying.weigh.Goals.{in-Weight, in_default}

pub change-preserved : goal.change-preserved
change-preserved c = record {
  came = record {
    in_list = omega (arith, c.change-test.true);
    before = before_more (λ (r : Change). r.moment ≤ c.args.at) c.args.changes.now c.change.changed _ c.change-test.true c.change.invariant.came.before c.if-changes-changed.true;
  };
  weight = λ C t own first. elim c.match-changes-changed.branch [
    | in-Weight w ↦ w.weight-is ∙ sym (set_by C t c.args.changes.now c.change.changed w.in-Weight.tenant w.in-Weight.set c.change-test.true w.in-Weight.is (own c.change.changed _ c.change-test.true))
    | in_default w ↦ w.weight-is ∙ c.change.invariant.weight C t own first ∙ sym (kept_by C t c.args.changes.now c.change.changed w.in_default.field-0 c.change-test.true w.in_default.is)
  ];
}
