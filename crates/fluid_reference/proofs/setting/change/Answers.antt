use Rattle.std.proofs.Common.{arith, ◌≤◌, take, subst, sym, ◌∙◌}
use Rattle.std.proofs.lemmas.List.{take_more}
use Rattle.fq_model.specs.declared.fluid.Change.{Change}
use Rattle.fluid_reference.specs.Slots.{SettingIs}
use Rattle.fluid_reference.proofs.Steps.{before_more}
use Rattle.fluid_reference.proofs.setting.change.Goals as goal

pub change-preserved : goal.change-preserved
change-preserved c = record {
  len = c.make.ensures.len ∙ c.change.invariant.len;
  place = omega arith;
  weights = c.make.ensures.weights;
  workers = c.make.ensures.workers;
  set = λ C first. subst (λ cs. SettingIs C cs c.make.new.weights c.make.new.workers) (sym (take_more c.args.changes.now c.change.changed _ c.change-test.true)) (c.make.ensures.set C (take c.change.changed c.args.changes.now) (c.change.invariant.set C first));
  before = before_more (λ (r : Change). r.moment ≤ c.args.at) c.args.changes.now c.change.changed _ c.change-test.true c.change.invariant.before c.if-changes-changed.true;
}
