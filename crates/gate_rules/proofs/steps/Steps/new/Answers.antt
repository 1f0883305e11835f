use Rattle.std.proofs.Common.{ap, ◌∙◌}
use Rattle.gate_rules.specs.Stepping.{step_course}
use Rattle.gate_rules.proofs.Stepping.{whole_step, refreshed_step}
use Rattle.gate_rules.proofs.steps.Steps.new.Goals as goal
use Rattle.gate_rules.proofs.steps.Steps.new.Goals.{then-refresh-eq0, else-refresh-eq0}

pub returns : goal.returns
returns c =
    let refresh = c.args.refresh in
    let cost = c.args.cost in
    ap (λ step. step_course step cost) (elim c.if-refresh-eq0.branch [
      | then-refresh-eq0 w ↦ w.step-is ∙ whole_step refresh cost w.if-refresh-eq0.true
      | else-refresh-eq0 w ↦ w.step-is
          ∙ (w.max-step.ensures ∙ refreshed_step refresh cost _ w.if-refresh-eq0.false w.div_ceil.ensures)
    ])
