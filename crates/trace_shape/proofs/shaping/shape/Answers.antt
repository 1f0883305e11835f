use Rattle.std.proofs.Common.{rules, ◌≡◌, ◌∙◌, ap, subst, sym, None}
use Rattle.program_model.specs.Conforms.{too_big}
use Rattle.program_model.specs.TraceText.{IsLawfulTrace}
use Rattle.program_model.specs.Shaped.{at_moments}
use Rattle.trace_shape.proofs.Moved.{lawful_at}
use Rattle.trace_shape.proofs.Sizes.{none_too_big}
use Rattle.trace_shape.proofs.shaping.shape.Goals as goal

pub returns-in_err-at_moments-clause-fault : goal.returns-in_err-at_moments-clause-fault
returns-in_err-at_moments-clause-fault c =
    let small : too_big c.args.trace.now c.args.burst ≡ None = none_too_big c.args.trace.now c.args.rate c.args.burst _ c.in_ok-moments.ensures.least.conforms in
    search rules

pub returns-clause-shaped : goal.returns-clause-shaped
returns-clause-shaped c = record {
  moments = c.in_ok-moments.moments.items;
  least = c.in_ok-moments.ensures.least;
  in_time = c.in_ok-moments.ensures.in_time;
  shaped = c.in_ok-at_moments.ensures ∙ ap (at_moments c.args.trace.now) c.as_slice.ensures.value;
}

pub returns-clause-lawful : goal.returns-clause-lawful
returns-clause-lawful c = subst IsLawfulTrace (sym (c.in_ok-at_moments.ensures ∙ ap (at_moments c.args.trace.now) c.as_slice.ensures.value))
    (lawful_at c.args.trace.now c.in_ok-moments.moments.items c.requires.lawful c.in_ok-moments.ensures.least.conforms.one_each c.in_ok-moments.ensures.in_time)
