use Rattle.std.proofs.Common.{ap, sym, ◌∙◌, subst}
use Rattle.program_model.specs.Trace.{Trace}
use Rattle.program_model.specs.Shaped.{rows_at, by_moment, at_moments, IsShaped}
use Rattle.trace_shape.proofs.Again.{moments_of, shaped_conform, moved_to_own, own_is_least}
use Rattle.trace_shape.proofs.Moved.{own_in_time}
use Rattle.trace_shape.proofs.Order.{by_moment_rises, risen_stay}
use Rattle.trace_shape.proofs.Windows.{with_rows}
use Rattle.trace_shape.proofs.laws.shaped_stays.Goals as goal

pub returns : goal.returns
returns c T S rate burst h =
    let rows = by_moment (rows_at T.rows h.moments) in
    subst (λ (U : Trace). IsShaped U rate burst U) (sym h.shaped) (record {
      moments = moments_of rows;
      least = own_is_least (at_moments T h.moments) rate burst (shaped_conform T rate burst h.moments h.least.conforms);
      in_time = own_in_time T.rows h.moments h.in_time;
      shaped = ap (with_rows T) (sym (ap by_moment (moved_to_own rows) ∙ risen_stay rows (by_moment_rises (rows_at T.rows h.moments))));
    })
