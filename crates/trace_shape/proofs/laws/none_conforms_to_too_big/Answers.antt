use Rattle.std.proofs.Common.{nat_lt, arith, ltb-true}
use Rattle.std.proofs.lemmas.List.Quantifiers.{position-Some}
use Rattle.program_model.specs.declared.trace.TraceRow.{TraceRow}
use Rattle.trace_shape.proofs.Windows.{no_row, each_fits}
use Rattle.trace_shape.proofs.laws.none_conforms_to_too_big.Goals as goal

pub returns : goal.returns
returns c T rate burst r moments big h =
    let found = position-Some (λ (row : TraceRow). nat_lt burst row.declared) T.rows r no_row big in
    omega (arith, ltb-true _ _ found.1, each_fits T rate burst T.rows moments h r no_row found.0)
