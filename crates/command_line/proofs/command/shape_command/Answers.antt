use Rattle.std.proofs.Common.{◌≡◌, map, option_map, sym, ap, ◌∙◌, length, arith}
use Rattle.std.specs.String.{string_bytes}
use Rattle.program_model.specs.Options.{values_in}
use Rattle.program_model.specs.ShapeCommand.{shape_options, shape_of_values}
use Rattle.command_line.proofs.Lengths.{values_length, value_there}
use Rattle.command_line.proofs.command.shape_command.Goals as goal

pub returns-in_err-rate-clause-asked : goal.returns-in_err-rate-clause-asked
returns-in_err-rate-clause-asked c =
    let values : c.values_in.result ≡ values_in shape_options (map string_bytes c.args.words.now) = c.values_in.ensures.values in
    c.from_residual.ensures ∙ ap (option_map shape_of_values) (sym c.in_err-rate.was ∙ values)

pub returns-clause-asked : goal.returns-clause-asked
returns-clause-asked c =
    let v = c.in_ok-rate.field-0 in
    let values : c.values_in.result ≡ values_in shape_options (map string_bytes c.args.words.now) = c.values_in.ensures.values in
    let long : length v ≡ 2 = values_length shape_options (map string_bytes c.args.words.now) v (sym values ∙ c.in_ok-rate.was) in
    rw (c.number.ensures, c.number-2.ensures, value_there v 0 c.index-branch-0.result (omega (arith, long)), value_there v 1 c.index-branch-1.result (omega (arith, long)))
    (ap (option_map shape_of_values) (sym c.in_ok-rate.was ∙ values))
