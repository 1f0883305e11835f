use Rattle.std.proofs.Common.{◌≡◌, map, option_map, sym, ap, ◌∙◌, length, arith}
use Rattle.std.specs.String.{string_bytes}
use Rattle.program_model.specs.CompareCommand.{compare_options, compare_of_values}
use Rattle.program_model.specs.Options.{values_in}
use Rattle.command_line.proofs.Lengths.{values_length, value_there}
use Rattle.command_line.proofs.command.compare_command.Goals as goal

pub returns-in_err-workers-clause-asked : goal.returns-in_err-workers-clause-asked
returns-in_err-workers-clause-asked c =
    let values : c.values_in.result ≡ values_in compare_options (map string_bytes c.args.words.now) = c.values_in.ensures.values in
    c.from_residual.ensures ∙ ap (option_map compare_of_values) (sym c.in_err-workers.was ∙ values)

pub returns-clause-asked : goal.returns-clause-asked
returns-clause-asked c =
    let v = c.in_ok-workers.field-0 in
    let values : c.values_in.result ≡ values_in compare_options (map string_bytes c.args.words.now) = c.values_in.ensures.values in
    let long : length v ≡ 4 = values_length compare_options (map string_bytes c.args.words.now) v (sym values ∙ c.in_ok-workers.was) in
    rw (c.number.ensures, c.number-2.ensures, c.number-3.ensures, c.number-4.ensures, value_there v 0 c.index-branch-0.result (omega (arith, long)), value_there v 1 c.index-branch-1.result (omega (arith, long)), value_there v 2 c.index-branch-2.result (omega (arith, long)), value_there v 3 c.index-branch-3.result (omega (arith, long)))
    (ap (option_map compare_of_values) (sym c.in_ok-workers.was ∙ values))
