use Rattle.std.proofs.Common.{◌≡◌, map, option_map, sym, ap, ◌∙◌, length, arith}
use Rattle.std.specs.String.{string_bytes}
use Rattle.program_model.specs.Options.{values_in}
use Rattle.program_model.specs.ScriptCommand.{script_options, script_of_values}
use Rattle.command_line.proofs.Lengths.{values_length, value_there}
use Rattle.command_line.proofs.command.script_command.Goals as goal

pub returns-in_err-print-clause-asked : goal.returns-in_err-print-clause-asked
returns-in_err-print-clause-asked c =
    let values : c.values_in.result ≡ values_in script_options (map string_bytes c.args.words.now) = c.values_in.ensures.values in
    c.from_residual.ensures ∙ ap (option_map script_of_values) (sym c.in_err-print.was ∙ values)

pub returns-clause-asked : goal.returns-clause-asked
returns-clause-asked c =
    let v = c.in_ok-print.field-0 in
    let values : c.values_in.result ≡ values_in script_options (map string_bytes c.args.words.now) = c.values_in.ensures.values in
    let long : length v ≡ 1 = values_length script_options (map string_bytes c.args.words.now) v (sym values ∙ c.in_ok-print.was) in
    rw (c.choice-print.ensures, value_there v 0 c.index-branch-0.result (omega (arith, long)))
    (ap (option_map script_of_values) (sym c.in_ok-print.was ∙ values))
