use Rattle.std.proofs.Common.{None, refl, lit<}
use Rattle.std.proofs.lemmas.Str.Pattern.{split_once_first}
use Rattle.program_model.specs.Options.{is_equals}
use Rattle.command_line.proofs.Lists.{none_passes}
use Rattle.command_line.proofs.given.assignment.Goals as goal

pub returns-in_err-name : goal.returns-in_err-name
returns-in_err-name c =
    let none = split_once_first 61 c.args.word.now None c.in_err-name.ensures.cases (lit< tt) in
    rw (c.from_residual.ensures, none_passes is_equals c.args.word.now none) refl
