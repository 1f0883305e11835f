-- The rows of the table of commands, and the laws that follow from their options.
use Rattle.std.proofs.Common.{refl, List, [], ◌∷◌}
use Rattle.std.specs.Prelude.{All}
use Rattle.std.proofs.lemmas.List.Elements.{All-cons, All-nil}
use Rattle.program_model.specs.declared.command.Command.{Command}
use Rattle.program_model.specs.Commands.{built_commands}
use Rattle.program_model.specs.Options.{CommandRow, command_of, values_in, argument_for}
use Rattle.law_book.specs.Programs.{IsOwnRow, AreOwnRows, GenRunsByDefaults}

-- each of these rows means commands of its own
AllOwn : List (CommandRow Command) → Type 0
AllOwn [] = Unit {0}
AllOwn (row ∷ rows) = IsOwnRow row × AllOwn rows

all_own : (rows : List (CommandRow Command)) → AllOwn rows → All IsOwnRow rows
unfolding AllOwn
all_own [] own = All-nil IsOwnRow
all_own (row ∷ rows) own = All-cons IsOwnRow row rows own.0 (all_own rows own.1)

pub own_rows : AreOwnRows
unfolding AllOwn
own_rows = all_own built_commands ((λ values. refl), ((λ values. refl), ((λ values. refl), ((λ values. refl), ((λ values. refl), ((λ values. refl), ((λ values. refl), ((λ values. refl), tt))))))))

pub gen_runs_by_defaults : GenRunsByDefaults
unfolding command_of values_in argument_for
gen_runs_by_defaults = refl
