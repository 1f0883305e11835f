-- Command lines by a table: its commands, their options, and the command that a list of words spells by such a table.
use Rattle.std.specs.Prelude.{ℕ, ◌==◌, Bool, false, not, if◌then◌else◌, List, [], ◌∷◌, map, filter, find, position, Option, Some, None, option_map, option_and_then, codes, bytes_eq}
use Rattle.std.specs.List.{list_any, list_all, before_first, after_first}
use Rattle.fq_model.specs.Limits.{is_outside}
use Rattle.fq_model.specs.Spelling.{is_name}
use Rattle.program_model.specs.declared.argument.Argument.{Argument}
use Rattle.program_model.specs.declared.argument.Argument.TheVariants.{Number, Name}
use Rattle.program_model.specs.Lines.{Words}
use Rattle.program_model.specs.Numbers.{number_of}

-- the possible values of an option, as texts: a number from low to high; one of these words, which stands for its
-- place among them, counted from 0; or a name. None begins with `-`
pub data Values : Type 0 where
  Within : (low high : ℕ) → Values
  Among : (words : Words) → Values
  Named : Values

-- the meaning of an option that is not given: that the words are no command line, that the option has no value, or
-- the value that this text spells
pub data Absent : Type 0 where
  Required : Absent
  Nothing : Absent
  Default : (text : List ℕ) → Absent

-- an option of a command; its name has the dashes
pub record OptionRow : Type 0 where
  pub name : List ℕ
  pub values : Values
  pub absent : Absent

-- the value that is given to an option, if one is given
abbrev pub Value : Type 0
Value = Option Argument

-- a command: its word, its options, its meaning by the values of these, in this order, and whether it reads an input
pub record CommandRow (C : Type 0) : Type 0 where
  pub word : List ℕ
  pub options : List OptionRow
  pub means : List Value → C
  pub reads_input : Bool

-- The options that words give.

-- an option as it is given: its name with the dashes, and the text of its value
pub record Given : Type 0 where
  pub name : List ℕ
  pub text : List ℕ

-- the byte of `=`
abbrev pub is_equals : ℕ → Bool
is_equals b = b == 61

-- `<name>=<text>`; the name ends at the first `=`
abbrev pub given_by : List ℕ → Given
given_by word = record { name = before_first is_equals word; text = after_first is_equals word }

-- the options of words, in order, where the words are nothing but options, each in one word, `<name>=<text>`, or in
-- two, `<name>` and `<text>`; and then perhaps one word `--`
abbrev pub options_of : Words → Option (List Given)
options_of [] = Some []
options_of (word ∷ []) =
    if list_any is_equals word then Some (given_by word ∷ [])
    else if bytes_eq word (codes "--") then Some []
    else None
options_of (word ∷ next ∷ words) =
    if list_any is_equals word then option_map (λ more. given_by word ∷ more) (options_of (next ∷ words))
    else option_map (λ more. record { name = word; text = next } ∷ more) (options_of words)

-- each given option is an option of the command
abbrev pub are_known : List OptionRow → List Given → Bool
are_known rows given = list_all (λ g. list_any (λ row. bytes_eq row.name g.name) rows) given

-- the texts that are given for an option
abbrev pub texts_for : List ℕ → List Given → List (List ℕ)
texts_for name given = map (λ g. g.text) (filter (λ g. bytes_eq g.name name) given)

-- The meaning of options.

-- a text that may be a value: it is not empty, and does not begin with `-`
abbrev pub is_value : List ℕ → Bool
is_value [] = false
is_value (b ∷ bs) = not (b == 45)

-- the number, if it is from low to high
abbrev pub within : ℕ → ℕ → ℕ → Option ℕ
within low high n = if is_outside low high n then None else Some n

-- the value that a text spells, if it is one of the values
abbrev pub argument_among : Values → List ℕ → Option Argument
argument_among (Within low high) text = option_map (λ n. Number n) (option_and_then (within low high) (number_of text))
argument_among (Among words) text = option_map (λ n. Number n) (position (λ w. bytes_eq w text) words)
argument_among Named text = if is_name text then Some (Name text) else None

-- the value that a text spells, where the text may be a value at all
unfoldable pub argument_for : Values → List ℕ → Option Argument
argument_for values text = if is_value text then argument_among values text else None

-- the value of an option that is not given
abbrev pub absent_value : Values → Absent → Option Value
absent_value values Required = None
absent_value values Nothing = Some None
absent_value values (Default text) = option_map (λ a. Some a) (argument_for values text)

-- the value of an option for which these texts are given: one at most
abbrev pub value_of : OptionRow → List (List ℕ) → Option Value
value_of row [] = absent_value row.values row.absent
value_of row (text ∷ []) = option_map (λ a. Some a) (argument_for row.values text)
value_of row _ = None

-- the values of the options, in order, if each is given as its row asks
abbrev pub values_of : List OptionRow → List Given → Option (List Value)
values_of [] given = Some []
values_of (row ∷ rows) given =
    option_and_then (λ v. option_map (λ vs. v ∷ vs) (values_of rows given)) (value_of row (texts_for row.name given))

-- the values of a command's options by the words after its own
unfoldable pub values_in : List OptionRow → Words → Option (List Value)
values_in rows words =
    option_and_then (λ given. if are_known rows given then values_of rows given else None) (options_of words)

-- The whole line.

-- the command of a row, by the words after its own
abbrev pub command_by : {C : Type 0} → Words → CommandRow C → Option C
command_by words row = option_map row.means (values_in row.options words)

-- the command that words are, if they are a line of the table
unfoldable pub command_of : {C : Type 0} → List (CommandRow C) → Words → Option C
command_of table [] = None
command_of table (word ∷ words) = option_and_then (command_by words) (find (λ row. bytes_eq row.word word) table)
