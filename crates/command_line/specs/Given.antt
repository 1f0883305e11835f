-- Options as words give them, one after another.
use Rattle.std.specs.Prelude.{ℕ, Bool, true, false, if◌then◌else◌, List, [], ◌∷◌, Option, Some, None, codes, bytes_eq}
use Rattle.std.specs.List.{list_any}
use Rattle.command_line.specs.declared.given.Given as code
use Rattle.program_model.specs.Lines.{Words}
use Rattle.program_model.specs.Options.{Given, is_equals, given_by}

-- an option as it is given
abbrev pub seen_given : code.Given → Given
seen_given given = record { name = given.name.now; text = given.text.now }

-- the option that one word gives, if it has a `=`
abbrev pub assignment : List ℕ → Option Given
assignment word = if list_any is_equals word then Some (given_by word) else None

-- the option that stands first among words, and the words after it
abbrev pub first_option : Words → Option (Given × Words)
first_option [] = None
first_option (word ∷ []) = if list_any is_equals word then Some (given_by word, []) else None
first_option (word ∷ next ∷ words) =
    if list_any is_equals word then Some (given_by word, next ∷ words)
    else Some (record { name = word; text = next }, words)

-- the words that are left after all options are none, or one `--`
abbrev pub is_end : Words → Bool
is_end [] = true
is_end (word ∷ []) = bytes_eq word (codes "--")
is_end _ = false
