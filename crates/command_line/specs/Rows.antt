-- The options of a command, as the definitions see them.
use Rattle.std.specs.Prelude.{ℕ, ◌≤◌, ◌≡◌, Bool, true, ◌&&◌, not, List, [], ◌∷◌, map, Option, Some, None, bytes_eq}
use Rattle.std.specs.List.{list_any}
use Rattle.command_line.specs.declared.options.Values as code_values
use Rattle.command_line.specs.declared.options.Values.TheVariants as values
use Rattle.command_line.specs.declared.options.Absent as code_absent
use Rattle.command_line.specs.declared.options.Absent.TheVariants as absent
use Rattle.command_line.specs.declared.options.OptionRow as code_row
use Rattle.program_model.specs.declared.argument.Argument.{Argument}
use Rattle.program_model.specs.declared.argument.Argument.TheVariants.{Number, Name}
use Rattle.program_model.specs.Options.{Values, Within, Among, Named}
use Rattle.program_model.specs.Options.{Absent, Required, Nothing, Default, OptionRow, Value, absent_value}

-- the texts that may be written as a value
abbrev pub seen_values : code_values.Values → Values
seen_values (values.Within low high) = Within low high
seen_values (values.Among words) = Among (map (λ w. w.now) words.now)
seen_values values.Named = Named

-- the meaning of an option that is not given
abbrev pub seen_absent : code_absent.Absent → Absent
seen_absent absent.Required = Required
seen_absent absent.Nothing = Nothing
seen_absent (absent.Default text) = Default text.now

-- an option of a command
abbrev pub seen_row : code_row.OptionRow → OptionRow
seen_row row = record { name = row.name.now; values = seen_values row.values; absent = seen_absent row.absent }

-- an option has this name
abbrev pub has_name : List ℕ → OptionRow → Bool
has_name name row = bytes_eq row.name name

-- no two options have one name
abbrev pub are_distinct : List OptionRow → Bool
are_distinct [] = true
are_distinct (row ∷ rows) = not (list_any (has_name row.name) rows) && are_distinct rows

-- the value that is given for an option, or else its value where it is absent
abbrev pub or_absent : OptionRow → Value → Option Value
or_absent row (Some a) = Some (Some a)
or_absent row None = absent_value row.values row.absent

-- this may be given as a value: a number from low to high, the place of a word, or a name
abbrev pub IsWithin : Values → Argument → Type 0
IsWithin (Within low high) (Number n) = (low ≤ n) × (n ≤ high)
IsWithin (Among words) (Number n) = Unit {0}
IsWithin Named (Name name) = Unit {0}
IsWithin _ _ = ⊥

-- an option may have this value, or none
abbrev pub IsValueOf : OptionRow → Value → Type 0
IsValueOf row (Some a) = IsWithin row.values a
IsValueOf row None = row.absent ≡ Nothing

-- the options may have these values, in their order
abbrev pub AreValuesOf : List OptionRow → List Value → Type 0
AreValuesOf (row ∷ rows) (v ∷ vs) = IsValueOf row v × AreValuesOf rows vs
AreValuesOf _ _ = Unit {0}

-- the value is a number from low to high
abbrev pub IsNumberFrom : (low high : ℕ) → Value → Type 0
IsNumberFrom low high (Some a) = IsWithin (Within low high) a
IsNumberFrom low high None = ⊥

-- the value, where there is one, is a number, and at most this
abbrev pub IsAtMost : ℕ → Value → Type 0
IsAtMost high (Some (Number n)) = n ≤ high
IsAtMost high (Some (Name name)) = ⊥
IsAtMost high None = Unit {0}

-- the value is a name
abbrev pub IsNameGiven : Value → Type 0
IsNameGiven (Some (Name name)) = Unit {0}
IsNameGiven _ = ⊥
