-- The end of a command that made an output, or none.
use Rattle.std.specs.Prelude.{ℕ, ◌≡◌, Result, Ok, Err}
use Rattle.program_model.specs.declared.ending.Failure.{Failure}
use Rattle.program_model.specs.declared.ending.Failure.TheVariants.{Writing, Stopped}
use Rattle.program_model.specs.declared.ending.Output.{Output}
use Rattle.program_model.specs.declared.ending.Stop.{Stop}
use Rattle.program_model.specs.Program.{Move, Stays, Writes, WritesPart}

-- the text of the output was written, or a prefix of it; or there is no output, and the sink was not called
abbrev pub EndsWith : Result Output Stop → Move → Result ℕ Failure → Type 0
EndsWith (Ok output) sink (Ok status) = (status ≡ output.status) × Writes sink output.text.items
EndsWith (Ok output) sink (Err failure) = (failure ≡ Writing) × WritesPart sink output.text.items
EndsWith (Err stop) sink end = (end ≡ Err (Stopped stop)) × Stays sink
