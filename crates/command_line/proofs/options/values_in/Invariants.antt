use Rattle.std.proofs.Common.{◌≡◌, map, length}
use Rattle.std.specs.String.{string_bytes}
use Rattle.program_model.specs.Options.{values_in}
use Rattle.command_line.specs.Rows.{seen_row}
use Rattle.command_line.proofs.Arguments.{values_after}
use Rattle.command_line.proofs.Defaults.{filled}
use Rattle.command_line.proofs.options.values_in.Given as goal

abbrev pub invariant-loop-given : goal.invariant-loop-given
invariant-loop-given g l = (length l.values ≡ length l.rows) × (values_in (map seen_row l.rows) (map string_bytes l.words) ≡ values_after (map seen_row l.rows) l.values (map string_bytes l.left))

abbrev pub decreases-loop-given : goal.decreases-loop-given
decreases-loop-given g l = length l.left

abbrev pub invariant-loop-k : goal.invariant-loop-k
invariant-loop-k g l = (length l.values ≡ length l.rows) × (values_in (map seen_row l.rows) (map string_bytes l.words) ≡ filled (map seen_row l.rows) l.k l.values)
