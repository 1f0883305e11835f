use Rattle.std.proofs.Common.{append_assoc}
use Rattle.trace_reader.proofs.printing.named_line.Goals as goal

pub returns : goal.returns
returns c = simp append_assoc (simp append_assoc at c.in_ok-line.ensures.ok)
