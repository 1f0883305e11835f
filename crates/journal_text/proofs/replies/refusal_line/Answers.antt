use Rattle.std.proofs.Common.{append_assoc}
use Rattle.journal_text.proofs.replies.refusal_line.Goals as goal

pub returns-in-Falling-clause-added : goal.returns-in-Falling-clause-added
returns-in-Falling-clause-added c = rw c.in-Falling.is (simp append_assoc c.add_row.ensures.added)
