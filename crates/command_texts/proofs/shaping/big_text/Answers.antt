use Rattle.std.proofs.Common.{◌∙◌, append_assoc}
use Rattle.command_texts.proofs.shaping.big_text.Goals as goal

pub returns : goal.returns
returns c = c.in_ok-text.ensures.ok ∙ simp append_assoc
