use Rattle.std.proofs.Common.{◌≡◌, ◌++◌, drop}
use Rattle.program_model.specs.Texts.{replies_text}
use Rattle.journal_text.proofs.replies.replies_text.Given as goal

abbrev pub invariant-loop-reply : goal.invariant-loop-reply
invariant-loop-reply l = l.text.items ++ replies_text (drop l.reply-index l.replies) ≡ replies_text l.replies
