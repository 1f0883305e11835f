use Rattle.std.proofs.Common.{take}
use Rattle.journal_text.specs.FirstLine.{IsWord}
use Rattle.journal_text.proofs.at_once.word_before.Given as goal

abbrev pub invariant-loop-end : goal.invariant-loop-end
invariant-loop-end l = IsWord (take l.end l.text)
