use Rattle.std.proofs.Common.{◌≡◌, take, length}
use Rattle.journal_text.proofs.AtOnce.{IsPassed}
use Rattle.journal_text.proofs.at_once.numbers_at_once.Given as goal

abbrev pub invariant-loop-read : goal.invariant-loop-read
invariant-loop-read l = record { passed : IsPassed l.start (take l.read l.numbers) l.rest; size : length l.numbers ≡ 7 }
