use Rattle.std.proofs.Common.{◌≡◌, false, take}
use Rattle.fq_model.specs.History.{history_of, is_taken}
use Rattle.journal_check.proofs.explaining.taken_at.Given as goal

abbrev pub invariant-loop-place : goal.invariant-loop-place
invariant-loop-place l = is_taken (history_of (take l.place l.entries)) l.request ≡ false
