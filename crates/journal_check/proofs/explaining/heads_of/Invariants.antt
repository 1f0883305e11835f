use Rattle.std.proofs.Common.{ℕ, ◌≡◌}
use Rattle.fq_model.specs.History.{history_of}
use Rattle.fq_model.specs.Keys.{keys_at}
use Rattle.program_model.specs.Explanations.{heads_below}
use Rattle.journal_check.proofs.explaining.heads_of.Given as goal

abbrev pub invariant-loop-tenant : goal.invariant-loop-tenant
invariant-loop-tenant g l = (m : ℕ) → l.heads.items ≡ heads_below (keys_at l.scheduler.config (history_of l.scheduler.past) m) l.tenant
