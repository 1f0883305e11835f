use Rattle.fq_laws.proofs.Time.Clock.{idle_next_active, idle_next_inactive}
use Rattle.law_book.proofs.accounts.idle_steps.Goals as goal

pub returns : goal.returns
returns c = λ C P e t. record { stays = idle_next_active C P e t; moves = idle_next_inactive C P e t }
