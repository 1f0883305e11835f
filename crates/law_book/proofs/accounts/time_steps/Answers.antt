use Rattle.std.proofs.Common.{inl, inr}
use Rattle.fq_laws.proofs.Keys.Pace.{virtual_time_split, virtual_time_step, virtual_time_take}
use Rattle.law_book.proofs.accounts.time_steps.Goals as goal

pub returns : goal.returns
returns c = λ C P e. record {
  advances = virtual_time_split C P e.moment;
  stays = λ h. elim h [ inl ne ↦ virtual_time_take C P e ne | inr other ↦ virtual_time_step C P e other ];
}
