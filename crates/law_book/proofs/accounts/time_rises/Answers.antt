use Rattle.fq_laws.proofs.Keys.Pace.{virtual_time_rises, entry_rises}
use Rattle.law_book.proofs.accounts.time_rises.Goals as goal

pub returns : goal.returns
returns c = λ C P. record { by_moment = virtual_time_rises C P; by_entry = entry_rises C P }
