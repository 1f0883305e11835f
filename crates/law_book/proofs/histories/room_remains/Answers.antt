use Rattle.fq_laws.proofs.Rules.Limits.{room_now}
use Rattle.law_book.proofs.histories.room_remains.Goals as goal

pub returns : goal.returns
returns c = room_now
