use Rattle.fq_laws.proofs.History.Once.{submitted_once, taken_once, done_once, removed_once, ended_once}
use Rattle.law_book.proofs.histories.each_once.Goals as goal

pub returns : goal.returns
returns c = λ C P r l. record {
  submitted = submitted_once C P r l;
  taken = taken_once C P r l;
  done = done_once C P r l;
  removed = removed_once C P r l;
  ended = ended_once C P r l;
}
