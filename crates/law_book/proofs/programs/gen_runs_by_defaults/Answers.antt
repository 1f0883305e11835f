use Rattle.law_book.proofs.Rows.{gen_runs_by_defaults}
use Rattle.law_book.proofs.programs.gen_runs_by_defaults.Goals as goal

pub returns : goal.returns
returns c = gen_runs_by_defaults
