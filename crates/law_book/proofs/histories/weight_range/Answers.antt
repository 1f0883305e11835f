use Rattle.fq_laws.proofs.History.Weights.{weight_low, weight_high}
use Rattle.law_book.proofs.histories.weight_range.Goals as goal

pub returns : goal.returns
returns c = λ C P t lim l b. (weight_low C P t lim l b, weight_high C P t lim l)
