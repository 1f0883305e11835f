use Rattle.std.proofs.Common.{ap, ◌∙◌, reverse}
use Rattle.std.proofs.lemmas.List.{reverse-append}
use Rattle.history_lock.proofs.laws.prefix_turns_round.Goals as goal

pub returns : goal.returns
returns c = λ front P more. (reverse more.0, ap reverse more.1 ∙ reverse-append front more.0)
