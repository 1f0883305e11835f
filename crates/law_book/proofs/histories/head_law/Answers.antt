use Rattle.fq_laws.proofs.History.Heads.{head_is_head, is_head_head, head_none_waits, waits_none_head}
use Rattle.law_book.proofs.histories.head_law.Goals as goal

pub returns : goal.returns
returns c = λ C P t lim l. (λ r. (head_is_head C P t r l, is_head_head C P t r lim l), (λ h r. head_none_waits C P t r lim l h, waits_none_head P t))
