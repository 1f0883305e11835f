use Rattle.std.proofs.Common.{arith, sym, ap, ◌∙◌}
use Rattle.program_model.specs.Lines.{Words, number_at}
use Rattle.journal_text.specs.FirstLine.{words_behind}
use Rattle.journal_text.proofs.AtOnce.{number_known}
use Rattle.journal_text.proofs.words.Words.number_at.Goals as goal

pub returns-then-k-self : goal.returns-then-k-self
returns-then-k-self c =
    sym (number_known c.self.inside.first.now (words_behind c.self.inside.rest) c.self.inside.read c.args.k c.self.inside.numbers c.self.invariant (omega arith) (omega arith))
    ∙ ap (λ (ws : Words). number_at ws c.args.k) c.self.view_is
