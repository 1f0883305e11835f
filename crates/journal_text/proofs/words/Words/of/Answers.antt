use Rattle.std.proofs.Common.{sym, ◌∙◌}
use Rattle.journal_text.proofs.WordEnds.{words_ended, words_open}
use Rattle.journal_text.proofs.words.Words.of.Goals as goal

pub returns-in-Some : goal.returns-in-Some
returns-in-Some c = sym (words_ended c.args.line.now c.in-Some.end (sym c.in-Some.is ∙ c.find.ensures))

pub returns-in-None : goal.returns-in-None
returns-in-None c = sym (words_open c.args.line.now (sym c.in-None.is ∙ c.find.ensures))
