use Rattle.journal_text.proofs.words.Words.+word.Given as goal

abbrev pub decreases-word : goal.decreases-word
decreases-word l = l.k
