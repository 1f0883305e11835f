use Rattle.status_board.proofs.writer.Writer.show.Given as goal

abbrev pub ghosts-publish : goal.ghosts-publish
ghosts-publish a = record { next = a.past.now }
