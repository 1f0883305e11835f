use Rattle.desk.proofs.shown.end_readers.Given as goal

abbrev pub decreases-loop-reader : goal.decreases-loop-reader
decreases-loop-reader l = goal.left-loop-reader l
