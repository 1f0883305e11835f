use Rattle.std.proofs.lemmas.Bool.{false≢true}
use Rattle.std.proofs.lemmas.Result.{err_from_is_err_and}
use Rattle.desk.proofs.ending.DeskOf+Floor+J+X.finish.Goals as goal

pub returns-in_err-scheduler-clause-settled : goal.returns-in_err-scheduler-clause-settled
returns-in_err-scheduler-clause-settled g c = λ all. absurd (false≢true (c.in_err-scheduler.ensures.settled all))

pub returns-in_err-scheduler-clause-exact : goal.returns-in_err-scheduler-clause-exact
returns-in_err-scheduler-clause-exact g c =
    let p = err_from_is_err_and c.from_residual.result c.from_residual.ensures.1 in let e = c.in_err-scheduler.ensures.exact in
    (e.0, e.1, e.2, rw p.1 tt, rw (p.1, p.2) e.4)
