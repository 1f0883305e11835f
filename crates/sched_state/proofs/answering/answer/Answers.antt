use Rattle.sched_state.proofs.answering.answer.Goals as goal

pub returns-in-Submit : goal.returns-in-Submit
returns-in-Submit g c = rw (c.in-Submit.is, c.submitted.ensures) c.submit.ensures.answers

pub returns-in-Take : goal.returns-in-Take
returns-in-Take g c = rw (c.in-Take.is, c.taken.ensures) c.take.ensures.answers

pub returns-in-Report : goal.returns-in-Report
returns-in-Report g c = rw (c.in-Report.is, c.told.ensures) c.report.ensures.answers

pub returns-in-Done : goal.returns-in-Done
returns-in-Done g c = rw (c.in-Done.is, c.told-in-Done.ensures) c.done.ensures.answers

pub returns-in-Close : goal.returns-in-Close
returns-in-Close g c = rw (c.in-Close.is, c.closed.ensures) c.close.ensures.answers

pub returns-in-Weight : goal.returns-in-Weight
returns-in-Weight g c = rw (c.in-Weight.is, c.told-in-Weight.ensures) c.weight.ensures.answers

pub returns-in-Workers : goal.returns-in-Workers
returns-in-Workers g c = rw (c.in-Workers.is, c.told-in-Workers.ensures) c.workers.ensures.answers

pub returns-in-Withdraw : goal.returns-in-Withdraw
returns-in-Withdraw g c = rw (c.in-Withdraw.is, c.withdrawn.ensures) c.withdraw.ensures.answers
