use Rattle.desk.specs.declared.asking.DeskReply.TheVariants as replies
use Rattle.desk.proofs.Keeping.{suits_submit, reply_so, suits_so}
use Rattle.desk.proofs.answering.answer.Goals as goal

pub returns-in-Submit-clause-answers : goal.returns-in-Submit-clause-answers
returns-in-Submit-clause-answers g c = reply_so g.J.Job.label_of _ _ c.args.who _ _ (replies.Submitted c.submit.result) c.in-Submit.is c.submit.ensures.answers

pub returns-in-Submit-clause-suits : goal.returns-in-Submit-clause-suits
returns-in-Submit-clause-suits g c = suits_so _ _ (replies.Submitted c.submit.result) c.in-Submit.is (suits_submit c.in-Submit.moment c.in-Submit.tenant c.in-Submit.kind c.in-Submit.declared c.in-Submit.job c.submit.result c.submit.ensures.job_back)

pub returns-in-Take-clause-answers : goal.returns-in-Take-clause-answers
returns-in-Take-clause-answers g c = reply_so g.J.Job.label_of _ _ c.args.who _ _ (replies.Took c.take.result) c.in-Take.is c.take.ensures.answers

pub returns-in-Take-clause-suits : goal.returns-in-Take-clause-suits
returns-in-Take-clause-suits g c = suits_so _ _ (replies.Took c.take.result) c.in-Take.is tt

pub returns-in-Report-clause-answers : goal.returns-in-Report-clause-answers
returns-in-Report-clause-answers g c = reply_so g.J.Job.label_of _ _ c.args.who _ _ (replies.Changed c.report.result) c.in-Report.is c.report.ensures.answers

pub returns-in-Report-clause-suits : goal.returns-in-Report-clause-suits
returns-in-Report-clause-suits g c = suits_so _ _ (replies.Changed c.report.result) c.in-Report.is tt

pub returns-in-Done-clause-answers : goal.returns-in-Done-clause-answers
returns-in-Done-clause-answers g c = reply_so g.J.Job.label_of _ _ c.args.who _ _ (replies.Changed c.done.result) c.in-Done.is c.done.ensures.answers

pub returns-in-Done-clause-suits : goal.returns-in-Done-clause-suits
returns-in-Done-clause-suits g c = suits_so _ _ (replies.Changed c.done.result) c.in-Done.is tt

pub returns-in-Close-clause-answers : goal.returns-in-Close-clause-answers
returns-in-Close-clause-answers g c = reply_so g.J.Job.label_of _ _ c.args.who _ _ (replies.Closed c.close.result) c.in-Close.is c.close.ensures.answers

pub returns-in-Close-clause-suits : goal.returns-in-Close-clause-suits
returns-in-Close-clause-suits g c = suits_so _ _ (replies.Closed c.close.result) c.in-Close.is tt

pub returns-in-Weight-clause-answers : goal.returns-in-Weight-clause-answers
returns-in-Weight-clause-answers g c = reply_so g.J.Job.label_of _ _ c.args.who _ _ (replies.Changed c.weight.result) c.in-Weight.is c.weight.ensures.answers

pub returns-in-Weight-clause-suits : goal.returns-in-Weight-clause-suits
returns-in-Weight-clause-suits g c = suits_so _ _ (replies.Changed c.weight.result) c.in-Weight.is tt

pub returns-in-Workers-clause-answers : goal.returns-in-Workers-clause-answers
returns-in-Workers-clause-answers g c = reply_so g.J.Job.label_of _ _ c.args.who _ _ (replies.Changed c.workers.result) c.in-Workers.is c.workers.ensures.answers

pub returns-in-Workers-clause-suits : goal.returns-in-Workers-clause-suits
returns-in-Workers-clause-suits g c = suits_so _ _ (replies.Changed c.workers.result) c.in-Workers.is tt

pub returns-in-Withdraw-clause-answers : goal.returns-in-Withdraw-clause-answers
returns-in-Withdraw-clause-answers g c = reply_so g.J.Job.label_of _ _ c.args.who _ _ (replies.Withdrawn c.withdraw.result) c.in-Withdraw.is c.withdraw.ensures.answers

pub returns-in-Withdraw-clause-suits : goal.returns-in-Withdraw-clause-suits
returns-in-Withdraw-clause-suits g c = suits_so _ _ (replies.Withdrawn c.withdraw.result) c.in-Withdraw.is tt
