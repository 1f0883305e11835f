use Rattle.std.proofs.Common.{refl, ap, ◌∙◌, ◌++◌, ◌∷◌, []}
use Rattle.lag_report.proofs.reading.Contents.add.Goals as goal

pub returns-in_ok-push-in-Submit-clause-courses : goal.returns-in_ok-push-in-Submit-clause-courses
returns-in_ok-push-in-Submit-clause-courses c = rw (c.in-Submit.is) (c.in_ok-push-in-Submit.ensures.items ∙ ap (λ course. c.args.self.now.courses.items ++ course ∷ []) c.submitted.ensures)

pub returns-in_ok-push-in-Submit-clause-rows : goal.returns-in_ok-push-in-Submit-clause-rows
returns-in_ok-push-in-Submit-clause-rows c = rw (c.in-Submit.is) refl

pub returns-in_ok-push-in-Submit-clause-changes : goal.returns-in_ok-push-in-Submit-clause-changes
returns-in_ok-push-in-Submit-clause-changes c = rw (c.in-Submit.is) refl

pub returns-in-Take-clause-rows : goal.returns-in-Take-clause-rows
returns-in-Take-clause-rows c = rw (c.in-Take.is) refl

pub returns-in-Take-clause-changes : goal.returns-in-Take-clause-changes
returns-in-Take-clause-changes c = rw (c.in-Take.is) refl

pub returns-in_ok-push-in-Done-clause-changes : goal.returns-in_ok-push-in-Done-clause-changes
returns-in_ok-push-in-Done-clause-changes c = rw (c.in-Done.is) refl
