use Rattle.cost_estimate.proofs.any.AnyCostEstimate.now.Goals as goal

pub returns-in-Declared : goal.returns-in-Declared
returns-in-Declared c = λ cs had. rw c.in-Declared.is (c.now.ensures cs tt)
