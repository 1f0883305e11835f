use Rattle.desk.proofs.Keeping.{kept, answers_so, crew_stays, shows_part}
use Rattle.desk.proofs.floor.FloorMachine.step.Goals as goal

pub show_past-requires : goal.show_past-requires
show_past-requires g c = shows_part g.J.Job.label_of _ c.answer-told.new.scheduler c.self.inside.submitters c.args.who c.args.call c.answer-told.result _ c.answer-told.ensures.answers c.answer-told.ensures.suits c.self.invariant.0 c.self.invariant.1

pub invariant_of-self : goal.invariant_of-self
invariant_of-self g c = (kept g.J.Job.label_of _ c.answer-told.new.scheduler _ _ _ c.args.who c.args.call _ c.self.view_is c.requires c.answer-told.ensures.answers c.self.invariant.0, c.show_past.ensures.past)

pub returns-clause-answers : goal.returns-clause-answers
returns-clause-answers g c = answers_so g.J.Job.label_of _ c.answer-told.new.scheduler _ _ _ c.args.who c.args.call c.answer-told.result c.self.view_is c.answer-told.ensures.answers c.answer-told.ensures.suits c.self.invariant.0

pub returns-clause-frame : goal.returns-clause-frame
returns-clause-frame g c = crew_stays _ c.answer-told.new.scheduler _ _ _ _ c.self.view_is c.answer-told.ensures.answers.config_is c.show_past.ensures.board
