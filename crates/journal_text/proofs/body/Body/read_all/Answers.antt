use Rattle.std.proofs.Common.{◌≡◌, None, Ok, rules, subst}
use Rattle.journal_text.specs.Body.{ReadsNext, SaysFirst}
use Rattle.journal_text.proofs.Bodies.{one_said, all_said}
use Rattle.journal_text.proofs.body.Body.read_all.Goals as goal

pub loop-said-preserved : goal.loop-said-preserved
loop-said-preserved g c =
    let first : SaysFirst g.A.Line.reader c.loop-said.self c.in-Some.next c.read_next.new.self = subst (λ r. ReadsNext g.A.Line.reader c.loop-said.self (Ok r) c.read_next.new.self) c.in-Some.is c.in_ok-next.ensures in
    one_said g.A.Line.reader c.loop-said.said.items c.push.new.self.items c.in-Some.next c.loop-said.self c.read_next.new.self _ first
    c.in_ok-push.ensures.items c.loop-said.invariant

pub returns-clause-ok : goal.returns-clause-ok
returns-clause-ok g c =
    let none : c.in_ok-next.field-0 ≡ None = search rules in
    let last : ReadsNext g.A.Line.reader c.loop-said.self (Ok None) c.read_next.new.self = subst (λ r. ReadsNext g.A.Line.reader c.loop-said.self (Ok r) c.read_next.new.self) none c.in_ok-next.ensures in
    all_said g.A.Line.reader c.loop-said.said.items c.loop-said.self _ last.0 c.loop-said.invariant
