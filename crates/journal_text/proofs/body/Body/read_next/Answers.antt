use Rattle.std.proofs.Common.{sym, ap, ◌∙◌}
use Rattle.journal_text.proofs.Bodies.{stays_at_first}
use Rattle.journal_text.proofs.body.Body.read_next.Goals as goal

pub returns-in-Err : goal.returns-in-Err
returns-in-Err g c =
    let has = c.in-Some.ensures in
    stays_at_first g.A.Line.reader c.self.inside.version c.self.inside.place c.self.inside.rest.now has.line c.in-Some.below.now _ _ c.in-Err.kind
    c.self.view_is c.self.view_is has.first.lines (ap (g.A.Line.reader c.self.inside.version) has.split ∙ sym c.in-Err.ensures)
