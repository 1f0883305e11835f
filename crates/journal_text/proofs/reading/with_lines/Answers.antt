use Rattle.journal_text.proofs.reading.with_lines.Goals as goal

pub returns-clause-ok : goal.returns-clause-ok
returns-clause-ok g c = rw c.new.ensures (c.in_ok-place.ensures.ok c.args.version)

pub returns-clause-divided : goal.returns-clause-divided
returns-clause-divided g c = rw c.new.ensures (c.in_ok-place.ensures.divided c.args.version)
