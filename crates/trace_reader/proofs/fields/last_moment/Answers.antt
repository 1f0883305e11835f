use Rattle.std.proofs.Common.{refl}
use Rattle.trace_reader.proofs.Places.{last_is}
use Rattle.trace_reader.proofs.fields.last_moment.Goals as goal

pub returns-in-Some : goal.returns-in-Some
returns-in-Some c = rw (← last_is c.args.rows.now, ← c.last.ensures.value, c.in-Some.is) refl

pub returns-in-None : goal.returns-in-None
returns-in-None c = rw (← last_is c.args.rows.now, ← c.last.ensures.value, c.in-None.is) refl
