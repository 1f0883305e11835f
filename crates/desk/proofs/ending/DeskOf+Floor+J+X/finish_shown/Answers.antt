use Rattle.desk.specs.Shown.{board_of}
use Rattle.desk.proofs.Keeping.{all_seen, readers_where}
use Rattle.desk.proofs.ending.DeskOf+Floor+J+X.finish_shown.Goals as goal

pub end_shown-requires : goal.end_shown-requires
end_shown-requires g c = readers_where (board_of c.in-Ok.shown) c.args.readers.items (rw (c.in-Ok.ensures.shown.1) c.requires.readers)

pub returns-in-Ok-clause-seen : goal.returns-in-Ok-clause-seen
returns-in-Ok-clause-seen g c = all_seen c.args.self.lock.frame.config c.in-Ok.scheduler.past c.in-Ok.shown c.args.self.lock.frame.board c.args.readers.items c.in-Ok.ensures.shown.0 c.in-Ok.ensures.shown.1 c.requires.readers c.end_shown.ensures
