use Rattle.law_book.proofs.CleanRuns.{never_writes}
use Rattle.program_tests.proofs.clean_tests.clean_run.Goals as goal

pub returns-clause-writes : goal.returns-clause-writes
returns-clause-writes c = never_writes c.args.sink.now c.plain-status.new.sink c.requires.written c.requires.faults c.plain-status.ensures.sink_room c.bytes.ensures.clean c.plain-status.ensures.run c.requires.room
