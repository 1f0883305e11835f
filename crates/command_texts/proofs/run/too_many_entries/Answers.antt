use Rattle.std.specs.String.{string_bytes}
use Rattle.program_model.specs.HistoryAnswer.{entries_text}
use Rattle.command_texts.proofs.Making.{told_is}
use Rattle.command_texts.proofs.run.too_many_entries.Goals as goal

pub returns : goal.returns
returns c = told_is string_bytes c.entries_text.result 7 (entries_text c.args.needed) c.told.result c.entries_text.ensures c.told.ensures
