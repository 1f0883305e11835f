use Rattle.std.specs.String.{string_bytes}
use Rattle.program_model.specs.HistoryAnswer.{cells_text}
use Rattle.command_texts.proofs.Making.{told_is}
use Rattle.command_texts.proofs.history.too_many_cells.Goals as goal

pub returns : goal.returns
returns c = told_is string_bytes c.cells_text.result 7 (cells_text c.args.cells) c.told.result c.cells_text.ensures c.told.ensures
