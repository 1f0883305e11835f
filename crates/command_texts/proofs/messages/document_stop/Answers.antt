use Rattle.std.specs.String.{string_bytes}
use Rattle.program_model.specs.FaultTexts.{fault_text, placed_text}
use Rattle.command_texts.proofs.Making.{told_is}
use Rattle.command_texts.proofs.messages.document_stop.Goals as goal

pub returns-in-At : goal.returns-in-At
returns-in-At c =
    rw (c.in-At.is) (told_is string_bytes c.placed_fault.result 3 (placed_text c.in-At.line (fault_text c.args.title.now c.in-At.kind)) c.told.result c.placed_fault.ensures c.told.ensures)
