use Rattle.command_texts.proofs.Shapes.{shaped_answer}
use Rattle.command_texts.proofs.shaping.shaped.Goals as goal

pub returns-in_ok-text-in-Ok : goal.returns-in_ok-text-in-Ok
returns-in_ok-text-in-Ok c =
    rw (c.success.ensures.status, c.success.ensures.text)
    (shaped_answer c.args.rate c.args.burst c.args.trace.now _ c.in_ok-text-in-Ok.field-0.items c.in-Ok.ensures.shaped c.in_ok-text-in-Ok.ensures)
