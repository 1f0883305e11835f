use Rattle.std.proofs.Common.{◌∙◌, sym, ap}
use Rattle.fq_model.specs.Spelling.{is_name}
use Rattle.program_model.proofs.Names.{held_in}
use Rattle.program_model.proofs.name.Name.new.Goals as goal

pub invariant_of-result : goal.invariant_of-result
invariant_of-result c =
    held_in _ c.args.text.now (c.copy_from_slice.ensures.after ∙ c.as_bytes-2.ensures.value)
    (ap is_name (sym c.as_bytes.ensures.value) ∙ (sym c.is_name.ensures ∙ c.if-not-is_name.false))
