use Rattle.std.proofs.Common.{length, sym, ap, ◌∙◌}
use Rattle.fluid_reference.proofs.Replays.{table_length}
use Rattle.fluid_reference.proofs.reference.FluidReference.len.Goals as goal

pub returns : goal.returns
returns c = c.len.ensures ∙ c.self.inside.levels.ok.0 ∙ sym (table_length c.self.inside.config.now c.self.inside.rows.items c.self.inside.changes.items c.self.inside.levels.items c.self.inside.slot) ∙ ap length c.self.view_is
