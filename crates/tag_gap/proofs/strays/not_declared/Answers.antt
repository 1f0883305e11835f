use Rattle.std.proofs.Common.{sym, ap, ◌∙◌, ℕ, Bool, Option, Some, None}
use Rattle.std.specs.Prelude.{if◌then◌else◌}
use Rattle.fq_model.specs.History.{history_of}
use Rattle.tag_gap.proofs.StrayLemmas.{stray_first, another}
use Rattle.tag_gap.proofs.strays.not_declared.Goals as goal

-- the first request, if there is one
abbrev first_if : Bool → Option ℕ
first_if none = if none then None else Some 0

pub returns-in-Recent : goal.returns-in-Recent
returns-in-Recent c = sym (stray_first c.args.config.now (history_of c.args.past.now) c.args.asked.now (another c.estimate.result c.args.config.now.estimate c.estimate.ensures.value c.in-Recent.is) c.requires.asked ∙ ap first_if (sym c.is_empty.ensures ∙ c.if-is_empty.true))

pub returns-in-Recent-2 : goal.returns-in-Recent-2
returns-in-Recent-2 c = sym (stray_first c.args.config.now (history_of c.args.past.now) c.args.asked.now (another c.estimate.result c.args.config.now.estimate c.estimate.ensures.value c.in-Recent-2.is) c.requires.asked ∙ ap first_if (sym c.is_empty.ensures ∙ c.if-is_empty.false))
