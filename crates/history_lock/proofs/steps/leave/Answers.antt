use Rattle.std.proofs.Common.{rules, ap, ◌∙◌, ◌∷◌, Some}
use Rattle.atomic_table.specs.Table.{rest}
use Rattle.history_lock.proofs.Giving.{gives_back}
use Rattle.history_lock.proofs.steps.leave.Goals as goal

pub fetch_add-requires : goal.fetch_add-requires
fetch_add-requires g c = let now = c.exchange-empty.ensures.3 in let was = c.requires.served in (
  search rules,
  search rules,
  gives_back g.M.Machine.past g.M.Machine.frame _ _ _ _ was.0 was.1 c.args.machine
      (ap (λ m. m.0.stage) now ∙ was.2)
      (ap (λ m. m.1) now ∙ ap (λ cs. (0, Some c.args.machine) ∷ rest cs) was.3)
      (ap (λ m. m.0.frame) now ∙ c.requires.frame)
      (rw now was.4),
)
