use Rattle.std.proofs.Common.{◌∙◌, ap, ◌++◌}
use Rattle.std.specs.Prelude.{codes}
use Rattle.std.specs.Fmt.{decimal}
use Rattle.lag_report.proofs.printing.add_counts.Goals as goal

pub returns : goal.returns
returns c =
    c.in_ok-add_count-4.ensures ∙ ap (λ l. l ++ codes " fluid " ++ decimal c.args.row.fluid)
    (c.in_ok-add_count-3.ensures ∙ ap (λ l. l ++ codes " charged " ++ decimal c.args.row.charged)
    (c.in_ok-add_count-2.ensures ∙ ap (λ l. l ++ codes " requests " ++ decimal c.args.row.requests) c.in_ok-add_count.ensures))
