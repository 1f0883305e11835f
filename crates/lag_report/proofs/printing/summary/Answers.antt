use Rattle.std.proofs.Common.{ap, ◌≡◌, ◌∙◌, ◌++◌, []}
use Rattle.std.specs.Prelude.{codes}
use Rattle.lag_report.specs.Texts.{with_range}
use Rattle.lag_report.proofs.Texts.{all_totals, all_range}
use Rattle.lag_report.proofs.printing.summary.Goals as goal

pub returns : goal.returns
returns c =
    let start : c.in_ok-text.text.items ≡ [] ++ codes "summary 1\n" = c.in_ok-text.ensures.items in
    let totals = all_totals c.args.report.now c.in_ok-text.text.items c.add_totals.new.text.items start c.in_ok-add_totals.ensures in
    all_range c.args.report.now.rows _ c.add_totals.new.text.items c.add_range.new.text.items totals (c.in_ok-add_range.ensures ∙ ap (with_range c.add_totals.new.text.items) c.rows.ensures.value)
