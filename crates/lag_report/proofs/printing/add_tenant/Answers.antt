use Rattle.std.proofs.Common.{◌∙◌, ap, ◌++◌}
use Rattle.std.specs.Prelude.{codes}
use Rattle.program_model.specs.ReportText.{lag_numbers}
use Rattle.lag_report.proofs.Texts.{longer, all_counts}
use Rattle.lag_report.proofs.printing.add_tenant.Goals as goal

pub returns : goal.returns
returns c =
    let old = c.args.text.now.items in
    let row = c.args.row in
    let word = c.in_ok-extend_from_slice.ensures.items in
    let name = longer old (codes "tenant ") c.args.name.now _ _ word (c.in_ok-extend_from_slice-2.ensures.items ∙ ap (λ l. c.extend_from_slice.new.self.items ++ l) c.as_bytes.ensures.value) in
    let counts = all_counts row old _ _ _ name c.in_ok-add_counts.ensures in
    let lag = longer old _ (codes " lag ") _ _ counts c.in_ok-extend_from_slice-3.ensures.items in
    let numbers = longer old _ (lag_numbers row) _ _ lag c.in_ok-add_lags.ensures in
    longer old _ (codes "\n") _ _ numbers c.in_ok-push.ensures.items
