use Rattle.std.proofs.Common.{◌∙◌, ap, ◌++◌}
use Rattle.std.specs.Prelude.{codes}
use Rattle.std.specs.Fmt.{decimal}
use Rattle.lag_report.specs.Reports.{requests_of}
use Rattle.lag_report.proofs.printing.add_totals.Goals as goal

pub returns : goal.returns
returns c =
    let old = c.args.text.now.items in
    let requests = c.in_ok-add_count.ensures ∙ ap (λ n. old ++ codes "requests " ++ decimal n) (c.requests.ensures ∙ ap requests_of c.rows.ensures.value) in
    let entries = c.in_ok-add_count-2.ensures ∙ ap (λ n. c.add_count.new.text.items ++ codes "\nentries " ++ decimal n) c.entries.ensures in
    let end = c.in_ok-add_count-3.ensures ∙ ap (λ n. c.add_count-2.new.text.items ++ codes "\nend " ++ decimal n) c.end.ensures in
    end ∙ ap (λ l. l ++ codes "\nend " ++ decimal c.args.report.now.end) (entries ∙ ap (λ l. l ++ codes "\nentries " ++ decimal c.args.report.now.entries) requests)
