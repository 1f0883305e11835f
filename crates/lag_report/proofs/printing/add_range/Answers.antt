use Rattle.std.proofs.Common.{◌∙◌, ap, ◌++◌, rules, w64}
use mir.Val.{SFits}
use Rattle.std.proofs.lemmas.Int.{to_z-of_z}
use Rattle.std.specs.Prelude.{codes}
use Rattle.std.specs.Fmt.{signed_decimal}
use Rattle.fq_model.specs.Report.{greatest_lag}
use Rattle.lag_report.proofs.printing.add_range.Goals as goal

pub returns : goal.returns
returns c =
    let rows = c.args.rows.now in
    let fits_least : SFits w64 c.least_lag.result = search rules in
    let fits_greatest : SFits w64 c.greatest_lag.result = search rules in
    let low = to_z-of_z w64 c.least_lag.result fits_least ∙ c.least_lag.ensures in
    let high = to_z-of_z w64 c.greatest_lag.result fits_greatest ∙ c.greatest_lag.ensures in
    let least = c.in_ok-add_lag.ensures ∙ ap (λ z. c.args.text.now.items ++ codes "\nlag " ++ signed_decimal z) low in
    let greatest = c.in_ok-add_lag-2.ensures ∙ ap (λ z. c.add_lag.new.text.items ++ codes " " ++ signed_decimal z) high in
    c.in_ok-push.ensures.items ∙ ap (λ l. l ++ codes "\n") (greatest ∙ ap (λ l. l ++ codes " " ++ signed_decimal (greatest_lag rows)) least)
