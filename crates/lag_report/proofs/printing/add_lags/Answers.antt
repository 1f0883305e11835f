use Rattle.std.proofs.Common.{ap, ◌≡◌, ◌∙◌, ◌++◌, rules, w64}
use mir.Val.{SFits}
use Rattle.std.proofs.lemmas.Int.{to_z-of_z}
use Rattle.std.proofs.lemmas.List.{append-nil}
use Rattle.std.specs.Prelude.{codes}
use Rattle.std.specs.Fmt.{signed_decimal}
use Rattle.lag_report.proofs.Texts.{longer_by_two}
use Rattle.lag_report.proofs.printing.add_lags.Goals as goal

pub returns : goal.returns
returns c =
    let old = c.args.text.now.items in
    let row = c.args.row in
    let f0 : SFits w64 c.args.row.least = search rules in
    let f1 : SFits w64 c.args.row.p50 = search rules in
    let f2 : SFits w64 c.args.row.p90 = search rules in
    let f3 : SFits w64 c.args.row.p99 = search rules in
    let f4 : SFits w64 c.args.row.greatest = search rules in
    let least : c.add_lag.new.text.items ≡ old ++ signed_decimal row.least = c.in_ok-add_lag.ensures ∙ ap (λ z. old ++ codes "" ++ signed_decimal z) (to_z-of_z w64 row.least f0) ∙ ap (λ l. l ++ signed_decimal row.least) (append-nil old) in
    let p50 = longer_by_two old _ (codes " ") (signed_decimal row.p50) _ _ least (c.in_ok-add_lag-2.ensures ∙ ap (λ z. c.add_lag.new.text.items ++ codes " " ++ signed_decimal z) (to_z-of_z w64 row.p50 f1)) in
    let p90 = longer_by_two old _ (codes " ") (signed_decimal row.p90) _ _ p50 (c.in_ok-add_lag-3.ensures ∙ ap (λ z. c.add_lag-2.new.text.items ++ codes " " ++ signed_decimal z) (to_z-of_z w64 row.p90 f2)) in
    let p99 = longer_by_two old _ (codes " ") (signed_decimal row.p99) _ _ p90 (c.in_ok-add_lag-4.ensures ∙ ap (λ z. c.add_lag-3.new.text.items ++ codes " " ++ signed_decimal z) (to_z-of_z w64 row.p99 f3)) in
    longer_by_two old _ (codes " ") (signed_decimal row.greatest) _ _ p99 (c.in_ok-add_lag-5.ensures ∙ ap (λ z. c.add_lag-4.new.text.items ++ codes " " ++ signed_decimal z) (to_z-of_z w64 row.greatest f4))
