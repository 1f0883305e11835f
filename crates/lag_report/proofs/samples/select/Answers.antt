use Rattle.std.proofs.Common.{◌-◌, arith, rules, w64}
use mir.Val.{SFits, to_z, of_z}
use Rattle.std.proofs.lemmas.Int.{to_z-of_z}
use Rattle.lag_report.proofs.Ranks.{selected, one_more}
use Rattle.lag_report.proofs.samples.select.Goals as goal

pub returns : goal.returns
returns c =
    let found = c.select_nth_unstable-sample in
    let fits : SFits w64 found.result.1.now = search rules in
    one_more c.args.rest.now found.result.2.now (c.args.at - 1) c.args.at c.args.first (to_z w64 (of_z w64 found.result.1.now)) c.requires.least
    (selected c.args.rest.now found.result.0.now found.result.2.now (c.args.at - 1) found.result.1.now _ found.ensures.permutation found.ensures.front_len found.ensures.partitioned (to_z-of_z w64 found.result.1.now fits))
    (omega (arith, c.if-at-eq0.false))
