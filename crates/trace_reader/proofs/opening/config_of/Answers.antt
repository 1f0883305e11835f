use Rattle.std.proofs.Common.{◌≡◌, ◌∙◌, ap, max, length, arith}
use Rattle.trace_reader.proofs.InLimits.{trace_limits, is_accepted}
use Rattle.trace_reader.proofs.opening.config_of.Goals as goal

pub unwrap-requires : goal.unwrap-requires
unwrap-requires c =
    let T = c.args.trace.now in let O = c.args.options in
    let requests : c.max.result ≡ max 1 (length T.rows) = omega (arith, c.max.ensures, ap length c.rows.ensures) in
    is_accepted T O _ _ c.args.entries _ c.check.result (trace_limits T O c.args.entries c.requires.lawful c.requires.options c.requires.entries)
    (c.from_vec.ensures ∙ c.in_ok-weights.ensures ∙ c.tenants.ensures.weights)
    (c.len.ensures.value ∙ ap length c.kinds.ensures)
    requests
    c.check.ensures.fault
