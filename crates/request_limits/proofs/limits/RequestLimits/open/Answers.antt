use Rattle.std.proofs.Common.{◌≡◌, ◌*◌, length, ap, ◌∙◌}
use Rattle.request_limits.proofs.Opens.{opened_view, view_keeps}
use Rattle.request_limits.proofs.limits.RequestLimits.open.Goals as goal

pub invariant_of-result : goal.invariant_of-result
invariant_of-result c =
    let cells : c.args.slots * c.len.result ≡ c.args.slots * length c.args.kind_limits.items = ap (λ n. c.args.slots * n) (c.len.ensures ∙ c.args.kind_limits.ok.0) in
    view_keeps c.args.kind_limits.items c.in_ok-limits.limits.items c.in_ok-sent.sent.items c.in_ok-totals.totals.items c.in_ok-held.held c.args.slots c.args.limit c.args.room (c.args.slots * c.len.result) c.requires.slots_fit c.requires.kinds_fit c.requires.cells_fit c.in_ok-limits.ensures c.in_ok-sent.ensures c.in_ok-totals.ensures c.in_ok-held.ensures cells

pub returns : goal.returns
returns c =
    let cells : c.args.slots * c.len.result ≡ c.args.slots * length c.args.kind_limits.items = ap (λ n. c.args.slots * n) (c.len.ensures ∙ c.args.kind_limits.ok.0) in
    opened_view c.args.kind_limits.items c.in_ok-limits.limits.items c.in_ok-sent.sent.items c.in_ok-totals.totals.items c.in_ok-held.held c.args.slots c.args.limit c.args.room (c.args.slots * c.len.result) c.requires.slots_fit c.requires.kinds_fit c.requires.cells_fit c.in_ok-limits.ensures c.in_ok-sent.ensures c.in_ok-totals.ensures c.in_ok-held.ensures cells
