use Rattle.std.proofs.Common.{◌<◌, ◌*◌, ltb, length, arith, rules, lt-ltb, sym, ◌∙◌}
use Rattle.std.specs.List.{filter}
use Rattle.std.proofs.lemmas.Bool.{cond-true}
use Rattle.std.proofs.lemmas.Fn.{filter_same}
use Rattle.waiting_table.specs.declared.order.Entry.{Entry}
use Rattle.waiting_table.proofs.order.squeeze.Goals as goal

pub returns-then-len-waiting-clause-items : goal.returns-then-len-waiting-clause-items
returns-then-len-waiting-clause-items c =
    let es = c.args.entries.now.items in
    let more : 2 * c.args.waiting < length es = omega (arith, c.if-len-waiting.true, c.len.ensures, c.args.entries.now.ok.0) in
    filter_same _ (λ (e : Entry). e.waits) _ (λ x b q k. search rules) es _ c.retain.ensures.filtered
    ∙ sym (cond-true (ltb (2 * c.args.waiting) (length es)) (filter (λ e. e.waits) es) es (lt-ltb _ _ more))
