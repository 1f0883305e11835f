use Rattle.std.proofs.Common.{◌≡◌, length, get_or, arith, ap, sym, ◌∙◌, subst, replicate, ap₂}
use Rattle.std.proofs.lemmas.List.{length-map}
use Rattle.program_model.specs.Conforms.{IsLeastConforming}
use Rattle.trace_shape.proofs.Runs.{IsNext, all_served, row_served, told_are_least, all_in_time, none_told, told_more, told_late, taken_from, all_told}
use Rattle.trace_shape.proofs.Windows.{no_row}
use Rattle.trace_shape.proofs.shaping.moments.Goals as goal
use Rattle.trace_shape.proofs.shaping.moments.Goals.{After-taken-bucket}

next : (c : After-taken-bucket) → IsNext c.args.trace.now c.args.rate c.args.burst c.loop-r.buckets.items c.loop-r.moments.items c.loop-r.r (get_or c.rows-row-items.result.now c.loop-r.r no_row) c.taken-bucket.result
next c =
    let T = c.args.trace.now in
    let served = row_served T c.args.rate c.args.burst _ c.loop-r.r c.requires.lawful c.requires.rate.0 (sym c.in_default.ensures) c.rows-row-items.ensures c.loop-r-test.true in
    record {
      tells = c.loop-r.invariant;
      within = omega (arith, c.loop-r-test.true, ap length c.rows-row-items.ensures);
      row_is = ap (λ xs. get_or xs c.loop-r.r no_row) c.rows-row-items.ensures;
      bucket_is = taken_from T c.args.rate c.args.burst c.loop-r.buckets.items _ _ c.weight.result c.index.result.now c.taken-bucket.result
          (omega (arith, served.tenant, c.loop-r.invariant.one_each)) c.tenants-tenants.ensures.weights c.weight.ensures.value c.index.ensures c.taken-bucket.ensures;
    }

pub taken-bucket-requires-clause-fits : goal.taken-bucket-requires-clause-fits
taken-bucket-requires-clause-fits c = omega (arith, (row_served c.args.trace.now c.args.rate c.args.burst _ c.loop-r.r c.requires.lawful c.requires.rate.0 (sym c.in_default.ensures) c.rows-row-items.ensures c.loop-r-test.true).fits)

pub returns-then-bucket-gt-GREATEST_TRACE_MOMENT-clause-fault :
    goal.returns-then-bucket-gt-GREATEST_TRACE_MOMENT-clause-fault
returns-then-bucket-gt-GREATEST_TRACE_MOMENT-clause-fault c =
    told_late _ _ _ _ _ _ _ _ (next (goal.at.returns-then-bucket-gt-GREATEST_TRACE_MOMENT-clause-fault c).After-taken-bucket)
    (all_served c.args.trace.now c.args.rate c.args.burst c.requires.lawful c.requires.rate.0 (sym c.in_default.ensures))
    (omega (arith, c.if-bucket-gt-GREATEST_TRACE_MOMENT.true))

pub loop-r-init : goal.loop-r-init
loop-r-init c =
    let as_many : c.len.result ≡ length c.args.trace.now.tenants = c.len.ensures.value ∙ sym (length-map c.tenants-tenants.result.now (λ t. t.0)) ∙ ap length c.tenants-tenants.ensures.names in
    none_told c.args.trace.now c.args.rate c.args.burst _ _ (c.in_ok-buckets.ensures.items_if_clones_equal (λ y same. same) ∙ ap₂ replicate as_many c.full.ensures) c.in_ok-moments.ensures.items

pub loop-r-preserved : goal.loop-r-preserved
loop-r-preserved c = told_more _ _ _ _ _ _ _ _ c.push.new.self.items (next (goal.at.loop-r-preserved c).After-taken-bucket)
    (omega (arith, c.if-bucket-gt-GREATEST_TRACE_MOMENT.false))
    (c.in_ok-push.ensures.items)

pub returns-clause-least : goal.returns-clause-least
returns-clause-least c =
    subst (IsLeastConforming c.args.trace.now c.args.rate c.args.burst) (sym (all_told c.args.trace.now c.args.rate c.args.burst _ _ _ c.loop-r.invariant (omega (arith, c.loop-r-test.false, ap length c.rows-row-items.ensures))))
    (told_are_least c.args.trace.now c.args.rate c.args.burst (all_served c.args.trace.now c.args.rate c.args.burst c.requires.lawful c.requires.rate.0 (sym c.in_default.ensures)))

pub returns-clause-in_time : goal.returns-clause-in_time
returns-clause-in_time c = all_in_time c.loop-r.moments.items c.loop-r.invariant.in_time
