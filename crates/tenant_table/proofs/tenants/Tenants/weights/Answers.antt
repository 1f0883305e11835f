use Rattle.std.proofs.Common.{◌<◌, length, ◌∙◌, arith}
use Rattle.std.proofs.lemmas.List.{take_all}
use Rattle.tenant_table.specs.Names.{weights_of}
use Rattle.tenant_table.proofs.Tables.{length_weights}
use Rattle.tenant_table.proofs.Adding.{weights_more}
use Rattle.tenant_table.proofs.tenants.Tenants.weights.Goals as goal

pub loop-t-preserved : goal.loop-t-preserved
loop-t-preserved c =
    let below : c.loop-t.t < length c.args.self.now = rw (← c.len-t-end.ensures.value) c.loop-t-test.true in
    record {
      so_far = weights_more c.args.self.now c.loop-t.t c.weight.result c.loop-t.weights.items c.push.new.self.items below c.loop-t.invariant.so_far c.weight.ensures.value c.in_ok-push.ensures.items;
      below = omega arith;
    }

pub returns : goal.returns
returns c = c.loop-t.invariant.so_far ∙ take_all c.loop-t.t (weights_of c.args.self.now) (rw (length_weights c.args.self.now, ← c.len-t-end.ensures.value) c.loop-t-test.false)
