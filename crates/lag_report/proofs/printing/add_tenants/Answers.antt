use Rattle.std.proofs.Common.{arith, ap, sym, ◌∙◌, ◌++◌}
use Rattle.std.proofs.lemmas.List.{append-nil}
use Rattle.tenant_table.specs.Names.{names_of}
use Rattle.lag_report.proofs.Texts.{next_line, no_line_left}
use Rattle.lag_report.proofs.printing.add_tenants.Goals as goal

pub loop-t-preserved : goal.loop-t-preserved
loop-t-preserved c = record {
  so_far = next_line (names_of c.args.tenants.now) c.args.rows.now c.loop-t.t c.name.result.now _ c.loop-t.text.items c.add_tenant.new.text.items _ (omega arith) c.name.ensures.value c.in_ok-add_tenant.ensures c.loop-t.invariant.so_far;
  inside = omega arith;
}

pub returns : goal.returns
returns c = sym (append-nil _) ∙ ap (λ l. c.loop-t.text.items ++ l) (sym (no_line_left (names_of c.args.tenants.now) c.args.rows.now c.loop-t.t (omega arith))) ∙ c.loop-t.invariant.so_far
