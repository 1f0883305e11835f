use Rattle.std.proofs.Common.{sym, ap, ◌∙◌}
use Rattle.fq_model.specs.Spelling.{is_name}
use Rattle.tenant_table.specs.Names.{tenant_refusal}
use Rattle.tenant_table.proofs.Adding.{tenant_word, tenant_twice, tenant_full, tenant_new, no_memory}
use Rattle.tenant_table.proofs.tenants_builder.TenantsBuilder.add.Goals as goal

pub returns-then-not-is_name-clause-answer : goal.returns-then-not-is_name-clause-answer
returns-then-not-is_name-clause-answer c = tenant_word c.args.self.now c.args.name.now c.args.weight (ap is_name (sym c.as_bytes.ensures.value) ∙ sym c.if-not-is_name.ensures)

pub returns-in-Some-clause-answer : goal.returns-in-Some-clause-answer
returns-in-Some-clause-answer c = tenant_twice c.args.self.now c.args.name.now c.args.weight c.in-Some.t (ap is_name (sym c.as_bytes.ensures.value) ∙ sym c.if-not-is_name.ensures) (c.if-weight-lt1.false, c.if-weight-gt-TEXT_WEIGHT.false) (sym c.in-Some.ensures.number)

pub returns-then-number-ge-TEXT_TENANTS-clause-answer : goal.returns-then-number-ge-TEXT_TENANTS-clause-answer
returns-then-number-ge-TEXT_TENANTS-clause-answer c = tenant_full c.args.self.now c.args.name.now c.args.weight (ap is_name (sym c.as_bytes.ensures.value) ∙ sym c.if-not-is_name.ensures) (c.if-weight-lt1.false, c.if-weight-gt-TEXT_WEIGHT.false) (sym c.in_default.ensures.number) (rw (← c.len-number.ensures.value) c.if-number-ge-TEXT_TENANTS.true)

pub returns-in_err-add_new-clause-answer : goal.returns-in_err-add_new-clause-answer
returns-in_err-add_new-clause-answer c = no_memory c.from_residual.result _ (tenant_refusal c.args.self.now c.args.name.now c.args.weight) c.from_residual.ensures (tenant_new c.args.self.now c.args.name.now c.args.weight (ap is_name (sym c.as_bytes.ensures.value) ∙ sym c.if-not-is_name.ensures) (c.if-weight-lt1.false, c.if-weight-gt-TEXT_WEIGHT.false) (sym c.in_default.ensures.number) (rw (← c.len-number.ensures.value) c.if-number-ge-TEXT_TENANTS.false))

pub returns-clause-answer : goal.returns-clause-answer
returns-clause-answer c = (c.in_ok-add_new.ensures.number, tenant_new c.args.self.now c.args.name.now c.args.weight (ap is_name (sym c.as_bytes.ensures.value) ∙ sym c.if-not-is_name.ensures) (c.if-weight-lt1.false, c.if-weight-gt-TEXT_WEIGHT.false) (sym c.in_default.ensures.number) (rw (← c.len-number.ensures.value) c.if-number-ge-TEXT_TENANTS.false))
