use Rattle.std.proofs.Common.{sym, ap, ◌∙◌}
use Rattle.fq_model.specs.Spelling.{is_name}
use Rattle.tenant_table.specs.Names.{kind_refusal}
use Rattle.tenant_table.proofs.Adding.{kind_word, kind_twice, kind_full, kind_new, no_memory}
use Rattle.tenant_table.proofs.kinds_builder.KindsBuilder.add.Goals as goal

pub returns-then-not-is_name-clause-answer : goal.returns-then-not-is_name-clause-answer
returns-then-not-is_name-clause-answer c = kind_word c.args.self.now c.args.name.now (ap is_name (sym c.as_bytes.ensures.value) ∙ sym c.if-not-is_name.ensures)

pub returns-in-Some-clause-answer : goal.returns-in-Some-clause-answer
returns-in-Some-clause-answer c = kind_twice c.args.self.now c.args.name.now c.in-Some.k (ap is_name (sym c.as_bytes.ensures.value) ∙ sym c.if-not-is_name.ensures) (sym c.in-Some.ensures.number)

pub returns-then-number-ge-MOST_KINDS-clause-answer : goal.returns-then-number-ge-MOST_KINDS-clause-answer
returns-then-number-ge-MOST_KINDS-clause-answer c = kind_full c.args.self.now c.args.name.now (ap is_name (sym c.as_bytes.ensures.value) ∙ sym c.if-not-is_name.ensures) (sym c.in_default.ensures.number) (rw (← c.len-number.ensures.value) c.if-number-ge-MOST_KINDS.true)

pub returns-in_err-add_new-clause-answer : goal.returns-in_err-add_new-clause-answer
returns-in_err-add_new-clause-answer c = no_memory c.from_residual.result _ (kind_refusal c.args.self.now c.args.name.now) c.from_residual.ensures (kind_new c.args.self.now c.args.name.now (ap is_name (sym c.as_bytes.ensures.value) ∙ sym c.if-not-is_name.ensures) (sym c.in_default.ensures.number) (rw (← c.len-number.ensures.value) c.if-number-ge-MOST_KINDS.false))

pub returns-clause-answer : goal.returns-clause-answer
returns-clause-answer c = (c.in_ok-add_new.ensures.number, kind_new c.args.self.now c.args.name.now (ap is_name (sym c.as_bytes.ensures.value) ∙ sym c.if-not-is_name.ensures) (sym c.in_default.ensures.number) (rw (← c.len-number.ensures.value) c.if-number-ge-MOST_KINDS.false))
