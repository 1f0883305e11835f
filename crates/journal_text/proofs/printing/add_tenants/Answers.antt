use Rattle.std.proofs.Common.{refl, ◌≡◌, ◌++◌, ◌+◌, [], ◌∷◌, length, drop, rules, arith, ap, ◌∙◌, append_assoc}
use Rattle.std.specs.Prelude.{codes}
use Rattle.program_model.specs.JournalText.{tenants_text}
use Rattle.tenant_table.specs.Names.{names_of}
use Rattle.journal_text.specs.Printing.{row_text}
use Rattle.tenant_table.proofs.Tables.{length_names}
use Rattle.journal_text.proofs.Kept.{kept_all, kept_more, kept_still}
use Rattle.journal_text.proofs.Heads.{longer, next_tenant, whole}
use Rattle.journal_text.proofs.printing.add_tenants.Goals as goal

pub loop-t-preserved : goal.loop-t-preserved
loop-t-preserved c =
    let names = names_of c.args.tenants.now in
    let weights = c.args.config.now.weights in
    let t = c.loop-t.t in
    let name = c.name.result.now in
    let word : c.extend_from_slice.new.self.items ≡ c.loop-t.text.items ++ codes "tenant " = search rules in
    let row : c.add_row.new.text.items ≡ c.extend_from_slice.new.self.items ++ row_text name (c.weight.result ∷ []) = search rules in
    record {
      so_far = longer c.loop-t.text.items (codes "tenant ") c.extend_from_slice.new.self.items (row_text name (c.weight.result ∷ [])) c.add_row.new.text.items
          (tenants_text (drop t names) (drop t weights)) (tenants_text (drop (t + 1) names) (drop (t + 1) weights)) _ word
          row (next_tenant names weights t name c.weight.result (omega arith) c.name.ensures.value c.weight.ensures.value) c.loop-t.invariant.so_far;
      named = omega arith;
      weighed = omega arith;
      kept = kept_more c.args.text.now.items c.loop-t.text.items (codes "tenant " ++ row_text name (c.weight.result ∷ [])) c.add_row.new.text.items c.loop-t.invariant.kept
          (row ∙ (ap (λ l. l ++ (row_text name (c.weight.result ∷ []))) word ∙ append_assoc c.loop-t.text.items (codes "tenant ") (row_text name (c.weight.result ∷ []))));
    }

pub returns : goal.returns
returns c =
    let tenants = c.args.tenants.now in
    let counted : length (names_of tenants) ≡ length tenants = length_names tenants in
    record {
      added = whole c.loop-t.text.items (names_of tenants) c.args.config.now.weights c.loop-t.t _ (omega arith) (omega arith) (omega arith) c.loop-t.invariant.so_far;
      kept = c.loop-t.invariant.kept;
    }

pub loop-t-init : goal.loop-t-init
loop-t-init c = record { so_far = refl; named = omega arith; weighed = omega arith; kept = kept_all c.args.text.now.items }

pub returns-in_err-extend_from_slice-clause-kept : goal.returns-in_err-extend_from_slice-clause-kept
returns-in_err-extend_from_slice-clause-kept c =
    let same : c.extend_from_slice.new.self.items ≡ c.loop-t.text.items = search rules in
    kept_still c.args.text.now.items c.loop-t.text.items c.extend_from_slice.new.self.items c.loop-t.invariant.kept same

pub returns-in_err-add_row-clause-kept : goal.returns-in_err-add_row-clause-kept
returns-in_err-add_row-clause-kept c =
    let word : c.extend_from_slice.new.self.items ≡ c.loop-t.text.items ++ codes "tenant " = search rules in
    kept_more c.args.text.now.items c.loop-t.text.items (codes "tenant ") c.add_row.new.text.items c.loop-t.invariant.kept (c.in_err-add_row.ensures.unchanged ∙ word)
