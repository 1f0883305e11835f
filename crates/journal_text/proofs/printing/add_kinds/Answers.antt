use Rattle.std.proofs.Common.{refl, ◌≡◌, ◌++◌, ◌+◌, [], drop, rules, arith, ap, ◌∙◌, append_assoc}
use Rattle.std.specs.Prelude.{codes}
use Rattle.program_model.specs.JournalText.{kinds_text}
use Rattle.journal_text.specs.Printing.{row_text}
use Rattle.journal_text.proofs.Kept.{kept_all, kept_more, kept_still}
use Rattle.journal_text.proofs.Heads.{longer, next_kind}
use Rattle.journal_text.proofs.printing.add_kinds.Goals as goal

pub loop-k-preserved : goal.loop-k-preserved
loop-k-preserved c =
    let kinds = c.args.kinds.now in
    let name = c.name.result.now in
    let word : c.extend_from_slice.new.self.items ≡ c.loop-k.text.items ++ codes "kind " = search rules in
    let row : c.add_row.new.text.items ≡ c.extend_from_slice.new.self.items ++ row_text name [] = search rules in
    record {
      so_far = longer c.loop-k.text.items (codes "kind ") c.extend_from_slice.new.self.items (row_text name []) c.add_row.new.text.items
          (kinds_text (drop c.loop-k.k kinds)) (kinds_text (drop (c.loop-k.k + 1) kinds)) _ word row
          (next_kind kinds c.loop-k.k name c.name.ensures.value) c.loop-k.invariant.so_far;
      below = omega arith;
      kept = kept_more c.args.text.now.items c.loop-k.text.items (codes "kind " ++ row_text name []) c.add_row.new.text.items c.loop-k.invariant.kept
          (row ∙ (ap (λ l. l ++ (row_text name [])) word ∙ append_assoc c.loop-k.text.items (codes "kind ") (row_text name [])));
    }

pub loop-k-init : goal.loop-k-init
loop-k-init c = record { so_far = refl; below = omega arith; kept = kept_all c.args.text.now.items }

pub returns-in_err-extend_from_slice-clause-kept : goal.returns-in_err-extend_from_slice-clause-kept
returns-in_err-extend_from_slice-clause-kept c =
    let same : c.extend_from_slice.new.self.items ≡ c.loop-k.text.items = search rules in
    kept_still c.args.text.now.items c.loop-k.text.items c.extend_from_slice.new.self.items c.loop-k.invariant.kept same

pub returns-in_err-add_row-clause-kept : goal.returns-in_err-add_row-clause-kept
returns-in_err-add_row-clause-kept c =
    let word : c.extend_from_slice.new.self.items ≡ c.loop-k.text.items ++ codes "kind " = search rules in
    kept_more c.args.text.now.items c.loop-k.text.items (codes "kind ") c.add_row.new.text.items c.loop-k.invariant.kept (c.in_err-add_row.ensures.unchanged ∙ word)
