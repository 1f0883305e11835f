use Rattle.journal_text.proofs.Kept.{kept_through}
use Rattle.journal_text.proofs.printing.add_lines.Goals as goal

pub returns-clause-kept : goal.returns-clause-kept
returns-clause-kept c =
    kept_through c.args.text.now.items c.add_top.new.text.items c.add_entries.new.text.items c.in_ok-add_top.ensures.kept c.add_entries.ensures.kept
