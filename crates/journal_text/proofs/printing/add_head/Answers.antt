use Rattle.journal_text.specs.Printing.{IsKept}
use Rattle.journal_text.proofs.Kept.{kept_all, kept_still, kept_through}
use Rattle.journal_text.proofs.printing.add_head.Goals as goal

pub returns-in_err-settings-clause-kept : goal.returns-in_err-settings-clause-kept
returns-in_err-settings-clause-kept c = kept_all c.args.text.now.items

pub returns-in_err-add_row-clause-kept : goal.returns-in_err-add_row-clause-kept
returns-in_err-add_row-clause-kept c =
    kept_still c.args.text.now.items c.args.text.now.items c.add_row.new.text.items (kept_all c.args.text.now.items) c.in_err-add_row.ensures.unchanged

pub returns-in_err-add_tenants-clause-kept : goal.returns-in_err-add_tenants-clause-kept
returns-in_err-add_tenants-clause-kept c =
    kept_through c.args.text.now.items c.add_row.new.text.items c.add_tenants.new.text.items (_, c.in_ok-add_row.ensures.added) c.in_err-add_tenants.ensures.kept

pub returns-clause-kept : goal.returns-clause-kept
returns-clause-kept c =
    let tenants : IsKept c.args.text.now.items c.add_tenants.new.text.items =
    kept_through c.args.text.now.items c.add_row.new.text.items c.add_tenants.new.text.items (_, c.in_ok-add_row.ensures.added) c.in_ok-add_tenants.ensures.kept in
    kept_through c.args.text.now.items c.add_tenants.new.text.items c.add_kinds.new.text.items tenants c.add_kinds.ensures.kept
