use Rattle.std.proofs.Common.{◌≡◌, rules}
use Rattle.journal_text.proofs.Kept.{kept_all, kept_still, kept_through}
use Rattle.journal_text.proofs.printing.add_top.Goals as goal

pub returns-in_err-extend_from_slice-clause-kept : goal.returns-in_err-extend_from_slice-clause-kept
returns-in_err-extend_from_slice-clause-kept c =
    let same : c.extend_from_slice.new.self.items ≡ c.args.text.now.items = search rules in
    kept_still c.args.text.now.items c.args.text.now.items c.extend_from_slice.new.self.items (kept_all c.args.text.now.items) same

pub returns-clause-kept : goal.returns-clause-kept
returns-clause-kept c =
    kept_through c.args.text.now.items c.extend_from_slice.new.self.items c.add_head.new.text.items (_, c.in_ok-extend_from_slice.ensures.items) c.add_head.ensures.kept
