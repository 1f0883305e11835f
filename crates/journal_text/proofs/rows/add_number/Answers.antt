use Rattle.std.proofs.Common.{◌≡◌, rules}
use Rattle.std.specs.Prelude.{codes}
use Rattle.journal_text.specs.Printing.{IsKept}
use Rattle.journal_text.proofs.Kept.{kept_all, kept_still, kept_either}
use Rattle.journal_text.proofs.rows.add_number.Goals as goal

pub returns-in_err-push-clause-kept : goal.returns-in_err-push-clause-kept
returns-in_err-push-clause-kept c =
    let same : c.push.new.self.items ≡ c.args.text.now.items = search rules in
    kept_still c.args.text.now.items c.args.text.now.items c.push.new.self.items (kept_all c.args.text.now.items) same

pub returns-clause-kept : goal.returns-clause-kept
returns-clause-kept c =
    let space : IsKept c.args.text.now.items c.push.new.self.items = (codes " ", c.in_ok-push.ensures.items) in
    kept_either c.args.text.now.items c.push.new.self.items _ c.extend_from_slice.new.self.items _ space c.extend_from_slice.ensures.items
