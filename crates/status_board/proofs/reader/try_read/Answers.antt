use Rattle.std.proofs.Common.{rules, sym, ap, ◌∙◌, ◌≡◌, ◌/◌, arith, subst, length}
use Rattle.std.proofs.lemmas.Int.{ints}
use Rattle.std.specs.Int.{w128}
use mir.Val.{to_z, of_z}
use Rattle.history_lock.specs.Histories.{IsPrefix}
use Rattle.status_board.specs.Words.{status_in}
use Rattle.status_board.proofs.Reading.{looks, checks, sees_whole}
use Rattle.status_board.proofs.Statuses.{told_back}
use Rattle.status_board.proofs.reader.try_read.Goals as goal

pub load-version-requires : goal.load-version-requires
load-version-requires c = (search rules, search rules, looks _ _ _ _ c.requires.idle.0)

pub load-requires : goal.load-requires
load-requires c = let look = c.load-version.ensures.2.0 c.if-version-ne0.false in let found = c.find-found.ensures.found in (
  search rules,
  search rules,
  checks _ _ _ _ (ap (λ m. m.0.stage) found.1 ∙ ap (λ m. m.0.stage) look.1) (ap (λ m. m.0.config) found.1 ∙ (ap (λ m. m.0.config) look.1 ∙ c.requires.config)),
)

pub returns-clause-seen : goal.returns-clause-seen
returns-clause-seen c =
    let saw = sees_whole c.args.table.now.shared.table_id.slots c.args.place.now.me _ _ _ _ _ _ c.load-version.ensures.2 c.if-version-ne0.false c.find-found.ensures.found c.load.ensures.2 c.if-load-version.false in
    let now = saw.6 in
    let back : to_z w128 (of_z w128 c.joined.result) ≡ c.joined.result = omega (arith, ints) in
    let count : c.load-version.result / 2 ≡ length saw.0 = let double = saw.2 in omega arith in
    (ap (λ m. status_in m.0.config m.0.seen) now ∙ told_back _ _ saw.0 _ _ _ _ _ _ _ c.requires.config count saw.4 (back ∙ c.joined.ensures), subst (λ P. IsPrefix c.args.place.now.me.0.seen P) (sym (ap (λ m. m.0.seen) now)) saw.3)
