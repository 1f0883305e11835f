use Rattle.std.proofs.Common.{sym, ap, ◌∙◌, ◌≡◌, arith, subst, Some}
use Rattle.history_lock.specs.Histories.{IsPrefix}
use Rattle.status_board.proofs.Lists.{prefix_length, prefix_whole}
use Rattle.status_board.proofs.Statuses.{entries_are, told_is}
use Rattle.status_board.proofs.writer.Writer.show.Goals as goal

pub returns-then-past-self-clause-shown : goal.returns-then-past-self-clause-shown
returns-then-past-self-clause-shown c =
    let me = c.self.inside.place.me.0 in let shown = ap (λ w. w.shown) c.self.view_is in
    let config : me.config ≡ Some c.args.board.now.config = ap (λ w. w.config) c.self.view_is ∙ c.requires.own.1 in
    let counted = entries_are c.args.board.now.config me.seen c.self.inside.status (told_is me.config c.args.board.now.config me.seen c.self.inside.status config c.self.invariant.told) in
    let more : IsPrefix me.seen c.args.past.now = subst (λ P. IsPrefix P c.args.past.now) (sym shown) c.requires.past in
    sym (prefix_whole me.seen c.args.past.now more (omega (arith, counted, c.if-past-self.true)) ∙ shown)

pub publish-requires-clause-longer : goal.publish-requires-clause-longer
publish-requires-clause-longer c =
    let me = c.self.inside.place.me.0 in let shown = ap (λ w. w.shown) c.self.view_is in
    let config : me.config ≡ Some c.args.board.now.config = ap (λ w. w.config) c.self.view_is ∙ c.requires.own.1 in
    let counted = entries_are c.args.board.now.config me.seen c.self.inside.status (told_is me.config c.args.board.now.config me.seen c.self.inside.status config c.self.invariant.told) in
    let more : IsPrefix me.seen c.args.past.now = subst (λ P. IsPrefix P c.args.past.now) (sym shown) c.requires.past in
    let most = prefix_length me.seen c.args.past.now more in
    omega (arith, counted, most, c.if-past-self.false)
