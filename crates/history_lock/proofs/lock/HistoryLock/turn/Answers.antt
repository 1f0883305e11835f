use Rattle.std.proofs.Common.{sym, ap, ◌∙◌, subst, ◌≡◌, ℕ, List}
use Rattle.fq_model.specs.declared.event.Entry.{Entry}
use Rattle.fq_model.specs.Outcome.{own_entries}
use Rattle.history_lock.specs.Histories.{IsPrefix, Grows}
use Rattle.history_lock.specs.Views.{view_of}
use Rattle.history_lock.proofs.Lists.{same_some}
use Rattle.history_lock.proofs.Histories.{gains_own}
use Rattle.history_lock.proofs.lock.HistoryLock.turn.Goals as goal

pub leave-requires-clause-served : goal.leave-requires-clause-served
leave-requires-clause-served g c = let served = c.enter-machine.ensures.served in let now = served.1 in
    let seat : view_of c.pass.inside.badge.views ≡ c.into_seat-place.result.me.0 = ap view_of (ap (λ b. b.views) (sym c.replace.ensures.value) ∙ c.into_seat-place.ensures.2) in
    let number = ap (λ m. m.0.number) now ∙ (ap (λ v. v.number) (sym seat) ∙ c.pass.invariant.numbered) in
    let grows = g.met.M.Machine.grows _ _ _ _ _ _ c.step-reply.ensures.answers in
    (served.0, g.M.Machine.past c.enter-machine.result, ap (λ m. m.0.stage) now, ap (λ m. m.1) now, rw number grows)

pub returns-clause-answers : goal.returns-clause-answers
returns-clause-answers g c = let now = c.enter-machine.ensures.served.1 in let after = c.leave.ensures.learned in let is = c.pass.view_is in
    let seat : view_of c.pass.inside.badge.views ≡ c.into_seat-place.result.me.0 = ap view_of (ap (λ b. b.views) (sym c.replace.ensures.value) ∙ c.into_seat-place.ensures.2) in
    let badge : view_of c.into_badge.result.views ≡ c.leave.new.place.me.0 = ap view_of c.into_badge.ensures.2 in
    let P : List Entry = g.M.Machine.past c.enter-machine.result in let P2 : List Entry = g.M.Machine.past c.step-reply.new.self in
    let who : ℕ = c.args.pass.now.number in
    let inside : c.pass.inside.number ≡ who = sym c.pass.invariant.numbered ∙ ap (λ h. h.number) is in
    let number : c.into_seat-place.result.me.0.number ≡ who = ap (λ v. v.number) (sym seat) ∙ ap (λ h. h.number) is in
    let seen : (view_of c.into_badge.result.views).seen ≡ P2 = ap (λ v. v.seen) badge ∙ ap (λ m. m.0.seen) after in
    let mine : (view_of c.into_badge.result.views).mine ≡ own_entries P2 c.enter-machine.new.place.me.0.number = ap (λ v. v.mine) badge ∙ ap (λ m. m.0.mine) after in
    let late : c.enter-machine.new.place.me.0.number ≡ who = ap (λ m. m.0.number) now ∙ number in
    let frame = same_some _ _ _ c.enter-machine.ensures.frame (ap (λ v. v.frame) (sym seat) ∙ (ap (λ h. h.frame) is ∙ c.requires.own.1)) in
    let was : own_entries P who ≡ c.args.pass.now.mine = ap (own_entries P) (sym number) ∙ (c.enter-machine.ensures.mine ∙ (ap (λ v. v.mine) (sym seat) ∙ ap (λ h. h.mine) is)) in
    let grows : Grows who P P2 = subst (λ n. Grows n P P2) inside (g.met.M.Machine.grows _ _ _ _ _ _ c.step-reply.ensures.answers) in (
      P,
      subst (λ s. IsPrefix s P) (ap (λ v. v.seen) (sym seat) ∙ ap (λ h. h.seen) is) c.enter-machine.ensures.seen,
      was,
      rw (seen, ← frame, ← inside) c.step-reply.ensures.answers,
      rw (seen, mine, late) (gains_own who P P2 _ was grows),
    )
