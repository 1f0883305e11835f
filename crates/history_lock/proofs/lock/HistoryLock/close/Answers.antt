use Rattle.std.proofs.Common.{refl, sym, ap, ◌∙◌, subst, ◌≡◌}
use Rattle.fq_model.specs.Outcome.{own_entries}
use Rattle.history_lock.specs.Passes.{held, AllEnded}
use Rattle.history_lock.specs.Views.{view_of}
use Rattle.history_lock.proofs.Lists.{same_some}
use Rattle.history_lock.proofs.Stages.{idle_is}
use Rattle.history_lock.proofs.Closing.{settles, all_served, ends_moved, last_words, last_moved}
use Rattle.history_lock.proofs.lock.HistoryLock.close.Goals as goal

pub returns-then-drawn-served-clause-settled : goal.returns-then-drawn-served-clause-settled
returns-then-drawn-served-clause-settled g c = λ covers.
    let same : view_of c.pass.inside.badge.views ≡ c.into_seat.result.me.0 = ap view_of c.into_seat.ensures.2 in
    let idle = ap (λ v. v.stage) (sym same) ∙ idle_is _ c.pass.invariant.idle in
    let is = ap (held c.pass.inside.badge.table_id) (sym same) ∙ c.pass.view_is in
    absurd (c.if-drawn-served.true (all_served g.M.Machine.past g.M.Machine.frame _ _ _ _ _ _ _ idle (ap (λ h. h.number) is ∙ c.requires.first) c.close_with-closed.ensures.values.2 c.word-drawn.ensures c.word-served.ensures
    (subst (λ h. AllEnded h.made h.ended) (sym is) covers)))

pub returns-then-drawn-served-clause-exact : goal.returns-then-drawn-served-clause-exact
returns-then-drawn-served-clause-exact g c =
    let same : view_of c.pass.inside.badge.views ≡ c.into_seat.result.me.0 = ap view_of c.into_seat.ensures.2 in
    let is = ap (held c.pass.inside.badge.table_id) (sym same) ∙ c.pass.view_is in
    let last = last_words g.M.Machine.past g.M.Machine.frame _ c.pass.inside.badge.table_id _ _ _ _ _ _ c.close_with-closed.ensures.values.2 c.word-drawn.ensures c.word-served.ensures in
    (c.word-drawn.result, c.word-served.result, last_moved g.M.Machine.past g.M.Machine.frame _ _ _ _ _ _ (ap (λ l. l.frame) c.self.view_is) is last, tt, (refl, refl, c.if-drawn-served.true))

pub unwrap-requires : goal.unwrap-requires
unwrap-requires g c =
    let same : view_of c.pass.inside.badge.views ≡ c.into_seat.result.me.0 = ap view_of c.into_seat.ensures.2 in
    let idle = ap (λ v. v.stage) (sym same) ∙ idle_is _ c.pass.invariant.idle in
    let zeroth = ap (λ v. v.number) (sym same) ∙ (ap (λ h. h.number) c.pass.view_is ∙ c.requires.first) in
    let got = settles g.M.Machine.past g.M.Machine.frame _ c.pass.inside.badge.table_id _ _ _ _ _ _ _ idle zeroth c.close_with-closed.ensures.values.2 c.word-drawn.ensures c.word-served.ensures c.take-slot.ensures.value c.if-drawn-served.false in
    rw got.1 refl

pub returns : goal.returns
returns g c =
    let same : view_of c.pass.inside.badge.views ≡ c.into_seat.result.me.0 = ap view_of c.into_seat.ensures.2 in
    let idle = ap (λ v. v.stage) (sym same) ∙ idle_is _ c.pass.invariant.idle in
    let is = ap (held c.pass.inside.badge.table_id) (sym same) ∙ c.pass.view_is in
    let got = settles g.M.Machine.past g.M.Machine.frame _ c.pass.inside.badge.table_id _ _ _ _ _ _ _ idle (ap (λ h. h.number) is ∙ c.requires.first) c.close_with-closed.ensures.values.2 c.word-drawn.ensures c.word-served.ensures c.take-slot.ensures.value c.if-drawn-served.false in
    let machine = same_some _ _ _ got.1 c.unwrap.ensures in
    let like = ap (λ l. l.frame) c.self.view_is in
    let ends = ends_moved g.M.Machine.past g.M.Machine.frame _ _ _ _ _ _ like is machine got.2 in record {
      frame = ends.0;
      seen = ends.1;
      mine = ap (own_entries (g.M.Machine.past c.unwrap.result)) (sym c.requires.first) ∙ ends.2;
      ended = ends.3;
      above = ends.4;
      exact = (
        c.word-drawn.result,
        c.word-served.result,
        last_moved g.M.Machine.past g.M.Machine.frame _ _ _ _ _ _ (ap (λ l. l.frame) c.self.view_is) is (last_words g.M.Machine.past g.M.Machine.frame _ c.pass.inside.badge.table_id _ _ _ _ _ _ c.close_with-closed.ensures.values.2 c.word-drawn.ensures c.word-served.ensures),
        c.if-drawn-served.false,
        tt,
      );
      settled = λ _. refl;
    }
