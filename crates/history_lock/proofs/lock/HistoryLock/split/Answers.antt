use Rattle.std.proofs.Common.{sym, ap, ◌∙◌, ◌≡◌, ◌<◌, ◌+◌, ◌^◌, arith}
use Rattle.history_lock.specs.Views.{view_of}
use Rattle.history_lock.proofs.Stages.{idle_is}
use Rattle.history_lock.proofs.Splitting.{splits}
use Rattle.history_lock.proofs.Joining.{notes}
use Rattle.history_lock.proofs.lock.HistoryLock.split.Goals as goal

pub split_seat-new_place-requires : goal.split_seat-new_place-requires
split_seat-new_place-requires g c = let is = c.pass.view_is in
    let seat : view_of c.pass.inside.badge.views ≡ c.into_seat-place.result.me.0 = ap view_of (ap (λ b. b.views) (sym c.replace.ensures.value) ∙ c.into_seat-place.ensures.2) in
    let idle = ap (λ v. v.stage) (sym seat) ∙ idle_is _ c.pass.invariant.idle in
    let zeroth = ap (λ v. v.number) (sym seat) ∙ (ap (λ h. h.number) is ∙ c.requires.first) in
    let made : c.into_seat-place.result.me.0.made ≡ c.args.pass.now.made = ap (λ v. v.made) (sym seat) ∙ ap (λ h. h.made) is in
    let low = c.requires.room in let room : c.into_seat-place.result.me.0.made + 1 < 2 ^ 32 = omega arith in
    let at : c.into_seat-place.result.table_id ≡ c.self.inside.table.shared.table_id = c.into_seat-place.ensures.0 ∙ (ap (λ b. b.table_id) c.replace.ensures.value ∙ (ap (λ h. h.table) is ∙ (c.requires.own.0 ∙ sym (ap (λ l. l.table) c.self.view_is)))) in
    (at, omega (arith, c.self.invariant.0), splits g.M.Machine.past g.M.Machine.frame _ _ _ idle zeroth room)

pub load-requires : goal.load-requires
load-requires g c =
    let at : c.into_seat-place.result.table_id ≡ c.self.inside.table.shared.table_id = c.into_seat-place.ensures.0 ∙ (ap (λ b. b.table_id) c.replace.ensures.value ∙ (ap (λ h. h.table) c.pass.view_is ∙ (c.requires.own.0 ∙ sym (ap (λ l. l.table) c.self.view_is)))) in
    (c.split_seat-new_place.ensures.3 ∙ at, omega (arith, c.self.invariant.0), notes g.M.Machine.past g.M.Machine.frame _ _ _ _ (ap (λ m. m.0.stage) c.split_seat-new_place.ensures.4))
