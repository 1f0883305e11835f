use Rattle.std.proofs.Common.{sym, ap, ◌∙◌, ◌≡◌, arith}
use Rattle.history_lock.specs.Views.{view_of}
use Rattle.history_lock.proofs.Stages.{idle_is}
use Rattle.history_lock.proofs.Joining.{merges, notes}
use Rattle.history_lock.proofs.lock.HistoryLock.join.Goals as goal

pub join_seat-requires : goal.join_seat-requires
join_seat-requires g c =
    let seat : view_of c.pass.inside.badge.views ≡ c.into_seat-place.result.me.0 = ap view_of (ap (λ b. b.views) (sym c.replace.ensures.value) ∙ c.into_seat-place.ensures.2) in
    let idle = ap (λ v. v.stage) (sym seat) ∙ idle_is _ c.pass.invariant.idle in
    let zeroth = ap (λ v. v.number) (sym seat) ∙ (ap (λ h. h.number) c.pass.view_is ∙ c.requires.first) in
    let other : view_of c.other.inside.badge.views ≡ c.into_seat.result.me.0 = ap view_of c.into_seat.ensures.2 in
    let other_idle = ap (λ v. v.stage) (sym other) ∙ idle_is _ c.other.invariant.idle in
    let at : c.into_seat-place.result.table_id ≡ c.self.inside.table.shared.table_id = c.into_seat-place.ensures.0 ∙ (ap (λ b. b.table_id) c.replace.ensures.value ∙ (ap (λ h. h.table) c.pass.view_is ∙ (c.requires.own.0 ∙ sym (ap (λ l. l.table) c.self.view_is)))) in
    let other_at : c.into_seat.result.table_id ≡ c.self.inside.table.shared.table_id = c.into_seat.ensures.0 ∙ (ap (λ h. h.table) c.other.view_is ∙ (c.requires.other_own.0 ∙ sym (ap (λ l. l.table) c.self.view_is))) in
    (at, other_at, c.into_seat.ensures.3, omega (arith, c.self.invariant.0), merges g.M.Machine.past g.M.Machine.frame _ _ _ _ _ idle zeroth other_idle)

pub load-requires : goal.load-requires
load-requires g c =
    let seat : view_of c.pass.inside.badge.views ≡ c.into_seat-place.result.me.0 = ap view_of (ap (λ b. b.views) (sym c.replace.ensures.value) ∙ c.into_seat-place.ensures.2) in
    let idle = ap (λ v. v.stage) (sym seat) ∙ idle_is _ c.pass.invariant.idle in
    let at : c.into_seat-place.result.table_id ≡ c.self.inside.table.shared.table_id = c.into_seat-place.ensures.0 ∙ (ap (λ b. b.table_id) c.replace.ensures.value ∙ (ap (λ h. h.table) c.pass.view_is ∙ (c.requires.own.0 ∙ sym (ap (λ l. l.table) c.self.view_is)))) in
    (c.join_seat.ensures.0 ∙ at, omega (arith, c.self.invariant.0), notes g.M.Machine.past g.M.Machine.frame _ _ _ _ (ap (λ m. m.0.stage) c.join_seat.ensures.2 ∙ idle))
