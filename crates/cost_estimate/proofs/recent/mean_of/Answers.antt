use Rattle.std.proofs.Common.{arith, ◌≡◌, ◌<◌, ◌≤◌, length, sym, ◌∙◌, refl}
use lib.ListN.{get_or}
use Rattle.std.proofs.lemmas.Option.{slice_get-get_or, get_or_from_slice_get, none-some}
use Rattle.std.proofs.lemmas.List.Sums.{sum_by_more}
use Rattle.cost_estimate.proofs.recent.mean_of.Goals as goal
use Rattle.cost_estimate.proofs.recent.mean_of.Goals.{in-Some, in_default}

pub loop-i-preserved : goal.loop-i-preserved
loop-i-preserved c =
    let items = c.args.ring.now.items in
    let b : c.loop-i.i < length items = omega arith in
    elim c.match-get.branch [
      | in-Some w ↦
          let at : get_or items c.loop-i.i 0 ≡ w.in-Some.cost.now = get_or_from_slice_get items c.loop-i.i w.in-Some.cost.now 0 (sym w.in-Some.ensures) in
          let low : w.in-Some.cost.now ≤ 1000000000 = rw (← at) (c.requires.costs c.loop-i.i 0 b) in
          record { total = rw (w.total-is, c.loop-i.invariant.total, sum_by_more (λ x. x) items c.loop-i.i 0 b, at) refl; bound = omega arith }
      | in_default w ↦ absurd (none-some (get_or items c.loop-i.i 0) (w.in_default.ensures ∙ slice_get-get_or items c.loop-i.i 0 b))
    ]
