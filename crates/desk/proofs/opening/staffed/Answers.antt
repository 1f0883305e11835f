use Rattle.std.proofs.Common.{◌≤◌, ◌∙◌, arith, sym, ap, subst, vec_capacity}
use Rattle.desk.specs.declared.desk.TheConstants.{MOST_SUBMITTERS}
use Rattle.desk.specs.declared.floor.Crew.{Crew}
use Rattle.desk.specs.Opening.{IsSplit}
use Rattle.desk.proofs.opening.staffed.Goals as goal

pub locked-requires-clause-limits : goal.locked-requires-clause-limits
locked-requires-clause-limits g c = c.workers-staff.ensures.limits

pub split_submitters-requires-clause-zero : goal.split_submitters-requires-clause-zero
split_submitters-requires-clause-zero g c = c.in-Some.ensures.first

pub split_submitters-requires-clause-some : goal.split_submitters-requires-clause-some
split_submitters-requires-clause-some g c = subst (λ (crew : Crew). 1 ≤ crew.submitters) (sym c.in-Some.ensures.frame) c.requires.submitters.0

pub split_submitters-requires-clause-few : goal.split_submitters-requires-clause-few
split_submitters-requires-clause-few g c = subst (λ (crew : Crew). crew.submitters ≤ MOST_SUBMITTERS) (sym c.in-Some.ensures.frame) c.requires.submitters.1

pub split_submitters-requires-clause-room : goal.split_submitters-requires-clause-room
split_submitters-requires-clause-room g c =
    let room = c.in_ok-first.ensures.submitters in
    (room.0, subst (λ (crew : Crew). crew.submitters ≤ vec_capacity c.in_ok-first.first) (sym c.in-Some.ensures.frame) room.1)

pub split_submitters-requires-clause-submitters : goal.split_submitters-requires-clause-submitters
split_submitters-requires-clause-submitters g c = ap (λ (crew : Crew). crew.submitters) (sym c.in-Some.ensures.frame)

pub split_workers-requires-clause-zero : goal.split_workers-requires-clause-zero
split_workers-requires-clause-zero g c =
    let split = c.split_submitters.ensures in
    subst (λ n. IsSplit c.in-Some.lock n c.split_submitters.new.zero) (omega (arith, split.count, ap (λ (crew : Crew). crew.submitters) c.in-Some.ensures.frame)) split.zero

pub split_workers-requires-clause-some : goal.split_workers-requires-clause-some
split_workers-requires-clause-some g c = subst (λ (crew : Crew). (1 ≤ crew.submitters) × (crew.submitters ≤ MOST_SUBMITTERS)) (sym c.in-Some.ensures.frame) (c.requires.submitters.0, c.requires.submitters.1)

pub split_workers-requires-clause-workers : goal.split_workers-requires-clause-workers
split_workers-requires-clause-workers g c =
    let staff = c.workers-staff.ensures in
    (staff.value ∙ ap (λ (crew : Crew). crew.config.workers) (sym c.in-Some.ensures.frame), omega (arith, staff.value, staff.limits.workers.1))

pub split_workers-requires-clause-room : goal.split_workers-requires-clause-room
split_workers-requires-clause-room g c = c.in_ok-first.ensures.workers
