use Rattle.std.proofs.Common.{◌<◌, sym, subst}
use Rattle.eligible_index.proofs.Moves.{count_keys, fewer_keys, moved_next, moved_last, none_due_after, none_due_empty, late_at}
use Rattle.eligible_index.proofs.trees.move_over.Goals as goal

pub returns-then-not-is_due-clause-moved : goal.returns-then-not-is_due-clause-moved
returns-then-not-is_due-clause-moved c = moved_last c.args.at c.args.later.now c.args.eligible.now c.over.later c.over.eligible c.requires (none_due_after _ c.over.later c.in-Some.tenant c.in-Some.key c.in-Some.ensures (late_at _ c.in-Some.key.a c.is_due.result c.is_due.ensures c.if-not-is_due.true)) c.over.invariant

pub over-smaller : goal.over-smaller
over-smaller c = subst (λ m. count_keys m < count_keys c.over.later) (sym c.set.ensures) (fewer_keys c.over.later c.in-Some.tenant c.in-Some.key c.in-Some.ensures.found)

pub over-preserved : goal.over-preserved
over-preserved c = rw (c.set.ensures, c.set-in-Some.ensures, c.by_finish.ensures) (moved_next c.args.at c.args.later.now c.args.eligible.now c.over.later c.over.eligible c.in-Some.tenant c.in-Some.key c.requires c.in-Some.ensures.found (c.is_due.ensures.0 c.if-not-is_due.false) c.over.invariant)

pub returns-clause-moved : goal.returns-clause-moved
returns-clause-moved c = moved_last c.args.at c.args.later.now c.args.eligible.now c.over.later c.over.eligible c.requires (none_due_empty _ c.over.later c.in_default.ensures) c.over.invariant
