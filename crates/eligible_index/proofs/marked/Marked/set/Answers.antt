use Rattle.std.proofs.Common.{ℕ, ◌<◌, ◌≡◌, List, Option, length, sym, subst, set}
use Rattle.winner_tree.specs.declared.key.Key.{Key}
use Rattle.eligible_index.proofs.Marks.{marks_set, nothing_set}
use Rattle.eligible_index.proofs.marked.Marked.set.Goals as goal

pub invariant_of-self : goal.invariant_of-self
invariant_of-self c = marks_set c.self.inside.marks.items _ c.set.new.self c.args.leaf c.args.key c.is_some-then-index.result c.self.invariant c.is_some-then-index.ensures c.set.ensures

within : (map seen : List (Option Key)) (leaf : ℕ) → map ≡ seen → leaf < length seen → leaf < length map
within map seen leaf e lt = subst (λ (m : List (Option Key)). leaf < length m) (sym e) lt

pub returns-else-is_some : goal.returns-else-is_some
returns-else-is_some c = subst (λ (m : List (Option Key)). m ≡ set m c.args.leaf c.args.key) c.self.view_is (nothing_set c.self.inside.marks.items c.self.inside.tree c.args.leaf c.args.key c.index.result.now c.is_some.result c.self.invariant (within _ _ c.args.leaf c.self.view_is c.requires) c.index.ensures c.if-index.false c.is_some.ensures c.if-is_some.false)
