use Rattle.std.proofs.Common.{◌≡◌, ◌<◌, Some, None, length, rules}
use Rattle.winner_tree.specs.Winners.{name_at}
use Rattle.winner_tree.specs.Order.{HasKey}
use Rattle.winner_tree.proofs.Least.{root_none, root_within, root_first, root_read, key_read}
use Rattle.winner_tree.proofs.tree.Tree.first.Goals as goal

pub returns-in_err-leaf : goal.returns-in_err-leaf
returns-in_err-leaf c =
    let t = c.self.inside in
    let name : name_at t.winners.items 1 ≡ None = root_read t.keys.items t.winners.items c.self.invariant c.index.result.now None c.index.ensures c.in_err-leaf.was in
    rw (c.from_residual.ensures, ← c.self.view_is) (root_none t.keys.items t.winners.items c.self.invariant name)

pub index-requires-2 : goal.index-requires-2
index-requires-2 c =
    let t = c.self.inside in
    let name : name_at t.winners.items 1 ≡ Some c.in_ok-leaf.leaf = root_read t.keys.items t.winners.items c.self.invariant c.index.result.now (Some c.in_ok-leaf.leaf) c.index.ensures c.in_ok-leaf.was in
    let within : c.in_ok-leaf.leaf < length t.keys.items = root_within t.keys.items t.winners.items c.self.invariant c.in_ok-leaf.leaf name in
    search rules

pub returns : goal.returns
returns c =
    let t = c.self.inside in
    let name : name_at t.winners.items 1 ≡ Some c.in_ok-leaf.leaf = root_read t.keys.items t.winners.items c.self.invariant c.index.result.now (Some c.in_ok-leaf.leaf) c.index.ensures c.in_ok-leaf.was in
    let within : c.in_ok-leaf.leaf < length t.keys.items = root_within t.keys.items t.winners.items c.self.invariant c.in_ok-leaf.leaf name in
    let has : HasKey t.keys.items c.in_ok-leaf.leaf c.in_ok-key.key = key_read t.keys.items c.in_ok-leaf.leaf c.index-2.result.now (Some c.in_ok-key.key) within c.index-2.ensures c.in_ok-key.was in
    rw (← c.self.view_is) (root_first t.keys.items t.winners.items c.self.invariant c.in_ok-leaf.leaf c.in_ok-key.key name has)
