use Rattle.std.proofs.Common.{◌≡◌, Some, None, cond, is_some, refl, rules, set}
use Rattle.winner_tree.proofs.Steps.{agrees_but, way_begins, way_stands, way_ends, way_goes_on, name_has_key, beside_has_key, names_differ}
use Rattle.winner_tree.proofs.replay.set_leaf.Goals as goal

pub way-init : goal.way-init
way-init c =
    let name : c.map-winner.result ≡ cond (is_some c.args.key) (Some c.args.leaf) None = search rules in
    rw name (way_begins c.args.keys.now (set c.args.keys.now c.args.leaf c.args.key) c.args.winners.now c.args.leaf c.args.key c.requires.kept c.requires.known refl)

pub returns-then-node-eq1-clause-keeps : goal.returns-then-node-eq1-clause-keeps
returns-then-node-eq1-clause-keeps c =
    way_ends c.args.keys.now (set c.args.keys.now c.args.leaf c.args.key) c.way.winners c.args.leaf c.way.node c.way.winner c.way.invariant c.if-node-eq1.true

pub lesser-winner-requires-clause-has_key : goal.lesser-winner-requires-clause-has_key
lesser-winner-requires-clause-has_key c =
    name_has_key c.args.keys.now (set c.args.keys.now c.args.leaf c.args.key) c.way.winners c.args.leaf c.way.node c.way.winner c.way.invariant c.if-node-eq1.false c.neighbour.result c.neighbour.ensures

pub lesser-winner-requires-clause-other_has_key : goal.lesser-winner-requires-clause-other_has_key
lesser-winner-requires-clause-other_has_key c =
    beside_has_key c.args.keys.now (set c.args.keys.now c.args.leaf c.args.key) c.way.winners c.args.leaf c.way.node c.way.winner c.way.invariant c.if-node-eq1.false c.neighbour.result c.neighbour.ensures

pub lesser-winner-requires-clause-apart : goal.lesser-winner-requires-clause-apart
lesser-winner-requires-clause-apart c =
    names_differ c.args.keys.now (set c.args.keys.now c.args.leaf c.args.key) c.way.winners c.args.leaf c.way.node c.way.winner c.way.invariant c.if-node-eq1.false c.neighbour.result c.neighbour.ensures

pub way-preserved : goal.way-preserved
way-preserved c =
    way_goes_on c.args.keys.now (set c.args.keys.now c.args.leaf c.args.key) c.way.winners c.args.leaf c.way.node c.way.winner c.way.invariant c.if-node-eq1.false c.neighbour.result c.neighbour.ensures c.lesser-winner.result c.lesser-winner.ensures

pub returns-clause-keeps : goal.returns-clause-keeps
returns-clause-keeps c =
    way_stands c.args.keys.now (set c.args.keys.now c.args.leaf c.args.key) c.way.winners c.args.leaf c.way.node c.way.winner (agrees_but c.args.keys.now (set c.args.keys.now c.args.leaf c.args.key) c.args.leaf c.args.key refl) c.way.invariant (c.way-test.ensures.0 refl).0 (c.way-test.ensures.0 refl).1
