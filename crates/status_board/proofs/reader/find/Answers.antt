use Rattle.std.proofs.Common.{rules, ap, ◌∙◌, arith}
use Rattle.status_board.proofs.Lists.{gathered}
use Rattle.status_board.proofs.Reading.{peeks, then_peeked}
use Rattle.status_board.proofs.reader.find.Goals as goal

pub load-moment-requires : goal.load-moment-requires
load-moment-requires c = (search rules, search rules, peeks _ _ _ 1 _ c.requires.reading c.requires.config (omega arith) (omega arith))

pub load-low-requires : goal.load-low-requires
load-low-requires c = let a = c.load-moment.ensures.2 in
    (search rules, search rules, peeks _ _ _ 2 _ (ap (λ m. m.0.stage) a.1 ∙ c.requires.reading) (ap (λ m. m.0.config) a.1 ∙ c.requires.config) (omega arith) (omega arith))

pub load-high-requires : goal.load-high-requires
load-high-requires c = let a = c.load-moment.ensures.2 in let b = then_peeked c.args.table.now.shared.table_id.slots 2 c.args.place.now.me _ _ _ _ a.1 c.load-low.ensures.2 in
    (search rules, search rules, peeks _ _ _ 3 _ (ap (λ m. m.0.stage) b.1 ∙ c.requires.reading) (ap (λ m. m.0.config) b.1 ∙ c.requires.config) (omega arith) (omega arith))

pub load-waiting-requires : goal.load-waiting-requires
load-waiting-requires c = let a = c.load-moment.ensures.2 in let b = then_peeked c.args.table.now.shared.table_id.slots 2 c.args.place.now.me _ _ _ _ a.1 c.load-low.ensures.2 in let d = then_peeked c.args.table.now.shared.table_id.slots 3 c.args.place.now.me _ _ _ _ b.1 c.load-high.ensures.2 in
    (search rules, search rules, peeks _ _ _ 4 _ (ap (λ m. m.0.stage) d.1 ∙ c.requires.reading) (ap (λ m. m.0.config) d.1 ∙ c.requires.config) (omega arith) (omega arith))

pub load-running-requires : goal.load-running-requires
load-running-requires c = let a = c.load-moment.ensures.2 in let b = then_peeked c.args.table.now.shared.table_id.slots 2 c.args.place.now.me _ _ _ _ a.1 c.load-low.ensures.2 in let d = then_peeked c.args.table.now.shared.table_id.slots 3 c.args.place.now.me _ _ _ _ b.1 c.load-high.ensures.2 in let e = then_peeked c.args.table.now.shared.table_id.slots 4 c.args.place.now.me _ _ _ _ d.1 c.load-waiting.ensures.2 in
    (search rules, search rules, peeks _ _ _ 5 _ (ap (λ m. m.0.stage) e.1 ∙ c.requires.reading) (ap (λ m. m.0.config) e.1 ∙ c.requires.config) (omega arith) (omega arith))

pub returns-clause-found : goal.returns-clause-found
returns-clause-found c =
    let a = c.load-moment.ensures.2 in let b = then_peeked c.args.table.now.shared.table_id.slots 2 c.args.place.now.me _ _ _ _ a.1 c.load-low.ensures.2 in let d = then_peeked c.args.table.now.shared.table_id.slots 3 c.args.place.now.me _ _ _ _ b.1 c.load-high.ensures.2 in
    let e = then_peeked c.args.table.now.shared.table_id.slots 4 c.args.place.now.me _ _ _ _ d.1 c.load-waiting.ensures.2 in let f = then_peeked c.args.table.now.shared.table_id.slots 5 c.args.place.now.me _ _ _ _ e.1 c.load-running.ensures.2 in
    let from = a.2 in let to_b = b.2 in let to_d = d.2 in let to_e = e.2 in let to_f = f.2 in (
      f.0,
      f.1,
      omega arith,
      λ le. gathered _ _ _ c.requires.config _ _ _ _ _ (a.3 (omega arith)) (b.3 (omega arith)) (d.3 (omega arith)) (e.3 (omega arith)) (f.3 le),
    )
