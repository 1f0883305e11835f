use Rattle.std.proofs.Common.{rules, suc, arith, ◌≡◌, ◌<◌, ◌∙◌, ap, subst, length, List, ◌∷◌, ◌++◌, refl, length-append}
use Rattle.trace_pool.specs.Hands.{TraceHand}
use Rattle.desk.specs.Opening.{AreWorkers}
use Rattle.trace_pool.specs.Parts.{IsWorkOf}
use Rattle.trace_pool.specs.Places.{HoldsFrom}
use Rattle.trace_pool.proofs.HandLists.{split_first, works_more}
use Rattle.trace_pool.proofs.hands.give_work.Goals as goal

pub loop-hands-preserved : goal.loop-hands-preserved
loop-hands-preserved g c =
    let lock = c.args.desk.now.lock in let rows = c.args.rows.now in let was = c.loop-hands.invariant in
    let some : 0 < length c.loop-hands.workers.items = search rules in
    let firsts = split_first c.loop-hands.workers.items c.remove.result c.remove.new.self.items some c.remove.ensures.value c.remove.ensures.by_index.2 in
    let works : (given : List TraceHand) × (c.loop-hands.hands.items ≡ c.args.hands.now.items ++ given) × HoldsFrom (IsWorkOf rows lock) 0 given × AreWorkers lock (length given) (c.remove.result ∷ c.remove.new.self.items) =
    subst (λ l. (given : List TraceHand) × (c.loop-hands.hands.items ≡ c.args.hands.now.items ++ given) × HoldsFrom (IsWorkOf rows lock) 0 given × AreWorkers lock (length given) l) firsts was.works in
    let one : length c.loop-hands.workers.items ≡ suc (length c.remove.new.self.items) = ap length firsts in record {
      works = works_more lock rows c.loop-hands.hands.items c.push_reserved.new.self.items c.args.hands.now.items c.remove.result c.remove.new.self.items _ _ c.requires.rows works c.push_reserved.ensures.items refl;
      all = omega (arith, c.push_reserved.ensures.len, one, was.all);
      room = c.push_reserved.ensures.capacity ∙ was.room;
      kept = omega (arith, c.remove.ensures.capacity, was.kept);
      gate = c.log.ensures.same ∙ was.gate;
    }

pub returns-clause-hands : goal.returns-clause-hands
returns-clause-hands g c =
    let was = c.loop-hands.invariant in let given = was.works in
    let none : length c.loop-hands.workers.items ≡ 0 = search rules in
    let both : length c.loop-hands.hands.items ≡ length (c.args.hands.now.items ++ given.0) = ap length given.1 in record {
      first = c.args.hands.now.items;
      second = given.0;
      both = given.1;
      are_feeds = c.requires.feeds;
      are_works = given.2;
      feed_count = refl;
      work_count = omega (arith, both, length-append c.args.hands.now.items given.0, was.all, none);
    }
