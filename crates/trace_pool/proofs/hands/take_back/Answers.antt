use Rattle.std.proofs.Common.{rules, arith, ◌≡◌, ◌<◌, ◌++◌, ◌∷◌, ◌∙◌, length, subst}
use Rattle.std.specs.Prelude.{vec_capacity}
use Rattle.worker_gate.specs.declared.pool.Hand.TheVariants.{Feed, Work, Watch}
use Rattle.trace_pool.specs.Tokens.{submitters_in, workers_in, readers_in, statuses_in}
use Rattle.trace_pool.proofs.HandLists.{split_first, room_for, laid_behind}
use Rattle.trace_pool.proofs.hands.take_back.Goals as goal

pub push_reserved-requires : goal.push_reserved-requires
push_reserved-requires c =
    let some : 0 < length c.loop-hands.hands.items = search rules in
    let whole : c.loop-hands.hands.items ≡ Feed c.in-Feed.who c.in-Feed.rows c.in-Feed.total c.in-Feed.stopped ∷ c.remove.new.self.items = split_first c.loop-hands.hands.items (Feed c.in-Feed.who c.in-Feed.rows c.in-Feed.total c.in-Feed.stopped) c.remove.new.self.items some c.in-Feed.ensures.value c.in-Feed.ensures.by_index.2 in
    let short : length c.loop-hands.tokens.submitters.items < vec_capacity c.loop-hands.tokens.submitters = room_for c.loop-hands.tokens.submitters.items (submitters_in c.remove.new.self.items) (submitters_in c.args.hands.now.items) c.in-Feed.who (vec_capacity c.loop-hands.tokens.submitters) (vec_capacity c.args.tokens.now.submitters)
    (subst (λ hs. c.loop-hands.tokens.submitters.items ++ submitters_in hs ≡ submitters_in c.args.hands.now.items) whole c.loop-hands.invariant.submitters) c.requires.submitters_fit c.loop-hands.invariant.first_room in
    omega (arith, short, c.loop-hands.tokens.submitters.ok.0)

pub loop-hands-preserved-in-Feed : goal.loop-hands-preserved-in-Feed
loop-hands-preserved-in-Feed c =
    let some : 0 < length c.loop-hands.hands.items = search rules in
    let whole : c.loop-hands.hands.items ≡ Feed c.in-Feed.who c.in-Feed.rows c.in-Feed.total c.in-Feed.stopped ∷ c.remove.new.self.items = split_first c.loop-hands.hands.items (Feed c.in-Feed.who c.in-Feed.rows c.in-Feed.total c.in-Feed.stopped) c.remove.new.self.items some c.in-Feed.ensures.value c.in-Feed.ensures.by_index.2 in
    let was = c.loop-hands.invariant in record {
      submitters = laid_behind c.loop-hands.tokens.submitters.items (submitters_in c.remove.new.self.items) c.push_reserved.new.self.items (submitters_in c.args.hands.now.items) c.in-Feed.who c.push_reserved.ensures.items (subst (λ hs. c.loop-hands.tokens.submitters.items ++ submitters_in hs ≡ submitters_in c.args.hands.now.items) whole c.loop-hands.invariant.submitters);
      workers = subst (λ hs. c.loop-hands.tokens.workers.items ++ workers_in hs ≡ workers_in c.args.hands.now.items) whole c.loop-hands.invariant.workers;
      readers = subst (λ hs. c.loop-hands.tokens.readers.items ++ readers_in hs ≡ readers_in c.args.hands.now.items) whole c.loop-hands.invariant.readers;
      statuses = subst (λ hs. statuses_in c.loop-hands.tokens.statuses.items hs ≡ statuses_in c.args.tokens.now.statuses.items c.args.hands.now.items) whole was.statuses;
      first_room = c.push_reserved.ensures.capacity ∙ was.first_room;
      second_room = was.second_room;
      third_room = was.third_room;
    }

pub push_reserved-requires-in-Work : goal.push_reserved-requires-in-Work
push_reserved-requires-in-Work c =
    let some : 0 < length c.loop-hands.hands.items = search rules in
    let whole : c.loop-hands.hands.items ≡ Work c.in-Work.worker c.in-Work._log ∷ c.remove.new.self.items = split_first c.loop-hands.hands.items (Work c.in-Work.worker c.in-Work._log) c.remove.new.self.items some c.in-Work.ensures.value c.in-Work.ensures.by_index.2 in
    let short : length c.loop-hands.tokens.workers.items < vec_capacity c.loop-hands.tokens.workers = room_for c.loop-hands.tokens.workers.items (workers_in c.remove.new.self.items) (workers_in c.args.hands.now.items) c.in-Work.worker (vec_capacity c.loop-hands.tokens.workers) (vec_capacity c.args.tokens.now.workers)
    (subst (λ hs. c.loop-hands.tokens.workers.items ++ workers_in hs ≡ workers_in c.args.hands.now.items) whole c.loop-hands.invariant.workers) c.requires.workers_fit c.loop-hands.invariant.second_room in
    omega (arith, short, c.loop-hands.tokens.workers.ok.0)

pub loop-hands-preserved-in-Work : goal.loop-hands-preserved-in-Work
loop-hands-preserved-in-Work c =
    let some : 0 < length c.loop-hands.hands.items = search rules in
    let whole : c.loop-hands.hands.items ≡ Work c.in-Work.worker c.in-Work._log ∷ c.remove.new.self.items = split_first c.loop-hands.hands.items (Work c.in-Work.worker c.in-Work._log) c.remove.new.self.items some c.in-Work.ensures.value c.in-Work.ensures.by_index.2 in
    let was = c.loop-hands.invariant in record {
      submitters = subst (λ hs. c.loop-hands.tokens.submitters.items ++ submitters_in hs ≡ submitters_in c.args.hands.now.items) whole c.loop-hands.invariant.submitters;
      workers = laid_behind c.loop-hands.tokens.workers.items (workers_in c.remove.new.self.items) c.push_reserved-in-Work.new.self.items (workers_in c.args.hands.now.items) c.in-Work.worker c.push_reserved-in-Work.ensures.items (subst (λ hs. c.loop-hands.tokens.workers.items ++ workers_in hs ≡ workers_in c.args.hands.now.items) whole c.loop-hands.invariant.workers);
      readers = subst (λ hs. c.loop-hands.tokens.readers.items ++ readers_in hs ≡ readers_in c.args.hands.now.items) whole c.loop-hands.invariant.readers;
      statuses = subst (λ hs. statuses_in c.loop-hands.tokens.statuses.items hs ≡ statuses_in c.args.tokens.now.statuses.items c.args.hands.now.items) whole was.statuses;
      first_room = was.first_room;
      second_room = c.push_reserved-in-Work.ensures.capacity ∙ was.second_room;
      third_room = was.third_room;
    }

pub push_reserved-requires-in-Watch : goal.push_reserved-requires-in-Watch
push_reserved-requires-in-Watch c =
    let some : 0 < length c.loop-hands.hands.items = search rules in
    let whole : c.loop-hands.hands.items ≡ Watch c.in-Watch.reader c.in-Watch.left c.in-Watch.expected c.in-Watch.seen ∷ c.remove.new.self.items = split_first c.loop-hands.hands.items (Watch c.in-Watch.reader c.in-Watch.left c.in-Watch.expected c.in-Watch.seen) c.remove.new.self.items some c.in-Watch.ensures.value c.in-Watch.ensures.by_index.2 in
    let short : length c.loop-hands.tokens.readers.items < vec_capacity c.loop-hands.tokens.readers = room_for c.loop-hands.tokens.readers.items (readers_in c.remove.new.self.items) (readers_in c.args.hands.now.items) c.in-Watch.reader (vec_capacity c.loop-hands.tokens.readers) (vec_capacity c.args.tokens.now.readers)
    (subst (λ hs. c.loop-hands.tokens.readers.items ++ readers_in hs ≡ readers_in c.args.hands.now.items) whole c.loop-hands.invariant.readers) c.requires.readers_fit c.loop-hands.invariant.third_room in
    omega (arith, short, c.loop-hands.tokens.readers.ok.0)

pub loop-hands-preserved : goal.loop-hands-preserved
loop-hands-preserved c =
    let some : 0 < length c.loop-hands.hands.items = search rules in
    let whole : c.loop-hands.hands.items ≡ Watch c.in-Watch.reader c.in-Watch.left c.in-Watch.expected c.in-Watch.seen ∷ c.remove.new.self.items = split_first c.loop-hands.hands.items (Watch c.in-Watch.reader c.in-Watch.left c.in-Watch.expected c.in-Watch.seen) c.remove.new.self.items some c.in-Watch.ensures.value c.in-Watch.ensures.by_index.2 in
    let was = c.loop-hands.invariant in record {
      submitters = subst (λ hs. c.loop-hands.tokens.submitters.items ++ submitters_in hs ≡ submitters_in c.args.hands.now.items) whole c.loop-hands.invariant.submitters;
      workers = subst (λ hs. c.loop-hands.tokens.workers.items ++ workers_in hs ≡ workers_in c.args.hands.now.items) whole c.loop-hands.invariant.workers;
      readers = laid_behind c.loop-hands.tokens.readers.items (readers_in c.remove.new.self.items) c.push_reserved-in-Watch.new.self.items (readers_in c.args.hands.now.items) c.in-Watch.reader c.push_reserved-in-Watch.ensures.items (subst (λ hs. c.loop-hands.tokens.readers.items ++ readers_in hs ≡ readers_in c.args.hands.now.items) whole c.loop-hands.invariant.readers);
      statuses = subst (λ hs. statuses_in c.loop-hands.tokens.statuses.items hs ≡ statuses_in c.args.tokens.now.statuses.items c.args.hands.now.items) whole was.statuses;
      first_room = was.first_room;
      second_room = was.second_room;
      third_room = c.push_reserved-in-Watch.ensures.capacity ∙ was.third_room;
    }
