use Rattle.std.proofs.Common.{◌≡◌, ◌∙◌, ap, subst, sym, arith, length, option_map}
use Rattle.std.specs.Arc.{arc_value}
use Rattle.fq_model.specs.History.{history_of}
use Rattle.fq_model.specs.Rules.{IsLegal}
use Rattle.program_model.specs.Courses.{submitters}
use Rattle.program_model.specs.PoolHistory.{IsPoolHistory, HasToldMoments, pool_config}
use Rattle.program_model.specs.Readings.{AreReadings}
use Rattle.desk.specs.Opening.{AreTokens}
use Rattle.trace_pool.specs.Parts.{AreRowsOf, IsCrewOf, HaveDone}
use Rattle.trace_pool.specs.Places.{HoldsFrom}
use Rattle.trace_pool.proofs.Tokens.{are_of, are_all}
use Rattle.trace_pool.proofs.Ending.{crew_is, crew_some, of_ok, served_so}
use Rattle.trace_pool.proofs.Readings.{watch_read, watch_readers}
use Rattle.trace_pool.proofs.serving.serve_at_desk.Given as given
use Rattle.trace_pool.proofs.serving.serve_at_desk.Goals as goal
use Rattle.trace_pool.proofs.serving.serve_at_desk.Goals.{After-serve_rows-tokens}

pub serve_rows-tokens-requires-clause-team : goal.serve_rows-tokens-requires-clause-team
serve_rows-tokens-requires-clause-team g c κs within =
    let T = c.args.order.trace.now in let lock = c.in-Ok.desk.lock in let shown = c.in-Ok.ensures.tokens in let tokens = shown.tokens in
    let supplies = c.requires.supplies in let room = supplies.room in
    let crew = crew_is T c.rows-rows.result.now lock tokens.frame c.submitters.ensures.count c.rows-rows.ensures in record {
      crew = subst (λ rows. IsCrewOf rows lock) (sym c.rows-rows.ensures) crew;
      tokens = subst (λ f. AreTokens f lock c.in-Ok.submitters.items c.in-Ok.workers.items) (sym tokens.frame) tokens;
      no_readers = room.readers_are;
      readers_fit = room.readers_fit;
      queues_are = subst (λ rows. HoldsFrom (λ j q. AreRowsOf rows j q.items) 0 c.args.supplies.queues.items) (sym c.rows-rows.ensures) supplies.queues_are;
      queue_count = supplies.queue_count ∙ sym (tokens.submitter_count ∙ (c.submitters.ensures.count ∙ ap submitters c.rows-rows.ensures));
      watcher = (shown.board, shown.shared_is, shown.reader_own, omega (arith, ap length room.statuses_are, room.statuses_fit));
      no_hands = room.hands_are;
      hands_fit = omega (arith, tokens.submitter_count, tokens.worker_count, c.submitters.ensures.count, ap submitters c.rows-rows.ensures, ap (λ C. C.workers) supplies.config_is, room.hands_fit);
    }

crew_of_rows : (g : given.Over) (c : After-serve_rows-tokens g) → IsCrewOf c.args.order.trace.now.rows c.in-Ok.desk.lock
crew_of_rows g c = crew_is c.args.order.trace.now c.rows-rows.result.now c.in-Ok.desk.lock c.in-Ok.ensures.tokens.tokens.frame c.submitters.ensures.count c.rows-rows.ensures

all_done : (g : given.Over) (c : After-serve_rows-tokens g) → HaveDone c.args.order.trace.now.rows c.in-Ok.desk.lock c.args.order.options.refresh (g.K.Clock.tells c.args.clock.now) c.serve_rows-tokens.result.submitters.items c.serve_rows-tokens.result.workers.items
all_done g c = subst (λ rows. HaveDone rows c.in-Ok.desk.lock c.args.order.options.refresh (g.K.Clock.tells c.args.clock.now) c.serve_rows-tokens.result.submitters.items c.serve_rows-tokens.result.workers.items) c.rows-rows.ensures c.serve_rows-tokens.ensures.done

pub finish_shown-requires-clause-tokens : goal.finish_shown-requires-clause-tokens
finish_shown-requires-clause-tokens g c =
    let a = (goal.at.finish_shown-requires-clause-tokens g c).After-serve_rows-tokens in
    let T = c.args.order.trace.now in let lock = c.in-Ok.desk.lock in
    are_of T.rows lock c.args.order.options.refresh (g.K.Clock.tells c.args.clock.now) _ _ (all_done g a) (crew_some T lock (crew_of_rows g a))

pub finish_shown-requires-clause-readers : goal.finish_shown-requires-clause-readers
finish_shown-requires-clause-readers g c =
    let shown = c.in-Ok.ensures.tokens in
    watch_readers (option_map arc_value c.in-Ok.desk.board) _ shown.board c.in-Ok.reader _ c.args.supplies.room.statuses c.serve_rows-tokens.result c.serve_rows-tokens.ensures.watched shown.shared_is (ap (λ f. f.board) shown.tokens.frame)

pub unwrap-scheduler-requires : goal.unwrap-scheduler-requires
unwrap-scheduler-requires g c =
    let a = (goal.at.unwrap-scheduler-requires g c).After-serve_rows-tokens in
    let T = c.args.order.trace.now in let lock = c.in-Ok.desk.lock in let crew = crew_of_rows g a in
    c.finish_shown.ensures.settled (are_all T.rows lock c.args.order.options.refresh (g.K.Clock.tells c.args.clock.now) _ _ (all_done g a) (crew_some T lock crew) crew)

pub returns-clause-history : goal.returns-clause-history
returns-clause-history g c =
    let a = (goal.at.returns-clause-history g c).After-serve_rows-tokens in
    let T = c.args.order.trace.now in let O = c.args.order.options in let lock = c.in-Ok.desk.lock in let Tells = g.K.Clock.tells c.args.clock.now in
    let crew = crew_of_rows g a in let s = c.unwrap-scheduler in let ended = c.finish_shown.ensures in let order = c.requires.order in
    let opened : lock.frame.config ≡ pool_config T O = ap (λ f. f.config) c.in-Ok.ensures.tokens.tokens.frame ∙ c.requires.supplies.config_is in
    subst (λ past. IsPoolHistory T O (history_of past) × HasToldMoments Tells (history_of past)) (sym c.into_history.ensures.past)
    (served_so T O lock Tells s.result.past c.serve_rows-tokens.result.submitters.items c.serve_rows-tokens.result.workers.items (all_done g a) (of_ok _ _ _ s.ensures ended.tokens) opened crew (crew_some T lock crew)
    (subst (λ C. IsLegal C (history_of s.result.past)) opened (of_ok _ _ _ s.ensures ended.given_back).legal) (of_ok _ _ _ s.ensures ended.above) order.lawful order.options order.few)

pub returns-clause-statuses : goal.returns-clause-statuses
returns-clause-statuses g c =
    let C = pool_config c.args.order.trace.now c.args.order.options in let shown = c.in-Ok.ensures.tokens in let tokens = c.serve_rows-tokens.result in let s = c.unwrap-scheduler in
    subst (λ past. (length tokens.statuses.items ≡ c.args.order.times) × AreReadings C past 0 tokens.statuses.items) (sym c.into_history.ensures.past)
    (watch_read (option_map arc_value c.in-Ok.desk.board) shown.board c.in-Ok.reader c.args.order.times c.args.supplies.room.statuses tokens C s.result.past
    c.serve_rows-tokens.ensures.watched shown.shared_is (shown.config_is ∙ c.requires.supplies.config_is) c.requires.supplies.room.statuses_are shown.reader_seen (of_ok _ _ _ s.ensures c.finish_shown.ensures.seen))
