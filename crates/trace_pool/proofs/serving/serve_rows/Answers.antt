use Rattle.std.proofs.Common.{◌≡◌, ◌<◌, ◌∙◌, ◌++◌, ◌∷◌, [], ap, sym, subst, arith, All, List, Option, length, take, drop, option_map}
use Rattle.std.specs.Arc.{arc_value}
use Rattle.trace_pool.specs.declared.gate.TraceGate.{TraceGate}
use Rattle.trace_pool.specs.Hands.{TraceHand}
use Rattle.worker_gate.specs.Hands.{IsHandOf}
use Rattle.trace_pool.proofs.Done.{WatchedLast, hands_with, back_done, watched_last}
use Rattle.trace_pool.proofs.Tokens.{have_places, back_done_so, back_watched}
use Rattle.trace_pool.proofs.serving.serve_rows.Given as given
use Rattle.trace_pool.proofs.serving.serve_rows.Goals as goal
use Rattle.trace_pool.proofs.serving.serve_rows.Goals.{After-pool}

pub pool-requires-after_bounds : goal.pool-requires-after_bounds
pool-requires-after_bounds g c κs within =
    let shared = option_map arc_value c.args.desk.now.board in
    let all : All (IsHandOf c.args.desk.now.lock shared) (c.hand_out.new.hands.items ++ c.args.team.watcher ∷ []) =
    hands_with c.args.rows.now c.args.desk.now.lock shared _ _ c.hand_out.new.hands.items c.args.team.watcher c.hand_out.ensures.hands c.requires.team.watcher in
    subst (λ (l : List TraceHand). All (IsHandOf c.args.desk.now.lock shared) l) (sym (c.as_mut_slice.ensures.value ∙ c.push_reserved.ensures.items)) all

-- the hands after the pool
last : (g : given.Over) (c : After-pool g) → WatchedLast c.args.rows.now c.args.desk.now.lock (option_map arc_value c.args.desk.now.board) c.args.refresh (g.K.Clock.tells c.args.clock.now) (length c.args.team.tokens.submitters.items) (length c.args.team.tokens.workers.items) c.args.team.watcher
    (take c.push_reserved.new.self.len (c.pool.new.hands ++ drop (length c.pool.new.hands) c.push_reserved.new.self.items))
last g c =
    let rows = c.args.rows.now in let lock = c.args.desk.now.lock in let shared = option_map arc_value c.args.desk.now.board in let Tells = g.K.Clock.tells c.args.clock.now in
    let kept : c.hand_out.new.gate ≡ c.new.result = c.hand_out.ensures.gate ∙ c.new-gate.ensures in
    watched_last rows lock shared c.args.refresh Tells _ _ c.args.team.watcher _ c.requires.team.watcher
    (back_done rows lock shared c.args.refresh Tells _ _ c.push_reserved.new.self.len c.hand_out.new.hands.items c.args.team.watcher c.push_reserved.new.self.items c.as_mut_slice.result.now c.pool.new.hands
    c.hand_out.new.gate.refresh c.hand_out.new.gate.rows.now c.hand_out.ensures.hands c.push_reserved.ensures.items c.as_mut_slice.ensures.value c.as_mut_slice.ensures.len
    (ap (λ (t : TraceGate). t.refresh) kept ∙ c.new.ensures.refresh) (ap (λ (t : TraceGate). t.rows.now) kept ∙ c.new.ensures.rows) c.pool.ensures)

pub take_back-requires : goal.take_back-requires
take_back-requires g c =
    have_places c.args.rows.now c.args.desk.now.lock c.args.refresh (g.K.Clock.tells c.args.clock.now) (option_map arc_value c.args.desk.now.board) _ (last g (goal.at.take_back-requires g c).After-pool) _
    c.hand_out.ensures.submitters.0 c.hand_out.ensures.submitters.1 c.hand_out.ensures.workers.0 c.hand_out.ensures.workers.1 c.requires.team.no_readers c.requires.team.readers_fit

pub returns-clause-done : goal.returns-clause-done
returns-clause-done g c =
    back_done_so c.args.rows.now c.args.desk.now.lock c.args.refresh (g.K.Clock.tells c.args.clock.now) (option_map arc_value c.args.desk.now.board) _ (last g (goal.at.returns-clause-done g c).After-pool) _ _
    c.take_back.ensures.tokens c.requires.team.tokens.submitter_count c.requires.team.tokens.worker_count

pub returns-clause-watched : goal.returns-clause-watched
returns-clause-watched g c =
    back_watched c.args.rows.now c.args.desk.now.lock c.args.refresh (g.K.Clock.tells c.args.clock.now) (option_map arc_value c.args.desk.now.board) _ (last g (goal.at.returns-clause-watched g c).After-pool) _ _ c.take_back.ensures.tokens
