use Rattle.std.proofs.Common.{◌≡◌, ◌+◌, ◌≤◌, ◌∙◌, ap, arith, max, subst}
use Rattle.fq_model.specs.declared.limits.TheConstants.{LEAST_ENTRIES, MOST_ENTRIES}
use Rattle.program_model.specs.Courses.{trace_config, submitters}
use Rattle.program_model.specs.PoolHistory.{needed_pool_entries}
use Rattle.trace_pool.specs.Parts.{AreRowsOf}
use Rattle.trace_pool.specs.Places.{HoldsFrom}
use Rattle.trace_pool.specs.Serving.{HasRoom}
use Rattle.trace_pool.proofs.serving.serve.Goals as goal

pub serve_at_desk-requires-clause-order : goal.serve_at_desk-requires-clause-order
serve_at_desk-requires-clause-order g c κs within =
    let few : needed_pool_entries c.args.trace.now.rows c.args.options.refresh ≤ MOST_ENTRIES = omega (arith, c.needed-entries.ensures, c.if-entries.false) in
    record { lawful = c.requires.lawful; options = c.requires.options; few = few }

pub serve_at_desk-requires-clause-supplies : goal.serve_at_desk-requires-clause-supplies
serve_at_desk-requires-clause-supplies g c κs within =
    let T = c.args.trace.now in let O = c.args.options in
    let entries : c.max.result ≡ max LEAST_ENTRIES (needed_pool_entries T.rows O.refresh) = omega (arith, c.max.ensures, c.needed-entries.ensures) in
    let count : c.submitters-count.result ≡ submitters T.rows = c.submitters-count.ensures.count ∙ ap submitters c.rows-rows.ensures in record {
      config_is = c.in_ok-config.ensures ∙ ap (λ n. trace_config T O n) entries;
      queues_are = subst (λ rows. HoldsFrom (λ j q. AreRowsOf rows j q.items) 0 c.in_ok-queues.queues.items) c.rows-rows.ensures c.in_ok-queues.ensures.queues;
      queue_count = c.in_ok-queues.ensures.count ∙ count;
      room = subst (λ n. HasRoom (n + O.workers) c.args.times c.in_ok-room.room) count c.in_ok-room.ensures.room;
    }
