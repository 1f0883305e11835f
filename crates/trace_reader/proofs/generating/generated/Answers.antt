use Rattle.std.proofs.Common.{◌≡◌, ◌∙◌, length, ap, subst, arith}
use Rattle.program_model.specs.Generator.{after_draws, generated_requests, generated_trace}
use Rattle.trace_reader.proofs.Generated.{three_drawn, has_room, as_many_as_asked, request_more}
use Rattle.trace_reader.proofs.generating.generated.Goals as goal

pub loop-j-init : goal.loop-j-init
unfolding after_draws generated_requests
loop-j-init c = record {
  numbers = c.seed_from_u64-numbers.ensures;
  trace = rw c.new-draft.ensures c.in_ok-tenants.ensures;
}

pub add_request-requires : goal.add_request-requires
add_request-requires c =
    has_room c.args.seed c.args.tenants c.loop-j.j c.loop-j.draft c.loop-j.invariant.trace c.requires.tenants.0 c.requires.tenants.1 (omega arith)

pub loop-j-preserved : goal.loop-j-preserved
loop-j-preserved c =
    let many : length c.loop-j.draft.tenants ≡ c.args.tenants =
    ap (λ t. length t.tenants) c.loop-j.invariant.trace ∙ as_many_as_asked c.args.seed c.args.tenants c.loop-j.j c.requires.tenants.0 c.requires.tenants.1 (omega arith) in
    let drawn = three_drawn c.args.seed c.loop-j.j c.next_word-moment.result c.next_word-tenant.result c.next_word-cost.result _ _ _ _
    c.loop-j.invariant.numbers c.next_word-moment.ensures c.next_word-tenant.ensures c.next_word-cost.ensures in
    record {
      numbers = drawn.3;
      trace = request_more c.args.seed c.args.tenants c.loop-j.j c.loop-j.draft c.add_request.new.draft c.next_word-moment.result c.next_word-tenant.result c.next_word-cost.result
          c.loop-j.invariant.trace many drawn.0 drawn.1 drawn.2 c.in_ok-add_request.ensures;
    }

pub returns : goal.returns
unfolding generated_trace
returns c =
    let trace : c.loop-j.draft ≡ generated_requests c.args.seed c.args.tenants c.args.requests =
    subst (λ j. c.loop-j.draft ≡ generated_requests c.args.seed c.args.tenants j) (omega arith) c.loop-j.invariant.trace in
    rw (← trace) c.finish.ensures
