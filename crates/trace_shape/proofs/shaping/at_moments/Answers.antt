use Rattle.std.proofs.Common.{rules, ap, ◌∙◌, ◌≡◌}
use Rattle.std.specs.List.Sorted.{IsStableByKey}
use Rattle.std.specs.Ordering.{nat_cmp}
use Rattle.std.proofs.lemmas.List.Sorted.{IsNonDecreasingBy-from_sort_by_key, answers_always}
use Rattle.tenant_table.specs.Names.{names_of, weights_of}
use Rattle.program_model.specs.Shaped.{rows_at, by_moment}
use Rattle.trace_shape.proofs.Order.{moment_of, Rises, sorted_rows, trace_of_parts}
use Rattle.trace_shape.proofs.shaping.at_moments.Goals as goal

pub returns : goal.returns
returns c =
    let rises : Rises c.sort_by_key.new.self.items = IsNonDecreasingBy-from_sort_by_key moment_of _ c.in_ok-sort_by_key.ensures.sorted (λ a r q k. search rules) in
    let stable : IsStableByKey moment_of nat_cmp c.in_ok-rows.rows.items c.sort_by_key.new.self.items = c.sort_by_key.ensures.stable moment_of (answers_always _ (λ a r. r ≡ moment_of a.0.now) _ (λ f a r f' k. search rules)) in
    let rows = sorted_rows _ _ rises stable ∙ ap by_moment (c.in_ok-rows.ensures ∙ ap (λ xs. rows_at xs c.args.moments.now) c.rows.ensures) in
    c.new.ensures ∙ trace_of_parts c.args.trace.now c.args.moments.now _ _ _
    (ap names_of c.in_ok-tenants.ensures ∙ c.tenants.ensures.names) (ap weights_of c.in_ok-tenants.ensures ∙ c.tenants.ensures.weights) (c.in_ok-kinds.ensures ∙ c.kinds.ensures) rows
