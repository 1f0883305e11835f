use Rattle.std.proofs.Common.{◌∙◌, sym, ap}
use Rattle.std.proofs.lemmas.List.{length-map}
use Rattle.fq_model.specs.Names.{number_by_appearance, with_appearance}
use Rattle.program_model.specs.Trace.{last_row_moment}
use Rattle.trace_reader.specs.Reading.{trace_in}
use Rattle.trace_reader.proofs.Generated.{row_added}
use Rattle.trace_reader.proofs.generating.add_request.Goals as goal

pub returns : goal.returns
returns c =
    let trace = trace_in c.draft.inside.tenants c.draft.inside.kinds c.draft.inside.rows.items in
    rw (← c.draft.view_is) (row_added trace c.len.result c.args.j c.args.moment c.args.tenant c.args.cost c.last_moment.result c.in_ok-kind.kind c.declared_of.result c.cost_of.result
    c.number_of_kind.new.kinds c.push.new.self.items
    (c.len.ensures.value ∙ sym (length-map c.draft.inside.tenants (λ t. t.0)))
    (c.last_moment.ensures ∙ ap last_row_moment c.as_slice.ensures.value)
    (c.in_ok-kind.ensures.number ∙ ap (number_by_appearance c.draft.inside.kinds) c.kind_of.ensures.kind)
    (c.in_ok-kind.ensures.kinds ∙ ap (with_appearance c.draft.inside.kinds) c.kind_of.ensures.kind)
    c.declared_of.ensures c.cost_of.ensures c.in_ok-push.ensures.items)
