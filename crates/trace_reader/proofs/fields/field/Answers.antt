use Rattle.std.proofs.Common.{◌≡◌, ◌∙◌, Some, [], slice_index_or}
use Rattle.csv.specs.Records.{fields_of}
use Rattle.trace_reader.proofs.Places.{at_is, is_there}
use Rattle.trace_reader.proofs.fields.field.Goals as goal

pub unwrap-requires : goal.unwrap-requires
unwrap-requires c =
    let fields = fields_of c.args.fields.now in
    is_there c.get.result (slice_index_or fields c.args.k []) (c.get.ensures.value ∙ at_is fields c.args.k c.requires)

pub returns : goal.returns
returns c =
    let fields = fields_of c.args.fields.now in
    let value : Some c.unwrap.result.now ≡ Some (slice_index_or fields c.args.k []) = rw c.unwrap.ensures at c.get.ensures.value ∙ at_is fields c.args.k c.requires in
    cc
