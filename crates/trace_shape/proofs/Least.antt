-- There are no two lists of least moments.
use Rattle.std.proofs.Common.{◌<◌, length, get_or, arith, sym, ◌∙◌}
use Rattle.std.proofs.lemmas.List.{same_lists}
use Rattle.std.proofs.lemmas.Option.{slice_get-get_or}
use Rattle.trace_shape.specs.Laws.{LeastIsOne}

pub least_is_one : LeastIsOne
least_is_one T rate burst some others first second =
    let same_length = first.conforms.one_each ∙ sym second.conforms.one_each in
    same_lists some others same_length (λ k d l.
    let there : k < length others = omega (arith, l, same_length) in
    let early = first.least others k (get_or some k d) (get_or others k d) second.conforms (slice_get-get_or some k d l) (slice_get-get_or others k d there) in
    let late = second.least some k (get_or others k d) (get_or some k d) first.conforms (slice_get-get_or others k d there) (slice_get-get_or some k d l) in
    omega (arith, early, late))
