use Rattle.std.proofs.Common.{rules}
use Rattle.fq_io.proofs.Pieces.{took_more}
use Rattle.fq_io.proofs.reading.read_all.Goals as goal

pub returns-in_err-extend_from_slice-clause-taken : goal.returns-in_err-extend_from_slice-clause-taken
returns-in_err-extend_from_slice-clause-taken g c =
    took_more _ _ _ _ _ _ _ c.in_ok-count.count _ c.reading.invariant.taken c.in_ok-count.ensures.bytes
    (search rules)
