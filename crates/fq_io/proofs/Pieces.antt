-- One piece read or written after others.
use Rattle.std.proofs.Common.{arith, ℕ, ◌+◌, ◌-◌, ◌≤◌, List, length, take, drop, Option, None, Some, Ok, append_assoc, refl}
use Rattle.std.proofs.Math.Seq.{take-add, drop-append-add}
use Rattle.std.proofs.lemmas.List.{take_all, length-drop}
use Rattle.std.specs.Io.KnownBytes.{Appends, Consumes}
use Rattle.fq_io.specs.Sources.{Reads, TookAtMost}

-- after these bytes were read, n more were
pub took_more : (E : Type 0) (old mid new : Option (List ℕ)) (all before after : List ℕ) (n most : ℕ) →
    Consumes old mid all → Reads {E = E} mid new (Ok n) before after → length all + n ≤ most → TookAtMost old new most
took_more E None mid new all before after n most had took within = tt
took_more E (Some xs) None new all before after n most had took within = absurd had
took_more E (Some xs) (Some ms) None all before after n most had took within = absurd took
took_more E (Some xs) (Some ms) (Some ys) all before after n most had took within =
    (length all + n, within, rw (took.left, had, drop-append-add all ms n) refl)

-- after the first bytes of a text were written, the n after them were
pub wrote_more : (old mid new : Option (List ℕ)) (text : List ℕ) (at n : ℕ) →
    Appends old mid (take at text) → Appends mid new (take n (take (length text - at) (drop at text))) → Appends old new (take (at + n) text)
wrote_more None mid new text at n had took = tt
wrote_more (Some xs) None new text at n had took = absurd had
wrote_more (Some xs) (Some ms) None text at n had took = absurd took
wrote_more (Some xs) (Some ms) (Some ys) text at n had took =
    rw (took, take_all (length text - at) (drop at text) (omega (arith, length-drop at text)), had, take-add at n text) (append_assoc xs (take at text) (take n (drop at text)))
