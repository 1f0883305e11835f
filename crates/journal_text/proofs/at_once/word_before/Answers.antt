use Rattle.std.proofs.Common.{arith, take, slice_index}
use Rattle.std.proofs.lemmas.List.{take_more, take_rest}
use Rattle.journal_text.proofs.AtOnce.{divided, IsWord-push}
use Rattle.journal_text.proofs.at_once.word_before.Goals as goal

pub loop-end-preserved : goal.loop-end-preserved
loop-end-preserved c =
    rw (take_more c.args.text.now c.loop-end.end 0 (omega arith)) (IsWord-push (take c.loop-end.end c.args.text.now) (slice_index c.args.text.now c.loop-end.end) c.loop-end.invariant c.if-text-end-eq32.false c.if-text-end-eq10.false)

pub returns-then-text-end-eq32 : goal.returns-then-text-end-eq32
returns-then-text-end-eq32 c = (rw take_rest (divided c.args.text.now c.loop-end.end 32 (omega arith) c.if-text-end-eq32.true), c.loop-end.invariant)
