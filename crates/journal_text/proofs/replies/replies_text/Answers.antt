use Rattle.std.proofs.Common.{arith, refl}
use Rattle.fq_model.specs.declared.event.Reply.{Reply}
use Rattle.fq_model.specs.declared.event.Reply.TheVariants.{Request}
use Rattle.program_model.specs.Texts.{replies_text}
use Rattle.journal_text.proofs.Kept.{one_more, all_told}
use Rattle.journal_text.proofs.replies.replies_text.Goals as goal

-- the default of an index past the end
abbrev none : Reply
none = Request 0

pub loop-reply-preserved : goal.loop-reply-preserved
loop-reply-preserved c =
    one_more replies_text c.args.replies.now c.loop-reply.reply-index none _ c.loop-reply.text.items c.reply_line.new.out.items _ c.loop-reply-test.true refl
    c.in_ok-reply_line.ensures.added c.loop-reply.invariant

pub returns : goal.returns
returns c = all_told replies_text c.args.replies.now c.loop-reply.reply-index c.loop-reply.text.items _ (omega arith) refl c.loop-reply.invariant
