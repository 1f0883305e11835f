use Rattle.desk.proofs.Left.{ending_or_full}
use Rattle.desk.proofs.refusals.live_refusal.Goals as goal

pub done_refusal-requires : goal.done_refusal-requires
done_refusal-requires c = ending_or_full c.args.cause c.requires c.in_default.not-Full
