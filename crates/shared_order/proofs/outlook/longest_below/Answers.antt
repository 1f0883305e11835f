use Rattle.std.proofs.Common.{◌∙◌, ap, pos}
use Rattle.vt_fixed.specs.Rounding.{length_of}
use Rattle.shared_order.proofs.Smaller.{longest_read_back}
use Rattle.shared_order.proofs.outlook.longest_below.Goals as goal

pub returns : goal.returns
returns c = longest_read_back c.args.below c.length.result (c.length.ensures ∙ ap (λ n. pos (length_of n 1)) c.min.ensures)
