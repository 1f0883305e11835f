use Rattle.std.proofs.Common.{◌≡◌, rules}
use Rattle.journal_check.proofs.Copies.{checked, same_config}
use Rattle.journal_check.proofs.checking.copy_of.Goals as goal

pub unwrap-requires : goal.unwrap-requires
unwrap-requires c =
    let weights : c.from_vec.result ≡ c.args.config.now.weights = search rules in
    checked _ c.args.config.now c.check.result
    (same_config c.args.config.now _ _ _ _ _ _ _ _ _ c.limits.ensures.value c.workers.ensures.value weights c.kinds.ensures.value c.entries.ensures.value c.requests.ensures.value c.policy.ensures.value c.estimate.ensures.value c.initial.ensures.value)
    c.initial.ensures.limits c.check.ensures.fault
