-- Worked histories in which a request is withdrawn, the newest entry first. The numbers of an act are in the order of
-- its fields: Submit request tenant kind declared label, Take worker request estimate, Done worker request cost,
-- Withdraw request.
use Rattle.std.specs.Prelude.{ℕ, [], ◌∷◌}
use Rattle.fq_model.specs.declared.config.Config.{Config}
use Rattle.fq_model.specs.declared.config.Policy.{Policy}
use Rattle.fq_model.specs.declared.config.Policy.TheVariants.{TwoDfq}
use Rattle.fq_model.specs.declared.event.Act.TheVariants.{Submit, Take, Done, Close, Withdraw}
use Rattle.fq_model.specs.declared.event.Call.TheVariants as call
use Rattle.fq_model.specs.declared.event.Cause.TheVariants as cause
use Rattle.fq_model.specs.declared.event.Reply.TheVariants as answer
use Rattle.fq_model.specs.History.{History}
use Rattle.fq_model.specs.Rules.{Answers}
use Rattle.worked_histories.specs.Examples.{entry}
use Rattle.worked_histories.specs.Paced.{config_for}

-- one worker, and two tenants of weight 1, under each policy
unfoldable pub withdraw_config : Policy → Config
withdraw_config policy = config_for 1 policy

-- under 2dfq the withdraw of this request is refused, since it does not wait
abbrev pub IsNotWithdrawn : History → ℕ → Type 0
IsNotWithdrawn P request =
    Answers (withdraw_config TwoDfq) P (call.Withdraw 0 5 request) (answer.Refused (cause.NotWaiting request)) P

-- ---- whether a tenant is still active

-- a request of tenant 0 runs, and one of each tenant waits
unfoldable pub both_wait : History
both_wait =
    entry 1 0 (Submit 2 1 0 4 3)
    ∷ entry 0 0 (Submit 1 0 0 10 2)
    ∷ entry 10 0 (Take 0 0 10)
    ∷ entry 0 0 (Submit 0 0 0 10 1)
    ∷ []

-- tenant 1 withdraws its only request
unfoldable pub only_withdrawn : History
unfolding both_wait
only_withdrawn = entry 1 4 (Withdraw 2) ∷ both_wait

-- the worker is free
unfoldable pub worker_free : History
unfolding only_withdrawn
worker_free = entry 10 10 (Done 0 0 10) ∷ only_withdrawn

-- and tenant 1 comes back
unfoldable pub back_again : History
unfolding worker_free
back_again = entry 1 10 (Submit 3 1 0 3 4) ∷ worker_free

-- in place of that tenant 0 withdraws its waiting request, while its other request runs
unfoldable pub other_withdrawn : History
unfolding both_wait
other_withdrawn = entry 0 4 (Withdraw 1) ∷ both_wait

-- until the other request ends
unfoldable pub other_ended : History
unfolding other_withdrawn
other_ended = entry 10 10 (Done 0 0 10) ∷ other_withdrawn

-- or that request ends first, and then tenant 0 withdraws the one that waits
unfoldable pub last_withdrawn : History
unfolding both_wait
last_withdrawn = entry 0 14 (Withdraw 1) ∷ entry 10 10 (Done 0 0 10) ∷ both_wait

-- ---- the place in a list

-- the worker is free; three requests of tenant 0 wait, which are 10, 3 and 7 long, and one of tenant 1 that is 9 long
unfoldable pub list_waits : History
list_waits =
    entry 10 10 (Done 0 0 5)
    ∷ entry 1 0 (Submit 4 1 0 9 5)
    ∷ entry 10 0 (Take 0 0 5)
    ∷ entry 0 0 (Submit 3 0 0 7 4)
    ∷ entry 0 0 (Submit 2 0 0 3 3)
    ∷ entry 0 0 (Submit 1 0 0 10 2)
    ∷ entry 0 0 (Submit 0 0 0 5 1)
    ∷ []

-- one of these is withdrawn
unfoldable pub one_withdrawn : ℕ → History
unfolding list_waits
one_withdrawn request = entry 0 10 (Withdraw request) ∷ list_waits

-- ---- after Close

-- the history is closed while a request runs and one waits
unfoldable pub closed_waits : History
closed_waits =
    entry 0 3 Close
    ∷ entry 10 0 (Take 0 0 5)
    ∷ entry 0 0 (Submit 1 0 0 5 2)
    ∷ entry 0 0 (Submit 0 0 0 5 1)
    ∷ []

-- the running request ends
unfoldable pub closed_ended : History
unfolding closed_waits
closed_ended = entry 10 5 (Done 0 0 5) ∷ closed_waits

-- and the waiting request is withdrawn
unfoldable pub closed_withdrawn : History
unfolding closed_ended
closed_withdrawn = entry 0 6 (Withdraw 1) ∷ closed_ended

-- ---- under 2dfq+

-- a request of tenant 0 runs that is 4 long, and one of each tenant waits
unfoldable pub paced_waits : History
paced_waits =
    entry 1 0 (Submit 2 1 0 6 3)
    ∷ entry 0 0 (Submit 1 0 0 8 2)
    ∷ entry 10 0 (Take 0 0 4)
    ∷ entry 0 0 (Submit 0 0 0 4 1)
    ∷ []

-- tenant 1 withdraws its request
unfoldable pub paced_withdrawn : History
unfolding paced_waits
paced_withdrawn = entry 1 6 (Withdraw 2) ∷ paced_waits

-- and submits another one when the worker is free
unfoldable pub paced_again : History
unfolding paced_withdrawn
paced_again = entry 1 10 (Submit 3 1 0 9 4) ∷ entry 10 10 (Done 0 0 4) ∷ paced_withdrawn
