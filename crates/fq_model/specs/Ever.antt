-- The greatest length that a request has in a history, by its charge or as a head just before a Take, and by it the
-- bound of each lead over a tenant that waits, whatever came before, under 2dfq+.
use Rattle.std.specs.Prelude.{ℕ, ◌+◌, ◌-◌, ◌*◌, ◌/◌, max, [], ◌∷◌, Option, Some, None, length, ℤ, pos, ◌-ℤ◌}
use Rattle.vt_fixed.specs.Rounding.{part_of}
use Rattle.fq_model.specs.declared.config.Config.{Config}
use Rattle.fq_model.specs.declared.config.Policy.{Policy}
use Rattle.fq_model.specs.declared.config.Policy.TheVariants.{TwoDfqPlus}
use Rattle.fq_model.specs.declared.event.Act.{Act}
use Rattle.fq_model.specs.declared.event.Act.TheVariants.{Take}
use Rattle.fq_model.specs.History.{History, request_bound}
use Rattle.fq_model.specs.Lead.{head_length, longest_of}
use Rattle.fq_model.specs.Sums.{max_below}

-- The greatest length in a history H.

-- the length of the head of tenant t where the act takes a request, of whichever tenant, else 0
abbrev pub head_at : Config → History → ℕ → Act → ℕ
head_at C P t (Take worker request estimate) = head_length C P t
head_at C P t _ = 0

-- the greatest length that a head of tenant t has just before a Take in H, or 0
unfoldable pub longest_head : Config → History → ℕ → ℕ
longest_head C [] t = 0
longest_head C (e ∷ P) t = max (head_at C P t e.act) (longest_head C P t)

-- the greatest length that a request of tenant t has in H, by its charge or as a head just before a Take, or 0
unfoldable pub longest_request : Config → History → ℕ → ℕ
longest_request C H t = max (longest_head C H t) (max_below (longest_of C H t) request_bound)

-- the greatest length that a request of any tenant has in H, by its charge or as a head just before a Take, and 1 at
-- least
unfoldable pub longest_of_all : Config → History → ℕ
longest_of_all C H = max 1 (max_below (longest_request C H) (length C.weights))

-- The bound, where no request is longer than M.

-- a part that no stagger passes: that of the last of all workers, of a length of M
abbrev pub greatest_part : Config → ℕ → ℕ
greatest_part C M = part_of M (C.workers - 1) C.workers

-- as many requests of the length M as there are workers, as half of them, rounded down, and one more, and the greatest
-- part
abbrev pub most_lead : Config → ℕ → ℕ
most_lead C M = (C.workers + C.workers / 2 + 1) * M + greatest_part C M

-- less a step
abbrev pub ever_bound : Config → ℕ → ℤ
ever_bound C M = pos (most_lead C M) -ℤ pos 1

-- the bound under 2dfq+, and none under another policy
abbrev pub under_plus : Policy → ℤ → Option ℤ
under_plus TwoDfqPlus bound = Some bound
under_plus _ bound = None

-- the bound by the greatest length in H, under 2dfq+ alone
unfoldable pub measured_ever_bound : Config → History → Option ℤ
measured_ever_bound C H = under_plus C.policy (ever_bound C (longest_of_all C H))
