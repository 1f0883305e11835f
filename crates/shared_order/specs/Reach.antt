-- Eligibility and eligible keys, said by the finish and the length of a head alone.
use Rattle.std.specs.Prelude.{ℕ, ◌+◌, ◌*◌, ℤ, pos, unsigned_abs, ◌-ℤ◌, ◌*ℤ◌, ◌≤ℤ◌}
use Rattle.vt_fixed.specs.Rounding.{floor_div}
use Rattle.fq_model.specs.declared.config.Policy.{Policy}
use Rattle.fq_model.specs.declared.config.Policy.TheVariants.{Wfq, TwoDfq, TwoDfqPlus}
use Rattle.fq_model.specs.Keys.{Turn}

-- how far before its finish a head of this length is eligible: its length, and under 2dfq and 2dfq+ also the part of
-- worker i of n
abbrev pub reach : Policy → ℕ → ℕ → ℕ → ℕ
reach TwoDfq len i n = floor_div ((n + i) * len) n
reach TwoDfqPlus len i n = floor_div ((n + i) * len) n
reach _ len i n = len

-- the eligible key of a head with this finish and this length
abbrev pub key_by_finish : Turn → ℤ → ℤ → ℤ
key_by_finish at F L = F -ℤ pos (reach at.policy (unsigned_abs L) at.worker at.workers)

-- a head of this length that finishes `ahead` steps after virtual time is eligible for worker i of n: no number is
-- divided
abbrev pub Reaches : Policy → ℕ → ℕ → ℤ → ℤ → Type 0
Reaches Wfq i n ahead len = Unit {0}
Reaches TwoDfq i n ahead len = (pos n *ℤ ahead) ≤ℤ (pos (n + i) *ℤ len)
Reaches TwoDfqPlus i n ahead len = (pos n *ℤ ahead) ≤ℤ (pos (n + i) *ℤ len)
Reaches _ i n ahead len = ahead ≤ℤ len

-- a head with this finish and this length is eligible
abbrev pub IsInReach : Turn → ℤ → ℤ → Type 0
IsInReach at F L = Reaches at.policy at.worker at.workers (F -ℤ at.virtual_time) L
