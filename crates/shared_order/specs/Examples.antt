-- Heads whose eligibility is worked by hand.
use Rattle.std.specs.Prelude.{ℕ, pos}
use Rattle.fq_model.specs.declared.config.Policy.{Policy}
use Rattle.fq_model.specs.Keys.{HeadKeys, Turn}

-- the second of n workers chooses at virtual time v
abbrev pub second_of : Policy → ℕ → ℕ → Turn
second_of policy n v = record { policy = policy; workers = n; worker = 1; virtual_time = pos v }

-- a head with this start and this length
abbrev pub head : ℕ → ℕ → HeadKeys
head start len = record { start = pos start; len = pos len; request = 0 }
