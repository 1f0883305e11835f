-- The credit as a number that is below 0 where there is a debt.
use Rattle.std.specs.Prelude.{ℕ, ◌≡◌, ℤ, pos, ◌+ℤ◌, ◌-ℤ◌}
use Rattle.std.specs.Int.{int_min, int_max}
use Rattle.worker_reserve.specs.declared.credit.Passed.{Passed}
use Rattle.worker_reserve.specs.Credit.{CreditView, cap, earned, spent, after_passed, with_workers, budget_of}

-- the credit, in millionths of a microsecond
abbrev pub credit_of : CreditView → ℤ
credit_of v = pos (cap v) -ℤ pos v.used

-- it comes back up to the cap, and then what was spent goes off
abbrev pub CreditIsEarnedAndSpent : Type 0
CreditIsEarnedAndSpent = (v : CreditView) (p : Passed)
    → credit_of (after_passed v p) ≡ int_min (pos (cap v)) (credit_of v +ℤ pos (earned v p)) -ℤ pos (spent v p)

-- another number of workers lowers it to the new cap, where it is above that, and changes nothing of it else
abbrev pub CreditIsLowered : Type 0
CreditIsLowered = (v : CreditView) (n : ℕ)
    → credit_of (with_workers v n) ≡ int_min (pos (cap (with_workers v n))) (credit_of v)

-- the rule reads it, and no credit for a debt
abbrev pub CreditIsRead : Type 0
CreditIsRead = (v : CreditView) → pos (budget_of v).credit ≡ int_max (pos 0) (credit_of v)
