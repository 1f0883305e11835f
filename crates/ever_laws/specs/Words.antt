-- Words for the bounds under 2dfq+.
use Rattle.std.specs.Prelude.{ℕ, ◌≡◌, ◌≤◌, ◌<◌, length, true, ◌∷◌, Option, Some, None, ℤ, pos, ◌-ℤ◌}
use Rattle.std.specs.Int.{int_max}
use Rattle.fq_model.specs.declared.config.Config.{Config}
use Rattle.fq_model.specs.declared.config.Policy.TheVariants.{TwoDfqPlus}
use Rattle.fq_model.specs.declared.event.Entry.{Entry}
use Rattle.fq_model.specs.History.{History, head}
use Rattle.fq_model.specs.Lead.{over_running, most, least, head_length}
use Rattle.fq_model.specs.Limits.{InLimits}
use Rattle.fq_model.specs.Pace.{virtual_time}
use Rattle.fq_model.specs.Rules.{IsLegal}
use Rattle.fq_model.specs.Time.{last_moment}
use Rattle.fq_laws.specs.Words.{is_take}
use Rattle.gap_laws.specs.Words.{IsPrefix, AreCaps}
use Rattle.length_laws.specs.Words.{CostsStayBelow, WeightStaysAbove}

-- no request that is taken at a prefix of H is longer there than M, whichever tenant it is of, and no head is, where a
-- request is taken
pub record AreAllNoLonger (C : Config) (H : History) (M : ℕ) : Type 0 where
  pub some : 1 ≤ M
  pub requests : (t : ℕ) → AreCaps C H t (λ r. M)
  pub heads : (e : Entry) (Q : History) (t : ℕ) → IsPrefix (e ∷ Q) H → is_take e.act ≡ true → head_length C Q t ≤ M

-- no request costs more than c, and no tenant of the configuration has a lesser weight than w
pub record AllKeepLimits (C : Config) (H : History) (c w : ℕ) : Type 0 where
  pub some_cost : 1 ≤ c
  pub some_weight : 1 ≤ w
  pub costs : (t : ℕ) → CostsStayBelow C H t c
  pub weights : (t : ℕ) → t < length C.weights → WeightStaysAbove C H t w

-- H is a legal history under 2dfq+, and none of its requests is longer than M
pub record IsPacedWithin (C : Config) (H : History) (M : ℕ) : Type 0 where
  pub policy : C.policy ≡ TwoDfqPlus
  pub limits : InLimits C
  pub legal : IsLegal C H
  pub lengths : AreAllNoLonger C H M

-- virtual time just after the last entry
abbrev pub time_now : Config → History → ℕ
time_now C P = virtual_time C P (last_moment P)

-- the start of tenant t if each of its running requests turns out to be M long, and if each turns out to cost nothing
abbrev pub most_of : ℕ → Config → History → ℕ → ℤ
most_of M C P t = most (λ r. M) C P t

abbrev pub least_of : Config → History → ℕ → ℤ
least_of C P t = least (λ r. 0) C P t

-- M for each running request of tenant t
abbrev pub running_length : ℕ → Config → History → ℕ → ℕ
running_length M C P t = over_running C P t (λ r. M)

abbrev pub ground_for : Option ℕ → ℤ → ℤ → ℤ
ground_for None least coming = int_max least coming
ground_for (Some r) least coming = least

-- the ground of tenant t: its least; where it does not wait, the least that it would have if a request of it came now
abbrev pub ground : ℕ → Config → History → ℕ → ℤ
ground M C P t = ground_for (head P t) (least_of C P t) (pos (time_now C P) -ℤ pos (running_length M C P t))
