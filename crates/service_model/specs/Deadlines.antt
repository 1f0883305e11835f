-- Deadlines: what waits past its own is withdrawn by next, before anything is granted.
use Rattle.std.specs.Prelude.{ℕ, ◌+◌, ◌≡◌, ◌<◌, ◌≤◌, ◌⊎◌, min, Bool, true, ◌&&◌, if◌then◌else◌, List, [], ◌∷◌, Option, Some, None, slice_get}
use Rattle.service_model.specs.declared.config.ServiceConfig.{ServiceConfig}
use Rattle.service_model.specs.declared.outcome.ServiceOutcome.{ServiceOutcome}
use Rattle.service_model.specs.declared.outcome.ServiceOutcome.TheVariants.{Late}
use Rattle.service_model.specs.View.{Admitted, ServiceView, has_any, is_waiting}
use Rattle.service_model.specs.Submission.{is_before}
use Rattle.service_model.specs.Withdrawing.{Withdraws}

-- the request waits, and its deadline is before m
abbrev pub is_late : ℕ → Admitted → Bool
is_late m q = is_waiting q && is_before q.deadline m

-- something is late
abbrev pub has_late : ServiceView → ℕ → Bool
has_late v m = has_any v (is_late m)

-- the request of this ticket is late, and this is its deadline
pub record IsLateAt (v : ServiceView) (m ticket deadline : ℕ) (q : Admitted) : Type 0 where
  pub admitted : slice_get v.admitted ticket ≡ Some q
  pub late : is_late m q ≡ true
  pub deadline_is : q.deadline ≡ Some deadline

-- it is the first one: no other that is late has an earlier deadline, or the same and a lower ticket
pub record IsFirstLate (v : ServiceView) (m ticket : ℕ) (q : Admitted) : Type 0 where
  pub deadline : ℕ
  pub late : IsLateAt v m ticket deadline q
  pub first : (other later : ℕ) (p : Admitted) → IsLateAt v m other later p
      → (deadline < later) ⊎ ((deadline ≡ later) × (ticket ≤ other))

-- the first late request is withdrawn; nothing is declined then
pub record WithdrawsLate (c : ServiceConfig) (m : ℕ) (v : ServiceView) (outcome : ServiceOutcome) (w : ServiceView)
    : Type 0 where
  pub ticket : ℕ
  pub q : Admitted
  pub first : IsFirstLate v m ticket q
  pub outcome_is : outcome ≡ Late q.label ticket
  pub withdraws : Withdraws c m (record v { declining = 0 }) ticket q w

-- the earlier of two moments, where there are such
abbrev pub earlier : Option ℕ → Option ℕ → Option ℕ
earlier None b = b
earlier (Some a) None = Some a
earlier (Some a) (Some b) = Some (min a b)

-- the least deadline of what waits, if there is one
abbrev pub least_deadline : List Admitted → Option ℕ
least_deadline [] = None
least_deadline (q ∷ qs) = if is_waiting q then earlier q.deadline (least_deadline qs) else least_deadline qs

-- the moment just after
abbrev pub just_after : Option ℕ → Option ℕ
just_after None = None
just_after (Some m) = Some (m + 1)
