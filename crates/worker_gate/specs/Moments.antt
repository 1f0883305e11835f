-- Moments that a clock tells.
use Rattle.std.specs.Prelude.{ℕ, ◌≤◌, ◌≡◌, length}
use Rattle.fq_model.specs.declared.event.Entry.{Entry}
use Rattle.program_model.specs.Courses.{Each}
use Rattle.fq_model.specs.History.{History}
use Rattle.fq_model.specs.Time.{effective_moment}

-- the entry is at the effective moment of a moment that the clock tells
abbrev pub HasToldMoment : (ℕ → Type 0) → History → Entry → Type 0
HasToldMoment Tells P e = (m : ℕ) × Tells m × (e.moment ≡ effective_moment P m)

-- so is each entry of this caller that has at least `before` entries before it
abbrev pub HasToldMomentsFrom : (ℕ → Type 0) → ℕ → ℕ → History → Type 0
HasToldMomentsFrom Tells number before H = Each (λ P e. e.who ≡ number → before ≤ length P → HasToldMoment Tells P e) H
