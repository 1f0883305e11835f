-- The least of a tenant, and its ground, never fall.
use Rattle.std.proofs.Common.{ℕ, ◌+◌, ◌*◌, ◌≤◌, ◌≡◌, max, refl, arith, inl, inr, ◌∷◌, Option, Some, None, ℤ, pos, ◌≤ℤ◌}
use Rattle.std.specs.Prelude.{◌-ℤ◌}
use Rattle.std.proofs.lemmas.Int.{ints, clamps}
use Rattle.fq_model.specs.declared.config.Config.{Config}
use Rattle.fq_model.specs.declared.event.Entry.{Entry}
use Rattle.fq_model.specs.History.{History, head}
use Rattle.fq_model.specs.Lead.{may_rise, may_fall, start_now}
use Rattle.fq_model.specs.Limits.{InLimits}
use Rattle.fq_model.specs.Rules.{IsLegal}
use Rattle.gap_laws.proofs.Leads.{least_at}
use Rattle.gap_laws.proofs.Starts.{start_rises}
use Rattle.gap_laws.proofs.WorstCase.{longest, nothing}
use Rattle.ever_laws.specs.Laws.{LeastRises, GroundRises}
use Rattle.ever_laws.specs.Words.{IsPacedWithin, time_now, running_length, ground_for}
use Rattle.ever_laws.proofs.Entries.{time_rises}
use Rattle.ever_laws.proofs.Running.{rise_and_fall, two_run}
use Rattle.ever_laws.proofs.Takes.{change, within_older}

-- ---- running requests

-- the possible rise and fall of a tenant's running requests are together M for each of these, and M a worker at most
pub record RunsWithin (C : Config) (P : History) (t M : ℕ) : Type 0 where
  pub parts : may_rise (longest M) C P t + may_fall nothing C P t ≡ running_length M C P t
  pub all : running_length M C P t ≤ C.workers * M

pub runs_within : (C : Config) (P : History) (t M : ℕ) → IsPacedWithin C P M → RunsWithin C P t M
runs_within C P t M is = record { parts = rise_and_fall C P t M is.legal (is.lengths.requests t); all = omega (arith, two_run C P t (t + 1) M (λ e. omega (arith, e))) }

-- ---- the least of a tenant

-- in numbers
pub least_on : (C : Config) (P : History) (e : Entry) (t : ℕ) → InLimits C → IsLegal C (e ∷ P) → start_now C P t + may_fall nothing C (e ∷ P) t ≤ start_now C (e ∷ P) t + may_fall nothing C P t
least_on C P e t lim l = least_at C P e.who e.moment t nothing e.act lim l (λ Q r is some. omega arith) (λ Q r is some. omega arith) (start_rises C P e t)

pub least_rises : LeastRises
least_rises C P e t lim l = omega (arith, ints, least_on C P e t lim l)

-- ---- the ground of a tenant

-- the ground is no less than the least
pub ground_low : (o : Option ℕ) (least coming : ℤ) → least ≤ℤ ground_for o least coming
ground_low None least coming = omega (arith, ints, clamps)
ground_low (Some r) least coming = omega (arith, ints)

from_some : (o : Option ℕ) (x d x2 d2 : ℕ) (coming : ℤ) → x + d2 ≤ x2 + d → (pos x -ℤ pos d) ≤ℤ ground_for o (pos x2 -ℤ pos d2) coming
from_some None x d x2 d2 coming low = omega (arith, ints, clamps, low)
from_some (Some r) x d x2 d2 coming low = omega (arith, ints, low)

-- (start, its possible fall, running length and virtual time, before and after)
on_staying : (o o2 : Option ℕ) (x d k v x2 d2 k2 v2 : ℕ) → x + d2 ≤ x2 + d → k2 ≤ k → v ≤ v2 → (o ≡ None → o2 ≡ None) → ground_for o (pos x -ℤ pos d) (pos v -ℤ pos k) ≤ℤ ground_for o2 (pos x2 -ℤ pos d2) (pos v2 -ℤ pos k2)
on_staying (Some r) o2 x d k v x2 d2 k2 v2 low runs time still = from_some o2 x d x2 d2 _ low
on_staying None o2 x d k v x2 d2 k2 v2 low runs time still = rw (still refl) (omega (arith, ints, clamps, low, runs, time))

on_coming : (o o2 : Option ℕ) (x d k v x2 d2 : ℕ) (coming : ℤ) (v2 : ℕ) → o ≡ None → x2 ≡ max v2 x → d2 ≡ d → d ≤ k → v ≤ v2 → ground_for o (pos x -ℤ pos d) (pos v -ℤ pos k) ≤ℤ ground_for o2 (pos x2 -ℤ pos d2) coming
on_coming o None x d k v x2 d2 coming v2 none starts falls less time = rw none (omega (arith, ints, clamps, starts, falls, less, time))
on_coming o (Some r) x d k v x2 d2 coming v2 none starts falls less time = rw none (omega (arith, ints, clamps, starts, falls, less, time))

on_taking : (o o2 : Option ℕ) (r x d x2 d2 : ℕ) (coming coming2 : ℤ) → o ≡ Some r → x + d2 ≤ x2 + d → ground_for o (pos x -ℤ pos d) coming ≤ℤ ground_for o2 (pos x2 -ℤ pos d2) coming2
on_taking o o2 r x d x2 d2 coming coming2 some low = rw some (from_some o2 x d x2 d2 coming2 low)

pub ground_rises : GroundRises
ground_rises C P e t M is =
    let low = least_on C P e t is.limits is.legal in
    let time = time_rises C P e is.legal in
    elim (change C P e t M is) [
      | inl s ↦ on_staying (head P t) (head (e ∷ P) t) _ _ _ _ _ _ _ _ low (s.runs M) time s.still
      | inr x ↦ elim x [
        | inl c ↦ (let within = runs_within C P t M (within_older C P e M is) in on_coming (head P t) (head (e ∷ P) t) _ _ _ _ _ _ _ (time_now C (e ∷ P)) c.none c.start_is c.fall_is (omega (arith, within.parts)) time)
        | inr n ↦ on_taking (head P t) (head (e ∷ P) t) n.request _ _ _ _ _ _ n.some low
      ]
    ]
