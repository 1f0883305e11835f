-- The cap stays near the grounds of two tenants, by the requests of both that ran when it was reached.
use Rattle.std.proofs.Common.{ℕ, ◌+◌, ◌*◌, ◌≤◌, ◌≡◌, ◌≢◌, arith, inl, inr, [], ◌∷◌, ℤ, pos, ◌≤ℤ◌}
use Rattle.std.specs.Prelude.{◌-ℤ◌, ◌+ℤ◌}
use Rattle.std.proofs.lemmas.Int.{ints}
use Rattle.std.proofs.lemmas.Nat.{mul-le}
use Rattle.std.proofs.lemmas.Bool.{cases_lt}
use Rattle.fq_model.specs.Ever.{greatest_part}
use Rattle.fq_model.specs.declared.config.Config.{Config}
use Rattle.fq_model.specs.declared.event.Entry.{Entry}
use Rattle.fq_model.specs.History.{History, head}
use Rattle.fq_model.specs.Lead.{may_fall, start_now}
use Rattle.fq_model.specs.Pace.{pace}
use Rattle.gap_laws.proofs.WorstCase.{nothing}
use Rattle.ever_laws.specs.Laws.{all_and_part, CapStaysNear}
use Rattle.ever_laws.specs.Words.{IsPacedWithin, running_length, ground}
use Rattle.ever_laws.proofs.Grounds.{runs_within, ground_low, ground_rises}
use Rattle.ever_laws.proofs.Near.{cap_nil, finish_near}
use Rattle.ever_laws.proofs.Running.{counted, none_run}
use Rattle.ever_laws.proofs.Takes.{Taken, cap_change, within_older}

-- the cap is above the ground of t by no more than k + 1 requests, and a part
abbrev pub IsNear : Config → History → ℕ → ℕ → ℕ → Type 0
IsNear C P t M k = pos (pace C P).reached ≤ℤ (ground M C P t +ℤ pos ((k + 1) * M + greatest_part C M))

-- and the numbers k of two tenants are together less than there are workers
pub record AreNear (C : Config) (P : History) (f g M : ℕ) : Type 0 where
  pub of_f : ℕ
  pub of_g : ℕ
  pub few : of_f + of_g + 1 ≤ C.workers
  pub near_f : IsNear C P f M of_f
  pub near_g : IsNear C P g M of_g

near_nil : (C : Config) (t M : ℕ) → IsPacedWithin C [] M → IsNear C [] t M 0
near_nil C t M is = at_first (pace C []).reached (start_now C [] t) (may_fall nothing C [] t) M (greatest_part C M) _ (cap_nil C) (let within = runs_within C [] t M is in omega (arith, within.parts, none_run C t M)) (ground_low (head [] t) _ _)
  where
    at_first : (s x d M part : ℕ) (ground : ℤ) → s ≡ 0 → d ≡ 0 → (pos x -ℤ pos d) ≤ℤ ground → pos s ≤ℤ (ground +ℤ pos ((0 + 1) * M + part))
    at_first s x d M part ground none falls low = omega (arith, ints, none, falls, low)

still_near : (s s2 : ℕ) (all ground ground2 : ℤ) → pos s ≤ℤ (ground +ℤ all) → s2 ≡ s → ground ≤ℤ ground2 → pos s2 ≤ℤ (ground2 +ℤ all)
still_near s s2 all ground ground2 low same rises = omega (arith, ints, low, same, rises)

reached_near : (s2 f k a M part : ℕ) (ground : ℤ) → s2 ≡ f → k ≡ a * M → pos f ≤ℤ (ground +ℤ pos (k + M + part)) → pos s2 ≤ℤ (ground +ℤ pos ((a + 1) * M + part))
reached_near s2 f k a M part ground is counts low = omega (arith, ints, is, counts, low)

-- one entry on, where the cap stays and where it is raised to the finish of the taken request
stay_near : (C : Config) (P : History) (e : Entry) (f g M : ℕ) → IsPacedWithin C (e ∷ P) M → (pace C (e ∷ P)).reached ≡ (pace C P).reached → AreNear C P f g M → AreNear C (e ∷ P) f g M
stay_near C P e f g M is same near = record {
  of_f = near.of_f;
  of_g = near.of_g;
  few = near.few;
  near_f = still_near (pace C P).reached (pace C (e ∷ P)).reached _ _ _ near.near_f same (ground_rises C P e f M is);
  near_g = still_near (pace C P).reached (pace C (e ∷ P)).reached _ _ _ near.near_g same (ground_rises C P e g M is);
}

raised_near : (C : Config) (P : History) (e : Entry) (f g u M : ℕ) → f ≢ g → IsPacedWithin C (e ∷ P) M → (n : Taken C P (e ∷ P) u M) → (pace C (e ∷ P)).reached ≡ start_now C P u + n.len → AreNear C (e ∷ P) f g M
raised_near C P e f g u M ne is n raised = record {
  of_f = running_length 1 C P f;
  of_g = running_length 1 C P g;
  few = omega (arith, n.free f g 1 ne);
  near_f = reached_near (pace C (e ∷ P)).reached (start_now C P u + n.len) (running_length M C P f) (running_length 1 C P f) M (greatest_part C M) _ raised (counted C P f M) (finish_near C P e f u M is n);
  near_g = reached_near (pace C (e ∷ P)).reached (start_now C P u + n.len) (running_length M C P g) (running_length 1 C P g) M (greatest_part C M) _ raised (counted C P g M) (finish_near C P e g u M is n);
}

pub are_near : (C : Config) (H : History) (f g M : ℕ) → f ≢ g → IsPacedWithin C H M → AreNear C H f g M
are_near C [] f g M ne is = record { of_f = 0; of_g = 0; few = omega (arith, is.limits.workers.0); near_f = near_nil C f M is; near_g = near_nil C g M is }
are_near C (e ∷ P) f g M ne is =
    let before : AreNear C P f g M = are_near C P f g M ne (within_older C P e M is) in
    elim (cap_change C P e M is) [
      | inl same ↦ stay_near C P e f g M is same before
      | inr x ↦ elim (cases_lt (pace C P).reached (start_now C P x.0 + x.1.len)) [
        | inl more ↦ raised_near C P e f g x.0 M ne is x.1 (omega (arith, x.1.cap_is, more))
        | inr less ↦ stay_near C P e f g M is (omega (arith, x.1.cap_is, less)) before
      ]
    ]

-- so it is near the ground of each tenant by one request for each worker, and a part
within_all : (s k n M part : ℕ) (ground : ℤ) → k + 1 ≤ n → pos s ≤ℤ (ground +ℤ pos ((k + 1) * M + part)) → pos s ≤ℤ (ground +ℤ pos (n * M + part))
within_all s k n M part ground few near = let more : (k + 1) * M ≤ n * M = mul-le (k + 1) M n M few (omega arith) in omega (arith, ints, near, more)

pub ground_near : (C : Config) (H : History) (t M : ℕ) → IsPacedWithin C H M → pos (pace C H).reached ≤ℤ (ground M C H t +ℤ pos (all_and_part C M))
ground_near C H t M is =
    let near : AreNear C H t (t + 1) M = are_near C H t (t + 1) M (λ e. omega (arith, e)) is in
    within_all (pace C H).reached near.of_f C.workers M (greatest_part C M) _ (omega (arith, near.few)) near.near_f

pub cap_near_waiting : CapStaysNear
cap_near_waiting C H t r M is some = let near : pos (pace C H).reached ≤ℤ (ground M C H t +ℤ pos (all_and_part C M)) = ground_near C H t M is in rw some at near
