-- The most of one tenant is never far above the ground of another.
use Rattle.std.proofs.Common.{ℕ, ◌+◌, ◌*◌, ◌/◌, ◌≤◌, ◌≡◌, ◌≢◌, max, refl, sym, arith, inl, inr, [], ◌∷◌, Option, Some, None, ℤ, pos, ◌≤ℤ◌}
use Rattle.std.specs.Prelude.{◌-ℤ◌, ◌+ℤ◌}
use Rattle.std.proofs.lemmas.Int.{ints}
use Rattle.fq_model.specs.Ever.{greatest_part, ever_bound}
use Rattle.fq_model.specs.declared.config.Config.{Config}
use Rattle.fq_model.specs.declared.event.Entry.{Entry}
use Rattle.fq_model.specs.History.{History, head}
use Rattle.fq_model.specs.Lead.{may_rise, may_fall, start_now}
use Rattle.fq_model.specs.Pace.{pace}
use Rattle.fq_model.specs.Time.{last_moment}
use Rattle.fq_laws.proofs.Keys.Pace.{virtual_time_capped}
use Rattle.gap_laws.proofs.WorstCase.{longest, nothing}
use Rattle.ever_laws.specs.Laws.{BoundHolds, LeadIsBounded, AccountsAreBounded}
use Rattle.ever_laws.specs.Words.{IsPacedWithin, time_now, most_of, least_of, running_length, ground}
use Rattle.ever_laws.proofs.Grounds.{runs_within, ground_low, ground_rises}
use Rattle.ever_laws.proofs.Near.{start_nil, least_below, away_low}
use Rattle.ever_laws.proofs.Reach.{in_reach}
use Rattle.ever_laws.proofs.Running.{count_low, none_run}
use Rattle.ever_laws.proofs.Takes.{Taken, change, within_older}

-- (most of f before and after, the ground of g before and after, and the bound)
not_more : (most most2 : ℕ) (ground ground2 z : ℤ) → (pos most -ℤ ground) ≤ℤ z → most2 ≤ most → ground ≤ℤ ground2 → (pos most2 -ℤ ground2) ≤ℤ z
not_more most most2 ground ground2 z before less rises = omega (arith, ints, before, less, rises)

-- ---- a request that comes to f

-- (its start is virtual time, which does not pass the cap s, or its start before)
raised : (x2 x u2 u v s k a : ℕ) (z ground ground2 : ℤ) → x2 ≡ max v x → u2 ≡ u → v ≤ s → pos (s + k) ≤ℤ (ground2 +ℤ (z +ℤ pos a)) → u2 + a ≤ k → ground ≤ℤ ground2 → (pos (x + u) -ℤ ground) ≤ℤ z → (pos (x2 + u2) -ℤ ground2) ≤ℤ z
raised x2 x u2 u v s k a z ground ground2 starts rises capped reach less higher before = omega (arith, ints, starts, rises, capped, reach, less, higher, before)

-- ---- a request of f that is taken

-- (starts, the possible rise of f and fall of g, and running lengths of both, before it; the ground of g after)
take_waiting : (x u k y d l n M part most2 : ℕ) (ground : ℤ) → most2 ≡ x + u + M → x + 1 ≤ y + M → u ≤ k → d ≤ l → k + l + M ≤ n * M → (pos y -ℤ pos d) ≤ℤ ground → (pos most2 -ℤ ground) ≤ℤ (pos ((n + n / 2 + 1) * M + part) -ℤ pos 1)
take_waiting x u k y d l n M part most2 ground more ahead rise fall free low = omega (arith, ints, more, ahead, rise, fall, free, low)

take_away : (x u k v l n M part most2 : ℕ) (ground : ℤ) → most2 ≡ x + u + M → x ≤ v + part → u ≤ k → k + l + M ≤ n * M → 1 ≤ M → (pos v -ℤ pos l) ≤ℤ ground → (pos most2 -ℤ ground) ≤ℤ (pos ((n + n / 2 + 1) * M + part) -ℤ pos 1)
take_away x u k v l n M part most2 ground more lifted rise free some low = omega (arith, ints, more, lifted, rise, free, some, low)

after_take : (C : Config) (P : History) (e : Entry) (f g M : ℕ) → f ≢ g → IsPacedWithin C (e ∷ P) M → Taken C P (e ∷ P) f M → (most_of M C (e ∷ P) f -ℤ ground M C (e ∷ P) g) ≤ℤ ever_bound C M
after_take C P e f g M ne is n = by_head (head P g) refl
  where
    older : IsPacedWithin C P M
    older = within_older C P e M is

    rise : may_rise (longest M) C P f ≤ running_length M C P f
    rise = omega (arith, (runs_within C P f M older).parts)

    fall : may_fall nothing C P g ≤ running_length M C P g
    fall = omega (arith, (runs_within C P g M older).parts)

    more : start_now C (e ∷ P) f + may_rise (longest M) C (e ∷ P) f ≡ start_now C P f + may_rise (longest M) C P f + M
    more = omega (arith, n.start_is, n.rise_is)

    by_head : (o : Option ℕ) → head P g ≡ o → (most_of M C (e ∷ P) f -ℤ ground M C (e ∷ P) g) ≤ℤ ever_bound C M
    by_head None none = take_away (start_now C P f) (may_rise (longest M) C P f) (running_length M C P f) (time_now C (e ∷ P)) (running_length M C P g) C.workers M (greatest_part C M) _ _ more n.lifted rise (n.free f g M ne) is.lengths.some (away_low C P e g M is none)
    by_head (Some r) some = take_waiting (start_now C P f) (may_rise (longest M) C P f) (running_length M C P f) (start_now C P g) (may_fall nothing C P g) (running_length M C P g) C.workers M (greatest_part C M) _ _ more (n.start_low g r (λ h. ne (sym h)) some) rise fall (n.free f g M ne) (least_below C P e g M is)

-- ---- along a history

at_first : (x u k y d l n M part : ℕ) (ground : ℤ) → x ≡ 0 → u ≤ k → k ≡ 0 → d ≤ l → l ≡ 0 → 1 ≤ M → (pos y -ℤ pos d) ≤ℤ ground → (pos (x + u) -ℤ ground) ≤ℤ (pos ((n + n / 2 + 1) * M + part) -ℤ pos 1)
at_first x u k y d l n M part ground none rise runs fall other some low = omega (arith, ints, none, rise, runs, fall, other, some, low)

pub bound_holds : BoundHolds
bound_holds C [] f g M ne is =
    at_first (start_now C [] f) (may_rise (longest M) C [] f) (running_length M C [] f) (start_now C [] g) (may_fall nothing C [] g) (running_length M C [] g) C.workers M (greatest_part C M) _ (start_nil C f M is)
    (omega (arith, (runs_within C [] f M is).parts)) (none_run C f M) (omega (arith, (runs_within C [] g M is).parts)) (none_run C g M) is.lengths.some (ground_low (head [] g) _ _)
bound_holds C (e ∷ P) f g M ne is =
    let before : (most_of M C P f -ℤ ground M C P g) ≤ℤ ever_bound C M = bound_holds C P f g M ne (within_older C P e M is) in
    let rises = ground_rises C P e g M is in
    elim (change C P e f M is) [
      | inl s ↦ not_more (start_now C P f + may_rise (longest M) C P f) (start_now C (e ∷ P) f + may_rise (longest M) C (e ∷ P) f) _ _ (ever_bound C M) before s.most_is rises
      | inr x ↦ elim x [
        | inl c ↦ raised (start_now C (e ∷ P) f) (start_now C P f) (may_rise (longest M) C (e ∷ P) f) (may_rise (longest M) C P f) (time_now C (e ∷ P)) (pace C (e ∷ P)).reached (running_length M C (e ∷ P) f) (running_length 1 C (e ∷ P) f) (ever_bound C M) _ _ c.start_is c.rise_is
            (virtual_time_capped C (e ∷ P) (last_moment (e ∷ P)) is.policy) (in_reach C (e ∷ P) f g M ne is)
            (omega (arith, (runs_within C (e ∷ P) f M is).parts, count_low C (e ∷ P) f is.limits is.legal)) rises before
        | inr n ↦ after_take C P e f g M ne is n
      ]
    ]

-- ---- while g waits

pub lead_bounded : LeadIsBounded
lead_bounded C H f g r M ne is some = let low : (most_of M C H f -ℤ ground M C H g) ≤ℤ ever_bound C M = bound_holds C H f g M ne is in rw some at low

by_account : (most_f least_g of_f of_g z : ℤ) → (most_f -ℤ least_g) ≤ℤ z → of_f ≤ℤ most_f → least_g ≤ℤ of_g → (of_f -ℤ of_g) ≤ℤ z
by_account most_f least_g of_f of_g z low high_f low_g = omega (arith, ints, low, high_f, low_g)

pub accounts_bounded : AccountsAreBounded
accounts_bounded C H f g r M of_f of_g ne is some account_f account_g =
    by_account (most_of M C H f) (least_of C H g) (of_f H) (of_g H) (ever_bound C M) (lead_bounded C H f g r M ne is some) (account_f H ([], refl)).1 (account_g H ([], refl)).0
