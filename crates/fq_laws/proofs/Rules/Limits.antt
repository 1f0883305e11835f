-- Moments, slots, numbers of entries and room, in legal histories.
use Rattle.std.proofs.Common.{◌≤◌, arith, [], ◌∷◌, ℕ, min, max, ◌^◌, ◌<◌, length, ◌+◌, ◌*◌, ◌≡◌, false, refl, sym}
use Rattle.std.proofs.lemmas.Bool.{or_left, eq-eqb, ne_eqb}
use Rattle.vt_fixed.specs.declared.limits.TheConstants.{GREATEST_MOMENT}
use Rattle.fq_model.specs.declared.config.Config.{Config}
use Rattle.fq_model.specs.History.{is_waiting, History, waiting, running, is_running, Runs, request_bound, is_closed, is_submitted, is_removed, submits, is_taken}
use Rattle.fq_model.specs.Time.{last_moment, effective_moment}
use Rattle.fq_model.specs.Rules.{IsLegal, Fits}
use Rattle.fq_model.specs.declared.event.Act.{Act}
use Rattle.fq_model.specs.declared.event.Act.TheVariants.{Submit, Take, Withdraw}
use Rattle.fq_model.specs.Limits.{InLimits}
use Rattle.fq_model.specs.Sums.{count_below}
use Rattle.fq_model.specs.declared.limits.TheConstants.{MOST_LONG_ENTRIES}
use Rattle.fq_laws.specs.Words.{one_more}
use Rattle.fq_laws.specs.Laws.{Room}
use Rattle.fq_laws.proofs.Rules.Takes.{take_waits}
use Rattle.fq_laws.proofs.History.Asked.{waits_submitted}
use Rattle.fq_laws.proofs.History.Counts.{waiting_submit, waiting_take, waiting_none, submits_le_length}
use Rattle.fq_laws.proofs.History.Numbers.{submits_small, submitted_small, runs_small, next_small, waiting_withdrawn}
use Rattle.fq_laws.proofs.Rules.Room.{has_room, needs}
use Rattle.fq_laws.proofs.Sums.{count_some, count_more, count_zero, count_at_most}
use Rattle.fq_laws.proofs.History.Requests.{worker_runs, fresh_unsubmitted, taken_submitted}

-- ---- moments

pub last_moment_small : (C : Config) (P : History) → IsLegal C P → last_moment P ≤ GREATEST_MOMENT
last_moment_small C [] l = omega arith
last_moment_small C (e ∷ P) l = l.2

least_of_both : (a b c : ℕ) → b ≤ c → b ≤ min (max a b) c
least_of_both a b c h = omega arith

pub effective_rises : (C : Config) (P : History) (m : ℕ) → IsLegal C P → last_moment P ≤ effective_moment P m
effective_rises C P m l = least_of_both m (last_moment P) GREATEST_MOMENT (last_moment_small C P l)

min_small : (a b : ℕ) → min a b ≤ b
min_small a b = omega arith

pub effective_small : (P : History) (m : ℕ) → effective_moment P m ≤ GREATEST_MOMENT
effective_small P m = min_small (max m (last_moment P)) GREATEST_MOMENT

-- ---- slots

slots_at : (C : Config) (P : History) (who m : ℕ) (a : Act) → InLimits C → IsLegal C P → Fits C P m a → waiting P ≤ C.requests → waiting (one_more who m a P) ≤ C.requests
unfolding waiting is_waiting is_submitted is_removed
slots_at C P who m (Submit request tenant kind declared label) lim l f ih =
    let b : request < 2 ^ 32 = omega (arith, submits_small C P lim l, f.numbered) in
    omega (arith, waiting_submit C P who m request tenant kind declared label l f.numbered b, f.slot)
slots_at C P who m (Take worker request estimate) lim l f ih =
    let w = take_waits C P m worker request estimate f in
    let b : request < 2 ^ 32 = submitted_small C P request lim l (waits_submitted P request w) in
    omega (arith, waiting_take P who m worker request estimate w b)
slots_at C P who m (Withdraw request) lim l f ih = omega (arith, waiting_withdrawn C P who m request lim l f)
slots_at C P who m _ lim l f ih = ih

-- no more requests wait than there are slots
pub waiting_slots : (C : Config) (P : History) → InLimits C → IsLegal C P → waiting P ≤ C.requests
waiting_slots C [] lim l = omega (arith, waiting_none)
waiting_slots C (e ∷ P) lim l = slots_at C P e.who e.moment e.act lim l.0 l.3 (waiting_slots C P lim l.0)

-- ---- room

pub length_entries : (C : Config) (P : History) → InLimits C → IsLegal C P → length P ≤ C.entries
length_entries C P lim l = omega (arith, has_room C P lim l)

-- a running request is counted
pub running_some : (C : Config) (P : History) (i r : ℕ) → InLimits C → IsLegal C P → Runs P i r → 1 ≤ running P
unfolding running request_bound
running_some C P i r lim l h = count_some (is_running P) r (2 ^ 32) (runs_small C P i r lim l h) (worker_runs P i r h)

-- where a request waits there is room for its Take, and for its Done
pub room_take : (C : Config) (P : History) → InLimits C → IsLegal C P → 1 ≤ waiting P → length P + 2 ≤ C.entries
room_take C P lim l w = omega (arith, has_room C P lim l)

-- where a request runs there is room for its Done
pub room_done : (C : Config) (P : History) (i r : ℕ) → InLimits C → IsLegal C P → Runs P i r → length P < C.entries
room_done C P i r lim l h = omega (arith, has_room C P lim l, running_some C P i r lim l h)

-- there is room for the first Close
pub room_close : (C : Config) (P : History) → InLimits C → IsLegal C P → is_closed P ≡ false → length P < C.entries
room_close C P lim l h =
    let k : length P + 2 * waiting P + running P + 1 ≤ C.entries = rw h at (has_room C P lim l) in
    omega arith

-- each entry for which there is room
pub room_now : (C : Config) (P : History) → InLimits C → IsLegal C P → Room C P
room_now C P lim l = record {
  for_all = has_room C P lim l;
  for_take = λ w. omega (arith, room_take C P lim l w);
  for_done = λ i r h. room_done C P i r lim l h;
  for_close = λ h. room_close C P lim l h;
}

-- ---- the numbers of entries and of requests

submitted_count_at : (C : Config) (P : History) (who m : ℕ) (a : Act) → InLimits C → IsLegal C P → Fits C P m a → count_below (is_submitted P) (2 ^ 32) ≡ submits P → count_below (is_submitted (one_more who m a P)) (2 ^ 32) ≡ submits (one_more who m a P)
unfolding is_submitted
submitted_count_at C P who m (Submit request tenant kind declared label) lim l f ih =
    let small : request < 2 ^ 32 = next_small C P request lim l f.numbered in
    let one : count_below (is_submitted (one_more who m (Submit request tenant kind declared label) P)) (2 ^ 32) ≡ count_below (is_submitted P) (2 ^ 32) + 1 = count_more (is_submitted P) (is_submitted (one_more who m (Submit request tenant kind declared label) P)) request (2 ^ 32) small (fresh_unsubmitted C P request l (omega (arith, f.numbered))) (or_left _ _ (eq-eqb request request refl)) (λ s ne. rw (ne_eqb request s (λ e. ne (sym e))) refl) in
    omega arith
submitted_count_at C P who m _ lim l f ih = ih

-- as many requests are submitted as there are Submits
pub submitted_count : (C : Config) (P : History) → InLimits C → IsLegal C P → count_below (is_submitted P) request_bound ≡ submits P
unfolding is_submitted request_bound
submitted_count C [] lim l = count_zero (is_submitted []) (2 ^ 32) (λ r. refl)
submitted_count C (e ∷ P) lim l = submitted_count_at C P e.who e.moment e.act lim l.0 l.3 (submitted_count C P lim l.0)

pub entries_low : (C : Config) (P : History) → InLimits C → IsLegal C P → (length P ≤ C.entries) × (length P ≤ MOST_LONG_ENTRIES)
entries_low C P lim l = let k : needs P ≤ C.entries = has_room C P lim l in (omega arith, omega (arith, lim.entries.1))

pub submits_low : (C : Config) (P : History) → InLimits C → IsLegal C P → (submits P ≤ length P) × (submits P ≤ MOST_LONG_ENTRIES)
submits_low C P lim l = let k = entries_low C P lim l in (submits_le_length P, omega (arith, submits_le_length P, k.1))

pub taken_count_low : (C : Config) (P : History) → InLimits C → IsLegal C P → count_below (is_taken P) request_bound ≤ submits P
taken_count_low C P lim l = omega (arith, submitted_count C P lim l, count_at_most (is_taken P) (is_submitted P) request_bound (λ r h. taken_submitted C P r l h))
