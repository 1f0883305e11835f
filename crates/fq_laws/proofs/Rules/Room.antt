-- A legal history has room for the entries that have to follow.
use Rattle.std.proofs.Common.{ℕ, ◌≡◌, true, false, refl, ◌+◌, ◌*◌, length, if◌then◌else◌, ◌^◌, ◌<◌, ◌≤◌, arith, suc, [], ◌∷◌}
use Rattle.std.proofs.lemmas.Bool.{cond_both}
use Rattle.fq_model.specs.History.{History, is_close, is_closed, waiting, running, submits}
use Rattle.fq_model.specs.declared.config.Config.{Config}
use Rattle.fq_model.specs.Limits.{InLimits}
use Rattle.fq_model.specs.declared.event.Act.{Act}
use Rattle.fq_model.specs.declared.event.Act.TheVariants.{Submit, Take, Report, Done, Close, Weight, Workers, Withdraw}
use Rattle.fq_model.specs.Rules.{IsLegal, Fits, HasRoom}
use Rattle.fq_laws.specs.Words.{one_more, is_quiet}
use Rattle.fq_laws.proofs.History.Counts.{submits_le_length, waiting_submit, waiting_take, waiting_withdraw, running_take, running_withdraw, running_done, running_submit, running_report, waiting_report, waiting_done, running_quiet, waiting_quiet, waiting_none, running_none}
use Rattle.fq_laws.proofs.History.Requests.{submitted_below, taken_submitted, worker_runs, runs_taken}
use Rattle.fq_laws.proofs.History.Asked.{waits_submitted}
use Rattle.fq_laws.proofs.Rules.Takes.{take_waits}

-- the entries for which there must be room: those there are, those that are owed, and a first Close
abbrev pub needs : History → ℕ
needs P = length P + 2 * waiting P + running P + (if is_closed P then 0 else 1)

pub small_requests : (C : Config) (P : History) → InLimits C → needs P ≤ C.entries → submits P < 2 ^ 32
small_requests C P lim h = omega (arith, submits_le_length P, lim.entries)

-- an act that touches no request and is no Close fits where there is room for two entries
room_for_two : (C : Config) (P : History) (who m : ℕ) (a : Act) → is_quiet a ≡ true → is_close a ≡ false → HasRoom C P 2 → needs (one_more who m a P) ≤ C.entries
unfolding is_closed
room_for_two C P who m a q open_still room =
    rw (waiting_quiet P who m a q, running_quiet P who m a q, open_still)
    (cond_both _ 0 1 (λ x. suc (length P) + 2 * waiting P + running P + x ≤ C.entries) (λ _. omega (arith, room)) (λ _. omega (arith, room)))

room_at : (C : Config) (P : History) (who m : ℕ) (a : Act) → InLimits C → IsLegal C P → Fits C P m a → needs P ≤ C.entries → needs (one_more who m a P) ≤ C.entries
unfolding is_closed
room_at C P who m (Submit request tenant kind declared label) lim l f ih =
    let b : request < 2 ^ 32 = omega (arith, small_requests C P lim ih, f.numbered) in
    let w = waiting_submit C P who m request tenant kind declared label l f.numbered b in
    let r = running_submit P who m request tenant kind declared label in
    rw (w, r) (cond_both _ 0 1 (λ x. suc (length P) + 2 * (waiting P + 1) + running P + x ≤ C.entries) (λ _. omega (arith, f.room)) (λ _. omega (arith, f.room)))
room_at C P who m (Take worker request estimate) lim l f ih =
    let wt = take_waits C P m worker request estimate f in
    let b : request < 2 ^ 32 = omega (arith, small_requests C P lim ih, submitted_below C P request l (waits_submitted P request wt)) in
    let w = waiting_take P who m worker request estimate wt b in
    let r = running_take C P who m worker request estimate l wt b in
    omega (arith, w, r, ih)
room_at C P who m (Report worker request used) lim l f ih =
    rw (waiting_report P who m worker request used, running_report P who m worker request used)
    (cond_both _ 0 1 (λ x. suc (length P) + 2 * waiting P + running P + x ≤ C.entries) (λ _. omega (arith, f.1)) (λ _. omega (arith, f.1)))
room_at C P who m (Done worker request cost) lim l f ih =
    let rn = worker_runs P worker request f.runs in
    let b : request < 2 ^ 32 = omega (arith, small_requests C P lim ih, submitted_below C P request l (taken_submitted C P request l (runs_taken P request rn))) in
    let r = running_done P who m worker request cost rn b in
    let w = waiting_done P who m worker request cost in
    omega (arith, r, w, ih)
room_at C P who m Close lim l f ih =
    let h : length P + 2 * waiting P + running P + 1 ≤ C.entries = rw f at ih in
    rw (waiting_quiet P who m Close refl, running_quiet P who m Close refl) (omega arith)
room_at C P who m (Weight tenant weight) lim l f ih = room_for_two C P who m (Weight tenant weight) refl refl f.room
room_at C P who m (Workers count) lim l f ih = room_for_two C P who m (Workers count) refl refl f.room
room_at C P who m (Withdraw request) lim l f ih =
    let b : request < 2 ^ 32 = omega (arith, small_requests C P lim ih, submitted_below C P request l (waits_submitted P request f)) in
    let w = waiting_withdraw P who m request f b in
    let r = running_withdraw P who m request in
    omega (arith, w, r, ih)

pub has_room : (C : Config) (P : History) → InLimits C → IsLegal C P → needs P ≤ C.entries
unfolding is_closed
has_room C [] lim l = rw (waiting_none, running_none) (omega (arith, lim.entries))
has_room C (e ∷ P) lim l = room_at C P e.who e.moment e.act lim l.0 l.3 (has_room C P lim l.0)
