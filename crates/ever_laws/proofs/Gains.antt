-- The gain of one tenant on another while both wait.
use Rattle.std.proofs.Common.{ℕ, ◌+◌, ◌*◌, ◌/◌, ◌≤◌, ◌≡◌, true, refl, sym, subst, arith, [], ℤ, pos, ◌≤ℤ◌}
use Rattle.std.specs.Prelude.{◌-ℤ◌, ◌+ℤ◌}
use Rattle.std.specs.Int.{int_max}
use Rattle.std.proofs.lemmas.Int.{ints, clamps}
use Rattle.fq_model.specs.Ever.{greatest_part, ever_bound}
use Rattle.fq_model.specs.Gap.{is_shared}
use Rattle.fq_model.specs.Lead.{may_rise, may_fall, start_now}
use Rattle.gap_laws.specs.Laws.{worst_lead}
use Rattle.gap_laws.proofs.Leads.{lead_from}
use Rattle.gap_laws.proofs.Runs.{BothWait, both_wait}
use Rattle.gap_laws.proofs.WorstCase.{longest, nothing, worst, worst_premises}
use Rattle.ever_laws.specs.Laws.{GainIsBounded}
use Rattle.ever_laws.specs.Words.{IsPacedWithin, most_of, least_of, running_length}
use Rattle.ever_laws.proofs.Bound.{lead_bounded}
use Rattle.ever_laws.proofs.Counts.{no_longer, within_earlier}
use Rattle.ever_laws.proofs.Grounds.{runs_within}
use Rattle.ever_laws.proofs.Running.{two_run}

-- (starts of the two at P, their possible rises and falls, their running lengths, and the accounts at P and
-- at Q)
gained : (sf sg rf rg lf lg kf kg all M : ℕ) (lead_q most_q least_q f_p f_q g_p g_q z : ℤ) → lead_q ≤ℤ int_max (pos (sf + rf) -ℤ (pos sg -ℤ pos lg)) (pos (all + M) -ℤ pos 1) → (most_q -ℤ least_q) ≡ lead_q → f_q ≤ℤ most_q → least_q ≤ℤ g_q → (pos sf -ℤ pos lf) ≤ℤ f_p → g_p ≤ℤ pos (sg + rg) → (pos (sg + rg) -ℤ (pos sf -ℤ pos lf)) ≤ℤ z → rf + lf ≡ kf → rg + lg ≡ kg → kf + kg ≤ all → pos 0 ≤ℤ z → ((f_q -ℤ f_p) -ℤ (g_q -ℤ g_p)) ≤ℤ (pos (all + M) +ℤ z)
gained sf sg rf rg lf lg kf kg all M lead_q most_q least_q f_p f_q g_p g_q z low is fq gq fp gp back one two runs some = omega (arith, ints, clamps, low, is, fq, gq, fp, gp, back, one, two, runs, some)

bound_low : (n M part : ℕ) → 1 ≤ M → pos 0 ≤ℤ (pos ((n + n / 2 + 1) * M + part) -ℤ pos 1)
bound_low n M part some = omega (arith, ints, some)

pub gain_bounded : GainIsBounded
gain_bounded C P Q f g M of_f of_g ne is inner shared account_f account_g =
    let at_p : IsPacedWithin C P M = within_earlier C inner.0 P M (subst (λ H. IsPacedWithin C H M) inner.1 is) in
    let here : is_shared P f g ≡ true = shared P inner ([], refl) in
    let wait : BothWait P f g = both_wait P f g here in
    let now_f = account_f Q ([], refl) in
    let now_g = account_g Q ([], refl) in
    let then_f = account_f P inner in
    let then_g = account_g P inner in
    gained (start_now C P f) (start_now C P g) (may_rise (longest M) C P f) (may_rise (longest M) C P g) (may_fall nothing C P f) (may_fall nothing C P g) (running_length M C P f) (running_length M C P g) (C.workers * M) M
    (worst_lead M C Q f g) (most_of M C Q f) (least_of C Q g) (of_f P) (of_f Q) (of_g P) (of_g Q) (ever_bound C M)
    (lead_from (longest M) nothing C P Q f g (worst C M) ne (worst_premises C P Q f g M ne is.limits is.legal (no_longer C Q f g M is)) inner shared)
    refl now_f.1 now_g.0 then_f.0 then_g.1
    (lead_bounded C P g f wait.first M (λ e. ne (sym e)) at_p wait.first_is)
    (runs_within C P f M at_p).parts (runs_within C P g M at_p).parts (two_run C P f g M ne) (bound_low C.workers M (greatest_part C M) is.lengths.some)
