-- The gain of one tenant on another while both wait, by any account of the two.
use Rattle.std.proofs.Common.{ℕ, ◌+◌, ◌*◌, ◌≤◌, ◌≡◌, ◌≢◌, true, refl, sym, arith, [], ℤ, pos, ◌≤ℤ◌}
use Rattle.std.specs.Prelude.{◌-ℤ◌, ◌+ℤ◌, is_some}
use Rattle.std.specs.Int.{int_max}
use Rattle.std.proofs.lemmas.Int.{ints, clamps}
use Rattle.std.proofs.lemmas.Bool.{and_parts, and_from}
use Rattle.fq_model.specs.declared.config.Config.{Config}
use Rattle.fq_model.specs.Limits.{InLimits}
use Rattle.fq_model.specs.History.{History, head}
use Rattle.fq_model.specs.Rules.{IsLegal}
use Rattle.fq_model.specs.Gap.{is_shared, run_start}
use Rattle.fq_model.specs.Lead.{may_rise, may_fall, start_now, most, least}
use Rattle.gap_laws.specs.Words.{IsPrefix, AreSharedFrom, AreNoLonger}
use Rattle.gap_laws.specs.Laws.{GainStaysBelow, AccountsStayNear, worst_lead}
use Rattle.gap_laws.proofs.Leads.{lead_from}
use Rattle.gap_laws.proofs.WorstCase.{longest, nothing, worst, worst_premises, legal_in, caps_in, doubt_high, worst_lead_below}

pub shared_both : (P : History) (f g : ℕ) → is_shared P f g ≡ true → is_shared P g f ≡ true
unfolding is_shared
shared_both P f g h = let p = and_parts (is_some (head P f)) (is_some (head P g)) h in and_from (is_some (head P g)) (is_some (head P f)) p.1 p.0

-- the worst case of the lead from P on, by the lead at P
worst_on : (C : Config) (P Q : History) (f g M : ℕ) → f ≢ g → InLimits C → IsLegal C Q → AreNoLonger C Q f g M → IsPrefix P Q → AreSharedFrom P Q f g → worst_lead M C Q f g ≤ℤ int_max (worst_lead M C P f g) (worst C M)
worst_on C P Q f g M ne lim l h is shared = lead_from (longest M) nothing C P Q f g (worst C M) ne (worst_premises C P Q f g M ne lim l h) is shared

-- (the starts of the two at P, by how much these may rise and fall, and the accounts at P and at Q)
gained : (sf sg rf rg lf lg all M : ℕ) (lead_q most_q least_q f_p f_q g_p g_q begun : ℤ) → lead_q ≤ℤ int_max (pos (sf + rf) -ℤ (pos sg -ℤ pos lg)) (pos (all + M) -ℤ pos 1) → (most_q -ℤ least_q) ≡ lead_q → f_q ≤ℤ most_q → least_q ≤ℤ g_q → (pos sf -ℤ pos lf) ≤ℤ f_p → g_p ≤ℤ pos (sg + rg) → (pos (sg + rg) -ℤ (pos sf -ℤ pos lf)) ≤ℤ int_max begun (pos (all + M) -ℤ pos 1) → rf + lg ≤ all → rg + lf ≤ all → ((f_q -ℤ f_p) -ℤ (g_q -ℤ g_p)) ≤ℤ (pos (all + M) +ℤ int_max begun (pos (all + M)))
gained sf sg rf rg lf lg all M lead_q most_q least_q f_p f_q g_p g_q begun low is fq gq fp gp back one two = omega (arith, ints, clamps, low, is, fq, gq, fp, gp, back, one, two)

pub gain_below : GainStaysBelow
gain_below C P Q f g M of_f of_g ne lim l longest_f longest_g is shared account_f account_g =
    let legal : IsLegal C P = legal_in C Q P is l in
    let back : (h : g ≡ f) → ⊥ = λ e. ne (sym e) in
    let here : is_shared P f g ≡ true = shared P is ([], refl) in
    let at_q = account_f Q ([], refl) in
    let other_q = account_g Q ([], refl) in
    let at_p = account_f P is in
    let other_p = account_g P is in
    gained (start_now C P f) (start_now C P g) (may_rise (longest M) C P f) (may_rise (longest M) C P g) (may_fall nothing C P f) (may_fall nothing C P g) (C.workers * M) M
    (worst_lead M C Q f g) (most (longest M) C Q f) (least nothing C Q g) (of_f P) (of_f Q) (of_g P) (of_g Q) (worst_lead M C (run_start P g f) g f)
    (worst_on C P Q f g M ne lim l longest_f is shared) refl at_q.1 other_q.0 at_p.0 other_p.1
    (worst_lead_below C Q P g f M back lim l longest_g (is, shared_both P f g here))
    (doubt_high C P f g M ne legal (caps_in C Q P g (longest M) is longest_f.of_g))
    (doubt_high C P g f M back legal (caps_in C Q P f (longest M) is longest_g.of_g))

near : (most_f least_g of_f of_g lead begun bound : ℤ) → (most_f -ℤ least_g) ≡ lead → lead ≤ℤ int_max begun bound → of_f ≤ℤ most_f → least_g ≤ℤ of_g → (of_f -ℤ of_g) ≤ℤ int_max begun bound
near most_f least_g of_f of_g lead begun bound is low high_f low_g = omega (arith, ints, clamps, is, low, high_f, low_g)

pub accounts_near : AccountsStayNear
accounts_near C H P f g M of_f of_g ne lim l h is account_f account_g =
    near (most (longest M) C P f) (least nothing C P g) (of_f P) (of_g P) (worst_lead M C P f g) (worst_lead M C (run_start P f g) f g) (worst C M) refl
    (worst_lead_below C H P f g M ne lim l h is) (account_f P is.0).1 (account_g P is.0).0
