-- The number of entries of a legal history, and the weight of its Takes.
use Rattle.std.proofs.Common.{◌≡◌, ◌<◌, ◌≤◌, ◌+◌, ◌*◌, ◌^◌, ◌==◌, ℕ, suc, true, false, cond, [], ◌∷◌, ◌++◌, length, refl, sym, ap, arith, Option, Some, None, if◌then◌else◌, ◌≢◌}
use Rattle.std.proofs.lemmas.Bool.{eq-eqb, ne_eqb, or_parts, or_left, and_left, and_right, and_from, not_from_false, false≢true}
use Rattle.fq_model.specs.declared.config.Config.{Config}
use Rattle.fq_model.specs.declared.event.Act.{Act}
use Rattle.fq_model.specs.declared.event.Act.TheVariants.{Submit, Take, Report, Done, Close, Weight, Workers, Withdraw}
use Rattle.fq_model.specs.History.{History, Request, request_at, request_in, has_act, count_acts, is_change, is_close, is_closed, is_submitted, is_removed, is_waiting, waiting, running, submits}
use Rattle.fq_model.specs.Limits.{InLimits}
use Rattle.fq_model.specs.Rules.{IsLegal, Fits}
use Rattle.fq_model.specs.Sums.{sum_below}
use Rattle.fq_laws.specs.Words.{one_more}
use Rattle.fq_laws.proofs.Sums.{sum_at, sum_zero}
use Rattle.fq_laws.proofs.History.Counts.{running_submit, running_report, waiting_report, waiting_done, running_quiet, waiting_quiet, waiting_none, running_none}
use Rattle.fq_laws.proofs.History.Numbers.{waiting_submitted, waiting_taken, running_taken, running_finished, next_small, take_request_small, waits_number_small}
use Rattle.fq_laws.proofs.History.Requests.{fresh_unsubmitted, fresh_unremoved, asked_stays}
use Rattle.fq_laws.proofs.Rules.Takes.{take_waits}
use Rattle.trace_pool.proofs.Parts.{acts}
use Rattle.trace_pool.proofs.Sums.{act_sum, number_weight, take_weight, submit_weight, report_weight}

pub legal_older : (C : Config) (newer P : History) → IsLegal C (newer ++ P) → IsLegal C P
legal_older C [] P l = l
legal_older C (e ∷ newer) P l = legal_older C newer P l.0

abbrev pub reports : History → ℕ
reports P = act_sum report_weight (acts P)

-- three entries for each Submit, where the entries to come are counted, and one for each Report and Close
abbrev pub Balanced : History → Type 0
Balanced P = length P + 2 * waiting P + running P ≡ 3 * submits P + reports P + count_acts is_close P

balanced_at : (C : Config) (P : History) (who m : ℕ) (a : Act) → InLimits C → IsLegal C P → Fits C P m a → is_change a ≡ false → Balanced P → Balanced (one_more who m a P)
balanced_at C P who m (Submit request tenant kind declared label) lim l f n h =
    omega (arith, h, waiting_submitted C P who m request tenant kind declared label lim l f, running_submit P who m request tenant kind declared label)
balanced_at C P who m (Take worker request estimate) lim l f n h =
    omega (arith, h, waiting_taken C P who m worker request estimate lim l f, running_taken C P who m worker request estimate lim l f)
balanced_at C P who m (Report worker request used) lim l f n h =
    omega (arith, h, waiting_report P who m worker request used, running_report P who m worker request used)
balanced_at C P who m (Done worker request cost) lim l f n h =
    omega (arith, h, waiting_done P who m worker request cost, running_finished C P who m worker request cost lim l f)
balanced_at C P who m Close lim l f n h = omega (arith, h, waiting_quiet P who m Close refl, running_quiet P who m Close refl)
balanced_at C P who m (Weight tenant weight) lim l f n h = absurd (false≢true (sym n))
balanced_at C P who m (Workers count) lim l f n h = absurd (false≢true (sym n))
balanced_at C P who m (Withdraw request) lim l f n h = absurd (false≢true (sym n))

pub balanced : (C : Config) (P : History) → InLimits C → IsLegal C P → has_act is_change P ≡ false → Balanced P
balanced C [] lim l n = omega (arith, waiting_none, running_none)
balanced C (e ∷ P) lim l n =
    let x = or_parts (is_change e.act) (has_act is_change P) n in
    balanced_at C P e.who e.moment e.act lim l.0 l.3 x.0 (balanced C P lim l.0 x.1)

-- ---- a request that is taken or waits is submitted

-- the weight of request r, if it waits
abbrev waits : (ℕ → ℕ) → History → ℕ → ℕ
waits h P r = cond (is_waiting P r) (h r) 0

abbrev waiting_sum : (ℕ → ℕ) → History → ℕ
waiting_sum h P = sum_below (waits h P) (2 ^ 32)

-- the taken and the waiting requests weigh no more than the submitted requests
abbrev Covered : (ℕ → ℕ) → History → Type 0
Covered h P = act_sum (take_weight h) (acts P) + waiting_sum h P ≤ act_sum (number_weight h) (acts P)

sum_submit : (C : Config) (h : ℕ → ℕ) (P : History) (who m request tenant kind declared label : ℕ) → InLimits C → IsLegal C P → request ≡ submits P → waiting_sum h (one_more who m (Submit request tenant kind declared label) P) ≡ waiting_sum h P + h request
unfolding is_waiting is_submitted is_removed
sum_submit C h P who m request tenant kind declared label lim l n =
    let low : submits P ≤ request = omega arith in
    let fresh : is_submitted P request ≡ false = fresh_unsubmitted C P request l low in
    let there : is_removed P request ≡ false = fresh_unremoved C P request l low in
    let old : is_waiting P request ≡ false = and_left _ _ fresh in
    let new : is_waiting (one_more who m (Submit request tenant kind declared label) P) request ≡ true = and_from _ _ (or_left _ _ (eq-eqb request request refl)) (not_from_false _ there) in
    let before : waits h P request ≡ 0 = rw old refl in
    let after : waits h (one_more who m (Submit request tenant kind declared label) P) request ≡ h request = rw new refl in
    omega (
      arith,
      before,
      after,
      sum_at (waits h P) (waits h (one_more who m (Submit request tenant kind declared label) P)) request (2 ^ 32) (next_small C P request lim l n)
          (λ s ne. let no : (request == s) ≡ false = ne_eqb request s (λ e. ne (sym e)) in rw no refl),
    )

-- where one waiting request no longer waits, and each other waits or not as before
sum_gone : (h : ℕ → ℕ) (P Q : History) (request : ℕ) → request < 2 ^ 32 → is_waiting P request ≡ true → is_waiting Q request ≡ false → ((s : ℕ) → s ≢ request → is_waiting P s ≡ is_waiting Q s) → waiting_sum h P ≡ waiting_sum h Q + h request
sum_gone h P Q request small old new same =
    let before : waits h P request ≡ h request = rw old refl in
    let after : waits h Q request ≡ 0 = rw new refl in
    omega (arith, before, after, sum_at (waits h P) (waits h Q) request (2 ^ 32) small (λ s ne. ap (λ b. cond b (h s) 0) (same s ne)))

sum_take : (h : ℕ → ℕ) (P : History) (who m w request estimate : ℕ) → request < 2 ^ 32 → is_waiting P request ≡ true → waiting_sum h P ≡ waiting_sum h (one_more who m (Take w request estimate) P) + h request
unfolding is_waiting is_submitted is_removed
sum_take h P who m w request estimate small old =
    sum_gone h P (one_more who m (Take w request estimate) P) request small old
    (let yes : (request == request) ≡ true = eq-eqb request request refl in rw yes (and_right _ _ refl))
    (λ s ne. let no : (request == s) ≡ false = ne_eqb request s (λ e. ne (sym e)) in rw no refl)

sum_withdraw : (h : ℕ → ℕ) (P : History) (who m request : ℕ) → request < 2 ^ 32 → is_waiting P request ≡ true → waiting_sum h P ≡ waiting_sum h (one_more who m (Withdraw request) P) + h request
unfolding is_waiting is_submitted is_removed
sum_withdraw h P who m request small old =
    sum_gone h P (one_more who m (Withdraw request) P) request small old
    (let yes : (request == request) ≡ true = eq-eqb request request refl in rw yes (and_right _ _ refl))
    (λ s ne. let no : (request == s) ≡ false = ne_eqb request s (λ e. ne (sym e)) in rw no refl)

covered_at : (C : Config) (h : ℕ → ℕ) (P : History) (who m : ℕ) (a : Act) → InLimits C → IsLegal C P → Fits C P m a → Covered h P → Covered h (one_more who m a P)
unfolding is_waiting is_submitted is_removed
covered_at C h P who m (Submit request tenant kind declared label) lim l f ih = omega (arith, ih, sum_submit C h P who m request tenant kind declared label lim l f.numbered)
covered_at C h P who m (Take worker request estimate) lim l f ih =
    omega (arith, ih, sum_take h P who m worker request estimate (take_request_small C P m worker request estimate lim l f) (take_waits C P m worker request estimate f))
covered_at C h P who m (Report worker request used) lim l f ih = let same : waiting_sum h (one_more who m (Report worker request used) P) ≡ waiting_sum h P = refl in omega (arith, ih, same)
covered_at C h P who m (Done worker request cost) lim l f ih = let same : waiting_sum h (one_more who m (Done worker request cost) P) ≡ waiting_sum h P = refl in omega (arith, ih, same)
covered_at C h P who m Close lim l f ih = let same : waiting_sum h (one_more who m Close P) ≡ waiting_sum h P = refl in omega (arith, ih, same)
covered_at C h P who m (Weight tenant weight) lim l f ih = let same : waiting_sum h (one_more who m (Weight tenant weight) P) ≡ waiting_sum h P = refl in omega (arith, ih, same)
covered_at C h P who m (Workers count) lim l f ih = let same : waiting_sum h (one_more who m (Workers count) P) ≡ waiting_sum h P = refl in omega (arith, ih, same)
covered_at C h P who m (Withdraw request) lim l f ih = omega (arith, ih, sum_withdraw h P who m request (waits_number_small C P request lim l f) f)

covered : (C : Config) (h : ℕ → ℕ) (P : History) → InLimits C → IsLegal C P → Covered h P
unfolding is_waiting is_submitted is_removed
covered C h [] lim l = omega (arith, sum_zero (waits h []) (2 ^ 32) (λ r. refl))
covered C h (e ∷ P) lim l = covered_at C h P e.who e.moment e.act lim l.0 l.3 (covered C h P lim l.0)

-- the taken requests weigh no more than the submitted requests
pub taken_covered : (C : Config) (h : ℕ → ℕ) (P : History) → InLimits C → IsLegal C P → act_sum (take_weight h) (acts P) ≤ act_sum (number_weight h) (acts P)
taken_covered C h P lim l = omega (arith, covered C h P lim l)

-- ---- the weight of a request

-- the weight of a request, if it is known
abbrev pub known_weight : (Request → ℕ) → Option Request → ℕ
known_weight g None = 0
known_weight g (Some q) = g q

asked_at : (g : Request → ℕ) (H P : History) (a : Act) → ((r : ℕ) (q : Request) → request_in r a (request_at P r) ≡ Some q → request_at H r ≡ Some q) → number_weight (λ r. known_weight g (request_at H r)) a ≡ submit_weight g a
asked_at g H P (Submit request tenant kind declared label) stays =
    let q : Request = record { tenant = tenant; kind = kind; declared = declared; label = label } in
    let here : request_in request (Submit request tenant kind declared label) (request_at P request) ≡ Some q = rw (eq-eqb request request refl) refl in
    rw (stays request q here) refl
asked_at g H P _ stays = refl

asked_within : (C : Config) (g : Request → ℕ) (H P : History) → IsLegal C P → ((r : ℕ) (q : Request) → request_at P r ≡ Some q → request_at H r ≡ Some q) → act_sum (number_weight (λ r. known_weight g (request_at H r))) (acts P) ≡ act_sum (submit_weight g) (acts P)
asked_within C g H [] l stays = refl
asked_within C g H (e ∷ P) l stays = omega (arith, asked_at g H P e.act stays, asked_within C g H P l.0 (λ r q h. stays r q (asked_stays C P e r q l h)))

-- the numbers of the Submits weigh as much as their requests
pub asked_sum : (C : Config) (g : Request → ℕ) (H : History) → IsLegal C H → act_sum (number_weight (λ r. known_weight g (request_at H r))) (acts H) ≡ act_sum (submit_weight g) (acts H)
asked_sum C g H l = asked_within C g H H l (λ r q h. h)

pub asked_within_history : (C : Config) (newer P : History) (r : ℕ) (q : Request) → IsLegal C (newer ++ P) → request_at P r ≡ Some q → request_at (newer ++ P) r ≡ Some q
asked_within_history C [] P r q l h = h
asked_within_history C (e ∷ newer) P r q l h = asked_stays C (newer ++ P) e r q l (asked_within_history C newer P r q l.0 h)

-- ---- a history closes once

none_counted : (P : History) → has_act is_close P ≡ false → count_acts is_close P ≡ 0
none_counted [] h = refl
none_counted (e ∷ P) h = let x = or_parts (is_close e.act) (has_act is_close P) h in rw (x.0, none_counted P x.1) refl

close_at : (C : Config) (P : History) (m : ℕ) (a : Act) → Fits C P m a → count_acts is_close P ≤ 1 → (if is_close a then suc (count_acts is_close P) else count_acts is_close P) ≤ 1
unfolding is_closed
close_at C P m Close f ih = rw (none_counted P f) (omega arith)
close_at C P m _ f ih = ih

-- there is one Close at most
pub closes_once : (C : Config) (P : History) → IsLegal C P → count_acts is_close P ≤ 1
closes_once C [] l = omega arith
closes_once C (e ∷ P) l = close_at C P e.moment e.act l.3 (closes_once C P l.0)
