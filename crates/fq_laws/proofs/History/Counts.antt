-- How many requests wait and run, at one entry more.
use Rattle.std.proofs.Common.{ℕ, ◌+◌, ◌^◌, ◌==◌, ◌<◌, ◌≡◌, false, arith, refl, sym, true, suc, ◌≤◌, [], ◌∷◌, length}
use Rattle.std.proofs.lemmas.Bool.{false≢true, eq-eqb, ne_eqb, not_from_false, false_from_ne_true, or_left, both_ways, and_from, and_left, and_right}
use Rattle.fq_model.specs.declared.config.Config.{Config}
use Rattle.fq_model.specs.declared.event.Act.TheVariants.{Submit, Take, Done, Report, Withdraw}
use Rattle.fq_model.specs.History.{History, is_submitted, is_taken, is_removed, is_waiting, waiting, submits, request_bound, is_done, is_running, running, with_submit}
use Rattle.fq_model.specs.Rules.{IsLegal}
use Rattle.fq_model.specs.declared.event.Act.{Act}
use Rattle.fq_laws.specs.Words.{one_more, is_quiet}
use Rattle.fq_laws.proofs.Sums.{count_zero, count_more}
use Rattle.fq_laws.proofs.History.Requests.{submitted_below, removed_submitted, done_taken}
use Rattle.fq_laws.proofs.History.Asked.{waits_untaken}

-- ---- the counts, at one entry more

-- only the Submit, the Take or the Withdraw of r changes whether r waits
pub waiting_submit : (C : Config) (P : History) (who m request tenant kind declared label : ℕ) → IsLegal C P → request ≡ submits P → request < 2 ^ 32 → waiting (one_more who m (Submit request tenant kind declared label) P) ≡ waiting P + 1
unfolding waiting is_waiting is_submitted is_removed request_bound
waiting_submit C P who m request tenant kind declared label l n b =
    let fresh : is_submitted P request ≡ false = false_from_ne_true _ (λ h. let k : request < submits P = submitted_below C P request l h in omega arith) in
    let there : is_removed P request ≡ false = false_from_ne_true _ (λ h. both_ways _ fresh (removed_submitted C P request l h)) in
    count_more _ _ request (2 ^ 32) b (and_left _ _ fresh) (and_from _ _ (or_left _ _ (eq-eqb request request refl)) (not_from_false _ there))
    (λ s ne. let no : (request == s) ≡ false = ne_eqb request s (λ e. ne (sym e)) in rw no refl)

pub waiting_take : (P : History) (who m i request estimate : ℕ) → is_waiting P request ≡ true → request < 2 ^ 32 → waiting P ≡ waiting (one_more who m (Take i request estimate) P) + 1
unfolding waiting is_waiting is_submitted is_removed request_bound
waiting_take P who m i request estimate w b =
    count_more _ _ request (2 ^ 32) b (let yes : (request == request) ≡ true = eq-eqb request request refl in rw yes (and_right _ _ refl)) w
    (λ s ne. let no : (request == s) ≡ false = ne_eqb request s (λ e. ne (sym e)) in rw no refl)

pub waiting_withdraw : (P : History) (who m request : ℕ) → is_waiting P request ≡ true → request < 2 ^ 32 → waiting P ≡ waiting (one_more who m (Withdraw request) P) + 1
unfolding waiting is_waiting is_submitted is_removed request_bound
waiting_withdraw P who m request w b =
    count_more _ _ request (2 ^ 32) b (let yes : (request == request) ≡ true = eq-eqb request request refl in rw yes (and_right _ _ refl)) w
    (λ s ne. let no : (request == s) ≡ false = ne_eqb request s (λ e. ne (sym e)) in rw no refl)

pub running_take : (C : Config) (P : History) (who m i request estimate : ℕ) → IsLegal C P → is_waiting P request ≡ true → request < 2 ^ 32 → running (one_more who m (Take i request estimate) P) ≡ running P + 1
unfolding running is_running is_done is_taken request_bound
running_take C P who m i request estimate l w b =
    let untaken : is_taken P request ≡ false = waits_untaken P request w in
    let undone : is_done P request ≡ false = false_from_ne_true _ (λ h. both_ways _ untaken (done_taken C P request l h)) in
    count_more _ _ request (2 ^ 32) b (and_left _ _ untaken) (and_from _ _ (or_left _ _ (eq-eqb request request refl)) (not_from_false _ undone))
    (λ s ne. let no : (request == s) ≡ false = ne_eqb request s (λ e. ne (sym e)) in rw no refl)

pub running_done : (P : History) (who m i request cost : ℕ) → is_running P request ≡ true → request < 2 ^ 32 → running P ≡ running (one_more who m (Done i request cost) P) + 1
unfolding running is_running is_done is_taken request_bound
running_done P who m i request cost w b =
    count_more _ _ request (2 ^ 32) b (let yes : (request == request) ≡ true = eq-eqb request request refl in rw yes (and_right _ _ refl)) w
    (λ s ne. let no : (request == s) ≡ false = ne_eqb request s (λ e. ne (sym e)) in rw no refl)

weighs_one : (a : Act) (n : ℕ) → with_submit a n ≤ suc n
weighs_one (Submit request tenant kind declared label) n = omega arith
weighs_one _ n = omega arith

pub submits_le_length : (P : History) → submits P ≤ length P
submits_le_length [] = omega arith
submits_le_length (e ∷ P) = omega (arith, submits_le_length P, weighs_one e.act (submits P))

pub running_submit : (P : History) (who m request tenant kind declared label : ℕ) → running (one_more who m (Submit request tenant kind declared label) P) ≡ running P
unfolding running is_running is_done is_taken
running_submit P who m request tenant kind declared label = refl

pub running_report : (P : History) (who m i request used : ℕ) → running (one_more who m (Report i request used) P) ≡ running P
unfolding running is_running is_done is_taken
running_report P who m i request used = refl

pub running_withdraw : (P : History) (who m request : ℕ) → running (one_more who m (Withdraw request) P) ≡ running P
unfolding running is_running is_done is_taken
running_withdraw P who m request = refl

pub waiting_report : (P : History) (who m i request used : ℕ) → waiting (one_more who m (Report i request used) P) ≡ waiting P
unfolding waiting is_waiting is_submitted is_removed
waiting_report P who m i request used = refl

pub waiting_done : (P : History) (who m i request cost : ℕ) → waiting (one_more who m (Done i request cost) P) ≡ waiting P
unfolding waiting is_waiting is_submitted is_removed
waiting_done P who m i request cost = refl

pub running_quiet : (P : History) (who m : ℕ) (a : Act) → is_quiet a ≡ true → running (one_more who m a P) ≡ running P
unfolding running is_running is_done is_taken
running_quiet P who m (Take worker request estimate) q = absurd (false≢true q)
running_quiet P who m (Done worker request cost) q = absurd (false≢true q)
running_quiet P who m _ q = refl

pub waiting_quiet : (P : History) (who m : ℕ) (a : Act) → is_quiet a ≡ true → waiting (one_more who m a P) ≡ waiting P
unfolding waiting is_waiting is_submitted is_removed
waiting_quiet P who m (Submit request tenant kind declared label) q = absurd (false≢true q)
waiting_quiet P who m (Take worker request estimate) q = absurd (false≢true q)
waiting_quiet P who m (Withdraw request) q = absurd (false≢true q)
waiting_quiet P who m _ q = refl

pub waiting_none : waiting [] ≡ 0
unfolding waiting is_waiting is_submitted is_removed
waiting_none = count_zero _ _ (λ r. refl)

pub running_none : running [] ≡ 0
unfolding running is_running is_done is_taken
running_none = count_zero _ _ (λ r. refl)
