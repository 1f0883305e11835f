-- Bounds of the lead of one tenant over another: where every cost is as declared, and where costs are not known.
use Rattle.std.specs.Prelude.{ℕ, ◌+◌, ◌*◌, ◌≡◌, ◌≢◌, true, ◌∷◌, ◌++◌, Some, None, ℤ, pos, ◌+ℤ◌, ◌-ℤ◌, ◌≤ℤ◌, ◌↔◌}
use Rattle.std.specs.Int.{int_max}
use Rattle.fq_model.specs.declared.config.Config.{Config}
use Rattle.fq_model.specs.declared.event.Entry.{Entry}
use Rattle.fq_model.specs.History.{History, head}
use Rattle.fq_model.specs.Time.{last_moment}
use Rattle.fq_model.specs.Charge.{virtual_charge, greatest}
use Rattle.fq_model.specs.Keys.{start}
use Rattle.fq_model.specs.Gap.{is_shared, start_difference, run_start, lengths_in_bound, longest_length, TagGap, tag_gap}
use Rattle.fq_model.specs.Limits.{InLimits}
use Rattle.fq_model.specs.Rules.{IsLegal}
use Rattle.fq_model.specs.Lead.{lead, longest_of, shortest_of, measured_lead, take_lengths, take_doubts, measured_gap}
use Rattle.gap_laws.specs.Words.{IsPrefix, AreSharedFrom, WaitsFrom, AreNoShorter, takes_after, AreCaps, AreLows, TakesStayBelow, AreNoLonger, IsAccount, HasDeclaredCosts, taken_length, IsSharedIn, IsFirstIn, RunBegins, IsGreatestAt, IsGreatestOver}

-- ---- the entries that raise a charge and a start

-- one entry on, a virtual charge is greater by the length that the entry takes
abbrev pub ChargeRisesAtTakes : Type 0
ChargeRisesAtTakes =
    (C : Config) (P : History) (e : Entry) (t : ℕ) → HasDeclaredCosts C (e ∷ P)
    → virtual_charge C (e ∷ P) t ≡ virtual_charge C P t + taken_length C P t e.act

-- so is the start of a tenant that waits
abbrev pub StartRisesAtTakes : Type 0
StartRisesAtTakes =
    (C : Config) (P : History) (e : Entry) (t r : ℕ) → HasDeclaredCosts C (e ∷ P) → head P t ≡ Some r
    → start C (e ∷ P) e.moment t ≡ start C P (last_moment P) t + taken_length C P t e.act

-- ---- the bound

-- the run of each shared prefix begins at its `run_start`
abbrev pub RunStartIs : Type 0
RunStartIs = (P : History) (f g : ℕ) → is_shared P f g ≡ true → RunBegins P f g (run_start P f g)

-- the lengths in the bound, in steps
abbrev pub bound_length : Config → History → ℕ → ℕ → ℤ
bound_length C H f g = pos (lengths_in_bound C.policy * longest_length C H f g)

-- at each shared prefix P the start of f is above that of g by no more than where the run of P began, or by no more
-- than the lengths in the bound
abbrev pub GapStaysBelow : Type 0
GapStaysBelow =
    (C : Config) (H P : History) (f g : ℕ) → HasDeclaredCosts C H → IsSharedIn H f g P
    → start_difference C P f g ≤ℤ int_max (start_difference C (run_start P f g) f g) (bound_length C H f g)

-- the largest difference of a gap is at most its bound
abbrev pub LargestIsBounded : Type 0
LargestIsBounded =
    (C : Config) (H : History) (f g : ℕ) (gap : TagGap) → HasDeclaredCosts C H → tag_gap C H f g ≡ Some gap
    → gap.largest ≤ℤ gap.bound

-- ---- the parts of a gap

-- there is a gap exactly where some prefix is shared
abbrev pub GapIsThere : Type 0
GapIsThere =
    (C : Config) (H : History) (f g : ℕ) → (tag_gap C H f g ≡ None) ↔ ((P : History) → ¬ IsSharedIn H f g P)

-- its largest difference is the greatest at a shared prefix
abbrev pub LargestIsGreatest : Type 0
LargestIsGreatest =
    (C : Config) (H : History) (f g : ℕ) (gap : TagGap) → tag_gap C H f g ≡ Some gap
    → IsGreatestAt (IsSharedIn H f g) (λ P. start_difference C P f g) gap.largest

-- its bound is the greater of the lengths in the bound and of the greatest difference where a run begins
abbrev pub BoundIsGreatest : Type 0
BoundIsGreatest =
    (C : Config) (H : History) (f g : ℕ) (gap : TagGap) → tag_gap C H f g ≡ Some gap
    → IsGreatestOver (IsFirstIn H f g) (λ P. start_difference C P f g) (bound_length C H f g) gap.bound

-- ---- where costs are not known

-- while both wait, from P to Q, the lead of f over g is at most the lead at P, or a bound B of the Takes of f in
-- between, whatever the caps and lows of the lengths
abbrev pub LeadStaysBelow : Type 0
LeadStaysBelow =
    (cap low : ℕ → ℕ) (C : Config) (P Q : History) (f g : ℕ) (B : ℤ) → f ≢ g → InLimits C → IsLegal C Q
    → AreCaps C Q f cap → AreLows C Q g low → IsPrefix P Q → AreSharedFrom P Q f g
    → TakesStayBelow cap low C P Q f g B → lead cap low C Q f g ≤ℤ int_max (lead cap low C P f g) B

-- the lead of f over g, where each running request may turn out to be M long, or to cost nothing
abbrev pub worst_lead : ℕ → Config → History → ℕ → ℕ → ℤ
worst_lead M C P f g = lead (λ r. M) (λ r. 0) C P f g

-- one request of the greatest length more than there are workers
abbrev pub all_and_one : Config → ℕ → ℕ
all_and_one C M = C.workers * M + M

-- the worst case: the lead where the run began, or `all_and_one` less a step
abbrev pub WorstLeadStaysBelow : Type 0
WorstLeadStaysBelow =
    (C : Config) (H P : History) (f g M : ℕ) → f ≢ g → InLimits C → IsLegal C H → AreNoLonger C H f g M
    → IsSharedIn H f g P
    → worst_lead M C P f g ≤ℤ int_max (worst_lead M C (run_start P f g) f g) (pos (all_and_one C M) -ℤ pos 1)

-- by starts alone: f is ahead of g by no more than it was where the run began or by one request of the greatest length,
-- and by one more for each worker
abbrev pub DifferenceStaysBelow : Type 0
DifferenceStaysBelow =
    (C : Config) (H P : History) (f g M : ℕ) → f ≢ g → InLimits C → IsLegal C H → AreNoLonger C H f g M
    → IsSharedIn H f g P
    → start_difference C P f g ≤ℤ (int_max (start_difference C (run_start P f g) f g) (pos M) +ℤ pos (C.workers * M))

-- the measured bound: the largest difference of a measured gap is at most its bound, whatever the costs
abbrev pub MeasuredIsBounded : Type 0
MeasuredIsBounded =
    (C : Config) (H : History) (f g : ℕ) (gap : TagGap) → f ≢ g → InLimits C → IsLegal C H
    → measured_gap C H f g ≡ Some gap → gap.largest ≤ℤ gap.bound

-- there is a measured gap exactly where some prefix is shared
abbrev pub MeasuredIsThere : Type 0
MeasuredIsThere =
    (C : Config) (H : History) (f g : ℕ) → (measured_gap C H f g ≡ None) ↔ ((P : History) → ¬ IsSharedIn H f g P)

-- its largest difference is the greatest at a shared prefix
abbrev pub MeasuredIsGreatest : Type 0
MeasuredIsGreatest =
    (C : Config) (H : History) (f g : ℕ) (gap : TagGap) → measured_gap C H f g ≡ Some gap
    → IsGreatestAt (IsSharedIn H f g) (λ P. start_difference C P f g) gap.largest

-- the bound by the Takes of f while both wait: the greatest length of a head, or twice that under 2dfq and 2dfq+, and
-- the greatest doubt just after a Take
abbrev pub bound_of_takes : Config → History → ℕ → ℕ → ℤ
bound_of_takes C H f g =
    pos (lengths_in_bound C.policy * greatest (take_lengths C H f g) + greatest (take_doubts C H H f g))

-- the bound of a measured gap is the greater of the bound by its Takes and the greatest lead where both begin to wait
abbrev pub LeadBoundIsGreatest : Type 0
LeadBoundIsGreatest =
    (C : Config) (H : History) (f g : ℕ) (gap : TagGap) → measured_gap C H f g ≡ Some gap
    → IsGreatestOver (IsFirstIn H f g) (λ P. measured_lead C H P f g) (bound_of_takes C H f g) gap.bound

-- no taken request of t is longer at a prefix of H than its greatest length in H, or shorter than its least
abbrev pub MeasuredAreCaps : Type 0
MeasuredAreCaps =
    (C : Config) (H : History) (t : ℕ) → IsLegal C H
    → AreCaps C H t (longest_of C H t) × AreLows C H t (shortest_of C H t)

-- by any account f is ahead of g, at a prefix P at which both wait, by no more than the worst case
abbrev pub AccountsStayNear : Type 0
AccountsStayNear =
    (C : Config) (H P : History) (f g M : ℕ) (of_f of_g : History → ℤ) → f ≢ g → InLimits C → IsLegal C H
    → AreNoLonger C H f g M → IsSharedIn H f g P → IsAccount M C H f of_f → IsAccount M C H g of_g
    → (of_f P -ℤ of_g P) ≤ℤ int_max (worst_lead M C (run_start P f g) f g) (pos (all_and_one C M) -ℤ pos 1)

-- by any account f gains on g, from P to Q and while both wait, no more than one request of the greatest length more
-- than there are workers, and once more as much, or the lead that g had where both began to wait
abbrev pub GainStaysBelow : Type 0
GainStaysBelow =
    (C : Config) (P Q : History) (f g M : ℕ) (of_f of_g : History → ℤ) → f ≢ g → InLimits C → IsLegal C Q
    → AreNoLonger C Q f g M → AreNoLonger C Q g f M → IsPrefix P Q → AreSharedFrom P Q f g
    → IsAccount M C Q f of_f → IsAccount M C Q g of_g
    → ((of_f Q -ℤ of_f P) -ℤ (of_g Q -ℤ of_g P))
    ≤ℤ (pos (all_and_one C M) +ℤ int_max (worst_lead M C (run_start P g f) g f) (pos (all_and_one C M)))

-- while the head of g waits, from S on, f is taken no more often than its least length c goes into the lead of g at S
-- and one request of the greatest length, and once more
abbrev pub TakesAreFew : Type 0
TakesAreFew =
    (C : Config) (newer S : History) (f g r M c : ℕ) → f ≢ g → InLimits C → IsLegal C (newer ++ S)
    → AreNoLonger C (newer ++ S) f g M → AreNoShorter C S (newer ++ S) f c → WaitsFrom S (newer ++ S) g r
    → pos (takes_after f newer S * c) ≤ℤ (pos c +ℤ int_max (pos 0) (worst_lead M C S g f +ℤ pos M))

-- the Takes of f after S, where both wait at S, by the lead that g had where both began to wait
abbrev pub TakesAreFewInRun : Type 0
TakesAreFewInRun =
    (C : Config) (newer S : History) (f g r M c : ℕ) → f ≢ g → InLimits C → IsLegal C (newer ++ S)
    → AreNoLonger C (newer ++ S) f g M → AreNoLonger C (newer ++ S) g f M → AreNoShorter C S (newer ++ S) f c
    → WaitsFrom S (newer ++ S) g r → is_shared S f g ≡ true
    → pos (takes_after f newer S * c)
    ≤ℤ (pos c +ℤ (int_max (worst_lead M C (run_start S g f) g f) (pos (all_and_one C M)) +ℤ pos M))
