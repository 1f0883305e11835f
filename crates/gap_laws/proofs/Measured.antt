-- The bound that is measured on a history: the greatest and least length of each request there are its cap and its low.
use Rattle.std.proofs.Common.{ℕ, ◌+◌, ◌*◌, ◌≤◌, ◌≡◌, ◌≢◌, ◌∙◌, min, cond, Bool, true, false, refl, sym, ap, subst, arith, inl, inr, List, [], ◌∷◌, ◌++◌, Some, None, ℤ, pos, ◌≤ℤ◌}
use Rattle.std.specs.Prelude.{◌+ℤ◌, ◌-ℤ◌, option_map, ◌↔◌}
use Rattle.std.specs.Int.{int_max}
use Rattle.std.proofs.lemmas.Int.{ints, clamps}
use Rattle.std.proofs.lemmas.Bool.{both_ways, cond_both, and_parts, and_from, not-true, not_from_false}
use Rattle.fq_model.specs.declared.config.Config.{Config}
use Rattle.fq_model.specs.declared.event.Act.{Act}
use Rattle.fq_model.specs.declared.event.Entry.{Entry}
use Rattle.fq_model.specs.Limits.{InLimits}
use Rattle.fq_model.specs.History.{History, request_at, is_of_tenant, is_taken, pool_at}
use Rattle.fq_model.specs.Charge.{is_taken_of, charged, greatest}
use Rattle.fq_model.specs.Rules.{IsLegal}
use Rattle.fq_model.specs.Gap.{is_shared, run_start, start_difference, shared_differences, lengths_in_bound, greatest_of, largest_difference, TagGap}
use Rattle.fq_model.specs.Lead.{request_length, may_rise, may_fall, doubt, start_now, head_length, lead_of_take, takes_of, is_lead_take, longest_of, shortest_of, measured_lead, first_leads, take_lengths, take_doubts, lead_bound, measured_gap}
use Rattle.fq_laws.specs.Words.{Member}
use Rattle.fq_laws.proofs.History.Requests.{taken_known, asked_stays, untaken_nil}
use Rattle.gap_laws.specs.Words.{IsSharedIn, IsFirstIn, RunBegins, IsGreatestAt, AreCaps, AreLows, TakesStayBelow}
use Rattle.gap_laws.specs.Laws.{bound_of_takes, MeasuredIsBounded, MeasuredAreCaps, MeasuredIsThere, MeasuredIsGreatest, LeadBoundIsGreatest}
use Rattle.gap_laws.proofs.Declared.{legal_prefix}
use Rattle.gap_laws.proofs.Lengths.{greatest_covers}
use Rattle.gap_laws.proofs.Runs.{prefix_of_prefix, run_begins}
use Rattle.gap_laws.proofs.Told.{Among, among_low, greatest_among, values_where, value_counted, FoundAt, value_found, first_test, first_none, shared_counted, shared_found, gap_parts, largest_at}
use Rattle.gap_laws.proofs.Undoubted.{taken_stays, lead_low, taker_known}
use Rattle.gap_laws.proofs.WorstCase.{lead_stays_below, legal_in, caps_in}

-- ---- caps and lows

-- a taken request of t stays a taken request of t
of_tenant_stays : (C : Config) (e : Entry) (P : History) (t r : ℕ) → IsLegal C (e ∷ P) → is_taken_of P t r ≡ true → is_taken_of (e ∷ P) t r ≡ true
unfolding is_taken_of
of_tenant_stays C e P t r l h =
    let p = and_parts (is_of_tenant t (request_at P r)) (is_taken P r) h in
    let q = taken_known C P r l.0 p.1 in
    let own : is_of_tenant t (Some q.0) ≡ true = rw q.1 at p.0 in
    let now : is_of_tenant t (request_at (e ∷ P) r) ≡ true = ap (is_of_tenant t) (asked_stays C P e r q.0 l q.1) ∙ own in
    and_from (is_of_tenant t (request_at (e ∷ P) r)) (is_taken (e ∷ P) r) now (taken_stays e P r p.1)

of_tenant_on : (C : Config) (newer P : History) (t r : ℕ) → IsLegal C (newer ++ P) → is_taken_of P t r ≡ true → is_taken_of (newer ++ P) t r ≡ true
of_tenant_on C [] P t r l h = h
of_tenant_on C (e ∷ newer) P t r l h = of_tenant_stays C e (newer ++ P) t r l (of_tenant_on C newer P t r l.0 h)

none_taken : (t r : ℕ) → is_taken_of [] t r ≡ true → ⊥
unfolding is_taken_of
none_taken t r h = both_ways (is_taken [] r) (untaken_nil r) (and_parts (is_of_tenant t (request_at [] r)) (is_taken [] r) h).1

charged_is : (C : Config) (P : History) (t r : ℕ) → is_taken_of P t r ≡ true → charged C P t r ≡ request_length C P t r
charged_is C P t r h = rw h refl

longest_covers : (C : Config) (newer P : History) (t r : ℕ) → is_taken_of P t r ≡ true → charged C P t r ≤ longest_of C (newer ++ P) t r
unfolding longest_of
longest_covers C [] [] t r h = absurd (none_taken t r h)
longest_covers C [] (e ∷ P) t r h = omega arith
longest_covers C (e ∷ newer) P t r h = omega (arith, longest_covers C newer P t r h)

shortest_first : (taken : Bool) (x y : ℕ) → cond taken (min x y) x ≤ x
shortest_first true x y = omega arith
shortest_first false x y = omega arith

shortest_covers : (C : Config) (newer P : History) (t r : ℕ) → IsLegal C (newer ++ P) → is_taken_of P t r ≡ true → shortest_of C (newer ++ P) t r ≤ charged C P t r
unfolding shortest_of
shortest_covers C [] [] t r l h = absurd (none_taken t r h)
shortest_covers C [] (e ∷ P) t r l h = shortest_first (is_taken_of P t r) (charged C (e ∷ P) t r) (shortest_of C P t r)
shortest_covers C (e ∷ newer) P t r l h = rw (of_tenant_on C newer P t r l.0 h) (omega (arith, shortest_covers C newer P t r l.0 h))

pub caps_are : (C : Config) (H : History) (t : ℕ) → AreCaps C H t (longest_of C H t)
caps_are C H t = λ Q r is taken. rw (is.1, ← charged_is C Q t r taken) (longest_covers C is.0 Q t r taken)

lows_are : (C : Config) (H : History) (t : ℕ) → IsLegal C H → AreLows C H t (shortest_of C H t)
lows_are C H t l = λ Q r is taken. rw (is.1, ← charged_is C Q t r taken) (shortest_covers C is.0 Q t r (subst (IsLegal C) is.1 l) taken)

-- ---- the lengths and the doubts at the Takes

is_take : (P : History) (a : Act) (f g i : ℕ) → is_shared P f g ≡ true → takes_of f P a ≡ Some i → is_lead_take P a f g ≡ true
is_take P a f g i shared some = rw (shared, some) refl

-- the lengths of both heads at a Take are among the lengths at the Takes
lengths_told : (C : Config) (newer : History) (e : Entry) (P : History) (f g : ℕ) → is_lead_take P e.act f g ≡ true → Member (head_length C P f) (take_lengths C (newer ++ e ∷ P) f g) × Member (head_length C P g) (take_lengths C (newer ++ e ∷ P) f g)
unfolding take_lengths
lengths_told C [] e P f g h = rw h (inl refl, inr (inl refl))
lengths_told C (d ∷ newer) e P f g h =
    let older = lengths_told C newer e P f g h in
    let Q : History = newer ++ e ∷ P in (
      cond_both (is_lead_take Q d.act f g) (head_length C Q f ∷ head_length C Q g ∷ take_lengths C Q f g) (take_lengths C Q f g) (Member (head_length C P f)) (λ _. inr (inr older.0)) (λ _. older.0),
      cond_both (is_lead_take Q d.act f g) (head_length C Q f ∷ head_length C Q g ∷ take_lengths C Q f g) (take_lengths C Q f g) (Member (head_length C P g)) (λ _. inr (inr older.1)) (λ _. older.1),
    )

-- the doubt after a Take is among the doubts after the Takes
doubt_told : (C : Config) (H newer : History) (e : Entry) (P : History) (f g : ℕ) → is_lead_take P e.act f g ≡ true → Member (doubt (longest_of C H f) (shortest_of C H g) C (e ∷ P) f g) (take_doubts C H (newer ++ e ∷ P) f g)
unfolding take_doubts
doubt_told C H [] e P f g h = rw h (inl refl)
doubt_told C H (d ∷ newer) e P f g h =
    let Q : History = newer ++ e ∷ P in
    let older = doubt_told C H newer e P f g h in
    cond_both (is_lead_take Q d.act f g) (doubt (longest_of C H f) (shortest_of C H g) C (d ∷ Q) f g ∷ take_doubts C H Q f g) (take_doubts C H Q f g) (Member (doubt (longest_of C H f) (shortest_of C H g) C (e ∷ P) f g)) (λ _. inr older) (λ _. older)

with_doubts : (x : ℤ) (lengths doubts most : ℕ) → x ≤ℤ pos lengths → doubts ≤ most → (x +ℤ pos doubts) ≤ℤ pos (lengths + most)
with_doubts x lengths doubts most low few = omega (arith, ints, low, few)

takes_below : (C : Config) (S H : History) (f g : ℕ) → IsLegal C H → TakesStayBelow (longest_of C H f) (shortest_of C H g) C S H f g (bound_of_takes C H f g)
takes_below C S H f g l = λ e Q i is from shared some.
    let newer : History = is.0 in
    let split : H ≡ newer ++ e ∷ Q = is.1 in
    let at : is_lead_take Q e.act f g ≡ true = is_take Q e.act f g i shared some in
    let told : Member (head_length C Q f) (take_lengths C H f g) × Member (head_length C Q g) (take_lengths C H f g) =
    subst (λ P. Member (head_length C Q f) (take_lengths C P f g) × Member (head_length C Q g) (take_lengths C P f g)) (sym split) (lengths_told C newer e Q f g at) in
    let doubted : Member (doubt (longest_of C H f) (shortest_of C H g) C (e ∷ Q) f g) (take_doubts C H H f g) =
    subst (λ P. Member (doubt (longest_of C H f) (shortest_of C H g) C (e ∷ Q) f g) (take_doubts C H P f g)) (sym split) (doubt_told C H newer e Q f g at) in
    let legal : IsLegal C (e ∷ Q) = legal_prefix C newer (e ∷ Q) (subst (IsLegal C) split l) in
    let ahead : lead_of_take C Q i f g ≤ℤ pos (lengths_in_bound C.policy * greatest (take_lengths C H f g)) =
    lead_low C.policy (head_length C Q f) (head_length C Q g) i (pool_at C Q) _ (taker_known C Q e.who e.moment f i e.act legal some) (greatest_covers _ _ told.0) (greatest_covers _ _ told.1) in
    with_doubts (lead_of_take C Q i f g) (lengths_in_bound C.policy * greatest (take_lengths C H f g)) _ (greatest (take_doubts C H H f g)) ahead (greatest_covers _ _ doubted)

-- ---- where both begin to wait

measured : Config → History → ℕ → ℕ → History → ℤ
measured C H f g P = measured_lead C H P f g

leads_are : (C : Config) (H P : History) (f g : ℕ) → first_leads C H P f g ≡ values_where (first_test f g) (measured C H f g) P
unfolding first_leads values_where first_test measured
leads_are C H [] f g = refl
leads_are C H (e ∷ P) f g = rw (leads_are C H P f g) refl

lead_counted : (C : Config) (H P : History) (f g : ℕ) → IsFirstIn H f g P → Among (measured_lead C H P f g) (first_leads C H H f g)
unfolding first_test measured
lead_counted C H P f g h =
    let split : H ≡ h.0.0.0 ++ P = h.0.0.1 in
    let counted : Among (measured C H f g P) (values_where (first_test f g) (measured C H f g) (h.0.0.0 ++ P)) =
    value_counted (first_test f g) (measured C H f g) h.0.0.0 P (first_none f g) (and_from _ _ h.0.1 (not_from_false _ h.1)) in
    rw (leads_are C H H f g) (subst (λ Q. Among (measured C H f g P) (values_where (first_test f g) (measured C H f g) Q)) (sym split) counted)

-- each of the first leads is the lead at a prefix where both begin to wait
lead_found : (C : Config) (H : History) (f g : ℕ) (x : ℤ) → Among x (first_leads C H H f g) → (P : History) × IsFirstIn H f g P × (measured_lead C H P f g ≡ x)
unfolding first_test measured
lead_found C H f g x h =
    let w : FoundAt (first_test f g) (measured C H f g) H x = value_found (first_test f g) (measured C H f g) H x (rw (leads_are C H H f g) at h) in
    let p = and_parts _ _ w.passes in
    (w.at, ((w.is_prefix, p.0), not-true _ p.1), w.is)

-- ---- the law

starts_below : (sf sg uf ug : ℕ) (b B bound : ℤ) → (pos (sf + uf) -ℤ (pos sg -ℤ pos ug)) ≤ℤ int_max b B → b ≤ℤ bound → B ≤ℤ bound → (pos sf -ℤ pos sg) ≤ℤ bound
starts_below sf sg uf ug b B bound h first takes = omega (arith, ints, clamps, h, first, takes)

-- the difference at each shared prefix is at most the bound
measured_below : (C : Config) (H P : History) (f g : ℕ) → f ≢ g → InLimits C → IsLegal C H → IsSharedIn H f g P → start_difference C P f g ≤ℤ lead_bound C H f g
unfolding start_difference lead_bound
measured_below C H P f g ne lim l is =
    let Q : History = run_start P f g in
    let run : RunBegins P f g Q = run_begins P f g is.1 in
    let first : IsFirstIn H f g Q = ((prefix_of_prefix Q P H run.first.0.0 is.0, run.first.0.1), run.first.1) in
    starts_below (start_now C P f) (start_now C P g) (may_rise (longest_of C H f) C P f) (may_fall (shortest_of C H g) C P g) (measured_lead C H Q f g) (bound_of_takes C H f g) _
    (lead_stays_below (longest_of C H f) (shortest_of C H g) C Q P f g (bound_of_takes C H f g) ne lim (legal_in C H P is.0 l)
    (caps_in C H P f (longest_of C H f) is.0 (caps_are C H f)) (λ R r inner taken. lows_are C H g l R r (prefix_of_prefix R P H inner is.0) taken)
    run.first.0.0 run.shared (λ e R i inner from shared act. takes_below C Q H f g l e R i (prefix_of_prefix (e ∷ R) P H inner is.0) from shared act))
    (among_low (measured_lead C H Q f g) (bound_of_takes C H f g) (first_leads C H H f g) (inr (lead_counted C H Q f g first)))
    (among_low (bound_of_takes C H f g) (bound_of_takes C H f g) (first_leads C H H f g) (inl refl))

pub measured_bounded : MeasuredIsBounded
unfolding measured_gap
measured_bounded C H f g gap ne lim l h =
    let p = gap_parts (largest_difference C H f g) (lead_bound C H f g) gap h in
    let largest : IsGreatestAt (IsSharedIn H f g) (λ P. start_difference C P f g) gap.largest = largest_at C H f g gap.largest p.0 in
    rw (p.1, ← largest.reached.2) (measured_below C H largest.reached.0 f g ne lim l largest.reached.1)

-- ---- the parts of a measured gap

pub measured_greatest : MeasuredIsGreatest
unfolding measured_gap
measured_greatest C H f g gap h = largest_at C H f g gap.largest (gap_parts (largest_difference C H f g) (lead_bound C H f g) gap h).0

pub lead_bound_greatest : LeadBoundIsGreatest
unfolding measured_gap lead_bound
lead_bound_greatest C H f g gap h =
    let p = gap_parts (largest_difference C H f g) (lead_bound C H f g) gap h in
    record {
      reached = elim (greatest_among (bound_of_takes C H f g) (first_leads C H H f g)) [
        | inl e ↦ inl (rw p.1 e)
        | inr k ↦ inr (lead_found C H f g gap.bound (rw p.1 k))
      ];
      least = rw p.1 (among_low (bound_of_takes C H f g) (bound_of_takes C H f g) (first_leads C H H f g) (inl refl));
      greatest = λ P s. rw p.1 (among_low (measured_lead C H P f g) (bound_of_takes C H f g) (first_leads C H H f g) (inr (lead_counted C H P f g s)));
    }

none_measured : (C : Config) (H : History) (f g : ℕ) (xs : List ℤ) → shared_differences C H f g ≡ xs → (option_map {U = TagGap} (λ largest. record { largest = largest; bound = lead_bound C H f g }) (greatest_of xs) ≡ None) ↔ ((P : History) → ¬ IsSharedIn H f g P)
none_measured C H f g [] is = (λ h P s. rw is at (shared_counted C H P f g s), λ h. refl)
none_measured C H f g (x ∷ xs) is = (λ h. absurd (cc), λ h. let w = shared_found C H f g x (rw is (inl refl)) in absurd (h w.0 w.1))

pub measured_there : MeasuredIsThere
unfolding measured_gap largest_difference
measured_there C H f g = none_measured C H f g (shared_differences C H f g) refl

pub measured_caps : MeasuredAreCaps
measured_caps C H t l = (caps_are C H t, lows_are C H t l)
