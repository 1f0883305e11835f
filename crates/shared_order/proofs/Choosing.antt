-- The head that is chosen in an order is the choice over its table.
use Rattle.std.proofs.Common.{ℕ, ◌<◌, ◌≡◌, ◌↔◌, ◌⊎◌, Option, Some, None, length, get_or, inl, inr, arith, sym, ◌∙◌, ap, subst, List, [], ◌∷◌, pos, ◌≤ℤ◌, ◌<ℤ◌}
use Rattle.std.specs.List.{All, Contains}
use Rattle.std.proofs.lemmas.Int.{ints}
use Rattle.std.proofs.lemmas.Option.{slice_get_within}
use Rattle.std.proofs.lemmas.List.Elements.{All-contains, Contains-append_cases}
use Rattle.vt_fixed.specs.declared.limits.TheConstants.{GREATEST_LENGTH}
use Rattle.fq_model.specs.Keys.{HeadKeys, Turn, finish, eligible_key, IsEligible, FinishBefore, EligibleBefore, IsFirst, Every, IsChoice, NoneIsEligible}
use Rattle.tag_rules.specs.Tables.{Table, Has, NoneHas}
use Rattle.tag_rules.specs.Foreseen.{SomeIsShort, IsForeseenOver}
use Rattle.tag_rules.specs.declared.foresees.ForeseenChoice.{ForeseenChoice}
use Rattle.shared_order.specs.Reach.{key_by_finish, IsInReach}
use Rattle.shared_order.proofs.Reach.{eligible_in_reach, key_by_its_finish}
use Rattle.shared_order.specs.Heads.{HeadView, head_of, HeadBefore, IsSorted}
use Rattle.shared_order.specs.Search.{IsReached, key_of, IsSooner, IsFirstThat, IsLeast}
use Rattle.shared_order.specs.Mirrors.{keys_of, Mirrors, IsChosen}
use Rattle.shared_order.specs.Outlook.{IsWeighed, SomeIsSought, IsOutlook}
use Rattle.shared_order.proofs.Pieces.{back_pairs, across_pairs, holds_middle}
use Rattle.shared_order.proofs.Mirroring.{among}

finish_back : (h : HeadView) → finish (keys_of h) ≡ h.finish
finish_back h = omega (arith, ints)

-- a head of the order
low : (table : Table) (heads : List HeadView) (h : HeadView) → Mirrors table heads → Contains heads h → pos 0 ≤ℤ h.len
low table heads h m there = (All-contains (λ (x : HeadView). (pos 0 ≤ℤ x.len) × (x.len ≤ℤ GREATEST_LENGTH)) heads h m.in_range there).0

has_keys : (table : Table) (heads : List HeadView) (h : HeadView) → Mirrors table heads → Contains heads h → Has table h.tenant (keys_of h)
has_keys table heads h m there = All-contains (λ (x : HeadView). Has table x.tenant (keys_of x)) heads h m.known there

is_eligible : (at : Turn) (h : HeadView) → at.worker < at.workers → pos 0 ≤ℤ h.len → IsReached at h → IsEligible at (keys_of h)
is_eligible at h lt l reached = (eligible_in_reach at (keys_of h) lt l).1 (subst (λ z. IsInReach at z h.len) (sym (finish_back h)) reached)

is_reached : (at : Turn) (u : ℕ) (k : HeadKeys) → at.worker < at.workers → pos 0 ≤ℤ k.len → IsEligible at k → IsReached at (head_of u k)
is_reached at u k lt l eligible = (eligible_in_reach at k lt l).0 eligible

finishes_before : (h : HeadView) (u : ℕ) (k : HeadKeys) → HeadBefore h (head_of u k) → FinishBefore (keys_of h) k
finishes_before h u k before = subst (λ z. (z <ℤ finish k) ⊎ ((z ≡ finish k) × (h.request < k.request))) (sym (finish_back h)) before

key_is : (at : Turn) (h : HeadView) → at.worker < at.workers → pos 0 ≤ℤ h.len → key_of at h ≡ eligible_key at (keys_of h)
key_is at h lt l = ap (λ z. key_by_finish at z h.len) (sym (finish_back h)) ∙ sym (key_by_its_finish at (keys_of h) lt l)

eligible_before : (at : Turn) (h : HeadView) (u : ℕ) (k : HeadKeys) → at.worker < at.workers → pos 0 ≤ℤ h.len → pos 0 ≤ℤ k.len → IsSooner at h (head_of u k) → EligibleBefore at (keys_of h) k
eligible_before at h u k lt l m (inl less) = inl (subst (λ z. z <ℤ eligible_key at k) (key_is at h lt l) (subst (λ z. key_of at h <ℤ z) (sym (key_by_its_finish at k lt m)) less))
eligible_before at h u k lt l m (inr tie) = inr (sym (key_is at h lt l) ∙ (tie.0 ∙ sym (key_by_its_finish at k lt m)), finishes_before h u k tie.1)

-- ---- the choice

by_finish : (at : Turn) (table : Table) (heads : List HeadView) (h : HeadView) → at.worker < at.workers → Mirrors table heads → IsSorted heads → IsFirstThat (IsReached at) heads h → IsFirst (IsEligible at) FinishBefore (Has table) h.tenant (keys_of h)
by_finish at table heads h lt m sorted f =
    let there : Contains heads h = subst (λ (xs : List HeadView). Contains xs h) (sym f.stands) (holds_middle f.front h f.back) in
    let after : All (HeadBefore h) f.back = across_pairs HeadBefore (h ∷ []) f.back h (back_pairs HeadBefore f.front (h ∷ f.back) (subst IsSorted f.stands sorted)) (holds_middle [] h []) in
    record {
      has = has_keys table heads h m there;
      passes = is_eligible at h lt (low table heads h m there) f.passes;
      first = λ u k ne has eligible.
          let other : Contains heads (head_of u k) = m.held u k has in
          let reached : IsReached at (head_of u k) = is_reached at u k lt (low table heads (head_of u k) m other) eligible in
          elim (among f.front h f.back (head_of u k) (subst (λ (xs : List HeadView). Contains xs (head_of u k)) f.stands other)) [
            | inl beside ↦ elim (Contains-append_cases f.front f.back (head_of u k) beside) [
              | inl earlier ↦ absurd (All-contains (λ (x : HeadView). ¬ IsReached at x) f.front (head_of u k) f.none_earlier earlier reached)
              | inr later ↦ finishes_before h u k (All-contains (HeadBefore h) f.back (head_of u k) after later)
            ]
            | inr e ↦ absurd (ne (sym (ap (λ (x : HeadView). x.tenant) e)))
          ];
    }

by_key : (at : Turn) (table : Table) (heads : List HeadView) (h : HeadView) → at.worker < at.workers → Mirrors table heads → IsLeast (IsSooner at) heads h → IsFirst Every (EligibleBefore at) (Has table) h.tenant (keys_of h)
by_key at table heads h lt m l =
    let there : Contains heads h = subst (λ (xs : List HeadView). Contains xs h) (sym l.stands) (holds_middle l.front h l.back) in
    record {
      has = has_keys table heads h m there;
      passes = tt;
      first = λ u k ne has every.
          let other : Contains heads (head_of u k) = m.held u k has in
          let sooner = λ (s : IsSooner at h (head_of u k)). eligible_before at h u k lt (low table heads h m there) (low table heads (head_of u k) m other) s in
          elim (among l.front h l.back (head_of u k) (subst (λ (xs : List HeadView). Contains xs (head_of u k)) l.stands other)) [
            | inl beside ↦ elim (Contains-append_cases l.front l.back (head_of u k) beside) [
              | inl earlier ↦ sooner (All-contains (IsSooner at h) l.front (head_of u k) l.before_front earlier)
              | inr later ↦ sooner (All-contains (IsSooner at h) l.back (head_of u k) l.before_back later)
            ]
            | inr e ↦ absurd (ne (sym (ap (λ (x : HeadView). x.tenant) e)))
          ];
    }

none_eligible : (at : Turn) (table : Table) (heads : List HeadView) → at.worker < at.workers → Mirrors table heads → All (λ (x : HeadView). ¬ IsReached at x) heads → NoneIsEligible at (Has table)
none_eligible at table heads lt m none = λ u k has eligible.
    let other : Contains heads (head_of u k) = m.held u k has in
    All-contains (λ (x : HeadView). ¬ IsReached at x) heads (head_of u k) none other (is_reached at u k lt (low table heads (head_of u k) m other) eligible)

pub chosen : (at : Turn) (table : Table) (heads : List HeadView) (h : HeadView) → at.worker < at.workers → Mirrors table heads → IsSorted heads → IsChosen at heads h → IsChoice at (Has table) h.tenant (keys_of h)
chosen at table heads h lt m sorted (inl first) = inl (by_finish at table heads h lt m sorted first)
chosen at table heads h lt m sorted (inr least) = inr (none_eligible at table heads lt m least.0, by_key at table heads h lt m least.1)

pub none_chosen : (table : Table) (heads : List HeadView) → Mirrors table heads → heads ≡ [] → NoneHas table
none_chosen table heads m is = λ t k has. nothing (head_of t k) (subst (λ (xs : List HeadView). Contains xs (head_of t k)) is (m.held t k has))
  where
    nothing : (h : HeadView) → ¬ Contains [] h
    nothing h there = absurd (omega (arith, there.1))

-- ---- the foreseen choice

-- each head's tenant has a weight, where there is one a tenant
pub all_weighed : (table : Table) (heads : List HeadView) (weights : List ℕ) → Mirrors table heads → length weights ≡ length table → All (IsWeighed weights) heads
all_weighed table heads weights m same = λ k d within. omega (arith, same, slice_get_within table (get_or heads k d).tenant _ (m.known k d within))

some_smaller : (at : Turn) (table : Table) (heads : List HeadView) (weights : List ℕ) (below : ℕ) → at.worker < at.workers → Mirrors table heads → SomeIsSought at heads weights below ↔ SomeIsShort at table weights below
some_smaller at table heads weights below lt m = (
  λ s. record {
    tenant = s.0.tenant;
    keys = keys_of s.0;
    has = has_keys table heads s.0 m s.1.0;
    eligible = is_eligible at s.0 lt (low table heads s.0 m s.1.0) s.1.1.0;
    smaller = s.1.1.1;
  },
  λ s. let there : Contains heads (head_of s.tenant s.keys) = m.held s.tenant s.keys s.has in (
    head_of s.tenant s.keys,
    (there, (is_reached at s.tenant s.keys lt (low table heads (head_of s.tenant s.keys) m there) s.eligible, s.smaller)),
  ),
)

pub foreseen : (at : Turn) (table : Table) (heads : List HeadView) (weights : List ℕ) (below : ℕ) (found : Option ForeseenChoice) → at.worker < at.workers → Mirrors table heads → IsSorted heads → IsOutlook at heads weights below found → IsForeseenOver at table weights below found
foreseen at table heads weights below None lt m sorted is = none_chosen table heads m is
foreseen at table heads weights below (Some f) lt m sorted o =
    let there : Contains heads o.head = chosen_there at heads o.head o.chosen in
    let some = some_smaller at table heads weights below lt m in
    record {
      keys = keys_of o.head;
      choice = subst (λ u. IsChoice at (Has table) u (keys_of o.head)) o.tenant_is (chosen at table heads o.head lt m sorted o.chosen);
      eligible = (λ t. is_eligible at o.head lt (low table heads o.head m there) (o.eligible.0 t), λ e. o.eligible.1 (reached_again at o.head lt (low table heads o.head m there) e));
      smaller = (λ t. some.0 (o.smaller.0 t), λ s. o.smaller.1 (some.1 s));
    }
  where
    chosen_there : (at : Turn) (heads : List HeadView) (h : HeadView) → IsChosen at heads h → Contains heads h
    chosen_there at heads h (inl f) = subst (λ (xs : List HeadView). Contains xs h) (sym f.stands) (holds_middle f.front h f.back)
    chosen_there at heads h (inr l) = subst (λ (xs : List HeadView). Contains xs h) (sym l.1.stands) (holds_middle l.1.front h l.1.back)

    reached_again : (at : Turn) (h : HeadView) → at.worker < at.workers → pos 0 ≤ℤ h.len → IsEligible at (keys_of h) → IsReached at h
    reached_again at h lt l e = subst (λ z. IsInReach at z h.len) (finish_back h) ((eligible_in_reach at (keys_of h) lt l).0 e)
