-- The laws of the limits.
use Rattle.std.proofs.Common.{ℕ, suc, ◌≡◌, ◌+◌, ◌<◌, ◌≤◌, true, List, [], ◌∷◌, ◌++◌, Some, None, length, get_or, set, drop, slice_get, arith, refl, ap, sym, subst, ◌∙◌, inl, inr}
use Rattle.std.specs.List.{AllPairs, remove}
use Rattle.std.proofs.lemmas.Bool.{cases_eq, cases_lt, and_parts, or_cases, eqb-true, ltb-true, cond-true}
use Rattle.std.proofs.lemmas.List.{get_or-set_same, get_or-set_other, set_past, length-append}
use Rattle.std.proofs.lemmas.List.Quantifiers.{all_pairs_push, all_pairs_remove}
use Rattle.std.proofs.lemmas.Option.{none-some, slice_get-get_or}
use Rattle.request_limits.specs.declared.held.Held.{Held}
use Rattle.request_limits.specs.Limits.{LimitsView, cell_of, limit_of, kind_limit_of, sent_of, sent_in, is_below, passes, held_in, oldest_in, with_held, with_one_more, IsRemoved}
use Rattle.request_limits.specs.Next.{may_go, GoesBefore}
use Rattle.request_limits.specs.Laws.{IsWithin, PassingKeepsLimits, IsInOrder, NextIsOldest, NoneIsLeft, OrderIsKept}
use Rattle.request_limits.proofs.Sends.{sent_of_with, sent_in_with}

within_next : (n limit : ℕ) → is_below n limit ≡ true → IsWithin (n + 1) limit
within_next n limit below = elim (or_cases _ _ below) [
  | inl none ↦ inl (eqb-true limit 0 none)
  | inr less ↦ inr (omega (arith, ltb-true n limit less))
]

pub passing_keeps_limits : PassingKeepsLimits
passing_keeps_limits v slot kind cells known passing =
    let parts = and_parts (is_below (sent_of v slot) (limit_of v slot)) (is_below (sent_in v slot kind) (kind_limit_of v kind)) passing in
    let of_slot : sent_of v slot + 1 ≡ sent_of (with_one_more v slot kind) slot = omega (arith, sent_of_with v slot kind cells known (sent_in v slot kind + 1)) in (
      subst (λ n. IsWithin n (limit_of v slot)) of_slot (within_next (sent_of v slot) (limit_of v slot) parts.0),
      subst (λ n. IsWithin n (kind_limit_of v kind)) (sym (sent_in_with v slot kind cells known (sent_in v slot kind + 1))) (within_next (sent_in v slot kind) (kind_limit_of v kind) parts.1),
    )

-- ---- what goes next

abbrev Earlier : Held → Held → Type 0
Earlier h p = h.ticket < p.ticket

first_is_least : (list : List Held) (k : ℕ) (p : Held) → AllPairs Earlier list → k < length list → get_or list k p ≡ p → (get_or list 0 p).ticket ≤ p.ticket
first_is_least list k p order below at = elim (cases_eq k 0) [
  | inl zero ↦
      let same : get_or list 0 p ≡ p = subst (λ i. get_or list i p ≡ p) zero at in
      omega (arith, ap (λ (q : Held). q.ticket) same)
  | inr more ↦
      let less : Earlier (get_or list 0 p) p = subst (λ (q : Held). Earlier (get_or list 0 p) q) at (order 0 k p (omega arith) below) in
      omega (arith, less)
]

before_le : (kind other : ℕ) (h p : Held) → GoesBefore kind h other p → h.ticket ≤ p.ticket
before_le kind other h p before = elim before [ inl less ↦ omega (arith, less) | inr same ↦ omega (arith, same.0) ]

pub next_is_oldest : NextIsOldest
next_is_oldest v slot kind h known order next other p below passing (k, within, at) =
    let list : List Held = held_in v slot other in
    let may : may_go v slot other ≡ Some (get_or list 0 p) = cond-true (passes v slot other) (oldest_in v slot other) None passing ∙ slice_get-get_or list 0 p (omega (arith, within)) in
    let before : h.ticket ≤ (get_or list 0 p).ticket = before_le kind other h (get_or list 0 p) (next.first other (get_or list 0 p) below may) in
    omega (arith, before, first_is_least list k p (order slot other (record { slot_known = known; kind_known = below })) within at)

nil_from_none : (list : List Held) → slice_get list 0 ≡ None → list ≡ []
nil_from_none [] none = refl
nil_from_none (h ∷ list) none = absurd (none-some h (sym none))

pub none_is_left : NoneIsLeft
none_is_left v slot none kind below passing =
    nil_from_none (held_in v slot kind) (sym (cond-true (passes v slot kind) (oldest_in v slot kind) None passing) ∙ none kind below)

-- ---- the order of tickets

order_with : (v : LimitsView) (slot kind : ℕ) (list : List Held) → IsInOrder v → AllPairs Earlier list → IsInOrder (with_held v slot kind list)
order_with v slot kind list order ordered = λ s k at.
    let as_before : held_in (with_held v slot kind list) s k ≡ held_in v s k → AllPairs Earlier (held_in (with_held v slot kind list) s k) = λ same.
    subst (λ (l : List Held). AllPairs Earlier l) (sym same) (order s k (record { slot_known = at.slot_known; kind_known = at.kind_known })) in
    elim (cases_eq (cell_of v s k) (cell_of v slot kind)) [
      | inl same ↦ elim (cases_lt (cell_of v slot kind) (length v.held)) [
        | inl within ↦
            let now : held_in (with_held v slot kind list) s k ≡ list = ap (λ i. get_or (set v.held (cell_of v slot kind) list) i []) same ∙ get_or-set_same v.held (cell_of v slot kind) list [] within in
            subst (λ (l : List Held). AllPairs Earlier l) (sym now) ordered
        | inr past ↦ as_before (ap (λ lists. get_or lists (cell_of v s k) []) (set_past v.held (cell_of v slot kind) list past))
      ]
      | inr ne ↦ as_before (get_or-set_other v.held (cell_of v slot kind) (cell_of v s k) list [] ne)
    ]

pairs_rest : (list : List Held) → AllPairs Earlier list → AllPairs Earlier (drop 1 list)
pairs_rest [] order = order
pairs_rest (h ∷ list) order = λ i j d less below. order (suc i) (suc j) d (omega arith) (omega arith)

remove_middle : (front rest : List Held) (h : Held) → remove (front ++ h ∷ rest) (length front) ≡ front ++ rest
remove_middle [] rest h = refl
remove_middle (x ∷ front) rest h = ap (λ l. x ∷ l) (remove_middle front rest h)

pairs_without : (front rest : List Held) (h : Held) → AllPairs Earlier (front ++ h ∷ rest) → AllPairs Earlier (front ++ rest)
pairs_without front rest h order =
    let within : length front < length (front ++ h ∷ rest) = omega (arith, length-append front (h ∷ rest)) in
    subst (λ (l : List Held). AllPairs Earlier l) (remove_middle front rest h) (all_pairs_remove Earlier (front ++ h ∷ rest) (length front) within order)

removed_in_order : (v : LimitsView) (place : ℕ) (h : Held) (w : LimitsView) → IsInOrder v → IsRemoved v place h w → IsInOrder w
removed_in_order v place h w order r =
    let was : AllPairs Earlier (r.front ++ h ∷ r.rest) = subst (λ (l : List Held). AllPairs Earlier l) r.was (order r.slot r.kind r.known) in
    subst (λ (u : LimitsView). IsInOrder u) (sym r.after) (order_with v r.slot r.kind (r.front ++ r.rest) order (pairs_without r.front r.rest h was))

pub order_is_kept : OrderIsKept
order_is_kept v slot kind known order = (
  (λ h older. order_with v slot kind (held_in v slot kind ++ h ∷ []) order (all_pairs_push Earlier (held_in v slot kind) h (order slot kind known) older)),
  order_with v slot kind (drop 1 (held_in v slot kind)) order (pairs_rest (held_in v slot kind) (order slot kind known)),
  (λ place h w r. removed_in_order v place h w order r),
)
