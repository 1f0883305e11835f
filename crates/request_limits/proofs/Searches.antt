-- One more kind of a search for the first request that may go.
use Rattle.std.proofs.Common.{ℕ, ◌≡◌, ◌+◌, ◌≤◌, Option, Some, None, arith, sym, subst, ◌∙◌, inl, inr}
use Rattle.std.proofs.lemmas.Bool.{cases_eq, cases_lt}
use Rattle.std.proofs.lemmas.Option.{none-some, same_Some}
use Rattle.request_limits.specs.declared.held.Held.{Held}
use Rattle.request_limits.specs.Limits.{LimitsView}
use Rattle.request_limits.specs.Next.{may_go, GoesBefore, IsFirstOfKinds, IsFoundBelow}

-- the first of the lesser kinds stays the first
pub first_stays : (v : LimitsView) (slot kind k : ℕ) (first held : Held) → IsFirstOfKinds v slot kind k first → may_go v slot kind ≡ Some held → first.ticket ≤ held.ticket → IsFirstOfKinds v slot (kind + 1) k first
first_stays v slot kind k first held f may older = record {
  known = omega (arith, f.known);
  may = f.may;
  first = λ other p below at. elim (cases_eq other kind) [
    | inl same ↦
        let p_is : held ≡ p = same_Some held p (sym may ∙ subst (λ o. may_go v slot o ≡ Some p) same at) in
        let before : GoesBefore k first kind held = elim (cases_lt first.ticket held.ticket) [
          | inl less ↦ inl less
          | inr more ↦ inr (omega (arith, older, more), omega (arith, f.known))
        ] in
        subst (λ o. GoesBefore k first o p) (sym same) (subst (λ q. GoesBefore k first kind q) p_is before)
    | inr ne ↦ f.first other p (omega arith) at
  ];
}

-- and if none of the kind may go nothing changes
pub none_more : (v : LimitsView) (slot kind : ℕ) (found : Option (ℕ × Held)) → IsFoundBelow v slot kind found → may_go v slot kind ≡ None → IsFoundBelow v slot (kind + 1) found
none_more v slot kind None none may = λ other below. elim (cases_eq other kind) [
  | inl same ↦ subst (λ o. may_go v slot o ≡ None) (sym same) may
  | inr ne ↦ none other (omega arith)
]
none_more v slot kind (Some f) first may = record {
  known = omega (arith, first.known);
  may = first.may;
  first = λ other p below at. elim (cases_eq other kind) [
    | inl same ↦ absurd (none-some p (sym may ∙ subst (λ o. may_go v slot o ≡ Some p) same at))
    | inr ne ↦ first.first other p (omega arith) at
  ];
}
