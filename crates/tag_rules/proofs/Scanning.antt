-- One step of a scan over a table.
use Rattle.std.proofs.Common.{ℕ, ◌+◌, ◌≡◌, ◌≢◌, inl, inr, sym, ◌∙◌, subst, arith, Option, Some, None}
use Rattle.std.proofs.lemmas.Bool.{cases_eq}
use Rattle.fq_model.specs.Keys.{HeadKeys, Turn}
use Rattle.fq_laws.proofs.Keys.Choices.{IsOrder, by_finish, by_eligible}
use Rattle.tag_rules.specs.Tables.{Table, Has}
use Rattle.tag_rules.specs.declared.pass.Pass.{Pass}
use Rattle.tag_rules.specs.declared.pass.Pass.TheVariants.{Eligible, Fallback}
use Rattle.tag_rules.specs.Passes.{BeforeIn}
use Rattle.tag_rules.specs.Scan.{IsFirstBelow, TakesIn, ComesFirst}
use Rattle.tag_rules.specs.declared.scan.Found.{Found}

-- each pass has an order
pub order_in : (pass : Pass) (at : Turn) → IsOrder (BeforeIn pass at)
order_in Eligible at = by_finish
order_in Fallback at = by_eligible at

-- a tenant has one pair of keys
pub same_keys : (table : Table) (t : ℕ) (k l : HeadKeys) → Has table t k → Has table t l → k ≡ l
same_keys table t k l h i = let e : Some (Some k) ≡ Some (Some l) = sym h ∙ i in cc

-- where the keys of n do not pass, or it has none, the head found before stays
pub scan_over : (Passes : HeadKeys → Type 0) (Before : HeadKeys → HeadKeys → Type 0) (table : Table) (n : ℕ) (older : Option Found) → ((l : HeadKeys) → Has table n l → ¬ Passes l) → IsFirstBelow Passes Before table n older → IsFirstBelow Passes Before table (n + 1) older
scan_over Passes Before table n None out h = λ u l b has p. elim (cases_eq u n) [
  | inl e ↦ out l (subst (λ x. Has table x l) e has) p
  | inr ne ↦ h u l (omega arith) has p
]
scan_over Passes Before table n (Some found) out h = record {
  below = omega (arith, h.below);
  has = h.has;
  passes = h.passes;
  first = λ u l b ne has p. elim (cases_eq u n) [ inl e ↦ absurd (out l (subst (λ x. Has table x l) e has) p) | inr other ↦ h.first u l (omega arith) ne has p ];
}

-- keys that do not pass change nothing
pub takes_none : (Passes : HeadKeys → Type 0) (Before : HeadKeys → HeadKeys → Type 0) (older : Option Found) (next : Found) → ¬ Passes next.keys → TakesIn Passes Before older next older
takes_none Passes Before older next fails = λ table differ has h. scan_over Passes Before table next.tenant older (λ l has_l p. fails (subst Passes (same_keys table next.tenant l next.keys has_l has) p)) h

-- keys that pass and come before the first are the first
pub takes_new : (Passes : HeadKeys → Type 0) (Before : HeadKeys → HeadKeys → Type 0) (older : Option Found) (next : Found) → IsOrder Before → Passes next.keys → ComesFirst Before older next.keys → TakesIn Passes Before older next (Some next)
takes_new Passes Before None next order p sooner = λ table differ has h.
    record { below = omega arith; has = has; passes = p; first = λ u l b ne has_l q. absurd (h u l (omega arith) has_l q) }
takes_new Passes Before (Some found) next order p sooner = λ table differ has h. record {
  below = omega arith;
  has = has;
  passes = p;
  first = λ u l b ne has_l q. elim (cases_eq u found.tenant) [
    | inl e ↦ subst (Before next.keys) (same_keys table found.tenant found.keys l h.has (subst (λ x. Has table x l) e has_l)) sooner
    | inr other ↦ order.goes_on next.keys found.keys l sooner (h.first u l (omega arith) other has_l q)
  ];
}

-- keys that do not come before the first leave it
pub takes_old : (Passes : HeadKeys → Type 0) (Before : HeadKeys → HeadKeys → Type 0) (older : Option Found) (next : Found) → IsOrder Before → ¬ ComesFirst Before older next.keys → TakesIn Passes Before older next older
takes_old Passes Before None next order later = absurd (later tt)
takes_old Passes Before (Some found) next order later = λ table differ has h.
    let apart : next.keys.request ≢ found.keys.request = differ next.tenant next.keys has found.tenant found.keys (λ e. omega (arith, e, h.below)) h.has in
    record {
      below = omega (arith, h.below);
      has = h.has;
      passes = h.passes;
      first = λ u l b ne has_l q. elim (cases_eq u next.tenant) [
        | inl e ↦ subst (Before found.keys) (same_keys table next.tenant next.keys l has (subst (λ x. Has table x l) e has_l)) (elim (order.total next.keys found.keys apart) [ inl sooner ↦ absurd (later sooner) | inr before ↦ before ])
        | inr other ↦ h.first u l (omega arith) ne has_l q
      ];
    }
