-- Tables in which the head of each tenant has its number.
use Rattle.std.proofs.Common.{ℕ, ◌≡◌, ◌∙◌, inl, inr, sym, subst, ap, length, slice_set, Some}
use Rattle.std.proofs.lemmas.Bool.{cases_eq, cases_lt}
use Rattle.std.proofs.lemmas.List.{set_past}
use Rattle.fq_model.specs.Keys.{HeadKeys}
use Rattle.tag_rules.specs.Tables.{Table, Has, IsNewTo}
use Rattle.scheduler_tests.specs.ByTenant.{IsByTenant}
use Rattle.shared_order.proofs.Mirroring.{has_same, has_other}

pub new_by_tenant : (table : Table) (t : ℕ) (k : HeadKeys) → IsByTenant table → k.request ≡ t → IsNewTo table t k
new_by_tenant table t k by is = λ u l ne has e. ne (sym (by u l has) ∙ (sym e ∙ is))

pub by_tenant_set : (table : Table) (t : ℕ) (k : HeadKeys) → IsByTenant table → k.request ≡ t → IsByTenant (slice_set table t (Some k))
by_tenant_set table t k by is = λ u l has. elim (cases_eq u t) [
  | inl at_t ↦ elim (cases_lt t (length table)) [
    | inl within ↦ (let same : Some k ≡ Some l = has_same table t (Some k) l within (subst (λ v. Has (slice_set table t (Some k)) v l) at_t has) in
        let e : k ≡ l = cc in
        sym (ap (λ (x : HeadKeys). x.request) e) ∙ (is ∙ sym at_t))
    | inr past ↦ by u l (subst (λ (x : Table). Has x u l) (set_past table t (Some k) past) has)
  ]
  | inr ne ↦ by u l (has_other table t u (Some k) l ne has)
]
