-- The lines of a trace, one after the other.
use Rattle.std.proofs.Common.{ℕ, zero, suc, ◌+◌, ◌<◌, ◌≡◌, List, [], ◌∷◌, ◌++◌, length, drop, get_or, Some, slice_get, refl, sym, ap, ◌∙◌, arith, append_assoc}
use Rattle.program_model.specs.TraceText.{tenant_record, tenant_records}
use Rattle.tenant_table.specs.Names.{names_of, weights_of}

-- the lines of the tenants from number t on
abbrev pub lines_from : List (List ℕ × ℕ) → ℕ → List ℕ
lines_from tenants t = tenant_records (names_of (drop t tenants)) (weights_of (drop t tenants))

tenant_at : (tenants : List (List ℕ × ℕ)) (t : ℕ) (name : List ℕ) (weight : ℕ) → t < length tenants → slice_get (names_of tenants) t ≡ Some name
    → weight ≡ get_or (weights_of tenants) t 0 → lines_from tenants t ≡ tenant_record name weight ++ lines_from tenants (suc t)
tenant_at [] t name weight below named weighs = absurd (omega arith)
tenant_at (tenant ∷ tenants) zero name weight below named weighs =
    let same : tenant.0 ≡ name = cc in
    rw (same, weighs) refl
tenant_at (tenant ∷ tenants) (suc t) name weight below named weighs = tenant_at tenants t name weight (omega arith) named weighs

pub next_tenant : (tenants : List (List ℕ × ℕ)) (t : ℕ) (name : List ℕ) (weight : ℕ) → t < length tenants → slice_get (names_of tenants) t ≡ Some name
    → weight ≡ get_or (weights_of tenants) t 0 → lines_from tenants t ≡ tenant_record name weight ++ lines_from tenants (t + 1)
next_tenant tenants t name weight below named weighs =
    let next : t + 1 ≡ suc t = omega arith in
    rw next (tenant_at tenants t name weight below named weighs)

pub longer : (text text2 line rest rest2 all : List ℕ) → text2 ≡ text ++ line → rest ≡ line ++ rest2 → text ++ rest ≡ all → text2 ++ rest2 ≡ all
longer text text2 line rest rest2 all more first whole = rw more (append_assoc text line rest2 ∙ ap (λ l. text ++ l) (sym first) ∙ whole)
