-- The lines of tenants and kinds, one after the other.
use Rattle.std.proofs.Common.{ℕ, zero, suc, ◌+◌, ◌<◌, ◌≤◌, ◌≡◌, List, [], ◌∷◌, ◌++◌, length, drop, get_or, Some, slice_get, refl, sym, ap, ◌∙◌, inl, inr, min, arith, append_assoc}
use Rattle.std.proofs.lemmas.Bool.{cases_lt}
use Rattle.std.proofs.lemmas.List.{append-nil}
use Rattle.std.specs.Prelude.{codes}
use Rattle.std.proofs.Math.Seq.{drop-length}
use Rattle.journal_text.specs.Printing.{row_text}
use Rattle.program_model.specs.JournalText.{tenants_text, kinds_text}

kind_at : (kinds : List (List ℕ)) (k : ℕ) (name : List ℕ) → slice_get kinds k ≡ Some name
    → kinds_text (drop k kinds) ≡ codes "kind " ++ (row_text name [] ++ kinds_text (drop (suc k) kinds))
kind_at [] k name named = absurd (cc)
kind_at (kind ∷ kinds) zero name named =
    let same : kind ≡ name = cc in
    rw same refl
kind_at (kind ∷ kinds) (suc k) name named = kind_at kinds k name named

tenant_at : (names : List (List ℕ)) (weights : List ℕ) (t : ℕ) (name : List ℕ) → t < length weights → slice_get names t ≡ Some name
    → tenants_text (drop t names) (drop t weights)
    ≡ codes "tenant " ++ (row_text name (get_or weights t 0 ∷ []) ++ tenants_text (drop (suc t) names) (drop (suc t) weights))
tenant_at [] weights t name below named = absurd (cc)
tenant_at (other ∷ names) [] t name below named = absurd (omega arith)
tenant_at (other ∷ names) (weight ∷ weights) zero name below named =
    let same : other ≡ name = cc in
    rw same refl
tenant_at (other ∷ names) (weight ∷ weights) (suc t) name below named = tenant_at names weights t name (omega arith) named

pub next_kind : (kinds : List (List ℕ)) (k : ℕ) (name : List ℕ) → slice_get kinds k ≡ Some name
    → kinds_text (drop k kinds) ≡ codes "kind " ++ (row_text name [] ++ kinds_text (drop (k + 1) kinds))
next_kind kinds k name named =
    let next : k + 1 ≡ suc k = omega arith in
    rw next (kind_at kinds k name named)

pub next_tenant : (names : List (List ℕ)) (weights : List ℕ) (t : ℕ) (name : List ℕ) (weight : ℕ) → t < length weights → slice_get names t ≡ Some name
    → weight ≡ get_or weights t 0 → tenants_text (drop t names) (drop t weights)
    ≡ codes "tenant " ++ (row_text name (weight ∷ []) ++ tenants_text (drop (t + 1) names) (drop (t + 1) weights))
next_tenant names weights t name weight below named weighs =
    let next : t + 1 ≡ suc t = omega arith in
    rw (next, weighs) (tenant_at names weights t name below named)

-- a line is moved from the head of the rest to the end of the text: the whole stays
pub longer : (text word text2 row text3 rest rest2 all : List ℕ) → text2 ≡ text ++ word → text3 ≡ text2 ++ row → rest ≡ word ++ (row ++ rest2)
    → text ++ rest ≡ all → text3 ++ rest2 ≡ all
longer text word text2 row text3 rest rest2 all one two more whole =
    rw (two, one) (append_assoc (text ++ word) row rest2 ∙ (append_assoc text word (row ++ rest2) ∙ (ap (λ l. text ++ l) (sym more) ∙ whole)))

-- below the last of the names, or of the weights, nothing is left
nothing_left : (names : List (List ℕ)) (weights : List ℕ) (t : ℕ) → min (length names) (length weights) ≤ t → t ≤ length names → t ≤ length weights
    → tenants_text (drop t names) (drop t weights) ≡ []
nothing_left names weights t past named weighed =
    elim (cases_lt (length names) (length weights)) [
      | inl fewer ↦ (
          let at : t ≡ length names = omega arith in
          ap (λ l. tenants_text l (drop t weights)) (ap (λ u. drop u names) at ∙ drop-length names))
      | inr more ↦ (
          let at : t ≡ length weights = omega arith in
          ap (tenants_text (drop t names)) (ap (λ u. drop u weights) at ∙ drop-length weights) ∙ no_weights (drop t names))
    ]
  where
    no_weights : (left : List (List ℕ)) → tenants_text left [] ≡ []
    no_weights [] = refl
    no_weights (name ∷ names) = refl

pub whole : (text : List ℕ) (names : List (List ℕ)) (weights : List ℕ) (t : ℕ) (all : List ℕ) → min (length names) (length weights) ≤ t → t ≤ length names
    → t ≤ length weights → text ++ tenants_text (drop t names) (drop t weights) ≡ all → text ≡ all
whole text names weights t all past named weighed is =
    sym (append-nil text) ∙ (ap (λ l. text ++ l) (sym (nothing_left names weights t past named weighed)) ∙ is)
