-- A look at each head of a table for one with a small estimate.
use Rattle.std.proofs.Common.{ℕ, ◌+◌, ◌<◌, ◌≡◌, inl, inr, arith, subst, ◌∙◌, List, get_or, Option, Some}
use Rattle.std.proofs.lemmas.Bool.{cases_eq}
use Rattle.std.proofs.lemmas.Option.{get_or_from_slice_get}
use Rattle.fq_model.specs.Keys.{HeadKeys, Turn, IsEligible}
use Rattle.tag_rules.specs.Tables.{Table, Has}
use Rattle.tag_rules.specs.Foreseen.{IsShort}

-- no tenant below n has an eligible head with an estimate below this
abbrev pub NoneIsShort : Turn → Table → List ℕ → (below n : ℕ) → Type 0
NoneIsShort at table weights below n =
    (u : ℕ) (k : HeadKeys) → u < n → Has table u k → IsEligible at k → ¬ IsShort weights below u k

-- one tenant more
pub none_more : (at : Turn) (table : Table) (weights : List ℕ) (below n : ℕ) → NoneIsShort at table weights below n → ((k : HeadKeys) → Has table n k → IsEligible at k → ¬ IsShort weights below n k) → NoneIsShort at table weights below (n + 1)
none_more at table weights below n none here u k lt has now short = elim (cases_eq u n) [
  | inl e ↦ here k (subst (λ x. Has table x k) e has) now (subst (λ x. IsShort weights below x k) e short)
  | inr ne ↦ none u k (omega (arith, lt, ne)) has now short
]

-- keys that are read at a place are those that its tenant has
pub read_keys : (table : Table) (n : ℕ) (read : Option HeadKeys) (k : HeadKeys) → read ≡ get_or table n read → Has table n k → read ≡ Some k
read_keys table n read k is has = is ∙ get_or_from_slice_get table n (Some k) read has
