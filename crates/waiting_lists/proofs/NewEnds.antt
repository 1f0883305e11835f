-- The ends of a list without one of its slots.
use Rattle.std.proofs.Common.{◌≡◌, ℕ, List, [], ◌∷◌, ◌++◌, Option, Some, None, MatchOption, is_some, true, false, append-nil, refl, sym, ap, ◌∙◌}
use Rattle.std.proofs.lemmas.Bool.{false≢true}
use Rattle.waiting_lists.specs.declared.links.Ends.{Ends}
use Rattle.waiting_lists.specs.Linked.{first_in, last_behind, AreEndsWithout}
use Rattle.waiting_lists.proofs.Chains.{none_not_some, none_last}
use Rattle.waiting_lists.proofs.Unlinked.{last_without}

-- some number stands there
first_some : (front : List ℕ) (i : ℕ) (rest : List ℕ) → None ≡ first_in (front ++ i ∷ rest) → ⊥
first_some [] i rest e = none_not_some None i refl e
first_some (x ∷ xs) i rest e = none_not_some None x refl e

pub ends_none : (before next : Option ℕ) → AreEndsWithout None before next None
ends_none before next front i rest b n first last = absurd (first_some front i rest first)

pub ends_alone : (e : Ends) → AreEndsWithout (Some e) None None None
ends_alone e [] i [] b n first last = (refl, refl)
ends_alone e [] i (q ∷ qs) b n first last = absurd (none_not_some None q refl n)
ends_alone e (x ∷ xs) i rest b n first last = absurd (none_last xs x (sym b))

module _ (e new : Ends) where
  first_past : (before next : Option ℕ) → MatchOption before (Some new.first ≡ next) (λ _. new.first ≡ e.first) → (front : List ℕ) (i : ℕ) (rest : List ℕ) → before ≡ last_behind None front → next ≡ first_in rest → Some e.first ≡ first_in (front ++ i ∷ rest) → Some new.first ≡ first_in (front ++ rest)
  first_past None next m [] i rest b n first = m ∙ n
  first_past (Some p) next m [] i rest b n first = absurd (none_not_some None p refl (sym b))
  first_past None next m (x ∷ xs) i rest b n first = absurd (none_last xs x (sym b))
  first_past (Some p) next m (x ∷ xs) i rest b n first = ap Some m ∙ first

  last_past : (before next : Option ℕ) → MatchOption next (Some new.last ≡ before) (λ _. new.last ≡ e.last) → (front : List ℕ) (i : ℕ) (rest : List ℕ) → before ≡ last_behind None front → next ≡ first_in rest → Some e.last ≡ last_behind None (front ++ i ∷ rest) → Some new.last ≡ last_behind None (front ++ rest)
  last_past before None m front i [] b n last = m ∙ b ∙ ap (last_behind None) (sym (append-nil front))
  last_past before (Some q) m front i [] b n last = absurd (none_not_some None q refl (sym n))
  last_past before None m front i (q ∷ qs) b n last = absurd (none_not_some None q refl n)
  last_past before (Some p) m front i (q ∷ qs) b n last = ap Some m ∙ last ∙ last_without None front i q qs

  pub ends_past : (before next : Option ℕ) → MatchOption before (Some new.first ≡ next) (λ _. new.first ≡ e.first) → MatchOption next (Some new.last ≡ before) (λ _. new.last ≡ e.last) → AreEndsWithout (Some e) before next (Some new)
  ends_past before next f l front i rest b n first last = (first_past before next f front i rest b n first, last_past before next l front i rest b n last)

-- a fact of an option that is none, or is some
pub match_none : (o : Option ℕ) (P Q : Type 0) → is_some o ≡ false → P → MatchOption o P (λ _. Q)
match_none None P Q is p = p
match_none (Some x) P Q is p = absurd (false≢true (sym is))

pub match_some : (o : Option ℕ) (P Q : Type 0) → is_some o ≡ true → Q → MatchOption o P (λ _. Q)
match_some None P Q is q = absurd (false≢true is)
match_some (Some x) P Q is q = q
