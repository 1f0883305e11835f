-- Histories turned round.
use Rattle.std.proofs.Common.{◌≡◌, ℕ, Bool, true, false, List, [], ◌∷◌, ◌++◌, reverse, filter, eqb, sym, refl, ap, ◌∙◌}
use Rattle.std.proofs.lemmas.List.{reverse-append}
use Rattle.std.proofs.lemmas.List.Elements.{filter-append}
use Rattle.fq_model.specs.declared.event.Entry.{Entry}
use Rattle.fq_model.specs.Outcome.{own_entries}

one_turned : (e : Entry) (who : ℕ) → own_entries (e ∷ []) who ≡ reverse (own_entries (e ∷ []) who)
one_turned e who = go (eqb e.who who)
  where
    go : (t : Bool) → Rattle.std.proofs.Common.cond t (e ∷ []) [] ≡ reverse (Rattle.std.proofs.Common.cond t (e ∷ []) [])
    go true = refl
    go false = refl

pub own_turned : (P : List Entry) (who : ℕ) → own_entries (reverse P) who ≡ reverse (own_entries P who)
own_turned [] who = refl
own_turned (e ∷ P) who =
    let test : Entry → Bool = λ x. eqb x.who who in
    let turned : reverse (e ∷ P) ≡ reverse P ++ e ∷ [] = reverse-append (e ∷ []) P in
    let split : own_entries (e ∷ P) who ≡ own_entries (e ∷ []) who ++ own_entries P who = filter-append test (e ∷ []) P in
    ap (λ l. own_entries l who) turned ∙ (filter-append test (reverse P) (e ∷ []) ∙ (
    ap (λ l. l ++ own_entries (e ∷ []) who) (own_turned P who) ∙ (
    ap (λ l. reverse (own_entries P who) ++ l) (one_turned e who) ∙ (
    sym (reverse-append (own_entries (e ∷ []) who) (own_entries P who)) ∙ ap reverse (sym split)))))
