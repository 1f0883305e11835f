-- Rows that are not there: changes of them change nothing.
use Rattle.std.proofs.Common.{◌≡◌, ℕ, ◌<◌, leb, not, false, List, [], ◌∷◌, Some, None, map, refl, sym, ap, ◌∙◌, inl, inr}
use Rattle.std.specs.List.{All, filter, find}
use Rattle.std.proofs.lemmas.Bool.{cases_Bool, cond-true, cond-false, leb-false}
use Rattle.std.proofs.lemmas.List.Elements.{All-nil, All-cons}
use Rattle.std.proofs.lemmas.Option.{none-some}
use Rattle.waiting_table.specs.declared.row.Waiting.{Waiting}
use Rattle.waiting_table.specs.Table.{has_ticket, numbered}

module _ (ticket : ℕ) where
  head_fails : (w : Waiting) (ws : List Waiting) → find (has_ticket ticket) (w ∷ ws) ≡ None → has_ticket ticket w ≡ false
  head_fails w ws h = elim (cases_Bool (has_ticket ticket w)) [
    | inl y ↦ absurd (none-some w (sym h ∙ cond-true (has_ticket ticket w) (Some w) (find (has_ticket ticket) ws) y))
    | inr n ↦ n
  ]

  rest_fails : (w : Waiting) (ws : List Waiting) → find (has_ticket ticket) (w ∷ ws) ≡ None → find (has_ticket ticket) ws ≡ None
  rest_fails w ws h = sym (cond-false (has_ticket ticket w) (Some w) (find (has_ticket ticket) ws) (head_fails w ws h)) ∙ h

  pub without_none : (ws : List Waiting) → find (has_ticket ticket) ws ≡ None → filter (λ w. not (has_ticket ticket w)) ws ≡ ws
  without_none [] h = refl
  without_none (w ∷ ws) h =
      cond-true (not (has_ticket ticket w)) (w ∷ filter (λ w. not (has_ticket ticket w)) ws) (filter (λ w. not (has_ticket ticket w)) ws) (ap not (head_fails w ws h))
      ∙ ap (λ (l : List Waiting). w ∷ l) (without_none ws (rest_fails w ws h))

  pub forwarded_none : (request : ℕ) (ws : List Waiting) → find (has_ticket ticket) ws ≡ None → map (numbered ticket request) ws ≡ ws
  forwarded_none request [] h = refl
  forwarded_none request (w ∷ ws) h =
      ap (λ (v : Waiting). v ∷ map (numbered ticket request) ws) (cond-false (has_ticket ticket w) (record w { request = Some request }) w (head_fails w ws h))
      ∙ ap (λ (l : List Waiting). w ∷ l) (forwarded_none request ws (rest_fails w ws h))

-- if no row has this ticket or a greater one, it is above all
pub above_from : (ticket : ℕ) (ws : List Waiting) → find (λ (w : Waiting). leb ticket w.ticket) ws ≡ None → All (λ w. w.ticket < ticket) ws
above_from ticket [] h = All-nil (λ (w : Waiting). w.ticket < ticket)
above_from ticket (w ∷ ws) h = elim (cases_Bool (leb ticket w.ticket)) [
  | inl y ↦ absurd (none-some w (sym h ∙ cond-true (leb ticket w.ticket) (Some w) (find (λ (v : Waiting). leb ticket v.ticket) ws) y))
  | inr n ↦
      All-cons (λ (v : Waiting). v.ticket < ticket) w ws (leb-false ticket w.ticket n)
      (above_from ticket ws (sym (cond-false (leb ticket w.ticket) (Some w) (find (λ (v : Waiting). leb ticket v.ticket) ws) n) ∙ h))
]
