-- A request of some entries has an explanation.
use Rattle.std.proofs.Common.{ℕ, ◌≡◌, ◌∙◌, ◌⊎◌, ap, refl, subst, inl, inr, false, arith, List, [], ◌∷◌, ◌++◌, length, append_assoc, Option, Some, None, pos}
use Rattle.std.proofs.lemmas.Bool.{cases_Bool, eqb-true}
use Rattle.std.proofs.lemmas.List.{append-nil, reverse-append}
use Rattle.fq_model.specs.declared.config.Config.{Config}
use Rattle.fq_model.specs.declared.event.Act.{Act}
use Rattle.fq_model.specs.declared.event.Act.TheVariants.{Take}
use Rattle.fq_model.specs.declared.event.Entry.{Entry}
use Rattle.fq_model.specs.History.{History, history_of, is_taken, is_take_of}
use Rattle.fq_model.specs.Keys.{keys_at, turn_at}
use Rattle.fq_model.specs.Limits.{InLimits}
use Rattle.fq_model.specs.Pace.{virtual_time}
use Rattle.program_model.specs.declared.explained.Explained.{Explained}
use Rattle.program_model.specs.Explanations.{Explains}
use Rattle.journal_check.proofs.Turns.{none_taken}
use Rattle.law_book.proofs.SomeRows.{held_rows}

-- the entries before a Take of the request, and those after it
record IsTaken (entries : List Entry) (request : ℕ) : Type 0 where
  pub before : List Entry
  pub after : List Entry
  pub who : ℕ
  pub moment : ℕ
  pub worker : ℕ
  pub estimate : ℕ
  pub split : entries ≡ before ++ record { who = who; moment = moment; act = Take worker request estimate } ∷ after

takes : (request : ℕ) (act : Act) → (is_take_of request act ≡ false) ⊎ ((worker : ℕ) × (estimate : ℕ) × (act ≡ Take worker request estimate))
takes request (Take worker other estimate) = elim (cases_Bool (is_take_of request (Take worker other estimate))) [
  | inl e ↦ inr (worker, estimate, ap (λ (r : ℕ). Take worker r estimate) (eqb-true other request e))
  | inr e ↦ inl e
]
takes request _ = inl refl

not_taken : (e : Entry) (P : History) (request : ℕ) → is_take_of request e.act ≡ false → is_taken P request ≡ false → is_taken (e ∷ P) request ≡ false
unfolding is_taken
not_taken e P request other before = rw (other, before) refl

taken_or_not : (request : ℕ) (before rest : List Entry) → is_taken (history_of before) request ≡ false
    → (is_taken (history_of (before ++ rest)) request ≡ false) ⊎ IsTaken (before ++ rest) request
taken_or_not request before [] never = inl (ap (λ (l : List Entry). is_taken (history_of l) request) (append-nil before) ∙ never)
taken_or_not request before (e ∷ after) never = by_act (takes request e.act) (λ more. taken_or_not request (before ++ e ∷ []) after more)
  where
    by_act : (is_take_of request e.act ≡ false) ⊎ ((worker : ℕ) × (estimate : ℕ) × (e.act ≡ Take worker request estimate))
        → (is_taken (history_of (before ++ e ∷ [])) request ≡ false → (is_taken (history_of ((before ++ e ∷ []) ++ after)) request ≡ false) ⊎ IsTaken ((before ++ e ∷ []) ++ after) request)
        → (is_taken (history_of (before ++ e ∷ after)) request ≡ false) ⊎ IsTaken (before ++ e ∷ after) request
    by_act (inl other) rest =
        subst (λ (l : List Entry). (is_taken (history_of l) request ≡ false) ⊎ IsTaken l request) (append_assoc before (e ∷ []) after)
        (rest (ap (λ (P : History). is_taken P request) (reverse-append before (e ∷ [])) ∙ not_taken e (history_of before) request other never))
    by_act (inr is) rest = inr (record {
      before = before;
      after = after;
      who = e.who;
      moment = e.moment;
      worker = is.0;
      estimate = is.1;
      split = ap (λ (a : Act). before ++ record { who = e.who; moment = e.moment; act = a } ∷ after) is.2;
    })

abbrev SomeExplanation : Config → List Entry → ℕ → Type 0
SomeExplanation C entries request = (explained : Option Explained) × Explains C entries request explained

pub some_explanation : (C : Config) (entries : List Entry) (request : ℕ) → InLimits C → SomeExplanation C entries request
some_explanation C entries request limits = elim (taken_or_not request [] entries (none_taken request)) [
  | inl never ↦ (None, never)
  | inr is ↦
      let P = history_of is.before in
      let rows = held_rows (turn_at C P is.moment is.worker) (keys_at C P is.moment) (length C.weights) (omega (arith, limits.tenants.1)) in (
        Some (record { worker = is.worker; moment = is.moment; vtime = pos (virtual_time C P is.moment); rows = rows.rows }),
        record {
          before = is.before;
          after = is.after;
          who = is.who;
          estimate = is.estimate;
          split = is.split;
          vtime_is = refl;
          rows_are = rows.are;
        },
      )
]
