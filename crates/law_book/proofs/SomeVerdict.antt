-- Entries have a verdict.
use Rattle.std.proofs.Common.{ℕ, ◌+◌, ◌==◌, ◌≡◌, ◌≢◌, ◌∙◌, ◌⊎◌, sym, ap, refl, subst, inl, inr, if◌then◌else◌, arith, List, [], ◌∷◌, ◌++◌, length, append_assoc, Option, Some, None}
use Rattle.std.specs.Prelude.{slice_index_or}
use Rattle.std.proofs.lemmas.Bool.{cases_eq}
use Rattle.std.proofs.lemmas.List.{append-nil, reverse-append}
use Rattle.fq_model.specs.declared.config.Config.{Config}
use Rattle.fq_model.specs.declared.event.Act.{Act}
use Rattle.fq_model.specs.declared.event.Act.TheVariants.{Submit, Take, Report, Done, Close, Weight, Workers, Withdraw}
use Rattle.fq_model.specs.declared.event.Entry.{Entry}
use Rattle.fq_model.specs.declared.event.Reply.{Reply}
use Rattle.fq_model.specs.History.{History, history_of}
use Rattle.fq_model.specs.Limits.{InLimits}
use Rattle.fq_model.specs.Rules.{Answers, IsLegal}
use Rattle.fq_model.specs.Time.{effective_moment}
use Rattle.fq_laws.specs.Words.{Extends, caller, named_moment}
use Rattle.fq_laws.proofs.Rules.Answers.{answered, answer_extends, answer_legal}
use Rattle.program_model.specs.declared.verdict.Verdict.{Verdict}
use Rattle.program_model.specs.declared.verdict.Verdict.TheVariants.{Legal, Bad}
use Rattle.program_model.specs.Journal.{call_of}
use Rattle.program_model.specs.Verdicts.{with_gained, IsVerdict}
use Rattle.journal_check.proofs.Fitting.{call_enters}

-- ---- two entries are the same or not

-- the numbers of an act, after one for its kind
numbers_of : Act → List ℕ
numbers_of (Submit request tenant kind declared label) = 0 ∷ request ∷ tenant ∷ kind ∷ declared ∷ label ∷ []
numbers_of (Take worker request estimate) = 1 ∷ worker ∷ request ∷ estimate ∷ []
numbers_of (Report worker request used) = 2 ∷ worker ∷ request ∷ used ∷ []
numbers_of (Done worker request cost) = 3 ∷ worker ∷ request ∷ cost ∷ []
numbers_of (Weight tenant weight) = 4 ∷ tenant ∷ weight ∷ []
numbers_of (Workers count) = 5 ∷ count ∷ []
numbers_of (Withdraw request) = 6 ∷ request ∷ []
numbers_of Close = 7 ∷ []

-- the act of such numbers
act_of_kind : ℕ → (ℕ → ℕ) → Act
act_of_kind kind n =
    if kind == 0 then Submit (n 1) (n 2) (n 3) (n 4) (n 5)
    else if kind == 1 then Take (n 1) (n 2) (n 3)
    else if kind == 2 then Report (n 1) (n 2) (n 3)
    else if kind == 3 then Done (n 1) (n 2) (n 3)
    else if kind == 4 then Weight (n 1) (n 2)
    else if kind == 5 then Workers (n 1)
    else if kind == 6 then Withdraw (n 1)
    else Close

act_back : (a : Act) → act_of_kind (slice_index_or (numbers_of a) 0 0) (λ k. slice_index_or (numbers_of a) k 0) ≡ a
unfolding numbers_of act_of_kind
act_back (Submit request tenant kind declared label) = refl
act_back (Take worker request estimate) = refl
act_back (Report worker request used) = refl
act_back (Done worker request cost) = refl
act_back (Weight tenant weight) = refl
act_back (Workers count) = refl
act_back (Withdraw request) = refl
act_back Close = refl

same_numbers : (xs ys : List ℕ) → (xs ≡ ys) ⊎ (xs ≢ ys)
same_numbers [] [] = inl refl
same_numbers [] (y ∷ ys) = inr (λ e. cc)
same_numbers (x ∷ xs) [] = inr (λ e. cc)
same_numbers (x ∷ xs) (y ∷ ys) = elim (cases_eq x y) [
  | inl first ↦ elim (same_numbers xs ys) [
    | inl rest ↦ inl (rw (first, rest) refl)
    | inr other ↦ inr (λ e. other (let rest : xs ≡ ys = cc in rest))
  ]
  | inr other ↦ inr (λ e. other (let first : x ≡ y = cc in first))
]

same_act : (a b : Act) → (a ≡ b) ⊎ (a ≢ b)
same_act a b = elim (same_numbers (numbers_of a) (numbers_of b)) [
  | inl same ↦ inl (sym (act_back a) ∙ ap (λ (ns : List ℕ). act_of_kind (slice_index_or ns 0 0) (λ k. slice_index_or ns k 0)) same ∙ act_back b)
  | inr other ↦ inr (λ e. other (ap numbers_of e))
]

same_entry : (d e : Entry) → (d ≡ e) ⊎ (d ≢ e)
same_entry d e = elim (cases_eq d.who e.who) [
  | inl who ↦ elim (cases_eq d.moment e.moment) [
    | inl moment ↦ elim (same_act d.act e.act) [
      | inl act ↦ inl (let same : ◌≡◌ {A = Entry} (record { who = d.who; moment = d.moment; act = d.act }) (record { who = e.who; moment = e.moment; act = e.act }) = rw (who, moment, act) refl in same)
      | inr other ↦ inr (λ s. other (ap (λ (x : Entry). x.act) s))
    ]
    | inr other ↦ inr (λ s. other (ap (λ (x : Entry). x.moment) s))
  ]
  | inr other ↦ inr (λ s. other (ap (λ (x : Entry). x.who) s))
]

-- ---- the verdict

abbrev SomeVerdict : Config → List Entry → Type 0
SomeVerdict C entries = (verdict : Verdict) × IsVerdict C entries verdict

-- the entry that was gained
gained_is : (P : History) (wanted : Option Entry) (given : Entry) → with_gained wanted P ≡ given ∷ P → wanted ≡ Some given
gained_is P None given same = absurd (omega (arith, ap length same))
gained_is P (Some e) given same = let one : e ≡ given = cc in ap Some one

module _ (C : Config) (limits : InLimits C) where
  -- the call of the next entry gains another one, or none
  bad : (before after : List Entry) (given : Entry) (reply : Reply) (Q : History) (wanted : Option Entry)
      → IsLegal C (history_of before) → Answers C (history_of before) (call_of given) reply Q → Q ≡ with_gained wanted (history_of before) → wanted ≢ Some given
      → SomeVerdict C (before ++ given ∷ after)
  bad before after given reply Q wanted legal answers gains other =
      let P = history_of before in (
        Bad (length before + 1) reply wanted,
        record {
          before = before;
          given = given;
          after = after;
          split = refl;
          counted = refl;
          legal_before = legal;
          not_legal = λ is. other (gained_is P wanted given (sym gains ∙ call_enters C P Q given reply limits is answers));
          answered = subst (Answers C P (call_of given) reply) gains answers;
        },
      )

  judged : (before rest : List Entry) → IsLegal C (history_of before) → SomeVerdict C (before ++ rest)
  judged before [] legal = (Legal, subst (λ (l : List Entry). IsLegal C (history_of l)) (sym (append-nil before)) legal)
  judged before (given ∷ after) legal =
      let x = answered C (history_of before) (call_of given) legal in
      by_answer x.0 x.1 x.2 (answer_extends C (history_of before) (call_of given) x.0 x.1 x.2) (λ more. judged (before ++ given ∷ []) after more)
    where
      by_answer : (reply : Reply) (Q : History) → Answers C (history_of before) (call_of given) reply Q → Extends (caller (call_of given)) (named_moment (call_of given)) (history_of before) Q
          → (IsLegal C (history_of (before ++ given ∷ [])) → SomeVerdict C ((before ++ given ∷ []) ++ after)) → SomeVerdict C (before ++ given ∷ after)
      by_answer reply Q answers (inl same) rest = bad before after given reply Q None legal answers same (λ e. cc)
      by_answer reply Q answers (inr grown) rest =
          let P = history_of before in
          let gained : Entry = record { who = caller (call_of given); moment = effective_moment P (named_moment (call_of given)); act = grown.0 } in
          elim (same_entry gained given) [
            | inl is ↦
                let grows : history_of (before ++ given ∷ []) ≡ Q = reverse-append before (given ∷ []) ∙ ap (λ (e : Entry). e ∷ P) (sym is) ∙ sym grown.1 in
                subst (SomeVerdict C) (append_assoc before (given ∷ []) after) (rest (subst (IsLegal C) (sym grows) (answer_legal C P (call_of given) reply Q limits legal answers)))
            | inr other ↦ bad before after given reply Q (Some gained) legal answers grown.1 (λ e. other (let same : gained ≡ given = cc in same))
          ]

pub some_verdict : (C : Config) (entries : List Entry) → InLimits C → SomeVerdict C entries
some_verdict C entries limits = judged C limits [] entries tt
