-- Entries have one verdict.
use Rattle.std.proofs.Common.{ℕ, ◌≡◌, ◌⊎◌, ◌∙◌, arith, refl, sym, ap, subst, inl, inr, List, [], ◌∷◌, ◌++◌, length, Option, Some, None}
use Rattle.std.proofs.lemmas.List.{reverse-append, append_assoc}
use Rattle.fq_model.specs.declared.config.Config.{Config}
use Rattle.fq_model.specs.declared.event.Entry.{Entry}
use Rattle.fq_model.specs.declared.event.Reply.{Reply}
use Rattle.fq_model.specs.History.{History, history_of}
use Rattle.fq_model.specs.Rules.{Answers, IsLegal}
use Rattle.fq_laws.proofs.Rules.Answers.{answer_one}
use Rattle.program_model.specs.Journal.{call_of}
use Rattle.program_model.specs.declared.verdict.Verdict.TheVariants.{Legal, Bad}
use Rattle.program_model.specs.Verdicts.{with_gained, IsFirstBad}
use Rattle.journal_check.specs.Laws.{OneVerdict, LegalIsLegal}
use Rattle.journal_check.proofs.Turns.{legal_before}

-- two ways to part a list of entries at one of them: at one place, or at one place before the other
pub record Same (xs ys : List Entry) (x y : Entry) : Type 0 where
  pub before : xs ≡ ys
  pub given : x ≡ y

abbrev pub Before : List Entry → Entry → List Entry → Type 0
Before xs x ys = (zs : List Entry) × (ys ≡ xs ++ x ∷ zs)

pub parted : (xs ys more others : List Entry) (x y : Entry) → xs ++ x ∷ more ≡ ys ++ y ∷ others → Same xs ys x y ⊎ (Before xs x ys ⊎ Before ys y xs)
parted [] [] more others x y same = inl (record { before = refl; given = cc })
parted [] (z ∷ ys) more others x y same = let first : x ≡ z = cc in inr (inl (ys, ap (λ (e : Entry). e ∷ ys) (sym first)))
parted (z ∷ xs) [] more others x y same = let first : z ≡ y = cc in inr (inr (xs, ap (λ (e : Entry). e ∷ xs) first))
parted (z ∷ xs) (u ∷ ys) more others x y same =
    let first : z ≡ u = cc in
    let rest : xs ++ x ∷ more ≡ ys ++ y ∷ others = cc in
    elim (parted xs ys more others x y rest) [
      | inl s ↦ inl (record { before = ap (λ (e : Entry). e ∷ xs) first ∙ ap (λ l. u ∷ l) s.before; given = s.given })
      | inr (inl b) ↦ inr (inl (b.0, ap (λ (e : Entry). e ∷ ys) (sym first) ∙ ap (λ l. z ∷ l) b.1))
      | inr (inr b) ↦ inr (inr (b.0, ap (λ (e : Entry). e ∷ xs) first ∙ ap (λ l. u ∷ l) b.1))
    ]

-- the entries up to one, and those after it
pub history_among : (xs zs : List Entry) (x : Entry) → history_of (xs ++ x ∷ zs) ≡ history_of zs ++ (x ∷ history_of xs)
history_among xs zs x = reverse-append xs (x ∷ zs) ∙ (ap (λ l. l ++ history_of xs) (reverse-append (x ∷ []) zs) ∙ append_assoc (history_of zs) (x ∷ []) (history_of xs))

-- an entry that stands among legal ones is legal after those before it
pub legal_among : (C : Config) (xs zs : List Entry) (x : Entry) → IsLegal C (history_of (xs ++ x ∷ zs)) → IsLegal C (x ∷ history_of xs)
legal_among C xs zs x legal = legal_before C (history_of zs) (x ∷ history_of xs) (subst (IsLegal C) (history_among xs zs x) legal)

not_all : (C : Config) (entries : List Entry) (place : ℕ) (reply : Reply) (wanted : Option Entry) → IsFirstBad C entries place reply wanted → ¬ IsLegal C (history_of entries)
not_all C entries place reply wanted bad legal = bad.not_legal (legal_among C bad.before bad.after bad.given (subst (λ (l : List Entry). IsLegal C (history_of l)) bad.split legal))

-- the entry that was gained follows from the history after the call
same_gain : (P : History) (v w : Option Entry) → with_gained v P ≡ with_gained w P → v ≡ w
same_gain P None None same = refl
same_gain P (Some e) (Some f) same = let one : e ≡ f = cc in ap Some one
same_gain P None (Some f) same = absurd (omega (arith, ap length same))
same_gain P (Some e) None same = absurd (omega (arith, ap length same))

one_bad : (C : Config) (entries : List Entry) (p q : ℕ) (r s : Reply) (v w : Option Entry) → IsFirstBad C entries p r v → IsFirstBad C entries q s w → Bad p r v ≡ Bad q s w
one_bad C entries p q r s v w a b = elim (parted a.before b.before a.after b.after a.given b.given (sym a.split ∙ b.split)) [
  | inl s2 ↦ (
      let there : Answers C (history_of a.before) (call_of a.given) s (with_gained w (history_of a.before)) =
      subst (λ (l : List Entry). Answers C (history_of l) (call_of a.given) s (with_gained w (history_of l))) (sym s2.before)
      (subst (λ (e : Entry). Answers C (history_of b.before) (call_of e) s (with_gained w (history_of b.before))) (sym s2.given) b.answered) in
      let one = answer_one C (history_of a.before) (call_of a.given) r s (with_gained v (history_of a.before)) (with_gained w (history_of a.before)) a.answered there in
      let place : p ≡ q = omega (arith, a.counted, b.counted, ap length s2.before) in
      let gain : v ≡ w = same_gain (history_of a.before) v w one.1 in
      ap (λ (n : ℕ). Bad n r v) place ∙ (ap (λ (x : Reply). Bad q x v) one.0 ∙ ap (Bad q s) gain))
  | inr (inl x) ↦ absurd (a.not_legal (legal_among C a.before x.0 a.given (subst (λ (l : List Entry). IsLegal C (history_of l)) x.1 b.legal_before)))
  | inr (inr x) ↦ absurd (b.not_legal (legal_among C b.before x.0 b.given (subst (λ (l : List Entry). IsLegal C (history_of l)) x.1 a.legal_before)))
]

pub one_verdict : OneVerdict
one_verdict C entries Legal Legal v w = refl
one_verdict C entries Legal (Bad q s w) legal bad = absurd (not_all C entries q s w bad legal)
one_verdict C entries (Bad p r v) Legal bad legal = absurd (not_all C entries p r v bad legal)
one_verdict C entries (Bad p r v) (Bad q s w) a b = one_bad C entries p q r s v w a b

pub legal_is_legal : LegalIsLegal
legal_is_legal C entries Legal legal = (λ is. legal, λ is. refl)
legal_is_legal C entries (Bad p r v) bad = (λ is. absurd (cc), λ legal. absurd (not_all C entries p r v bad legal))
