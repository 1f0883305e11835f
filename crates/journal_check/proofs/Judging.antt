-- The entries of a journal, judged one after another.
use Rattle.std.proofs.Common.{ℕ, ◌+◌, ◌<◌, ◌≤◌, ◌≡◌, ◌≢◌, ◌⊎◌, ◌∙◌, List, [], ◌∷◌, ◌++◌, length, Option, Some, None, arith, refl, sym, ap, subst, inl, inr, take, drop, get_or, add-one, append_assoc}
use Rattle.std.specs.Prelude.{slice_get}
use Rattle.std.proofs.Math.Seq.{take-suc}
use Rattle.std.proofs.lemmas.List.{reverse-append, reverse-reverse, take-append-drop, take_all}
use Rattle.std.proofs.lemmas.Option.{slice_get_past}
use Rattle.fq_model.specs.declared.config.Config.{Config}
use Rattle.fq_model.specs.declared.event.Entry.{Entry}
use Rattle.fq_model.specs.declared.event.Reply.{Reply}
use Rattle.fq_model.specs.History.{History, history_of}
use Rattle.fq_model.specs.Limits.{InLimits}
use Rattle.fq_model.specs.Rules.{Answers, IsLegal}
use Rattle.fq_laws.specs.Words.{Extends}
use Rattle.fq_laws.proofs.Rules.Answers.{answer_extends}
use Rattle.program_model.specs.Journal.{call_of}
use Rattle.program_model.specs.declared.verdict.Verdict.{Verdict}
use Rattle.program_model.specs.declared.verdict.Verdict.TheVariants.{Legal, Bad}
use Rattle.program_model.specs.Verdicts.{with_gained, IsFirstBad, IsVerdict}
use Rattle.journal_check.proofs.Fitting.{call_enters}

-- ---- the entry that a call adds

-- entries with one history are equal
pub same_entries : (old new : List Entry) → history_of new ≡ history_of old → new ≡ old
same_entries old new same = sym (reverse-reverse new) ∙ ap history_of same ∙ reverse-reverse old

added_last : (old new : List Entry) (e : Entry) → history_of new ≡ e ∷ history_of old → new ≡ old ++ e ∷ []
added_last old new e grown = same_entries (old ++ e ∷ []) new (grown ∙ sym (reverse-append old (e ∷ [])))

last_is : (old : List Entry) (e : Entry) → slice_get (old ++ e ∷ []) (length old) ≡ Some e
last_is [] e = refl
last_is (x ∷ old) e = last_is old e

-- a call left the entries as they were, or added this one
abbrev Added : List Entry → List Entry → Option Entry → Type 0
Added old new None = new ≡ old
Added old new (Some e) = new ≡ old ++ e ∷ []

added_is : (old new : List Entry) → (history_of new ≡ history_of old) ⊎ ((e : Entry) × (history_of new ≡ e ∷ history_of old)) → Added old new (slice_get new (length old))
added_is old new (inl same) =
    let is : new ≡ old = same_entries old new same in
    let none : slice_get new (length old) ≡ None = ap (λ (l : List Entry). slice_get l (length old)) is ∙ slice_get_past old (length old) (omega arith) in
    rw none is
added_is old new (inr grown) =
    let is : new ≡ old ++ grown.0 ∷ [] = added_last old new grown.0 grown.1 in
    let some : slice_get new (length old) ≡ Some grown.0 = ap (λ (l : List Entry). slice_get l (length old)) is ∙ last_is old grown.0 in
    rw some is

extended : (who moment : ℕ) (P Q : History) → Extends who moment P Q → (Q ≡ P) ⊎ ((e : Entry) × (Q ≡ e ∷ P))
extended who moment P Q (inl same) = inl same
extended who moment P Q (inr grown) = inr (record { who = who; moment = _; act = grown.0 }, grown.1)

-- the entry that a call adds is the next one
call_adds : (C : Config) (old new : List Entry) (given : Entry) (reply : Reply) → Answers C (history_of old) (call_of given) reply (history_of new) → Added old new (slice_get new (length old))
call_adds C old new given reply answers = added_is old new (extended _ _ _ _ (answer_extends C (history_of old) (call_of given) reply (history_of new) answers))

gained_is : (old new : List Entry) (wanted : Option Entry) → Added old new wanted → history_of new ≡ with_gained wanted (history_of old)
gained_is old new None same = ap history_of same
gained_is old new (Some e) grown = ap history_of grown ∙ reverse-append old (e ∷ [])

-- ---- the call of one entry

module _ (C : Config) (old new : List Entry) (given : Entry) (reply : Reply) (wanted : Option Entry)
    (answers : Answers C (history_of old) (call_of given) reply (history_of new)) (is : wanted ≡ slice_get new (length old)) where
  adds : Added old new wanted
  adds = subst (Added old new) (sym is) (call_adds C old new given reply answers)

  -- it adds the entry that is wanted, or none
  pub gained : history_of new ≡ with_gained wanted (history_of old)
  gained = gained_is old new wanted adds

  -- which is another entry, or none
  pub first_bad : InLimits C → IsLegal C (history_of old) → ¬ (wanted ≡ Some given) → IsFirstBad C (old ++ given ∷ []) (length old + 1) reply wanted
  first_bad limits before other = record {
    before = old;
    given = given;
    after = [];
    split = refl;
    counted = refl;
    legal_before = before;
    not_legal = λ legal. (
        let grown : history_of new ≡ given ∷ history_of old = call_enters C (history_of old) (history_of new) given reply limits legal answers in
        let last : slice_get new (length old) ≡ Some given = ap (λ (l : List Entry). slice_get l (length old)) (added_last old new given grown) ∙ last_is old given in
        other (is ∙ last)
        );
    answered = subst (Answers C (history_of old) (call_of given) reply) gained answers;
  }

  -- or it adds the entry
  pub added_given : wanted ≡ Some given → new ≡ old ++ given ∷ []
  added_given wants = subst (Added old new) wants adds

pub legal_given : (C D : Config) (old new : List Entry) (given : Entry) → D ≡ C → new ≡ old ++ given ∷ [] → IsLegal D (history_of new) → IsLegal C (history_of (old ++ given ∷ []))
legal_given C D old new given same grown legal = subst (λ (B : Config). IsLegal B (history_of (old ++ given ∷ []))) same (subst (λ (l : List Entry). IsLegal D (history_of l)) grown legal)

-- ---- the entries so far

-- a verdict on the first entries, if it is not Legal, is one on all
bad_stays : (C : Config) (entries more : List Entry) (v : Verdict) → v ≢ Legal → IsVerdict C entries v → IsVerdict C (entries ++ more) v
bad_stays C entries more Legal ne is = absurd (ne refl)
bad_stays C entries more (Bad place reply wanted) ne is = record {
  before = is.before;
  given = is.given;
  after = is.after ++ more;
  split = ap (λ l. l ++ more) is.split ∙ append_assoc is.before (is.given ∷ is.after) more;
  counted = is.counted;
  legal_before = is.legal_before;
  not_legal = is.not_legal;
  answered = is.answered;
}

-- the scheduler has made the calls of the first k entries, and they are its own
pub record IsJudged (C : Config) (entries : List Entry) (k : ℕ) (past : List Entry) : Type 0 where
  pub past_is : past ≡ take k entries
  pub legal : IsLegal C (history_of past)

pub none_judged : (C : Config) (entries past : List Entry) → past ≡ [] → IsJudged C entries 0 past
none_judged C entries past none = record { past_is = none; legal = rw none tt }

module _ (C : Config) (entries : List Entry) (k : ℕ) (old : List Entry) (given none : Entry) (judged : IsJudged C entries k old) (there : k < length entries) (is : given ≡ get_or entries k none) where
  up_to : old ++ given ∷ [] ≡ take (k + 1) entries
  up_to = ap (λ l. l ++ given ∷ []) judged.past_is ∙ ap (λ (e : Entry). take k entries ++ e ∷ []) is ∙ rw add-one (sym (take-suc entries k none there))

  pub bad_among : (v : Verdict) → v ≢ Legal → IsVerdict C (old ++ given ∷ []) v → IsVerdict C entries v
  bad_among v ne bad =
      subst (λ (l : List Entry). IsVerdict C l v) (take-append-drop (k + 1) entries) (bad_stays C (take (k + 1) entries) (drop (k + 1) entries) v ne (subst (λ (l : List Entry). IsVerdict C l v) up_to bad))

  pub one_more_judged : (new : List Entry) → new ≡ old ++ given ∷ [] → IsLegal C (history_of (old ++ given ∷ [])) → IsJudged C entries (k + 1) new
  one_more_judged new grown legal = record { past_is = grown ∙ up_to; legal = rw grown legal }

-- all are judged
pub all_judged : (C : Config) (entries : List Entry) (k : ℕ) (past : List Entry) → length entries ≤ k → IsJudged C entries k past → IsLegal C (history_of entries)
all_judged C entries k past all judged = subst (λ (l : List Entry). IsLegal C (history_of l)) (judged.past_is ∙ take_all k entries all) judged.legal
