-- A call leaves the past as it was, or adds one entry of its caller.
use Rattle.std.proofs.Common.{◌≡◌, ℕ, List, [], ◌∷◌, ◌++◌, reverse, sym, ap, ◌∙◌, subst, inl, inr, refl}
use Rattle.std.proofs.lemmas.List.{reverse-reverse, reverse-append}
use Rattle.fq_model.specs.declared.event.Entry.{Entry}
use Rattle.fq_model.specs.History.{history_of}
use Rattle.fq_laws.specs.Words.{Extends, caller, named_moment}
use Rattle.fq_laws.proofs.Rules.Answers.{answer_extends}
use Rattle.history_lock.specs.Histories.{Grows}
use Rattle.desk.specs.declared.floor.Crew.{Crew}
use Rattle.desk.specs.declared.asking.Ask.{Ask}
use Rattle.desk.specs.declared.asking.Ask.TheVariants as ask
use Rattle.desk.specs.declared.asking.DeskReply.{DeskReply}
use Rattle.desk.specs.Asking.{call_of, AnswersAsk}

caller_is : {J : Type 0} (label : J → ℕ) (who : ℕ) (asked : Ask J) → caller (call_of label who asked) ≡ who
caller_is label who (ask.Submit moment tenant kind declared job) = refl
caller_is label who (ask.Take moment worker) = refl
caller_is label who (ask.Report moment worker used) = refl
caller_is label who (ask.Done moment worker cost) = refl
caller_is label who (ask.Close moment) = refl
caller_is label who (ask.Weight moment tenant weight) = refl
caller_is label who (ask.Workers moment count) = refl
caller_is label who (ask.Withdraw moment request) = refl

-- no new entry in order of time
turned_same : (P Q : List Entry) → history_of Q ≡ history_of P → Q ≡ P
turned_same P Q e = sym (reverse-reverse Q) ∙ (ap reverse e ∙ reverse-reverse P)

-- one entry more in order of time
turned_more : (P Q : List Entry) (e : Entry) → history_of Q ≡ e ∷ history_of P → Q ≡ P ++ e ∷ []
turned_more P Q e is =
    sym (reverse-reverse Q)
    ∙ (ap reverse is ∙ (reverse-append (e ∷ []) (reverse P) ∙ ap (λ l. l ++ e ∷ []) (reverse-reverse P)))

extends_grows : (who moment : ℕ) (P Q : List Entry) → Extends who moment (history_of P) (history_of Q) → Grows who P Q
extends_grows who moment P Q (inl same) = inl (turned_same P Q same)
extends_grows who moment P Q (inr (act, more)) = inr (_, turned_more P Q _ more, refl)

pub answers_grow : {J : Type 0} (label : J → ℕ) (crew : Crew) (P : List Entry) (who : ℕ) (asked : Ask J)
    (reply : DeskReply J) (P2 : List Entry) → AnswersAsk label crew P who asked reply P2 → Grows who P P2
answers_grow label crew P who asked reply P2 a =
    let c = call_of label who asked in
    let more = answer_extends crew.config (history_of P) c _ (history_of P2) a.answers in
    subst (λ n. Grows n P P2) (caller_is label who asked) (extends_grows (caller c) (named_moment c) P P2 more)
