-- Replies under some limits, and under others.
use Rattle.fq_model.specs.declared.limits.TheConstants.{TEXT_WEIGHT}
use Rattle.std.proofs.Common.{ℕ, ◌≡◌, ◌≤◌, ◌∙◌, ◌||◌, ◌==◌, if◌then◌else◌, Option, Some, None, nat_lt, nat_le, Bool, true, false, List, [], ◌∷◌, All, refl, sym, ap, subst, arith}
use Rattle.std.specs.Prelude.{MatchBool}
use Rattle.std.proofs.lemmas.Bool.{le-ltb}
use Rattle.std.proofs.lemmas.List.Elements.{All-head, All-tail}
use Rattle.fq_model.specs.declared.config.Config.{Config}
use Rattle.fq_model.specs.declared.event.Call.{Call}
use Rattle.fq_model.specs.declared.event.Call.TheVariants as call
use Rattle.fq_model.specs.declared.event.Act.TheVariants.{Weight}
use Rattle.fq_model.specs.declared.event.Reply.{Reply}
use Rattle.fq_model.specs.declared.event.Reply.TheVariants as answer
use Rattle.fq_model.specs.declared.event.Cause.{Cause}
use Rattle.fq_model.specs.declared.limits.Limits.{Limits}
use Rattle.fq_model.specs.History.{History, waiting, is_closed, pool_at}
use Rattle.fq_model.specs.Limits.{is_outside, greatest_weight}
use Rattle.fq_model.specs.Outcome.{OutcomeFrom}
use Rattle.fq_model.specs.Rules.{IsAnswered, IsAccepted, RefusedOrElse, RunsChosen, AnswersPooled, AnswersFree, Answers, take_refusal, weight_refusal}
use Rattle.fq_model.specs.Time.{effective_moment}
use Rattle.fq_laws.proofs.Limits.{texts_keep_least}
use Rattle.limit_laws.specs.Laws.{AnswersAreAlike, OutcomesAreAlike, TextOutcomesAreAlike}
use Rattle.limit_laws.specs.Words.{with_limits, AsksAtMost}
use Rattle.limit_laws.proofs.Numbers.{pool_same}
use Rattle.limit_laws.proofs.Keys.{chosen_same}

-- ---- a Take

runs_under : (C : Config) (l : Limits) (P : History) (who moment i : ℕ) (r : Reply) (H : History) → RunsChosen C P who moment i r H → RunsChosen (with_limits l C) P who moment i r H
runs_under C l P who moment i r H x = record {
  request = x.request;
  estimate = x.estimate;
  asked = x.asked;
  chosen = chosen_same C l P (effective_moment P moment) i x.request x.estimate x.asked x.chosen;
  accepted = x.accepted;
}

either : (b : Bool) (A B D : Type 0) → (B → D) → MatchBool b A B → MatchBool b A D
either true A B D f x = x
either false A B D f x = f x

pooled_under : (C : Config) (l : Limits) (P : History) (who moment i : ℕ) (r : Reply) (H : History) → AnswersPooled C P who moment i r H → AnswersPooled (with_limits l C) P who moment i r H
pooled_under C l P who moment i r H =
    either (waiting P == 0) (IsAnswered P (if is_closed P then answer.Drained else answer.Idle) r H) _ _ (runs_under C l P who moment i r H)

-- the answer to a free worker of a pool of n
FreeBy : Config → History → ℕ → ℕ → ℕ → Reply → History → ℕ → Type 0
FreeBy C P who moment i r H n =
    MatchBool (nat_le n i) (IsAnswered P (answer.Retired n) r H) (AnswersPooled C P who moment i r H)

free_under : (C : Config) (l : Limits) (P : History) (who moment i : ℕ) (r : Reply) (H : History) → AnswersFree C P who moment i r H → AnswersFree (with_limits l C) P who moment i r H
unfolding FreeBy
free_under C l P who moment i r H x =
    subst (FreeBy (with_limits l C) P who moment i r H) (sym (pool_same C l P))
    (either (nat_le (pool_at C P) i) (IsAnswered P (answer.Retired (pool_at C P)) r H) _ _ (pooled_under C l P who moment i r H) x)

or_else : (c : Option Cause) (P : History) (r : Reply) (H : History) (A B : Type 0) → (A → B) → RefusedOrElse c P r H A → RefusedOrElse c P r H B
or_else None P r H A B f x = f x
or_else (Some c) P r H A B f x = x

-- ---- a Weight

-- a weight that neither limit is below is outside both or neither
outside_same : (n k weight : ℕ) → weight ≤ n → weight ≤ k → is_outside 1 n weight ≡ is_outside 1 k weight
outside_same n k weight a b = ap (λ x. nat_lt weight 1 || x) (le-ltb n weight a ∙ sym (le-ltb k weight b))

refusal_same : (C : Config) (l : Limits) (P : History) (tenant weight : ℕ) → weight ≤ greatest_weight C.limits → weight ≤ greatest_weight l → weight_refusal (with_limits l C) P tenant weight ≡ weight_refusal C P tenant weight
refusal_same C l P tenant weight a b = rw (outside_same (greatest_weight l) (greatest_weight C.limits) weight b a) refl

-- ---- calls

answers_under : (C : Config) (l : Limits) (P : History) (c : Call) (r : Reply) (H : History) → AsksAtMost (greatest_weight C.limits) c → AsksAtMost (greatest_weight l) c → Answers C P c r H → Answers (with_limits l C) P c r H
answers_under C l P (call.Take who moment worker) r H a b x =
    or_else (take_refusal C P worker) P r H _ _ (free_under C l P who moment worker r H) x
answers_under C l P (call.Weight who moment tenant weight) r H a b x =
    subst (λ c. RefusedOrElse c P r H (IsAccepted P who moment (Weight tenant weight) answer.Accepted r H)) (sym (refusal_same C l P tenant weight a b)) x
answers_under C l P (call.Submit who moment tenant kind declared label) r H a b x = x
answers_under C l P (call.Report who moment worker used) r H a b x = x
answers_under C l P (call.Done who moment worker cost) r H a b x = x
answers_under C l P (call.Close who moment) r H a b x = x
answers_under C l P (call.Workers who moment count) r H a b x = x
answers_under C l P (call.Withdraw who moment request) r H a b x = x

pub answers_alike : AnswersAreAlike
answers_alike C l P c r H a b = (answers_under C l P c r H a b, answers_under (with_limits l C) C.limits P c r H b a)

outcome_under : (C : Config) (l : Limits) (P : History) (calls : List Call) (replies : List Reply) (H : History) → All (AsksAtMost (greatest_weight C.limits)) calls → All (AsksAtMost (greatest_weight l)) calls → OutcomeFrom C P calls replies H → OutcomeFrom (with_limits l C) P calls replies H
outcome_under C l P [] [] H a b o = o
outcome_under C l P [] (r ∷ rs) H a b o = absurd o
outcome_under C l P (c ∷ cs) [] H a b o = absurd o
outcome_under C l P (c ∷ cs) (r ∷ rs) H a b o =
    let first = All-head (AsksAtMost (greatest_weight C.limits)) c cs a in
    let second = All-head (AsksAtMost (greatest_weight l)) c cs b in
    let rest = outcome_under C l o.0 cs rs H (All-tail (AsksAtMost (greatest_weight C.limits)) c cs a) (All-tail (AsksAtMost (greatest_weight l)) c cs b) o.2 in
    (o.0, answers_under C l P c r o.0 first second o.1, rest)

pub outcomes_alike : OutcomesAreAlike
outcomes_alike C l P calls replies H a b =
    (outcome_under C l P calls replies H a b, outcome_under (with_limits l C) C.limits P calls replies H b a)

asks_more : (n k : ℕ) (c : Call) → n ≤ k → AsksAtMost n c → AsksAtMost k c
asks_more n k (call.Weight who moment tenant weight) b g = omega arith
asks_more n k _ b g = tt

-- calls of a text are within all limits
pub asks_of_text : (l : Limits) (calls : List Call) → All (AsksAtMost TEXT_WEIGHT) calls → All (AsksAtMost (greatest_weight l)) calls
asks_of_text l calls g = λ i d lt. asks_more TEXT_WEIGHT (greatest_weight l) _ (texts_keep_least l).weight (g i d lt)

pub text_outcomes_alike : TextOutcomesAreAlike
text_outcomes_alike C l calls replies H g =
    outcomes_alike C l [] calls replies H (asks_of_text C.limits calls g) (asks_of_text l calls g)
