-- What the limits of a configuration change: the range of the weights that are given later, and nothing else.
use Rattle.std.specs.Prelude.{ℕ, ◌≡◌, ◌↔◌, List, All}
use Rattle.fq_model.specs.declared.config.Config.{Config}
use Rattle.fq_model.specs.declared.event.Act.{Act}
use Rattle.fq_model.specs.declared.event.Call.{Call}
use Rattle.fq_model.specs.declared.event.Reply.{Reply}
use Rattle.fq_model.specs.declared.limits.Limits.{Limits}
use Rattle.fq_model.specs.declared.limits.TheConstants.{TEXT_WEIGHT}
use Rattle.fq_model.specs.Charge.{taken_weight, charged, virtual_charge, request_estimate}
use Rattle.fq_model.specs.History.{History, Request, weight_at, pool_at}
use Rattle.fq_model.specs.Keys.{tag, start, keys_at, turn_at}
use Rattle.fq_model.specs.Limits.{InLimits, IsWithinOwn, IsWithinText, as_text, greatest_weight}
use Rattle.fq_model.specs.Outcome.{OutcomeFrom, Outcome}
use Rattle.fq_model.specs.Pace.{Pace, clock_base, served_weight, paced_advance, pace, virtual_time, tag_base}
use Rattle.fq_model.specs.Rules.{IsChosen, Fits, IsLegal, Answers}
use Rattle.fq_model.specs.Time.{active_weight, virtual_advance, clock_time, virtual_idle_time}
use Rattle.limit_laws.specs.Words.{with_limits, GivesAtMost, WeightsAtMost, AsksAtMost}

-- ---- numbers

-- weights, charges, estimates, times and keys are the same under two configurations
pub record AreAlike (C D : Config) (P : History) : Type 0 where
  pub weights : (t : ℕ) → weight_at C P t ≡ weight_at D P t
  pub pools : pool_at C P ≡ pool_at D P
  pub active_weights : active_weight C P ≡ active_weight D P
  pub advances : (m : ℕ) → virtual_advance C P m ≡ virtual_advance D P m
  pub clocks : (m : ℕ) → clock_time C P m ≡ clock_time D P m
  pub idle_times : (m t : ℕ) → virtual_idle_time C P m t ≡ virtual_idle_time D P m t
  pub taken_weights : (t r : ℕ) → taken_weight C P t r ≡ taken_weight D P t r
  pub parts : (t r : ℕ) → charged C P t r ≡ charged D P t r
  pub charges : (t : ℕ) → virtual_charge C P t ≡ virtual_charge D P t
  pub estimates : (q : Request) → request_estimate C P q ≡ request_estimate D P q
  pub clock_bases : (t : ℕ) → clock_base C P t ≡ clock_base D P t
  pub served_weights : (s : Pace) → served_weight C P s ≡ served_weight D P s
  pub paced_advances : (s : Pace) (m : ℕ) → paced_advance C P s m ≡ paced_advance D P s m
  pub paces : pace C P ≡ pace D P
  pub times : (m : ℕ) → virtual_time C P m ≡ virtual_time D P m
  pub bases : (t : ℕ) → tag_base C P t ≡ tag_base D P t
  pub tags : (t : ℕ) → tag C P t ≡ tag D P t
  pub starts : (m t : ℕ) → start C P m t ≡ start D P m t
  pub keys : (m t : ℕ) → keys_at C P m t ≡ keys_at D P m t
  pub turns : (m i : ℕ) → turn_at C P m i ≡ turn_at D P m i

-- they are the same under any limits
abbrev pub LimitsChangeNoNumber : Type 0
LimitsChangeNoNumber = (C : Config) (l : Limits) (P : History) → AreAlike (with_limits l C) C P

-- so a worker takes the same request under any limits
abbrev pub LimitsChangeNoChoice : Type 0
LimitsChangeNoChoice =
    (C : Config) (l : Limits) (P : History) (m i request estimate : ℕ) (q : Request)
    → IsChosen C P m i request estimate q ↔ IsChosen (with_limits l C) P m i request estimate q

-- ---- configurations

-- a configuration whose numbers are within the limits l is one under these
abbrev pub NumbersKeepLimits : Type 0
NumbersKeepLimits =
    (C : Config) (l : Limits) → InLimits C → IsWithinOwn (with_limits l C) → InLimits (with_limits l C)

-- so is one whose numbers are within those of texts
abbrev pub NumbersKeepText : Type 0
NumbersKeepText = (C : Config) → InLimits C → IsWithinText C → InLimits (as_text C)

-- and a configuration of a text is one under all limits
abbrev pub TextKeepsLimits : Type 0
TextKeepsLimits = (C : Config) (l : Limits) → InLimits (as_text C) → InLimits (with_limits l C)

-- ---- legal histories

-- a legal history gives no weight above the limits that its configuration keeps
abbrev pub LegalWeights : Type 0
LegalWeights = (C : Config) (P : History) → IsLegal C P → WeightsAtMost (greatest_weight C.limits) P

-- an act that fits under some limits, and gives no weight above the limits l, fits under these
abbrev pub FitsUnderLimits : Type 0
FitsUnderLimits =
    (C : Config) (l : Limits) (P : History) (m : ℕ) (a : Act)
    → GivesAtMost (greatest_weight l) a → Fits C P m a → Fits (with_limits l C) P m a

-- a history that is legal under some limits, and gives no weight above the limits l, is legal under these
abbrev pub LegalUnderLimits : Type 0
LegalUnderLimits =
    (C : Config) (l : Limits) (P : History)
    → WeightsAtMost (greatest_weight l) P → IsLegal C P → IsLegal (with_limits l C) P

-- so is one that gives no weight above those of texts
abbrev pub LegalUnderText : Type 0
LegalUnderText = (C : Config) (P : History) → WeightsAtMost TEXT_WEIGHT P → IsLegal C P → IsLegal (as_text C) P

-- and a history that is legal under the limits of texts is legal under all
abbrev pub TextIsLegal : Type 0
TextIsLegal = (C : Config) (l : Limits) (P : History) → IsLegal (as_text C) P → IsLegal (with_limits l C) P

-- ---- replies

-- a call that asks for no weight above either limits is answered alike under both
abbrev pub AnswersAreAlike : Type 0
AnswersAreAlike =
    (C : Config) (l : Limits) (P : History) (c : Call) (r : Reply) (H : History)
    → AsksAtMost (greatest_weight C.limits) c → AsksAtMost (greatest_weight l) c
    → Answers C P c r H ↔ Answers (with_limits l C) P c r H

-- so are calls one by one
abbrev pub OutcomesAreAlike : Type 0
OutcomesAreAlike =
    (C : Config) (l : Limits) (P : History) (calls : List Call) (replies : List Reply) (H : History)
    → All (AsksAtMost (greatest_weight C.limits)) calls → All (AsksAtMost (greatest_weight l)) calls
    → OutcomeFrom C P calls replies H ↔ OutcomeFrom (with_limits l C) P calls replies H

-- and so, under all limits, are calls that ask for no weight above those of texts
abbrev pub TextOutcomesAreAlike : Type 0
TextOutcomesAreAlike =
    (C : Config) (l : Limits) (calls : List Call) (replies : List Reply) (H : History)
    → All (AsksAtMost TEXT_WEIGHT) calls → Outcome C calls replies H ↔ Outcome (with_limits l C) calls replies H
