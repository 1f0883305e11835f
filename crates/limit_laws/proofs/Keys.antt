-- Tags, keys and the choice are the same under any limits.
use Rattle.std.proofs.Common.{ℕ, ◌≡◌, Option, Some, None, refl, sym, ap, ap₂, ◌∙◌, subst}
use Rattle.std.proofs.Math.Path.{fun_ext}
use Rattle.fq_model.specs.declared.config.Config.{Config}
use Rattle.fq_model.specs.declared.limits.Limits.{Limits}
use Rattle.fq_model.specs.Charge.{request_estimate, estimate_at}
use Rattle.fq_model.specs.History.{History, Request, head, request_at}
use Rattle.fq_model.specs.Keys.{tag, start, HeadKeys, Turn, IsChoice, IsChoiceAt, keys_of_request, keys_of_head, keys_at, turn_at}
use Rattle.fq_model.specs.Pace.{virtual_time, tag_base, pace, paced_to, time_for, base_for}
use Rattle.fq_model.specs.Rules.{IsChosen}
use Rattle.limit_laws.specs.Words.{with_limits}
use Rattle.limit_laws.proofs.Numbers.{weight_same, pool_same, clock_same, idle_same, charge_same, base_same}
use Rattle.limit_laws.proofs.Paces.{paced_to_same, pace_same}

pub estimate_same : (C : Config) (l : Limits) (P : History) (q : Request) → request_estimate (with_limits l C) P q ≡ request_estimate C P q
unfolding estimate_at
estimate_same C l P q = refl

paced_same : (C : Config) (l : Limits) (P : History) (m : ℕ) → paced_to (with_limits l C) P (pace (with_limits l C) P) m ≡ paced_to C P (pace C P) m
paced_same C l P m = paced_to_same C l P (pace (with_limits l C) P) m ∙ ap (λ s. paced_to C P s m) (pace_same C l P)

pub time_same : (C : Config) (l : Limits) (P : History) (m : ℕ) → virtual_time (with_limits l C) P m ≡ virtual_time C P m
unfolding virtual_time
time_same C l P m = ap₂ (time_for C.policy) (clock_same C l P m) (paced_same C l P m)

pub tag_base_same : (C : Config) (l : Limits) (P : History) (t : ℕ) → tag_base (with_limits l C) P t ≡ tag_base C P t
unfolding tag_base
tag_base_same C l P t = ap₂ (base_for C.policy) (base_same C l P t) (ap (λ s. s.base t) (pace_same C l P))

pub tag_same : (C : Config) (l : Limits) (P : History) (t : ℕ) → tag (with_limits l C) P t ≡ tag C P t
unfolding tag
tag_same C l P t = rw (charge_same C l P t, tag_base_same C l P t) refl

pub start_same : (C : Config) (l : Limits) (P : History) (m t : ℕ) → start (with_limits l C) P m t ≡ start C P m t
unfolding start
start_same C l P m t = rw (tag_same C l P t, charge_same C l P t, idle_same C l P m t) refl

of_request_same : (C : Config) (l : Limits) (P : History) (m t r : ℕ) (q : Option Request) → keys_of_request (with_limits l C) P m t r q ≡ keys_of_request C P m t r q
of_request_same C l P m t r None = refl
of_request_same C l P m t r (Some q) = rw (start_same C l P m t, estimate_same C l P q, weight_same C l P t) refl

of_head_same : (C : Config) (l : Limits) (P : History) (m t : ℕ) (r : Option ℕ) → keys_of_head (with_limits l C) P m t r ≡ keys_of_head C P m t r
of_head_same C l P m t None = refl
of_head_same C l P m t (Some r) = of_request_same C l P m t r (request_at P r)

pub keys_same : (C : Config) (l : Limits) (P : History) (m t : ℕ) → keys_at (with_limits l C) P m t ≡ keys_at C P m t
unfolding keys_at
keys_same C l P m t = of_head_same C l P m t (head P t)

pub turn_same : (C : Config) (l : Limits) (P : History) (m i : ℕ) → turn_at (with_limits l C) P m i ≡ turn_at C P m i
turn_same C l P m i = rw (pool_same C l P, time_same C l P m) refl

-- ---- the choice

-- the choice by a turn and by the keys of all tenants
ChoiceBy : (t i : ℕ) (k : HeadKeys) → Turn → (ℕ → Option HeadKeys) → Type 0
ChoiceBy t i k at keys = IsChoice at (λ u h. keys u ≡ Some h) t k

pub choice_same : (C : Config) (l : Limits) (P : History) (m i t : ℕ) (k : HeadKeys) → IsChoiceAt C P m i t k → IsChoiceAt (with_limits l C) P m i t k
unfolding ChoiceBy
choice_same C l P m i t k c =
    subst (λ at. ChoiceBy t i k at (keys_at (with_limits l C) P m)) (sym (turn_same C l P m i))
    (subst (ChoiceBy t i k (turn_at C P m i)) (sym (fun_ext (keys_same C l P m))) c)

pub chosen_same : (C : Config) (l : Limits) (P : History) (m i request estimate : ℕ) (q : Request) → IsChosen C P m i request estimate q → IsChosen (with_limits l C) P m i request estimate q
chosen_same C l P m i request estimate q h = record {
  tenant = h.tenant;
  keys = h.keys;
  choice = choice_same C l P m i h.tenant h.keys h.choice;
  request_is = h.request_is;
  asked = h.asked;
  estimate_is = h.estimate_is ∙ sym (estimate_same C l P q);
}
