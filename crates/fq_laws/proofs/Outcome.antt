-- The outcome of a list of calls: it exists, there is one only, and its history is legal.
use Rattle.std.proofs.Common.{refl, subst, List, [], ◌∷◌, ◌++◌, sym, ◌≡◌, ap, ◌∙◌}
use Rattle.fq_model.specs.declared.config.Config.{Config}
use Rattle.fq_model.specs.declared.event.Call.{Call}
use Rattle.fq_model.specs.declared.event.Reply.{Reply}
use Rattle.fq_model.specs.History.{History}
use Rattle.fq_model.specs.Rules.{Answers, IsLegal}
use Rattle.fq_model.specs.Outcome.{OutcomeFrom, Outcome}
use Rattle.fq_model.specs.Limits.{InLimits}
use Rattle.fq_laws.proofs.Rules.Answers.{answer_legal, answer_one, answered}

-- one call more
pub outcome_snoc : (C : Config) (P Q H : History) (cs : List Call) (rs : List Reply) (c : Call) (r : Reply) → OutcomeFrom C P cs rs Q → Answers C Q c r H → OutcomeFrom C P (cs ++ c ∷ []) (rs ++ r ∷ []) H
outcome_snoc C P Q H [] [] c r o a = (H, subst (λ z. Answers C z c r H) o a, refl)
outcome_snoc C P Q H [] (s ∷ rs) c r o a = absurd o
outcome_snoc C P Q H (d ∷ cs) [] c r o a = absurd o
outcome_snoc C P Q H (d ∷ cs) (s ∷ rs) c r o a = (o.0, o.1, outcome_snoc C o.0 Q H cs rs c r o.2 a)

-- calls leave a legal history legal
pub outcome_from_legal : (C : Config) (P H : History) (cs : List Call) (rs : List Reply) → InLimits C → IsLegal C P → OutcomeFrom C P cs rs H → IsLegal C H
outcome_from_legal C P H [] [] lim l o = subst (IsLegal C) (sym o) l
outcome_from_legal C P H [] (s ∷ rs) lim l o = absurd o
outcome_from_legal C P H (d ∷ cs) [] lim l o = absurd o
outcome_from_legal C P H (d ∷ cs) (s ∷ rs) lim l o = outcome_from_legal C o.0 H cs rs lim (answer_legal C P d s o.0 lim l o.1) o.2

pub outcome_legal : (C : Config) (H : History) (cs : List Call) (rs : List Reply) → InLimits C → Outcome C cs rs H → IsLegal C H
outcome_legal C H cs rs lim o = outcome_from_legal C [] H cs rs lim tt o

-- calls have one list of replies and one history at most
pub outcome_from_one : (C : Config) (P H K : History) (cs : List Call) (rs ss : List Reply) → OutcomeFrom C P cs rs H → OutcomeFrom C P cs ss K → (rs ≡ ss) × (H ≡ K)
outcome_from_one C P H K [] [] [] o p = (refl, o ∙ sym p)
outcome_from_one C P H K [] [] (s ∷ ss) o p = absurd p
outcome_from_one C P H K [] (r ∷ rs) ss o p = absurd o
outcome_from_one C P H K (c ∷ cs) [] ss o p = absurd o
outcome_from_one C P H K (c ∷ cs) (r ∷ rs) [] o p = absurd p
outcome_from_one C P H K (c ∷ cs) (r ∷ rs) (s ∷ ss) o p =
    let e : (r ≡ s) × (o.0 ≡ p.0) = answer_one C P c r s o.0 p.0 o.1 p.1 in
    let rest : (rs ≡ ss) × (H ≡ K) = outcome_from_one C o.0 H K cs rs ss o.2 (subst (λ z. OutcomeFrom C z cs ss K) (sym e.1) p.2) in
    (ap (λ z. z ∷ rs) e.0 ∙ ap (λ z. s ∷ z) rest.0, rest.1)

pub outcome_one : (C : Config) (H K : History) (cs : List Call) (rs ss : List Reply) → Outcome C cs rs H → Outcome C cs ss K → (rs ≡ ss) × (H ≡ K)
outcome_one C H K cs rs ss o p = outcome_from_one C [] H K cs rs ss o p

-- and they have one
pub outcome_from_exists : (C : Config) (P : History) (cs : List Call) → InLimits C → IsLegal C P → (rs : List Reply) × (H : History) × OutcomeFrom C P cs rs H
outcome_from_exists C P [] lim l = ([], P, refl)
outcome_from_exists C P (c ∷ cs) lim l =
    let x = answered C P c l in
    let y = outcome_from_exists C x.1 cs lim (answer_legal C P c x.0 x.1 lim l x.2) in
    (x.0 ∷ y.0, y.1, (x.1, x.2, y.2))

pub outcome_exists : (C : Config) (cs : List Call) → InLimits C → (rs : List Reply) × (H : History) × Outcome C cs rs H
outcome_exists C cs lim = outcome_from_exists C [] cs lim tt
