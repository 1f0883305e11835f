-- The pace of 2dfq+ is the same under any limits.
use Rattle.std.proofs.Common.{ℕ, ◌≡◌, ◌-◌, ◌==◌, ◌&&◌, max, [], ◌∷◌, if◌then◌else◌, length, is_none, refl, ap, ◌∙◌}
use Rattle.std.proofs.Math.Path.{fun_ext}
use Rattle.fq_model.specs.declared.config.Config.{Config}
use Rattle.fq_model.specs.declared.event.Act.{Act}
use Rattle.fq_model.specs.declared.event.Act.TheVariants.{Submit, Take}
use Rattle.fq_model.specs.declared.limits.Limits.{Limits}
use Rattle.fq_model.specs.History.{History, head, request_at}
use Rattle.fq_model.specs.Pace.{Pace, weight_if_served, served_weight, paced_advance, paced_to, pace_of_submit, pace_of_tenant_take, tenant_of, pace_after, pace}
use Rattle.fq_laws.proofs.Sums.{sum_same}
use Rattle.limit_laws.specs.Words.{with_limits}
use Rattle.limit_laws.proofs.Numbers.{weight_same, pool_same, charge_same}

part_same : (C : Config) (l : Limits) (P : History) (s : Pace) (t : ℕ) → weight_if_served (with_limits l C) P s t ≡ weight_if_served C P s t
part_same C l P s t = rw (charge_same C l P t, weight_same C l P t) refl

pub served_same : (C : Config) (l : Limits) (P : History) (s : Pace) → served_weight (with_limits l C) P s ≡ served_weight C P s
unfolding served_weight
served_same C l P s = sum_same (weight_if_served (with_limits l C) P s) (weight_if_served C P s) (length C.weights) (λ t b. part_same C l P s t)

pub paced_advance_same : (C : Config) (l : Limits) (P : History) (s : Pace) (m : ℕ) → paced_advance (with_limits l C) P s m ≡ paced_advance C P s m
unfolding paced_advance
paced_advance_same C l P s m = rw (pool_same C l P, served_same C l P s) refl

pub paced_to_same : (C : Config) (l : Limits) (P : History) (s : Pace) (m : ℕ) → paced_to (with_limits l C) P s m ≡ paced_to C P s m
paced_to_same C l P s m = rw (paced_advance_same C l P s m) refl

-- a Submit, by the virtual charges
submit_by : (P : History) (v : ℕ) (s : Pace) (t : ℕ) → (ℕ → ℕ) → Pace
submit_by P v s t charge = record {
  now = v;
  reached = s.reached;
  base = λ u. if (t == u) && is_none (head P u) then max (v - charge u) (s.base u) else s.base u;
}

submit_same : (C : Config) (l : Limits) (P : History) (v : ℕ) (s : Pace) (t : ℕ) → pace_of_submit (with_limits l C) P v s t ≡ pace_of_submit C P v s t
unfolding submit_by
submit_same C l P v s t = ap (submit_by P v s t) (fun_ext (charge_same C l P))

take_same : (C : Config) (l : Limits) (P : History) (v : ℕ) (s : Pace) (t i estimate : ℕ) → pace_of_tenant_take (with_limits l C) P v s t i estimate ≡ pace_of_tenant_take C P v s t i estimate
take_same C l P v s t i estimate = rw (charge_same C l P t, weight_same C l P t, pool_same C l P) refl

after_same : (C : Config) (l : Limits) (P : History) (m : ℕ) (a : Act) (s : Pace) → pace_after (with_limits l C) P m a s ≡ pace_after C P m a s
after_same C l P m (Submit request tenant kind declared label) s =
    submit_same C l P (paced_to (with_limits l C) P s m) s tenant
    ∙ ap (λ v. pace_of_submit C P v s tenant) (paced_to_same C l P s m)
after_same C l P m (Take worker request estimate) s =
    let t = tenant_of (request_at P request) in
    take_same C l P (paced_to (with_limits l C) P s m) s t worker estimate
    ∙ ap (λ v. pace_of_tenant_take C P v s t worker estimate) (paced_to_same C l P s m)
after_same C l P m _ s = ap (λ v. record { now = v; reached = s.reached; base = s.base }) (paced_to_same C l P s m)

pub pace_same : (C : Config) (l : Limits) (P : History) → pace (with_limits l C) P ≡ pace C P
unfolding pace
pace_same C l [] = refl
pace_same C l (e ∷ P) =
    after_same C l P e.moment e.act (pace (with_limits l C) P) ∙ ap (pace_after C P e.moment e.act) (pace_same C l P)
