-- Under 2dfq+ a Take lifts virtual time to the eligible key of its request, and the cap to its finish.
use Rattle.std.proofs.Common.{ℕ, ◌+◌, ◌-◌, max, ◌≡◌, arith, refl, ap, sym, ◌∙◌, Some, pos}
use Rattle.std.proofs.lemmas.Int.{ints, clamps}
use Rattle.std.specs.Int.{int_max}
use Rattle.std.specs.Prelude.{◌-ℤ◌, ◌+ℤ◌}
use Rattle.vt_fixed.specs.Rounding.{length_of, part_of}
use Rattle.fq_model.specs.declared.config.Config.{Config}
use Rattle.fq_model.specs.declared.config.Policy.{Policy}
use Rattle.fq_model.specs.declared.config.Policy.TheVariants.{TwoDfqPlus}
use Rattle.fq_model.specs.declared.event.Act.TheVariants.{Take}
use Rattle.fq_model.specs.Limits.{InLimits}
use Rattle.fq_model.specs.History.{History, request_at, weight_at, pool_at}
use Rattle.fq_model.specs.Charge.{request_estimate}
use Rattle.fq_model.specs.Keys.{HeadKeys, stagger, IsChoiceAt}
use Rattle.fq_model.specs.Pace.{virtual_time, pace}
use Rattle.fq_model.specs.Rules.{IsLegal}
use Rattle.fq_laws.specs.Words.{one_more}
use Rattle.fq_laws.specs.AccountLaws.{Lifts, IsPaceLow}
use Rattle.fq_laws.proofs.Rules.Takes.{choice_head}
use Rattle.fq_laws.proofs.Keys.Choices.{KeysOf, keys_of, chosen_one, chosen_keys}
use Rattle.fq_laws.proofs.Keys.Pace.{paced_start, virtual_time_lifted, reached_take, paced_low}
use Rattle.fq_laws.proofs.Keys.Tags.{start_paced, start_paced_low}

staggered : (p : Policy) (len i n : ℕ) → p ≡ TwoDfqPlus → stagger p (pos len) i n ≡ pos (part_of len i n)
staggered p len i n is = rw is refl

lifted_to : (v x part : ℕ) → pos (max v (x - part)) ≡ int_max (pos v) (pos x -ℤ pos part)
lifted_to v x part = omega (arith, ints, clamps)

reached_to : (s x len : ℕ) → pos (max s (x + len)) ≡ int_max (pos s) (pos x +ℤ pos len)
reached_to s x len = omega (arith, ints, clamps)

pub takes_lift : (C : Config) (P : History) (who m i r estimate t : ℕ) (k : HeadKeys) → C.policy ≡ TwoDfqPlus → IsLegal C (one_more who m (Take i r estimate) P) → IsChoiceAt C P m i t k → Lifts C P (one_more who m (Take i r estimate) P) m i k
takes_lift C P who m i r estimate t k is l choice =
    let x = l.3.chosen in
    let q = l.3.asked in
    let same_t : t ≡ x.tenant = chosen_one C P m i t x.tenant k x.keys choice x.choice in
    let same_k : k ≡ x.keys = chosen_keys C P m i t x.tenant k x.keys choice x.choice in
    let known : KeysOf C P m t k = keys_of C P m t k (choice_head C P m i t k choice) in
    let numbered : r ≡ k.request = x.request_is ∙ ap (λ (h : HeadKeys). h.request) (sym same_k) in
    let both : Some q ≡ Some known.what = sym x.asked ∙ (ap (request_at P) numbered ∙ known.was_asked) in
    let what_is : q ≡ known.what = cc in
    let mine : q.tenant ≡ t = ap (λ a. a.tenant) what_is ∙ known.mine in
    let starts : k.start ≡ pos (paced_start C P t) = ap (λ (h : HeadKeys). h.start) known.is ∙ ap pos (start_paced C P m t is) in
    let estimated : estimate ≡ request_estimate C P known.what = x.estimate_is ∙ ap (request_estimate C P) what_is in
    let long : k.len ≡ pos (length_of estimate (weight_at C P t)) = ap (λ (h : HeadKeys). h.len) known.is ∙ ap (λ c. pos (length_of c (weight_at C P t))) (sym estimated) in
    let lifted = rw mine at (virtual_time_lifted C P who m i r estimate q is x.asked) in
    let reached = rw mine at (reached_take C P who m i r estimate q x.asked) in
    let part : stagger C.policy (pos (length_of estimate (weight_at C P t))) i (pool_at C P) ≡ pos (part_of (length_of estimate (weight_at C P t)) i (pool_at C P)) = staggered C.policy (length_of estimate (weight_at C P t)) i (pool_at C P) is in
    record {
      time_is = rw (starts, long, part, lifted) (lifted_to (virtual_time C P m) (paced_start C P t) _);
      cap_is = rw (starts, long, reached) (reached_to (pace C P).reached (paced_start C P t) _);
    }

-- the number of entries bounds all
pub pace_low : (C : Config) (P : History) → C.policy ≡ TwoDfqPlus → InLimits C → IsLegal C P → IsPaceLow C P
pace_low C P is lim l = record {
  cap_low = (paced_low C P lim l).cap_low;
  starts_low = λ m t. start_paced_low C P m t is lim l;
}
