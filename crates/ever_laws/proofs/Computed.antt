-- The premises of the bounds, and the values in them, computed on a short history.
use Rattle.std.proofs.Common.{ℕ, zero, suc, ◌+◌, ◌≤◌, ◌≡◌, true, refl, ap, ap₂, subst, arith, pos, inl, inr, max, [], ◌∷◌, length}
use Rattle.std.specs.Prelude.{◌-ℤ◌}
use Rattle.std.proofs.lemmas.Bool.{cases_eq}
use Rattle.vt_fixed.specs.Rounding.{length_of}
use Rattle.fq_model.specs.declared.config.Config.{Config}
use Rattle.fq_model.specs.declared.config.Policy.TheVariants.{TwoDfqPlus}
use Rattle.fq_model.specs.declared.event.Act.{Act}
use Rattle.fq_model.specs.declared.event.Act.TheVariants.{Take}
use Rattle.fq_model.specs.Charge.{is_taken_of}
use Rattle.fq_model.specs.Ever.{head_at, longest_head, longest_request, longest_of_all}
use Rattle.fq_model.specs.Gap.{is_declared, start_difference}
use Rattle.fq_model.specs.History.{History, request_bound}
use Rattle.fq_model.specs.Lead.{length_of_head, longest_of, may_rise, may_fall}
use Rattle.fq_model.specs.Limits.{InLimits}
use Rattle.fq_model.specs.Rules.{IsLegal}
use Rattle.fq_model.specs.Sums.{max_below}
use Rattle.fq_model.specs.Time.{last_moment}
use Rattle.fq_laws.proofs.Sums.{max_same}
use Rattle.worked_histories.proofs.Computed.Histories.{IsShort, shorter, asked_none, head_within, head_is, start_within, start_is, computing}
use Rattle.length_laws.proofs.Within.{initial_cost, all_within, costs_within, weights_positive}
use Rattle.ever_laws.specs.Words.{IsPacedWithin, most_of, least_of}
use Rattle.ever_laws.proofs.Foretold.{lengths_foretold}

-- where all acts are within c, no request is longer than c at weight 1
pub paced_within : (C : Config) (H : History) (c M : ℕ) → C.policy ≡ TwoDfqPlus → InLimits C → IsLegal C H → 1 ≤ c → initial_cost (is_declared C.estimate) C.initial ≤ c → all_within c H ≡ true → length_of c 1 ≡ M → IsPacedWithin C H M
paced_within C H c M paced lim l some initial within long = subst (IsPacedWithin C H) long (record {
  policy = paced;
  limits = lim;
  legal = l;
  lengths = lengths_foretold C H c 1 l (record {
    some_cost = some;
    some_weight = omega arith;
    costs = λ t. costs_within C H t c initial within;
    weights = λ t known. weights_positive C H t lim l known;
  });
})

pub most_is : (n k M : ℕ) (C : Config) (P : History) (t : ℕ) → IsShort n k P → most_of M C P t ≡ pos (start_within n C P (last_moment P) t + may_rise (λ r. M) C P t)
most_is n k M C P t s = rw (start_is n k C P (last_moment P) t s) refl

pub least_is : (n k : ℕ) (C : Config) (P : History) (t : ℕ) → IsShort n k P → least_of C P t ≡ pos (start_within n C P (last_moment P) t) -ℤ pos (may_fall (λ r. 0) C P t)
least_is n k C P t s = rw (start_is n k C P (last_moment P) t s) refl

pub difference_is : (n k : ℕ) (C : Config) (P : History) (f g : ℕ) → IsShort n k P → start_difference C P f g ≡ pos (start_within n C P (last_moment P) f) -ℤ pos (start_within n C P (last_moment P) g)
unfolding start_difference
difference_is n k C P f g s = rw (start_is n k C P (last_moment P) f s, start_is n k C P (last_moment P) g s) refl

-- ---- the greatest length

max_within : (f : ℕ → ℕ) (n m : ℕ) → n ≤ m → ((r : ℕ) → n ≤ r → f r ≡ 0) → max_below f m ≡ max_below f n
unfolding max_below
max_within f n zero b h = let e : n ≡ 0 = omega arith in rw e
max_within f n (suc m) b h = elim (cases_eq n (suc m)) [
  | inl e ↦ rw e
  | inr ne ↦ omega (arith, h m (omega arith), max_within f n m (omega arith) h)
]

longest_none : (n k : ℕ) (C : Config) (P : History) (t r : ℕ) → n ≤ r → IsShort n k P → longest_of C P t r ≡ 0
unfolding longest_of is_taken_of
longest_none n k C [] t r b s = refl
longest_none n k C (e ∷ P) t r b s = rw (asked_none n k r (e ∷ P) b s.acts, longest_none n k C P t r b (shorter n k e P s)) refl

abbrev pub head_at_within : ℕ → Config → History → ℕ → Act → ℕ
head_at_within n C P t (Take worker request estimate) = length_of_head C P t (head_within n P t)
head_at_within n C P t _ = 0

head_at_is : (n k : ℕ) (C : Config) (P : History) (t : ℕ) (a : Act) → IsShort n k P → head_at C P t a ≡ head_at_within n C P t a
head_at_is n k C P t (Take worker request estimate) s = ap (length_of_head C P t) (head_is n k P t s)
head_at_is n k C P t a s = refl

unfoldable pub longest_head_within : ℕ → Config → History → ℕ → ℕ
longest_head_within n C [] t = 0
longest_head_within n C (e ∷ P) t = max (head_at_within n C P t e.act) (longest_head_within n C P t)

longest_head_is : (n k : ℕ) (C : Config) (P : History) (t : ℕ) → IsShort n k P → longest_head C P t ≡ longest_head_within n C P t
unfolding longest_head longest_head_within
longest_head_is n k C [] t s = refl
longest_head_is n k C (e ∷ P) t s = let r = shorter n k e P s in ap₂ max (head_at_is n k C P t e.act r) (longest_head_is n k C P t r)

unfoldable pub longest_within : ℕ → Config → History → ℕ
longest_within n C H = max 1 (max_below (λ t. max (longest_head_within n C H t) (max_below (longest_of C H t) n)) (length C.weights))

pub longest_is : (n k : ℕ) (C : Config) (H : History) → IsShort n k H → longest_of_all C H ≡ longest_within n C H
unfolding longest_of_all longest_request longest_within request_bound
longest_is n k C H s = ap (max 1) (max_same (longest_request C H) _ (length C.weights) (λ t known. ap₂ max (longest_head_is n k C H t s) (max_within (longest_of C H t) n 4294967296 s.bound (λ r b. longest_none n k C H t r b s))))

-- the line `unfolding computing_longest` opens all of these
unfoldable pub computing_longest : Unit {0}
unfolding computing max_below longest_of longest_head_within longest_within
computing_longest = tt
