-- The longest length is that of the greatest declared cost at the least weight.
use Rattle.std.proofs.Common.{ℕ, ◌+◌, ◌≤◌, ◌<◌, ◌==◌, ◌≡◌, ◌⊎◌, ◌∙◌, max, min, refl, ap, ap₂, sym, subst, arith, inl, inr, List, [], ◌∷◌, ◌++◌, map, length}
use Rattle.std.proofs.lemmas.Bool.{cases_Bool}
use Rattle.vt_fixed.specs.Rounding.{length_of}
use Rattle.vt_fixed.specs.declared.limits.TheConstants.{GREATEST_COST}
use Rattle.vt_fixed.proofs.Bounds.{length_none, length_max, length_min, length_high}
use Rattle.fq_model.specs.declared.config.Config.{Config}
use Rattle.fq_model.specs.declared.config.Policy.{Policy}
use Rattle.fq_model.specs.declared.config.Policy.TheVariants.{Wfq, Wf2q, Msf2q, TwoDfq, TwoDfqPlus}
use Rattle.fq_model.specs.declared.event.Act.{Act}
use Rattle.fq_model.specs.declared.event.Act.TheVariants.{Submit, Weight}
use Rattle.fq_model.specs.declared.event.Entry.{Entry}
use Rattle.fq_model.specs.Limits.{InLimits, IsWeight}
use Rattle.fq_model.specs.History.{History, history_of, weight_at, weight_after}
use Rattle.fq_model.specs.Charge.{greatest}
use Rattle.fq_model.specs.Gap.{weights_had, with_declared, all_declared, all_lengths, lengths_had, longest_length, lengths_in_bound}
use Rattle.fq_model.specs.Rules.{IsLegal, Fits}
use Rattle.fq_laws.proofs.History.Weights.{weight_low, weight_high, weight_step}
use Rattle.tag_gap.specs.declared.lengths.Extremes.{Extremes}
use Rattle.tag_gap.specs.Lengths.{extremes_with}
use Rattle.tag_difference.proofs.Prefixes.{first_entries, next_entry, one_on, legal_next, all_entries}

-- ---- the greatest

pub greatest_both : (xs ys : List ℕ) → greatest (xs ++ ys) ≡ max (greatest xs) (greatest ys)
greatest_both [] ys = omega arith
greatest_both (x ∷ xs) ys = omega (arith, greatest_both xs ys)

-- the greatest length at one weight is that of the greatest cost
greatest_at : (costs : List ℕ) (w : ℕ) → 1 ≤ w → greatest (map (λ cost. length_of cost w) costs) ≡ length_of (greatest costs) w
greatest_at [] w b = sym (length_none w)
greatest_at (c ∷ costs) w b = ap (max (length_of c w)) (greatest_at costs w b) ∙ sym (length_max c (greatest costs) w b)

-- the least weight that tenant t has at the prefixes of P
abbrev pub least_weight : Config → History → ℕ → ℕ
least_weight C [] t = weight_at C [] t
least_weight C (e ∷ P) t = min (least_weight C P t) (weight_at C (e ∷ P) t)

least_in_range : (C : Config) (P : History) (t : ℕ) → InLimits C → IsLegal C P → t < length C.weights → IsWeight (least_weight C P t)
least_in_range C [] t lim l known = (weight_low C [] t lim l known, weight_high C [] t lim l)
least_in_range C (e ∷ P) t lim l known =
    let older : IsWeight (least_weight C P t) = least_in_range C P t lim l.0 known in
    (omega (arith, older.0, weight_low C (e ∷ P) t lim l known), omega (arith, older.1))

-- and over all weights that of the greatest cost at the least weight
greatest_length : (C : Config) (P : History) (t : ℕ) (costs : List ℕ) → InLimits C → IsLegal C P → t < length C.weights → greatest (all_lengths costs (weights_had C P t)) ≡ length_of (greatest costs) (least_weight C P t)
greatest_length C [] t costs lim l known =
    let here : greatest (map (λ cost. length_of cost (weight_at C [] t)) costs) ≡ length_of (greatest costs) (weight_at C [] t) = greatest_at costs (weight_at C [] t) (weight_low C [] t lim l known) in
    omega (arith, here, greatest_both (map (λ cost. length_of cost (weight_at C [] t)) costs) [])
greatest_length C (e ∷ P) t costs lim l known =
    let here : greatest (map (λ cost. length_of cost (weight_at C (e ∷ P) t)) costs) ≡ length_of (greatest costs) (weight_at C (e ∷ P) t) = greatest_at costs (weight_at C (e ∷ P) t) (weight_low C (e ∷ P) t lim l known) in
    let older = greatest_length C P t costs lim l.0 known in
    let both = length_min (greatest costs) (least_weight C P t) (weight_at C (e ∷ P) t) (least_in_range C P t lim l.0 known).0 (weight_low C (e ∷ P) t lim l known) in
    omega (arith, here, older, both, greatest_both (map (λ cost. length_of cost (weight_at C (e ∷ P) t)) costs) (all_lengths costs (weights_had C P t)))

-- ---- the extremes of a history

pub record ExtremesAre (C : Config) (P : History) (t : ℕ) (x : Extremes) : Type 0 where
  pub cost_is : x.cost ≡ greatest (all_declared P t)
  pub weight_is : x.weight ≡ least_weight C P t
  pub cost_low : x.cost ≤ GREATEST_COST

pub extremes_nil : (C : Config) (t w : ℕ) → w ≡ weight_at C [] t → ExtremesAre C [] t (record { cost = 0; weight = w })
extremes_nil C t w is = record { cost_is = refl; weight_is = is; cost_low = omega arith }

least_low : (C : Config) (P : History) (t : ℕ) → least_weight C P t ≤ weight_at C P t
least_low C [] t = omega arith
least_low C (e ∷ P) t = omega arith

extremes_at : (C : Config) (P : History) (m t now least : ℕ) (a : Act) (x : Extremes) → Fits C P m a → ExtremesAre C P t x → least ≤ now → x.weight ≡ least → ((extremes_with x a t).cost ≡ greatest (with_declared t a (all_declared P t))) × ((extremes_with x a t).weight ≡ min least (weight_after t a now)) × ((extremes_with x a t).cost ≤ GREATEST_COST)
extremes_at C P m t now least (Submit request tenant kind declared label) x f is low same = elim (cases_Bool (tenant == t)) [
  | inl e ↦ rw e (omega (arith, is.cost_is), omega (arith, same, low), omega (arith, is.cost_low, f.declared_high))
  | inr e ↦ rw e (is.cost_is, omega (arith, same, low), is.cost_low)
]
extremes_at C P m t now least (Weight tenant weight) x f is low same = elim (cases_Bool (tenant == t)) [
  | inl e ↦ rw e (is.cost_is, omega (arith, same), is.cost_low)
  | inr e ↦ rw e (is.cost_is, omega (arith, same, low), is.cost_low)
]
extremes_at C P m t now least a x f is low same = (is.cost_is, omega (arith, same, low), is.cost_low)

extremes_next : (C : Config) (P : History) (e : Entry) (t : ℕ) (x : Extremes) → IsLegal C (e ∷ P) → ExtremesAre C P t x → ExtremesAre C (e ∷ P) t (extremes_with x e.act t)
extremes_next C P e t x l is =
    let k = extremes_at C P e.moment t (weight_at C P t) (least_weight C P t) e.act x l.3 is (least_low C P t) is.weight_is in
    record { cost_is = k.0; weight_is = k.1 ∙ ap (min (least_weight C P t)) (sym (weight_step C P e t)); cost_low = k.2 }

-- and over the entries of a past
pub extremes_on : (C : Config) (past : List Entry) (i t : ℕ) (x : Extremes) → i < length past → IsLegal C (history_of past) → ExtremesAre C (first_entries past i) t x → ExtremesAre C (first_entries past (i + 1)) t (extremes_with x (next_entry past i).act t)
extremes_on C past i t x b l is = subst (λ H. ExtremesAre C H t (extremes_with x (next_entry past i).act t)) (sym (one_on past i b)) (extremes_next C (first_entries past i) (next_entry past i) t x (legal_next C past i b l) is)

-- at the end their length is the longest
pub record Longest (C : Config) (H : History) (t : ℕ) (x : Extremes) : Type 0 where
  pub weight_in_range : IsWeight x.weight
  pub high : length_of x.cost x.weight ≤ 1048576000000000
  pub is : length_of x.cost x.weight ≡ greatest (lengths_had C H t)

extremes_longest : (C : Config) (H : History) (t : ℕ) (x : Extremes) → InLimits C → IsLegal C H → t < length C.weights → ExtremesAre C H t x → Longest C H t x
extremes_longest C H t x lim l known is =
    let weight : IsWeight x.weight = subst IsWeight (sym is.weight_is) (least_in_range C H t lim l known) in
    record {
      weight_in_range = weight;
      high = length_high x.cost x.weight is.cost_low weight.0;
      is = ap₂ length_of is.cost_is is.weight_is ∙ sym (greatest_length C H t (all_declared H t) lim l known);
    }

pub extremes_end : (C : Config) (past : List Entry) (i t : ℕ) (x : Extremes) → InLimits C → IsLegal C (history_of past) → t < length C.weights → length past ≤ i → ExtremesAre C (first_entries past i) t x → Longest C (history_of past) t x
extremes_end C past i t x lim l known b is = extremes_longest C (history_of past) t x lim l known (subst (λ H. ExtremesAre C H t x) (all_entries past i b) is)

-- the longest length of two tenants is the greater of theirs
pub longest_both : (C : Config) (H : History) (f g : ℕ) → longest_length C H f g ≡ max (greatest (lengths_had C H f)) (greatest (lengths_had C H g))
unfolding longest_length
longest_both C H f g = greatest_both (lengths_had C H f) (lengths_had C H g)

-- the number of lengths in the bound
pub lengths_two : (p q : Policy) → p ≡ q → (p ≡ TwoDfq) ⊎ (p ≡ TwoDfqPlus) → lengths_in_bound q ≡ 2
lengths_two p q same (inl is) = rw (← same, is) refl
lengths_two p q same (inr is) = rw (← same, is) refl

pub lengths_one : (p q : Policy) → p ≡ q → (p ≡ Wfq) ⊎ ((p ≡ Wf2q) ⊎ (p ≡ Msf2q)) → lengths_in_bound q ≡ 1
lengths_one p q same (inl is) = rw (← same, is) refl
lengths_one p q same (inr (inl is)) = rw (← same, is) refl
lengths_one p q same (inr (inr is)) = rw (← same, is) refl
