-- The longest length covers each length that a request of either tenant has.
use Rattle.std.proofs.Common.{ℕ, ◌==◌, ◌≤◌, ◌≡◌, List, map, true, refl, ap, sym, subst, arith, inl, inr, [], ◌∷◌, ◌++◌, Some}
use Rattle.std.proofs.lemmas.Bool.{cases_Bool, eq-eqb, cond_both}
use Rattle.vt_fixed.specs.Rounding.{length_of}
use Rattle.fq_model.specs.declared.config.Config.{Config}
use Rattle.fq_model.specs.declared.event.Act.{Act}
use Rattle.fq_model.specs.declared.event.Act.TheVariants.{Submit}
use Rattle.fq_model.specs.declared.event.Entry.{Entry}
use Rattle.fq_model.specs.History.{History, Request, request_at, request_in, weight_at}
use Rattle.fq_model.specs.Charge.{greatest}
use Rattle.fq_model.specs.Gap.{weights_had, with_declared, all_declared, all_lengths, lengths_had, longest_length}
use Rattle.fq_laws.specs.Words.{Member}

-- ---- members

member_left : (x : ℕ) (xs ys : List ℕ) → Member x xs → Member x (xs ++ ys)
member_left x [] ys h = absurd h
member_left x (z ∷ xs) ys (inl e) = inl e
member_left x (z ∷ xs) ys (inr h) = inr (member_left x xs ys h)

member_right : (x : ℕ) (xs ys : List ℕ) → Member x ys → Member x (xs ++ ys)
member_right x [] ys h = h
member_right x (z ∷ xs) ys h = inr (member_right x xs ys h)

member_map : (f : ℕ → ℕ) (x : ℕ) (xs : List ℕ) → Member x xs → Member (f x) (map f xs)
member_map f x [] h = absurd h
member_map f x (z ∷ xs) (inl e) = inl (ap f e)
member_map f x (z ∷ xs) (inr h) = inr (member_map f x xs h)

pub greatest_covers : (x : ℕ) (xs : List ℕ) → Member x xs → x ≤ greatest xs
greatest_covers x [] h = absurd h
greatest_covers x (z ∷ xs) (inl e) = omega arith
greatest_covers x (z ∷ xs) (inr h) = omega (arith, greatest_covers x xs h)

-- ---- lengths

-- the length of each of the costs at each of the weights is one of the lengths
length_had : (cost w : ℕ) (costs ws : List ℕ) → Member cost costs → Member w ws → Member (length_of cost w) (all_lengths costs ws)
length_had cost w costs [] h k = absurd k
length_had cost w costs (v ∷ ws) h (inl e) = member_left _ _ _ (subst (λ z. Member (length_of cost z) (map (λ c. length_of c v) costs)) (sym e) (member_map (λ c. length_of c v) cost costs h))
length_had cost w costs (v ∷ ws) h (inr k) = member_right _ _ _ (length_had cost w costs ws h k)

-- no request that t submits in P has, at a weight that t has at a prefix of P, a length above B
abbrev pub LengthsAtMost : Config → History → ℕ → ℕ → Type 0
LengthsAtMost C P t B = (cost w : ℕ) → Member cost (all_declared P t) → Member w (weights_had C P t) → length_of cost w ≤ B

had_low : (C : Config) (P : History) (t B : ℕ) → ((x : ℕ) → Member x (lengths_had C P t) → x ≤ B) → LengthsAtMost C P t B
had_low C P t B h = λ cost w at_cost at_w. h (length_of cost w) (length_had cost w (all_declared P t) (weights_had C P t) at_cost at_w)

-- the longest length covers the lengths of both tenants
pub longest_covers_first : (C : Config) (P : History) (f g : ℕ) → LengthsAtMost C P f (longest_length C P f g)
unfolding longest_length
longest_covers_first C P f g = had_low C P f _ (λ x h. greatest_covers x _ (member_left x (lengths_had C P f) (lengths_had C P g) h))

pub longest_covers_second : (C : Config) (P : History) (f g : ℕ) → LengthsAtMost C P g (longest_length C P f g)
unfolding longest_length
longest_covers_second C P f g = had_low C P g _ (λ x h. greatest_covers x _ (member_right x (lengths_had C P f) (lengths_had C P g) h))

-- ---- shorter histories

still_declared : (t cost : ℕ) (a : Act) (older : List ℕ) → Member cost older → Member cost (with_declared t a older)
still_declared t cost (Submit request tenant kind declared label) older h = cond_both (tenant == t) (declared ∷ older) older (Member cost) (λ _. inr h) (λ _. h)
still_declared t cost _ older h = h

pub lengths_older : (C : Config) (e : Entry) (P : History) (t B : ℕ) → LengthsAtMost C (e ∷ P) t B → LengthsAtMost C P t B
lengths_older C e P t B h = λ cost w at_cost at_w. h cost w (still_declared t cost e.act (all_declared P t) at_cost) (inr at_w)

pub lengths_prefix : (C : Config) (newer P : History) (t B : ℕ) → LengthsAtMost C (newer ++ P) t B → LengthsAtMost C P t B
lengths_prefix C [] P t B h = h
lengths_prefix C (e ∷ newer) P t B h = lengths_prefix C newer P t B (lengths_older C e (newer ++ P) t B h)

-- ---- the length of a request now

declared_at : (P : History) (r : ℕ) (q : Request) (a : Act) → (request_at P r ≡ Some q → Member q.declared (all_declared P q.tenant)) → request_in r a (request_at P r) ≡ Some q → Member q.declared (with_declared q.tenant a (all_declared P q.tenant))
declared_at P r q (Submit request tenant kind declared label) ih h = elim (cases_Bool (request == r)) [
  | inl e ↦
      let k : Some (record { tenant = tenant; kind = kind; declared = declared; label = label }) ≡ Some q = rw e at h in
      let j : record { tenant = tenant; kind = kind; declared = declared; label = label } ≡ q = cc in
      let own : (tenant == q.tenant) ≡ true = eq-eqb tenant q.tenant (ap (λ x. x.tenant) j) in
      rw own (inl (sym (ap (λ x. x.declared) j)))
  | inr e ↦ still_declared q.tenant q.declared (Submit request tenant kind declared label) (all_declared P q.tenant) (ih (rw e at h))
]
declared_at P r q _ ih h = ih h

declared_had : (P : History) (r : ℕ) (q : Request) → request_at P r ≡ Some q → Member q.declared (all_declared P q.tenant)
declared_had [] r q h = absurd (cc)
declared_had (e ∷ P) r q h = declared_at P r q e.act (declared_had P r q) h

weight_had : (C : Config) (P : History) (t : ℕ) → Member (weight_at C P t) (weights_had C P t)
weight_had C [] t = inl refl
weight_had C (e ∷ P) t = inl refl

-- the length of the declared cost of a request of t, at the weight of t in P
pub length_now : (C : Config) (P : History) (t r B : ℕ) (q : Request) → LengthsAtMost C P t B → request_at P r ≡ Some q → q.tenant ≡ t → length_of q.declared (weight_at C P t) ≤ B
length_now C P t r B q h was own = h q.declared (weight_at C P t) (subst (λ u. Member q.declared (all_declared P u)) own (declared_had P r q was)) (weight_had C P t)
