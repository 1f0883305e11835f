-- Eligibility and eligible keys by finish and length.
use Rattle.std.proofs.Common.{ℕ, zero, suc, ◌+◌, ◌*◌, ◌/◌, ◌<◌, ◌≤◌, ◌≡◌, ◌⊎◌, ◌↔◌, arith, refl, sym, ◌∙◌, ap, subst, inl, inr, ℤ, pos, negsuc, unsigned_abs, ◌+ℤ◌, ◌-ℤ◌, ◌*ℤ◌, ◌≤ℤ◌}
use Rattle.std.proofs.lemmas.Int.{ints}
use Rattle.std.proofs.lemmas.Nat.{mul-le, le-div}
use Rattle.std.proofs.Math.Nat.{mul-add-div, div-mul-le_self, div-zero}
use Rattle.vt_fixed.specs.Rounding.{floor_div, part_of}
use Rattle.vt_fixed.proofs.Bounds.{div_mono}
use Rattle.fq_model.specs.declared.config.Policy.{Policy}
use Rattle.fq_model.specs.declared.config.Policy.TheVariants.{Wfq, Wf2q, Msf2q, TwoDfq, TwoDfqPlus}
use Rattle.fq_model.specs.Keys.{Turn, stagger, eligible_key, finish}
use Rattle.shared_order.specs.Reach.{reach, key_by_finish, Reaches}
use Rattle.shared_order.specs.Laws.{KeyIsFinishLess, KeyIsByFinish, EligibleIsInReach, KeyIsBounded, ReachIsBounded, ProductsFit}

-- ---- the start is not needed

pub key_less : KeyIsFinishLess
key_less at k = omega (arith, ints)

-- the length and its part are rounded as one number
one_rounding : (len i n : ℕ) → 0 < n → (n + i) * len / n ≡ len + part_of len i n
unfolding part_of
one_rounding len i n h = let e : (n + i) * len ≡ n * len + i * len = omega arith in rw e (mul-add-div h len (i * len))

key_by : (policy : Policy) (s : ℤ) (len i n : ℕ) → i < n → (s -ℤ stagger policy (pos len) i n) ≡ (s +ℤ pos len) -ℤ pos (reach policy len i n)
key_by Wfq s len i n lt = omega (arith, ints)
key_by Wf2q s len i n lt = omega (arith, ints)
key_by Msf2q s len i n lt = omega (arith, ints)
key_by TwoDfq s len i n lt = omega (arith, ints, one_rounding len i n (omega arith))
key_by TwoDfqPlus s len i n lt = omega (arith, ints, one_rounding len i n (omega arith))

key_of : (policy : Policy) (s len : ℤ) (i n : ℕ) → i < n → pos 0 ≤ℤ len → (s -ℤ stagger policy len i n) ≡ (s +ℤ len) -ℤ pos (reach policy (unsigned_abs len) i n)
key_of policy s (pos len) i n lt low = key_by policy s len i n lt
key_of policy s (negsuc m) i n lt low = absurd (omega (arith, ints, low))

pub key_by_its_finish : KeyIsByFinish
key_by_its_finish at k lt low = key_of at.policy k.start k.len at.worker at.workers lt low

back_to : (F L : ℤ) → F ≡ (F -ℤ L) +ℤ L
back_to F L = omega (arith, ints)

-- the finish less the length and the stagger
pub key_by_parts : (at : Turn) (F L : ℤ) → at.worker < at.workers → pos 0 ≤ℤ L → ((F -ℤ L) -ℤ stagger at.policy L at.worker at.workers) ≡ key_by_finish at F L
key_by_parts at F L lt low = key_of at.policy (F -ℤ L) L at.worker at.workers lt low ∙ ap (λ z. z -ℤ pos (reach at.policy (unsigned_abs L) at.worker at.workers)) (sym (back_to F L))

-- ---- products

-- a whole number is at most a quotient where its product is at most the number divided
below_quotient : (d : ℤ) (m n : ℕ) → 0 < n → d ≤ℤ pos (m / n) ↔ (pos n *ℤ d) ≤ℤ pos m
below_quotient (pos d) m n h = (
  λ p. omega (arith, ints, mul-le d n (m / n) n (omega (arith, ints, p)) (omega arith), div-mul-le_self m n),
  λ p. omega (arith, ints, le-div d m n h (omega (arith, ints, p))),
)
below_quotient (negsuc d) m (suc n) h = (λ p. omega (arith, ints), λ p. omega (arith, ints))
below_quotient (negsuc d) m zero h = absurd (omega (arith, h))

-- under 2dfq and 2dfq+: an eligible key is at most v where the products say so
staggered_reaches : (F v : ℤ) (len i n : ℕ) → i < n → (F -ℤ pos (floor_div ((n + i) * len) n)) ≤ℤ v ↔ (pos n *ℤ (F -ℤ v)) ≤ℤ (pos (n + i) *ℤ pos len)
staggered_reaches F v len i n lt = let both = below_quotient (F -ℤ v) ((n + i) * len) n (omega arith) in (
  λ k. both.0 (omega (arith, ints, k)),
  λ p. let q : (F -ℤ v) ≤ℤ pos ((n + i) * len / n) = both.1 p in omega (arith, ints),
)

reaches_by : (policy : Policy) (F v : ℤ) (len i n : ℕ) → i < n → ((policy ≡ Wfq) ⊎ ((F -ℤ pos (reach policy len i n)) ≤ℤ v)) ↔ Reaches policy i n (F -ℤ v) (pos len)
reaches_by Wfq F v len i n lt = (λ p. tt, λ p. inl refl)
reaches_by Wf2q F v len i n lt = (λ p. elim p [ inl e ↦ absurd (cc) | inr k ↦ omega (arith, ints) ], λ p. inr (omega (arith, ints)))
reaches_by Msf2q F v len i n lt = (λ p. elim p [ inl e ↦ absurd (cc) | inr k ↦ omega (arith, ints) ], λ p. inr (omega (arith, ints)))
reaches_by TwoDfq F v len i n lt = let both = staggered_reaches F v len i n lt in (
  λ p. elim p [ inl e ↦ absurd (cc) | inr k ↦ both.0 k ],
  λ p. inr (both.1 p),
)
reaches_by TwoDfqPlus F v len i n lt = let both = staggered_reaches F v len i n lt in (
  λ p. elim p [ inl e ↦ absurd (cc) | inr k ↦ both.0 k ],
  λ p. inr (both.1 p),
)

reaches_of : (policy : Policy) (F v len : ℤ) (i n : ℕ) → i < n → pos 0 ≤ℤ len → ((policy ≡ Wfq) ⊎ ((F -ℤ pos (reach policy (unsigned_abs len) i n)) ≤ℤ v)) ↔ Reaches policy i n (F -ℤ v) len
reaches_of policy F v (pos len) i n lt low = reaches_by policy F v len i n lt
reaches_of policy F v (negsuc m) i n lt low = absurd (omega (arith, ints, low))

pub eligible_in_reach : EligibleIsInReach
eligible_in_reach at k lt low =
    let e : eligible_key at k ≡ key_by_finish at (finish k) k.len = key_by_its_finish at k lt low in
    let both = reaches_of at.policy (finish k) at.virtual_time k.len at.worker at.workers lt low in (
      λ p. both.0 (elim p [ inl w ↦ inl w | inr early ↦ inr (subst (λ z. z ≤ℤ at.virtual_time) e early) ]),
      λ p. elim (both.1 p) [ inl w ↦ inl w | inr early ↦ inr (subst (λ z. z ≤ℤ at.virtual_time) (sym e) early) ],
    )

-- ---- bounds

-- under 2dfq and 2dfq+
staggered_mono : (len longer i n : ℕ) → len ≤ longer → floor_div ((n + i) * len) n ≤ floor_div ((n + i) * longer) n
staggered_mono len longer i zero h = rw (div-zero ((zero + i) * len)) (omega arith)
staggered_mono len longer i (suc n) h = div_mono _ _ (suc n) (omega arith) (mul-le (suc n + i) len (suc n + i) longer (omega arith) h)

reach_mono : (policy : Policy) (len longer i n : ℕ) → len ≤ longer → reach policy len i n ≤ reach policy longer i n
reach_mono Wfq len longer i n h = h
reach_mono Wf2q len longer i n h = h
reach_mono Msf2q len longer i n h = h
reach_mono TwoDfq len longer i n h = staggered_mono len longer i n h
reach_mono TwoDfqPlus len longer i n h = staggered_mono len longer i n h

abs_le : (x y : ℤ) → pos 0 ≤ℤ x → x ≤ℤ y → unsigned_abs x ≤ unsigned_abs y
abs_le (pos a) (pos b) low le = omega (arith, ints)
abs_le (pos a) (negsuc b) low le = absurd (omega (arith, ints, le))
abs_le (negsuc a) y low le = absurd (omega (arith, ints, low))

less : (F G v : ℤ) (r s : ℕ) → F ≤ℤ G → s ≤ r → (F -ℤ pos r) ≤ℤ (G -ℤ pos s)
less F G v r s h k = omega (arith, ints)

pub key_bounded : KeyIsBounded
key_bounded at F L G M b = less F G at.virtual_time (reach at.policy (unsigned_abs L) at.worker at.workers) (reach at.policy (unsigned_abs M) at.worker at.workers) b.no_later (reach_mono at.policy (unsigned_abs M) (unsigned_abs L) at.worker at.workers (abs_le M L b.some_length b.no_shorter))

le_trans : (x y z : ℤ) → x ≤ℤ y → y ≤ℤ z → x ≤ℤ z
le_trans x y z h k = omega (arith, ints)

pub reach_bounded : ReachIsBounded
reach_bounded at F L G M lt b p =
    let low : pos 0 ≤ℤ L = le_trans (pos 0) M L b.some_length b.no_shorter in
    let here = reaches_of at.policy G at.virtual_time M at.worker at.workers lt b.some_length in
    let there = reaches_of at.policy F at.virtual_time L at.worker at.workers lt low in
    there.0 (elim (here.1 p) [
      | inl w ↦ inl w
      | inr early ↦ inr (le_trans (key_by_finish at F L) (key_by_finish at G M) at.virtual_time (key_bounded at F L G M b) early)
    ])

-- ---- the products fit

pub products_fit : ProductsFit
products_fit i n ahead len lt small near short = (
  omega (arith, ints, mul-le n ahead 4294967296 20000000001048576000000000 (omega arith) (omega (arith, ints, near))),
  omega (arith, ints, mul-le (n + i) len 8589934592 1048576000000000 (omega arith) (omega (arith, ints, short))),
)
