-- Consequences of the choice of one tenant for another with a head.
use Rattle.std.proofs.Common.{ℕ, ◌+◌, ◌*◌, ◌<◌, ◌≤◌, ◌≢◌, arith, inl, inr, ◌⊎◌, ℤ, pos, ◌≤ℤ◌}
use Rattle.std.specs.Prelude.{◌+ℤ◌, ◌-ℤ◌}
use Rattle.std.specs.Int.{int_max}
use Rattle.std.proofs.lemmas.Int.{ints, clamps, by_lt_z}
use Rattle.vt_fixed.proofs.Bounds.{part_le}
use Rattle.fq_model.specs.declared.config.Policy.{Policy}
use Rattle.fq_model.specs.declared.config.Policy.TheVariants.{Wfq, Wf2q, Msf2q, TwoDfq, TwoDfqPlus}
use Rattle.fq_model.specs.Keys.{HeadKeys, Turn, stagger, eligible_key, IsEligible, FinishBefore, EligibleBefore, IsChoice}
use Rattle.fq_model.specs.Gap.{lengths_in_bound}
use Rattle.fq_laws.proofs.Keys.Choices.{eligible_or_not}

-- the keys of the head r with the start s and the length len
abbrev pub keys : ℕ → ℕ → ℕ → HeadKeys
keys s len r = record { start = pos s; len = pos len; request = r }

-- a head with its stagger is at most the bound's lengths long
pub stagger_high : (policy : Policy) (len i n B : ℕ) → i < n → len ≤ B → (stagger policy (pos len) i n +ℤ pos len) ≤ℤ pos (lengths_in_bound policy * B)
stagger_high Wfq len i n B lt low = omega (arith, ints)
stagger_high Wf2q len i n B lt low = omega (arith, ints)
stagger_high Msf2q len i n B lt low = omega (arith, ints)
stagger_high TwoDfq len i n B lt low = omega (arith, ints, part_le len i n lt)
stagger_high TwoDfqPlus len i n B lt low = omega (arith, ints, part_le len i n lt)

stagger_low : (policy : Policy) (len i n : ℕ) → pos 0 ≤ℤ stagger policy (pos len) i n
stagger_low Wfq len i n = omega (arith, ints)
stagger_low Wf2q len i n = omega (arith, ints)
stagger_low Msf2q len i n = omega (arith, ints)
stagger_low TwoDfq len i n = omega (arith, ints)
stagger_low TwoDfqPlus len i n = omega (arith, ints)

pub length_counts : (policy : Policy) (B : ℕ) → B ≤ lengths_in_bound policy * B
length_counts Wfq B = omega arith
length_counts Wf2q B = omega arith
length_counts Msf2q B = omega arith
length_counts TwoDfq B = omega arith
length_counts TwoDfqPlus B = omega arith

-- the chosen tenant, whose head starts at a and is x long, starts at a + x after the Take; another one starts at b
by_finish : (a b x y r s B : ℕ) → y ≤ B → FinishBefore (keys a x r) (keys b y s) → a + x ≤ b + B
by_finish a b x y r s B low (inl h) = omega (arith, ints)
by_finish a b x y r s B low (inr h) = omega (arith, ints)

key_first : (at : Turn) (k l : HeadKeys) → EligibleBefore at k l → eligible_key at k ≤ℤ eligible_key at l
key_first at k l (inl h) = omega (arith, ints)
key_first at k l (inr h) = omega (arith, ints)

-- an eligible head comes before one that is not, by the eligible key
key_passes : (at : Turn) (k l : HeadKeys) → IsEligible at k → ¬ IsEligible at l → eligible_key at k ≤ℤ eligible_key at l
key_passes at k l (inl all) out = absurd (out (inl all))
key_passes at k l (inr is) out = by_lt_z at.virtual_time (eligible_key at l) (λ late. omega (arith, ints)) (λ early. absurd (out (inr early)))

by_key_ahead : (policy : Policy) (i n a b x y : ℕ) → (pos a -ℤ stagger policy (pos x) i n) ≤ℤ (pos b -ℤ stagger policy (pos y) i n) → pos (a + x) ≤ℤ (pos b +ℤ (stagger policy (pos x) i n +ℤ pos x))
by_key_ahead policy i n a b x y h = omega (arith, ints, stagger_low policy y i n)

either_ahead : (a b x y : ℕ) (part : ℤ) → (a + x ≤ b + y) ⊎ (pos (a + x) ≤ℤ (pos b +ℤ (part +ℤ pos x))) → pos (a + x) ≤ℤ (pos b +ℤ int_max (pos y) (part +ℤ pos x))
either_ahead a b x y part (inl h) = omega (arith, ints, clamps)
either_ahead a b x y part (inr h) = omega (arith, ints, clamps)

-- after its Take the chosen tenant is ahead of another with a head by no more than that head is long, or than its own
-- head and its stagger
pub chosen_lead : (at : Turn) (Has : ℕ → HeadKeys → Type 0) (f g a b x y r s : ℕ) → at.worker < at.workers → g ≢ f → Has g (keys b y s) → IsChoice at Has f (keys a x r) → pos (a + x) ≤ℤ (pos b +ℤ int_max (pos y) (stagger at.policy (pos x) at.worker at.workers +ℤ pos x))
chosen_lead at Has f g a b x y r s lt ne has (inl c) = either_ahead a b x y (stagger at.policy (pos x) at.worker at.workers) (elim (eligible_or_not at (keys b y s)) [
  | inl early ↦ inl (by_finish a b x y r s y (omega arith) (c.first g (keys b y s) ne has early))
  | inr late ↦ inr (by_key_ahead at.policy at.worker at.workers a b x y (key_passes at (keys a x r) (keys b y s) c.passes late))
])
chosen_lead at Has f g a b x y r s lt ne has (inr c) = either_ahead a b x y (stagger at.policy (pos x) at.worker at.workers)
    (inr (by_key_ahead at.policy at.worker at.workers a b x y (key_first at (keys a x r) (keys b y s) (c.1.first g (keys b y s) ne has tt))))
