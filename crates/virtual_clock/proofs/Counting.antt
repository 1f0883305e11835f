-- The weight of the tenants that are awake or linger, and how it changes with one tenant.
use Rattle.std.proofs.Common.{ℕ, ◌+◌, ◌<◌, ◌≤◌, ◌≡◌, ◌≢◌, true, false, arith, refl, sym, ◌∙◌, ap, inl, inr, Option, Some, None, is_some, length, slice_index, ℤ}
use Rattle.std.proofs.lemmas.Bool.{cases_Bool, cases_eq}
use Rattle.fq_model.specs.Sums.{sum_below}
use Rattle.fq_laws.proofs.Sums.{sum_at, part_of_sum}
use Rattle.winner_tree.specs.declared.key.Key.{Key}
use Rattle.winner_tree.specs.Order.{key_of}
use Rattle.virtual_clock.specs.declared.times.Times.{Times}
use Rattle.virtual_clock.specs.Idles.{idle_of, is_asleep}
use Rattle.virtual_clock.specs.Lingering.{IsReached, counted, counted_weight, IsCounted}

-- ---- one tenant's part

-- what a tenant counts by is the same
pub record SameCount (old new : Times) (u : ℕ) : Type 0 where
  pub asleep_same : is_asleep (idle_of new.idles u) ≡ is_asleep (idle_of old.idles u)
  pub key_same : key_of new.lingering u ≡ key_of old.lingering u
  pub weight_same : slice_index new.weights u ≡ slice_index old.weights u

-- where one tenant alone changes, and the clock's weight with it
pub record ChangesOne (old new : Times) (t : ℕ) : Type 0 where
  pub known : t < length old.weights
  pub weights_sized : length new.weights ≡ length old.weights
  pub idles_sized : length new.idles ≡ length old.idles
  pub keys_sized : length new.lingering ≡ length old.lingering
  pub others : (u : ℕ) → u ≢ t → SameCount old new u
  pub apart : is_some (key_of new.lingering t) ≡ true → is_asleep (idle_of new.idles t) ≡ true
  pub weight_is : new.clock.weights + counted old t ≡ old.clock.weights + counted new t

apart_still : (old new : Times) (t : ℕ) → IsCounted old → ChangesOne old new t → (u : ℕ) → is_some (key_of new.lingering u) ≡ true → is_asleep (idle_of new.idles u) ≡ true
apart_still old new t is c u h = elim (cases_eq u t) [
  | inl own ↦ rw own (c.apart (rw own at h))
  | inr other ↦ (let same = c.others u other in same.asleep_same ∙ is.apart u (ap is_some (sym same.key_same) ∙ h))
]

pub counted_still : (old new : Times) (t : ℕ) → IsCounted old → ChangesOne old new t → IsCounted new
unfolding counted_weight
counted_still old new t is c = record {
  idles_sized = c.idles_sized ∙ (is.idles_sized ∙ sym c.weights_sized);
  keys_sized = c.keys_sized ∙ (is.keys_sized ∙ sym c.weights_sized);
  apart = apart_still old new t is c;
  weight_is = (
      let step : sum_below (counted new) (length old.weights) + counted old t ≡ sum_below (counted old) (length old.weights) + counted new t = sum_at (counted old) (counted new) t (length old.weights) c.known (λ u ne. rw ((c.others u ne).asleep_same, (c.others u ne).key_same, (c.others u ne).weight_same) refl) in
      rw c.weights_sized (omega (arith, step, c.weight_is, is.weight_is))
      );
}

-- where the clock alone changes, and not its weight, or other parts that do not count
pub counted_alike : (old new : Times) → IsCounted old → new.weights ≡ old.weights → new.idles ≡ old.idles → new.lingering ≡ old.lingering → new.clock.weights ≡ old.clock.weights → IsCounted new
unfolding counted_weight
counted_alike old new is w i k c = record {
  idles_sized = rw (i, w) is.idles_sized;
  keys_sized = rw (k, w) is.keys_sized;
  apart = rw (k, i) is.apart;
  weight_is = rw (c, w, i, k) is.weight_is;
}

-- ---- what a tenant counts

pub counts_awake : (x : Times) (t : ℕ) → is_asleep (idle_of x.idles t) ≡ false → counted x t ≡ slice_index x.weights t
counts_awake x t awake = rw awake refl

pub counts_lingering : (x : Times) (t : ℕ) → is_some (key_of x.lingering t) ≡ true → counted x t ≡ slice_index x.weights t
counts_lingering x t some = elim (cases_Bool (is_asleep (idle_of x.idles t))) [ inl h ↦ rw (h, some) refl | inr h ↦ rw h refl ]

pub counts_nothing : (x : Times) (t : ℕ) → is_asleep (idle_of x.idles t) ≡ true → is_some (key_of x.lingering t) ≡ false → counted x t ≡ 0
counts_nothing x t asleep none = rw (asleep, none) refl

-- and it is part of the clock's weight
pub counted_part : (x : Times) (t : ℕ) → IsCounted x → t < length x.weights → counted x t ≤ x.clock.weights
unfolding counted_weight
counted_part x t is b = omega (arith, is.weight_is, part_of_sum (counted x) t (length x.weights) b)

-- ---- keys that are reached

reached_some : (v : ℤ) (o : Option Key) → IsReached v o → is_some o ≡ true
reached_some v None r = absurd r
reached_some v (Some key) r = refl
