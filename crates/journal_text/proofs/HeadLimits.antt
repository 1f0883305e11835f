-- The invariant of a head while it is read, and that the configuration of a head with a kind is within its limits.
use Rattle.std.proofs.Common.{ℕ, zero, suc, ◌*◌, ◌<◌, ◌≤◌, ◌≡◌, ◌==◌, Bool, true, false, not, ◌||◌, ◌&&◌, nat_lt, if◌then◌else◌, ◌⊎◌, inl, inr, [], ◌∷◌, ◌++◌, length, All, Result, Ok, Err, refl, subst, arith, length-append}
use borrow.Author.Tests.{ltb-false}
use Rattle.std.specs.Prelude.{codes}
use Rattle.std.proofs.lemmas.Bool.{eqb-true, eqb-false}
use Rattle.std.proofs.lemmas.List.Elements.{All-append}
use Rattle.fq_model.specs.Limits.{IsWithin, IsTextWeight, InLimits}
use Rattle.vt_fixed.specs.declared.limits.TheConstants.{GREATEST_COST}
use Rattle.fq_model.specs.declared.limits.TheConstants.{TEXT_WEIGHT, TEXT_WORKERS, TEXT_TENANTS, MOST_KINDS, TEXT_PAIRS, LEAST_ENTRIES, MOST_ENTRIES, TEXT_REQUESTS}
use Rattle.program_model.specs.declared.fault.ScriptKind.{ScriptKind}
use Rattle.program_model.specs.declared.fault.ScriptKind.TheVariants.{TooMany}
use Rattle.program_model.specs.Document.{Settings, Document, config_of, settings_of, new_among, not_too_many, with_tenant, with_kind, opened, config_line}
use Rattle.program_model.specs.Reading.{◌>>=◌, begins_with, is_empty}
use Rattle.program_model.specs.Lines.{Words, number_at, ranged_at, policy_at, estimator_at, with_count, name_at}
use Rattle.journal_text.specs.Reading.{with_head_line}

-- the value of a first step, where both steps have one
pub bind_ok : {A B F : Type 0} (r : Result A F) (f : A → Result B F) (y : B) → (r >>= f) ≡ Ok y → (x : A) × (r ≡ Ok x) × (f x ≡ Ok y)
bind_ok (Ok x) f y h = (x, refl, h)
bind_ok (Err e) f y h = absurd (cc)

Ok-injective : {A F : Type 0} {x y : A} → ◌≡◌ {A = Result A F} (Ok x) (Ok y) → x ≡ y
Ok-injective h = cc

or_else : (a b : Bool) (k : ScriptKind) (n m : ℕ) → (if a || b then Err k else Ok n) ≡ Ok m → (a ≡ false) × (b ≡ false) × (n ≡ m)
or_else true b k n m h = absurd (cc)
or_else false true k n m h = absurd (cc)
or_else false false k n m h = (refl, refl, Ok-injective h)

pub ranged_at-within : (words : Words) (k low high n : ℕ) → ranged_at words k low high ≡ Ok n → IsWithin low high n
unfolding ranged_at
ranged_at-within words k low high n h =
    let b = bind_ok (number_at words k) _ n h in
    let t = or_else (nat_lt b.0 low) (nat_lt high b.0) _ b.0 n b.2 in
    (omega (arith, ltb-false b.0 low t.0, t.2), omega (arith, ltb-false high b.0 t.1, t.2))

pub record SettingsAreWithin (s : Settings) : Type 0 where
  pub workers : IsWithin 1 TEXT_WORKERS s.workers
  pub initial : IsWithin 1 GREATEST_COST s.initial
  pub entries : IsWithin LEAST_ENTRIES MOST_ENTRIES s.entries
  pub requests : IsWithin 1 TEXT_REQUESTS s.requests

pub settings_of-within : (line : Words) (s : Settings) → settings_of line ≡ Ok s → SettingsAreWithin s
unfolding settings_of
settings_of-within line s h =
    let words = bind_ok (with_count 7 line) _ s h in
    let workers = bind_ok (ranged_at words.0 1 1 TEXT_WORKERS) _ s words.2 in
    let policy = bind_ok (policy_at words.0 2) _ s workers.2 in
    let estimate = bind_ok (estimator_at words.0 3) _ s policy.2 in
    let initial = bind_ok (ranged_at words.0 4 1 GREATEST_COST) _ s estimate.2 in
    let entries = bind_ok (ranged_at words.0 5 LEAST_ENTRIES MOST_ENTRIES) _ s initial.2 in
    let requests = bind_ok (ranged_at words.0 6 1 TEXT_REQUESTS) _ s entries.2 in
    let same : Ok (record { workers = workers.0; policy = policy.0; estimate = estimate.0; initial = initial.0; entries = entries.0; requests = requests.0 }) ≡ Ok s = requests.2 in
    subst SettingsAreWithin (Ok-injective same) (record {
      workers = ranged_at-within words.0 1 1 TEXT_WORKERS workers.0 workers.1;
      initial = ranged_at-within words.0 4 1 GREATEST_COST initial.0 initial.1;
      entries = ranged_at-within words.0 5 LEAST_ENTRIES MOST_ENTRIES entries.0 entries.1;
      requests = ranged_at-within words.0 6 1 TEXT_REQUESTS requests.0 requests.1;
    })

-- the invariant of a head that is being read
pub record IsKept {A : Type 0} (s : Document A) : Type 0 where
  pub bodyless : s.body ≡ []
  pub settings : SettingsAreWithin s.settings
  pub same : length s.weights ≡ length s.tenants
  pub weights : All IsTextWeight s.weights
  pub tenants : length s.tenants ≤ TEXT_TENANTS
  pub kinds : length s.kinds ≤ MOST_KINDS
  pub pairs : length s.tenants * length s.kinds ≤ TEXT_PAIRS
  pub order : 0 < length s.kinds → 0 < length s.tenants

few : {A : Type 0} (t k p : Bool) (s u : Document A) → (if t || (k || p) then Err TooMany else Ok s) ≡ Ok u → (t ≡ false) × (k ≡ false) × (p ≡ false) × (s ≡ u)
few true k p s u h = absurd (cc)
few false true p s u h = absurd (cc)
few false false true s u h = absurd (cc)
few false false false s u h = (refl, refl, refl, Ok-injective h)

pub record IsFew {A : Type 0} (s u : Document A) : Type 0 where
  pub tenants : length s.tenants ≤ TEXT_TENANTS
  pub kinds : length s.kinds ≤ MOST_KINDS
  pub pairs : length s.tenants * length s.kinds ≤ TEXT_PAIRS
  pub same : s ≡ u

pub not_too_many-few : {A : Type 0} (s u : Document A) → not_too_many s ≡ Ok u → IsFew s u
not_too_many-few s u h =
    let t = few (nat_lt TEXT_TENANTS (length s.tenants)) (nat_lt MOST_KINDS (length s.kinds)) (nat_lt TEXT_PAIRS (length s.tenants * length s.kinds)) s u h in
    record {
      tenants = ltb-false TEXT_TENANTS (length s.tenants) t.0;
      kinds = ltb-false MOST_KINDS (length s.kinds) t.1;
      pairs = ltb-false TEXT_PAIRS (length s.tenants * length s.kinds) t.2;
      same = t.3;
    }

all_one : (w : ℕ) → IsTextWeight w → All IsTextWeight (w ∷ [])
all_one w h zero d lt = h
all_one w h (suc k) d lt = absurd (omega arith)

pub with_tenant-kept : {A : Type 0} (s u : Document A) (line : Words) → length s.kinds ≡ 0 → IsKept s → with_tenant s line ≡ Ok u → IsKept u
unfolding with_tenant
with_tenant-kept s u line none kept h =
    let words = bind_ok (with_count 3 line) _ u h in
    let name = bind_ok (name_at words.0 1) _ u words.2 in
    let weight = bind_ok (ranged_at words.0 2 1 TEXT_WEIGHT) _ u name.2 in
    let new = bind_ok (new_among s.tenants name.0) _ u weight.2 in
    let more : Document _ = record s { tenants = s.tenants ++ new.0 ∷ []; weights = s.weights ++ weight.0 ∷ [] } in
    let is_few = not_too_many-few more u new.2 in
    subst IsKept is_few.same (record {
      bodyless = kept.bodyless;
      settings = kept.settings;
      same = omega (arith, kept.same, length-append s.tenants (new.0 ∷ []), length-append s.weights (weight.0 ∷ []));
      weights = All-append IsTextWeight s.weights (weight.0 ∷ []) kept.weights (all_one weight.0 (ranged_at-within words.0 2 1 TEXT_WEIGHT weight.0 weight.1));
      tenants = is_few.tenants;
      kinds = is_few.kinds;
      pairs = is_few.pairs;
      order = λ some. omega (arith, length-append s.tenants (new.0 ∷ []));
    })

pub with_kind-kept : {A : Type 0} (s u : Document A) (line : Words) → 0 < length s.tenants → IsKept s → with_kind s line ≡ Ok u → IsKept u
unfolding with_kind
with_kind-kept s u line some kept h =
    let words = bind_ok (with_count 2 line) _ u h in
    let name = bind_ok (name_at words.0 1) _ u words.2 in
    let new = bind_ok (new_among s.kinds name.0) _ u name.2 in
    let more : Document _ = record s { kinds = s.kinds ++ new.0 ∷ [] } in
    let is_few = not_too_many-few more u new.2 in
    subst IsKept is_few.same (record {
      bodyless = kept.bodyless;
      settings = kept.settings;
      same = kept.same;
      weights = kept.weights;
      tenants = is_few.tenants;
      kinds = is_few.kinds;
      pairs = is_few.pairs;
      order = λ _. some;
    })

which : {A : Type 0} (t : Bool) (x y r : A) → (if t then x else y) ≡ r → ((t ≡ true) × (x ≡ r)) ⊎ ((t ≡ false) × (y ≡ r))
which true x y r h = inl (refl, h)
which false x y r h = inr (refl, h)

right_of : (a b : Bool) → (a && b) ≡ true → b ≡ true
right_of true b h = h
right_of false b h = absurd (cc)

left_of : (a b : Bool) → (a && b) ≡ true → a ≡ true
left_of true b h = refl
left_of false b h = absurd (cc)

not_true : (a : Bool) → not a ≡ true → a ≡ false
not_true true h = absurd (cc)
not_true false h = refl

pub some_if : (n : ℕ) → (n == 0) ≡ false → 0 < n
some_if n h = omega (arith, eqb-false n 0 h)

none_if : (n : ℕ) → (n == 0) ≡ true → n ≡ 0
none_if n h = eqb-true n 0 h

pub with_head_line-kept : {A : Type 0} (s u : Document A) (line : Words) → IsKept s → with_head_line s line ≡ Ok u → IsKept u
with_head_line-kept s u line kept h =
    elim (which (begins_with line (codes "tenant") && is_empty s.kinds) _ _ (Ok u) h) [
      | inl a ↦ with_tenant-kept s u line (none_if (length s.kinds) (right_of (begins_with line (codes "tenant")) _ a.0)) kept a.1
      | inr a ↦ elim (which (begins_with line (codes "kind") && not (is_empty s.tenants)) _ _ (Ok u) a.1) [
        | inl b ↦ with_kind-kept s u line (some_if (length s.tenants) (not_true _ (right_of (begins_with line (codes "kind")) _ b.0))) kept b.1
        | inr b ↦ absurd (cc)
      ]
    ]

opened-kept : {A : Type 0} (settings : Settings) → SettingsAreWithin settings → IsKept {A = A} (opened settings)
opened-kept settings within = record {
  bodyless = refl;
  settings = within;
  same = refl;
  weights = λ k d lt. absurd (omega arith);
  tenants = omega arith;
  kinds = omega arith;
  pairs = omega arith;
  order = λ some. absurd (omega arith);
}

pub config_line-kept : {A : Type 0} (line : Words) (s : Document A) → config_line line ≡ Ok s → IsKept s
unfolding config_line
config_line-kept line s h =
    elim (which (begins_with line (codes "config")) _ _ (Ok s) h) [
      | inl a ↦
          let settings = bind_ok (settings_of line) _ s a.1 in
          let same : opened settings.0 ≡ s = Ok-injective settings.2 in
          subst IsKept same (opened-kept settings.0 (settings_of-within line settings.0 settings.1))
      | inr a ↦ absurd (cc)
    ]

-- the configuration of a head with a kind is one that a scheduler can be opened with
pub config_of-in_limits : {A : Type 0} (s : Document A) → IsKept s → 0 < length s.kinds → InLimits (config_of s)
config_of-in_limits s kept some =
    let named : 0 < length s.tenants = kept.order some in
    let tenants : length s.weights ≤ TEXT_TENANTS = omega (arith, kept.tenants, kept.same) in
    let pairs : length s.weights * length s.kinds ≤ TEXT_PAIRS = rw kept.same kept.pairs in
    record {
      workers = (kept.settings.workers.0, omega (arith, kept.settings.workers.1));
      tenants = (omega (arith, named, kept.same), omega (arith, tenants));
      weights = λ k d lt. ((kept.weights k d lt).0, omega (arith, (kept.weights k d lt).1));
      kinds = (omega (arith, some), kept.kinds);
      pairs = omega (arith, pairs);
      entries = (kept.settings.entries.0, omega (arith, kept.settings.entries.1));
      requests = (kept.settings.requests.0, omega (arith, kept.settings.requests.1));
      initial = kept.settings.initial;
      own = record {
        workers = kept.settings.workers.1;
        tenants = tenants;
        weights = λ k d lt. (kept.weights k d lt).1;
        pairs = pairs;
        entries = kept.settings.entries.1;
        requests = kept.settings.requests.1;
      };
    }
