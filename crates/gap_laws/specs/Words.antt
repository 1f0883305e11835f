-- Words for the laws.
use Rattle.std.specs.Prelude.{ℕ, ◌+◌, ◌==◌, ◌≡◌, ◌≤◌, true, false, if◌then◌else◌, [], ◌∷◌, ◌++◌, drop, Option, Some, None, is_some, ℤ, pos, ◌+ℤ◌, ◌≤ℤ◌, ◌⊎◌}
use Rattle.vt_fixed.specs.Rounding.{length_of}
use Rattle.fq_model.specs.declared.config.Config.{Config}
use Rattle.fq_model.specs.declared.event.Act.{Act}
use Rattle.fq_model.specs.declared.event.Act.TheVariants.{Take}
use Rattle.fq_model.specs.Limits.{InLimits}
use Rattle.fq_model.specs.History.{History, Request, request_at, is_taken, head, weight_at}
use Rattle.fq_model.specs.Rules.{IsLegal}
use Rattle.fq_model.specs.declared.event.Entry.{Entry}
use Rattle.fq_model.specs.Charge.{is_taken_of}
use Rattle.fq_model.specs.Gap.{is_shared, not_declared}
use Rattle.fq_model.specs.Lead.{request_length, doubt, most, least, takes_of, head_length, lead_of_take}

-- H is a legal history of a configuration that is in its limits, and each of its requests is as declared
pub record HasDeclaredCosts (C : Config) (H : History) : Type 0 where
  pub limits : InLimits C
  pub legal : IsLegal C H
  pub declared : not_declared C H ≡ None

-- the length of the request's declared cost, at tenant t's weight in P, where it is a request of t, else 0
abbrev pub declared_length : Config → History → ℕ → Option Request → ℕ
declared_length C P t None = 0
declared_length C P t (Some q) = if q.tenant == t then length_of q.declared (weight_at C P t) else 0

-- the declared length of the request of t that the act takes, else 0
abbrev pub taken_length : Config → History → ℕ → Act → ℕ
taken_length C P t (Take worker request estimate) = declared_length C P t (request_at P request)
taken_length C P t _ = 0

-- P is a prefix of H: H has the entries of P, and then newer ones
abbrev pub IsPrefix : History → History → Type 0
IsPrefix P H = (newer : History) × (H ≡ newer ++ P)

-- P is a prefix of H at which both tenants wait
abbrev pub IsSharedIn : History → ℕ → ℕ → History → Type 0
IsSharedIn H f g P = IsPrefix P H × (is_shared P f g ≡ true)

-- P is a shared prefix at which a run of them begins: the prefix one entry shorter is not shared
abbrev pub IsFirstIn : History → ℕ → ℕ → History → Type 0
IsFirstIn H f g P = IsSharedIn H f g P × (is_shared (drop 1 P) f g ≡ false)

-- the run to which the shared prefix P belongs begins at Q: all prefixes from Q to P are shared
pub record RunBegins (P : History) (f g : ℕ) (Q : History) : Type 0 where
  pub first : IsFirstIn P f g Q
  pub shared : (R : History) → IsPrefix R P → IsPrefix Q R → is_shared R f g ≡ true

-- x is the greatest of the values at the histories that pass
pub record IsGreatestAt (Passes : History → Type 0) (value : History → ℤ) (x : ℤ) : Type 0 where
  pub reached : (P : History) × Passes P × (value P ≡ x)
  pub greatest : (P : History) → Passes P → value P ≤ℤ x

-- x is the greater of y and of the values at the histories that pass, if there are any
pub record IsGreatestOver (Passes : History → Type 0) (value : History → ℤ) (y x : ℤ) : Type 0 where
  pub reached : (x ≡ y) ⊎ ((P : History) × Passes P × (value P ≡ x))
  pub least : y ≤ℤ x
  pub greatest : (P : History) → Passes P → value P ≤ℤ x

-- no request of tenant t that is taken at a prefix of H is longer there than its cap
abbrev pub AreCaps : Config → History → ℕ → (ℕ → ℕ) → Type 0
AreCaps C H t cap =
    (Q : History) (r : ℕ) → IsPrefix Q H → is_taken_of Q t r ≡ true → request_length C Q t r ≤ cap r

-- and none is shorter than its low
abbrev pub AreLows : Config → History → ℕ → (ℕ → ℕ) → Type 0
AreLows C H t low =
    (Q : History) (r : ℕ) → IsPrefix Q H → is_taken_of Q t r ≡ true → low r ≤ request_length C Q t r

-- for each Take of f in H from P on, while both wait: the lead of the Take by the heads, and the doubt after it, are
-- together no more than B
abbrev pub TakesStayBelow : (cap low : ℕ → ℕ) → Config → History → History → ℕ → ℕ → ℤ → Type 0
TakesStayBelow cap low C P H f g B =
    (e : Entry) (Q : History) (i : ℕ) → IsPrefix (e ∷ Q) H → IsPrefix P Q → is_shared Q f g ≡ true
    → takes_of f Q e.act ≡ Some i → (lead_of_take C Q i f g +ℤ pos (doubt cap low C (e ∷ Q) f g)) ≤ℤ B

-- no request of f or g that is taken at a prefix of H is longer there than M, and no head of the two is, where a
-- request of f is taken while both wait
pub record AreNoLonger (C : Config) (H : History) (f g M : ℕ) : Type 0 where
  pub of_f : AreCaps C H f (λ r. M)
  pub of_g : AreCaps C H g (λ r. M)
  pub heads :
      (e : Entry) (Q : History) (i : ℕ) → IsPrefix (e ∷ Q) H → is_shared Q f g ≡ true → takes_of f Q e.act ≡ Some i
      → (head_length C Q f ≤ M) × (head_length C Q g ≤ M)

-- an account of tenant t at the prefixes of H: no less than its least, where running requests may cost nothing, and
-- no more than its most, where they may be M long. The start of t is an account, and so is its start without its
-- running requests. (A start rises by the service that is charged, divided by weight, while the tenant waits.)
abbrev pub IsAccount : ℕ → Config → History → ℕ → (History → ℤ) → Type 0
IsAccount M C H t account =
    (P : History) → IsPrefix P H
    → (least (λ r. 0) C P t ≤ℤ account P) × (account P ≤ℤ most (λ r. M) C P t)

-- at all prefixes of H from P on both tenants wait
abbrev pub AreSharedFrom : History → History → ℕ → ℕ → Type 0
AreSharedFrom P H f g = (Q : History) → IsPrefix Q H → IsPrefix P Q → is_shared Q f g ≡ true

-- at all prefixes of H from S on the head of tenant t is r, which so waits all the while
abbrev pub WaitsFrom : History → History → ℕ → ℕ → Type 0
WaitsFrom S H t r = (Q : History) → IsPrefix Q H → IsPrefix S Q → head Q t ≡ Some r

-- no request of tenant t that is taken after S is shorter than c at a prefix of H
abbrev pub AreNoShorter : Config → History → History → ℕ → ℕ → Type 0
AreNoShorter C S H t c =
    (Q : History) (r : ℕ) → IsPrefix Q H → is_taken_of Q t r ≡ true → is_taken S r ≡ false → c ≤ request_length C Q t r

-- the number of the newer entries, which follow S, that take a request of tenant t
abbrev pub takes_after : ℕ → (newer S : History) → ℕ
takes_after t [] S = 0
takes_after t (e ∷ newer) S = (if is_some (takes_of t (newer ++ S) e.act) then 1 else 0) + takes_after t newer S
