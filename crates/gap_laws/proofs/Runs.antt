-- Runs of shared prefixes, and where they begin.
use Rattle.std.proofs.Common.{ℕ, ◌≤◌, ◌⊎◌, ◌∙◌, append_assoc, length, length-append, arith, ◌≡◌, true, false, refl, sym, ap, subst, inl, inr, [], ◌∷◌, ◌++◌, Option, Some, None}
use Rattle.std.specs.Prelude.{is_some}
use Rattle.std.proofs.lemmas.Bool.{cases_Bool, both_ways, false≢true, and_parts}
use Rattle.fq_model.specs.declared.event.Entry.{Entry}
use Rattle.fq_model.specs.History.{History, head, request_bound, waits_for}
use Rattle.fq_model.specs.Gap.{is_shared, run_start}
use Rattle.fq_laws.proofs.Sums.{least_by}
use Rattle.gap_laws.specs.Words.{IsPrefix, RunBegins}
use Rattle.gap_laws.specs.Laws.{RunStartIs}

-- ---- heads

pub head_nil : (t : ℕ) → head [] t ≡ None
unfolding head waits_for
head_nil t = least_by (waits_for [] t) request_bound None (λ s b. refl)

some_is : (o : Option ℕ) → is_some o ≡ true → (r : ℕ) × (o ≡ Some r)
some_is None h = absurd (false≢true h)
some_is (Some r) h = (r, refl)

-- no head, and no run, in the history that has no entry
pub nil_unshared : (f g : ℕ) → is_shared [] f g ≡ false
unfolding is_shared
nil_unshared f g = rw (head_nil f) refl

-- the heads at a shared prefix
pub record BothWait (P : History) (f g : ℕ) : Type 0 where
  pub first : ℕ
  pub second : ℕ
  pub first_is : head P f ≡ Some first
  pub second_is : head P g ≡ Some second

pub both_wait : (P : History) (f g : ℕ) → is_shared P f g ≡ true → BothWait P f g
unfolding is_shared
both_wait P f g h =
    let p = and_parts _ _ h in
    let r = some_is (head P f) p.0 in
    let s = some_is (head P g) p.1 in
    record { first = r.0; second = s.0; first_is = r.1; second_is = s.1 }

-- ---- runs

pub run_on : (e : Entry) (P : History) (f g : ℕ) → is_shared P f g ≡ true → run_start (e ∷ P) f g ≡ run_start P f g
unfolding run_start
run_on e P f g h = rw h refl

pub run_new : (e : Entry) (P : History) (f g : ℕ) → is_shared P f g ≡ false → run_start (e ∷ P) f g ≡ e ∷ P
unfolding run_start
run_new e P f g h = rw h refl

-- a prefix of a history is a prefix of that history with one entry more
pub prefix_older : (e : Entry) (P R : History) → IsPrefix R P → IsPrefix R (e ∷ P)
prefix_older e P R h = (e ∷ h.0, ap (λ Q. e ∷ Q) h.1)

pub prefix_of_prefix : (Q P H : History) → IsPrefix Q P → IsPrefix P H → IsPrefix Q H
prefix_of_prefix Q P H inner outer = (outer.0 ++ inner.0, outer.1 ∙ (ap (λ R. outer.0 ++ R) inner.1 ∙ sym (append_assoc outer.0 inner.0 Q)))

-- a prefix is the history or one of a shorter history
prefix_cases : (e : Entry) (P R : History) → IsPrefix R (e ∷ P) → (R ≡ e ∷ P) ⊎ IsPrefix R P
prefix_cases e P R h = go h.0 h.1
  where
    go : (newer : History) → e ∷ P ≡ newer ++ R → (R ≡ e ∷ P) ⊎ IsPrefix R P
    go [] split = inl (sym split)
    go (x ∷ newer) split = let rest : P ≡ newer ++ R = cc in inr (newer, rest)

not_longer : (P R : History) → IsPrefix R P → length R ≤ length P
not_longer P R h = let long : length P ≡ length (h.0 ++ R) = ap length h.1 in omega (arith, long, length-append h.0 R)

-- the run goes on by one entry more
longer_run : (e : Entry) (P Q : History) (f g : ℕ) → is_shared (e ∷ P) f g ≡ true → RunBegins P f g Q → RunBegins (e ∷ P) f g Q
longer_run e P Q f g now b = record {
  first = ((prefix_older e P Q b.first.0.0, b.first.0.1), b.first.1);
  shared = λ R of_longer over. elim (prefix_cases e P R of_longer) [ inl all ↦ rw all now | inr older ↦ b.shared R older over ];
}

-- a run begins at the prefix after one that is not shared
new_run : (e : Entry) (P : History) (f g : ℕ) → is_shared (e ∷ P) f g ≡ true → is_shared P f g ≡ false → RunBegins (e ∷ P) f g (e ∷ P)
new_run e P f g now before = record {
  first = ((([], refl), now), before);
  shared = λ R of_longer over. elim (prefix_cases e P R of_longer) [ inl all ↦ rw all now | inr older ↦ absurd (omega (arith, not_longer P R older, not_longer R (e ∷ P) over)) ];
}

pub run_begins : RunStartIs
run_begins [] f g h = absurd (both_ways _ (nil_unshared f g) h)
run_begins (e ∷ P) f g h = elim (cases_Bool (is_shared P f g)) [
  | inl before ↦ subst (RunBegins (e ∷ P) f g) (sym (run_on e P f g before)) (longer_run e P (run_start P f g) f g h (run_begins P f g before))
  | inr before ↦ subst (RunBegins (e ∷ P) f g) (sym (run_new e P f g before)) (new_run e P f g h before)
]
