-- Maps of jobs: one more, and one fewer.
use Rattle.std.proofs.Common.{ℕ, ◌==◌, ◌≡◌, ◌≢◌, Bool, true, false, cond, refl, ap, sym, ◌∙◌, Option, Some, None, inl, inr}
use Rattle.std.specs.Cmp.{unsigned_tied, nat_cmp_total}
use Rattle.std.specs.FinMap as map
use Rattle.std.proofs.lemmas.Bool.{cases_eq, eq-eqb, ne_eqb, eqb-false}
use Rattle.sched_state.specs.Lists.{JobMap}

-- ---- maps

-- the job that is found after one job more
pub found_with : {J : Type 0} (m : JobMap J) (r : ℕ) (job : J) (q : ℕ) → map.get (map.insert m r job) q ≡ cond (q == r) (Some job) (map.get m q)
found_with m r job q = map.get-insert nat_cmp_total m r job q ∙ ap (λ b. cond b (Some job) (map.get m q)) (unsigned_tied q r)

-- and after one fewer
pub found_without : {J : Type 0} (m : JobMap J) (r q : ℕ) → map.get (map.remove m r) q ≡ cond (q == r) None (map.get m q)
found_without m r q = map.get-remove nat_cmp_total m r q ∙ ap (λ b. cond b None (map.get m q)) (unsigned_tied q r)

-- maps in which all is found alike are equal
pub same_jobs : {J : Type 0} (m n : JobMap J) → ((q : ℕ) → map.get m q ≡ map.get n q) → m ≡ n
same_jobs m n h = map.same_map nat_cmp_total map.nat_cmp-IsAntisymmetric m n h

-- jobs of two requests may come in either order
pub either_order : {J : Type 0} (m : JobMap J) (r s : ℕ) (a b : J) → r ≢ s → map.insert (map.insert m r a) s b ≡ map.insert (map.insert m s b) r a
either_order m r s a b ne = same_jobs _ _ (λ q. (found_with (map.insert m r a) s b q ∙ ap (cond (q == s) (Some b)) (found_with m r a q)) ∙ go q ∙ sym (found_with (map.insert m s b) r a q ∙ ap (cond (q == r) (Some a)) (found_with m s b q)))
  where
    go : (q : ℕ) → cond (q == s) (Some b) (cond (q == r) (Some a) (map.get m q)) ≡ cond (q == r) (Some a) (cond (q == s) (Some b) (map.get m q))
    go q = elim (cases_eq q s) [
      | inl e ↦ rw (eq-eqb q s e, ne_eqb q r (λ x. ne (sym x ∙ e))) refl
      | inr n ↦ rw (ne_eqb q s n) refl
    ]

-- the job of one request is taken out after another's is put in
other_out : {J : Type 0} (m : JobMap J) (r s : ℕ) (b : J) → r ≢ s → map.insert (map.remove m r) s b ≡ map.remove (map.insert m s b) r
other_out m r s b ne = same_jobs _ _ (λ q. (found_with (map.remove m r) s b q ∙ ap (cond (q == s) (Some b)) (found_without m r q)) ∙ go q ∙ sym (found_without (map.insert m s b) r q ∙ ap (cond (q == r) None) (found_with m s b q)))
  where
    go : (q : ℕ) → cond (q == s) (Some b) (cond (q == r) None (map.get m q)) ≡ cond (q == r) None (cond (q == s) (Some b) (map.get m q))
    go q = elim (cases_eq q s) [
      | inl e ↦ rw (eq-eqb q s e, ne_eqb q r (λ x. ne (sym x ∙ e))) refl
      | inr n ↦ rw (ne_eqb q s n) refl
    ]

-- a job that was just put in is taken out
pub same_out : {J : Type 0} (m : JobMap J) (r : ℕ) (a : J) → map.get m r ≡ None → m ≡ map.remove (map.insert m r a) r
same_out m r a none = same_jobs _ _ (λ q. go q ∙ sym (found_without (map.insert m r a) r q ∙ ap (cond (q == r) None) (found_with m r a q)))
  where
    go : (q : ℕ) → map.get m q ≡ cond (q == r) None (cond (q == r) (Some a) (map.get m q))
    go q = elim (cases_eq q r) [
      | inl e ↦ rw (eq-eqb q r e) (ap (map.get m) e ∙ none)
      | inr n ↦ rw (ne_eqb q r n) refl
    ]

-- a job that is not there is not taken out
pub none_out : {J : Type 0} (m : JobMap J) (r : ℕ) → map.get m r ≡ None → m ≡ map.remove m r
none_out m r none = same_jobs _ _ (λ q. go q ∙ sym (found_without m r q))
  where
    go : (q : ℕ) → map.get m q ≡ cond (q == r) None (map.get m q)
    go q = elim (cases_eq q r) [
      | inl e ↦ rw (eq-eqb q r e) (ap (map.get m) e ∙ none)
      | inr n ↦ rw (ne_eqb q r n) refl
    ]

-- two requests differ where a job is found of the first and none of the second
unlike : {J : Type 0} (m : JobMap J) (r s : ℕ) (a : J) → map.get m r ≡ Some a → map.get m s ≡ None → r ≢ s
unlike m r s a some none = λ e. let k : Some a ≡ None = sym some ∙ (ap (map.get m) e ∙ none) in absurd (cc)

none_of : {J : Type 0} (b : Bool) (a : J) (o : Option J) → cond b (Some a) o ≡ None → (b ≡ false) × (o ≡ None)
none_of true a o h = absurd (cc)
none_of false a o h = (refl, h)

-- a job that is not found after one job more was not found before, and is another's
pub still_none : {J : Type 0} (m : JobMap J) (r : ℕ) (a : J) (q : ℕ) → map.get (map.insert m r a) q ≡ None → (q ≢ r) × (map.get m q ≡ None)
still_none m r a q h =
    let x : ((q == r) ≡ false) × (map.get m q ≡ None) = none_of (q == r) a (map.get m q) (sym (found_with m r a q) ∙ h) in
    (eqb-false q r x.0, x.1)
