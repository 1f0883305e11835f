-- Where every cost is as declared the doubt is 0, so that the lead is the difference of the starts.
use Rattle.std.proofs.Common.{ℕ, ◌-◌, ◌*◌, ◌<◌, ◌≤◌, ◌≡◌, ◌≢◌, ◌==◌, ◌∙◌, true, false, not, refl, sym, subst, arith, inl, inr, [], ◌∷◌, ◌++◌, Option, Some, None, pos, ◌≤ℤ◌}
use Rattle.std.specs.Prelude.{◌+ℤ◌}
use Rattle.std.specs.Int.{int_max}
use Rattle.std.proofs.lemmas.Int.{ints, clamps}
use Rattle.std.proofs.lemmas.Bool.{cases_Bool, both_ways, or_right, and_parts, eqb-true}
use Rattle.fq_model.specs.declared.config.Policy.{Policy}
use Rattle.fq_model.specs.declared.config.Config.{Config}
use Rattle.fq_model.specs.declared.event.Act.{Act}
use Rattle.fq_model.specs.declared.event.Act.TheVariants.{Take}
use Rattle.fq_model.specs.declared.event.Entry.{Entry}
use Rattle.fq_model.specs.Limits.{InLimits}
use Rattle.fq_model.specs.History.{History, Request, request_at, is_of_tenant, is_taken, is_take_of, is_removed, waits_for, head, running_on, pool_at}
use Rattle.fq_model.specs.Charge.{charge, is_taken_of, taken_weight}
use Rattle.fq_model.specs.Keys.{stagger}
use Rattle.fq_model.specs.Rules.{IsLegal, Fits}
use Rattle.fq_model.specs.Gap.{is_shared, run_start, start_difference, lengths_in_bound}
use Rattle.fq_model.specs.Lead.{request_length, of_request, over_running, may_rise, may_fall, doubt, lead, length_of_request, length_of_head, head_length, lead_of_take, takes_of}
use Rattle.fq_laws.specs.Words.{one_more}
use Rattle.fq_laws.proofs.Sums.{sum_zero}
use Rattle.fq_laws.proofs.History.Asked.{waits_untaken}
use Rattle.fq_laws.proofs.History.Requests.{taken_known, asked_stays}
use Rattle.fq_laws.proofs.Rules.Takes.{heads, Heads, take_waits}
use Rattle.gap_laws.specs.Words.{IsPrefix, RunBegins}
use Rattle.gap_laws.proofs.Declared.{KeepsTo, AllDeclared, legal_prefix, declared_older, declared_prefix, charge_declared, estimate_declared}
use Rattle.gap_laws.proofs.Choices.{stagger_high, length_counts}
use Rattle.gap_laws.proofs.Lengths.{LengthsAtMost, lengths_prefix, length_now}
use Rattle.gap_laws.proofs.Leads.{Premises, lead_below, some_own}
use Rattle.gap_laws.proofs.Runs.{prefix_of_prefix, run_begins}
use Rattle.gap_laws.proofs.Running.{running_taken}

-- ---- the length of a taken request stays

pub taken_stays : (e : Entry) (P : History) (r : ℕ) → is_taken P r ≡ true → is_taken (e ∷ P) r ≡ true
unfolding is_taken
taken_stays e P r h = or_right (is_take_of r e.act) (is_taken P r) h

not_again : (C : Config) (P : History) (m r : ℕ) (a : Act) → Fits C P m a → is_taken P r ≡ true → is_take_of r a ≡ false
not_again C P m r (Take worker request estimate) f taken = elim (cases_Bool (request == r)) [
  | inl e ↦
      let no : is_taken P request ≡ false = waits_untaken P request (take_waits C P m worker request estimate f) in
      absurd (both_ways (is_taken P r) (subst (λ s. is_taken P s ≡ false) (eqb-true request r e) no) taken)
  | inr e ↦ e
]
not_again C P m r _ f taken = refl

same_product : (C : Config) (P Q : History) (t r : ℕ) → charge Q r ≡ charge P r → taken_weight C Q t r ≡ taken_weight C P t r → request_length C Q t r ≡ request_length C P t r
same_product C P Q t r e f = rw (e, f) refl

-- one entry on
length_kept : (C : Config) (e : Entry) (P : History) (t r : ℕ) → IsLegal C (e ∷ P) → AllDeclared C (e ∷ P) → is_taken P r ≡ true → request_length C (e ∷ P) t r ≡ request_length C P t r
length_kept C e P t r l d taken =
    let q = taken_known C P r l.0 taken in
    let before : charge P r ≡ q.0.declared = charge_declared C P r q.0 l.0 (declared_older C e P l d) q.1 taken in
    let after : charge (e ∷ P) r ≡ q.0.declared = charge_declared C (e ∷ P) r q.0 l d (asked_stays C P e r q.0 l q.1) (taken_stays e P r taken) in
    let other : is_take_of r e.act ≡ false = not_again C P e.moment r e.act l.3 taken in
    same_product C P (e ∷ P) t r (after ∙ sym before) (rw other refl)

-- any number of entries on
pub length_stays : (C : Config) (newer P : History) (t r : ℕ) → IsLegal C (newer ++ P) → AllDeclared C (newer ++ P) → is_taken P r ≡ true → (is_taken (newer ++ P) r ≡ true) × (request_length C (newer ++ P) t r ≡ request_length C P t r)
length_stays C [] P t r l d taken = (taken, refl)
length_stays C (e ∷ newer) P t r l d taken =
    let older = length_stays C newer P t r l.0 (declared_older C e (newer ++ P) l d) taken in
    (taken_stays e (newer ++ P) r older.0, length_kept C e (newer ++ P) t r l d older.0 ∙ older.1)

-- ---- the doubt is 0

module _ (C : Config) (P : History) (t : ℕ) (l : IsLegal C P) (d : AllDeclared C P) where
  -- the length of a request of t in the end
  abbrev pub at_last : ℕ → ℕ
  at_last = λ r. request_length C P t r

  pub at_last_is : (Q : History) (r : ℕ) → IsPrefix Q P → is_taken Q r ≡ true → request_length C Q t r ≡ at_last r
  at_last_is Q r is taken =
      let split : P ≡ is.0 ++ Q = is.1 in
      let k = length_stays C is.0 Q t r (subst (IsLegal C) split l) (subst (AllDeclared C) split d) taken in
      sym (subst (λ H. request_length C H t r ≡ request_length C Q t r) (sym split) k.1)

none_of : (Q : History) (t : ℕ) (x : ℕ → ℕ) (o : Option ℕ) → ((r : ℕ) → o ≡ Some r → x r ≡ 0) → of_request Q t x o ≡ 0
none_of Q t x None h = refl
none_of Q t x (Some r) h = let k : x r ≡ 0 = h r refl in elim (cases_Bool (is_of_tenant t (request_at Q r))) [ inl e ↦ rw (e, k) refl | inr e ↦ rw e refl ]

none_over : (C : Config) (Q : History) (t : ℕ) (x : ℕ → ℕ) → ((i r : ℕ) → running_on Q i ≡ Some r → x r ≡ 0) → over_running C Q t x ≡ 0
unfolding over_running
none_over C Q t x h = sum_zero (λ i. of_request Q t x (running_on Q i)) C.workers (λ i. none_of Q t x (running_on Q i) (λ r is. h i r is))

-- ---- heads and Takes

head_low : (C : Config) (P : History) (t B : ℕ) → IsLegal C P → AllDeclared C P → LengthsAtMost C P t B → head_length C P t ≤ B
unfolding waits_for
head_low C P t B l d low = go (head P t) refl
  where
    asked : (r : ℕ) → head P t ≡ Some r → (o : Option Request) → request_at P r ≡ o → length_of_request C P t o ≤ B
    asked r is None was = omega arith
    asked r is (Some q) was =
        let k : KeepsTo C P r q = d r q was in
        let y : Heads P t r = heads P t r is in
        let mine : is_of_tenant t (request_at P r) ≡ true = (and_parts (is_of_tenant t (request_at P r)) (not (is_removed P r)) y.waits_now).0 in
        let own : (q.tenant == t) ≡ true = rw was at mine in
        rw (estimate_declared C P q k.estimator) (length_now C P t r B q low was (eqb-true q.tenant t own))

    go : (o : Option ℕ) → head P t ≡ o → length_of_head C P t o ≤ B
    go None is = omega arith
    go (Some r) is = asked r is (request_at P r) refl

-- where the doubt is 0 a Take leaves f ahead by no more than the lengths in the bound
pub lead_low : (policy : Policy) (x y i n B : ℕ) → i < n → x ≤ B → y ≤ B → int_max (pos y) (stagger policy (pos x) i n +ℤ pos x) ≤ℤ pos (lengths_in_bound policy * B)
lead_low policy x y i n B lt low_x low_y = omega (arith, ints, clamps, stagger_high policy x i n B lt low_x, length_counts policy B, low_y)

pub taker_known : (C : Config) (P : History) (who m f i : ℕ) (a : Act) → IsLegal C (one_more who m a P) → takes_of f P a ≡ Some i → i < pool_at C P
taker_known C P who m f i (Take w q c) l some = subst (λ k. k < pool_at C P) (some_own w i (is_of_tenant f (request_at P q)) some).1 l.3.worker_known
taker_known C P who m f i _ l some = absurd (cc)

module _ (C : Config) (P : History) (f g B : ℕ) (lim : InLimits C) (l : IsLegal C P) (d : AllDeclared C P) (low_f : LengthsAtMost C P f B) (low_g : LengthsAtMost C P g B) where
  abbrev cap : ℕ → ℕ
  cap = at_last C P f l d

  abbrev low : ℕ → ℕ
  low = at_last C P g l d

  older_declared : (Q : History) → IsPrefix Q P → AllDeclared C Q
  older_declared Q is = declared_prefix C is.0 Q (subst (IsLegal C) is.1 l) (subst (AllDeclared C) is.1 d)

  older_legal : (Q : History) → IsPrefix Q P → IsLegal C Q
  older_legal Q is = legal_prefix C is.0 Q (subst (IsLegal C) is.1 l)

  rises_not : (Q : History) → IsPrefix Q P → may_rise cap C Q f ≡ 0
  rises_not Q is = none_over C Q f (λ r. cap r - request_length C Q f r) (λ i r runs. let k : request_length C Q f r ≡ cap r = at_last_is C P f l d Q r is (running_taken C Q i r (older_legal Q is) runs) in omega (arith, k))

  falls_not : (Q : History) → IsPrefix Q P → may_fall low C Q g ≡ 0
  falls_not Q is = none_over C Q g (λ r. request_length C Q g r - low r) (λ i r runs. let k : request_length C Q g r ≡ low r = at_last_is C P g l d Q r is (running_taken C Q i r (older_legal Q is) runs) in omega (arith, k))

  taken_too : (Q : History) (t r : ℕ) → is_taken_of Q t r ≡ true → is_taken Q r ≡ true
  unfolding is_taken_of
  taken_too Q t r h = (and_parts _ _ h).1

  take_low : (e : Entry) (Q : History) (i : ℕ) → IsPrefix (e ∷ Q) P → takes_of f Q e.act ≡ Some i → (lead_of_take C Q i f g +ℤ pos (doubt cap low C (e ∷ Q) f g)) ≤ℤ pos (lengths_in_bound C.policy * B)
  take_low e Q i is takes =
      let inner : IsPrefix Q P = prefix_of_prefix Q (e ∷ Q) P (e ∷ [], refl) is in
      let x : head_length C Q f ≤ B = head_low C Q f B (older_legal Q inner) (older_declared Q inner) (lengths_prefix C inner.0 Q f B (subst (λ H. LengthsAtMost C H f B) inner.1 low_f)) in
      let y : head_length C Q g ≤ B = head_low C Q g B (older_legal Q inner) (older_declared Q inner) (lengths_prefix C inner.0 Q g B (subst (λ H. LengthsAtMost C H g B) inner.1 low_g)) in
      omega (arith, ints, rises_not (e ∷ Q) is, falls_not (e ∷ Q) is, lead_low C.policy (head_length C Q f) (head_length C Q g) i (pool_at C Q) B (taker_known C Q e.who e.moment f i e.act (older_legal (e ∷ Q) is) takes) x y)

  undoubted : Premises cap low C (run_start P f g) P f g (pos (lengths_in_bound C.policy * B))
  undoubted = record {
    limits = lim;
    legal = l;
    caps = λ Q r is taken. omega (arith, at_last_is C P f l d Q r is (taken_too Q f r taken));
    lows = λ Q r is taken. omega (arith, at_last_is C P g l d Q r is (taken_too Q g r taken));
    takes = λ e Q i is from shared takes. take_low e Q i is takes;
  }

  lead_is : (Q : History) → IsPrefix Q P → lead cap low C Q f g ≡ start_difference C Q f g
  unfolding start_difference
  lead_is Q is = rw (rises_not Q is, falls_not Q is) (omega (arith, ints))

  pub apart_below : f ≢ g → is_shared P f g ≡ true → start_difference C P f g ≤ℤ int_max (start_difference C (run_start P f g) f g) (pos (lengths_in_bound C.policy * B))
  apart_below ne shared =
      let run : RunBegins P f g (run_start P f g) = run_begins P f g shared in
      rw (← lead_is P ([], refl), ← lead_is (run_start P f g) run.first.0.0) (lead_below cap low C P f g (pos (lengths_in_bound C.policy * B)) ne undoubted shared)
