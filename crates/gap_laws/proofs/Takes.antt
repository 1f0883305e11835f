-- How often one tenant is taken while the head of another waits, where requests have a least length.
use Rattle.std.proofs.Common.{ℕ, ◌+◌, ◌-◌, ◌*◌, ◌≤◌, ◌≡◌, ◌≢◌, ◌∙◌, ◌==◌, cond, Bool, true, false, not, refl, sym, subst, arith, inl, inr, ◌⊎◌, [], ◌∷◌, ◌++◌, Option, Some, None, ℤ, pos, ◌≤ℤ◌}
use Rattle.std.specs.Prelude.{◌+ℤ◌, ◌-ℤ◌, is_some}
use Rattle.std.specs.Int.{int_max}
use Rattle.std.proofs.lemmas.Int.{ints, clamps}
use Rattle.std.proofs.lemmas.Bool.{cases_Bool, both_ways, and_parts, not-true, or_left, eq-eqb, eqb-true, false_from_ne_true}
use Rattle.std.proofs.Math.Nat.{add-mul}
use Rattle.vt_fixed.specs.Rounding.{length_of}
use Rattle.fq_model.specs.declared.config.Config.{Config}
use Rattle.fq_model.specs.declared.event.Act.{Act}
use Rattle.fq_model.specs.declared.event.Act.TheVariants.{Take}
use Rattle.fq_model.specs.Limits.{InLimits}
use Rattle.fq_model.specs.History.{History, head, request_at, is_of_tenant, is_taken, is_take_of, is_removed, has_act, waits_for, running_on, weight_at, pool_at}
use Rattle.fq_model.specs.Charge.{is_taken_of, virtual_charge}
use Rattle.fq_model.specs.Keys.{stagger}
use Rattle.fq_model.specs.Rules.{IsLegal, FitsTake}
use Rattle.fq_model.specs.Gap.{is_shared, run_start}
use Rattle.fq_model.specs.Lead.{request_length, of_request, over_running, may_rise, may_fall, start_now, head_length, takes_of}
use Rattle.fq_laws.specs.Words.{one_more}
use Rattle.fq_laws.proofs.Sums.{sum_same}
use Rattle.fq_laws.proofs.Charge.Tenants.{virtual_charge_taken, taken_of_take}
use Rattle.fq_laws.proofs.History.Asked.{unremoved_untaken, waits_untaken}
use Rattle.fq_laws.proofs.Rules.Takes.{heads, TakesHead, take_head, take_waits}
use Rattle.gap_laws.specs.Words.{IsPrefix, AreLows, AreNoLonger, WaitsFrom, AreNoShorter, takes_after}
use Rattle.gap_laws.specs.Laws.{TakesAreFew, TakesAreFewInRun, worst_lead}
use Rattle.gap_laws.proofs.Service.{shared_both}
use Rattle.gap_laws.proofs.Undoubted.{taken_stays}
use Rattle.gap_laws.proofs.Runs.{prefix_older}
use Rattle.gap_laws.proofs.Running.{over_taken, running_taken, taken_length}
use Rattle.gap_laws.proofs.Starts.{start_step, start_rises}
use Rattle.gap_laws.proofs.Leads.{falling, most_at, least_at, OfHead, of_head, chosen_ahead}
use Rattle.gap_laws.proofs.WorstCase.{stagger_below, head_some, longest, nothing, legal_in, longest_in, caps_in, worst_lead_below}

-- ---- the least length of the requests that are taken after S

abbrev later_low : History → ℕ → ℕ → ℕ
later_low S c = λ r. cond (is_taken S r) 0 c

lows_later : (C : Config) (S H : History) (t c : ℕ) → AreNoShorter C S H t c → AreLows C H t (later_low S c)
lows_later C S H t c h = λ Q r is taken. elim (cases_Bool (is_taken S r)) [
  | inl old ↦ rw old (omega arith)
  | inr new ↦ rw new (h Q r is taken new)
]

-- at S the low of each running request is 0
fall_same : (C : Config) (P : History) (t : ℕ) (x y : ℕ → ℕ) (o : Option ℕ) → ((r : ℕ) → o ≡ Some r → x r ≡ y r) → of_request P t x o ≡ of_request P t y o
fall_same C P t x y None h = refl
fall_same C P t x y (Some r) h = rw (h r refl) refl

falls_at_first : (C : Config) (S : History) (t c : ℕ) → IsLegal C S → may_fall (later_low S c) C S t ≡ may_fall nothing C S t
unfolding over_running
falls_at_first C S t c l = sum_same _ _ C.workers (λ i b. fall_same C S t (λ r. request_length C S t r - later_low S c r) (λ r. request_length C S t r - 0) (running_on S i)
    (λ r is. rw (running_taken C S i r l is) refl))

-- ---- a Take of f

own_take_least : (s s2 v v2 u u2 z low : ℕ) → s + v2 ≤ s2 + v → v2 ≡ v + z → u2 ≡ u + (z - low) → low ≤ z → s + u2 + low ≤ s2 + u
own_take_least s s2 v v2 u u2 z low starts charges sums less = omega (arith, starts, charges, sums, less)

-- a Take of a request of f raises the least of f by the low of that request
least_taken : (C : Config) (P : History) (who m w q c f : ℕ) (low : ℕ → ℕ) → InLimits C → IsLegal C (one_more who m (Take w q c) P) → is_of_tenant f (request_at P q) ≡ true → low q ≤ length_of c (weight_at C P f) → start_now C P f + may_fall low C (one_more who m (Take w q c) P) f + low q ≤ start_now C (one_more who m (Take w q c) P) f + may_fall low C P f
least_taken C P who m w q c f low lim l own less =
    let charges : virtual_charge C (one_more who m (Take w q c) P) f ≡ virtual_charge C P f + length_of c (weight_at C P f) = rw own at (virtual_charge_taken C P who m f w q c lim l.0 l.3) in
    let sums : may_fall low C (one_more who m (Take w q c) P) f ≡ may_fall low C P f + (length_of c (weight_at C P f) - low q) = rw own at (over_taken (falling low) C P who m f w q c l.0 l.3) in
    own_take_least _ _ _ _ _ _ (length_of c (weight_at C P f)) (low q) (start_rises C P (record { who = who; moment = m; act = Take w q c }) f) charges sums less

-- before a Take of f, f is ahead of g by less than one request of the greatest length
before_take : (a b x y M : ℕ) (part : ℤ) → pos (a + x) ≤ℤ (pos b +ℤ int_max (pos y) (part +ℤ pos x)) → (part +ℤ pos 1) ≤ℤ pos x → 1 ≤ x → x ≤ M → y ≤ M → a + 1 ≤ b + M
before_take a b x y M part ahead less some low_x low_y = omega (arith, ints, clamps, ahead, less, some, low_x, low_y)

behind_take : (C : Config) (P : History) (who m w q c f g r M : ℕ) → f ≢ g → InLimits C → IsLegal C (one_more who m (Take w q c) P) → is_of_tenant f (request_at P q) ≡ true → head P g ≡ Some r → (head_length C P f ≤ M) × (head_length C P g ≤ M) → start_now C P f + 1 ≤ start_now C P g + M
behind_take C P who m w q c f g r M ne lim l own waits low =
    let z : OfHead C P m w f c = of_head C P m w q c f l.3 own in
    let some : 1 ≤ head_length C P f = head_some C P who m w q c f lim l own in
    before_take (start_now C P f) (start_now C P g) (head_length C P f) (head_length C P g) M (stagger C.policy (pos (head_length C P f)) w (pool_at C P))
    (chosen_ahead C P m w f g r z.its_keys (λ e. ne (sym e)) l.0 waits l.3.worker_known z.choice)
    (stagger_below C.policy (head_length C P f) w (pool_at C P) some l.3.worker_known) some low.0 low.1

-- ---- nothing is taken of g

head_untaken : (P : History) (t r : ℕ) → head P t ≡ Some r → is_taken P r ≡ false
unfolding waits_for
head_untaken P t r h = unremoved_untaken P r (not-true _ (and_parts (is_of_tenant t (request_at P r)) (not (is_removed P r)) (heads P t r h).waits_now).1)

taken_now : (P : History) (who m w q c : ℕ) → is_taken (one_more who m (Take w q c) P) q ≡ true
unfolding is_taken
taken_now P who m w q c = or_left (q == q) (has_act (is_take_of q) P) (eq-eqb q q refl)

-- the request of a Take is the head of its tenant
pub its_head : (C : Config) (P : History) (m w q c t : ℕ) → FitsTake C P m w q c → is_of_tenant t (request_at P q) ≡ true → head P t ≡ Some q
its_head C P m w q c t fits own =
    let h : TakesHead C P q = take_head C P m w q c fits in
    let mine : (h.what.tenant == t) ≡ true = rw h.was_asked at own in
    subst (λ u. head P u ≡ Some q) (eqb-true h.what.tenant t mine) h.is_head

shared_at : (C : Config) (P : History) (m w q c f g r : ℕ) → FitsTake C P m w q c → is_of_tenant f (request_at P q) ≡ true → head P g ≡ Some r → is_shared P f g ≡ true
unfolding is_shared
shared_at C P m w q c f g r fits own waits = rw (its_head C P m w q c f fits own, waits) refl

other_taken : (C : Config) (P : History) (who m g r : ℕ) (a : Act) → IsLegal C (one_more who m a P) → head P g ≡ Some r → head (one_more who m a P) g ≡ Some r → takes_of g P a ≡ None
other_taken C P who m g r (Take w q c) l before after = elim (cases_Bool (is_of_tenant g (request_at P q))) [
  | inr other ↦ rw other refl
  | inl own ↦
      let same : Some q ≡ Some r = sym (its_head C P m w q c g l.3 own) ∙ before in
      let j : q ≡ r = cc in
      absurd (both_ways (is_taken (one_more who m (Take w q c) P) r) (head_untaken (one_more who m (Take w q c) P) g r after) (subst (λ s. is_taken (one_more who m (Take w q c) P) s ≡ true) j (taken_now P who m w q c)))
]
other_taken C P who m g r _ l before after = refl

-- ---- along the entries after S

pub taken_before : (newer S : History) (r : ℕ) → is_taken (newer ++ S) r ≡ false → is_taken S r ≡ false
taken_before [] S r h = h
taken_before (e ∷ newer) S r h = taken_before newer S r (false_from_ne_true _ (λ yes. both_ways (is_taken (e ∷ newer ++ S) r) h (taken_stays e (newer ++ S) r yes)))

-- after the entries that follow S, k of which take a request of f
record Stands (C : Config) (S P : History) (f g M c k : ℕ) : Type 0 where
  of_f : start_now C S f + may_fall (later_low S c) C P f + k * c ≤ start_now C P f + may_fall (later_low S c) C S f
  of_g : start_now C P g + may_rise (longest M) C P g ≤ start_now C S g + may_rise (longest M) C S g
  few : (pos (k * c) +ℤ pos 1) ≤ℤ (pos c +ℤ int_max (pos 1) (worst_lead M C S g f +ℤ pos M))

-- (starts of f and g at S and at P, by how much f may fall and g may rise)
enough : (sf pf fall_s fall_p sg pg rise_s rise_p M c k : ℕ) → sf + fall_p + k * c ≤ pf + fall_s → pg + rise_p ≤ sg + rise_s → pf + 1 ≤ pg + M → (pos ((1 + k) * c) +ℤ pos 1) ≤ℤ (pos c +ℤ int_max (pos 1) ((pos (sg + rise_s) -ℤ (pos sf -ℤ pos fall_s)) +ℤ pos M))
enough sf pf fall_s fall_p sg pg rise_s rise_p M c k low high behind = omega (arith, ints, clamps, low, high, behind, add-mul 1 k c)

one_on : (s fall_now fall_then p p2 fall_s k c : ℕ) → s + fall_now + k * c ≤ p + fall_s → p + fall_then + c ≤ p2 + fall_now → s + fall_then + (1 + k) * c ≤ p2 + fall_s
one_on s fall_now fall_then p p2 fall_s k c h step = omega (arith, h, step, add-mul 1 k c)

still_least : (s fall_now fall_then p p2 fall_s kc : ℕ) → s + fall_now + kc ≤ p + fall_s → p + fall_then ≤ p2 + fall_now → s + fall_then + kc ≤ p2 + fall_s
still_least s fall_now fall_then p p2 fall_s kc h step = omega (arith, h, step)

module _ (C : Config) (S P : History) (who m f g r M c : ℕ) (ne : f ≢ g) (lim : InLimits C) (before : (q : ℕ) → is_taken P q ≡ false → is_taken S q ≡ false) (waits : head P g ≡ Some r) (at_first : may_fall (later_low S c) C S f ≡ may_fall nothing C S f) where
  abbrev after : Act → History
  after a = one_more who m a P

  -- the most of g does not rise
  still_most : (a : Act) → IsLegal C (after a) → AreNoLonger C (after a) f g M → head (after a) g ≡ Some r → start_now C (after a) g + may_rise (longest M) C (after a) g ≤ start_now C P g + may_rise (longest M) C P g
  still_most a l h waits_on = most_at C P who m g (longest M) a lim l h.of_g (caps_in C (after a) P g (longest M) (record { who = who; moment = m; act = a } ∷ [], refl) h.of_g)
      (other_taken C P who m g r a l waits waits_on) (start_step C P (record { who = who; moment = m; act = a }) g r l.0 waits)

  none_on : (a : Act) (k : ℕ) → IsLegal C (after a) → AreNoLonger C (after a) f g M → AreNoShorter C S (after a) f c → head (after a) g ≡ Some r → takes_of f P a ≡ None → Stands C S P f g M c k → Stands C S (after a) f g M c k
  none_on a k l h short waits_on none st =
      let lows : AreLows C (after a) f (later_low S c) = lows_later C S (after a) f c short in
      let older : AreLows C P f (later_low S c) = λ Q q is taken. lows Q q (prefix_older (record { who = who; moment = m; act = a }) P Q is) taken in
      record {
        of_f = still_least _ _ _ _ _ _ (k * c) st.of_f (least_at C P who m f (later_low S c) a lim l lows older (start_rises C P (record { who = who; moment = m; act = a }) f));
        of_g = omega (arith, st.of_g, still_most a l h waits_on);
        few = st.few;
      }

  some_on : (w q estimate k : ℕ) → IsLegal C (after (Take w q estimate)) → AreNoLonger C (after (Take w q estimate)) f g M → AreNoShorter C S (after (Take w q estimate)) f c → head (after (Take w q estimate)) g ≡ Some r → is_of_tenant f (request_at P q) ≡ true → Stands C S P f g M c k → Stands C S (after (Take w q estimate)) f g M c (1 + k)
  some_on w q estimate k l h short waits_on own st =
      let a : Act = Take w q estimate in
      let new : is_taken S q ≡ false = before q (waits_untaken P q (take_waits C P m w q estimate l.3)) in
      let low : later_low S c q ≡ c = rw new refl in
      let taken : is_taken_of (after a) f q ≡ true = taken_of_take P who m f w q estimate ∙ own in
      let less : later_low S c q ≤ length_of estimate (weight_at C P f) = rw (low, ← taken_length C P who m w q estimate f l.0 l.3) (short (after a) q ([], refl) taken new) in
      let step : start_now C P f + may_fall (later_low S c) C (after a) f + c ≤ start_now C (after a) f + may_fall (later_low S c) C P f = rw low at (least_taken C P who m w q estimate f (later_low S c) lim l own less) in
      let heads_low : (head_length C P f ≤ M) × (head_length C P g ≤ M) = h.heads (record { who = who; moment = m; act = a }) P w ([], refl) (shared_at C P m w q estimate f g r l.3 own waits) (rw own refl) in
      let behind : start_now C P f + 1 ≤ start_now C P g + M = behind_take C P who m w q estimate f g r M ne lim l own waits heads_low in
      record {
        of_f = one_on _ _ _ _ _ _ k c st.of_f step;
        of_g = omega (arith, st.of_g, still_most a l h waits_on);
        few = rw (← at_first) (enough (start_now C S f) (start_now C P f) (may_fall (later_low S c) C S f) (may_fall (later_low S c) C P f) (start_now C S g) (start_now C P g) (may_rise (longest M) C S g) (may_rise (longest M) C P g) M c k st.of_f st.of_g behind);
      }

-- the act takes a request of t, or none
pub by_act : (t : ℕ) (P : History) (a : Act) → (takes_of t P a ≡ None) ⊎ ((w : ℕ) × (q : ℕ) × (estimate : ℕ) × (a ≡ Take w q estimate) × (is_of_tenant t (request_at P q) ≡ true))
by_act t P (Take w q estimate) = elim (cases_Bool (is_of_tenant t (request_at P q))) [ inl own ↦ inr (w, q, estimate, refl, own) | inr other ↦ inl (rw other refl) ]
by_act t P _ = inl refl

counted_none : (o : Option ℕ) (k : ℕ) → o ≡ None → (cond (is_some o) 1 0) + k ≡ k
counted_none o k e = rw e (omega arith)

counted_some : (own : Bool) (w k : ℕ) → own ≡ true → cond (is_some (cond own (Some w) None)) 1 0 + k ≡ 1 + k
counted_some own w k e = rw e refl

-- a Take of f after P adds one to k
some_at : (C : Config) (S P : History) (who m f g r M c k : ℕ) (a : Act) (w q estimate : ℕ) → f ≢ g → InLimits C → ((q : ℕ) → is_taken P q ≡ false → is_taken S q ≡ false) → head P g ≡ Some r → may_fall (later_low S c) C S f ≡ may_fall nothing C S f → a ≡ Take w q estimate → is_of_tenant f (request_at P q) ≡ true → IsLegal C (one_more who m a P) → AreNoLonger C (one_more who m a P) f g M → AreNoShorter C S (one_more who m a P) f c → head (one_more who m a P) g ≡ Some r → Stands C S P f g M c k → Stands C S (one_more who m a P) f g M c (cond (is_some (takes_of f P a)) 1 0 + k)
some_at C S P who m f g r M c k (Take v p x) w q estimate ne lim before here first e own l h short on st =
    let same : p ≡ q = cc in
    let mine : is_of_tenant f (request_at P p) ≡ true = subst (λ z. is_of_tenant f (request_at P z) ≡ true) (sym same) own in
    subst (λ n. Stands C S (one_more who m (Take v p x) P) f g M c n) (sym (counted_some (is_of_tenant f (request_at P p)) v k mine))
    (some_on C S P who m f g r M c ne lim before here first v p x k l h short on mine st)
some_at C S P who m f g r M c k _ w q estimate ne lim before here first e own l h short on st = absurd (cc)

module _ (C : Config) (S : History) (f g r M c : ℕ) (ne : f ≢ g) (lim : InLimits C) where
  stand : (newer : History) → IsLegal C (newer ++ S) → AreNoLonger C (newer ++ S) f g M → AreNoShorter C S (newer ++ S) f c → WaitsFrom S (newer ++ S) g r → Stands C S (newer ++ S) f g M c (takes_after f newer S)
  stand [] l h short waits = record { of_f = omega arith; of_g = omega arith; few = omega (arith, ints, clamps) }
  stand (e ∷ newer) l h short waits =
      let P : History = newer ++ S in
      let here : head P g ≡ Some r = waits P (e ∷ [], refl) (newer, refl) in
      let on : head (e ∷ P) g ≡ Some r = waits (e ∷ P) ([], refl) (e ∷ newer, refl) in
      let st : Stands C S P f g M c (takes_after f newer S) = stand newer l.0 (longest_in C (e ∷ P) P f g M (e ∷ [], refl) h) (λ Q q is taken new. short Q q (prefix_older e P Q is) taken new) (λ Q is from. waits Q (prefix_older e P Q is) from) in
      let first : may_fall (later_low S c) C S f ≡ may_fall nothing C S f = falls_at_first C S f c (legal_in C (e ∷ P) S (e ∷ newer, refl) l) in
      elim (by_act f P e.act) [
        | inl none ↦ subst (λ k. Stands C S (e ∷ P) f g M c k) (sym (counted_none (takes_of f P e.act) (takes_after f newer S) none))
            (none_on C S P e.who e.moment f g r M c ne lim (taken_before newer S) here first e.act (takes_after f newer S) l h short on none st)
        | inr t ↦ some_at C S P e.who e.moment f g r M c (takes_after f newer S) e.act t.0 t.1 t.2 ne lim (taken_before newer S) here first t.3 t.4 l h short on st
      ]

-- the most of g does not rise while its head waits
pub most_waits : (C : Config) (newer S : History) (f g r M : ℕ) → f ≢ g → InLimits C → IsLegal C (newer ++ S) → AreNoLonger C (newer ++ S) f g M → WaitsFrom S (newer ++ S) g r → start_now C (newer ++ S) g + may_rise (longest M) C (newer ++ S) g ≤ start_now C S g + may_rise (longest M) C S g
most_waits C newer S f g r M ne lim l h waits = (stand C S f g r M 0 ne lim newer l h (λ Q q is taken new. omega arith) waits).of_g

-- a step less than the law says
pub takes_fewer : (C : Config) (newer S : History) (f g r M c : ℕ) → f ≢ g → InLimits C → IsLegal C (newer ++ S) → AreNoLonger C (newer ++ S) f g M → AreNoShorter C S (newer ++ S) f c → WaitsFrom S (newer ++ S) g r → (pos (takes_after f newer S * c) +ℤ pos 1) ≤ℤ (pos c +ℤ int_max (pos 1) (worst_lead M C S g f +ℤ pos M))
takes_fewer C newer S f g r M c ne lim l h short waits = (stand C S f g r M c ne lim newer l h short waits).few

a_step_more : (takes worst : ℤ) (c M : ℕ) → (takes +ℤ pos 1) ≤ℤ (pos c +ℤ int_max (pos 1) (worst +ℤ pos M)) → takes ≤ℤ (pos c +ℤ int_max (pos 0) (worst +ℤ pos M))
a_step_more takes worst c M few = omega (arith, ints, clamps, few)

pub takes_few : TakesAreFew
takes_few C newer S f g r M c ne lim l h short waits = a_step_more (pos (takes_after f newer S * c)) (worst_lead M C S g f) c M (takes_fewer C newer S f g r M c ne lim l h short waits)

in_run : (takes worst begun : ℤ) (c all M : ℕ) → takes ≤ℤ (pos c +ℤ int_max (pos 0) (worst +ℤ pos M)) → worst ≤ℤ int_max begun (pos (all + M) -ℤ pos 1) → takes ≤ℤ (pos c +ℤ (int_max begun (pos (all + M)) +ℤ pos M))
in_run takes worst begun c all M few low = omega (arith, ints, clamps, few, low)

pub takes_few_in_run : TakesAreFewInRun
takes_few_in_run C newer S f g r M c ne lim l longest_f longest_g short waits shared =
    let at_s : IsPrefix S (newer ++ S) = (newer, refl) in
    in_run (pos (takes_after f newer S * c)) (worst_lead M C S g f) (worst_lead M C (run_start S g f) g f) c (C.workers * M) M
    (takes_few C newer S f g r M c ne lim l longest_f short waits)
    (worst_lead_below C (newer ++ S) S g f M (λ e. ne (sym e)) lim l longest_g (at_s, shared_both S f g shared))
