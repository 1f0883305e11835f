-- Tests of legality, and of the limits of a configuration, that compute.
use Rattle.std.proofs.Common.{ℕ, ◌+◌, ◌*◌, ◌≤◌, nat_le, Bool, length, ◌≡◌, true, arith, nat_eq, false, ◌&&◌, Option, Some, None, refl, is_none, not, nat_lt, [], ◌∷◌, ap, ◌∙◌, List, All}
use Rattle.std.proofs.lemmas.Bool.{leb-true, eqb-true, and_parts, false≢true, not-true, ltb-true, eqb-false}
use Rattle.std.proofs.lemmas.List.Elements.{All-nil, All-cons}
use Rattle.fq_model.specs.declared.config.Config.{Config}
use Rattle.fq_model.specs.History.{History, Request, request_at, is_done, is_take_by, has_act, last_use, running_on, submits, is_closed, is_waiting, pool_at}
use Rattle.fq_model.specs.Rules.{HasRoom, IsChosen, FitsUse, Fits, IsLegal, FitsTake}
use Rattle.fq_model.specs.Keys.{HeadKeys}
use Rattle.fq_model.specs.Charge.{request_estimate}
use Rattle.fq_model.specs.declared.event.Act.{Act}
use Rattle.fq_model.specs.declared.event.Act.TheVariants.{Submit, Take, Report, Done, Close, Weight, Workers, Withdraw}
use Rattle.fq_model.specs.Time.{last_moment}
use Rattle.fq_model.specs.Limits.{IsWithin, IsTextWeight, InLimits}
use Rattle.vt_fixed.specs.declared.limits.TheConstants.{GREATEST_COST, GREATEST_MOMENT}
use Rattle.fq_model.specs.declared.limits.TheConstants.{MOST_ENTRIES, MOST_KINDS, LEAST_ENTRIES, TEXT_WORKERS, TEXT_TENANTS, TEXT_WEIGHT, TEXT_PAIRS, TEXT_REQUESTS}
use Rattle.worked_histories.proofs.Computed.Histories.{waiting_within, running_within, IsShort, waiting_is, running_is, keys_within, turn_within, shorter}
use Rattle.worked_histories.proofs.Computed.Choice.{choice_test, choice_is}
use Rattle.fq_laws.proofs.Limits.{texts_keep_least}
use Rattle.fq_laws.proofs.History.Workers.{running_nothing}
use Rattle.fq_laws.proofs.Keys.Choices.{chosen_keys}

abbrev room_test : ℕ → Config → History → ℕ → Bool
room_test n C P x = nat_le (length P + 2 * waiting_within n P + running_within n P + x) C.entries

room_true : (n k : ℕ) (C : Config) (P : History) (x : ℕ) → IsShort n k P → room_test n C P x ≡ true → HasRoom C P x
room_true n k C P x s h = omega (arith, leb-true _ _ h, waiting_is n k P s, running_is n k P s)

-- tenant t has these keys, of this request, and is the choice of worker i
abbrev chosen_test : ℕ → ℕ → Config → History → ℕ → ℕ → ℕ → ℕ → Option HeadKeys → Bool
chosen_test n k C P m i t r None = false
chosen_test n k C P m i t r (Some l) = nat_eq r l.request && choice_test (turn_within n C P m i) (keys_within n C P m) k t l

abbrev take_test : ℕ → ℕ → Config → History → ℕ → ℕ → ℕ → ℕ → Option Request → Bool
take_test n k C P m i r estimate None = false
take_test n k C P m i r estimate (Some q) = nat_eq estimate (request_estimate C P q) && chosen_test n k C P m i q.tenant r (keys_within n C P m q.tenant)

chosen_true : (n k : ℕ) (C : Config) (P : History) (m i r estimate : ℕ) (q : Request) (o : Option HeadKeys) → IsShort n k P → request_at P r ≡ Some q → estimate ≡ request_estimate C P q → keys_within n C P m q.tenant ≡ o → chosen_test n k C P m i q.tenant r o ≡ true → IsChosen C P m i r estimate q
chosen_true n k C P m i r estimate q None s asked e is h = absurd (false≢true h)
chosen_true n k C P m i r estimate q (Some l) s asked e is h =
    let p = and_parts _ _ h in
    record {
      tenant = q.tenant;
      keys = l;
      choice = choice_is n k C P m i q.tenant l s is p.1;
      request_is = eqb-true r l.request p.0;
      asked = asked;
      estimate_is = e;
    }

take_true : (n k : ℕ) (C : Config) (P : History) (m i r estimate : ℕ) (o : Option Request) → IsShort n k P → request_at P r ≡ o → take_test n k C P m i r estimate o ≡ true → (q : Request) × IsChosen C P m i r estimate q
take_true n k C P m i r estimate None s is h = absurd (false≢true h)
take_true n k C P m i r estimate (Some q) s is h =
    let p = and_parts _ _ h in
    (q, chosen_true n k C P m i r estimate q (keys_within n C P m q.tenant) s is (eqb-true estimate _ p.0) refl p.1)

none_true : {A : Type 0} (o : Option A) → is_none o ≡ true → o ≡ None
none_true None h = refl
none_true (Some x) h = absurd (false≢true h)

-- worker i runs r, and may name this use of it
abbrev use_test : History → ℕ → ℕ → ℕ → Bool
use_test P i r used = has_act (is_take_by i r) P && (not (is_done P r) && (nat_le (last_use P r) used && nat_le used GREATEST_COST))

use_true : (P : History) (i r used : ℕ) → use_test P i r used ≡ true → FitsUse P i r used
use_true P i r used h =
    let a = and_parts _ _ h in
    let b = and_parts _ _ a.1 in
    let c = and_parts _ _ b.1 in
    record { runs = record { taken = a.0; not_done = not-true _ b.0 }; rising = leb-true _ _ c.0; in_range = leb-true _ _ c.1 }

abbrev fits_test : ℕ → ℕ → Config → History → ℕ → Act → Bool
fits_test n k C P m (Submit request tenant kind declared label) = not (is_closed P) && (nat_eq request (submits P) && (nat_lt tenant (length C.weights) && (nat_lt kind C.kinds && (nat_le 1 declared && (nat_le declared GREATEST_COST && (nat_lt (waiting_within n P) C.requests && room_test n C P 4))))))
fits_test n k C P m (Take worker request estimate) = nat_lt worker (pool_at C P) && (is_none (running_on P worker) && take_test n k C P m worker request estimate (request_at P request))
fits_test n k C P m (Report worker request used) = use_test P worker request used && room_test n C P 2
fits_test n k C P m (Done worker request cost) = use_test P worker request cost
fits_test n k C P m Close = not (is_closed P)
fits_test n k C P m (Weight tenant weight) = nat_lt tenant (length C.weights) && (nat_le 1 weight && (nat_le weight TEXT_WEIGHT && room_test n C P 2))
fits_test n k C P m (Workers count) = nat_le 1 count && (nat_le count C.workers && room_test n C P 2)
fits_test n k C P m (Withdraw request) = is_waiting P request

fits_true : (n k : ℕ) (C : Config) (P : History) (m : ℕ) (a : Act) → IsShort n k P → IsLegal C P → fits_test n k C P m a ≡ true → Fits C P m a
fits_true n k C P m (Submit request tenant kind declared label) s l h =
    let p1 = and_parts _ _ h in
    let p2 = and_parts _ _ p1.1 in
    let p3 = and_parts _ _ p2.1 in
    let p4 = and_parts _ _ p3.1 in
    let p5 = and_parts _ _ p4.1 in
    let p6 = and_parts _ _ p5.1 in
    let p7 = and_parts _ _ p6.1 in
    record {
      open_still = not-true _ p1.0;
      numbered = eqb-true _ _ p2.0;
      tenant_known = ltb-true _ _ p3.0;
      kind_known = ltb-true _ _ p4.0;
      declared_low = leb-true _ _ p5.0;
      declared_high = leb-true _ _ p6.0;
      slot = rw (waiting_is n k P s) (ltb-true _ _ p7.0);
      room = room_true n k C P 4 s p7.1;
    }
fits_true n k C P m (Take worker request estimate) s l h =
    let p1 = and_parts _ _ h in
    let p2 = and_parts _ _ p1.1 in
    let x = take_true n k C P m worker request estimate (request_at P request) s refl p2.1 in
    record {
      worker_known = ltb-true _ _ p1.0;
      free = running_nothing C P worker l (none_true (running_on P worker) p2.0);
      asked = x.0;
      chosen = x.1;
    }
fits_true n k C P m (Report worker request used) s l h = let p = and_parts _ _ h in (use_true P worker request used p.0, room_true n k C P 2 s p.1)
fits_true n k C P m (Done worker request cost) s l h = use_true P worker request cost h
fits_true n k C P m Close s l h = not-true _ h
fits_true n k C P m (Weight tenant weight) s l h =
    let p1 = and_parts _ _ h in
    let p2 = and_parts _ _ p1.1 in
    let p3 = and_parts _ _ p2.1 in
    record { tenant_known = ltb-true _ _ p1.0; weight_in_range = (leb-true 1 weight p2.0, omega (arith, leb-true weight TEXT_WEIGHT p3.0, (texts_keep_least C.limits).weight)); room = room_true n k C P 2 s p3.1 }
fits_true n k C P m (Workers count) s l h =
    let p1 = and_parts _ _ h in
    let p2 = and_parts _ _ p1.1 in
    record { count_in_range = (leb-true _ _ p1.0, leb-true _ _ p2.0); room = room_true n k C P 2 s p2.1 }
fits_true n k C P m (Withdraw request) s l h = h

abbrev pub legal_test : ℕ → ℕ → Config → History → Bool
legal_test n k C [] = true
legal_test n k C (e ∷ P) = legal_test n k C P && (nat_le (last_moment P) e.moment && (nat_le e.moment GREATEST_MOMENT && fits_test n k C P e.moment e.act))

-- in a short history the test shows that it is legal
pub legal_is : (n k : ℕ) (C : Config) (P : History) → IsShort n k P → legal_test n k C P ≡ true → IsLegal C P
legal_is n k C [] s h = tt
legal_is n k C (e ∷ P) s h =
    let p1 = and_parts _ _ h in
    let p2 = and_parts _ _ p1.1 in
    let p3 = and_parts _ _ p2.1 in
    let r = shorter n k e P s in
    let l = legal_is n k C P r p1.0 in
    (l, leb-true _ _ p2.0, leb-true _ _ p3.0, fits_true n k C P e.moment e.act r l p3.1)

-- a Take of another request than that of the chosen tenant does not fit
pub other_take_unfit : (n k : ℕ) (C : Config) (P : History) (m i r estimate t : ℕ) (l : HeadKeys) → IsShort n k P → keys_within n C P m t ≡ Some l → choice_test (turn_within n C P m i) (keys_within n C P m) k t l ≡ true → nat_eq r l.request ≡ false → ¬ FitsTake C P m i r estimate
other_take_unfit n k C P m i r estimate t l s has h ne = λ f.
    let c = f.chosen in
    let e : c.keys ≡ l = chosen_keys C P m i c.tenant t c.keys l c.choice (choice_is n k C P m i t l s has h) in
    eqb-false r l.request ne (c.request_is ∙ ap (λ (k : HeadKeys). k.request) e)

-- ---- the limits of a configuration

abbrev within : ℕ → ℕ → ℕ → Bool
within low high n = nat_le low n && nat_le n high

within_true : (low high n : ℕ) → within low high n ≡ true → IsWithin low high n
within_true low high n h = let p = and_parts _ _ h in (leb-true low n p.0, leb-true n high p.1)

abbrev weights_test : List ℕ → Bool
weights_test [] = true
weights_test (w ∷ ws) = within 1 TEXT_WEIGHT w && weights_test ws

weights_true : (ws : List ℕ) → weights_test ws ≡ true → All IsTextWeight ws
weights_true [] h = All-nil IsTextWeight
weights_true (w ∷ ws) h = let p = and_parts _ _ h in All-cons IsTextWeight w ws (within_true 1 TEXT_WEIGHT w p.0) (weights_true ws p.1)

abbrev pub limits_test : Config → Bool
limits_test C = within 1 TEXT_WORKERS C.workers && (within 1 TEXT_TENANTS (length C.weights) && (weights_test C.weights && (within 1 MOST_KINDS C.kinds && (nat_le (length C.weights * C.kinds) TEXT_PAIRS && (within LEAST_ENTRIES MOST_ENTRIES C.entries && (within 1 TEXT_REQUESTS C.requests && within 1 GREATEST_COST C.initial))))))

-- the test shows that the numbers of a configuration are in their limits, whichever it keeps
pub limits_are : (C : Config) → limits_test C ≡ true → InLimits C
limits_are C h =
    let p1 = and_parts _ _ h in
    let p2 = and_parts _ _ p1.1 in
    let p3 = and_parts _ _ p2.1 in
    let p4 = and_parts _ _ p3.1 in
    let p5 = and_parts _ _ p4.1 in
    let p6 = and_parts _ _ p5.1 in
    let p7 = and_parts _ _ p6.1 in
    let least = texts_keep_least C.limits in
    let workers : IsWithin 1 TEXT_WORKERS C.workers = within_true 1 TEXT_WORKERS C.workers p1.0 in
    let tenants : IsWithin 1 TEXT_TENANTS (length C.weights) = within_true 1 TEXT_TENANTS (length C.weights) p2.0 in
    let weights : All IsTextWeight C.weights = weights_true C.weights p3.0 in
    let pairs : length C.weights * C.kinds ≤ TEXT_PAIRS = leb-true _ _ p5.0 in
    let entries : IsWithin LEAST_ENTRIES MOST_ENTRIES C.entries = within_true LEAST_ENTRIES MOST_ENTRIES C.entries p6.0 in
    let requests : IsWithin 1 TEXT_REQUESTS C.requests = within_true 1 TEXT_REQUESTS C.requests p7.0 in
    record {
      workers = (workers.0, omega (arith, workers.1));
      tenants = (tenants.0, omega (arith, tenants.1));
      weights = λ k d lt. ((weights k d lt).0, omega (arith, (weights k d lt).1));
      kinds = within_true 1 MOST_KINDS _ p4.0;
      pairs = omega (arith, pairs);
      entries = (entries.0, omega (arith, entries.1));
      requests = (requests.0, omega (arith, requests.1));
      initial = within_true 1 GREATEST_COST _ p7.1;
      own = record {
        workers = omega (arith, workers.1, least.workers);
        tenants = omega (arith, tenants.1, least.tenants);
        weights = λ k d lt. omega (arith, (weights k d lt).1, least.weight);
        pairs = omega (arith, pairs, least.pairs);
        entries = omega (arith, entries.1, least.entries);
        requests = omega (arith, requests.1, least.requests);
      };
    }
