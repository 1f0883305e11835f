-- A Take: the changes of its tenant, of virtual time and of the cap, and the leads over others by the choice.
use Rattle.std.proofs.Common.{ℕ, ◌+◌, ◌-◌, ◌*◌, ◌≤◌, ◌≡◌, ◌≢◌, ◌==◌, max, cond, Bool, true, refl, sym, subst, arith, inl, inr, ◌⊎◌, [], ◌∷◌, Some, ℤ, pos, ◌≤ℤ◌}
use Rattle.std.specs.Prelude.{◌+ℤ◌}
use Rattle.std.specs.Int.{int_max}
use Rattle.std.proofs.lemmas.Int.{ints, clamps}
use Rattle.std.proofs.lemmas.Bool.{cases_Bool, eqb-true, eq-eqb}
use Rattle.vt_fixed.specs.Rounding.{length_of, part_of}
use Rattle.fq_model.specs.Ever.{greatest_part}
use Rattle.fq_model.specs.declared.config.Config.{Config}
use Rattle.fq_model.specs.declared.config.Policy.{Policy}
use Rattle.fq_model.specs.declared.config.Policy.TheVariants.{TwoDfqPlus}
use Rattle.fq_model.specs.declared.event.Act.{Act}
use Rattle.fq_model.specs.declared.event.Act.TheVariants.{Take}
use Rattle.fq_model.specs.declared.event.Entry.{Entry}
use Rattle.fq_model.specs.History.{History, request_at, is_of_tenant, head, weight_at, pool_at}
use Rattle.fq_model.specs.Charge.{virtual_charge}
use Rattle.fq_model.specs.Keys.{stagger}
use Rattle.fq_model.specs.Lead.{may_rise, may_fall, start_now, head_length}
use Rattle.fq_model.specs.Pace.{virtual_time, pace}
use Rattle.fq_model.specs.Rules.{FitsTake}
use Rattle.fq_model.specs.Time.{last_moment}
use Rattle.fq_laws.specs.Words.{one_more}
use Rattle.fq_laws.proofs.Charge.Estimates.{estimate_range}
use Rattle.fq_laws.proofs.Charge.Tenants.{virtual_charge_taken}
use Rattle.fq_laws.proofs.History.Requests.{tenant_below}
use Rattle.fq_laws.proofs.History.Weights.{weight_low, pool_high}
use Rattle.fq_laws.proofs.Keys.Pace.{paced_start, virtual_time_lifted, reached_stays, reached_take}
use Rattle.fq_laws.proofs.Keys.Tags.{start_paced, base_take}
use Rattle.gap_laws.proofs.Leads.{rising, falling, OfHead, of_head, chosen_ahead}
use Rattle.gap_laws.proofs.Running.{over_taken}
use Rattle.gap_laws.proofs.Runs.{prefix_older}
use Rattle.gap_laws.proofs.Takes.{its_head, by_act}
use Rattle.gap_laws.proofs.WorstCase.{longest, nothing, caps_in, length_some, part_below}
use Rattle.ever_laws.specs.Words.{IsPacedWithin, time_now, running_length}
use Rattle.ever_laws.proofs.Entries.{Stays, Comes, raises_of, stays, comes, starts_at}
use Rattle.ever_laws.proofs.Parts.{part_low}
use Rattle.ever_laws.proofs.Running.{full, one_runs_before, two_run_before}

-- a Take of a request of tenant t that is len long
pub record Taken (C : Config) (P Q : History) (t M : ℕ) : Type 0 where
  pub len : ℕ
  pub request : ℕ
  pub some : head P t ≡ Some request
  pub len_low : 1 ≤ len
  pub len_high : len ≤ M
  pub start_is : start_now C Q t ≡ start_now C P t + len
  pub rise_is : may_rise (longest M) C Q t + len ≡ may_rise (longest M) C P t + M
  pub fall_is : may_fall nothing C Q t ≡ may_fall nothing C P t + len
  pub runs_is : (N : ℕ) → running_length N C Q t ≡ running_length N C P t + N
  pub lifted : start_now C P t ≤ time_now C Q + greatest_part C M
  pub cap_is : (pace C Q).reached ≡ max (pace C P).reached (start_now C P t + len)
  pub one_free : (u : ℕ) → running_length M C P u + M ≤ C.workers * M
  pub free : (f g N : ℕ) → f ≢ g → running_length N C P f + running_length N C P g + N ≤ C.workers * N
  pub finish_low : (g r : ℕ) → g ≢ t → head P g ≡ Some r → start_now C P t + len ≤ start_now C P g + M + greatest_part C M
  pub start_low : (g r : ℕ) → g ≢ t → head P g ≡ Some r → start_now C P t + 1 ≤ start_now C P g + M

own_only : (own : Bool) (x old new : ℕ) → own ≡ true → new ≡ old + cond own x 0 → new ≡ old + x
own_only own x old new is e = rw is at e

staggered : (p : Policy) (len i n : ℕ) → p ≡ TwoDfqPlus → stagger p (pos len) i n ≡ pos (part_of len i n)
staggered p len i n is = rw is refl

-- (the choice starts at a and is x long, the other one starts at b and is y long)
behind_finish : (a b x y M part greatest : ℕ) (z : ℤ) → pos (a + x) ≤ℤ (pos b +ℤ int_max (pos y) (z +ℤ pos x)) → z ≡ pos part → part ≤ greatest → x ≤ M → y ≤ M → a + x ≤ b + M + greatest
behind_finish a b x y M part greatest z ahead is low short other = omega (arith, ints, clamps, ahead, is, low, short, other)

behind_start : (a b x y M part : ℕ) (z : ℤ) → pos (a + x) ≤ℤ (pos b +ℤ int_max (pos y) (z +ℤ pos x)) → z ≡ pos part → part + 1 ≤ x → x ≤ M → y ≤ M → a + 1 ≤ b + M
behind_start a b x y M part z ahead is low short other = omega (arith, ints, clamps, ahead, is, low, short, other)

module _ (C : Config) (P : History) (who m w q c t M : ℕ) (is : IsPacedWithin C (one_more who m (Take w q c) P) M) (own : is_of_tenant t (request_at P q) ≡ true) where
  abbrev after : History
  after = one_more who m (Take w q c) P

  abbrev fits : FitsTake C P m w q c
  fits = is.legal.3

  abbrev len : ℕ
  len = length_of c (weight_at C P t)

  of_its_head : OfHead C P m w t c
  of_its_head = of_head C P m w q c t fits own

  heads_low : (u : ℕ) → head_length C P u ≤ M
  heads_low u = is.lengths.heads (record { who = who; moment = m; act = Take w q c }) P u ([], refl) refl

  short : len ≤ M
  short = rw of_its_head.length_is (heads_low t)

  some_length : 1 ≤ len
  some_length =
      length_some c (weight_at C P t) (rw fits.chosen.estimate_is (estimate_range C P q fits.asked is.limits is.legal.0 fits.chosen.asked).0)
      (weight_low C P t is.limits is.legal.0 (tenant_below C P t q is.legal.0 own))

  mine : fits.asked.tenant ≡ t
  mine = eqb-true fits.asked.tenant t (let h : (fits.asked.tenant == t) ≡ true = rw fits.chosen.asked at own in h)

  few : pool_at C P ≤ C.workers
  few = pool_high C P is.legal.0

  paced : start_now C P t ≡ paced_start C P t
  paced = start_paced C P (last_moment P) t is.policy

  -- the lead over each other tenant that waits, by the choice
  ahead : (g r : ℕ) → g ≢ t → head P g ≡ Some r → pos (start_now C P t + len) ≤ℤ (pos (start_now C P g) +ℤ int_max (pos (head_length C P g)) (stagger C.policy (pos len) w (pool_at C P) +ℤ pos len))
  ahead g r ne waits = rw of_its_head.length_is (chosen_ahead C P m w t g r of_its_head.its_keys ne is.legal.0 waits fits.worker_known of_its_head.choice)

  lifted_to : start_now C P t ≤ time_now C after + greatest_part C M
  lifted_to =
      let time : time_now C after ≡ max (virtual_time C P m) (paced_start C P t - part_of len w (pool_at C P)) = rw mine at (virtual_time_lifted C P who m w q c fits.asked is.policy fits.chosen.asked) in
      omega (arith, time, paced, part_low C len w (pool_at C P) M short fits.worker_known few)

  reached_to : (pace C after).reached ≡ max (pace C P).reached (start_now C P t + len)
  reached_to =
      let cap : (pace C after).reached ≡ max (pace C P).reached (paced_start C P t + len) = rw mine at (reached_take C P who m w q c fits.asked fits.chosen.asked) in
      omega (arith, cap, paced)

  start_after : start_now C after t ≡ start_now C P t + len
  start_after =
      let charges : virtual_charge C after t ≡ virtual_charge C P t + len = own_only (is_of_tenant t (request_at P q)) len _ _ own (virtual_charge_taken C P who m t w q c is.limits is.legal.0 fits) in
      omega (arith, starts_at C P t is.policy, starts_at C after t is.policy, charges, base_take C P who m t w q c)

  rise_after : may_rise (longest M) C after t + len ≡ may_rise (longest M) C P t + M
  rise_after = omega (arith, own_only (is_of_tenant t (request_at P q)) (M - len) _ _ own (over_taken (rising (longest M)) C P who m t w q c is.legal.0 fits), short)

  pub taken : Taken C P after t M
  taken = record {
    len = len;
    request = q;
    some = its_head C P m w q c t fits own;
    len_low = some_length;
    len_high = short;
    start_is = start_after;
    rise_is = rise_after;
    fall_is = omega (arith, own_only (is_of_tenant t (request_at P q)) (len - 0) _ _ own (over_taken (falling nothing) C P who m t w q c is.legal.0 fits));
    runs_is = λ N. own_only (is_of_tenant t (request_at P q)) N _ _ own (over_taken (full N) C P who m t w q c is.legal.0 fits);
    lifted = lifted_to;
    cap_is = reached_to;
    one_free = λ u. one_runs_before C P m w q c u M is.legal.0 fits;
    free = λ f g N ne. two_run_before C P m w q c f g N ne is.legal.0 fits;
    finish_low = λ g r ne waits. behind_finish (start_now C P t) (start_now C P g) len (head_length C P g) M (part_of len w (pool_at C P)) (greatest_part C M) _ (ahead g r ne waits) (staggered C.policy len w (pool_at C P) is.policy) (part_low C len w (pool_at C P) M short fits.worker_known few) short (heads_low g);
    start_low = λ g r ne waits. behind_start (start_now C P t) (start_now C P g) len (head_length C P g) M (part_of len w (pool_at C P)) _ (ahead g r ne waits) (staggered C.policy len w (pool_at C P) is.policy) (part_below len w (pool_at C P) some_length fits.worker_known) short (heads_low g);
  }

-- `Taken` for an entry whose act is a Take of a request of t
pub taken_by : (C : Config) (P : History) (e : Entry) (w q c t M : ℕ) → IsPacedWithin C (e ∷ P) M → e.act ≡ Take w q c → is_of_tenant t (request_at P q) ≡ true → Taken C P (e ∷ P) t M
taken_by C P e w q c t M is act own =
    subst (λ (a : Act). Taken C P (one_more e.who e.moment a P) t M) (sym act)
    (taken C P e.who e.moment w q c t M (subst (λ (a : Act). IsPacedWithin C (one_more e.who e.moment a P) M) act is) own)

-- ---- the change of a tenant, and of the cap, at an entry

abbrev pub Change : Config → History → History → ℕ → ℕ → Type 0
Change C P Q t M = Stays C P Q t M ⊎ (Comes C P Q t M ⊎ Taken C P Q t M)

pub change : (C : Config) (P : History) (e : Entry) (t M : ℕ) → IsPacedWithin C (e ∷ P) M → Change C P (e ∷ P) t M
change C P e t M is = elim (cases_Bool (raises_of P t e.act)) [
  | inl raises ↦ inr (inl (comes C P e t M is raises))
  | inr off ↦ elim (by_act t P e.act) [
    | inl none ↦ inl (stays C P e t M is off none)
    | inr x ↦ inr (inr (taken_by C P e x.0 x.1 x.2 t M is x.3 x.4))
  ]
]

abbrev pub CapChange : Config → History → History → ℕ → Type 0
CapChange C P Q M = ((pace C Q).reached ≡ (pace C P).reached) ⊎ ((u : ℕ) × Taken C P Q u M)

cap_at : (C : Config) (P : History) (who m M : ℕ) (a : Act) → IsPacedWithin C (one_more who m a P) M → CapChange C P (one_more who m a P) M
cap_at C P who m M (Take w q c) is =
    let asked = is.legal.3.chosen.asked in
    let t : ℕ = is.legal.3.asked.tenant in
    inr (t, taken C P who m w q c t M is (rw asked (eq-eqb t t refl)))
cap_at C P who m M a is = inl (reached_stays C P (record { who = who; moment = m; act = a }) refl)

pub cap_change : (C : Config) (P : History) (e : Entry) (M : ℕ) → IsPacedWithin C (e ∷ P) M → CapChange C P (e ∷ P) M
cap_change C P e M is = cap_at C P e.who e.moment M e.act is

-- a history one entry shorter is paced within M too
pub within_older : (C : Config) (P : History) (e : Entry) (M : ℕ) → IsPacedWithin C (e ∷ P) M → IsPacedWithin C P M
within_older C P e M is = record {
  policy = is.policy;
  limits = is.limits;
  legal = is.legal.0;
  lengths = record {
    some = is.lengths.some;
    requests = λ t. caps_in C (e ∷ P) P t (longest M) (e ∷ [], refl) (is.lengths.requests t);
    heads = λ d Q t inner takes. is.lengths.heads d Q t (prefix_older e P (d ∷ Q) inner) takes;
  };
}
