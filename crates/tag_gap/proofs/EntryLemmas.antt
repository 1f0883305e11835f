-- The state that is kept of a history, one entry on, and the starts of its tenants.
use Rattle.std.proofs.Common.{ℕ, ◌+◌, ◌<◌, ◌≡◌, ◌≢◌, ◌⊎◌, ◌∙◌, ◌&&◌, true, false, Bool, refl, ap, sym, subst, arith, inl, inr, List, ◌∷◌, length, Some, None, ℤ, pos, get_or, ◌+ℤ◌, ◌-ℤ◌}
use Rattle.std.specs.Prelude.{slice_index, slice_get, is_some, if◌then◌else◌}
use Rattle.std.proofs.lemmas.Bool.{eq-eqb}
use Rattle.std.proofs.lemmas.Option.{get_or_from_slice_get, slice_get_within}
use Rattle.fq_model.specs.declared.config.Config.{Config}
use Rattle.fq_model.specs.declared.config.Policy.{Policy}
use Rattle.fq_model.specs.declared.config.Policy.TheVariants.{Wfq, Wf2q, Msf2q, TwoDfq, TwoDfqPlus}
use Rattle.fq_model.specs.declared.event.Act.{Act}
use Rattle.fq_model.specs.declared.event.Act.TheVariants.{Submit, Take, Report, Done, Close, Weight, Workers, Withdraw}
use Rattle.fq_model.specs.declared.event.Entry.{Entry}
use Rattle.fq_model.specs.History.{History, Request, request_at, head, queue, queue_after, is_waiting}
use Rattle.fq_model.specs.Time.{last_moment, virtual_idle_time}
use Rattle.fq_model.specs.Charge.{virtual_charge}
use Rattle.fq_model.specs.Keys.{tag, start}
use Rattle.fq_model.specs.Pace.{tag_base, is_submit_for}
use Rattle.fq_model.specs.Rules.{Fits, FitsTake, FitsUse}
use Rattle.fq_model.specs.Gap.{is_shared, start_difference}
use Rattle.fq_laws.specs.Steps.{Awaits, Follows, Submits, is_passing, Passes, Ends, Reweighs, Staffs}
use Rattle.fq_laws.proofs.History.Queues.{head_is_first}
use Rattle.fq_laws.proofs.History.Asked.{waits_submitted, submitted_known}
use Rattle.fq_laws.proofs.History.Requests.{request_known, use_known}
use Rattle.fq_laws.proofs.Keys.Pace.{base_step}
use Rattle.virtual_clock.specs.Histories.{TimesAre, AwaitsEnd, FollowsEnd}
use Rattle.gap_laws.specs.Words.{HasDeclaredCosts, taken_length}
use Rattle.gap_laws.proofs.Declared.{all_are_declared, charge_step}
use Rattle.tag_rules.specs.Accounts.{AccountsView, AccountsAre, charge_of, base_of}
use Rattle.tag_rules.proofs.AccountSteps.{tag_is_sum}
use Rattle.tag_gap.specs.declared.asked.Asked.{Asked}
use Rattle.tag_gap.specs.declared.reading.Reading.{Reading}
use Rattle.tag_gap.specs.Asked.{asked_of}
use Rattle.tag_gap.proofs.ReadingLemmas.{no_first, some_first}
use Rattle.tag_difference.specs.Pairs.{difference_at}
use Rattle.tag_gap.specs.Reading.{Keeps, Takes, Withdraws, MayCome, AwaitsEntry, FollowsEntry}

-- ---- the other acts

-- the act is no Submit, no Take and no Withdraw
abbrev pub is_steady : Act → Bool
is_steady (Submit request tenant kind declared label) = false
is_steady (Take worker request estimate) = false
is_steady (Withdraw request) = false
is_steady _ = true

-- it takes no length, raises no base and changes no queue
record Steady (C : Config) (P : History) (u : ℕ) (a : Act) : Type 0 where
  no_length : taken_length C P u a ≡ 0
  no_submit : is_submit_for u a ≡ false
  same_queue : queue_after P u a (queue P u) ≡ queue P u

steady_at : (C : Config) (P : History) (u : ℕ) (a : Act) → is_steady a ≡ true → Steady C P u a
steady_at C P u (Submit request tenant kind declared label) h = absurd (cc)
steady_at C P u (Take worker request estimate) h = absurd (cc)
steady_at C P u (Withdraw request) h = absurd (cc)
steady_at C P u a h = record { no_length = refl; no_submit = refl; same_queue = refl }

-- all but the times is the same
pub record SameRest (k n : Reading) : Type 0 where
  pub policy : n.policy ≡ k.policy
  pub accounts : n.accounts ≡ k.accounts
  pub waiting : n.waiting ≡ k.waiting

-- where all is as declared, it leaves the accounts
steady_accounts : (C : Config) (P : History) (e : Entry) (a : AccountsView) → is_steady e.act ≡ true → HasDeclaredCosts C (e ∷ P) → AccountsAre C P a → AccountsAre C (e ∷ P) a
steady_accounts C P e a steady h is = record {
  charges_sized = is.charges_sized;
  bases_sized = is.bases_sized;
  charges_are = λ u b. is.charges_are u b ∙ ap pos (sym (charges u));
  bases_are = λ u b. is.bases_are u b ∙ ap pos (sym (bases u));
}
  where
    charges : (u : ℕ) → virtual_charge C (e ∷ P) u ≡ virtual_charge C P u
    charges u = let s = steady_at C P u e.act steady in omega (arith, charge_step C P e u h.limits h.legal (all_are_declared C (e ∷ P) h), s.no_length)

    bases : (u : ℕ) → tag_base C (e ∷ P) u ≡ tag_base C P u
    bases u = let s = steady_at C P u e.act steady in base_step C P e u ∙ rw s.no_submit refl

-- and the waiting requests
steady_keeps : (C : Config) (P : History) (e : Entry) (k n : Reading) → is_steady e.act ≡ true → HasDeclaredCosts C (e ∷ P) → TimesAre C (e ∷ P) n.times → SameRest k n → Keeps C P k → Keeps C (e ∷ P) n
steady_keeps C P e k n steady h times same is = record {
  limits = h.limits;
  legal = h.legal;
  policy_is = same.policy ∙ is.policy_is;
  times_are = times;
  accounts_are = rw same.accounts (steady_accounts C P e k.accounts steady h is.accounts_are);
  waiting_are = rw same.waiting (record {
    tenants = is.waiting_are.tenants;
    each = λ u b. is.waiting_are.each u b ∙ ap length (sym (steady_at C P u e.act steady).same_queue);
  });
}

-- ---- one entry

-- the tenant and the declared cost of a request, as they are kept
abbrev pub asked_at : List Asked → ℕ → Asked
asked_at asked r = get_or asked r (record { tenant = 0; declared = 0 })

-- a request of the history is among the kept requests
record KnownAt (P : History) (asked : List Asked) (r : ℕ) : Type 0 where
  what : Request
  was : request_at P r ≡ Some what
  within : r < length asked
  tenant_is : what.tenant ≡ (asked_at asked r).tenant

module _ (C : Config) (P : History) (asked : List Asked) (e : Entry) (may : MayCome C asked P e) where
  known_at : (r : ℕ) (q : Request) → request_at P r ≡ Some q → KnownAt P asked r
  known_at r q was =
      let at : slice_get asked r ≡ Some (asked_of q) = may.known r q was in
      record {
        what = q;
        was = was;
        within = slice_get_within asked r (asked_of q) at;
        tenant_is = ap (λ (x : Asked). x.tenant) (sym (get_or_from_slice_get asked r (asked_of q) (record { tenant = 0; declared = 0 }) at));
      }

  -- so is a request that is taken, done or withdrawn
  taken_at : (w r estimate : ℕ) → e.act ≡ Take w r estimate → KnownAt P asked r
  taken_at w r estimate act = let f : FitsTake C P e.moment w r estimate = subst (Fits C P e.moment) act may.costs.legal.3 in known_at r f.asked f.chosen.asked

  done_at : (w r cost : ℕ) → e.act ≡ Done w r cost → KnownAt P asked r
  done_at w r cost act =
      let f : FitsUse P w r cost = subst (Fits C P e.moment) act may.costs.legal.3 in
      let q = use_known C P w r cost may.costs.legal.0 f in
      known_at r q.0 q.1

  takes_is : (w r estimate : ℕ) → e.act ≡ Take w r estimate → Takes e.moment w (asked_at asked r).tenant estimate P e
  takes_is w r estimate act = let x = taken_at w r estimate act in record { request = r; asked = x.what; moment_is = refl; act_is = act; asked_is = x.was; tenant_is = x.tenant_is }

  completes_is : (w r cost : ℕ) → e.act ≡ Done w r cost → Ends e.moment (asked_at asked r).tenant P e
  completes_is w r cost act = let x = done_at w r cost act in record { request = r; asked = x.what; moment_is = refl; ends = rw act (eq-eqb r r refl); asked_is = x.was; tenant_is = x.tenant_is }

  known_tenant : (w r cost : ℕ) → e.act ≡ Done w r cost → (asked_at asked r).tenant < length C.weights
  known_tenant w r cost act = let x = done_at w r cost act in subst (λ (t : ℕ). t < length C.weights) x.tenant_is (request_known C P r x.what may.costs.legal.0 x.was).tenant_known

  -- after a Done the tag of the tenant is that of the accounts
  tag_done : (w r cost t : ℕ) (a : AccountsView) (start_at : ℤ) → e.act ≡ Done w r cost → t < length C.weights → AccountsAre C P a → start_at ≡ charge_of a t +ℤ base_of a t → start_at ≡ pos (tag C (e ∷ P) t)
  tag_done w r cost t a start_at act known is tagged = tagged ∙ tag_is_sum C (e ∷ P) a t known (steady_accounts C P e a (rw act refl) may.costs is)

  withdrawn_at : (r : ℕ) → e.act ≡ Withdraw r → KnownAt P asked r
  withdrawn_at r act =
      let w : is_waiting P r ≡ true = subst (Fits C P e.moment) act may.costs.legal.3 in
      let q = submitted_known P r (waits_submitted P r w) in
      known_at r q.0 q.1

  withdraws_is : (r : ℕ) → e.act ≡ Withdraw r → Withdraws e.moment (asked_at asked r).tenant P e
  withdraws_is r act = let x = withdrawn_at r act in record { request = r; asked = x.what; moment_is = refl; act_is = act; asked_is = x.was; tenant_is = x.tenant_is }

-- the requirements of the calls at a Done
pub done_within : (asked : List Asked) (e : Entry) (k : Reading) (w r cost : ℕ) → AwaitsEntry asked e k → e.act ≡ Done w r cost → r < length asked
done_within asked e k w r cost a act = (done_at a.config a.history asked e a.comes w r cost act).within

pub done_known : (asked : List Asked) (e : Entry) (k : Reading) (w r cost : ℕ) → AwaitsEntry asked e k → e.act ≡ Done w r cost → (asked_at asked r).tenant < length k.accounts.charges
done_known asked e k w r cost a act = omega (arith, known_tenant a.config a.history asked e a.comes w r cost act, a.keeps.accounts_are.charges_sized)

pub awaits_done : (asked : List Asked) (e : Entry) (k : Reading) (w r cost : ℕ) (start_at : ℤ) → AwaitsEntry asked e k → e.act ≡ Done w r cost → start_at ≡ charge_of k.accounts (asked_at asked r).tenant +ℤ base_of k.accounts (asked_at asked r).tenant → AwaitsEnd k.policy e.moment (asked_at asked r).tenant start_at k.times
awaits_done asked e k w r cost start_at a act tagged = record {
  config = a.config;
  history = a.history;
  entry = e;
  policy_is = a.keeps.policy_is;
  limits = a.keeps.limits;
  legal = a.comes.costs.legal;
  ends = completes_is a.config a.history asked e a.comes w r cost act;
  starts = λ plus. tag_done a.config a.history asked e a.comes w r cost (asked_at asked r).tenant k.accounts start_at act (known_tenant a.config a.history asked e a.comes w r cost act) a.keeps.accounts_are tagged;
  times_are = a.keeps.times_are;
}

-- and at a Withdraw
pub withdraw_within : (asked : List Asked) (e : Entry) (k : Reading) (r : ℕ) → AwaitsEntry asked e k → e.act ≡ Withdraw r → r < length asked
withdraw_within asked e k r a act = (withdrawn_at a.config a.history asked e a.comes r act).within

pub awaits_withdraw : (asked : List Asked) (e : Entry) (k : Reading) (r : ℕ) → AwaitsEntry asked e k → e.act ≡ Withdraw r → Awaits Keeps (Withdraws e.moment (asked_at asked r).tenant) k
awaits_withdraw asked e k r a act = record { config = a.config; history = a.history; entry = e; limits = a.keeps.limits; legal = a.comes.costs.legal; comes = withdraws_is a.config a.history asked e a.comes r act; kept_is = a.keeps }

-- the kept state after each act
pub read_submit : (asked : List Asked) (e : Entry) (k n : Reading) (r t kind declared label : ℕ) → e.act ≡ Submit r t kind declared label → Follows Keeps (Submits e.moment t) k n → FollowsEntry asked e k n
read_submit asked e k n r t kind declared label act f = λ C P may is. f C P e is.limits may.costs.legal (record { request = r; kind = kind; declared = declared; label = label; moment_is = refl; act_is = act }) is

pub read_take : (asked : List Asked) (e : Entry) (k n : Reading) (w r estimate : ℕ) → e.act ≡ Take w r estimate → Follows Keeps (Takes e.moment w (asked_at asked r).tenant estimate) k n → FollowsEntry asked e k n
read_take asked e k n w r estimate act f = λ C P may is. f C P e is.limits may.costs.legal (takes_is C P asked e may w r estimate act) is

-- a Report and a Close pass
pub is_passed : (e : Entry) → ((w : ℕ) × (r : ℕ) × (used : ℕ) × (e.act ≡ Report w r used)) ⊎ (e.act ≡ Close) → is_passing e.act ≡ true
is_passed e (inl x) = rw x.3 refl
is_passed e (inr act) = rw act refl

passed_steady : (a : Act) → is_passing a ≡ true → is_steady a ≡ true
passed_steady (Report worker request used) h = refl
passed_steady Close h = refl
passed_steady _ h = absurd (cc)

pub awaits_pass : (asked : List Asked) (e : Entry) (k : Reading) → AwaitsEntry asked e k → is_passing e.act ≡ true → Awaits TimesAre (Passes e.moment) k.times
awaits_pass asked e k a passing = record { config = a.config; history = a.history; entry = e; limits = a.keeps.limits; legal = a.comes.costs.legal; comes = record { moment_is = refl; passes = passing }; kept_is = a.keeps.times_are }

pub read_pass : (asked : List Asked) (e : Entry) (k n : Reading) → is_passing e.act ≡ true → Follows TimesAre (Passes e.moment) k.times n.times → SameRest k n → FollowsEntry asked e k n
read_pass asked e k n passing f same = λ C P may is. steady_keeps C P e k n (passed_steady e.act passing) may.costs (f C P e is.limits may.costs.legal (record { moment_is = refl; passes = passing }) is.times_are) same is

pub read_done : (asked : List Asked) (e : Entry) (k n : Reading) (w r cost : ℕ) (start_at : ℤ) → e.act ≡ Done w r cost → start_at ≡ charge_of k.accounts (asked_at asked r).tenant +ℤ base_of k.accounts (asked_at asked r).tenant → FollowsEnd k.policy e.moment (asked_at asked r).tenant start_at k.times n.times → SameRest k n → FollowsEntry asked e k n
read_done asked e k n w r cost start_at act tagged f same = λ C P may is.
    let known = known_tenant C P asked e may w r cost act in
    steady_keeps C P e k n (rw act refl) may.costs
    (f C P e is.policy_is is.limits may.costs.legal (completes_is C P asked e may w r cost act) (λ plus. tag_done C P asked e may w r cost (asked_at asked r).tenant k.accounts start_at act known is.accounts_are tagged) is.times_are) same is

pub read_weight : (asked : List Asked) (e : Entry) (k n : Reading) (t weight : ℕ) → e.act ≡ Weight t weight → Follows TimesAre (Reweighs e.moment t weight) k.times n.times → SameRest k n → FollowsEntry asked e k n
read_weight asked e k n t weight act f same = λ C P may is. steady_keeps C P e k n (rw act refl) may.costs (f C P e is.limits may.costs.legal (record { moment_is = refl; act_is = act }) is.times_are) same is

pub read_workers : (asked : List Asked) (e : Entry) (k n : Reading) (count : ℕ) → e.act ≡ Workers count → Follows TimesAre (Staffs e.moment count) k.times n.times → SameRest k n → FollowsEntry asked e k n
read_workers asked e k n count act f same = λ C P may is. steady_keeps C P e k n (rw act refl) may.costs (f C P e is.limits may.costs.legal (record { moment_is = refl; act_is = act }) is.times_are) same is

pub read_withdraw : (asked : List Asked) (e : Entry) (k n : Reading) (r : ℕ) → e.act ≡ Withdraw r → Follows Keeps (Withdraws e.moment (asked_at asked r).tenant) k n → FollowsEntry asked e k n
read_withdraw asked e k n r act f = λ C P may is. f C P e is.limits may.costs.legal (withdraws_is C P asked e may r act) is

-- ---- starts and their difference

pub start_idle : (C : Config) (P : History) (m t : ℕ) (p : Policy) → p ≡ C.policy → p ≡ Msf2q → start C P m t ≡ virtual_charge C P t + virtual_idle_time C P m t
unfolding start
start_idle C P m t p same is = rw (← same, is) refl

pub start_tag : (C : Config) (P : History) (m t : ℕ) (p : Policy) → p ≡ C.policy → (p ≡ Wfq) ⊎ ((p ≡ Wf2q) ⊎ ((p ≡ TwoDfq) ⊎ (p ≡ TwoDfqPlus))) → start C P m t ≡ tag C P t
unfolding start
start_tag C P m t p same (inl is) = rw (← same, is) refl
start_tag C P m t p same (inr (inl is)) = rw (← same, is) refl
start_tag C P m t p same (inr (inr (inl is))) = rw (← same, is) refl
start_tag C P m t p same (inr (inr (inr is))) = rw (← same, is) refl

head_none : (C : Config) (P : History) (k : Reading) (t : ℕ) → t < length C.weights → Keeps C P k → slice_index k.waiting.items t ≡ 0 → is_some (head P t) ≡ false
head_none C P k t known is none = rw (head_is_first C P t is.limits is.legal, no_first (queue P t) (omega (arith, none, is.waiting_are.each t known))) refl

head_some : (C : Config) (P : History) (k : Reading) (t : ℕ) → t < length C.weights → Keeps C P k → slice_index k.waiting.items t ≢ 0 → is_some (head P t) ≡ true
head_some C P k t known is some = let x = some_first (queue P t) (λ e. some (omega (arith, e, is.waiting_are.each t known))) in rw (head_is_first C P t is.limits is.legal, x.1) refl

pub apart_none : (C : Config) (P : History) (k : Reading) (f g : ℕ) → f < length C.weights → g < length C.weights → Keeps C P k → (slice_index k.waiting.items f ≡ 0) ⊎ (slice_index k.waiting.items g ≡ 0) → None ≡ difference_at C P f g
unfolding is_shared
apart_none C P k f g known_f known_g is (inl none) = rw (head_none C P k f known_f is none) refl
apart_none C P k f g known_f known_g is (inr none) = rw (head_none C P k g known_g is none) (neither (is_some (head P f)))
  where
    neither : (b : Bool) → None ≡ (if b && false then Some (start_difference C P f g) else None)
    neither true = refl
    neither false = refl

pub apart_some : (C : Config) (P : History) (k : Reading) (f g : ℕ) (z : ℤ) → f < length C.weights → g < length C.weights → Keeps C P k → slice_index k.waiting.items f ≢ 0 → slice_index k.waiting.items g ≢ 0 → z ≡ pos (start C P (last_moment P) f) -ℤ pos (start C P (last_moment P) g) → Some z ≡ difference_at C P f g
unfolding is_shared start_difference
apart_some C P k f g z known_f known_g is some_f some_g apart = rw (head_some C P k f known_f is some_f, head_some C P k g known_g is some_g) (ap Some apart)
