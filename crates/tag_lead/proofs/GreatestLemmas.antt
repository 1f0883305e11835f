-- The greatest length of a request, with one entry more.
use Rattle.std.proofs.Common.{ℕ, zero, suc, ◌+◌, ◌<◌, ◌≤◌, ◌≡◌, ◌≢◌, ◌∙◌, max, true, false, refl, sym, ap, arith, inl, inr, List, [], ◌∷◌, ◌++◌, get_or, take, add-one, length, Option, Some, None, length-append}
use Rattle.std.specs.Prelude.{is_some, slice_index, IfSome, unsigned_abs, ◌==◌, All}
use Rattle.std.proofs.lemmas.Bool.{cases_Bool, cases_eq, eq-eqb, eqb-true, ne_eqb, and_parts, or_cases, or_parts, or_from, false≢true}
use Rattle.std.proofs.lemmas.List.{get_or_append_left}
use Rattle.std.proofs.lemmas.List.Elements.{All-append}
use Rattle.std.proofs.Math.Seq.{get_or-append_seam, take-suc}
use Rattle.fq_model.specs.declared.config.Config.{Config}
use Rattle.fq_model.specs.declared.event.Act.{Act}
use Rattle.fq_model.specs.declared.event.Act.TheVariants.{Submit, Take, Report, Done, Weight, Withdraw}
use Rattle.fq_model.specs.declared.event.Entry.{Entry}
use Rattle.fq_model.specs.Charge.{is_taken_of, charged}
use Rattle.fq_model.specs.Ever.{head_at, longest_head, longest_request, longest_of_all}
use Rattle.fq_model.specs.History.{History, request_at, request_bound, is_of_tenant, is_taken, head, submits, Runs}
use Rattle.fq_model.specs.Keys.{HeadKeys, keys_at}
use Rattle.fq_model.specs.Lead.{head_length, length_of_head, longest_of}
use Rattle.fq_model.specs.Limits.{InLimits}
use Rattle.fq_model.specs.Rules.{IsLegal, Fits}
use Rattle.fq_model.specs.Sums.{max_below}
use Rattle.fq_model.specs.Time.{last_moment}
use Rattle.fq_laws.specs.Words.{one_more, concerns}
use Rattle.fq_laws.proofs.Charge.Limits.{charged_low}
use Rattle.fq_laws.proofs.History.Asked.{is_of_asked, waits_submitted}
use Rattle.fq_laws.proofs.History.Requests.{submitted_below, taken_submitted, worker_runs, runs_taken, tenant_below}
use Rattle.fq_laws.proofs.Keys.Others.{keys_unconcerned}
use Rattle.fq_laws.proofs.Rules.Limits.{submits_low}
use Rattle.fq_laws.proofs.Rules.Takes.{take_waits}
use Rattle.fq_laws.proofs.Sums.{max_covers, max_same, max_at, max_under}
use Rattle.gap_laws.proofs.Runs.{head_nil}
use Rattle.tag_lead.specs.declared.limits.TheConstants.{GREATEST_LENGTH}
use Rattle.tag_lead.specs.declared.spans.MeasuredLength.{MeasuredLength}
use Rattle.tag_lead.specs.Greatest.{TenantsAre, IsAmong, tenant_of_act, tenants_with, charge_length, is_among, longest_among, length_at, unread_at, unread_with, AreUnread, length_by}
use Rattle.tag_lead.proofs.LeadLemmas.{HeadIs, head_is, headless}
use Rattle.tag_lead.proofs.SpanLemmas.{longest_stays}
use Rattle.tag_lead.proofs.LengthLemmas.{Measures, MeasuresIf}

-- ---- the length of a head

none_length : (C : Config) (P : History) (t : ℕ) (o : Option ℕ) → is_some o ≡ false → 0 ≡ length_of_head C P t o
none_length C P t None h = refl
none_length C P t (Some r) h = absurd (false≢true (sym h))

-- its keys tell it
pub keyed_length : (C : Config) (P : History) (t : ℕ) (o : Option HeadKeys) → InLimits C → IsLegal C P → t < length C.weights → o ≡ keys_at C P (last_moment P) t → length_by o ≡ head_length C P t
keyed_length C P t None lim l known is = none_length C P t (head P t) (headless C P t (sym is))
keyed_length C P t (Some k) lim l known is = let x : HeadIs C P t k = head_is C P t k lim l known (sym is) in ap unsigned_abs x.length_is

-- an entry that does not concern the tenant leaves it
head_stays : (C : Config) (P : History) (e : Entry) (t : ℕ) → InLimits C → IsLegal C (e ∷ P) → t < length C.weights → concerns P t e.act ≡ false → head_length C (e ∷ P) t ≡ head_length C P t
head_stays C P e t lim l known off =
    sym (keyed_length C (e ∷ P) t (keys_at C (e ∷ P) (last_moment (e ∷ P)) t) lim l known refl)
    ∙ (ap length_by (keys_unconcerned C P e (last_moment (e ∷ P)) (last_moment P) t lim l off)
    ∙ keyed_length C P t (keys_at C P (last_moment P) t) lim l.0 known refl)

-- ---- heads and charges apart

max_of_both : (f g : ℕ → ℕ) (n : ℕ) → max_below (λ t. max (f t) (g t)) n ≡ max (max_below f n) (max_below g n)
unfolding max_below
max_of_both f g zero = refl
max_of_both f g (suc n) = omega (arith, max_of_both f g n)

-- the greatest length of a head of any tenant
abbrev pub all_heads : Config → History → ℕ
all_heads C P = max_below (longest_head C P) (length C.weights)

-- the greatest length of the charge of a request of tenant t, and of any
abbrev pub own_charges : Config → History → ℕ → ℕ
own_charges C P t = max_below (longest_of C P t) request_bound

abbrev pub all_charges : Config → History → ℕ
all_charges C P = max_below (own_charges C P) (length C.weights)

in_two : (C : Config) (P : History) → longest_of_all C P ≡ max 1 (max (all_heads C P) (all_charges C P))
unfolding longest_of_all longest_request
in_two C P = ap (max 1) (max_of_both (longest_head C P) (own_charges C P) (length C.weights))

-- ---- the tenant that an entry concerns

-- it concerns no tenant but one, if that
pub record Concerned (C : Config) (P : History) (a : Act) (o : Option ℕ) : Type 0 where
  pub known : IfSome o (λ u. u < length C.weights)
  pub others : (t : ℕ) → o ≢ Some t → concerns P t a ≡ false

submitted_for : (C : Config) (P : History) (a : Act) (u : ℕ) → u < length C.weights → ((t : ℕ) → u ≢ t → concerns P t a ≡ false) → Concerned C P a (Some u)
submitted_for C P a u known others = record { known = known; others = λ t ne. others t (λ e. ne (ap (λ (v : ℕ). Some v) e)) }

not_own : (P : History) (r u t : ℕ) → is_of_tenant u (request_at P r) ≡ true → u ≢ t → is_of_tenant t (request_at P r) ≡ false
not_own P r u t own ne = let x = is_of_asked u (request_at P r) own in rw x.1 (ne_eqb x.0.tenant t (λ e. ne (sym x.2 ∙ e)))

-- the tenant of a request that is there
pub own_tenant : (C : Config) (P : History) (xs : List ℕ) (a : Act) (r : ℕ) → IsLegal C P → TenantsAre P xs → r < submits P → ((t : ℕ) → concerns P t a ≡ is_of_tenant t (request_at P r)) → Concerned C P a (Some (slice_index xs r))
own_tenant C P xs a r l are there is =
    let own = are.each r there in
    submitted_for C P a (slice_index xs r) (tenant_below C P (slice_index xs r) r l own) (λ t ne. is t ∙ not_own P r (slice_index xs r) t own ne)

uses_there : (C : Config) (P : History) (w r : ℕ) → IsLegal C P → Runs P w r → r < submits P
uses_there C P w r l runs = submitted_below C P r l (taken_submitted C P r l (runs_taken P r (worker_runs P w r runs)))

there_at : (C : Config) (P : History) (m : ℕ) (a : Act) (n : ℕ) → n ≡ submits P → IsLegal C P → Fits C P m a → IsAmong n a
there_at C P m (Take worker request estimate) n is l f = omega (arith, is, submitted_below C P request l (waits_submitted P request (take_waits C P m worker request estimate f)))
there_at C P m (Report worker request used) n is l f = omega (arith, is, uses_there C P worker request l f.0.runs)
there_at C P m (Done worker request cost) n is l f = omega (arith, is, uses_there C P worker request l f.runs)
there_at C P m (Withdraw request) n is l f = omega (arith, is, submitted_below C P request l (waits_submitted P request f))
there_at C P m _ n is l f = tt

-- the request of an entry is one of those that are submitted
pub among : (C : Config) (P : History) (e : Entry) (xs : List ℕ) → IsLegal C (e ∷ P) → TenantsAre P xs → IsAmong (length xs) e.act
among C P e xs l are = there_at C P e.moment e.act (length xs) are.sized l.0 l.3

concerned_at : (C : Config) (P : History) (m : ℕ) (a : Act) (xs : List ℕ) → IsLegal C P → Fits C P m a → TenantsAre P xs → IsAmong (submits P) a → Concerned C P a (tenant_of_act xs a)
concerned_at C P m (Submit request tenant kind declared label) xs l f are there = submitted_for C P _ tenant f.tenant_known (λ t ne. ne_eqb tenant t ne)
concerned_at C P m (Take worker request estimate) xs l f are there = own_tenant C P xs _ request l are there (λ t. refl)
concerned_at C P m (Report worker request used) xs l f are there = own_tenant C P xs _ request l are there (λ t. refl)
concerned_at C P m (Done worker request cost) xs l f are there = own_tenant C P xs _ request l are there (λ t. refl)
concerned_at C P m (Weight tenant weight) xs l f are there = submitted_for C P _ tenant f.tenant_known (λ t ne. ne_eqb tenant t ne)
concerned_at C P m (Withdraw request) xs l f are there = own_tenant C P xs _ request l are there (λ t. refl)
concerned_at C P m _ xs l f are there = record { known = tt; others = λ t ne. refl }

concerned : (C : Config) (P : History) (e : Entry) (xs : List ℕ) → IsLegal C (e ∷ P) → TenantsAre P xs → Concerned C P e.act (tenant_of_act xs e.act)
concerned C P e xs l are = concerned_at C P e.moment e.act xs l.0 l.3 are (there_at C P e.moment e.act (submits P) refl l.0 l.3)

pub tenant_known : (C : Config) (P : History) (e : Entry) (xs : List ℕ) → IsLegal C (e ∷ P) → TenantsAre P xs → IfSome (tenant_of_act xs e.act) (λ u. u < length C.weights)
tenant_known C P e xs l are = (concerned C P e xs l are).known

-- ---- the heads that are read where a request is taken

-- the greatest length of a head of all tenants
abbrev heads_now : Config → History → ℕ
heads_now C P = max_below (head_length C P) (length C.weights)

among_low : (C : Config) (P : History) (ts : List ℕ) → All (λ t. t < length C.weights) ts → longest_among C P ts ≤ heads_now C P
among_low C P [] known = omega arith
among_low C P (t ∷ ts) known =
    let own : t < length C.weights = known 0 t (omega arith) in
    omega (arith, max_covers (head_length C P) t (length C.weights) own, among_low C P ts (λ k d low. known (suc k) d (omega (arith, low))))

among_high : (C : Config) (P : History) (ts : List ℕ) (t : ℕ) → is_among ts t ≡ true → head_length C P t ≤ longest_among C P ts
among_high C P [] t h = absurd (false≢true h)
among_high C P (u ∷ ts) t h = elim (or_cases _ _ h) [
  | inl own ↦ let same : head_length C P u ≡ head_length C P t = ap (head_length C P) (eqb-true u t own) in omega (arith, same)
  | inr later ↦ omega (arith, among_high C P ts t later)
]

among_append : (C : Config) (P : History) (ts : List ℕ) (t : ℕ) → longest_among C P (ts ++ t ∷ []) ≡ max (longest_among C P ts) (head_length C P t)
among_append C P [] t = omega arith
among_append C P (u ∷ ts) t = omega (arith, among_append C P ts t)

-- with the next one of them
pub among_next : (C : Config) (P : History) (ts : List ℕ) (i d : ℕ) → i < length ts → longest_among C P (take (i + 1) ts) ≡ max (longest_among C P (take i ts)) (head_length C P (get_or ts i d))
among_next C P ts i d low = ap (longest_among C P) (rw add-one (take-suc ts i d low)) ∙ among_append C P (take i ts) (get_or ts i d)

-- with those that are not read all heads are
heads_low : (C : Config) (P : History) (ts : List ℕ) (len : ℕ) → AreUnread C P ts len → heads_now C P ≤ max len (longest_among C P ts)
heads_low C P ts len x = max_under (head_length C P) (length C.weights) (max len (longest_among C P ts)) (λ t known. elim (cases_Bool (is_among ts t)) [
  | inl among ↦ omega (arith, among_high C P ts t among)
  | inr other ↦ omega (arith, x.others t known other)
])

-- what the act adds to the greatest length is what it adds to the heads that count
abbrev Adds : Config → History → ℕ → ℕ → Act → List ℕ → ℕ → Type 0
Adds C P who m a ts len = (more : ℕ) × (length_at C P a ts len ≡ max len more) × (all_heads C (one_more who m a P) ≡ max more (all_heads C P))

heads_on : (C : Config) (P : History) (who m : ℕ) (a : Act) (ts : List ℕ) (len : ℕ) → AreUnread C P ts len → Adds C P who m a ts len
unfolding longest_head
heads_on C P who m (Take worker request estimate) ts len x = (
  heads_now C P,
  omega (arith, heads_low C P ts len x, among_low C P ts x.known),
  max_of_both (head_length C P) (longest_head C P) (length C.weights),
)
heads_on C P who m a ts len x = (0, omega arith, max_of_both (λ t. 0) (longest_head C P) (length C.weights) ∙ ap (λ n. max n (all_heads C P)) (no_heads (length C.weights)))
  where
    no_heads : (n : ℕ) → max_below (λ t. 0) n ≡ 0
    no_heads n = omega (arith, max_under (λ t. 0) n 0 (λ r b. omega arith))

-- ---- the tenants whose heads are not read

nothing_waits : (C : Config) (t : ℕ) → head_length C [] t ≡ 0
nothing_waits C t = ap (length_of_head C [] t) (head_nil t)

among_more : (ts : List ℕ) (u t : ℕ) → is_among (ts ++ u ∷ []) t ≡ false → (is_among ts t ≡ false) × (u ≢ t)
among_more [] u t h = (refl, λ e. false≢true (sym (or_parts (u == t) false h).0 ∙ eq-eqb u t e))
among_more (v ∷ ts) u t h =
    let parts = or_parts (v == t) (is_among (ts ++ u ∷ []) t) h in
    let later = among_more ts u t parts.1 in
    (or_from (v == t) (is_among ts t) parts.0 later.0, later.1)

known_at : (C : Config) (P : History) (a : Act) (ts : List ℕ) (len : ℕ) → AreUnread C P ts len → All (λ t. t < length C.weights) (unread_at a ts)
known_at C P (Take worker request estimate) ts len x = λ k d low. absurd (omega (arith, low))
known_at C P a ts len x = x.known

others_at : (C : Config) (P : History) (a : Act) (ts : List ℕ) (len t : ℕ) → AreUnread C P ts len → t < length C.weights → is_among (unread_at a ts) t ≡ false → head_length C P t ≤ length_at C P a ts len
others_at C P (Take worker request estimate) ts len t x known h = omega (arith, heads_low C P ts len x, max_covers (head_length C P) t (length C.weights) known)
others_at C P a ts len t x known h = x.others t known h

with_own : (C : Config) (P : History) (e : Entry) (ts : List ℕ) (o : Option ℕ) (len high : ℕ) → InLimits C → IsLegal C (e ∷ P) → Concerned C P e.act o → AreUnread C P ts len → length_at C P e.act ts len ≤ high → AreUnread C (e ∷ P) (unread_with (unread_at e.act ts) o) high
with_own C P e ts None len high lim l c x h = record {
  known = known_at C P e.act ts len x;
  others = λ t known other.
      let same : head_length C (e ∷ P) t ≡ head_length C P t = head_stays C P e t lim l known (c.others t (λ (is : None ≡ Some t). absurd (cc))) in
      omega (arith, h, same, others_at C P e.act ts len t x known other);
}
with_own C P e ts (Some u) len high lim l c x h = record {
  known = All-append (λ t. t < length C.weights) (unread_at e.act ts) (u ∷ []) (known_at C P e.act ts len x) (λ k d low. only u k d low c.known);
  others = λ t known other.
      let apart = among_more (unread_at e.act ts) u t other in
      let same : head_length C (e ∷ P) t ≡ head_length C P t = head_stays C P e t lim l known (c.others t (λ (is : Some u ≡ Some t). let own : u ≡ t = cc in apart.1 own)) in
      omega (arith, h, same, others_at C P e.act ts len t x known apart.0);
}
  where
    only : (u k d : ℕ) → k < length (u ∷ []) → u < length C.weights → get_or (u ∷ []) k d < length C.weights
    only u k d low known = let first : k ≡ 0 = omega (arith, low) in rw first known

pub unread_on : (C : Config) (P : History) (e : Entry) (xs ts : List ℕ) (len high : ℕ) → InLimits C → IsLegal C (e ∷ P) → TenantsAre P xs → AreUnread C P ts len → length_at C P e.act ts len ≤ high → AreUnread C (e ∷ P) (unread_with (unread_at e.act ts) (tenant_of_act xs e.act)) high
unread_on C P e xs ts len high lim l are x h = with_own C P e ts (tenant_of_act xs e.act) len high lim l (concerned C P e xs l are) x h

pub unread_nil : (C : Config) (ts : List ℕ) (len : ℕ) → ts ≡ [] → AreUnread C [] ts len
unread_nil C ts len is = rw is (record { known = λ k d low. absurd (omega (arith, low)); others = λ t known h. omega (arith, nothing_waits C t) })

-- they are one more at most
pub unread_fewer : (a : Act) (ts : List ℕ) → length (unread_at a ts) ≤ length ts
unread_fewer (Take worker request estimate) ts = omega arith
unread_fewer a ts = omega arith

with_own_more : (ts : List ℕ) (o : Option ℕ) → length (unread_with ts o) ≤ length ts + 1
with_own_more ts None = omega arith
with_own_more ts (Some t) = omega (arith, length-append ts (t ∷ []))

pub unread_more : (a : Act) (ts : List ℕ) (o : Option ℕ) → length (unread_with (unread_at a ts) o) ≤ length ts + 1
unread_more a ts o = omega (arith, with_own_more (unread_at a ts) o, unread_fewer a ts)

-- ---- the charges

charges_same : (C : Config) (P : History) (e : Entry) (t : ℕ) → ((r : ℕ) → charged C (e ∷ P) t r ≡ charged C P t r) → own_charges C (e ∷ P) t ≡ own_charges C P t
charges_same C P e t same = max_same (longest_of C (e ∷ P) t) (longest_of C P t) request_bound (λ r b. longest_stays C P e t r (same r))

number_low : (C : Config) (P : History) (r : ℕ) → InLimits C → IsLegal C P → is_taken P r ≡ true → r < request_bound
unfolding request_bound
number_low C P r lim l taken = omega (arith, submitted_below C P r l (taken_submitted C P r l taken), (submits_low C P lim l).1)

raises : (C : Config) (P : History) (e : Entry) (t r len : ℕ) → charged C (e ∷ P) t r ≡ len → longest_of C (e ∷ P) t r ≡ max len (longest_of C P t r)
unfolding longest_of
raises C P e t r len now = omega (arith, now)

module _ (C : Config) (P : History) (e : Entry) (x : MeasuredLength) (lim : InLimits C) (l : IsLegal C (e ∷ P)) (measures : Measures C P (e ∷ P) x) where
  -- a request of another tenant is charged as before
  foreign : (t : ℕ) → t ≢ x.tenant → (r : ℕ) → charged C (e ∷ P) t r ≡ charged C P t r
  foreign t ne r = elim (cases_eq r x.request) [
    | inr other ↦ measures.others t r other
    | inl own ↦ rw own (measures.foreign t ne)
  ]

  own_raised : own_charges C (e ∷ P) x.tenant ≡ max x.len (own_charges C P x.tenant)
  unfolding is_taken_of
  own_raised =
      max_at (longest_of C P x.tenant) (longest_of C (e ∷ P) x.tenant) x.request x.len request_bound
      (number_low C (e ∷ P) x.request lim l (and_parts _ _ measures.taken).1)
      (raises C P e x.tenant x.request x.len measures.own)
      (λ r b ne. longest_stays C P e x.tenant r (measures.others x.tenant r ne))

  all_raised : all_charges C (e ∷ P) ≡ max x.len (all_charges C P)
  unfolding is_taken_of
  all_raised =
      max_at (own_charges C P) (own_charges C (e ∷ P)) x.tenant x.len (length C.weights)
      (tenant_below C (e ∷ P) x.tenant x.request l (and_parts _ _ measures.taken).0)
      own_raised
      (λ t known ne. charges_same C P e t (foreign t ne))

charges_on : (C : Config) (P : History) (e : Entry) (o : Option MeasuredLength) → InLimits C → IsLegal C (e ∷ P) → MeasuresIf C P (e ∷ P) o → all_charges C (e ∷ P) ≡ max (charge_length o) (all_charges C P)
charges_on C P e None lim l measures =
    let same : all_charges C (e ∷ P) ≡ all_charges C P = max_same (own_charges C (e ∷ P)) (own_charges C P) (length C.weights) (λ t known. charges_same C P e t (measures t)) in
    omega (arith, same)
charges_on C P e (Some x) lim l measures = all_raised C P e x lim l measures

-- ---- both

pub greatest_on : (C : Config) (P : History) (e : Entry) (ts : List ℕ) (o : Option MeasuredLength) (before : ℕ) → InLimits C → IsLegal C (e ∷ P) → AreUnread C P ts before → MeasuresIf C P (e ∷ P) o → before ≡ longest_of_all C P → max (length_at C P e.act ts before) (charge_length o) ≡ longest_of_all C (e ∷ P)
greatest_on C P e ts o before lim l unread measures is =
    let heads = heads_on C P e.who e.moment e.act ts before unread in
    omega (arith, is, in_two C P, in_two C (e ∷ P), charges_on C P e o lim l measures, heads.1, heads.2)

pub greatest_nil : (C : Config) → 1 ≡ longest_of_all C []
unfolding longest_of_all longest_request longest_head longest_of
greatest_nil C =
    let none : max_below (longest_request C []) (length C.weights) ≤ 0 = max_under (longest_request C []) (length C.weights) 0
    (λ t known. omega (arith, max_under (longest_of C [] t) request_bound 0 (λ r b. omega arith))) in
    omega arith

-- ---- the tenants

pub tenants_nil : (xs : List ℕ) → xs ≡ [] → TenantsAre [] xs
tenants_nil xs is = rw is (record { sized = refl; each = λ r b. absurd (omega arith) })

tenants_at : (C : Config) (P : History) (who m : ℕ) (a : Act) (xs : List ℕ) → Fits C P m a → TenantsAre P xs → TenantsAre (record { who = who; moment = m; act = a } ∷ P) (tenants_with xs a)
tenants_at C P who m (Submit request tenant kind declared label) xs f are = record {
  sized = omega (arith, length-append xs (tenant ∷ []), are.sized);
  each = λ r b. elim (cases_eq request r) [
    | inl own ↦
        let last : slice_index (xs ++ tenant ∷ []) r ≡ tenant = ap (slice_index (xs ++ tenant ∷ [])) (omega (arith, own, f.numbered, are.sized)) ∙ get_or-append_seam xs tenant [] 0 in
        rw (eq-eqb request r own, last) (eq-eqb tenant tenant refl)
    | inr other ↦
        let low : r < length xs = omega (arith, b, other, f.numbered, are.sized) in
        let same : slice_index (xs ++ tenant ∷ []) r ≡ slice_index xs r = get_or_append_left xs (tenant ∷ []) 0 r low in
        rw (ne_eqb request r other, same) (are.each r (omega (arith, low, are.sized)))
  ];
}
tenants_at C P who m a xs f are = record { sized = are.sized; each = are.each }

pub tenants_on : (C : Config) (P : History) (e : Entry) (xs : List ℕ) → IsLegal C (e ∷ P) → TenantsAre P xs → TenantsAre (e ∷ P) (tenants_with xs e.act)
tenants_on C P e xs l are = tenants_at C P e.who e.moment e.act xs l.3 are

-- ---- limits

head_short : (C : Config) (P : History) (t : ℕ) → InLimits C → IsLegal C P → t < length C.weights → head_length C P t ≤ GREATEST_LENGTH
head_short C P t lim l known = go (keys_at C P (last_moment P) t) refl
  where
    go : (o : Option HeadKeys) → keys_at C P (last_moment P) t ≡ o → head_length C P t ≤ GREATEST_LENGTH
    go None is = omega (arith, keyed_length C P t None lim l known (sym is))
    go (Some k) is = (head_is C P t k lim l known is).length_short

heads_short : (C : Config) (P : History) (t : ℕ) → InLimits C → IsLegal C P → t < length C.weights → longest_head C P t ≤ GREATEST_LENGTH
unfolding longest_head
heads_short C [] t lim l known = omega arith
heads_short C (e ∷ P) t lim l known = omega (arith, counted_short e.act, heads_short C P t lim l.0 known)
  where
    counted_short : (a : Act) → head_at C P t a ≤ GREATEST_LENGTH
    counted_short (Take worker request estimate) = head_short C P t lim l.0 known
    counted_short a = omega arith

charges_short : (C : Config) (P : History) (t r : ℕ) → InLimits C → IsLegal C P → longest_of C P t r ≤ GREATEST_LENGTH
unfolding longest_of
charges_short C [] t r lim l = omega arith
charges_short C (e ∷ P) t r lim l = omega (arith, charged_low C (e ∷ P) t r lim l, charges_short C P t r lim l.0)

pub longest_short : (C : Config) (P : History) → InLimits C → IsLegal C P → longest_of_all C P ≤ GREATEST_LENGTH
unfolding longest_of_all longest_request
longest_short C P lim l =
    let each : max_below (longest_request C P) (length C.weights) ≤ GREATEST_LENGTH = max_under (longest_request C P) (length C.weights) GREATEST_LENGTH
    (λ t known. omega (arith, heads_short C P t lim l known, max_under (longest_of C P t) request_bound GREATEST_LENGTH (λ r b. charges_short C P t r lim l))) in
    omega arith
