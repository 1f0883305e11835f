-- The waiting requests of a tenant in order.
use Rattle.std.proofs.Common.{ℕ, ◌≡◌, true, List, inl, inr, ◌⊎◌, [], ◌∷◌, ◌++◌, refl, ◌<◌, arith, sym, ◌∙◌, false, ◌==◌, Bool, cond, drop, filter, not, Some, ◌^◌, ◌≢◌}
use Rattle.std.proofs.lemmas.Bool.{and_left, cases_eq, both_ways, false≢true, false_from_ne_true, cond_both, eq-eqb, ne_eqb}
use Rattle.fq_model.specs.History.{History, waits_for, WaitsFor, submits, request_at, is_of_tenant, queue, is_removed, queue_after, head, request_bound}
use Rattle.fq_model.specs.declared.config.Config.{Config}
use Rattle.fq_model.specs.Rules.{IsLegal, FitsTake, Fits}
use Rattle.fq_model.specs.declared.event.Act.TheVariants.{Submit, Take, Withdraw}
use Rattle.fq_model.specs.declared.event.Act.{Act}
use Rattle.fq_model.specs.Limits.{InLimits}
use Rattle.fq_model.specs.Sums.{first_of}
use Rattle.fq_model.specs.declared.event.Entry.{Entry}
use Rattle.fq_laws.specs.Words.{Member, Ascends, one_more, first}
use Rattle.fq_laws.specs.Laws.{IsQueue}
use Rattle.fq_laws.proofs.History.Heads.{waits_below, waits_submit_same, waits_submit_new, waits_fresh, waits_take_same, waits_take_gone, waits_withdraw_same, waits_withdraw_gone, waits_small}
use Rattle.fq_laws.proofs.Rules.Takes.{Heads, take_head}
use Rattle.fq_laws.proofs.History.Asked.{is_of_asked}
use Rattle.fq_laws.proofs.Sums.{IsLeast, least_by}

-- xs are the waiting requests of t in order
pub record Queued (P : History) (t : ℕ) (xs : List ℕ) : Type 0 where
  pub ascends : Ascends xs
  pub only : (r : ℕ) → Member r xs → waits_for P t r ≡ true
  pub every : (r : ℕ) → waits_for P t r ≡ true → Member r xs

member_end : (r q : ℕ) (xs : List ℕ) → Member r (xs ++ q ∷ []) → Member r xs ⊎ (r ≡ q)
member_end r q [] (inl e) = inr e
member_end r q [] (inr e) = absurd e
member_end r q (x ∷ xs) (inl e) = inl (inl e)
member_end r q (x ∷ xs) (inr h) = elim (member_end r q xs h) [ inl k ↦ inl (inr k) | inr k ↦ inr k ]

member_front : (r q : ℕ) (xs : List ℕ) → Member r xs → Member r (xs ++ q ∷ [])
member_front r q [] h = absurd h
member_front r q (x ∷ xs) (inl e) = inl e
member_front r q (x ∷ xs) (inr h) = inr (member_front r q xs h)

member_last : (q : ℕ) (xs : List ℕ) → Member q (xs ++ q ∷ [])
member_last q [] = inl refl
member_last q (x ∷ xs) = inr (member_last q xs)

ascends_end : (q : ℕ) (xs : List ℕ) → ((s : ℕ) → Member s xs → s < q) → Ascends xs → Ascends (xs ++ q ∷ [])
ascends_end q [] below a = (λ s h. absurd h, tt)
ascends_end q (x ∷ xs) below a = (
  λ s h. elim (member_end s q xs h) [ inl k ↦ a.0 s k | inr e ↦ (let b : x < q = below x (inl refl) in omega arith) ],
  ascends_end q xs (λ s h. below s (inr h)) a.1,
)

pub queued_same : (P Q : History) (t : ℕ) (xs : List ℕ) → ((r : ℕ) → waits_for Q t r ≡ waits_for P t r) → Queued P t xs → Queued Q t xs
queued_same P Q t xs same h = record { ascends = h.ascends; only = λ r k. same r ∙ h.only r k; every = λ r w. h.every r (sym (same r) ∙ w) }

waits_older : (C : Config) (P : History) (t q s : ℕ) → IsLegal C P → q ≡ submits P → WaitsFor P t s → s < q
waits_older C P t q s l n w = omega (arith, waits_below C P t s l w)

waits_not_of : (P : History) (t q : ℕ) → is_of_tenant t (request_at P q) ≡ false → waits_for P t q ≡ false
unfolding waits_for
waits_not_of P t q h = and_left _ _ h

queued_submit : (C : Config) (P : History) (who m t q u kind declared label : ℕ) (b : Bool) → (u == t) ≡ b → IsLegal C P → q ≡ submits P → Queued P t (queue P t) → Queued (one_more who m (Submit q u kind declared label) P) t (cond b (queue P t ++ q ∷ []) (queue P t))
queued_submit C P who m t q u kind declared label true e l n h = record {
  ascends = ascends_end q (queue P t) (λ s k. waits_older C P t q s l n (h.only s k)) h.ascends;
  only = λ r k. elim (member_end r q (queue P t) k) [
    | inl x ↦ (let b : r < q = waits_older C P t q r l n (h.only r x) in waits_submit_same P who m t r q u kind declared label (λ o. omega (arith, o)) ∙ h.only r x)
    | inr x ↦ rw x (waits_submit_new C P who m t q u kind declared label l n ∙ e)
  ];
  every = λ r w. elim (cases_eq q r) [
    | inl x ↦ rw (← x) (member_last q (queue P t))
    | inr ne ↦ member_front r q (queue P t) (h.every r (sym (waits_submit_same P who m t r q u kind declared label ne) ∙ w))
  ];
}
queued_submit C P who m t q u kind declared label false e l n h = queued_same P (one_more who m (Submit q u kind declared label) P) t (queue P t) (λ r. elim (cases_eq q r) [
  | inl x ↦ rw (← x) (waits_submit_new C P who m t q u kind declared label l n ∙ (e ∙ sym (waits_fresh C P t q l (omega arith))))
  | inr ne ↦ waits_submit_same P who m t r q u kind declared label ne
]) h

-- the first of the waiting requests is the least
first_is : (P : History) (t q : ℕ) (xs : List ℕ) → Heads P t q → Queued P t xs → (ys : List ℕ) × (xs ≡ q ∷ ys)
first_is P t q [] x h = absurd (h.every q x.waits_now)
first_is P t q (y ∷ ys) x h = elim (h.every q x.waits_now) [
  | inl e ↦ (ys, rw e refl)
  | inr k ↦ (let b : y < q = h.ascends.0 q k in absurd (both_ways _ (x.least y b) (h.only y (inl refl))))
]

queued_first : (P : History) (who m t w q estimate : ℕ) (ys : List ℕ) → Queued P t (q ∷ ys) → Queued (one_more who m (Take w q estimate) P) t ys
queued_first P who m t w q estimate ys h = record {
  ascends = h.ascends.1;
  only = λ r k. let b : q < r = h.ascends.0 r k in waits_take_same P who m t r w q estimate (λ o. omega (arith, o)) ∙ h.only r (inr k);
  every = λ r x. elim (cases_eq q r) [
    | inl e ↦ absurd (both_ways _ (waits_take_gone P who m t w q estimate) (rw (← e) at x))
    | inr ne ↦ elim (h.every r (sym (waits_take_same P who m t r w q estimate ne) ∙ x)) [ inl e ↦ absurd (ne (sym e)) | inr k ↦ k ]
  ];
}

pub drop_one : (q : ℕ) (ys : List ℕ) → drop 1 (q ∷ ys) ≡ ys
drop_one q ys = refl

queued_take : (C : Config) (P : History) (who m t w q estimate : ℕ) (b : Bool) → is_of_tenant t (request_at P q) ≡ b → FitsTake C P m w q estimate → Queued P t (queue P t) → Queued (one_more who m (Take w q estimate) P) t (cond b (drop 1 (queue P t)) (queue P t))
queued_take C P who m t w q estimate true e f h =
    let x = take_head C P m w q estimate f in
    let o = is_of_asked t (request_at P q) e in
    let same : x.what.tenant ≡ t = (let k : Some x.what ≡ Some o.0 = sym x.was_asked ∙ o.1 in cc) in
    let y : Heads P t q = rw same at x.heads_it in
    let z = first_is P t q (queue P t) y h in
    rw (z.1, drop_one q z.0) (queued_first P who m t w q estimate z.0 (rw z.1 at h))
queued_take C P who m t w q estimate false e f h = queued_same P (one_more who m (Take w q estimate) P) t (queue P t) (λ r. elim (cases_eq q r) [
  | inl x ↦ rw (← x) (waits_take_gone P who m t w q estimate ∙ sym (waits_not_of P t q e))
  | inr ne ↦ waits_take_same P who m t r w q estimate ne
]) h

-- ---- without one request

-- the numbers but for q
abbrev pub but : ℕ → List ℕ → List ℕ
but q xs = filter (λ r. not (r == q)) xs

but_member : (q r : ℕ) (xs : List ℕ) → Member r (but q xs) → Member r xs × (q ≢ r)
but_member q r [] h = absurd h
but_member q r (x ∷ xs) h = elim (cases_eq x q) [
  | inl e ↦ (let k : Member r (but q xs) = rw (eq-eqb x q e) at h in let m = but_member q r xs k in (inr m.0, m.1))
  | inr ne ↦ elim (kept ne) [ inl e ↦ (inl e, λ same. ne (sym (same ∙ e))) | inr k ↦ (let m = but_member q r xs k in (inr m.0, m.1)) ]
]
  where
    kept : x ≢ q → (r ≡ x) ⊎ Member r (but q xs)
    kept ne = rw (ne_eqb x q ne) at h

member_but : (q r : ℕ) (xs : List ℕ) → q ≢ r → Member r xs → Member r (but q xs)
member_but q r [] ne h = absurd h
member_but q r (x ∷ xs) ne (inl e) = rw (ne_eqb x q (λ same. ne (sym (e ∙ same)))) (inl e)
member_but q r (x ∷ xs) ne (inr h) = elim (cases_eq x q) [
  | inl e ↦ rw (eq-eqb x q e) (member_but q r xs ne h)
  | inr other ↦ rw (ne_eqb x q other) (inr (member_but q r xs ne h))
]

ascends_but : (q : ℕ) (xs : List ℕ) → Ascends xs → Ascends (but q xs)
ascends_but q [] a = tt
ascends_but q (x ∷ xs) a = elim (cases_eq x q) [
  | inl e ↦ rw (eq-eqb x q e) (ascends_but q xs a.1)
  | inr ne ↦ rw (ne_eqb x q ne) (λ s h. a.0 s (but_member q s xs h).0, ascends_but q xs a.1)
]

-- where q is not in the list, all numbers stay
pub but_none : (q : ℕ) (xs : List ℕ) → ((r : ℕ) → Member r xs → q ≢ r) → but q xs ≡ xs
but_none q [] off = refl
but_none q (x ∷ xs) off = rw (ne_eqb x q (λ e. off x (inl refl) (sym e)), but_none q xs (λ r h. off r (inr h))) refl

-- and where q is in an ascending list, it alone is gone
pub but_middle : (q : ℕ) (front rest : List ℕ) → Ascends (front ++ q ∷ rest) → but q (front ++ q ∷ rest) ≡ front ++ rest
but_middle q [] rest a = rw (eq-eqb q q refl) (but_none q rest (λ r h e. let b : q < r = a.0 r h in omega (arith, e)))
but_middle q (x ∷ front) rest a =
    let below : x < q = a.0 q (middle q front rest) in
    rw (ne_eqb x q (λ e. omega (arith, e)), but_middle q front rest a.1) refl
  where
    middle : (q : ℕ) (front rest : List ℕ) → Member q (front ++ q ∷ rest)
    middle q [] rest = inl refl
    middle q (y ∷ front) rest = inr (middle q front rest)

queued_withdraw : (P : History) (who m t q : ℕ) (b : Bool) → is_of_tenant t (request_at P q) ≡ b → Queued P t (queue P t) → Queued (one_more who m (Withdraw q) P) t (cond b (but q (queue P t)) (queue P t))
queued_withdraw P who m t q true e h = record {
  ascends = ascends_but q (queue P t) h.ascends;
  only = λ r k. let x = but_member q r (queue P t) k in waits_withdraw_same P who m t r q x.1 ∙ h.only r x.0;
  every = λ r w. elim (cases_eq q r) [
    | inl x ↦ absurd (both_ways _ (waits_withdraw_gone P who m t q) (rw (← x) at w))
    | inr ne ↦ member_but q r (queue P t) ne (h.every r (sym (waits_withdraw_same P who m t r q ne) ∙ w))
  ];
}
queued_withdraw P who m t q false e h = queued_same P (one_more who m (Withdraw q) P) t (queue P t) (λ r. elim (cases_eq q r) [
  | inl x ↦ rw (← x) (waits_withdraw_gone P who m t q ∙ sym (waits_not_of P t q e))
  | inr ne ↦ waits_withdraw_same P who m t r q ne
]) h

queued_at : (C : Config) (P : History) (who m t : ℕ) (a : Act) → IsLegal C P → Fits C P m a → Queued P t (queue P t) → Queued (one_more who m a P) t (queue_after P t a (queue P t))
unfolding waits_for is_removed
queued_at C P who m t (Submit request tenant kind declared label) l f h = queued_submit C P who m t request tenant kind declared label (tenant == t) refl l f.numbered h
queued_at C P who m t (Take worker request estimate) l f h = queued_take C P who m t worker request estimate (is_of_tenant t (request_at P request)) refl f h
queued_at C P who m t (Withdraw request) l f h = queued_withdraw P who m t request (is_of_tenant t (request_at P request)) refl h
queued_at C P who m t a l f h = queued_same P (one_more who m a P) t (queue P t) (λ r. refl) h

-- `queue` is the waiting requests in order
pub queue_is : (C : Config) (P : History) (t : ℕ) → IsLegal C P → Queued P t (queue P t)
unfolding waits_for
queue_is C [] t l = record { ascends = tt; only = λ r h. absurd h; every = λ r h. absurd (false≢true h) }
queue_is C (e ∷ P) t l = queued_at C P e.who e.moment t e.act l.0 l.3 (queue_is C P t l.0)

first_least : (C : Config) (P : History) (t : ℕ) (xs : List ℕ) → InLimits C → IsLegal C P → Queued P t xs → IsLeast (waits_for P t) (2 ^ 32) (first xs)
first_least C P t [] lim l h = λ s b. false_from_ne_true _ (λ w. h.every s w)
first_least C P t (x ∷ xs) lim l h = (
  h.only x (inl refl),
  waits_small C P t x lim l (h.only x (inl refl)),
  λ s b. false_from_ne_true _ (λ w. elim (h.every s w) [ inl e ↦ omega (arith, e) | inr k ↦ (let c : x < s = h.ascends.0 s k in omega arith) ]),
)

-- the head is the first of the queue
pub head_is_first : (C : Config) (P : History) (t : ℕ) → InLimits C → IsLegal C P → head P t ≡ first (queue P t)
unfolding head request_bound
head_is_first C P t lim l = least_by (waits_for P t) (2 ^ 32) (first (queue P t)) (first_least C P t (queue P t) lim l (queue_is C P t l))

pub queue_law : (C : Config) (P : History) (t : ℕ) → InLimits C → IsLegal C P → IsQueue P t (queue P t)
queue_law C P t lim l =
    let q : Queued P t (queue P t) = queue_is C P t l in
    record { ascends = q.ascends; waits = λ r. (q.only r, q.every r); head_first = head_is_first C P t lim l }

pub first_end : (xs : List ℕ) (q : ℕ) → first (xs ++ q ∷ []) ≡ first_of (first xs) (Some q)
first_end [] q = refl
first_end (x ∷ xs) q = refl

-- the head at one entry more
pub head_after : (C : Config) (P : History) (e : Entry) (t : ℕ) → InLimits C → IsLegal C (e ∷ P) → head (e ∷ P) t ≡ first (queue_after P t e.act (queue P t))
head_after C P e t lim l = head_is_first C (e ∷ P) t lim l

-- a Submit gives its tenant a head where it had none
pub head_submit : (C : Config) (P : History) (who m t q u kind declared label : ℕ) → InLimits C → IsLegal C (one_more who m (Submit q u kind declared label) P) → head (one_more who m (Submit q u kind declared label) P) t ≡ cond (u == t) (first_of (head P t) (Some q)) (head P t)
head_submit C P who m t q u kind declared label lim l =
    let h : head P t ≡ first (queue P t) = head_is_first C P t lim l.0 in
    head_after C P (record { who = who; moment = m; act = Submit q u kind declared label }) t lim l ∙ rw h (cond_both (u == t) (queue P t ++ q ∷ []) (queue P t) (λ xs. first xs ≡ cond (u == t) (first_of (first (queue P t)) (Some q)) (first (queue P t))) (λ e. rw e (first_end (queue P t) q)) (λ e. rw e refl))

-- a Take leaves the heads of the other tenants
pub head_take_other : (C : Config) (P : History) (who m t w q estimate : ℕ) → InLimits C → IsLegal C (one_more who m (Take w q estimate) P) → is_of_tenant t (request_at P q) ≡ false → head (one_more who m (Take w q estimate) P) t ≡ head P t
head_take_other C P who m t w q estimate lim l off =
    let h : head P t ≡ first (queue P t) = head_is_first C P t lim l.0 in
    head_after C P (record { who = who; moment = m; act = Take w q estimate }) t lim l ∙ rw (off, h) refl

-- so does a Withdraw
pub head_withdraw_other : (C : Config) (P : History) (who m t q : ℕ) → InLimits C → IsLegal C (one_more who m (Withdraw q) P) → is_of_tenant t (request_at P q) ≡ false → head (one_more who m (Withdraw q) P) t ≡ head P t
head_withdraw_other C P who m t q lim l off =
    let h : head P t ≡ first (queue P t) = head_is_first C P t lim l.0 in
    head_after C P (record { who = who; moment = m; act = Withdraw q }) t lim l ∙ rw (off, h) refl
