-- The fields of a request, and whether it was submitted.
use Rattle.std.proofs.Common.{Bool, false, ◌&&◌, ℕ, ◌≡◌, true, ◌==◌, ◌||◌, ◌⊎◌, refl, inl, inr, Some, [], ◌∷◌, None, Option, ◌≢◌}
use Rattle.std.proofs.lemmas.Bool.{and_parts, not-true, cases_Bool, or_cases, or_left, or_right, eqb-true, false≢true, both_ways, eq-eqb, ne_eqb, false_from_ne_true}
use Rattle.fq_model.specs.History.{History, is_submitted, is_waiting, is_taken, is_done, is_withdrawn, is_removed, is_ended, is_submit_of, is_take_of, is_done_of, is_withdraw_of, is_removal_of, is_end_of, is_change, has_act, Request, request_at, request_in, is_of_tenant}
use Rattle.fq_model.specs.declared.event.Act.{Act}
use Rattle.fq_model.specs.declared.event.Act.TheVariants.{Submit, Take, Done, Withdraw}

-- a test and one that is true
pub and_with_true : (b c : Bool) → c ≡ true → (b && c) ≡ b
and_with_true true c h = h
and_with_true false c h = refl

-- ---- removed requests, and ended requests

-- where q passes each act that p passes, q passes some act of a history where p passes some act
pub has_weaker : (p q : Act → Bool) → ((a : Act) → p a ≡ true → q a ≡ true) → (P : History) → has_act p P ≡ true → has_act q P ≡ true
has_weaker p q weaker [] h = absurd (false≢true h)
has_weaker p q weaker (e ∷ P) h = elim (or_cases (p e.act) (has_act p P) h) [
  | inl x ↦ or_left _ _ (weaker e.act x)
  | inr x ↦ or_right _ _ (has_weaker p q weaker P x)
]

take_removes : (r : ℕ) (a : Act) → is_take_of r a ≡ true → is_removal_of r a ≡ true
take_removes r (Take worker request estimate) h = h
take_removes r _ h = absurd (false≢true h)

withdraw_removes : (r : ℕ) (a : Act) → is_withdraw_of r a ≡ true → is_removal_of r a ≡ true
withdraw_removes r (Withdraw request) h = h
withdraw_removes r _ h = absurd (false≢true h)

pub taken_removed : (P : History) (r : ℕ) → is_taken P r ≡ true → is_removed P r ≡ true
unfolding is_taken is_removed
taken_removed P r h = has_weaker (is_take_of r) (is_removal_of r) (take_removes r) P h

pub withdrawn_removed : (P : History) (r : ℕ) → is_withdrawn P r ≡ true → is_removed P r ≡ true
unfolding is_withdrawn is_removed
withdrawn_removed P r h = has_weaker (is_withdraw_of r) (is_removal_of r) (withdraw_removes r) P h

-- a request that is not removed is not taken
pub unremoved_untaken : (P : History) (r : ℕ) → is_removed P r ≡ false → is_taken P r ≡ false
unremoved_untaken P r h = false_from_ne_true _ (λ t. both_ways _ h (taken_removed P r t))

done_ends : (r : ℕ) (a : Act) → is_done_of r a ≡ true → is_end_of r a ≡ true
done_ends r (Done worker request cost) h = h
done_ends r _ h = absurd (false≢true h)

-- a done request is ended
pub done_ended : (P : History) (r : ℕ) → is_done P r ≡ true → is_ended P r ≡ true
unfolding is_done is_ended
done_ended P r h = has_weaker (is_done_of r) (is_end_of r) (done_ends r) P h

end_by : (r : ℕ) (a : Act) → is_end_of r a ≡ true → (is_done_of r a ≡ true) ⊎ (is_withdraw_of r a ≡ true)
end_by r (Done worker request cost) h = inl h
end_by r (Withdraw request) h = inr h
end_by r _ h = absurd (false≢true h)

-- an ended request is done or withdrawn
pub ended_by : (P : History) (r : ℕ) → is_ended P r ≡ true → (is_done P r ≡ true) ⊎ (is_withdrawn P r ≡ true)
unfolding is_ended is_done is_withdrawn
ended_by [] r h = absurd (false≢true h)
ended_by (e ∷ P) r h = elim (or_cases (is_end_of r e.act) (has_act (is_end_of r) P) h) [
  | inl x ↦ elim (end_by r e.act x) [ inl k ↦ inl (or_left _ _ k) | inr k ↦ inr (or_left _ _ k) ]
  | inr x ↦ elim (ended_by P r x) [ inl k ↦ inl (or_right _ _ k) | inr k ↦ inr (or_right _ _ k) ]
]

removal_by : (r : ℕ) (a : Act) → is_removal_of r a ≡ true → (is_take_of r a ≡ true) ⊎ (is_withdraw_of r a ≡ true)
removal_by r (Take worker request estimate) h = inl h
removal_by r (Withdraw request) h = inr h
removal_by r _ h = absurd (false≢true h)

-- a removed request is taken or withdrawn
pub removed_by : (P : History) (r : ℕ) → is_removed P r ≡ true → (is_taken P r ≡ true) ⊎ (is_withdrawn P r ≡ true)
unfolding is_removed is_taken is_withdrawn
removed_by [] r h = absurd (false≢true h)
removed_by (e ∷ P) r h = elim (or_cases (is_removal_of r e.act) (has_act (is_removal_of r) P) h) [
  | inl x ↦ elim (removal_by r e.act x) [ inl k ↦ inl (or_left _ _ k) | inr k ↦ inr (or_left _ _ k) ]
  | inr x ↦ elim (removed_by P r x) [ inl k ↦ inl (or_right _ _ k) | inr k ↦ inr (or_right _ _ k) ]
]

withdraw_changes : (r : ℕ) (a : Act) → is_withdraw_of r a ≡ true → is_change a ≡ true
withdraw_changes r (Withdraw request) h = refl
withdraw_changes r _ h = absurd (false≢true h)

-- where nothing is changed or withdrawn, a request that is not taken is not removed
pub untaken_unremoved : (P : History) (r : ℕ) → has_act is_change P ≡ false → is_taken P r ≡ false → is_removed P r ≡ false
unfolding is_withdrawn
untaken_unremoved P r none un = false_from_ne_true _ (λ h. elim (removed_by P r h) [
  | inl t ↦ both_ways _ un t
  | inr w ↦ both_ways _ none (has_weaker (is_withdraw_of r) is_change (withdraw_changes r) P w)
])

-- ---- waiting requests

-- a waiting request was submitted, and was neither taken nor withdrawn
pub waits_submitted : (P : History) (r : ℕ) → is_waiting P r ≡ true → is_submitted P r ≡ true
unfolding is_waiting
waits_submitted P r h = (and_parts _ _ h).0

pub waits_unremoved : (P : History) (r : ℕ) → is_waiting P r ≡ true → is_removed P r ≡ false
unfolding is_waiting
waits_unremoved P r h = not-true _ (and_parts _ _ h).1

pub waits_untaken : (P : History) (r : ℕ) → is_waiting P r ≡ true → is_taken P r ≡ false
waits_untaken P r h = unremoved_untaken P r (waits_unremoved P r h)

-- ---- the fields of a request

asked_at : (P : History) (r : ℕ) (a : Act) (x : Request) → (request_at P r ≡ Some x → is_submitted P r ≡ true) → request_in r a (request_at P r) ≡ Some x → (is_submit_of r a || is_submitted P r) ≡ true
asked_at P r (Submit request tenant kind declared label) x ih h = elim (cases_Bool (request == r)) [
  | inl e ↦ rw e refl
  | inr e ↦ or_right _ _ (ih (rw e at h))
]
asked_at P r _ x ih h = ih h

-- a request of which something is known was submitted
pub asked_submitted : (P : History) (r : ℕ) (x : Request) → request_at P r ≡ Some x → is_submitted P r ≡ true
unfolding is_submitted
asked_submitted [] r x h = cc
asked_submitted (e ∷ P) r x h = asked_at P r e.act x (asked_submitted P r x) h

unasked_at : (P : History) (r : ℕ) (a : Act) → (request_at P r ≡ None → is_submitted P r ≡ false) → request_in r a (request_at P r) ≡ None → (is_submit_of r a || is_submitted P r) ≡ false
unasked_at P r (Submit request tenant kind declared label) ih h = elim (cases_Bool (request == r)) [
  | inl e ↦ (let q : Request = record { tenant = tenant; kind = kind; declared = declared; label = label } in let k : Some q ≡ None = rw e at h in absurd (cc))
  | inr e ↦ rw e (ih (rw e at h))
]
unasked_at P r _ ih h = ih h

pub unasked : (P : History) (r : ℕ) → request_at P r ≡ None → is_submitted P r ≡ false
unfolding is_submitted
unasked [] r h = refl
unasked (e ∷ P) r h = unasked_at P r e.act (unasked P r) h

pub is_of_asked : (t : ℕ) (o : Option Request) → is_of_tenant t o ≡ true → (a : Request) × (o ≡ Some a) × (a.tenant ≡ t)
is_of_asked t None h = absurd (false≢true h)
is_of_asked t (Some a) h = (a, refl, eqb-true _ _ h)

-- a submitted request has fields
pub submitted_known : (P : History) (q : ℕ) → is_submitted P q ≡ true → (a : Request) × (request_at P q ≡ Some a)
submitted_known P q h = go (request_at P q) refl
  where
    go : (o : Option Request) → request_at P q ≡ o → (a : Request) × (request_at P q ≡ Some a)
    go None is = absurd (both_ways _ (unasked P q is) h)
    go (Some a) is = (a, is)

-- a request is of tenant t, where its field `tenant` is t
pub of_own : (P : History) (t q : ℕ) (a : Request) → request_at P q ≡ Some a → a.tenant ≡ t → is_of_tenant t (request_at P q) ≡ true
of_own P t q a is e = rw is (eq-eqb a.tenant t e)

pub of_other : (P : History) (t q : ℕ) (a : Request) → request_at P q ≡ Some a → a.tenant ≢ t → is_of_tenant t (request_at P q) ≡ false
of_other P t q a is ne = rw is (ne_eqb a.tenant t ne)
