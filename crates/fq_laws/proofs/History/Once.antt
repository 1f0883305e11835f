-- A request is submitted, taken and done once at most, and so it is removed and ended.
use Rattle.std.proofs.Common.{ℕ, ◌<◌, ◌≡◌, true, false, arith, subst, ◌∷◌, Bool, refl, [], ◌≤◌, inl, inr}
use Rattle.std.proofs.lemmas.Bool.{eqb-true, false_from_ne_true, false≢true, or_parts, cases_Bool}
use Rattle.fq_model.specs.declared.config.Config.{Config}
use Rattle.fq_model.specs.declared.event.Act.{Act}
use Rattle.fq_model.specs.declared.event.Act.TheVariants.{Submit, Take, Done, Withdraw}
use Rattle.fq_model.specs.History.{count_acts, History, is_submitted, is_submit_of, submits, is_take_of, is_taken, is_done_of, is_done, is_removal_of, is_removed, is_end_of, is_ended, has_act}
use Rattle.fq_model.specs.Rules.{IsLegal, Fits}
use Rattle.fq_model.specs.declared.event.Entry.{Entry}
use Rattle.fq_laws.proofs.History.Requests.{submitted_below, use_unended, waits_unended}
use Rattle.fq_laws.proofs.Rules.Takes.{take_waits}
use Rattle.fq_laws.proofs.History.Asked.{waits_untaken, waits_unremoved}

-- ---- an act that was done before is not done anew

submits_new : (C : Config) (P : History) (m r : ℕ) (a : Act) → IsLegal C P → Fits C P m a → is_submit_of r a ≡ true → is_submitted P r ≡ false
submits_new C P m r (Submit request tenant kind declared label) l f h = false_from_ne_true _ (λ old. let b : r < submits P = submitted_below C P r l old in let e : request ≡ r = eqb-true _ _ h in omega (arith, f.numbered))
submits_new C P m r _ l f h = absurd (false≢true h)

takes_new : (C : Config) (P : History) (m r : ℕ) (a : Act) → Fits C P m a → is_take_of r a ≡ true → is_taken P r ≡ false
takes_new C P m r (Take worker request estimate) f h = subst (λ s. is_taken P s ≡ false) (eqb-true _ _ h) (waits_untaken P request (take_waits C P m worker request estimate f))
takes_new C P m r _ f h = absurd (false≢true h)

does_new : (C : Config) (P : History) (m r : ℕ) (a : Act) → Fits C P m a → is_done_of r a ≡ true → is_done P r ≡ false
does_new C P m r (Done worker request cost) f h = subst (λ s. is_done P s ≡ false) (eqb-true _ _ h) f.runs.not_done
does_new C P m r _ f h = absurd (false≢true h)

removes_new : (C : Config) (P : History) (m r : ℕ) (a : Act) → Fits C P m a → is_removal_of r a ≡ true → is_removed P r ≡ false
removes_new C P m r (Take worker request estimate) f h = subst (λ s. is_removed P s ≡ false) (eqb-true _ _ h) (waits_unremoved P request (take_waits C P m worker request estimate f))
removes_new C P m r (Withdraw request) f h = subst (λ s. is_removed P s ≡ false) (eqb-true _ _ h) (waits_unremoved P request f)
removes_new C P m r _ f h = absurd (false≢true h)

ends_new : (C : Config) (P : History) (m r : ℕ) (a : Act) → IsLegal C P → Fits C P m a → is_end_of r a ≡ true → is_ended P r ≡ false
ends_new C P m r (Done worker request cost) l f h = subst (λ s. is_ended P s ≡ false) (eqb-true _ _ h) (use_unended C P worker request cost l f)
ends_new C P m r (Withdraw request) l f h = subst (λ s. is_ended P s ≡ false) (eqb-true _ _ h) (waits_unended C P request l f)
ends_new C P m r _ l f h = absurd (false≢true h)

pub submitted_new : (C : Config) (P : History) (e : Entry) (r : ℕ) → IsLegal C (e ∷ P) → is_submit_of r e.act ≡ true → is_submitted P r ≡ false
submitted_new C P e r l h = submits_new C P e.moment r e.act l.0 l.3 h

pub taken_new : (C : Config) (P : History) (e : Entry) (r : ℕ) → IsLegal C (e ∷ P) → is_take_of r e.act ≡ true → is_taken P r ≡ false
taken_new C P e r l h = takes_new C P e.moment r e.act l.3 h

pub done_new : (C : Config) (P : History) (e : Entry) (r : ℕ) → IsLegal C (e ∷ P) → is_done_of r e.act ≡ true → is_done P r ≡ false
done_new C P e r l h = does_new C P e.moment r e.act l.3 h

-- ---- so each is done once at most

count_none : (test : Act → Bool) (P : History) → has_act test P ≡ false → count_acts test P ≡ 0
count_none test [] h = refl
count_none test (e ∷ P) h =
    let p = or_parts (test e.act) (has_act test P) h in
    rw (p.0, count_none test P p.1) refl

-- an act that comes only where no act like it came before is counted once at most
count_new : (test : Act → Bool) (e : Entry) (P : History) → (test e.act ≡ true → has_act test P ≡ false) → count_acts test P ≤ 1 → count_acts test (e ∷ P) ≤ 1
count_new test e P new h = elim (cases_Bool (test e.act)) [
  | inl is ↦ rw (is, count_none test P (new is)) (omega arith)
  | inr is ↦ rw is h
]

pub submitted_once : (C : Config) (P : History) (r : ℕ) → IsLegal C P → count_acts (is_submit_of r) P ≤ 1
unfolding is_submitted
submitted_once C [] r l = omega arith
submitted_once C (e ∷ P) r l = count_new (is_submit_of r) e P (submitted_new C P e r l) (submitted_once C P r l.0)

pub taken_once : (C : Config) (P : History) (r : ℕ) → IsLegal C P → count_acts (is_take_of r) P ≤ 1
unfolding is_taken
taken_once C [] r l = omega arith
taken_once C (e ∷ P) r l = count_new (is_take_of r) e P (taken_new C P e r l) (taken_once C P r l.0)

pub done_once : (C : Config) (P : History) (r : ℕ) → IsLegal C P → count_acts (is_done_of r) P ≤ 1
unfolding is_done
done_once C [] r l = omega arith
done_once C (e ∷ P) r l = count_new (is_done_of r) e P (done_new C P e r l) (done_once C P r l.0)

pub removed_once : (C : Config) (P : History) (r : ℕ) → IsLegal C P → count_acts (is_removal_of r) P ≤ 1
unfolding is_removed
removed_once C [] r l = omega arith
removed_once C (e ∷ P) r l = count_new (is_removal_of r) e P (removes_new C P e.moment r e.act l.3) (removed_once C P r l.0)

pub ended_once : (C : Config) (P : History) (r : ℕ) → IsLegal C P → count_acts (is_end_of r) P ≤ 1
unfolding is_ended
ended_once C [] r l = omega arith
ended_once C (e ∷ P) r l = count_new (is_end_of r) e P (ends_new C P e.moment r e.act l.0 l.3) (ended_once C P r l.0)
