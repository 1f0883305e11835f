-- What a scheduler that follows changes: the numbers of forwarded requests.
use Rattle.std.proofs.Common.{ℕ, zero, suc, ◌≡◌, ◌∙◌, ◌+◌, Bool, true, false, List, [], ◌∷◌, Some, refl, sym, ap, cond}
use Rattle.std.specs.Prelude.{slice_get, ◌&&◌, not}
use Rattle.std.specs.List.{count_by}
use Rattle.std.proofs.lemmas.List.Sums.{sum_by-cons}
use Rattle.fq_model.specs.declared.event.Call.{Call}
use Rattle.fq_model.specs.declared.event.Reply.{Reply}
use Rattle.service_model.specs.declared.config.ServiceConfig.{ServiceConfig}
use Rattle.service_model.specs.View.{Forwarded, Admitted, ServiceView, is_forwarded, runs_before}
use Rattle.service_model.specs.Scheduling.{lacks_room}
use Rattle.service_model.specs.Rolling.{renumbered, RollsOver, MakesOnNext, MakesWithRoom}
use Rattle.service_laws.proofs.Lists.{either, not_both, some_same}
use Rattle.service_laws.proofs.Refreshed.{made_now}

-- a test that doesn't read the number of a request in its scheduler
abbrev pub IsBlind : (Admitted → Bool) → Type 0
IsBlind test = (q : Admitted) (n : ℕ) → is_forwarded q ≡ true → test (record q { stands = Forwarded n }) ≡ test q

count_cons : (test : Admitted → Bool) (q : Admitted) (qs : List Admitted)
    → count_by test (q ∷ qs) ≡ cond (test q) 1 0 + count_by test qs
count_cons test q qs = sum_by-cons (λ (p : Admitted). cond (test p) 1 0) q qs

module _ (test : Admitted → Bool) (blind : IsBlind test) where
  counted_next : (b : Bool) (n : ℕ) (q : Admitted) (qs : List Admitted) → is_forwarded q ≡ b
      → ((k : ℕ) → count_by test (renumbered k qs) ≡ count_by test qs)
      → count_by test (cond b (record q { stands = Forwarded n } ∷ renumbered (suc n) qs) (q ∷ renumbered n qs))
      ≡ count_by test (q ∷ qs)
  counted_next true n q qs e rest =
      count_cons test (record q { stands = Forwarded n }) (renumbered (suc n) qs)
      ∙ ap (λ k. cond (test (record q { stands = Forwarded n })) 1 0 + k) (rest (suc n))
      ∙ ap (λ b. cond b 1 0 + count_by test qs) (blind q n e)
      ∙ sym (count_cons test q qs)
  counted_next false n q qs e rest =
      count_cons test q (renumbered n qs)
      ∙ ap (λ k. cond (test q) 1 0 + k) (rest n)
      ∙ sym (count_cons test q qs)

  pub counted : (n : ℕ) (qs : List Admitted) → count_by test (renumbered n qs) ≡ count_by test qs
  counted n [] = refl
  counted n (q ∷ qs) = counted_next (is_forwarded q) n q qs refl (λ k. counted k qs)

still_next : (b : Bool) (n ticket : ℕ) (p : Admitted) (qs : List Admitted) (q : Admitted) → is_forwarded p ≡ b
    → is_forwarded q ≡ false → slice_get (p ∷ qs) ticket ≡ Some q
    → ((k t : ℕ) → slice_get qs t ≡ Some q → slice_get (renumbered k qs) t ≡ Some q)
    → slice_get (cond b (record p { stands = Forwarded n } ∷ renumbered (suc n) qs) (p ∷ renumbered n qs)) ticket ≡ Some q
still_next true n zero p qs q e held at rest =
    absurd (not_both (is_forwarded p) e (ap is_forwarded (some_same p q at) ∙ held))
still_next true n (suc t) p qs q e held at rest = rest (suc n) t at
still_next false n zero p qs q e held at rest = at
still_next false n (suc t) p qs q e held at rest = rest n t at

-- a request that is not forwarded stands as before
pub still : (n ticket : ℕ) (qs : List Admitted) (q : Admitted) → is_forwarded q ≡ false → slice_get qs ticket ≡ Some q
    → slice_get (renumbered n qs) ticket ≡ Some q
still n ticket [] q held at = at
still n ticket (p ∷ qs) q held at =
    still_next (is_forwarded p) n ticket p qs q refl held at (λ k t. still k t qs q held)

-- the slots stay, and the requests but for their numbers
pub record Renumbers (v w : ServiceView) : Type 0 where
  pub admitted : w.admitted ≡ renumbered 0 v.admitted
  pub slots : w.slots ≡ v.slots

pub rolled : (c : ServiceConfig) (m : ℕ) (v w : ServiceView) → RollsOver c m v w → Renumbers v w
rolled c m v w x = record {
  admitted = ap (λ (u : ServiceView). u.admitted) x.after;
  slots = ap (λ (u : ServiceView). u.slots) x.after;
}

pub with_room_slots : (c : ServiceConfig) (m : ℕ) (v : ServiceView) (asked : Call) (r : Reply) (w : ServiceView)
    → MakesWithRoom c m v asked r w → w.slots ≡ v.slots
with_room_slots c m v asked r w =
    either (lacks_room v.present asked && not (runs_before v)) (MakesOnNext c m v asked r w) _ (w.slots ≡ v.slots)
    (λ _ x. (made_now x.rolled asked r w x.makes).slots ∙ (rolled c m v x.rolled x.rolls_over).slots)
    (λ _ x. (made_now v asked r w x).slots)

-- a count that doesn't read numbers in schedulers stays
pub with_room_count : (test : Admitted → Bool) → IsBlind test → (c : ServiceConfig) (m : ℕ) (v : ServiceView)
    (asked : Call) (r : Reply) (w : ServiceView) → MakesWithRoom c m v asked r w
    → count_by test w.admitted ≡ count_by test v.admitted
with_room_count test blind c m v asked r w =
    either (lacks_room v.present asked && not (runs_before v)) (MakesOnNext c m v asked r w) _
    (count_by test w.admitted ≡ count_by test v.admitted)
    (λ _ x.
    ap (count_by test) ((made_now x.rolled asked r w x.makes).admitted ∙ (rolled c m v x.rolled x.rolls_over).admitted)
    ∙ counted test blind 0 v.admitted)
    (λ _ x. ap (count_by test) (made_now v asked r w x).admitted)

pub with_room_still : (c : ServiceConfig) (m : ℕ) (v : ServiceView) (asked : Call) (r : Reply) (w : ServiceView)
    (ticket : ℕ) (q : Admitted) → is_forwarded q ≡ false → slice_get v.admitted ticket ≡ Some q
    → MakesWithRoom c m v asked r w → slice_get w.admitted ticket ≡ Some q
with_room_still c m v asked r w ticket q held at =
    either (lacks_room v.present asked && not (runs_before v)) (MakesOnNext c m v asked r w) _
    (slice_get w.admitted ticket ≡ Some q)
    (λ _ x.
    ap (λ l. slice_get l ticket)
    ((made_now x.rolled asked r w x.makes).admitted ∙ (rolled c m v x.rolled x.rolls_over).admitted)
    ∙ still 0 ticket v.admitted q held at)
    (λ _ x. ap (λ l. slice_get l ticket) (made_now v asked r w x).admitted ∙ at)
