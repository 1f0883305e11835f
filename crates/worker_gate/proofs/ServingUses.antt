-- The uses that are reported of a request are in the entries of the worker that runs it.
use Rattle.std.proofs.Common.{◌≡◌, ℕ, ◌+◌, ◌≤◌, ◌==◌, max, eqb, cond, Bool, true, false, List, [], ◌∷◌, Some, sym, ap, ◌∙◌, subst, refl, arith}
use Rattle.std.proofs.lemmas.Bool.{eqb-true, eqb-false, or_right, or_parts, both_ways}
use Rattle.fq_model.specs.declared.config.Config.{Config}
use Rattle.fq_model.specs.declared.event.Act.{Act}
use Rattle.fq_model.specs.declared.event.Act.TheVariants.{Report}
use Rattle.fq_model.specs.declared.event.Entry.{Entry}
use Rattle.fq_model.specs.History.{History, history_of, has_act, is_take_by, is_taken, use_in, last_use, running_on, Runs}
use Rattle.fq_model.specs.Outcome.{own_entries}
use Rattle.fq_model.specs.Rules.{Fits, IsLegal}
use Rattle.fq_laws.proofs.History.Requests.{use_taken}
use Rattle.fq_laws.proofs.History.Workers.{running_runs, take_once}
use Rattle.history_lock.proofs.Turned.{own_turned}
use Rattle.desk.specs.Staffed.{IsMadeBy, IsStaffed}

-- ---- nothing is reported before a Take

unused_at : (C : Config) (P : History) (m r : ℕ) (act : Act) → Fits C P m act → is_taken P r ≡ false → use_in r act ≡ 0
unused_at C P m r (Report worker request used) f un = go (request == r) refl
  where
    go : (b : Bool) → (request == r) ≡ b → cond b used 0 ≡ 0
    go false e = refl
    go true e = let taken : is_taken P r ≡ true = subst (λ q. is_taken P q ≡ true) (eqb-true request r e) (use_taken P worker request used f.0) in absurd (both_ways (is_taken P r) un taken)
unused_at C P m r _ f un = refl

none : (a b : ℕ) → a ≡ 0 → b ≡ 0 → max a b ≡ 0
none a b h k = omega (arith, h, k)

pub untaken_unused : (C : Config) (P : History) (r : ℕ) → IsLegal C P → is_taken P r ≡ false → last_use P r ≡ 0
unfolding is_taken
untaken_unused C [] r l un = refl
untaken_unused C (e ∷ P) r l un =
    let before : is_taken P r ≡ false = (or_parts _ _ un).1 in
    none (use_in r e.act) (last_use P r) (unused_at C P e.moment r e.act l.3 before) (untaken_unused C P r l.0 before)

-- a caller's own entries name no greater use
pub own_below : (n r : ℕ) (P : History) → last_use (own_entries P n) r ≤ last_use P r
own_below n r [] = omega arith
own_below n r (e ∷ P) = go (own_below n r P) (eqb e.who n)
  where
    go : last_use (own_entries P n) r ≤ last_use P r → (b : Bool) → last_use (cond b (e ∷ own_entries P n) (own_entries P n)) r ≤ max (use_in r e.act) (last_use P r)
    go ih true = omega (arith, ih)
    go ih false = omega (arith, ih)

-- ---- only a request's worker reports its uses

-- no other worker took the request
abbrev IsTaker : History → ℕ → ℕ → Type 0
IsTaker P i r = (j : ℕ) → has_act (is_take_by j r) P ≡ true → j ≡ i

others_at : (C : Config) (P : History) (m s i who r : ℕ) (act : Act) → Fits C P m act → IsMadeBy s who act → IsTaker P i r → eqb who (s + i) ≡ false → use_in r act ≡ 0
others_at C P m s i who r (Report worker request used) f by only off = go (request == r) refl
  where
    go : (b : Bool) → (request == r) ≡ b → cond b used 0 ≡ 0
    go false e = refl
    go true e =
        let took : has_act (is_take_by worker r) P ≡ true = subst (λ q. has_act (is_take_by worker q) P ≡ true) (eqb-true request r e) f.0.runs.taken in
        let same : worker ≡ i = only worker took in
        absurd (eqb-false who (s + i) off (by ∙ ap (λ w. s + w) same))
others_at C P m s i who r _ f by only off = refl

own_uses : (C : Config) (P : History) (s i r : ℕ) → IsLegal C P → IsStaffed s P → IsTaker P i r → last_use P r ≤ last_use (own_entries P (s + i)) r
own_uses C [] s i r l st only = omega arith
own_uses C (e ∷ P) s i r l st only =
    let before : IsTaker P i r = λ j h. only j (or_right _ _ h) in
    go before (own_uses C P s i r l.0 st.1 before) (eqb e.who (s + i)) refl
  where
    go : IsTaker P i r → last_use P r ≤ last_use (own_entries P (s + i)) r → (b : Bool) → eqb e.who (s + i) ≡ b → max (use_in r e.act) (last_use P r) ≤ last_use (cond b (e ∷ own_entries P (s + i)) (own_entries P (s + i))) r
    go before ih true h = omega (arith, ih)
    go before ih false h = omega (arith, ih, others_at C P e.moment s i e.who r e.act l.3 st.0 before h)

-- own entries, the newest first
pub own_history : (n : ℕ) (P mine : List Entry) → own_entries P n ≡ mine → own_entries (history_of P) n ≡ history_of mine
own_history n P mine own = own_turned P n ∙ ap history_of own

-- the greatest use of a worker's request is in one of its own entries
pub use_by_own : (C : Config) (s i who r : ℕ) (P mine : List Entry) → who ≡ s + i → own_entries P who ≡ mine → IsLegal C (history_of P) → IsStaffed s (history_of P) → running_on (history_of P) i ≡ Some r → last_use (history_of P) r ≤ last_use (history_of mine) r
use_by_own C s i who r P mine by own l st runs =
    let w : Runs (history_of P) i r = running_runs C (history_of P) i r l runs in
    let only : IsTaker (history_of P) i r = λ j h. take_once C (history_of P) j i r l h w.taken in
    let same : own_entries (history_of P) (s + i) ≡ history_of mine = ap (own_entries (history_of P)) (sym by) ∙ own_history who P mine own in
    subst (λ H. last_use (history_of P) r ≤ last_use H r) same (own_uses C (history_of P) s i r l st only)
