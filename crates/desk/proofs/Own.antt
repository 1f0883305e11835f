-- A worker's own entries name its running request, since in a staffed history all Takes and Dones of a worker are its
-- caller's.
use Rattle.std.proofs.Common.{◌≡◌, ℕ, ◌+◌, ◌==◌, eqb, cond, Bool, true, false, Option, Some, None, List, [], ◌∷◌, ◌++◌, sym, ap, ◌∙◌, refl, inl, inr, eq-eqb}
use Rattle.std.proofs.lemmas.Bool.{eqb-false, eqb-true}
use Rattle.std.proofs.lemmas.List.Elements.{filter-append}
use Rattle.fq_model.specs.declared.event.Act.{Act}
use Rattle.fq_model.specs.declared.event.Act.TheVariants.{Take, Done}
use Rattle.fq_model.specs.declared.event.Entry.{Entry}
use Rattle.fq_model.specs.History.{History, history_of, running_on, running_after}
use Rattle.fq_model.specs.Outcome.{own_entries}
use Rattle.history_lock.specs.Histories.{Gains}
use Rattle.history_lock.proofs.Turned.{own_turned}
use Rattle.desk.specs.Staffed.{IsMadeBy, IsStaffed}

-- a worker's act changes nothing of another worker
other_worker : {A : Type 0} (s i who worker : ℕ) (x o : A) → who ≡ s + worker → (who == s + i) ≡ false → cond (worker == i) x o ≡ o
other_worker s i who worker x o by off = go (worker == i) refl
  where
    go : (b : Bool) → (worker == i) ≡ b → cond b x o ≡ o
    go false h = refl
    go true h = let w : worker ≡ i = eqb-true worker i h in let n = eqb-false who (s + i) off in absurd (n (by ∙ ap (λ k. s + k) w))

unchanged : (s i who : ℕ) (act : Act) (o : Option ℕ) → IsMadeBy s who act → (who == s + i) ≡ false → running_after i act o ≡ o
unchanged s i who (Take worker request estimate) o by off = other_worker s i who worker (Some request) o by off
unchanged s i who (Done worker request cost) o by off = other_worker s i who worker None o by off
unchanged s i who _ o by off = refl

own_more : (s i : ℕ) (e : Entry) (own : History) (o : Option ℕ) (b : Bool) → IsMadeBy s e.who e.act → eqb e.who (s + i) ≡ b → running_on own i ≡ o → running_on (cond b (e ∷ own) own) i ≡ running_after i e.act o
own_more s i e own o true by h is = ap (running_after i e.act) is
own_more s i e own o false by h is = is ∙ sym (unchanged s i e.who e.act o by h)

pub running_own : (s i : ℕ) (P : History) → IsStaffed s P → running_on (own_entries P (s + i)) i ≡ running_on P i
running_own s i [] st = refl
running_own s i (e ∷ P) st = own_more s i e (own_entries P (s + i)) (running_on P i) (eqb e.who (s + i)) st.0 refl (running_own s i P st.1)

-- for entries in order of time
pub runs_by_own : (s i who : ℕ) (P mine : List Entry) → who ≡ s + i → own_entries P who ≡ mine → IsStaffed s (history_of P) → running_on (history_of mine) i ≡ running_on (history_of P) i
runs_by_own s i who P mine by own st =
    ap (λ l. running_on (history_of l) i) (sym own) ∙ (ap (λ l. running_on l i) (sym (own_turned P who)) ∙ (ap (λ n. running_on (own_entries (history_of P) n) i) by ∙ running_own s i (history_of P) st))

-- own entries that have gained the new entry are still all of the caller's
pub own_gained : (who : ℕ) (P P2 mine mine2 : List Entry) → own_entries P who ≡ mine → Gains who P P2 mine mine2 → own_entries P2 who ≡ mine2
own_gained who P P2 mine mine2 own (inl same) = ap (λ l. own_entries l who) same.0 ∙ (own ∙ sym same.1)
own_gained who P P2 mine mine2 own (inr (e, more, mine_more, by)) =
    ap (λ l. own_entries l who) more ∙ (filter-append (λ (x : Entry). eqb x.who who) P (e ∷ []) ∙ (let yes : eqb e.who who ≡ true = eq-eqb e.who who by in
    ap (λ (b : Bool). own_entries P who ++ cond b (e ∷ []) []) yes ∙ (ap (λ (l : List Entry). l ++ e ∷ []) own ∙ sym mine_more)))
