-- The entries that a caller has seen after its calls.
use Rattle.std.proofs.Common.{◌≡◌, ℕ, suc, ◌+◌, ◌≤◌, eqb, cond, Bool, true, false, List, [], ◌∷◌, ◌++◌, length, reverse, sym, ap, ◌∙◌, subst, refl, inl, inr, arith, eq-eqb, length-append}
use Rattle.std.proofs.lemmas.List.{reverse-append, length-reverse, nil_from_length}
use Rattle.std.proofs.lemmas.List.Elements.{filter-append}
use Rattle.fq_model.specs.declared.event.Call.{Call}
use Rattle.fq_model.specs.declared.event.Entry.{Entry}
use Rattle.fq_model.specs.declared.event.Reply.{Reply}
use Rattle.fq_model.specs.History.{History, history_of}
use Rattle.fq_model.specs.Outcome.{own_entries}
use Rattle.fq_laws.specs.Words.{Extends, caller, named_moment}
use Rattle.fq_laws.proofs.Rules.Answers.{answer_extends}
use Rattle.history_lock.specs.Histories.{IsPrefix, Gains}
use Rattle.history_lock.specs.Passes.{PassView}
use Rattle.history_lock.proofs.Histories.{prefix_through}
use Rattle.history_lock.proofs.Turned.{own_turned}
use Rattle.desk.specs.declared.floor.Crew.{Crew}
use Rattle.desk.specs.Tokens.{IsAnswered}
use Rattle.desk.proofs.Own.{own_gained}
use Rattle.worker_gate.specs.Moments.{HasToldMomentsFrom}

-- ---- seen entries stay

gained_on : (who : ℕ) (P P2 mine mine2 : List Entry) → Gains who P P2 mine mine2 → IsPrefix P P2
gained_on who P P2 mine mine2 (inl same) = ([], same.0 ∙ sym (Rattle.std.proofs.Common.append-nil P))
gained_on who P P2 mine mine2 (inr (e, more, mine_more, by)) = (e ∷ [], more)

-- the history at which a call is answered is a prefix of the history that was seen then
pub answered_on : (crew : Crew) (old new : PassView Crew) (c : Call) (reply : Reply) (a : IsAnswered crew old c reply new) → IsPrefix a.P new.seen
answered_on crew old new c reply a = gained_on old.number a.P new.seen old.mine new.mine a.gains

pub seen_on : (crew : Crew) (old new : PassView Crew) (c : Call) (reply : Reply) → IsAnswered crew old c reply new → IsPrefix old.seen new.seen
seen_on crew old new c reply a = prefix_through old.seen a.P new.seen a.begins (answered_on crew old new c reply a)

pub prefix_same : (P : List Entry) → IsPrefix P P
prefix_same P = ([], sym (Rattle.std.proofs.Common.append-nil P))

-- after a call a caller's own entries are all of its entries in the history that it has seen
pub own_after : (crew : Crew) (old new : PassView Crew) (c : Call) (reply : Reply) → IsAnswered crew old c reply new → own_entries new.seen old.number ≡ new.mine
own_after crew old new c reply a = own_gained old.number a.P new.seen old.mine new.mine a.own a.gains

-- ---- own entries

-- two lists with the same entries of a caller, of which the first begins the second
none_between : (n : ℕ) (P rest mine : List Entry) → own_entries P n ≡ mine → own_entries (P ++ rest) n ≡ mine → own_entries rest n ≡ []
none_between n P rest mine low high =
    let split : own_entries (P ++ rest) n ≡ own_entries P n ++ own_entries rest n = filter-append (λ (x : Entry). eqb x.who n) P rest in
    let sizes : length (own_entries (P ++ rest) n) ≡ length (own_entries P n) + length (own_entries rest n) = ap length split ∙ length-append (own_entries P n) (own_entries rest n) in
    let same : length (own_entries (P ++ rest) n) ≡ length (own_entries P n) = ap length (high ∙ sym low) in
    nil_from_length (own_entries rest n) (omega (arith, sizes, same))

turned_none : (n : ℕ) (rest : List Entry) → own_entries rest n ≡ [] → own_entries (history_of rest) n ≡ []
turned_none n rest none = own_turned rest n ∙ ap reverse none

-- an entry of the caller is one of its own
own_more : (n : ℕ) (e : Entry) (P : History) → e.who ≡ n → own_entries (e ∷ P) n ≡ e ∷ own_entries P n
own_more n e P by = let yes : eqb e.who n ≡ true = eq-eqb e.who n by in ap (λ (b : Bool). cond b (e ∷ own_entries P n) (own_entries P n)) yes

-- the caller's own are not fewer before
own_fewer : (n : ℕ) (e : Entry) (P : History) → length (own_entries P n) ≤ length (own_entries (e ∷ P) n)
own_fewer n e P = go (eqb e.who n)
  where
    go : (b : Bool) → length (own_entries P n) ≤ length (cond b (e ∷ own_entries P n) (own_entries P n))
    go true = omega arith
    go false = omega arith

-- ---- moments

-- a caller has no entry before its first call
told_none : (Tells : ℕ → Type 0) (number before : ℕ) (H : History) → length H ≤ before → HasToldMomentsFrom Tells number before H
told_none Tells number before [] few = tt
told_none Tells number before (e ∷ P) few = (told_none Tells number before P (omega (arith, few)), λ by past. absurd (omega (arith, few, past)))

pub moments_begin : (Tells : ℕ → Type 0) (number : ℕ) (seen : List Entry) → HasToldMomentsFrom Tells number (length seen) (history_of seen)
moments_begin Tells number seen = told_none Tells number (length seen) (history_of seen) (omega (arith, length-reverse seen))

module _ (Tells : ℕ → Type 0) (number before : ℕ) where
  -- entries of others change nothing
  told_others : (R H : History) → own_entries R number ≡ [] → HasToldMomentsFrom Tells number before H → HasToldMomentsFrom Tells number before (R ++ H)
  told_others [] H none told = told
  told_others (e ∷ R) H none told =
      let low : length (own_entries (e ∷ R) number) ≡ 0 = ap length none in
      let rest : own_entries R number ≡ [] = nil_from_length (own_entries R number) (omega (arith, low, own_fewer number e R)) in (
        told_others R H rest told,
        λ by past. let more : length (own_entries (e ∷ R) number) ≡ suc (length (own_entries R number)) = ap length (own_more number e R by) in absurd (omega (arith, low, more)),
      )

  told_extends : (c : Call) (H H2 : History) → Tells (named_moment c) → HasToldMomentsFrom Tells number before H → Extends (caller c) (named_moment c) H H2 → HasToldMomentsFrom Tells number before H2
  told_extends c H H2 tells told (inl same) = subst (HasToldMomentsFrom Tells number before) (sym same) told
  told_extends c H H2 tells told (inr (act, more)) = subst (HasToldMomentsFrom Tells number before) (sym more) (told, λ _ _. (named_moment c, tells, refl))

  -- it stays so where the history grows by others' entries
  told_stays : (seen P mine : List Entry) → IsPrefix seen P → own_entries seen number ≡ mine → own_entries P number ≡ mine → HasToldMomentsFrom Tells number before (history_of seen) → HasToldMomentsFrom Tells number before (history_of P)
  told_stays seen P mine (rest, is) own own2 told =
      let none : own_entries rest number ≡ [] = none_between number seen rest mine own (ap (λ l. own_entries l number) (sym is) ∙ own2) in
      let turned : history_of P ≡ history_of rest ++ history_of seen = ap history_of is ∙ reverse-append seen rest in
      subst (HasToldMomentsFrom Tells number before) (sym turned) (told_others (history_of rest) (history_of seen) (turned_none number rest none) told)

  -- a call at a moment that the clock tells, by a caller whose own entries are all entries of its number that it has
  -- seen
  pub moments_on : (crew : Crew) (old new : PassView Crew) (c : Call) (reply : Reply) → IsAnswered crew old c reply new → old.number ≡ number → old.mine ≡ own_entries old.seen old.number → Tells (named_moment c) → HasToldMomentsFrom Tells number before (history_of old.seen) → HasToldMomentsFrom Tells number before (history_of new.seen)
  moments_on crew old new c reply a is own tells told =
      let low : own_entries old.seen number ≡ old.mine = ap (own_entries old.seen) (sym is) ∙ sym own in
      let high : own_entries a.P number ≡ old.mine = ap (own_entries a.P) (sym is) ∙ a.own in
      told_extends c (history_of a.P) (history_of new.seen) tells (told_stays old.seen a.P old.mine a.begins low high told)
      (answer_extends crew.config (history_of a.P) c reply (history_of new.seen) a.answers)
