-- Passes that are joined one by one, and the entries that the past then has.
use Rattle.std.proofs.Common.{◌≡◌, ℕ, ◌<◌, ◌⊎◌, List, [], ◌∷◌, ◌++◌, length, get_or, take, drop, sym, ap, ◌∙◌, subst, refl, inl, inr, arith, append_assoc, append-nil}
use mathlib.Core.Option.{some}
use lib.ListN.{get_elem?}
use Rattle.atomic_table.proofs.Lists.{at_longer, at_last}
use Rattle.fq_model.specs.declared.event.Entry.{Entry}
use Rattle.fq_model.specs.Outcome.{own_entries}
use Rattle.history_lock.specs.Histories.{IsPrefix}
use Rattle.history_lock.specs.Passes.{LockView, PassView, IsOf, HasEnded, AllEnded}
use Rattle.history_lock.specs.Last.{WasLast}
use Rattle.history_lock.proofs.Histories.{prefix_through}
use Rattle.desk.specs.declared.floor.Crew.{Crew}
use Rattle.desk.specs.Floors.{FloorView, crew_of}
use Rattle.desk.specs.declared.tokens.Submitter.{Submitter}
use Rattle.desk.specs.declared.tokens.Worker.{Worker}
use Rattle.desk.specs.Ending.{HoldsOfEach, HoldsOfSome, IsFirst, IsIn, HasAll, AreAll, IsTaken, HasJoined, LastMoment}

module _ {A : Type 0} where
  pub each_front : (Holds : A → Type 0) (xs ys : List A) → HoldsOfEach Holds (xs ++ ys) → HoldsOfEach Holds xs
  each_front Holds [] ys h = tt
  each_front Holds (x ∷ xs) ys h = (h.0, each_front Holds xs ys h.1)

  pub each_last : (Holds : A → Type 0) (xs : List A) (y : A) → HoldsOfEach Holds (xs ++ y ∷ []) → Holds y
  each_last Holds [] y h = h.0
  each_last Holds (x ∷ xs) y h = each_last Holds xs y h.1

  each_so : (P Q : A → Type 0) → ((x : A) → P x → Q x) → (xs : List A) → HoldsOfEach P xs → HoldsOfEach Q xs
  each_so P Q f [] h = tt
  each_so P Q f (x ∷ xs) h = (f x h.0, each_so P Q f xs h.1)

  -- where P holds of each and Q of some, both hold of one
  found : (P Q : A → Type 0) (xs : List A) → HoldsOfEach P xs → HoldsOfSome Q xs → (x : A) × P x × Q x
  found P Q [] h s = absurd s
  found P Q (x ∷ xs) h (inl s) = (x, h.0, s)
  found P Q (x ∷ xs) h (inr s) = found P Q xs h.1 s

  module _ (lock : LockView Crew) (pass_of : A → PassView Crew) where
    pub none_joined : (old : PassView Crew) → IsOf lock old → old.number ≡ 0 → HasJoined lock pass_of old [] old
    none_joined old own number = record { own = own; number = number; seen = ([], sym (append-nil old.seen)); mine = refl; made = refl; more = []; ended = sym (append-nil old.ended); taken = tt }

    taken_on : (v w p : PassView Crew) (more : List (ℕ × List Entry)) → IsPrefix v.seen w.seen → w.ended ≡ v.ended ++ more → IsTaken v p → IsTaken w p
    taken_on v w p more seen ended t = (prefix_through p.seen v.seen w.seen t.0 seen, (t.1.0, subst (λ l. get_elem? l t.1.0 ≡ some (p.number, p.mine)) (sym ended) (at_longer v.ended more t.1.0 _ t.1.1)))

    pub joined_more : (old v w : PassView Crew) (x : A) (xs : List A) → HasJoined lock pass_of old xs v → IsOf lock w → w.number ≡ 0 → IsPrefix v.seen w.seen → IsPrefix (pass_of x).seen w.seen → w.mine ≡ v.mine → w.made ≡ v.made
        → w.ended ≡ v.ended ++ ((pass_of x).number, (pass_of x).mine) ∷ [] → HasJoined lock pass_of old (x ∷ xs) w
    joined_more old v w x xs j own number seen other mine made ended = record {
      own = own;
      number = number;
      seen = prefix_through old.seen v.seen w.seen j.seen seen;
      mine = mine ∙ j.mine;
      made = made ∙ j.made;
      more = j.more ++ ((pass_of x).number, (pass_of x).mine) ∷ [];
      ended = ended ∙ (ap (λ l. l ++ ((pass_of x).number, (pass_of x).mine) ∷ []) j.ended ∙ append_assoc old.ended j.more _);
      taken = (
        (other, (length v.ended, subst (λ l. get_elem? l (length v.ended) ≡ some ((pass_of x).number, (pass_of x).mine)) (sym ended) (at_last v.ended _ _ refl))),
        each_so (λ t. IsTaken v (pass_of t)) (λ t. IsTaken w (pass_of t)) (λ t h. taken_on v w (pass_of t) _ seen ended h) xs j.taken,
      );
    }

    -- the passes that a pass had taken in are still taken in after it took in others
    pub still_taken : {B : Type 0} (of_other : B → PassView Crew) (v w : PassView Crew) (ys : List B) (xs : List A) → HasJoined lock of_other v ys w → HoldsOfEach (λ t. IsTaken v (pass_of t)) xs → HoldsOfEach (λ t. IsTaken w (pass_of t)) xs
    still_taken of_other v w ys xs j h = each_so (λ t. IsTaken v (pass_of t)) (λ t. IsTaken w (pass_of t)) (λ t k. taken_on v w (pass_of t) j.more j.seen j.ended k) xs h

  all_in : (pass_of : A → PassView Crew) (w : PassView Crew) (past : List Entry) (xs : List A) → IsPrefix w.seen past → HasEnded past w.ended → HoldsOfEach (λ t. IsTaken w (pass_of t)) xs → HoldsOfEach (λ t. IsIn past (pass_of t)) xs
  all_in pass_of w past xs seen ended h =
      each_so (λ t. IsTaken w (pass_of t)) (λ t. IsIn past (pass_of t)) (λ t k. (prefix_through (pass_of t).seen w.seen past k.0 seen, ended k.1.0 ((pass_of t).number, (pass_of t).mine) k.1.1)) xs h

  -- a number of one of those that were taken in was ended
  number_ended : (pass_of : A → PassView Crew) (w : PassView Crew) (n : ℕ) (xs : List A) → HoldsOfEach (λ t. IsTaken w (pass_of t)) xs → HoldsOfSome (λ t. (pass_of t).number ≡ n) xs → (j : ℕ) × (mine : List Entry) × (get_elem? w.ended j ≡ some (n, mine))
  number_ended pass_of w n xs h s =
      let x = found (λ t. IsTaken w (pass_of t)) (λ t. (pass_of t).number ≡ n) xs h s in
      (x.1.1.0, (pass_of x.0).mine, subst (λ k. get_elem? w.ended x.1.1.0 ≡ some (k, (pass_of x.0).mine)) x.2 x.1.1.1)

-- the first token and the others
pub first_and_rest : (ts : List Submitter) (t : Submitter) (rest : List Submitter) → IsFirst ts → t ≡ get_or ts 0 t → rest ≡ take 0 ts ++ drop 1 ts → ts ≡ t ∷ rest
first_and_rest [] t rest f e r = absurd f
first_and_rest (u ∷ us) t rest f e r = let s : rest ≡ us = r in sym (ap (λ x. x ∷ rest) e ∙ ap (λ l. u ∷ l) s)

module _ (lock : LockView Crew) (t : Submitter) (rest : List Submitter) (workers : List Worker) (v w : PassView Crew) (one : HasJoined lock (λ (x : Submitter). x.pass) t.pass rest v) (two : HasJoined lock (λ (x : Worker). x.pass) v workers w) where
  rest_taken : HoldsOfEach (λ x. IsTaken w x.pass) rest
  rest_taken = still_taken lock (λ (x : Submitter). x.pass) (λ (x : Worker). x.pass) v w workers rest two one.taken

  pub ends_in : (past : List Entry) → t.pass.number ≡ 0 → IsPrefix w.seen past → own_entries past 0 ≡ w.mine → HasEnded past w.ended → HasAll past (t ∷ rest) workers
  ends_in past zeroth seen mine ended = record {
    of_submitters = (
      (prefix_through t.pass.seen v.seen past one.seen (prefix_through v.seen w.seen past two.seen seen), ap (own_entries past) zeroth ∙ (mine ∙ (two.mine ∙ one.mine))),
      all_in (λ (x : Submitter). x.pass) w past rest seen ended rest_taken,
    );
    of_workers = all_in (λ (x : Worker). x.pass) w past workers seen ended two.taken;
  }

  of_either : (n : ℕ) → 0 < n → t.pass.number ≡ 0 → HoldsOfSome (λ x. x.pass.number ≡ n) (t ∷ rest) ⊎ HoldsOfSome (λ x. x.pass.number ≡ n) workers → (j : ℕ) × (mine : List Entry) × (get_elem? w.ended j ≡ some (n, mine))
  of_either n low zeroth (inl (inl is)) = absurd (omega (arith, is, zeroth))
  of_either n low zeroth (inl (inr s)) = number_ended (λ (x : Submitter). x.pass) w n rest rest_taken s
  of_either n low zeroth (inr s) = number_ended (λ (x : Worker). x.pass) w n workers two.taken s

  pub all_ended : t.pass.number ≡ 0 → AreAll (t ∷ rest) workers → AllEnded w.made w.ended
  all_ended zeroth all n low high = of_either n low zeroth (all n low (omega (arith, high, two.made, one.made)))

  pub last_moment : (J : Type 0) (drawn served : ℕ) → WasLast (λ (f : FloorView J). f.scheduler.past) crew_of lock.frame w drawn served → LastMoment J lock (t ∷ rest) workers drawn served
  last_moment J drawn served last = record { pass = w; taken = (v, one, two); last = last }
