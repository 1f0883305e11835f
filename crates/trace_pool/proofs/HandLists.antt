-- Tokens that become hands one by one.
use Rattle.std.proofs.Common.{ℕ, suc, ◌+◌, ◌<◌, ◌≤◌, ◌≡◌, List, [], ◌∷◌, ◌++◌, length, get_or, take, drop, sym, ap, ◌∙◌, subst, refl, arith, append_assoc}
use Rattle.std.proofs.lemmas.List.{length-append}
use Rattle.program_model.specs.declared.trace.TraceRow.{TraceRow}
use Rattle.history_lock.specs.Passes.{LockView}
use Rattle.desk.specs.declared.floor.Crew.{Crew}
use Rattle.desk.specs.declared.tokens.Submitter.{Submitter}
use Rattle.desk.specs.declared.tokens.Worker.{Worker}
use Rattle.desk.specs.Opening.{AreWorkers, HasMade}
use Rattle.trace_pool.specs.Hands.{TraceHand}
use Rattle.worker_gate.specs.declared.pool.Hand.TheVariants.{Work}
use Rattle.trace_pool.specs.Parts.{KnowsAll, IsCrewOf, IsWorkOf}
use Rattle.trace_pool.specs.Places.{HoldsFrom}
use Rattle.trace_pool.proofs.Places.{holds_more}

-- the first of a list and the others
pub split_first : {A : Type 0} (xs : List A) (x : A) (rest : List A) → 0 < length xs → x ≡ get_or xs 0 x → rest ≡ take 0 xs ++ drop 1 xs → xs ≡ x ∷ rest
split_first [] x rest some is others = absurd (omega (arith, some))
split_first (y ∷ ys) x rest some is others = let same : rest ≡ ys = others in sym (ap (λ z. z ∷ rest) is ∙ ap (λ l. y ∷ l) same)

-- there is room for one more of items that all fit
pub room_for : {A : Type 0} (xs ys all : List A) (x : A) (room most : ℕ) → xs ++ x ∷ ys ≡ all → length all ≤ most → room ≡ most → length xs < room
room_for xs ys all x room most is fit same = let n : length (xs ++ x ∷ ys) ≡ length all = ap length is in omega (arith, n, length-append xs (x ∷ ys), fit, same)

-- an item is laid behind those before it
pub laid_behind : {A : Type 0} (xs ys zs all : List A) (x : A) → zs ≡ xs ++ x ∷ [] → xs ++ x ∷ ys ≡ all → zs ++ ys ≡ all
laid_behind xs ys zs all x more is = ap (λ l. l ++ ys) more ∙ (append_assoc xs (x ∷ []) ys ∙ is)

module _ (lock : LockView Crew) where
  -- the first submitter knows the number of callers
  pub knows_all : (n : ℕ) (t : Submitter) (ts : List Submitter) → (n ≡ 0 → HasMade (lock.frame.submitters + lock.frame.config.workers) (t ∷ ts)) → KnowsAll lock n t
  knows_all n t ts made zeroth = (made zeroth).0

  -- one worker more is given its work
  pub works_more : (rows : List TraceRow) (hands hands2 before : List TraceHand) (t : Worker) (ts : List Worker) (hand : TraceHand) (log : _) → IsCrewOf rows lock
      → (given : List TraceHand) × (hands ≡ before ++ given) × HoldsFrom (IsWorkOf rows lock) 0 given × AreWorkers lock (length given) (t ∷ ts)
      → hands2 ≡ hands ++ hand ∷ [] → hand ≡ Work t log
      → (given : List TraceHand) × (hands2 ≡ before ++ given) × HoldsFrom (IsWorkOf rows lock) 0 given × AreWorkers lock (length given) ts
  works_more rows hands hands2 before t ts hand log crew (given, is, works, tokens) more hand_is =
      let own = tokens.0 in
      let fits : IsWorkOf rows lock (length given) hand =
      subst (IsWorkOf rows lock (length given)) (sym hand_is) (subst (λ s. Rattle.desk.specs.Opening.IsNew lock (s + length given) t.pass) crew own.0, own.1) in
      let longer : length (given ++ hand ∷ []) ≡ suc (length given) = omega (arith, length-append given (hand ∷ [])) in
      (given ++ hand ∷ [], more ∙ (ap (λ l. l ++ hand ∷ []) is ∙ append_assoc before given (hand ∷ [])), holds_more (IsWorkOf rows lock) 0 (length given) given hand works (omega arith) fits, subst (λ n. AreWorkers lock n ts) (sym longer) tokens.1)
