-- The tokens that are split off one by one.
use Rattle.std.proofs.Common.{◌≡◌, ℕ, suc, ◌+◌, List, [], ◌∷◌, ◌++◌, length, ◌∙◌, subst, arith}
use Rattle.history_lock.specs.Passes.{LockView, PassView, IsOf}
use Rattle.desk.specs.declared.floor.Crew.{Crew}
use Rattle.desk.specs.declared.tokens.Submitter.{Submitter}
use Rattle.desk.specs.declared.tokens.Worker.{Worker}
use Rattle.desk.specs.Opening.{IsNew, IsSplit, AreSubmitters, AreWorkers}

module _ (lock : LockView Crew) where
  pub split_on : (k n : ℕ) (old new : PassView Crew) → IsSplit lock k old → IsOf lock new → new.number ≡ 0 → new.seen ≡ old.seen → new.mine ≡ old.mine → new.made ≡ old.made + 1 → new.ended ≡ old.ended → n ≡ k + 1 → IsSplit lock n new
  split_on k n old new s own number seen mine made ended is = record {
    new = record { own = own; numbered = number; seen = seen ∙ s.new.seen; mine = mine ∙ s.new.mine };
    made_is = omega (arith, made, s.made_is, is);
    ended = ended ∙ s.ended;
  }

  pub new_pass : (k n : ℕ) (old p : PassView Crew) → IsSplit lock k old → IsOf lock p → p.number ≡ old.made + 1 → p.seen ≡ old.seen → p.mine ≡ [] → n ≡ k + 1 → IsNew lock n p
  new_pass k n old p s own number seen mine is = record { own = own; numbered = omega (arith, number, s.made_is, is); seen = seen ∙ s.new.seen; mine = mine }

  pub submitters_more : (from n : ℕ) (ts : List Submitter) (t : Submitter) → AreSubmitters lock from ts → IsNew lock n t.pass → n ≡ from + length ts → AreSubmitters lock from (ts ++ t ∷ [])
  submitters_more from n [] t a x e = let same : n ≡ from = omega arith in (subst (λ k. IsNew lock k t.pass) same x, tt)
  submitters_more from n (u ∷ ts) t a x e = let more : n ≡ suc from + length ts = omega arith in (a.0, submitters_more (suc from) n ts t a.1 x more)

  pub workers_more : (from n : ℕ) (ts : List Worker) (t : Worker) → AreWorkers lock from ts → IsNew lock (lock.frame.submitters + n) t.pass → t.worker ≡ n → n ≡ from + length ts → AreWorkers lock from (ts ++ t ∷ [])
  workers_more from n [] t a x is e = let same : n ≡ from = omega arith in ((subst (λ k. IsNew lock (lock.frame.submitters + k) t.pass) same x, is ∙ same), tt)
  workers_more from n (u ∷ ts) t a x is e = let more : n ≡ suc from + length ts = omega arith in (a.0, workers_more (suc from) n ts t a.1 x is more)
