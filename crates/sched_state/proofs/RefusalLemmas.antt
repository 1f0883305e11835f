-- Why a report is refused.
use Rattle.std.proofs.Common.{ℕ, ◌≡◌, nat_lt, Bool, true, false, cond, refl, sym, ap, ◌∙◌, List, [], ◌∷◌, ◌++◌, Option, Some, None}
use Rattle.std.specs.Prelude.{Result}
use Rattle.std.specs.Result.{IsErrAnd, result_err}
use Rattle.std.proofs.lemmas.Result.{err_from_is_err_and}
use Rattle.fq_model.specs.declared.config.Config.{Config}
use Rattle.fq_model.specs.declared.event.Cause.{Cause}
use Rattle.fq_model.specs.declared.event.Cause.TheVariants as cause
use Rattle.fq_model.specs.History.{History}
use Rattle.fq_model.specs.Rules.{first_true, use_refusals, done_refusal, report_refusal, needed_room}
use Rattle.sched_state.specs.Refusals.{room_refusal}

refused_by : (b : Bool) (c d : Cause) (rest whole : Option Cause) → (rest ≡ Some d → whole ≡ Some d) → cond b (Some c) rest ≡ Some d → cond b (Some c) whole ≡ Some d
refused_by true c d rest whole go e = e
refused_by false c d rest whole go e = go e

passed_by : (b : Bool) (c : Cause) (rest whole more : Option Cause) → (rest ≡ None → whole ≡ more) → cond b (Some c) rest ≡ None → cond b (Some c) whole ≡ more
passed_by true c rest whole more go e = absurd (cc)
passed_by false c rest whole more go e = go e

refused_before : (rows more : List (Bool × Cause)) (c : Cause) → first_true rows ≡ Some c → first_true (rows ++ more) ≡ Some c
refused_before [] more c e = absurd (cc)
refused_before (row ∷ rows) more c e = refused_by row.0 row.1 c (first_true rows) (first_true (rows ++ more)) (refused_before rows more c) e

not_refused_before : (rows more : List (Bool × Cause)) → first_true rows ≡ None → first_true (rows ++ more) ≡ first_true more
not_refused_before [] more e = refl
not_refused_before (row ∷ rows) more e = passed_by row.0 row.1 (first_true rows) (first_true (rows ++ more)) (first_true more) (not_refused_before rows more) e

-- the row for want of room
abbrev pub room_row : Config → History → List (Bool × Cause)
room_row C P = (nat_lt C.entries (needed_room P 2), cause.Full C.entries) ∷ []

-- refused as the same use would be at a Done
pub report_refused : (C : Config) (P : History) (worker used : ℕ) (c : Cause) → done_refusal C P worker used ≡ Some c → report_refusal C P worker used ≡ Some c
report_refused C P worker used c e = refused_before (use_refusals C P worker used) (room_row C P) c e

-- or else for want of room
pub report_unless_full : (C : Config) (P : History) (worker used : ℕ) → done_refusal C P worker used ≡ None → report_refusal C P worker used ≡ room_refusal C P 2
report_unless_full C P worker used e = not_refused_before (use_refusals C P worker used) (room_row C P) e

-- an error with this cause
pub told_cause : {A : Type 0} (r : Result A Cause) (c : Cause) (o : Option Cause) → IsErrAnd r (λ d. d ≡ c) → o ≡ Some c → result_err r ≡ o
told_cause r c o is e = let x = err_from_is_err_and r is in ap (λ (s : Result _ Cause). result_err s) x.1 ∙ (ap (λ (d : Cause). Some d) x.2 ∙ sym e)
