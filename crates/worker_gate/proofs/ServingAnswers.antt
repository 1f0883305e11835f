-- The meaning of the replies to a worker's calls.
use Rattle.std.proofs.Common.{◌≡◌, ℕ, ◌<◌, ◌≤◌, ◌==◌, ◌⊎◌, Bool, true, false, cond, Option, Some, None, ◌∷◌, [], sym, ap, ◌∙◌, subst, refl, inl, inr, arith, nat_lt}
use Rattle.std.specs.Prelude.{MatchBool, nat_le, is_none}
use Rattle.std.proofs.lemmas.Bool.Decides.{nat_tests}
use Rattle.fq_model.specs.declared.config.Config.{Config}
use Rattle.fq_model.specs.declared.event.Act.TheVariants.{Take, Report, Done}
use Rattle.fq_model.specs.declared.event.Call.TheVariants as call
use Rattle.fq_model.specs.declared.event.Cause.{Cause}
use Rattle.fq_model.specs.declared.event.Cause.TheVariants as cause
use Rattle.fq_model.specs.declared.event.Reply.{Reply}
use Rattle.fq_model.specs.declared.event.Reply.TheVariants as answer
use Rattle.fq_model.specs.History.{History, is_closed, waiting, pool_at, running_on, last_use}
use Rattle.fq_model.specs.Rules.{first_true, Answers, IsAnswered, IsAccepted, RefusedOrElse, AnswersFree, AnswersPooled, RunsChosen, FitsTake, RunsNothing, IsLegal, needed_room, request_on, take_refusal, report_refusal, done_refusal}
use Rattle.fq_model.specs.Time.{effective_moment}
use Rattle.fq_laws.specs.Words.{one_more}
use Rattle.fq_laws.proofs.Rules.Answers.{accepted_legal}
use Rattle.fq_laws.proofs.Rules.Refusals.{le_false, take_free, done_fits, refused_keeps, request_on_is}
use Rattle.vt_fixed.specs.declared.limits.TheConstants.{GREATEST_COST}

known_test : (w i : ℕ) → i < w → nat_le w i ≡ false
known_test w i h = grind (arith, nat_tests)

not_above : (a b : ℕ) → b ≤ a → nat_lt a b ≡ false
not_above a b h = grind (arith, nat_tests)

above : (a b : ℕ) → nat_lt a b ≡ true → a < b
above a b h = grind (arith, nat_tests)

-- ---- a Take

-- the worker is not given a request
abbrev pub IsStill : Reply → Type 0
IsStill (answer.Run request estimate label) = ⊥
IsStill _ = Unit {0}

-- the worker is given no request, and the history stays, or it takes the chosen request
abbrev pub TakeMeans : Config → History → ℕ → ℕ → ℕ → Reply → History → Type 0
TakeMeans C P who m i reply Q =
    ((Q ≡ P) × IsStill reply) ⊎ ((x : RunsChosen C P who m i reply Q) × FitsTake C P (effective_moment P m) i x.request x.estimate)

still : (P Q : History) (wanted reply : Reply) → IsStill wanted → IsAnswered P wanted reply Q → (Q ≡ P) × IsStill reply
still P Q wanted reply is x = (x.1, subst IsStill (sym x.0) is)

rest_still : (closed : Bool) → IsStill (cond closed answer.Drained answer.Idle)
rest_still true = tt
rest_still false = tt

pooled : (C : Config) (P : History) (who m i : ℕ) (b : Bool) (reply : Reply) (Q : History) → i < pool_at C P → RunsNothing P i → MatchBool b (IsAnswered P (cond (is_closed P) answer.Drained answer.Idle) reply Q) (RunsChosen C P who m i reply Q) → TakeMeans C P who m i reply Q
pooled C P who m i true reply Q known none x = inl (still P Q _ reply (rest_still (is_closed P)) x)
pooled C P who m i false reply Q known none x = inr (x, record { worker_known = known; free = none; asked = x.asked; chosen = x.chosen })

free : (C : Config) (P : History) (who m i : ℕ) (b : Bool) (reply : Reply) (Q : History) → nat_le (pool_at C P) i ≡ b → RunsNothing P i → MatchBool b (IsAnswered P (answer.Retired (pool_at C P)) reply Q) (AnswersPooled C P who m i reply Q) → TakeMeans C P who m i reply Q
free C P who m i true reply Q e none x = inl (still P Q _ reply tt x)
free C P who m i false reply Q e none x = pooled C P who m i (waiting P == 0) reply Q (le_false (pool_at C P) i e) none x

refused_or : (C : Config) (P : History) (who m i : ℕ) (o : Option Cause) (reply : Reply) (Q : History) → IsLegal C P → take_refusal C P i ≡ o → RefusedOrElse o P reply Q (AnswersFree C P who m i reply Q) → TakeMeans C P who m i reply Q
refused_or C P who m i (Some c) reply Q l e x = inl (still P Q (answer.Refused c) reply tt x)
refused_or C P who m i None reply Q l e x = free C P who m i (nat_le (pool_at C P) i) reply Q refl (take_free C P i l e) x

pub take_means : (C : Config) (P : History) (who m i : ℕ) (reply : Reply) (Q : History) → IsLegal C P → Answers C P (call.Take who m i) reply Q → TakeMeans C P who m i reply Q
take_means C P who m i reply Q l x = refused_or C P who m i (take_refusal C P i) reply Q l refl x

pub take_legal : (C : Config) (P : History) (who m i : ℕ) (reply : Reply) (Q : History) → IsLegal C P → TakeMeans C P who m i reply Q → IsLegal C Q
take_legal C P who m i reply Q l (inl x) = subst (IsLegal C) (sym x.0) l
take_legal C P who m i reply Q l (inr (x, fits)) = subst (IsLegal C) (sym x.accepted.1) (accepted_legal C P who m (Take i x.request x.estimate) l fits)

-- ---- a Report and a Done

-- there was no room for the Report, or it is made
abbrev pub ReportMeans : Config → History → ℕ → ℕ → ℕ → ℕ → ℕ → Reply → History → Type 0
ReportMeans C P who m i r used reply Q =
    ((reply ≡ answer.Refused (cause.Full C.entries)) × (Q ≡ P) × (C.entries < needed_room P 2))
    ⊎ ((reply ≡ answer.Accepted) × (Q ≡ one_more who (effective_moment P m) (Report i r used) P))

full_row : (a b c d f : Bool) (w x y z u : Cause) → a ≡ false → b ≡ false → c ≡ false → d ≡ false → first_true ((a, w) ∷ (b, x) ∷ (c, y) ∷ (d, z) ∷ (f, u) ∷ []) ≡ cond f (Some u) None
full_row true b c d f w x y z u h i j k = absurd (cc)
full_row false true c d f w x y z u h i j k = absurd (cc)
full_row false false true d f w x y z u h i j k = absurd (cc)
full_row false false false true f w x y z u h i j k = absurd (cc)
full_row false false false false true w x y z u h i j k = refl
full_row false false false false false w x y z u h i j k = refl

no_row : (a b c d : Bool) (w x y z : Cause) → a ≡ false → b ≡ false → c ≡ false → d ≡ false → first_true ((a, w) ∷ (b, x) ∷ (c, y) ∷ (d, z) ∷ []) ≡ None
no_row true b c d w x y z h i j k = absurd (cc)
no_row false true c d w x y z h i j k = absurd (cc)
no_row false false true d w x y z h i j k = absurd (cc)
no_row false false false true w x y z h i j k = absurd (cc)
no_row false false false false w x y z h i j k = refl

module _ (C : Config) (P : History) (who m i r used : ℕ) (known : i < C.workers) (runs : running_on P i ≡ Some r) (low : last_use P r ≤ used) (limit : used ≤ GREATEST_COST) where
  not_falling : nat_lt used (last_use P (request_on P i)) ≡ false
  not_falling = ap (λ q. nat_lt used (last_use P q)) (request_on_is P i r runs) ∙ not_above used (last_use P r) low

  made : (reply : Reply) (Q : History) → IsAccepted P who m (Report i (request_on P i) used) answer.Accepted reply Q → (reply ≡ answer.Accepted) × (Q ≡ one_more who (effective_moment P m) (Report i r used) P)
  made reply Q x = (x.0, x.1 ∙ ap (λ q. one_more who (effective_moment P m) (Report i q used) P) (request_on_is P i r runs))

  reported : (full : Bool) (reply : Reply) (Q : History) → nat_lt C.entries (needed_room P 2) ≡ full → RefusedOrElse (cond full (Some (cause.Full C.entries)) None) P reply Q (IsAccepted P who m (Report i (request_on P i) used) answer.Accepted reply Q) → ReportMeans C P who m i r used reply Q
  reported true reply Q e x = inl (x.0, x.1, above C.entries (needed_room P 2) e)
  reported false reply Q e x = inr (made reply Q x)

  pub report_means : (reply : Reply) (Q : History) → Answers C P (call.Report who m i used) reply Q → ReportMeans C P who m i r used reply Q
  report_means reply Q x =
      let full : Bool = nat_lt C.entries (needed_room P 2) in
      let is : report_refusal C P i used ≡ cond full (Some (cause.Full C.entries)) None = full_row _ _ _ _ full _ _ _ _ _ (known_test C.workers i known) (ap is_none runs) (not_above GREATEST_COST used limit) not_falling in
      reported full reply Q refl (subst (λ o. RefusedOrElse o P reply Q (IsAccepted P who m (Report i (request_on P i) used) answer.Accepted reply Q)) is x)

  pub done_means : (reply : Reply) (Q : History) → Answers C P (call.Done who m i used) reply Q → (reply ≡ answer.Accepted) × (Q ≡ one_more who (effective_moment P m) (Done i r used) P)
  done_means reply Q x =
      let is : done_refusal C P i used ≡ None = no_row _ _ _ _ _ _ _ _ (known_test C.workers i known) (ap is_none runs) (not_above GREATEST_COST used limit) not_falling in
      let y : IsAccepted P who m (Done i (request_on P i) used) answer.Accepted reply Q = subst (λ o. RefusedOrElse o P reply Q (IsAccepted P who m (Done i (request_on P i) used) answer.Accepted reply Q)) is x in
      (y.0, y.1 ∙ ap (λ q. one_more who (effective_moment P m) (Done i q used) P) (request_on_is P i r runs))

pub done_legal : (C : Config) (P : History) (who m i cost : ℕ) (reply : Reply) (Q : History) → IsLegal C P → Answers C P (call.Done who m i cost) reply Q → IsLegal C Q
done_legal C P who m i cost reply Q l x =
    refused_keeps (done_refusal C P i cost) P reply Q _ (IsLegal C) l (λ e y. subst (IsLegal C) (sym y.1) (accepted_legal C P who m (Done i (request_on P i) cost) l (done_fits C P i cost l e))) x
