-- An entry that may follow a legal history is the entry that its call adds.
use Rattle.std.proofs.Common.{ℕ, ◌<◌, ◌≡◌, ◌∷◌, None, arith, refl}
use Rattle.fq_model.specs.declared.config.Config.{Config}
use Rattle.fq_model.specs.declared.event.Act.{Act}
use Rattle.fq_model.specs.declared.event.Act.TheVariants.{Submit, Take, Report, Done, Close, Weight, Workers, Withdraw}
use Rattle.fq_model.specs.declared.event.Entry.{Entry}
use Rattle.fq_model.specs.declared.event.Reply.{Reply}
use Rattle.fq_model.specs.declared.event.Reply.TheVariants as answer
use Rattle.fq_model.specs.History.{History, request_at}
use Rattle.fq_model.specs.Limits.{InLimits}
use Rattle.fq_model.specs.Rules.{Answers, IsLegal, Fits, close_refusal, label_of}
use Rattle.fq_model.specs.Time.{effective_moment}
use Rattle.fq_laws.specs.Words.{one_more}
use Rattle.fq_laws.proofs.History.Weights.{pool_high}
use Rattle.fq_laws.proofs.History.Workers.{nothing_running}
use Rattle.fq_laws.proofs.Rules.Answers.{answer_one}
use Rattle.fq_laws.proofs.Rules.Passes.{in_order, submit_passes, take_passes, runs, report_passes, done_passes, weight_passes, workers_passes, withdraw_passes, some_waits}
use Rattle.fq_laws.proofs.Rules.Refusals.{request_on_is}
use Rattle.program_model.specs.Journal.{call_of_act, call_of}
use Rattle.sched_state.proofs.CallLemmas.{not_refused, answered_submit, took, answered_close, answered_weight, answered_workers, answered_withdraw}

-- the call of an act that fits at a moment in order adds this act
fits_at : (C : Config) (P : History) (who m : ℕ) (act : Act) → InLimits C → IsLegal C P → m ≡ effective_moment P m → Fits C P m act
    → (reply : Reply) × Answers C P (call_of_act who m act) reply (one_more who m act P)
fits_at C P who m (Submit request tenant kind declared label) limits legal now f =
    (answer.Request request, answered_submit C P who m m request tenant kind declared label label (submit_passes C P request tenant kind declared f) f.numbered refl now)
fits_at C P who m (Take worker request estimate) limits legal now f =
    let known : worker < C.workers = omega (arith, f.worker_known, pool_high C P legal) in
    let none = take_passes C P worker known (nothing_running C P worker legal f.free) in (
      answer.Run request estimate f.asked.label,
      took C P who m m worker request estimate f.asked.label f.asked none f.worker_known (some_waits C P m worker request estimate limits legal f) now refl f.chosen,
    )
fits_at C P who m (Report worker request used) limits legal now f =
    let on = request_on_is P worker request (runs C P legal worker request used f.0) in
    (answer.Accepted, not_refused _ P _ _ _ (report_passes C P legal worker request used f.0 f.1) (rw (on, ← now) (refl, refl)))
fits_at C P who m (Done worker request cost) limits legal now f =
    let on = request_on_is P worker request (runs C P legal worker request cost f) in
    (answer.Accepted, not_refused _ P _ _ _ (done_passes C P legal worker request cost f) (rw (on, ← now) (refl, refl)))
fits_at C P who m Close limits legal now f =
    let open_still : close_refusal P ≡ None = rw f refl in
    (answer.Accepted, answered_close C P who m m open_still now)
fits_at C P who m (Weight tenant weight) limits legal now f = (answer.Accepted, answered_weight C P who m m tenant weight (weight_passes C P tenant weight f) now)
fits_at C P who m (Workers count) limits legal now f = (answer.Accepted, answered_workers C P who m m count (workers_passes C P count f) now)
fits_at C P who m (Withdraw request) limits legal now f =
    (answer.Withdrawn (label_of (request_at P request)), answered_withdraw C P who m m request _ (withdraw_passes P request f) now refl)

-- the call of an entry that may follow is answered by that entry
entry_answers : (C : Config) (P : History) (e : Entry) → InLimits C → IsLegal C (e ∷ P) → (reply : Reply) × Answers C P (call_of e) reply (e ∷ P)
entry_answers C P e limits legal = fits_at C P e.who e.moment e.act limits legal.0 (in_order P e.moment legal.1 legal.2) legal.3

-- and by no other
pub call_enters : (C : Config) (P Q : History) (e : Entry) (reply : Reply) → InLimits C → IsLegal C (e ∷ P) → Answers C P (call_of e) reply Q → Q ≡ e ∷ P
call_enters C P Q e reply limits legal answers =
    let fits = entry_answers C P e limits legal in
    (answer_one C P (call_of e) reply fits.0 Q (e ∷ P) answers fits.1).1
