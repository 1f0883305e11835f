-- Every call keeps the past legal and staffed.
use Rattle.std.proofs.Common.{◌≡◌, ℕ, ◌+◌, Bool, true, false, List, [], Option, Some, None, sym, ap, ◌∙◌, subst, ◌==◌, append-nil}
use Rattle.std.specs.Prelude.{MatchBool, nat_le, Result, Ok, Err, IfErr, IfSome}
use Rattle.fq_model.specs.declared.config.Config.{Config}
use Rattle.fq_model.specs.declared.event.Act.{Act}
use Rattle.fq_model.specs.declared.event.Cause.{Cause}
use Rattle.fq_model.specs.declared.event.Entry.{Entry}
use Rattle.fq_model.specs.declared.event.Reply.{Reply}
use Rattle.fq_model.specs.Limits.{InLimits}
use Rattle.fq_model.specs.History.{History, history_of, waiting, pool_at}
use Rattle.fq_model.specs.Rules.{Answers, IsAnswered, IsAccepted, RefusedOrElse, AnswersPooled, RunsChosen, take_refusal, IsLegal}
use Rattle.fq_laws.proofs.Rules.Answers.{answer_legal}
use Rattle.fq_laws.proofs.Rules.Refusals.{refused_keeps}
use Rattle.history_lock.specs.Histories.{IsPrefix}
use Rattle.history_lock.proofs.Histories.{starts_more}
use Rattle.sched_state.specs.Scheduler.{SchedulerView}
use Rattle.sched_state.specs.declared.replies.Refused.{Refused}
use Rattle.sched_state.specs.Replies.{AnswersCall}
use Rattle.desk.specs.declared.floor.Crew.{Crew}
use Rattle.desk.specs.declared.asking.Ask.{Ask}
use Rattle.desk.specs.declared.asking.Ask.TheVariants as ask
use Rattle.desk.specs.declared.asking.DeskReply.{DeskReply}
use Rattle.desk.specs.declared.asking.DeskReply.TheVariants as replies
use Rattle.desk.specs.Staffed.{IsMadeBy, IsStaffed, MayAsk}
use Rattle.status_board.specs.Boards.{BoardView, ReaderView}
use Rattle.desk.specs.Floors.{FloorView, crew_for, crew_of, opened, KeepsFloor}
use Rattle.desk.specs.Growing.{answers_grow}
use Rattle.desk.specs.Shown.{ShownView, board_of, Shows, ShowsPart, AreReaders, AreReadersOf, HaveSeen}
use Rattle.desk.specs.Ending.{IsGivenBack}
use Rattle.desk.specs.Asking.{call_of, reply_of, Suits, AnswersAsk}

-- an accepted call of this act, refused or not, keeps the history staffed
staffed_more : (s who moment : ℕ) (act : Act) (o : Option Cause) (P : History) (wanted reply : Reply) (Q : History) → IsMadeBy s who act → IsStaffed s P → RefusedOrElse o P reply Q (IsAccepted P who moment act wanted reply Q) → IsStaffed s Q
staffed_more s who moment act o P wanted reply Q by st x = refused_keeps o P reply Q _ (IsStaffed s) st (λ _ y. subst (IsStaffed s) (sym y.1) (by, st)) x

pooled : (C : Config) (P : History) (s who moment i : ℕ) (b : Bool) (wanted reply : Reply) (Q : History) → who ≡ s + i → IsStaffed s P → MatchBool b (IsAnswered P wanted reply Q) (RunsChosen C P who moment i reply Q) → IsStaffed s Q
pooled C P s who moment i true wanted reply Q by st x = subst (IsStaffed s) (sym x.1) st
pooled C P s who moment i false wanted reply Q by st x = subst (IsStaffed s) (sym x.accepted.1) (by, st)

free : (C : Config) (P : History) (s who moment i : ℕ) (b : Bool) (wanted reply : Reply) (Q : History) → who ≡ s + i → IsStaffed s P → MatchBool b (IsAnswered P wanted reply Q) (AnswersPooled C P who moment i reply Q) → IsStaffed s Q
free C P s who moment i true wanted reply Q by st x = subst (IsStaffed s) (sym x.1) st
free C P s who moment i false wanted reply Q by st x = pooled C P s who moment i (waiting P == 0) _ reply Q by st x

pub staffed_on : {J : Type 0} (label : J → ℕ) (crew : Crew) (P : History) (who : ℕ) (asked : Ask J) (reply : Reply) (Q : History) → MayAsk crew who asked → IsStaffed crew.submitters P → Answers crew.config P (call_of label who asked) reply Q → IsStaffed crew.submitters Q
staffed_on label crew P who (ask.Submit moment tenant kind declared job) reply Q may st x = staffed_more crew.submitters who moment _ _ P _ reply Q may st x
staffed_on label crew P who (ask.Take moment worker) reply Q may st x =
    refused_keeps (take_refusal crew.config P worker) P reply Q _ (IsStaffed crew.submitters) st (λ _ y. free crew.config P crew.submitters who moment worker (nat_le (pool_at crew.config P) worker) _ reply Q may st y) x
staffed_on label crew P who (ask.Report moment worker used) reply Q may st x = staffed_more crew.submitters who moment _ _ P _ reply Q may st x
staffed_on label crew P who (ask.Done moment worker cost) reply Q may st x = staffed_more crew.submitters who moment _ _ P _ reply Q may st x
staffed_on label crew P who (ask.Close moment) reply Q may st x = staffed_more crew.submitters who moment _ _ P _ reply Q may st x
staffed_on label crew P who (ask.Weight moment tenant weight) reply Q may st x = staffed_more crew.submitters who moment _ _ P _ reply Q may st x
staffed_on label crew P who (ask.Workers moment count) reply Q may st x = staffed_more crew.submitters who moment _ _ P _ reply Q may st x
staffed_on label crew P who (ask.Withdraw moment request) reply Q may st x = staffed_more crew.submitters who moment _ _ P _ reply Q may st x

-- a call keeps the invariant of a floor with this view
pub kept : {J : Type 0} (label : J → ℕ) (before after : SchedulerView J) (s : ℕ) (b : Option BoardView) (seen : FloorView J) (who : ℕ) (asked : Ask J) (reply : Reply) → record { scheduler = before; submitters = s; board = b } ≡ seen → MayAsk (crew_of seen) who asked
    → AnswersCall before (call_of label who asked) reply after → KeepsFloor before s → KeepsFloor after s
kept {J = J} label before after s b seen who asked reply view may a k =
    let crew : Crew = crew_for before.config s b in
    let by : MayAsk crew who asked = subst (λ (f : FloorView J). MayAsk (crew_of f) who asked) (sym view) may in record {
      limits = rw a.config_is k.limits;
      legal = subst (λ (C : Config). IsLegal C (history_of after.past)) (sym a.config_is) (answer_legal before.config (history_of before.past) (call_of label who asked) reply (history_of after.past) k.limits k.legal a.answers);
      staffed = staffed_on label crew (history_of before.past) who asked reply (history_of after.past) by k.staffed a.answers;
    }

-- and answers the call so
pub answers_so : {J : Type 0} (label : J → ℕ) (before after : SchedulerView J) (s : ℕ) (b : Option BoardView) (seen : FloorView J) (who : ℕ) (asked : Ask J) (reply : DeskReply J) → record { scheduler = before; submitters = s; board = b } ≡ seen
    → AnswersCall before (call_of label who asked) (reply_of label reply) after → Suits asked reply → KeepsFloor before s → AnswersAsk label (crew_of seen) seen.scheduler.past who asked reply after.past
answers_so {J = J} label before after s b seen who asked reply view a suits k =
    subst (λ (f : FloorView J). AnswersAsk label (crew_of f) f.scheduler.past who asked reply after.past) view
    (record { legal = k.legal; staffed = k.staffed; answers = a.answers; suits = suits })

-- a refused Submit gives its job back
pub suits_submit : {J : Type 0} (moment tenant kind declared : ℕ) (job : J) (result : Result ℕ (Refused J)) → IfErr result (λ f. f.job ≡ job) → Suits (ask.Submit moment tenant kind declared job) (replies.Submitted result)
suits_submit moment tenant kind declared job (Ok request) back = tt
suits_submit moment tenant kind declared job (Err refused) back = back

-- the answer to a call is the answer to an equal call
pub reply_so : {J : Type 0} (label : J → ℕ) (before after : SchedulerView J) (who : ℕ) (given asked : Ask J) (reply : DeskReply J) → given ≡ asked → AnswersCall before (call_of label who asked) (reply_of label reply) after → AnswersCall before (call_of label who given) (reply_of label reply) after
reply_so {J = J} label before after who given asked reply is a = subst (λ (x : Ask J). AnswersCall before (call_of label who x) (reply_of label reply) after) (sym is) a

pub suits_so : {J : Type 0} (given asked : Ask J) (reply : DeskReply J) → given ≡ asked → Suits asked reply → Suits given reply
suits_so {J = J} given asked reply is a = subst (λ (x : Ask J). Suits x reply) (sym is) a

-- the crew stays
pub crew_stays : {J : Type 0} (before after : SchedulerView J) (s : ℕ) (b b2 : Option BoardView) (seen : FloorView J) → record { scheduler = before; submitters = s; board = b } ≡ seen → after.config ≡ before.config → b2 ≡ b → crew_for after.config s b2 ≡ crew_of seen
crew_stays {J = J} before after s b b2 seen view same board = (λ i. crew_for (same i) s (board i)) ∙ ap (λ (f : FloorView J). crew_of f) view

-- the past goes on, so the past that was shown is a prefix of it
pub shows_part : {J : Type 0} (label : J → ℕ) (before after : SchedulerView J) (s : ℕ) (who : ℕ) (asked : Ask J) (reply : DeskReply J) (shown : Option ShownView)
    → AnswersCall before (call_of label who asked) (reply_of label reply) after → Suits asked reply → KeepsFloor before s → Shows before.config before.past shown → ShowsPart after.config after.past shown
shows_part label before after s who asked reply None a suits k shows = tt
shows_part label before after s who asked reply (Some v) a suits k shows =
    let told : AnswersAsk label (crew_for before.config s None) before.past who asked reply after.past = record { legal = k.legal; staffed = k.staffed; answers = a.answers; suits = suits } in
    let more : IsPrefix before.past after.past = starts_more who before.past after.past before.past (answers_grow label (crew_for before.config s None) before.past who asked reply after.past told) ([], sym (append-nil before.past)) in
    (shows.0 ∙ sym a.config_is, subst (λ P. IsPrefix P after.past) (sym shows.1) more)

-- where a floor keeps its invariant, its scheduler is as a desk gives it back
pub given_back : {J : Type 0} (crew : Crew) (floor : FloorView J) (scheduler : SchedulerView J) → crew_of floor ≡ crew → scheduler ≡ floor.scheduler → KeepsFloor scheduler floor.submitters → IsGivenBack crew scheduler
given_back crew floor scheduler is same k =
    let config : floor.scheduler.config ≡ crew.config = ap (λ (c : Crew). c.config) is in
    let own : scheduler.config ≡ crew.config = ap (λ s. s.config) same ∙ config in record {
      config = own;
      legal = subst (λ (C : Config). IsLegal C (history_of scheduler.past)) own k.legal;
      staffed = subst (λ n. IsStaffed n (history_of scheduler.past)) (ap (λ (c : Crew). c.submitters) is) k.staffed;
    }

-- and so is the board that shows its past
pub shown_back : {J : Type 0} (crew : Crew) (floor : FloorView J) (scheduler : SchedulerView J) (shown : Option ShownView) → crew_of floor ≡ crew → scheduler ≡ floor.scheduler → board_of shown ≡ floor.board → Shows scheduler.config scheduler.past shown
    → Shows crew.config scheduler.past shown × (board_of shown ≡ crew.board)
shown_back crew floor scheduler shown is same board shows = (
  subst (λ (C : Config). Shows C scheduler.past shown) (ap (λ s. s.config) same ∙ ap (λ (c : Crew). c.config) is) shows,
  board ∙ ap (λ (c : Crew). c.board) is,
)

-- the readers of a board have seen prefixes of the past that is shown there
pub all_seen : (C : Config) (P : List Entry) (shown : Option ShownView) (board : Option BoardView) (readers : List ReaderView) → Shows C P shown → board_of shown ≡ board → AreReadersOf board readers → IfSome shown (λ s. HaveSeen s.past readers)
    → HaveSeen P readers
all_seen C P (Some v) board readers shows is own seen = subst (λ (l : List Entry). HaveSeen l readers) shows.1 seen
all_seen C P None board readers shows is own seen = absurd (subst (λ (b : Option BoardView). AreReadersOf b readers) (sym is) own)

-- the readers of a board are of it, where there is one
pub readers_where : (board : Option BoardView) (readers : List ReaderView) → AreReadersOf board readers → IfSome board (λ b. AreReaders b readers)
readers_where None readers own = absurd own
readers_where (Some board) readers own = own

-- a floor that was just opened keeps its invariant
pub opens_keeping : {J : Type 0} (config : Config) (submitters : ℕ) (scheduler : SchedulerView J) (shown : Option ShownView) → scheduler ≡ (opened config submitters None).scheduler → InLimits config → Shows config [] shown
    → KeepsFloor scheduler submitters × Shows scheduler.config scheduler.past shown
opens_keeping {J = J} config submitters scheduler shown is limits shows =
    subst (λ (s : SchedulerView J). KeepsFloor s submitters × Shows s.config s.past shown) (sym is) (record { limits = limits; legal = tt; staffed = tt }, shows)
