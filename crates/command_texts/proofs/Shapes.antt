-- The answer from a trace that is to be shaped.
use Rattle.std.proofs.Common.{ℕ, ◌<◌, ◌≡◌, ◌∙◌, sym, ap, subst, nat_lt, List, length, Option, Some, None}
use Rattle.std.proofs.lemmas.List.Quantifiers.{position-Some}
use Rattle.program_model.specs.declared.ending.Stop.{Stop}
use Rattle.program_model.specs.declared.trace.TraceRow.{TraceRow}
use Rattle.program_model.specs.Answer.{Answer, Text, Message, message_line}
use Rattle.program_model.specs.Conforms.{IsLeastConforming, too_big, too_late}
use Rattle.program_model.specs.Shaped.{IsShaped}
use Rattle.program_model.specs.ShapeCommand.{late_text, moments_answer, IsBigAnswer, IsSizedAnswer, IsShapedAnswer}
use Rattle.program_model.specs.Trace.{Trace}
use Rattle.program_model.specs.TraceText.{trace_text}
use Rattle.trace_shape.proofs.Sizes.{none_too_big}
use Rattle.trace_shape.specs.Reasons.{IsFirstLate}
use Rattle.command_texts.specs.Making.{IsStop}
use Rattle.command_texts.proofs.Making.{stop_as}

-- the first row that no bucket holds is one of the rows
pub big_within : (T : Trace) (burst r : ℕ) → too_big T burst ≡ Some r → r < length T.rows
big_within T burst r big = (position-Some (λ (row : TraceRow). nat_lt burst row.declared) T.rows r any_row big).0
  where
    any_row : TraceRow
    any_row = record { moment = 0; submitter = 0; tenant = 0; kind = 0; declared = 0; cost = 0 }

-- the answer and the stop where a row declares more than a bucket holds
big_answer : (rate burst : ℕ) (T : Trace) (r : ℕ) (answer : Answer) → too_big T burst ≡ Some r → IsBigAnswer T burst r answer → IsShapedAnswer rate burst T answer
big_answer rate burst T r answer big x = subst (λ first. IsSizedAnswer rate burst T first answer) (sym big) x

pub big_stop : (rate burst : ℕ) (T : Trace) (r : ℕ) (stop : Stop) → too_big T burst ≡ Some r → IsStop (IsBigAnswer T burst r) stop → IsStop (IsShapedAnswer rate burst T) stop
big_stop rate burst T r stop big x = stop_as (IsBigAnswer T burst r) (IsShapedAnswer rate burst T) stop (λ answer y. big_answer rate burst T r answer big y) x

-- where there are least moments, the answer goes by the first that is too late
of_moments : (rate burst : ℕ) (T : Trace) (moments : List ℕ) (late : Option ℕ) (answer : Answer) → IsLeastConforming T rate burst moments → too_late moments ≡ late → answer ≡ moments_answer T moments late → IsShapedAnswer rate burst T answer
of_moments rate burst T moments late answer least is x =
    subst (λ first. IsSizedAnswer rate burst T first answer) (sym (none_too_big T rate burst moments least.conforms))
    (record { moments = moments; least = least; answer_is = x ∙ ap (moments_answer T moments) (sym is) })

pub late_stop : (rate burst : ℕ) (T : Trace) (r : ℕ) (stop : Stop) → IsFirstLate T rate burst r → IsStop (λ answer. answer ≡ Message 7 (message_line (late_text r))) stop → IsStop (IsShapedAnswer rate burst T) stop
late_stop rate burst T r stop h x =
    stop_as (λ answer. answer ≡ Message 7 (message_line (late_text r))) (IsShapedAnswer rate burst T) stop (λ answer y. of_moments rate burst T h.moments (Some r) answer h.least h.late y) x

pub shaped_answer : (rate burst : ℕ) (T S : Trace) (text : List ℕ) → IsShaped T rate burst S → text ≡ trace_text S → IsShapedAnswer rate burst T (Text 0 text)
shaped_answer rate burst T S text h is = of_moments rate burst T h.moments None (Text 0 text) h.least h.in_time (ap (Text 0) (is ∙ ap trace_text h.shaped))
