-- Replies in plain numbers.
use Rattle.std.specs.Prelude.{ℕ, Bool, if◌then◌else◌}
use Rattle.fq_model.specs.declared.event.Cause.{Cause}
use Rattle.fq_model.specs.declared.event.Cause.TheVariants as cause
use Rattle.fq_model.specs.declared.event.Foreseen.{Foreseen}
use Rattle.fq_model.specs.declared.event.Foreseen.TheVariants as foreseen
use Rattle.fq_model.specs.declared.event.ForeseenRun.{ForeseenRun}
use Rattle.fq_model.specs.declared.event.Reply.{Reply}
use Rattle.fq_model.specs.declared.event.Reply.TheVariants as answer
use Rattle.twodfq_c.specs.declared.reply.PlainReply.{PlainReply}

-- a reply that names a request
abbrev pub requested : ℕ → ℕ → ℕ → ℕ → PlainReply
requested kind request first second = record {
  kind = kind;
  request = request;
  first = first;
  second = second;
  tenant = 0;
  request_kind = 0;
  is_eligible = 0;
  has_smaller = 0;
}

-- a reply that names no request
abbrev pub numbered : ℕ → ℕ → ℕ → PlainReply
numbered kind first second = requested kind 0 first second

-- the reply of a handle that holds no scheduler
abbrev pub no_scheduler : PlainReply
no_scheduler = numbered 255 0 0

abbrev pub plain_cause : Cause → PlainReply
plain_cause cause.Closed = numbered 16 0 0
plain_cause (cause.Tenant tenant) = numbered 17 tenant 0
plain_cause (cause.Kind kind) = numbered 18 kind 0
plain_cause (cause.Cost cost) = numbered 19 cost 0
plain_cause (cause.Slots slots) = numbered 20 slots 0
plain_cause (cause.Full entries) = numbered 21 entries 0
plain_cause (cause.Worker worker) = numbered 22 worker 0
plain_cause (cause.Busy request) = requested 23 request 0 0
plain_cause cause.NotRunning = numbered 24 0 0
plain_cause (cause.Falling last given) = numbered 25 last given
plain_cause (cause.Weight weight) = numbered 26 weight 0
plain_cause (cause.Workers workers) = numbered 27 workers 0
plain_cause (cause.NotWaiting request) = requested 28 request 0 0

abbrev pub plain_reply : Reply → PlainReply
plain_reply (answer.Request request) = requested 0 request 0 0
plain_reply (answer.Run request estimate label) = requested 1 request estimate label
plain_reply answer.Accepted = numbered 2 0 0
plain_reply answer.Idle = numbered 3 0 0
plain_reply answer.Drained = numbered 4 0 0
plain_reply (answer.Retired workers) = numbered 5 workers 0
plain_reply (answer.Withdrawn label) = numbered 6 0 label
plain_reply (answer.Refused why) = plain_cause why

-- 1 for true
abbrev pub flag_of : Bool → ℕ
flag_of b = if b then 1 else 0

-- a request that a worker would get
abbrev pub plain_run : ForeseenRun → PlainReply
plain_run run = record {
  kind = 8;
  request = run.request;
  first = run.estimate;
  second = 0;
  tenant = run.tenant;
  request_kind = run.kind;
  is_eligible = flag_of run.is_eligible;
  has_smaller = flag_of run.has_smaller;
}

-- a foreseen take
abbrev pub plain_foreseen : Foreseen → PlainReply
plain_foreseen foreseen.Nothing = numbered 7 0 0
plain_foreseen (foreseen.Run run) = plain_run run
plain_foreseen (foreseen.Retired workers) = numbered 5 workers 0
plain_foreseen (foreseen.Refused why) = plain_cause why
