-- Worked histories of a service, worked by hand: reports, fewer workers, schedulers that follow one another, a close,
-- and a worker that stays free.
use Rattle.std.specs.Prelude.{ℕ, zero, suc, ◌+◌, List, [], ◌∷◌, ◌++◌, Some, None}
use Rattle.service_model.specs.declared.call.ServiceCall.TheVariants.{Cancel, Next, Used, Finish, Weight, Limit, Workers, Close}
use Rattle.service_model.specs.declared.config.ServiceConfig.{ServiceConfig}
use Rattle.service_model.specs.declared.outcome.ServiceOutcome.TheVariants.{Ticket, Cancelled, Rest, Accepted, Refused}
use Rattle.service_model.specs.declared.refusal.ServiceRefusal.TheVariants as cause
use Rattle.service_model.specs.Worked.{one_tenant, limit_config}
use Rattle.service_model.specs.Examples.{Row, Example, submit, granted, scheduler_for, plain}

-- ---- reports

abbrev pub report_config : ServiceConfig
report_config = record one_tenant { refresh = 10 }

-- A use at the estimate is no news, and one above it is reported. Of that report, 150, a quarter is 37: 186 is not
-- reported, and 187 is.
abbrev pub reports_by_growth : Example
reports_by_growth = record {
  config = report_config;
  rows =
      (submit 0 0 0 0 100 10, Ticket 0, 1)
      ∷ (Next 0, granted 10 0 0 0 0 100 0, 2)
      ∷ (Used 1 0 0, Accepted, 2)
      ∷ (Used 1 0 100, Accepted, 2)
      ∷ (Used 2 0 150, Accepted, 3)
      ∷ (Used 3 0 186, Accepted, 3)
      ∷ (Used 4 0 187, Accepted, 4)
      ∷ (Used 5 1 300, Refused cause.NotRunning, 4)
      ∷ (Finish 6 0 20, Accepted, 5)
      ∷ [];
}

-- Two workers, and requests of two tenants.
abbrev pub clock_config : ServiceConfig
clock_config = record (plain (scheduler_for 2 (1 ∷ 1 ∷ []) 1 4)) { refresh = 10 }

-- The clock reports what a request has run for, once that is above its estimate, and where a worker is asked: nothing
-- is asked while nothing waits.
abbrev pub reports_by_clock : Example
reports_by_clock = record {
  config = clock_config;
  rows =
      (submit 0 0 0 0 100 10, Ticket 0, 1)
      ∷ (Next 0, granted 10 0 0 0 0 100 0, 2)
      ∷ (Next 150, Rest None, 2)
      ∷ (submit 150 1 0 0 100 11, Ticket 1, 3)
      ∷ (Next 150, granted 11 1 1 1 0 100 0, 5)
      ∷ [];
}

-- ---- the number of workers

abbrev pub three_workers : ServiceConfig
three_workers = plain (scheduler_for 3 (1 ∷ []) 1 4)

-- Three requests run, and one waits, when the number of workers is lowered to one. Worker 0 is free soon, and gets
-- nothing as long as any other runs.
abbrev pub fewer_workers : Example
fewer_workers = record {
  config = three_workers;
  rows =
      (submit 0 0 0 0 5 10, Ticket 0, 1)
      ∷ (submit 0 0 0 0 5 11, Ticket 1, 2)
      ∷ (submit 0 0 0 0 5 12, Ticket 2, 3)
      ∷ (submit 0 0 0 0 5 13, Ticket 3, 4)
      ∷ (Next 0, granted 10 0 0 0 0 5 0, 5)
      ∷ (Next 0, granted 11 1 1 0 0 5 0, 6)
      ∷ (Next 0, granted 12 2 2 0 0 5 0, 7)
      ∷ (Next 0, Rest None, 7)
      ∷ (Workers 1 4, Refused (cause.Workers 4), 7)
      ∷ (Workers 1 1, Accepted, 8)
      ∷ (Finish 2 0 5, Accepted, 9)
      ∷ (Next 2, Rest None, 9)
      ∷ (Finish 3 1 5, Accepted, 10)
      ∷ (Next 3, Rest None, 10)
      ∷ (Finish 4 2 5, Accepted, 11)
      ∷ (Next 4, granted 13 3 0 0 0 5 4, 12)
      ∷ [];
}

-- ---- rolling over

-- Two places, one worker, and so 20 entries.
abbrev pub rolling_config : ServiceConfig
rolling_config = record (plain (scheduler_for 1 (1 ∷ 1 ∷ []) 1 2)) { room_per_tenant = 2; most_running = 2 }

-- this many accepted weights, where there are this many entries before
abbrev pub weights_from : (entries count : ℕ) → List Row
weights_from entries zero = []
weights_from entries (suc count) = (Weight 1 1 7, Accepted, entries + 1) ∷ weights_from (entries + 1) count

-- One request runs, one waits, and one is held. A weight finds room up to 16 entries: the one that waits may need 2,
-- the one that runs 1, and 2 are for the weight and the close. The next weight finds none, and the next scheduler
-- follows. The request that waits moves to it, which is its first entry, and the weight is the second. Request 0 runs
-- on in the former, and so there is no third scheduler: after 15 weights more, of 17 entries, a weight is refused,
-- and a limit that lets request 2 go doesn't help it. When request 0 has ended it goes, by way of the third
-- scheduler, to which both that wait are submitted.
abbrev pub rolls_over : Example
rolls_over = record {
  config = rolling_config;
  rows =
      (submit 0 0 0 0 5 10, Ticket 0, 1)
      ∷ (Next 0, granted 10 0 0 0 0 5 0, 2)
      ∷ (submit 0 0 0 0 5 11, Ticket 1, 3)
      ∷ (submit 0 0 0 0 5 12, Ticket 2, 3)
      ∷ weights_from 3 13
      ++ (Weight 2 1 8, Accepted, 2)
      ∷ weights_from 2 15
      ++ (Weight 3 1 9, Refused cause.Full, 17)
      ∷ (Limit 3 0 3, Accepted, 17)
      ∷ (Finish 4 0 5, Accepted, 2)
      ∷ (Next 4, granted 11 1 0 0 0 5 4, 3)
      ∷ [];
}

-- Three places, two workers, and so 32 entries. Of a tenant one request may be forwarded and not ended.
abbrev pub waiting_config : ServiceConfig
waiting_config = record (plain (scheduler_for 2 (1 ∷ 1 ∷ []) 1 3)) { room_per_tenant = 3; most_running = 1 }

-- A request of tenant 0 runs in the former scheduler, and the present one is full. Tenant 1 takes back the request
-- that waits there, so that the one that it holds passes its limit; but there is no room, and no third scheduler yet.
-- When the request of tenant 0 has ended, what the others hold goes, too, by way of the third scheduler.
abbrev pub former_ends : Example
former_ends = record {
  config = waiting_config;
  rows =
      (submit 0 0 0 0 5 10, Ticket 0, 1)
      ∷ (Next 0, granted 10 0 0 0 0 5 0, 2)
      ∷ (submit 0 1 0 0 5 11, Ticket 1, 3)
      ∷ (submit 0 1 0 0 5 12, Ticket 2, 3)
      ∷ weights_from 3 25
      ++ (Weight 2 1 8, Accepted, 2)
      ∷ weights_from 2 27
      ++ (Weight 3 1 9, Refused cause.Full, 29)
      ∷ (Cancel 3 1, Cancelled 11, 30)
      ∷ (Next 3, Rest None, 30)
      ∷ (Finish 4 0 5, Accepted, 1)
      ∷ (Next 4, granted 12 2 0 1 0 5 4, 2)
      ∷ [];
}

-- ---- the close

-- Of the tenant one request may be forwarded and not ended, and one is held at the close. It goes when the first has
-- ended, and only then the scheduler is closed, too.
abbrev pub closes_late : Example
closes_late = record {
  config = limit_config;
  rows =
      (submit 0 0 0 0 5 10, Ticket 0, 1)
      ∷ (submit 0 0 0 0 5 11, Ticket 1, 1)
      ∷ (Close 1, Accepted, 1)
      ∷ (submit 1 0 0 0 5 12, Refused cause.Closed, 1)
      ∷ (Weight 1 0 3, Refused cause.Closed, 1)
      ∷ (Next 1, granted 10 0 0 0 0 5 1, 2)
      ∷ (Finish 6 0 5, Accepted, 5)
      ∷ (Close 6, Refused cause.Closed, 5)
      ∷ (Next 6, granted 11 1 0 0 0 5 6, 6)
      ∷ (Limit 7 0 2, Accepted, 6)
      ∷ (Finish 8 0 5, Accepted, 7)
      ∷ (Next 8, Rest None, 7)
      ∷ [];
}

-- ---- workers that stay free

-- Two workers, which may stay free all the time.
abbrev pub idle_config : ServiceConfig
idle_config = record (plain (scheduler_for 2 (1 ∷ 1 ∷ []) 1 4)) { idle_ppm = 1000000 }

-- A request of cost 100 ran for 1,400 microseconds: small ones kept more than a hundredth of a worker busy, in a
-- window of 131,072, and they were of a visitor. So worker 1 declines a request of 8,000 while tenant 0 has one that
-- runs, though nothing else waits, and is asked again after a millisecond. Once tenant 1 alone is there, it takes.
abbrev pub worker_declines : Example
worker_declines = record {
  config = idle_config;
  rows =
      (submit 0 0 0 0 100 10, Ticket 0, 1)
      ∷ (Next 0, granted 10 0 0 0 0 100 0, 2)
      ∷ (Finish 1400 0 100, Accepted, 3)
      ∷ (submit 1400 0 0 0 100 11, Ticket 1, 4)
      ∷ (Next 1400, granted 11 1 0 0 0 100 0, 5)
      ∷ (submit 1400 1 0 0 8000 20, Ticket 2, 6)
      ∷ (Next 1400, Rest (Some 2400), 6)
      ∷ (Next 2400, Rest (Some 3400), 6)
      ∷ (Finish 2500 0 100, Accepted, 7)
      ∷ (Next 2500, granted 20 2 0 1 0 8000 1100, 8)
      ∷ [];
}
