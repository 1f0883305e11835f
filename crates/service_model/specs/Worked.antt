-- Worked histories of a service, worked by hand: who is admitted, what is held, what is late, and who has a slot.
use Rattle.std.specs.Prelude.{[], ◌∷◌, Some, None}
use Rattle.service_model.specs.declared.call.ServiceCall.TheVariants.{Cancel, Next, Finish, Join, Weight, Limit}
use Rattle.service_model.specs.declared.config.ServiceConfig.{ServiceConfig}
use Rattle.service_model.specs.declared.outcome.ServiceOutcome.TheVariants.{Ticket, Cancelled, NotWaiting, Late, Rest, Slot, Accepted, Refused}
use Rattle.service_model.specs.declared.refusal.ServiceRefusal.TheVariants as cause
use Rattle.service_model.specs.Examples.{Example, submit, submit_by, granted, scheduler_for, plain}

-- ---- the room

-- Of 8 places each of two tenants has 2 of its own, and 4 are shared.
abbrev pub shared_config : ServiceConfig
shared_config = plain (scheduler_for 1 (1 ∷ 1 ∷ []) 1 8)

-- Tenant 0 floods: it gets its own places, and shared ones as long as it has fewer of them than are free, which is 2.
-- Tenant 1 gets its own places, up to the last, and the last shared one that it may have: 1 of the 2 that are free.
-- One shared place is left then, and neither gets it. When tenant 0 leaves a shared place there are 2 for tenant 1,
-- which has 1 and gets one more; again one is left, and tenant 0, which has 1, does not get it.
abbrev pub flood_beside_trickle : Example
flood_beside_trickle = record {
  config = shared_config;
  rows =
      (submit 0 0 0 0 5 10, Ticket 0, 1)
      ∷ (submit 0 0 0 0 5 11, Ticket 1, 2)
      ∷ (submit 0 0 0 0 5 12, Ticket 2, 3)
      ∷ (submit 0 0 0 0 5 13, Ticket 3, 4)
      ∷ (submit 0 0 0 0 5 14, Refused cause.TenantFull, 4)
      ∷ (submit 1 1 0 0 5 20, Ticket 4, 5)
      ∷ (submit 1 1 0 0 5 21, Ticket 5, 6)
      ∷ (submit 1 1 0 0 5 22, Ticket 6, 7)
      ∷ (submit 1 1 0 0 5 23, Refused cause.TenantFull, 7)
      ∷ (submit 1 0 0 0 5 14, Refused cause.TenantFull, 7)
      ∷ (Cancel 2 2, Cancelled 12, 8)
      ∷ (submit 2 1 0 0 5 23, Ticket 7, 9)
      ∷ (submit 2 0 0 0 5 14, Refused cause.TenantFull, 9)
      ∷ [];
}

-- Of 5 places each of two tenants may have 3, and tenant 0 is there first.
abbrev pub counted_config : ServiceConfig
counted_config = record (plain (scheduler_for 1 (1 ∷ 1 ∷ []) 1 5)) { room_per_tenant = 3 }

abbrev pub places_by_tenant : Example
places_by_tenant = record {
  config = counted_config;
  rows =
      (submit 0 0 0 0 5 10, Ticket 0, 1)
      ∷ (submit 0 0 0 0 5 11, Ticket 1, 2)
      ∷ (submit 0 0 0 0 5 12, Ticket 2, 3)
      ∷ (submit 0 0 0 0 5 13, Refused cause.TenantFull, 3)
      ∷ (submit 0 1 0 0 5 20, Ticket 3, 4)
      ∷ (submit 0 1 0 0 5 21, Ticket 4, 5)
      ∷ (submit 0 1 0 0 5 22, Refused cause.TooManyWait, 5)
      ∷ [];
}

-- ---- limits

-- Two workers; of a tenant one request may be forwarded and not ended.
abbrev pub limit_config : ServiceConfig
limit_config = record (plain (scheduler_for 2 (1 ∷ []) 1 4)) { most_running = 1 }

-- The limit is met, and the second request is held though a worker is free. It goes once the limit is raised. The
-- limit is lowered while two run, which go on: the third request is held until both have ended.
abbrev pub limit_moves : Example
limit_moves = record {
  config = limit_config;
  rows =
      (submit 0 0 0 0 5 10, Ticket 0, 1)
      ∷ (submit 0 0 0 0 5 11, Ticket 1, 1)
      ∷ (Next 1, granted 10 0 0 0 0 5 1, 2)
      ∷ (Next 1, Rest None, 2)
      ∷ (Limit 2 0 2, Accepted, 3)
      ∷ (Next 2, granted 11 1 1 0 0 5 2, 4)
      ∷ (Limit 3 0 1, Accepted, 4)
      ∷ (submit 3 0 0 0 5 12, Ticket 2, 4)
      ∷ (Finish 4 0 5, Accepted, 5)
      ∷ (Next 4, Rest None, 5)
      ∷ (Finish 5 1 5, Accepted, 7)
      ∷ (Next 5, granted 12 2 0 0 0 5 2, 8)
      ∷ [];
}

-- Of a tenant two requests may be forwarded and not ended, of its kind 0 one.
abbrev pub kinds_config : ServiceConfig
kinds_config = record (plain (scheduler_for 2 (1 ∷ []) 2 4)) { most_running = 2; kind_most_running = 1 ∷ 0 ∷ [] }

-- One of each kind runs, and one of each is held, that of kind 0 first. When the one of kind 1 ends the younger goes,
-- since kind 0 is at its limit.
abbrev pub younger_goes : Example
younger_goes = record {
  config = kinds_config;
  rows =
      (submit 0 0 0 0 5 10, Ticket 0, 1)
      ∷ (submit 0 0 0 1 5 11, Ticket 1, 2)
      ∷ (submit 0 0 0 0 5 12, Ticket 2, 2)
      ∷ (submit 0 0 0 1 5 13, Ticket 3, 2)
      ∷ (Next 0, granted 10 0 0 0 0 5 0, 3)
      ∷ (Next 0, granted 11 1 1 0 1 5 0, 4)
      ∷ (Finish 5 1 5, Accepted, 6)
      ∷ (Next 5, granted 13 3 1 0 1 5 5, 7)
      ∷ (Next 5, Rest None, 7)
      ∷ (Finish 6 0 5, Accepted, 9)
      ∷ (Next 6, granted 12 2 0 0 0 5 6, 10)
      ∷ [];
}

-- ---- deadlines

abbrev pub one_tenant : ServiceConfig
one_tenant = plain (scheduler_for 1 (1 ∷ []) 1 4)

-- A request is granted at its deadline still. Of three that wait at moment 11 one was due at 9, and two at 10: the
-- least deadline goes first, then the lower ticket.
abbrev pub late_in_order : Example
late_in_order = record {
  config = one_tenant;
  rows =
      (submit_by 4 5 0 0 0 5 10, Refused (cause.Late 4), 0)
      ∷ (submit_by 5 5 0 0 0 5 10, Ticket 0, 1)
      ∷ (Next 5, granted 10 0 0 0 0 5 0, 2)
      ∷ (submit_by 10 6 0 0 0 5 11, Ticket 1, 3)
      ∷ (submit_by 10 6 0 0 0 5 12, Ticket 2, 4)
      ∷ (submit_by 9 6 0 0 0 5 13, Ticket 3, 5)
      ∷ (Next 6, Rest (Some 10), 5)
      ∷ (Next 9, Rest (Some 10), 5)
      ∷ (Finish 11 0 5, Accepted, 6)
      ∷ (Next 11, Late 13 3, 7)
      ∷ (Next 11, Late 11 1, 8)
      ∷ (Next 11, Late 12 2, 9)
      ∷ (Next 11, Rest None, 9)
      ∷ [];
}

-- ---- slots

-- Slot 0 has a tenant from the opening on, and slot 1 is joined.
abbrev pub joined_config : ServiceConfig
joined_config = record (plain (scheduler_for 1 (1 ∷ 1 ∷ []) 1 4)) { named = 1 }

-- A weight may be set before anybody has joined. The first tenant of slot 1 gets its last answer, and its slot is
-- given away. Who still has its ticket and generation can do nothing with them.
abbrev pub slot_given_away : Example
slot_given_away = record {
  config = joined_config;
  rows =
      (submit 0 1 0 0 5 9, Refused (cause.Tenant 1), 0)
      ∷ (Weight 0 1 3, Accepted, 1)
      ∷ (Weight 0 2 3, Refused (cause.Tenant 2), 1)
      ∷ (Join 0 1, Slot 1 1, 2)
      ∷ (submit 0 1 1 0 5 10, Ticket 0, 3)
      ∷ (Join 1 1, Refused cause.NoSlot, 3)
      ∷ (Next 1, granted 10 0 0 1 0 5 1, 4)
      ∷ (Join 2 1, Refused cause.NoSlot, 4)
      ∷ (Finish 3 0 5, Accepted, 5)
      ∷ (Join 4 1, Slot 1 2, 5)
      ∷ (Cancel 5 0, NotWaiting, 5)
      ∷ (submit 5 1 1 0 5 11, Refused (cause.Tenant 1), 5)
      ∷ (submit 5 1 2 0 5 11, Ticket 1, 6)
      ∷ (submit 5 1 0 0 5 11, Refused (cause.Tenant 1), 6)
      ∷ [];
}
