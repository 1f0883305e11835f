-- The first fault of a configuration, and a service that was just opened.
use Rattle.std.specs.Prelude.{ℕ, ◌+◌, ◌*◌, ◌==◌, not, false, nat_lt, Bool, List, [], ◌∷◌, length, replicate, Option, Some, None}
use Rattle.std.specs.List.{range_with_len}
use Rattle.fq_model.specs.declared.config.Config.{Config}
use Rattle.fq_model.specs.declared.config.ConfigFault.{ConfigFault}
use Rattle.fq_model.specs.Limits.{config_fault}
use Rattle.fq_model.specs.Rows.{first_true}
use Rattle.service_model.specs.declared.config.ServiceConfig.{ServiceConfig}
use Rattle.service_model.specs.declared.config.ServiceFault.{ServiceFault}
use Rattle.service_model.specs.declared.config.ServiceFault.TheVariants as fault
use Rattle.service_model.specs.View.{Scheduler, ServiceView}

-- how many entries each history has at least: 8 for each place of the room, and 4 for each worker
abbrev pub least_entries : Config → ℕ
least_entries C = 8 * C.requests + 4 * C.workers

-- the faults beside those of the scheduler's configuration, in their order
abbrev pub own_faults : ServiceConfig → List (Bool × ServiceFault)
own_faults c = (
  nat_lt c.scheduler.entries (least_entries c.scheduler),
  fault.Entries c.scheduler.entries (least_entries c.scheduler),
)
    ∷ (nat_lt (length c.scheduler.weights) c.named, fault.Named c.named)
    ∷ (not (length c.kind_most_running == c.scheduler.kinds), fault.KindLimits (length c.kind_most_running))
    ∷ (nat_lt 1000000 c.idle_ppm, fault.IdlePart c.idle_ppm)
    ∷ []

-- the first of them that holds, if there is one
abbrev pub own_fault : ServiceConfig → Option ServiceFault
own_fault c = first_true (own_faults c)

abbrev pub first_fault : Option ConfigFault → Option ServiceFault → Option ServiceFault
first_fault None others = others
first_fault (Some f) others = Some (fault.Scheduler f)

-- the first fault of a configuration, if it has one
abbrev pub service_fault : ServiceConfig → Option ServiceFault
service_fault c = first_fault (config_fault c.scheduler) (own_fault c)

-- a scheduler that was just opened
abbrev pub opened_scheduler : Config → Scheduler
opened_scheduler C = record { config = C; history = [] }

-- a service that was just opened: all its slots are idle, by number, and no scheduler came before the first
abbrev pub opened : ServiceConfig → ServiceView
opened c = record {
  admitted = [];
  slots =
      replicate (length c.scheduler.weights) (record { generation = 0; limit = c.most_running; began_to_wait = None });
  idle = range_with_len 0 (length c.scheduler.weights);
  rolls = 0;
  present = opened_scheduler c.scheduler;
  former = opened_scheduler c.scheduler;
  credit = record { idle_ppm = c.idle_ppm; workers = c.scheduler.workers; used = 0; moment = 0 };
  reserve = record { ends = []; visits = [] };
  declining = 0;
  asked_again = 0;
  is_closed = false;
}
