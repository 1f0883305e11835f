-- The view of a scheduler in contracts.
use Rattle.std.specs.Prelude.{ℕ, List, [], refl}
use Rattle.std.specs.Coded.{Coded, code_by, coded×, coded_list, coded_ℕ}
use Rattle.std.specs.Ordering.{nat_cmp}
use Rattle.std.specs.FinMap as map
use Rattle.fq_model.specs.declared.config.Config.{Config}
use Rattle.fq_model.specs.declared.limits.TheConstants.{MOST_LONG_ENTRIES}
use Rattle.fq_model.specs.declared.event.Entry.{Entry}
use Rattle.fq_model.specs.History.{History}
use Rattle.fq_model.specs.Time.{last_moment}
use Rattle.fq_model.specs.Pace.{virtual_time}
use Rattle.fq_model.specs.contracts.config.Config as config_type
use Rattle.fq_model.specs.contracts.event.Entry as entry_type
use Rattle.sched_state.specs.Lists.{JobMap}

-- a configuration, the entries in order of time, the jobs of the waiting requests, and how many of the last entries are
-- kept at run time
pub record SchedulerView (J : Type 0) : Type 0 where
  pub config : Config
  pub past : List Entry
  pub jobs : JobMap J
  pub keep : ℕ

-- as the tuple of its fields
abbrev pub scheduler_code : {J : Type 0} → Coded J → Coded (SchedulerView J)
scheduler_code {J} c =
    code_by (Config × (List Entry × (JobMap J × ℕ)))
    (coded× config_type.the_row.coded (coded× (coded_list entry_type.the_row.coded)
    (coded× (map.code {R = nat_cmp} coded_ℕ c) coded_ℕ)))
    (λ s. (s.config, (s.past, (s.jobs, s.keep))))
    (λ p. record { config = p.0; past = p.1.0; jobs = p.1.1.0; keep = p.1.1.1 })
    (λ _. refl)

-- a scheduler that keeps this number of its last entries, and that no call came to
abbrev pub opened_keeping : {J : Type 0} → ℕ → Config → SchedulerView J
opened_keeping keep config = record { config = config; past = []; jobs = map.empty; keep = keep }

-- one that keeps all, since no history has more entries
abbrev pub opened : {J : Type 0} → Config → SchedulerView J
opened = opened_keeping MOST_LONG_ENTRIES

-- virtual time at the last entry
abbrev pub virtual_time_now : Config → History → ℕ
virtual_time_now C P = virtual_time C P (last_moment P)
