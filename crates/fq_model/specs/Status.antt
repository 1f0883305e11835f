-- The status of a history.
use Rattle.std.specs.Prelude.{length, pos}
use Rattle.fq_model.specs.declared.config.Config.{Config}
use Rattle.fq_model.specs.declared.parts.Status.{Status}
use Rattle.fq_model.specs.History.{History, waiting, running}
use Rattle.fq_model.specs.Time.{last_moment}
use Rattle.fq_model.specs.Pace.{virtual_time}

-- how many entries there are, the last moment and virtual time at it, and how many requests wait and run
unfoldable pub status_of : Config → History → Status
status_of C P = record {
  entries = length P;
  moment = last_moment P;
  vtime = pos (virtual_time C P (last_moment P));
  waiting = waiting P;
  running = running P;
}
