-- All numbers of a history at once.
use Rattle.limit_laws.specs.Laws.{LimitsChangeNoNumber, LimitsChangeNoChoice}
use Rattle.limit_laws.specs.Words.{with_limits}
use Rattle.limit_laws.proofs.Numbers.{weight_same, pool_same, active_same, advance_same, clock_same, idle_same, taken_same, charged_same, charge_same, base_same}
use Rattle.limit_laws.proofs.Paces.{served_same, paced_advance_same, pace_same}
use Rattle.limit_laws.proofs.Keys.{estimate_same, time_same, tag_base_same, tag_same, start_same, keys_same, turn_same, chosen_same}

pub alike : LimitsChangeNoNumber
alike C l P = record {
  weights = weight_same C l P;
  pools = pool_same C l P;
  active_weights = active_same C l P;
  advances = advance_same C l P;
  clocks = clock_same C l P;
  idle_times = idle_same C l P;
  taken_weights = taken_same C l P;
  parts = charged_same C l P;
  charges = charge_same C l P;
  estimates = estimate_same C l P;
  clock_bases = base_same C l P;
  served_weights = served_same C l P;
  paced_advances = paced_advance_same C l P;
  paces = pace_same C l P;
  times = time_same C l P;
  bases = tag_base_same C l P;
  tags = tag_same C l P;
  starts = start_same C l P;
  keys = keys_same C l P;
  turns = turn_same C l P;
}

pub chosen_alike : LimitsChangeNoChoice
chosen_alike C l P m i request estimate q =
    (chosen_same C l P m i request estimate q, chosen_same (with_limits l C) C.limits P m i request estimate q)
