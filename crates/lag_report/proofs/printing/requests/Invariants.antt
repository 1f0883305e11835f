use Rattle.std.proofs.Common.{◌≡◌, ◌≤◌, ◌*◌, take}
use Rattle.lag_report.specs.Reports.{requests_of}
use Rattle.lag_report.proofs.printing.requests.Given as goal

abbrev pub invariant-loop-row : goal.invariant-loop-row
invariant-loop-row l = record {
  sum : l.requests ≡ requests_of (take l.row-index l.rows);
  few : l.requests ≤ l.row-index * 4294967296;
}
