use Rattle.std.proofs.Common.{◌≡◌, ◌+◌, ◌-◌, ℕ, List, Some, length}
use Rattle.csv.specs.Reading.{Ready, default_config, source_of, strip_bom}
use Rattle.csv.specs.declared.reader.Trim.TheVariants as trim
use Rattle.trace_reader.proofs.Reached.{IsAt}
use Rattle.trace_reader.proofs.reading.add_all.Given as goal

abbrev pub invariant-record : goal.invariant-record
invariant-record l = (l.reader.trim ≡ trim.None) × Ready l.reader × (l.reader.config ≡ default_config)
    × (xs : List ℕ) × (source_of (λ s. Some s.now) l.reader ≡ Some xs)
    × IsAt (strip_bom l.bytes) l.draft l.place l.reader.state xs

abbrev pub decreases-record : goal.decreases-record
decreases-record l = length (strip_bom l.bytes) + 2 - l.place
