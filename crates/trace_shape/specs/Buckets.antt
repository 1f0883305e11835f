-- Buckets of tokens, which give the moments of requests one by one. Tokens count in thousandths of a unit.
use Rattle.std.specs.Prelude.{ℕ, ◌+◌, ◌-◌, ◌*◌, ◌≤◌, max, min}
use Rattle.std.specs.Int.{div_ceil}
use Rattle.fq_model.specs.declared.limits.TheConstants.{GREATEST_TRACE_MOMENT}
use Rattle.program_model.specs.declared.trace.TraceRow.{TraceRow}
use Rattle.trace_shape.specs.declared.bucket.Bucket.{Bucket}

-- a bucket that holds all that it may, at the beginning of time
abbrev pub full : ℕ → Bucket
full capacity = record { level = capacity; moment = 0 }

-- the first moment, neither before the request's own nor before the bucket's, at which its tokens are there
abbrev pub moment_in : ℕ → Bucket → TraceRow → ℕ
moment_in gain bucket row = max row.moment (bucket.moment + div_ceil (1000 * row.declared - bucket.level) gain)

-- how many tokens it holds at a moment from its own on
abbrev pub filled : ℕ → ℕ → Bucket → ℕ → ℕ
filled gain capacity bucket moment = min capacity (bucket.level + gain * (moment - bucket.moment))

-- the bucket once the request has taken its tokens at that first moment
unfoldable pub taken : ℕ → ℕ → Bucket → TraceRow → Bucket
taken gain capacity bucket row = record {
  level = filled gain capacity bucket (moment_in gain bucket row) - 1000 * row.declared;
  moment = moment_in gain bucket row;
}

-- its numbers are within their limits
pub record IsBucket (capacity : ℕ) (bucket : Bucket) : Type 0 where
  pub level : bucket.level ≤ capacity
  pub moment : bucket.moment ≤ GREATEST_TRACE_MOMENT
