-- The source and the sink over memory, and the exact effect of one call of each.
use Rattle.std.specs.Prelude.{ℕ, ◌-◌, Bool, ◌||◌, ◌&&◌, nat_eq, nat_lt, nat_le, min, if◌then◌else◌, List, ◌++◌, length, take, drop}
use Rattle.std.specs.List.{list_any}
use Rattle.fq_io.specs.Faults.{next_count}

-- the bytes still to come, the most that a call moves, the calls that fail by their numbers from 0, and how many calls
-- and faults there were
pub record MemorySource : Type 0 where
  pub left : List ℕ
  pub chunk : ℕ
  pub fails : List ℕ
  pub calls : ℕ
  pub faults : ℕ

-- whether a call of this number is to fail
abbrev pub fails_at : List ℕ → ℕ → Bool
fails_at fails call = list_any (λ number. nat_eq number call) fails

-- how many bytes a read that doesn't fail moves into a buffer of this length: as many as it can
abbrev pub read_count : MemorySource → ℕ → ℕ
read_count s room = min (min (length s.left) s.chunk) room

-- the source after a read into a buffer of this length
abbrev pub after_read : MemorySource → ℕ → MemorySource
after_read s room =
    if fails_at s.fails s.calls
    then record s { calls = next_count s.calls; faults = next_count s.faults }
    else record s { calls = next_count s.calls; left = drop (read_count s room) s.left }

-- the buffer after a read
abbrev pub buffer_after_read : MemorySource → List ℕ → List ℕ
buffer_after_read s before =
    if fails_at s.fails s.calls
    then before
    else take (read_count s (length before)) s.left ++ drop (read_count s (length before)) before

-- the bytes that were taken, how many fit in all, the most that a call takes, the calls that fail by their numbers from
-- 0, and how many calls and faults there were
pub record MemorySink : Type 0 where
  pub written : List ℕ
  pub room : ℕ
  pub chunk : ℕ
  pub fails : List ℕ
  pub calls : ℕ
  pub faults : ℕ

-- whether a write of a piece of this length fails: its number is listed, or nothing more fits and the piece isn't empty
abbrev pub refuses : MemorySink → ℕ → Bool
refuses s len = fails_at s.fails s.calls || (nat_le s.room (length s.written) && nat_lt 0 len)

-- how many bytes of a piece of this length a write that doesn't fail takes: as many as it can
abbrev pub write_count : MemorySink → ℕ → ℕ
write_count s len = min (min (s.room - length s.written) s.chunk) len

-- the sink after a write of this piece
abbrev pub after_write : MemorySink → List ℕ → MemorySink
after_write s piece =
    if refuses s (length piece)
    then record s { calls = next_count s.calls; faults = next_count s.faults }
    else record s { calls = next_count s.calls; written = s.written ++ take (write_count s (length piece)) piece }
