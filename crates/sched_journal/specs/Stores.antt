-- Where the entries of a history are kept.
use Rattle.std.specs.Prelude.{ℕ, ◌-◌, ◌≡◌, nat_le, List, [], ◌∷◌, ◌++◌, length, slice_get, Option, None, if◌then◌else◌}
use Rattle.fq_model.specs.declared.event.Entry.{Entry}
use Rattle.circular_buffer.specs.Buffer.{Buffer, buffer, keep_last}

-- all entries that came, in order of time; how many of the last are kept at least; and how many may come in all
pub record StoreView : Type 0 where
  pub past : List Entry
  pub keep : ℕ
  pub room : ℕ

-- the store after one entry more
abbrev pub with_one : StoreView → Entry → StoreView
with_one s e = record { past = s.past ++ e ∷ []; keep = s.keep; room = s.room }

-- the entry with this index, if it is one of the last `keep` entries
abbrev pub kept_entry : ℕ → List Entry → ℕ → Option Entry
kept_entry keep past index = if nat_le (length past - keep) index then slice_get past index else None

-- the ring holds the last entries
abbrev pub HoldsLast : ℕ → List Entry → Buffer Entry → Type 0
HoldsLast keep past ring = ring ≡ buffer (keep_last keep past) keep
