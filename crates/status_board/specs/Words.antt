-- The words of a board for a history, which is here in order of time.
use Rattle.std.specs.Prelude.{ℕ, ◌/◌, ◌%◌, ◌^◌, ◌<◌, List, [], ◌∷◌, Option, Some, None, slice_index}
use Rattle.fq_model.specs.declared.config.Config.{Config}
use Rattle.fq_model.specs.declared.event.Entry.{Entry}
use Rattle.fq_model.specs.declared.parts.Status.{Status}
use Rattle.fq_model.specs.History.{history_of, waiting, running}
use Rattle.fq_model.specs.Status.{status_of}
use Rattle.fq_model.specs.Time.{last_moment}
use Rattle.fq_model.specs.Pace.{virtual_time}

-- the version, and the words for the other numbers of a status
abbrev pub word_count : ℕ
word_count = 6

-- the status of entries in order of time
abbrev pub status_at : Config → List Entry → Status
status_at C P = status_of C (history_of P)

-- virtual time at the last entry
abbrev pub virtual_now : Config → List Entry → ℕ
virtual_now C P = virtual_time C (history_of P) (last_moment (history_of P))

-- The words but for the version: the last moment, virtual time by its low and its high half, how many requests wait and
-- how many run
abbrev pub words_of : Config → List Entry → List ℕ
words_of C P =
    last_moment (history_of P)
    ∷ virtual_now C P % 2 ^ 64
    ∷ virtual_now C P / 2 ^ 64
    ∷ waiting (history_of P)
    ∷ running (history_of P)
    ∷ []

-- these words where the configuration is known
abbrev pub words_in : Option Config → List Entry → List ℕ
words_in None P = []
words_in (Some C) P = words_of C P

abbrev pub status_in : Option Config → List Entry → Option Status
status_in None P = None
status_in (Some C) P = Some (status_at C P)

-- the words are those of a status: virtual time, how many wait and how many run are in their range
abbrev pub FitStatus : List ℕ → Type 0
FitStatus words = (slice_index words 2 < 2 ^ 63) × (slice_index words 3 < 2 ^ 32) × (slice_index words 4 < 2 ^ 32)
