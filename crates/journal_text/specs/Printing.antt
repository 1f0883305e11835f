-- Printed lines, and texts that grow by them.
use Rattle.std.specs.Prelude.{ℕ, ◌≡◌, List, ◌++◌}
use Rattle.fq_model.specs.declared.config.Config.{Config}
use Rattle.fq_model.specs.declared.event.Entry.{Entry}
use Rattle.program_model.specs.declared.version.Version.{Version}
use Rattle.program_model.specs.declared.version.Version.TheVariants.{Third}
use Rattle.program_model.specs.JournalText.{numbers_text, header_line, head_text, entries_text}

-- a line: a word, and numbers, each after a space
abbrev pub row_text : List ℕ → List ℕ → List ℕ
row_text word numbers = word ++ numbers_text numbers

-- the lines above the entries of a journal of this version
abbrev pub top_text : Version → Config → List (List ℕ) → List (List ℕ) → List ℕ
top_text version C tenants kinds = header_line version ++ head_text C tenants kinds

-- the journal of entries that are written as they come, in order of time: its version allows any entry
abbrev pub streamed_text : Config → List (List ℕ) → List (List ℕ) → List Entry → List ℕ
streamed_text C tenants kinds entries = top_text Third C tenants kinds ++ entries_text entries

-- the new text is the old one, perhaps with more after it
abbrev pub IsKept : List ℕ → List ℕ → Type 0
IsKept old new = (more : List ℕ) × (new ≡ old ++ more)
