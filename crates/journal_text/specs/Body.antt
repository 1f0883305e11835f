-- The body of a document, which is read one line at a time below its head.
use Rattle.std.specs.Prelude.{ℕ, ◌+◌, ◌≡◌, List, [], ◌∷◌, ◌++◌, length, Option, Some, None, Result, Ok, Err}
use Rattle.program_model.specs.declared.fault.ScriptKind.{ScriptKind}
use Rattle.program_model.specs.declared.version.Version.{Version}
use Rattle.program_model.specs.Document.{Document, LineReader, config_of, version_of, document_of_lines}
use Rattle.fq_model.specs.Limits.{config_fault}
use Rattle.program_model.specs.Lines.{lines_of, words_of}
use Rattle.program_model.specs.Reading.{◌>>=◌, at_line}
use Rattle.journal_text.specs.declared.fault.ScriptFault.{ScriptFault}
use Rattle.journal_text.specs.declared.fault.ScriptFault.TheVariants.{At}
use Rattle.journal_text.specs.Reading.{IsFirstFault}

-- the lines of a body that are still to be read, with the version of the text and the place of the first of them in it
pub record Below : Type 0 where
  pub version : Version
  pub place : ℕ
  pub lines : List (List ℕ)

-- the meaning of a line of a body, by the version of its document
abbrev pub Readers : Type 0 → Type 0
Readers A = Version → LineReader A

-- the body of a document of this version whose lines are those of this text, from line `place` of the document on
abbrev pub below_at : Version → ℕ → List ℕ → Below
below_at version place text = record { version = version; place = place; lines = lines_of text }

-- this value before the later ones
abbrev pub with_first : {A F : Type 0} → A → Result (List A) F → Result (List A) F
with_first said later = later >>= λ more. Ok (said ∷ more)

-- the values of the lines of a body, in order, or their first fault; the first of them is line `place` of the text
abbrev pub body_of : {A : Type 0} → LineReader A → ℕ → List (List ℕ) → Result (List A) (ℕ × ScriptKind)
body_of reader place [] = Ok []
body_of reader place (line ∷ lines) =
    at_line place (reader (words_of line)) >>= λ said. with_first said (body_of reader (place + 1) lines)

-- the values of the lines that are left of a body, in order, or their first fault
abbrev pub said_below : {A : Type 0} → Readers A → Below → Result (List A) (ℕ × ScriptKind)
said_below reader below = body_of (reader below.version) below.place below.lines

-- the document with this head and the values of its body, or the body's fault
abbrev pub with_body_lines : {A : Type 0} → Document A → Result (List A) (ℕ × ScriptKind)
    → Result (Document A) (ℕ × ScriptKind)
with_body_lines head said = said >>= λ body. Ok (record head { body = body })

-- the document that a text spells, or its first fault, as a function of how the lines of its body are read
abbrev pub Reads : Type 0 → Type 0
Reads A = Readers A → Result (Document A) (ℕ × ScriptKind)

-- However the lines of the body are read, the text spells this head with this body: so the head has no fault. The head
-- by itself is a document that a scheduler can be opened with.
pub record IsOpened {A : Type 0} (read : Reads A) (head : Document A) (below : Below) : Type 0 where
  pub means : (reader : Readers A) → read reader ≡ with_body_lines head (said_below reader below)
  pub bodyless : head.body ≡ []
  pub fits : config_fault (config_of head) ≡ None

-- Some lines, of which the first is line `place` of a text, are those of this head and below them those of this body.
-- The lines of the head alone spell the head, however a body would be read.
pub record Divides
    {A : Type 0} (spelled : List (List ℕ) → Reads A) (place : ℕ) (lines : List (List ℕ)) (head : Document A)
    (below : Below) : Type 0 where
  pub above : List (List ℕ)
  pub split : lines ≡ above ++ below.lines
  pub spells : (reader : Readers A) → spelled above reader ≡ Ok head
  pub counted : below.place ≡ place + length above

-- the version that the first of these lines names
abbrev pub version_in : List ℕ → List (List ℕ) → Option Version
version_in title [] = None
version_in title (line ∷ lines) = version_of title line

-- the lines of a text with this title are those of this head and those of this body, which is of the version that the
-- first line names
pub record DividesText {A : Type 0} (title text : List ℕ) (head : Document A) (below : Below) : Type 0 where
  pub divided : Divides (λ lines reader. document_of_lines title reader lines) 1 (lines_of text) head below
  pub version : version_in title divided.above ≡ Some below.version

-- this is the first fault however the lines of the body are read, so it is one of the head; unless memory ran out
abbrev pub IsHeadFault : {A : Type 0} → ScriptFault → Reads A → Type 0
IsHeadFault fault read = (reader : Readers _) → IsFirstFault fault (read reader)

-- the first line of a body has this value, and was taken off
pub record SaysFirst {A : Type 0} (reader : Readers A) (old : Below) (said : A) (new : Below) : Type 0 where
  pub line : List ℕ
  pub there : old.lines ≡ line ∷ new.lines
  pub says : reader old.version (words_of line) ≡ Ok said
  pub left : new ≡ record { version = old.version; place = old.place + 1; lines = new.lines }

-- the first line of a body has this fault, and is still there
pub record IsStuck {A : Type 0} (reader : Readers A) (old : Below) (fault : ScriptFault) (new : Below) : Type 0 where
  pub line : List ℕ
  pub more : List (List ℕ)
  pub kind : ScriptKind
  pub there : old.lines ≡ line ∷ more
  pub fails : reader old.version (words_of line) ≡ Err kind
  pub fault_is : fault ≡ At old.place kind
  pub same : new ≡ old

-- the result of reading the next line of a body: the value of the line, None where no line is left, or the line's fault
abbrev pub ReadsNext : {A : Type 0} → Readers A → Below → Result (Option A) ScriptFault → Below → Type 0
ReadsNext reader old (Ok (Some said)) new = SaysFirst reader old said new
ReadsNext reader old (Ok None) new = (old.lines ≡ []) × (new ≡ old)
ReadsNext reader old (Err fault) new = IsStuck reader old fault new
