-- The documents, which are scripts and journals: a first line that names the version, a head with the configuration,
-- and a body of lines, each of which spells an item of a type A. A text is such a document, or it has a first fault: a
-- line, counted from 1, and its fault.
use Rattle.std.specs.Prelude.{ℕ, ◌+◌, ◌*◌, nat_lt, not, ◌&&◌, ◌||◌, if◌then◌else◌, List, [], ◌∷◌, ◌++◌, length, Option, Some, None, Result, Ok, Err, codes, bytes_eq}
use Rattle.std.specs.List.{list_any}
use Rattle.fq_model.specs.declared.config.Policy.{Policy}
use Rattle.fq_model.specs.declared.config.Estimator.{Estimator}
use Rattle.fq_model.specs.declared.config.Config.{Config}
use Rattle.fq_model.specs.declared.limits.Limits.TheVariants.{Text}
use Rattle.program_model.specs.declared.fault.ScriptKind.{ScriptKind}
use Rattle.program_model.specs.declared.fault.ScriptKind.TheVariants.{Word, Twice, TooMany, Header, Missing}
use Rattle.program_model.specs.declared.version.Version.{Version}
use Rattle.program_model.specs.declared.version.Version.TheVariants.{First, Second, Third}
use Rattle.vt_fixed.specs.declared.limits.TheConstants.{GREATEST_COST}
use Rattle.fq_model.specs.declared.limits.TheConstants.{TEXT_WEIGHT, TEXT_WORKERS, TEXT_TENANTS, MOST_KINDS, TEXT_PAIRS, LEAST_ENTRIES, MOST_ENTRIES, TEXT_REQUESTS}
use Rattle.program_model.specs.Reading.{◌>>=◌, at_line, begins_with, is_empty}
use Rattle.program_model.specs.Lines.{lines_of, Words, words_of, with_count, ranged_at, name_at, policy_at, estimator_at}

-- the contents of the config line
pub record Settings : Type 0 where
  pub workers : ℕ
  pub policy : Policy
  pub estimate : Estimator
  pub initial : ℕ
  pub entries : ℕ
  pub requests : ℕ

-- the config line, the tenants' names and weights by number, the kinds' names by number, and the items of the lines
-- below them, in order
pub record Document (A : Type 0) : Type 0 where
  pub settings : Settings
  pub tenants : List (List ℕ)
  pub weights : List ℕ
  pub kinds : List (List ℕ)
  pub body : List A

-- how a line of the body is read
abbrev pub LineReader : Type 0 → Type 0
LineReader A = Words → Result A ScriptKind

-- the configuration of the scheduler that a document is about
abbrev pub config_of : {A : Type 0} → Document A → Config
config_of d = record {
  limits = Text;
  workers = d.settings.workers;
  weights = d.weights;
  kinds = length d.kinds;
  entries = d.settings.entries;
  requests = d.settings.requests;
  policy = d.settings.policy;
  estimate = d.settings.estimate;
  initial = d.settings.initial;
}

-- the name stands nowhere among these
abbrev pub new_among : List (List ℕ) → List ℕ → Result (List ℕ) ScriptKind
new_among names name = if list_any (λ other. bytes_eq other name) names then Err Twice else Ok name

-- there are no more tenants and kinds than there may be
abbrev pub not_too_many : {A : Type 0} → Document A → Result (Document A) ScriptKind
not_too_many d =
    if nat_lt TEXT_TENANTS (length d.tenants)
    || (nat_lt MOST_KINDS (length d.kinds) || nat_lt TEXT_PAIRS (length d.tenants * length d.kinds))
    then Err TooMany
    else Ok d

-- `config <workers> <policy> <estimate> <initial> <entries> <requests>`
unfoldable pub settings_of : Words → Result Settings ScriptKind
settings_of line = do
  words ← with_count 7 line
  workers ← ranged_at words 1 1 TEXT_WORKERS
  policy ← policy_at words 2
  estimate ← estimator_at words 3
  initial ← ranged_at words 4 1 GREATEST_COST
  entries ← ranged_at words 5 LEAST_ENTRIES MOST_ENTRIES
  requests ← ranged_at words 6 1 TEXT_REQUESTS
  Ok (record {
    workers = workers;
    policy = policy;
    estimate = estimate;
    initial = initial;
    entries = entries;
    requests = requests;
  })

-- `tenant <name> <weight>`
unfoldable pub with_tenant : {A : Type 0} → Document A → Words → Result (Document A) ScriptKind
with_tenant d line = do
  words ← with_count 3 line
  name ← name_at words 1
  weight ← ranged_at words 2 1 TEXT_WEIGHT
  new ← new_among d.tenants name
  not_too_many (record d { tenants = d.tenants ++ new ∷ []; weights = d.weights ++ weight ∷ [] })

-- `kind <name>`
unfoldable pub with_kind : {A : Type 0} → Document A → Words → Result (Document A) ScriptKind
with_kind d line = do
  words ← with_count 2 line
  name ← name_at words 1
  new ← new_among d.kinds name
  not_too_many (record d { kinds = d.kinds ++ new ∷ [] })

-- a line of the body
unfoldable pub with_body : {A : Type 0} → LineReader A → Document A → Words → Result (Document A) ScriptKind
with_body reader d words = do
  said ← reader words
  Ok (record d { body = d.body ++ said ∷ [] })

-- the document with one line more, below its config line: first come one or more tenants, then one or more kinds, then
-- the body
unfoldable pub with_line : {A : Type 0} → LineReader A → Document A → Words → Result (Document A) ScriptKind
with_line reader d words =
    if begins_with words (codes "tenant") && is_empty d.kinds then with_tenant d words
    else if begins_with words (codes "kind") && (not (is_empty d.tenants) && is_empty d.body) then with_kind d words
    else if is_empty d.kinds then Err Word
    else with_body reader d words

-- the head is there; `place` is one more than the number of lines
abbrev pub with_head : {A : Type 0} → ℕ → Document A → Result (Document A) (ℕ × ScriptKind)
with_head place d = if is_empty d.kinds then Err (place, Missing) else Ok d

-- the document with more lines, of which the first is line `place` of the text
abbrev pub with_lines : {A : Type 0} → LineReader A → ℕ → Document A → List (List ℕ)
    → Result (Document A) (ℕ × ScriptKind)
with_lines reader place d [] = with_head place d
with_lines reader place d (line ∷ lines) =
    at_line place (with_line reader d (words_of line)) >>= λ more. with_lines reader (place + 1) more lines

-- the document of the config line alone
abbrev pub opened : {A : Type 0} → Settings → Document A
opened settings = record { settings = settings; tenants = []; weights = []; kinds = []; body = [] }

-- the config line, below the first
unfoldable pub config_line : {A : Type 0} → Words → Result (Document A) ScriptKind
config_line words =
    if begins_with words (codes "config") then (settings_of words >>= λ settings. Ok (opened settings)) else Err Word

-- the document below the first line, or its first fault
abbrev pub below_header : {A : Type 0} → LineReader A → List (List ℕ) → Result (Document A) (ℕ × ScriptKind)
below_header reader [] = Err (2, Missing)
below_header reader (line ∷ lines) = at_line 2 (config_line (words_of line)) >>= λ d. with_lines reader 3 d lines

-- the version that a first line names: `<title> 1`, `<title> 2` or `<title> 3`, where the title is `script` or
-- `journal`
abbrev pub version_of : List ℕ → List ℕ → Option Version
version_of title line =
    if bytes_eq line (title ++ codes " 1") then Some First
    else if bytes_eq line (title ++ codes " 2") then Some Second
    else if bytes_eq line (title ++ codes " 3") then Some Third
    else None

-- the document below a first line that names this version, if it names one, or its first fault
abbrev pub below_version : {A : Type 0} → (Version → LineReader A) → Option Version → List (List ℕ)
    → Result (Document A) (ℕ × ScriptKind)
below_version reader None lines = Err (1, Header)
below_version reader (Some version) lines = below_header (reader version) lines

-- the document that the lines of a text with this title spell, or their first fault
abbrev pub document_of_lines : {A : Type 0} → List ℕ → (Version → LineReader A) → List (List ℕ)
    → Result (Document A) (ℕ × ScriptKind)
document_of_lines title reader [] = Err (1, Header)
document_of_lines title reader (line ∷ lines) = below_version reader (version_of title line) lines

-- the document that a text with this title spells, or its first fault
unfoldable pub document_of : {A : Type 0} → List ℕ → (Version → LineReader A) → List ℕ
    → Result (Document A) (ℕ × ScriptKind)
document_of title reader bytes = document_of_lines title reader (lines_of bytes)
