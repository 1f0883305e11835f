-- The reader's results and the definitions of texts.
use Rattle.std.specs.Prelude.{ℕ, ◌*◌, ◌≡◌, nat_lt, Bool, not, ◌&&◌, ◌||◌}
use Rattle.std.specs.Prelude.{if◌then◌else◌, codes, List, length, Result, Ok, Err}
use Rattle.program_model.specs.declared.fault.ScriptKind.{ScriptKind}
use Rattle.fq_model.specs.declared.config.Config.{Config}
use Rattle.fq_model.specs.Limits.{HasTextLimits}
use Rattle.fq_model.specs.declared.limits.TheConstants.{TEXT_TENANTS, MOST_KINDS, TEXT_PAIRS}
use Rattle.program_model.specs.Document.{Settings, Document, with_tenant, with_kind, config_line}
use Rattle.program_model.specs.declared.fault.ScriptKind.TheVariants.{Word}
use Rattle.program_model.specs.Reading.{begins_with, is_empty}
use Rattle.program_model.specs.Lines.{Words}
use Rattle.tenant_table.specs.Names.{names_of, weights_of}
use Rattle.journal_text.specs.declared.fault.LineError.{LineError}
use Rattle.journal_text.specs.declared.fault.LineError.TheVariants as errors
use Rattle.journal_text.specs.declared.fault.ScriptFault.{ScriptFault}
use Rattle.journal_text.specs.declared.fault.ScriptFault.TheVariants as faults

-- the definition gives this fault, unless memory ran out
abbrev pub Fails : {Y : Type 0} → LineError → Result Y ScriptKind → Type 0
Fails (errors.Fault kind) read = read ≡ Err kind
Fails errors.NoMemory read = Unit {0}

-- the result is, seen by `view`, that of the definition
abbrev pub Gives : {X Y : Type 0} → (X → Y) → Result X LineError → Result Y ScriptKind → Type 0
Gives view (Ok x) read = read ≡ Ok (view x)
Gives view (Err e) read = Fails e read

-- this is the first fault of a text, with its line; where memory ran out, nothing is said of the text
abbrev pub IsFirstFault : {Y : Type 0} → ScriptFault → Result Y (ℕ × ScriptKind) → Type 0
IsFirstFault (faults.At line kind) read = read ≡ Err (line, kind)
IsFirstFault faults.NoMemory read = Unit {0}

abbrev pub fault_at : ℕ → LineError → ScriptFault
fault_at line (errors.Fault kind) = faults.At line kind
fault_at line errors.NoMemory = faults.NoMemory

-- the settings in the config line of a document with this configuration
abbrev pub settings_in : Config → Settings
settings_in c = record {
  workers = c.workers;
  policy = c.policy;
  estimate = c.estimate;
  initial = c.initial;
  entries = c.entries;
  requests = c.requests;
}

-- a scheduler with this configuration has these tenants and kinds
pub record IsAbout (config : Config) (tenants : List (List ℕ × ℕ)) (kinds : List (List ℕ)) : Type 0 where
  pub text : HasTextLimits config
  pub weighed : config.weights ≡ weights_of tenants
  pub counted : config.kinds ≡ length kinds

-- the document with this configuration, these tenants and kinds, and this body
abbrev pub document_in : {A : Type 0} → Config → List (List ℕ × ℕ) → List (List ℕ) → List A → Document A
document_in config tenants kinds body = record {
  settings = settings_in config;
  tenants = names_of tenants;
  weights = weights_of tenants;
  kinds = kinds;
  body = body;
}

-- the document is that of a config line alone
abbrev pub IsOfConfigLine : {A : Type 0} → Document A → Type 0
IsOfConfigLine {A} d = (words : Words) × (config_line {A = A} words ≡ Ok d)

-- below this head, a line of these words is the first of the body
abbrev pub ends_before : {A : Type 0} → Document A → Words → Bool
ends_before d words = not (is_empty d.kinds) && not (begins_with words (codes "kind"))

-- the head with one line more, below its config line, where that line is not the first of the body
abbrev pub with_head_line : {A : Type 0} → Document A → Words → Result (Document A) ScriptKind
with_head_line d words =
    if begins_with words (codes "tenant") && is_empty d.kinds then with_tenant d words
    else if begins_with words (codes "kind") && not (is_empty d.tenants) then with_kind d words
    else Err Word

-- more tenants, kinds or pairs of both than there may be
abbrev pub are_too_many : ℕ → ℕ → Bool
are_too_many tenants kinds =
    nat_lt TEXT_TENANTS tenants || (nat_lt MOST_KINDS kinds || nat_lt TEXT_PAIRS (tenants * kinds))
