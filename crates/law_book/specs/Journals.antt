-- Laws of journals: the text of a journal determines its history, and is read back.
use Rattle.std.specs.Prelude.{ℕ, ◌^◌, ◌<◌, ◌≡◌, List, length, Ok}
use Rattle.std.specs.List.{All}
use Rattle.fq_model.specs.declared.config.Config.{Config}
use Rattle.fq_model.specs.declared.limits.TheConstants.{TEXT_TENANTS, TEXT_WEIGHT, MOST_KINDS}
use Rattle.fq_model.specs.declared.event.Act.{Act}
use Rattle.fq_model.specs.declared.event.Act.TheVariants.{Submit, Take, Report, Done, Close, Weight, Workers, Withdraw}
use Rattle.fq_model.specs.declared.event.Entry.{Entry}
use Rattle.fq_model.specs.History.{history_of}
use Rattle.fq_model.specs.Limits.{InLimits, IsWithinText, as_text}
use Rattle.fq_model.specs.Names.{AreNames}
use Rattle.fq_model.specs.Rules.{IsLegal}
use Rattle.limit_laws.specs.Words.{WeightsAtMost}
use Rattle.program_model.specs.Document.{config_of}
use Rattle.program_model.specs.Journal.{Journal, journal_of}
use Rattle.program_model.specs.JournalText.{journal_text}
use Rattle.program_model.specs.declared.verdict.Verdict.{Verdict}
use Rattle.program_model.specs.declared.verdict.Verdict.TheVariants.{Legal}
use Rattle.program_model.specs.Verdicts.{IsVerdict}
use Rattle.journal_text.specs.Printing.{streamed_text}
use Rattle.journal_text.specs.Reading.{settings_in}

-- each number of an act fits its type
abbrev pub FitsTypes : Act → Type 0
FitsTypes (Submit request tenant kind declared label) =
    (request < 2 ^ 32) × (tenant < 2 ^ 32) × (kind < 2 ^ 32) × (declared < 2 ^ 64) × (label < 2 ^ 64)
FitsTypes (Take worker request estimate) = (worker < 2 ^ 32) × (request < 2 ^ 32) × (estimate < 2 ^ 64)
FitsTypes (Report worker request used) = (worker < 2 ^ 32) × (request < 2 ^ 32) × (used < 2 ^ 64)
FitsTypes (Done worker request cost) = (worker < 2 ^ 32) × (request < 2 ^ 32) × (cost < 2 ^ 64)
FitsTypes Close = Unit {0}
FitsTypes (Weight tenant weight) = (tenant < 2 ^ 32) × (weight < 2 ^ 32)
FitsTypes (Workers count) = count < 2 ^ 32
FitsTypes (Withdraw request) = request < 2 ^ 32

-- each number of an entry fits its type, as in every entry of the program
pub record IsEntry (e : Entry) : Type 0 where
  pub who : e.who < 2 ^ 32
  pub moment : e.moment < 2 ^ 64
  pub act : FitsTypes e.act

-- each of these is such an entry
abbrev pub AreEntries : List Entry → Type 0
AreEntries entries = All IsEntry entries

-- entries with the same journal, under one configuration and the same names, are the same entries
abbrev pub JournalsTellHistories : Type 0
JournalsTellHistories =
    (C : Config) (tenants kinds : List (List ℕ)) (past other : List Entry)
    → AreEntries past → AreEntries other
    → journal_text C tenants kinds past ≡ journal_text C tenants kinds other → past ≡ other

-- a scheduler with this configuration has tenants and kinds of these names, by number: each a name, and no two of the
-- same sort alike
pub record AreNamesFor (C : Config) (tenants kinds : List (List ℕ)) : Type 0 where
  pub tenants_are : AreNames TEXT_TENANTS tenants
  pub kinds_are : AreNames MOST_KINDS kinds
  pub weighed : length C.weights ≡ length tenants
  pub counted : C.kinds ≡ length kinds

-- the document that has this configuration, these names, and these entries in order of time
abbrev pub journal_with : Config → List (List ℕ) → List (List ℕ) → List Entry → Journal
journal_with C tenants kinds past = record {
  settings = settings_in C;
  tenants = tenants;
  weights = C.weights;
  kinds = kinds;
  body = past;
}

-- a text spells the journal of these entries, and that document is about the configuration of these numbers
pub record IsReadBack (C : Config) (tenants kinds : List (List ℕ)) (past : List Entry) (text : List ℕ) : Type 0 where
  pub read : journal_of text ≡ Ok (journal_with C tenants kinds past)
  pub config_is : config_of (journal_with C tenants kinds past) ≡ as_text C

-- so the text of a journal is read, if the numbers of the configuration are within the limits of texts, the names are
-- lawful and each number of an entry fits its type
abbrev pub JournalsReadBack : Type 0
JournalsReadBack =
    (C : Config) (tenants kinds : List (List ℕ)) (past : List Entry)
    → InLimits C → IsWithinText C → AreNamesFor C tenants kinds → AreEntries past
    → IsReadBack C tenants kinds past (journal_text C tenants kinds past)

-- and so is one that was written as the entries came
abbrev pub StreamedReadBack : Type 0
StreamedReadBack =
    (C : Config) (tenants kinds : List (List ℕ)) (past : List Entry)
    → InLimits C → IsWithinText C → AreNamesFor C tenants kinds → AreEntries past
    → IsReadBack C tenants kinds past (streamed_text C tenants kinds past)

-- the numbers that no rule looks at fit their types: the number of the caller, and the label of a Submit
abbrev pub FitsLabel : Act → Type 0
FitsLabel (Submit request tenant kind declared label) = label < 2 ^ 64
FitsLabel _ = Unit {0}

pub record IsUnreadFit (e : Entry) : Type 0 where
  pub who : e.who < 2 ^ 32
  pub label : FitsLabel e.act

-- in a legal history all other numbers fit theirs
abbrev pub LegalEntriesFit : Type 0
LegalEntriesFit =
    (C : Config) (past : List Entry) → InLimits C → IsLegal C (history_of past) → All IsUnreadFit past → AreEntries past

-- the text is read as a journal with the numbers of this configuration and these entries, of which the one verdict is
-- that they are legal
pub record IsJudgedLegal (C : Config) (past : List Entry) (text : List ℕ) : Type 0 where
  pub journal : Journal
  pub read : journal_of text ≡ Ok journal
  pub config_is : config_of journal ≡ as_text C
  pub body_is : journal.body ≡ past
  pub legal : IsVerdict (config_of journal) journal.body Legal
  pub no_other : (v : Verdict) → IsVerdict (config_of journal) journal.body v → v ≡ Legal

-- the printed journal of a legal history is judged legal, if its numbers are within the limits of texts, whichever
-- limits its scheduler keeps
abbrev pub LegalIsJudgedLegal : Type 0
LegalIsJudgedLegal =
    (C : Config) (tenants kinds : List (List ℕ)) (past : List Entry)
    → InLimits C → IsWithinText C → AreNamesFor C tenants kinds → All IsUnreadFit past
    → WeightsAtMost TEXT_WEIGHT (history_of past) → IsLegal C (history_of past)
    → IsJudgedLegal C past (journal_text C tenants kinds past)

-- and so is the journal that was written as its entries came
abbrev pub StreamedIsJudgedLegal : Type 0
StreamedIsJudgedLegal =
    (C : Config) (tenants kinds : List (List ℕ)) (past : List Entry)
    → InLimits C → IsWithinText C → AreNamesFor C tenants kinds → All IsUnreadFit past
    → WeightsAtMost TEXT_WEIGHT (history_of past) → IsLegal C (history_of past) → IsJudgedLegal C past (streamed_text C tenants kinds past)
