-- The lines of journals. Each ends with LF.
use Rattle.std.specs.Prelude.{ℕ, if◌then◌else◌, List, [], ◌∷◌, ◌++◌, codes}
use Rattle.std.specs.Fmt.{decimal}
use Rattle.std.specs.List.{list_any}
use Rattle.fq_model.specs.History.{is_change, is_withdraw}
use Rattle.fq_model.specs.declared.config.Config.{Config}
use Rattle.fq_model.specs.declared.event.Act.{Act}
use Rattle.fq_model.specs.declared.event.Act.TheVariants.{Submit, Take, Report, Done, Close, Weight, Workers, Withdraw}
use Rattle.fq_model.specs.declared.event.Entry.{Entry}
use Rattle.program_model.specs.declared.version.Version.{Version}
use Rattle.program_model.specs.declared.version.Version.TheVariants.{First, Second, Third}
use Rattle.fq_model.specs.Spelling.{policy_word, estimator_word}

-- the rest of a line: these numbers, each after a space
abbrev pub numbers_text : List ℕ → List ℕ
numbers_text [] = codes "\n"
numbers_text (n ∷ ns) = codes " " ++ decimal n ++ numbers_text ns

-- the line of an act by this caller at this moment
abbrev pub act_line : ℕ → ℕ → Act → List ℕ
act_line who moment (Submit request tenant kind declared label) =
    codes "submit" ++ numbers_text (who ∷ moment ∷ request ∷ tenant ∷ kind ∷ declared ∷ label ∷ [])
act_line who moment (Take worker request estimate) =
    codes "take" ++ numbers_text (who ∷ moment ∷ worker ∷ request ∷ estimate ∷ [])
act_line who moment (Report worker request used) =
    codes "report" ++ numbers_text (who ∷ moment ∷ worker ∷ request ∷ used ∷ [])
act_line who moment (Done worker request cost) =
    codes "done" ++ numbers_text (who ∷ moment ∷ worker ∷ request ∷ cost ∷ [])
act_line who moment Close = codes "close" ++ numbers_text (who ∷ moment ∷ [])
act_line who moment (Weight tenant weight) = codes "weight" ++ numbers_text (who ∷ moment ∷ tenant ∷ weight ∷ [])
act_line who moment (Workers count) = codes "workers" ++ numbers_text (who ∷ moment ∷ count ∷ [])
act_line who moment (Withdraw request) = codes "withdraw" ++ numbers_text (who ∷ moment ∷ request ∷ [])

-- the line of an entry
abbrev pub entry_line : Entry → List ℕ
entry_line e = act_line e.who e.moment e.act

-- a line for each entry, in order
abbrev pub entries_text : List Entry → List ℕ
entries_text [] = []
entries_text (e ∷ es) = entry_line e ++ entries_text es

-- the version of a journal: the third where a request is withdrawn, else the second where an entry changes a weight or
-- the number of workers
abbrev pub version_for : List Entry → Version
version_for entries =
    if list_any (λ e. is_withdraw e.act) entries then Third
    else if list_any (λ e. is_change e.act) entries then Second
    else First

-- the first line
abbrev pub header_line : Version → List ℕ
header_line First = codes "journal 1\n"
header_line Second = codes "journal 2\n"
header_line Third = codes "journal 3\n"

-- `config <workers> <policy> <estimate> <initial> <entries> <requests>`
abbrev pub settings_line : Config → List ℕ
settings_line C =
    codes "config " ++ decimal C.workers ++ codes " " ++ policy_word C.policy ++ codes " " ++ estimator_word C.estimate
    ++ numbers_text (C.initial ∷ C.entries ∷ C.requests ∷ [])

-- a line for each tenant, with its name and its weight
abbrev pub tenants_text : List (List ℕ) → List ℕ → List ℕ
tenants_text (name ∷ names) (weight ∷ weights) =
    codes "tenant " ++ name ++ numbers_text (weight ∷ []) ++ tenants_text names weights
tenants_text _ _ = []

-- a line for each kind, with its name
abbrev pub kinds_text : List (List ℕ) → List ℕ
kinds_text [] = []
kinds_text (name ∷ names) = codes "kind " ++ name ++ codes "\n" ++ kinds_text names

-- the lines below the first and above the entries, with the names of tenants and kinds by number
abbrev pub head_text : Config → List (List ℕ) → List (List ℕ) → List ℕ
head_text C tenants kinds = settings_line C ++ tenants_text tenants C.weights ++ kinds_text kinds

-- the journal of entries in order of time
unfoldable pub journal_text : Config → List (List ℕ) → List (List ℕ) → List Entry → List ℕ
journal_text C tenants kinds entries =
    header_line (version_for entries) ++ head_text C tenants kinds ++ entries_text entries
