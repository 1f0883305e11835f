-- The parts of the options of commands, and the options that several commands have.
use Rattle.std.specs.Prelude.{ℕ, List, [], ◌∷◌, map, Option, Some, None, unwrap_or, slice_index_or, codes}
use Rattle.fq_model.specs.declared.config.Policy.{Policy}
use Rattle.fq_model.specs.declared.config.Policy.TheVariants.{Wfq, Wf2q, Msf2q, TwoDfq, TwoDfqPlus}
use Rattle.fq_model.specs.declared.config.Estimator.{Estimator}
use Rattle.fq_model.specs.declared.config.Estimator.TheVariants.{Declared, Recent, Pessimistic}
use Rattle.vt_fixed.specs.declared.limits.TheConstants.{GREATEST_COST}
use Rattle.fq_model.specs.declared.limits.TheConstants.{TEXT_WORKERS, GREATEST_SLOT}
use Rattle.program_model.specs.declared.argument.Argument.TheVariants.{Number, Name}
use Rattle.program_model.specs.Lines.{Words}
use Rattle.fq_model.specs.Spelling.{policy_word, estimator_word}
use Rattle.program_model.specs.Options.{Within, Among, Named, Required, Default, OptionRow, Value}

-- the policies, in the order in which an option lists their words
abbrev pub policies : List Policy
policies = Wfq ∷ Wf2q ∷ Msf2q ∷ TwoDfq ∷ TwoDfqPlus ∷ []

-- the estimators, in the order in which an option lists their words
abbrev pub estimators : List Estimator
estimators = Declared ∷ Recent ∷ Pessimistic ∷ []

-- the number that a value is, if it is one
abbrev pub number_given : Value → Option ℕ
number_given (Some (Number n)) = Some n
number_given _ = None

-- the name that it is, or no bytes
abbrev pub name_given : Value → List ℕ
name_given (Some (Name name)) = name
name_given _ = []

-- the value of option k, if it has one; the first is option 0
abbrev pub given_at : List Value → ℕ → Value
given_at values k = slice_index_or values k None

-- the number that option k has, or 0
abbrev pub value_at : List Value → ℕ → ℕ
value_at values k = unwrap_or (number_given (given_at values k)) 0

-- an option whose value is one of these words, and this one where none is given
abbrev pub listed_option : List ℕ → Words → List ℕ → OptionRow
listed_option name words default = record { name = name; values = Among words; absent = Default default }

-- an option whose value is a number from low to high, and this one where none is given
abbrev pub number_option : List ℕ → ℕ → ℕ → List ℕ → OptionRow
number_option name low high default = record { name = name; values = Within low high; absent = Default default }

-- an option whose value is a number from low to high, and which has to be given
abbrev pub required_option : List ℕ → ℕ → ℕ → OptionRow
required_option name low high = record { name = name; values = Within low high; absent = Required }

-- an option whose value is a name, and which has to be given
abbrev pub name_option : List ℕ → OptionRow
name_option name = record { name = name; values = Named; absent = Required }

-- how many workers there are
abbrev pub workers_option : OptionRow
workers_option = number_option (codes "--workers") 1 TEXT_WORKERS (codes "4")

-- which waiting request a worker takes
abbrev pub policy_option : OptionRow
policy_option = listed_option (codes "--policy") (map policy_word policies) (codes "2dfq")

-- how the cost of a request is estimated
abbrev pub estimate_option : OptionRow
estimate_option = listed_option (codes "--estimate") (map estimator_word estimators) (codes "pessimistic")

-- the estimate before any completion, in microseconds
abbrev pub initial_option : OptionRow
initial_option = number_option (codes "--initial") 1 GREATEST_COST (codes "1000")

-- after how many microseconds each a running request is reported, or 0 for no reports
abbrev pub refresh_option : OptionRow
refresh_option = number_option (codes "--refresh") 0 GREATEST_COST (codes "10000")

-- the slot of the lag report in microseconds, or 0 for the automatic slot
abbrev pub slot_option : OptionRow
slot_option = number_option (codes "--slot") 0 GREATEST_SLOT (codes "0")
