-- Lines of a text, the words of a line, and the values of single words.
use Rattle.std.specs.Prelude.{ℕ, ◌+◌, ◌==◌, nat_lt, ◌||◌, if◌then◌else◌, List, [], ◌∷◌, length, Result, Ok, Err, slice_index_or}
use Rattle.std.specs.List.{slice_split, onto_first}
use Rattle.fq_model.specs.declared.config.Policy.{Policy}
use Rattle.fq_model.specs.declared.config.Estimator.{Estimator}
use Rattle.program_model.specs.declared.fault.ScriptKind.{ScriptKind}
use Rattle.program_model.specs.declared.fault.ScriptKind.TheVariants.{Word, Fields, Number, Range}
use Rattle.program_model.specs.Reading.{◌>>=◌, or_fault}
use Rattle.program_model.specs.Numbers.{number_of}
use Rattle.fq_model.specs.Spelling.{is_name, policy_of, estimator_of}

-- the pieces between LF bytes; an LF at the very end starts no further line (`onto_first b []` is the one line b)
abbrev pub lines_of : List ℕ → List (List ℕ)
lines_of [] = []
lines_of (b ∷ bs) = if b == 10 then [] ∷ lines_of bs else onto_first b (lines_of bs)

-- the words of a line
abbrev pub Words : Type 0
Words = List (List ℕ)

-- the pieces between single spaces
abbrev pub words_of : List ℕ → Words
words_of line = slice_split (λ b. b == 32) line

-- word k, where the first is word 0; faults count from 1
abbrev pub word : Words → ℕ → List ℕ
word words k = slice_index_or words k []

-- the line has this many words
abbrev pub with_count : ℕ → Words → Result Words ScriptKind
with_count n words = if length words == n then Ok words else Err (Fields (length words))

-- the number of word k is from low to high
abbrev pub in_range : ℕ → ℕ → ℕ → ℕ → Result ℕ ScriptKind
in_range k low high n = if nat_lt n low || nat_lt high n then Err (Range (k + 1)) else Ok n

-- word k is a number
unfoldable pub number_at : Words → ℕ → Result ℕ ScriptKind
number_at words k = or_fault (Number (k + 1)) (number_of (word words k))

-- word k is a number from low to high
unfoldable pub ranged_at : Words → ℕ → ℕ → ℕ → Result ℕ ScriptKind
ranged_at words k low high = number_at words k >>= in_range k low high

-- word k is a number of 32 bits: that of a caller, a request, a tenant, a kind or a worker, whether there is such a one
-- or not; a weight; or a count of workers
unfoldable pub index_at : Words → ℕ → Result ℕ ScriptKind
index_at words k = ranged_at words k 0 4294967295

-- word k is a name
unfoldable pub name_at : Words → ℕ → Result (List ℕ) ScriptKind
name_at words k = if is_name (word words k) then Ok (word words k) else Err Word

-- word k names a policy
unfoldable pub policy_at : Words → ℕ → Result Policy ScriptKind
policy_at words k = or_fault Word (policy_of (word words k))

-- word k names an estimator
unfoldable pub estimator_at : Words → ℕ → Result Estimator ScriptKind
estimator_at words k = or_fault Word (estimator_of (word words k))
