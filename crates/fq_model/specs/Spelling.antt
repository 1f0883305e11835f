-- Names, and the words for policies and estimators, as bytes of a text.
use Rattle.std.specs.Prelude.{ℕ, ◌==◌, nat_le, Bool, ◌&&◌, ◌||◌, if◌then◌else◌, List, length, Option, Some, None, codes, bytes_eq}
use Rattle.std.specs.List.{list_all}
use Rattle.fq_model.specs.declared.config.Policy.{Policy}
use Rattle.fq_model.specs.declared.config.Policy.TheVariants.{Wfq, Wf2q, Msf2q, TwoDfq, TwoDfqPlus}
use Rattle.fq_model.specs.declared.config.Estimator.{Estimator}
use Rattle.fq_model.specs.declared.config.Estimator.TheVariants.{Declared, Recent, Pessimistic}

-- the bytes of `0` to `9`
abbrev pub is_digit : ℕ → Bool
is_digit b = nat_le 48 b && nat_le b 57

-- an ASCII letter, a digit, `_`, `-` or `.`
abbrev pub is_name_byte : ℕ → Bool
is_name_byte b =
    is_digit b
    || ((nat_le 65 b && nat_le b 90)
    || ((nat_le 97 b && nat_le b 122) || ((b == 95) || ((b == 45) || (b == 46)))))

-- 1 to 64 such bytes
abbrev pub is_name : List ℕ → Bool
is_name bytes = nat_le 1 (length bytes) && (nat_le (length bytes) 64 && list_all is_name_byte bytes)

abbrev pub policy_of : List ℕ → Option Policy
policy_of word =
    if bytes_eq word (codes "wfq") then Some Wfq
    else if bytes_eq word (codes "wf2q") then Some Wf2q
    else if bytes_eq word (codes "msf2q") then Some Msf2q
    else if bytes_eq word (codes "2dfq") then Some TwoDfq
    else if bytes_eq word (codes "2dfq+") then Some TwoDfqPlus
    else None

abbrev pub estimator_of : List ℕ → Option Estimator
estimator_of word =
    if bytes_eq word (codes "declared") then Some Declared
    else if bytes_eq word (codes "recent") then Some Recent
    else if bytes_eq word (codes "pessimistic") then Some Pessimistic
    else None

-- the word that names a policy
abbrev pub policy_word : Policy → List ℕ
policy_word Wfq = codes "wfq"
policy_word Wf2q = codes "wf2q"
policy_word Msf2q = codes "msf2q"
policy_word TwoDfq = codes "2dfq"
policy_word TwoDfqPlus = codes "2dfq+"

-- the word that names an estimator
abbrev pub estimator_word : Estimator → List ℕ
estimator_word Declared = codes "declared"
estimator_word Recent = codes "recent"
estimator_word Pessimistic = codes "pessimistic"
