-- Each line of a printed journal is read as it was printed.
use Rattle.std.proofs.Common.{ℕ, suc, inl, inr, ◌*◌, ◌^◌, ◌<◌, ◌≤◌, ◌≡◌, ◌≢◌, ◌==◌, true, false, nat_le, List, [], ◌∷◌, ◌++◌, length, get_or, map, Ok, bytes_eq, refl, arith}
use Rattle.std.specs.Prelude.{codes}
use Rattle.std.specs.Fmt.{decimal}
use Rattle.std.specs.List.{list_any, list_all}
use Rattle.std.proofs.lemmas.Bool.{and_parts, cases_lt, eqb-true, false_from_ne_true, le-ltb, leb-true}
use Rattle.std.proofs.lemmas.Slice.Eq.{bytes_eq-Decides}
use Rattle.vt_fixed.specs.declared.limits.TheConstants.{GREATEST_COST}
use Rattle.fq_model.specs.declared.config.Config.{Config}
use Rattle.fq_model.specs.declared.config.Estimator.{Estimator}
use Rattle.fq_model.specs.declared.config.Estimator.TheVariants.{Declared, Recent, Pessimistic}
use Rattle.fq_model.specs.declared.config.Policy.{Policy}
use Rattle.fq_model.specs.declared.config.Policy.TheVariants.{Wfq, Wf2q, Msf2q, TwoDfq, TwoDfqPlus}
use Rattle.fq_model.specs.declared.event.Act.{Act}
use Rattle.fq_model.specs.declared.event.Act.TheVariants.{Submit, Take, Report, Done, Close, Weight, Workers, Withdraw}
use Rattle.fq_model.specs.declared.event.Entry.{Entry}
use Rattle.fq_model.specs.declared.limits.TheConstants.{TEXT_WEIGHT, TEXT_WORKERS, LEAST_ENTRIES, MOST_ENTRIES, TEXT_REQUESTS, TEXT_TENANTS, MOST_KINDS, TEXT_PAIRS}
use Rattle.fq_model.specs.History.{is_change, is_withdraw}
use Rattle.fq_model.specs.Limits.{InLimits, IsWithinText, IsTextWeight, IsWithin}
use Rattle.fq_model.specs.Spelling.{is_name, is_name_byte, policy_word, estimator_word}
use Rattle.fq_laws.proofs.Rules.Passes.{within}
use Rattle.program_model.specs.declared.version.Version.{Version}
use Rattle.program_model.specs.declared.version.Version.TheVariants.{First, Second, Third}
use Rattle.program_model.specs.Document.{Settings, LineReader, config_line, new_among, not_too_many, settings_of, with_body, with_kind, with_line, with_tenant}
use Rattle.program_model.specs.Journal.{Journal, submit_act, take_act, report_act, done_act, close_act, weight_act, workers_act, withdraw_act, entry_with, fixed_entry_of, changing_entry_of, withdrawing_entry_of, entry_of_words}
use Rattle.program_model.specs.Lines.{Words, word, number_at, ranged_at, index_at, name_at, policy_at, estimator_at}
use Rattle.journal_text.specs.Reading.{settings_in}
use Rattle.trace_reader.proofs.Numerals.{number-decimal}
use Rattle.law_book.specs.Journals.{FitsTypes, IsEntry}
use Rattle.law_book.proofs.Apart.{word_of, numbers_in, entry}
use Rattle.law_book.proofs.Telling.{IsWord}

-- ---- single words

number_read : (words : Words) (k n : ℕ) → word words k ≡ decimal n → n < 2 ^ 64 → number_at words k ≡ Ok n
unfolding number_at
number_read words k n is small = rw (is, number-decimal n small) refl

ranged_read : (words : Words) (k low high n : ℕ) → word words k ≡ decimal n → n < 2 ^ 64 → IsWithin low high n → ranged_at words k low high ≡ Ok n
unfolding ranged_at
ranged_read words k low high n is small limits = rw (number_read words k n is small, within low high n limits.0 limits.1) refl

index_read : (words : Words) (k n : ℕ) → word words k ≡ decimal n → n < 2 ^ 32 → index_at words k ≡ Ok n
unfolding index_at
index_read words k n is small = ranged_read words k 0 4294967295 n is (omega (arith, small)) (omega arith, omega (arith, small))

name_read : (words : Words) (k : ℕ) (name : List ℕ) → word words k ≡ name → is_name name ≡ true → name_at words k ≡ Ok name
unfolding name_at
name_read words k name is spelled = rw (is, spelled) refl

policy_read : (words : Words) (k : ℕ) (policy : Policy) → word words k ≡ policy_word policy → policy_at words k ≡ Ok policy
unfolding policy_at
policy_read words k Wfq is = rw is refl
policy_read words k Wf2q is = rw is refl
policy_read words k Msf2q is = rw is refl
policy_read words k TwoDfq is = rw is refl
policy_read words k TwoDfqPlus is = rw is refl

estimator_read : (words : Words) (k : ℕ) (estimate : Estimator) → word words k ≡ estimator_word estimate → estimator_at words k ≡ Ok estimate
unfolding estimator_at
estimator_read words k Declared is = rw is refl
estimator_read words k Recent is = rw is refl
estimator_read words k Pessimistic is = rw is refl

-- ---- an entry

abbrev words_of_act : ℕ → ℕ → Act → Words
words_of_act who moment act = word_of act ∷ map decimal (who ∷ moment ∷ numbers_in act)

-- the words of an entry's line
abbrev pub words_in : Entry → Words
words_in e = words_of_act e.who e.moment e.act

-- an act of a journal of this version
abbrev pub MayStand : Version → Act → Type 0
MayStand First act = is_change act ≡ false
MayStand Second act = is_withdraw act ≡ false
MayStand Third act = Unit {0}

module _ (who moment : ℕ) (w : who < 2 ^ 32) (m : moment < 2 ^ 64) where
  submit_read : (request tenant kind declared label : ℕ) → FitsTypes (Submit request tenant kind declared label)
      → entry_with 8 submit_act (words_of_act who moment (Submit request tenant kind declared label)) ≡ Ok (entry who moment (Submit request tenant kind declared label))
  unfolding entry_with submit_act
  submit_read request tenant kind declared label fits =
      let words = words_of_act who moment (Submit request tenant kind declared label) in
      rw (
        index_read words 1 who refl w,
        number_read words 2 moment refl m,
        index_read words 3 request refl fits.0,
        index_read words 4 tenant refl fits.1,
        index_read words 5 kind refl fits.2,
        number_read words 6 declared refl fits.3,
        number_read words 7 label refl fits.4,
      ) refl

  take_read : (worker request estimate : ℕ) → FitsTypes (Take worker request estimate)
      → entry_with 6 take_act (words_of_act who moment (Take worker request estimate)) ≡ Ok (entry who moment (Take worker request estimate))
  unfolding entry_with take_act
  take_read worker request estimate fits =
      let words = words_of_act who moment (Take worker request estimate) in
      rw (
        index_read words 1 who refl w,
        number_read words 2 moment refl m,
        index_read words 3 worker refl fits.0,
        index_read words 4 request refl fits.1,
        number_read words 5 estimate refl fits.2,
      ) refl

  report_read : (worker request used : ℕ) → FitsTypes (Report worker request used)
      → entry_with 6 report_act (words_of_act who moment (Report worker request used)) ≡ Ok (entry who moment (Report worker request used))
  unfolding entry_with report_act
  report_read worker request used fits =
      let words = words_of_act who moment (Report worker request used) in
      rw (
        index_read words 1 who refl w,
        number_read words 2 moment refl m,
        index_read words 3 worker refl fits.0,
        index_read words 4 request refl fits.1,
        number_read words 5 used refl fits.2,
      ) refl

  done_read : (worker request cost : ℕ) → FitsTypes (Done worker request cost)
      → entry_with 6 done_act (words_of_act who moment (Done worker request cost)) ≡ Ok (entry who moment (Done worker request cost))
  unfolding entry_with done_act
  done_read worker request cost fits =
      let words = words_of_act who moment (Done worker request cost) in
      rw (
        index_read words 1 who refl w,
        number_read words 2 moment refl m,
        index_read words 3 worker refl fits.0,
        index_read words 4 request refl fits.1,
        number_read words 5 cost refl fits.2,
      ) refl

  close_read : entry_with 3 close_act (words_of_act who moment Close) ≡ Ok (entry who moment Close)
  unfolding entry_with close_act
  close_read =
      let words = words_of_act who moment Close in
      rw (index_read words 1 who refl w, number_read words 2 moment refl m) refl

  weight_read : (tenant weight : ℕ) → FitsTypes (Weight tenant weight)
      → entry_with 5 weight_act (words_of_act who moment (Weight tenant weight)) ≡ Ok (entry who moment (Weight tenant weight))
  unfolding entry_with weight_act
  weight_read tenant weight fits =
      let words = words_of_act who moment (Weight tenant weight) in
      rw (
        index_read words 1 who refl w,
        number_read words 2 moment refl m,
        index_read words 3 tenant refl fits.0,
        index_read words 4 weight refl fits.1,
      ) refl

  workers_read : (count : ℕ) → FitsTypes (Workers count)
      → entry_with 4 workers_act (words_of_act who moment (Workers count)) ≡ Ok (entry who moment (Workers count))
  unfolding entry_with workers_act
  workers_read count fits =
      let words = words_of_act who moment (Workers count) in
      rw (
        index_read words 1 who refl w,
        number_read words 2 moment refl m,
        index_read words 3 count refl fits,
      ) refl

  withdraw_read : (request : ℕ) → FitsTypes (Withdraw request)
      → entry_with 4 withdraw_act (words_of_act who moment (Withdraw request)) ≡ Ok (entry who moment (Withdraw request))
  unfolding entry_with withdraw_act
  withdraw_read request fits =
      let words = words_of_act who moment (Withdraw request) in
      rw (
        index_read words 1 who refl w,
        number_read words 2 moment refl m,
        index_read words 3 request refl fits,
      ) refl

  fixed_read : (act : Act) → FitsTypes act → is_change act ≡ false → fixed_entry_of (words_of_act who moment act) ≡ Ok (entry who moment act)
  unfolding fixed_entry_of
  fixed_read (Submit request tenant kind declared label) fits fixed = submit_read request tenant kind declared label fits
  fixed_read (Take worker request estimate) fits fixed = take_read worker request estimate fits
  fixed_read (Report worker request used) fits fixed = report_read worker request used fits
  fixed_read (Done worker request cost) fits fixed = done_read worker request cost fits
  fixed_read Close fits fixed = close_read
  fixed_read (Weight tenant weight) fits fixed = absurd (cc)
  fixed_read (Workers count) fits fixed = absurd (cc)
  fixed_read (Withdraw request) fits fixed = absurd (cc)

  changing_read : (act : Act) → FitsTypes act → is_withdraw act ≡ false → changing_entry_of (words_of_act who moment act) ≡ Ok (entry who moment act)
  unfolding changing_entry_of
  changing_read (Submit request tenant kind declared label) fits kept = fixed_read (Submit request tenant kind declared label) fits refl
  changing_read (Take worker request estimate) fits kept = fixed_read (Take worker request estimate) fits refl
  changing_read (Report worker request used) fits kept = fixed_read (Report worker request used) fits refl
  changing_read (Done worker request cost) fits kept = fixed_read (Done worker request cost) fits refl
  changing_read Close fits kept = fixed_read Close fits refl
  changing_read (Weight tenant weight) fits kept = weight_read tenant weight fits
  changing_read (Workers count) fits kept = workers_read count fits
  changing_read (Withdraw request) fits kept = absurd (cc)

  withdrawing_read : (act : Act) → FitsTypes act → withdrawing_entry_of (words_of_act who moment act) ≡ Ok (entry who moment act)
  unfolding withdrawing_entry_of
  withdrawing_read (Submit request tenant kind declared label) fits = changing_read (Submit request tenant kind declared label) fits refl
  withdrawing_read (Take worker request estimate) fits = changing_read (Take worker request estimate) fits refl
  withdrawing_read (Report worker request used) fits = changing_read (Report worker request used) fits refl
  withdrawing_read (Done worker request cost) fits = changing_read (Done worker request cost) fits refl
  withdrawing_read Close fits = changing_read Close fits refl
  withdrawing_read (Weight tenant weight) fits = changing_read (Weight tenant weight) fits refl
  withdrawing_read (Workers count) fits = changing_read (Workers count) fits refl
  withdrawing_read (Withdraw request) fits = withdraw_read request fits

entry_read : (v : Version) (e : Entry) → IsEntry e → MayStand v e.act → entry_of_words v (words_in e) ≡ Ok e
entry_read First e is may = fixed_read e.who e.moment is.who is.moment e.act is.act may
entry_read Second e is may = changing_read e.who e.moment is.who is.moment e.act is.act may
entry_read Third e is may = withdrawing_read e.who e.moment is.who is.moment e.act is.act

-- ---- a line of the body

-- a document with these parts
abbrev pub document : Settings → List (List ℕ) → List ℕ → List (List ℕ) → List Entry → Journal
document settings tenants weights kinds body = record { settings = settings; tenants = tenants; weights = weights; kinds = kinds; body = body }

-- the word of an act begins no line of the head
begins_none : (act : Act) → (bytes_eq (word_of act) (codes "tenant") ≡ false) × (bytes_eq (word_of act) (codes "kind") ≡ false)
begins_none (Submit request tenant kind declared label) = (refl, refl)
begins_none (Take worker request estimate) = (refl, refl)
begins_none (Report worker request used) = (refl, refl)
begins_none (Done worker request cost) = (refl, refl)
begins_none Close = (refl, refl)
begins_none (Weight tenant weight) = (refl, refl)
begins_none (Workers count) = (refl, refl)
begins_none (Withdraw request) = (refl, refl)

pub body_line_read : (v : Version) (s : Settings) (tenants : List (List ℕ)) (weights : List ℕ) (kinds : List (List ℕ)) (body : List Entry) (e : Entry)
    → (length kinds == 0) ≡ false → IsEntry e → MayStand v e.act
    → with_line (entry_of_words v) (document s tenants weights kinds body) (words_in e) ≡ Ok (document s tenants weights kinds (body ++ e ∷ []))
unfolding with_line with_body
body_line_read v s tenants weights kinds body e some is may =
    rw ((begins_none e.act).0, (begins_none e.act).1, some, entry_read v e is may) refl

-- ---- lines of the head

-- a name stands nowhere among others
pub is_new : (names : List (List ℕ)) (name : List ℕ) → ((k : ℕ) → k < length names → get_or names k [] ≢ name) → new_among names name ≡ Ok name
is_new names name other = rw (none names other) refl
  where
    none : (names : List (List ℕ)) → ((k : ℕ) → k < length names → get_or names k [] ≢ name) → list_any (λ o. bytes_eq o name) names ≡ false
    none [] other = refl
    none (first ∷ names) other =
        let differs : bytes_eq first name ≡ false = false_from_ne_true (bytes_eq first name) (λ same. other 0 (omega arith) ((bytes_eq-Decides first name).0 same)) in
        rw (differs, none names (λ k b. other (suc k) (omega arith))) refl

pub few : (s : Settings) (tenants : List (List ℕ)) (weights : List ℕ) (kinds : List (List ℕ))
    → length tenants ≤ TEXT_TENANTS → length kinds ≤ MOST_KINDS → length tenants * length kinds ≤ TEXT_PAIRS
    → not_too_many (document s tenants weights kinds []) ≡ Ok (document s tenants weights kinds [])
few s tenants weights kinds a b c = rw (
  le-ltb TEXT_TENANTS (length tenants) a,
  le-ltb MOST_KINDS (length kinds) b,
  le-ltb TEXT_PAIRS (length tenants * length kinds) c,
) refl

pub tenant_read : (reader : LineReader Entry) (s : Settings) (tenants : List (List ℕ)) (weights : List ℕ) (name : List ℕ) (weight : ℕ)
    → is_name name ≡ true → new_among tenants name ≡ Ok name → IsTextWeight weight → length (tenants ++ name ∷ []) ≤ TEXT_TENANTS
    → with_line reader (document s tenants weights [] []) (codes "tenant" ∷ name ∷ decimal weight ∷ []) ≡ Ok (document s (tenants ++ name ∷ []) (weights ++ weight ∷ []) [] [])
unfolding with_line with_tenant
tenant_read reader s tenants weights name weight spelled new limits fits =
    let words = codes "tenant" ∷ name ∷ decimal weight ∷ [] in
    rw (
      name_read words 1 name refl spelled,
      ranged_read words 2 1 TEXT_WEIGHT weight refl (omega (arith, limits.1)) limits,
      new,
    ) (few s (tenants ++ name ∷ []) (weights ++ weight ∷ []) [] fits (omega arith) (omega arith))

pub kind_read : (reader : LineReader Entry) (s : Settings) (tenants : List (List ℕ)) (weights : List ℕ) (kinds : List (List ℕ)) (name : List ℕ)
    → (length tenants == 0) ≡ false → is_name name ≡ true → new_among kinds name ≡ Ok name
    → length tenants ≤ TEXT_TENANTS → length (kinds ++ name ∷ []) ≤ MOST_KINDS → length tenants * length (kinds ++ name ∷ []) ≤ TEXT_PAIRS
    → with_line reader (document s tenants weights kinds []) (codes "kind" ∷ name ∷ []) ≡ Ok (document s tenants weights (kinds ++ name ∷ []) [])
unfolding with_line with_kind
kind_read reader s tenants weights kinds name some spelled new a b c =
    rw (some, name_read (codes "kind" ∷ name ∷ []) 1 name refl spelled, new) (few s tenants weights (kinds ++ name ∷ []) a b c)

-- the words of a configuration's line
abbrev pub config_words : Config → Words
config_words C = codes "config" ∷ decimal C.workers ∷ policy_word C.policy ∷ estimator_word C.estimate ∷ decimal C.initial ∷ decimal C.entries ∷ decimal C.requests ∷ []

settings_read : (C : Config) → InLimits C → IsWithinText C → settings_of (config_words C) ≡ Ok (settings_in C)
unfolding settings_of
settings_read C limits text =
    let words = config_words C in
    rw (
      ranged_read words 1 1 TEXT_WORKERS C.workers refl (omega (arith, limits.workers.1)) (limits.workers.0, text.workers),
      policy_read words 2 C.policy refl,
      estimator_read words 3 C.estimate refl,
      ranged_read words 4 1 GREATEST_COST C.initial refl (omega (arith, limits.initial.1)) limits.initial,
      ranged_read words 5 LEAST_ENTRIES MOST_ENTRIES C.entries refl (omega (arith, text.entries)) (limits.entries.0, text.entries),
      ranged_read words 6 1 TEXT_REQUESTS C.requests refl (omega (arith, limits.requests.1)) (limits.requests.0, text.requests),
    ) refl

pub config_read : (C : Config) → InLimits C → IsWithinText C → config_line (config_words C) ≡ Ok (document (settings_in C) [] [] [] [])
unfolding config_line
config_read C limits text = rw (settings_read C limits text) refl

-- ---- names and words

-- no byte up to the space is one of a name
no_name_byte : (b : ℕ) → b ≤ 32 → is_name_byte b ≡ false
no_name_byte b low =
    let not : (m : ℕ) → 32 < m → nat_le m b ≡ false = λ m high. false_from_ne_true (nat_le m b) (λ le. omega (arith, leb-true m b le, low, high)) in
    let other : (m : ℕ) → 32 < m → (b == m) ≡ false = λ m high. false_from_ne_true (b == m) (λ same. omega (arith, eqb-true b m same, low, high)) in
    rw (not 48 (omega arith), not 65 (omega arith), not 97 (omega arith), other 95 (omega arith), other 45 (omega arith), other 46 (omega arith)) refl

high_byte : (b : ℕ) → is_name_byte b ≡ true → 32 < b
high_byte b is = elim (cases_lt 32 b) [
  | inl high ↦ high
  | inr low ↦ (let none = no_name_byte b low in absurd (cc))
]

bytes_word : (name : List ℕ) → list_all is_name_byte name ≡ true → IsWord name
bytes_word [] all = tt
bytes_word (b ∷ bs) all =
    let parts = and_parts (is_name_byte b) (list_all is_name_byte bs) all in
    (high_byte b parts.0, bytes_word bs parts.1)

-- a name is a word
pub name_word : (name : List ℕ) → is_name name ≡ true → IsWord name
name_word name is = bytes_word name (and_parts (nat_le (length name) 64) _ (and_parts (nat_le 1 (length name)) _ is).1).1

pub policy_is_word : (policy : Policy) → IsWord (policy_word policy)
policy_is_word Wfq = omega arith
policy_is_word Wf2q = omega arith
policy_is_word Msf2q = omega arith
policy_is_word TwoDfq = omega arith
policy_is_word TwoDfqPlus = omega arith

pub estimator_is_word : (estimate : Estimator) → IsWord (estimator_word estimate)
estimator_is_word Declared = omega arith
estimator_is_word Recent = omega arith
estimator_is_word Pessimistic = omega arith
