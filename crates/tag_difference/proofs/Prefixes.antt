-- The history of the first entries of a past.
use Rattle.std.proofs.Common.{ℕ, ◌+◌, ◌<◌, ◌≤◌, ◌≡◌, ◌∙◌, ap, sym, subst, List, [], ◌∷◌, ◌++◌, length, take, drop, get_or}
use Rattle.std.proofs.lemmas.List.{reverse-append, take-append-drop, take_more, take_all}
use Rattle.fq_model.specs.declared.config.Config.{Config}
use Rattle.fq_model.specs.declared.event.Act.TheVariants.{Submit}
use Rattle.fq_model.specs.declared.event.Entry.{Entry}
use Rattle.fq_model.specs.History.{History, history_of}
use Rattle.fq_model.specs.Rules.{IsLegal}
use Rattle.gap_laws.proofs.Declared.{legal_prefix}

-- of the first i entries
abbrev pub first_entries : List Entry → ℕ → History
first_entries past i = history_of (take i past)

-- the next entry
abbrev pub next_entry : List Entry → ℕ → Entry
next_entry past i = get_or past i (record { who = 0; moment = 0; act = Submit 0 0 0 0 0 })

-- one entry on
pub one_on : (past : List Entry) (i : ℕ) → i < length past → first_entries past (i + 1) ≡ next_entry past i ∷ first_entries past i
one_on past i b = ap history_of (take_more past i _ b) ∙ reverse-append (take i past) (next_entry past i ∷ [])

-- the whole is these and those that follow
pub split_at : (past : List Entry) (i : ℕ) → history_of past ≡ history_of (drop i past) ++ first_entries past i
split_at past i = ap history_of (sym (take-append-drop i past)) ∙ reverse-append (take i past) (drop i past)

-- at the end it is the whole
pub all_entries : (past : List Entry) (i : ℕ) → length past ≤ i → first_entries past i ≡ history_of past
all_entries past i b = ap history_of (take_all i past b)

pub legal_first : (C : Config) (past : List Entry) (i : ℕ) → IsLegal C (history_of past) → IsLegal C (first_entries past i)
legal_first C past i l = legal_prefix C (history_of (drop i past)) (first_entries past i) (subst (IsLegal C) (split_at past i) l)

-- the next entry may follow
pub legal_next : (C : Config) (past : List Entry) (i : ℕ) → i < length past → IsLegal C (history_of past) → IsLegal C (next_entry past i ∷ first_entries past i)
legal_next C past i b l = subst (IsLegal C) (one_on past i b) (legal_first C past (i + 1) l)
