-- The entries of one caller, and facts about all entries that follow from them.
use Rattle.std.proofs.Common.{◌≡◌, ◌≢◌, ◌<◌, ◌≤◌, ◌+◌, ◌-◌, ◌||◌, ◌==◌, ◌⊎◌, ℕ, true, false, Bool, List, [], ◌∷◌, ◌++◌, length, length-append, reverse, refl, sym, ap, ◌∙◌, subst, arith, inl, inr}
use Rattle.std.proofs.lemmas.List.{reverse-append, nil_from_length}
use Rattle.std.proofs.lemmas.Bool.{eq-eqb, ne_eqb, cases_eq, cases_lt, or_parts, or_from, or_left, or_right, or_cases, false≢true}
use Rattle.std.proofs.lemmas.List.Elements.{filter-append}
use Rattle.fq_model.specs.declared.event.Act.{Act}
use Rattle.fq_model.specs.declared.event.Entry.{Entry}
use Rattle.program_model.specs.Courses.{Each}
use Rattle.fq_model.specs.History.{History, has_act, history_of}
use Rattle.fq_model.specs.Outcome.{own_entries}
use Rattle.history_lock.specs.Histories.{IsPrefix}
use Rattle.history_lock.proofs.Turned.{own_turned}

pub own_here : (e : Entry) (P : History) (j : ℕ) → e.who ≡ j → own_entries (e ∷ P) j ≡ e ∷ own_entries P j
own_here e P j h = rw (eq-eqb e.who j h) refl

pub own_else : (e : Entry) (P : History) (j : ℕ) → e.who ≢ j → own_entries (e ∷ P) j ≡ own_entries P j
own_else e P j h = rw (ne_eqb e.who j h) refl

pub own_split : (newer P : History) (j : ℕ) → own_entries (newer ++ P) j ≡ own_entries newer j ++ own_entries P j
own_split newer P j = filter-append (λ (e : Entry). e.who == j) newer P

-- a caller with no entry has made no entry
pub not_by : (e : Entry) (P : History) (j : ℕ) → own_entries (e ∷ P) j ≡ [] → e.who ≢ j
not_by e P j none h = let k : e ∷ own_entries P j ≡ [] = sym (own_here e P j h) ∙ none in cc

pub none_older : (e : Entry) (P : History) (j : ℕ) → own_entries (e ∷ P) j ≡ [] → own_entries P j ≡ []
none_older e P j none = sym (own_else e P j (not_by e P j none)) ∙ none

-- where nobody from n on has an entry, each is by somebody below n
pub all_known : (n : ℕ) (H : History) → ((j : ℕ) → n ≤ j → own_entries H j ≡ []) → Each (λ P e. e.who < n) H
all_known n [] none = _
all_known n (e ∷ P) none = (
  all_known n P (λ j h. none_older e P j (none j h)),
  elim (cases_lt e.who n) [ inl h ↦ h | inr h ↦ absurd (not_by e P e.who (none e.who h) refl) ],
)

-- an act that no caller has made is not there
pub has_none : (test : Act → Bool) (H : History) → ((j : ℕ) → has_act test (own_entries H j) ≡ false) → has_act test H ≡ false
has_none test [] none = refl
has_none test (e ∷ P) none = or_from (test e.act) (has_act test P) (here e.who refl).0 (has_none test P older)
  where
    here : (j : ℕ) → e.who ≡ j → (test e.act ≡ false) × (has_act test (own_entries P j) ≡ false)
    here j h = or_parts _ _ (subst (λ Q. has_act test Q ≡ false) (own_here e P j h) (none j))

    older : (j : ℕ) → has_act test (own_entries P j) ≡ false
    older j = elim (cases_eq e.who j) [
      | inl h ↦ (here j h).1
      | inr h ↦ subst (λ Q. has_act test Q ≡ false) (own_else e P j h) (none j)
    ]

-- a test of the entries of e's caller and of others, before e and after
has_here : (test : Act → Bool) (e : Entry) (P : History) (j : ℕ) → e.who ≡ j → has_act test (own_entries (e ∷ P) j) ≡ (test e.act || has_act test (own_entries P j))
has_here test e P j by = ap (has_act test) (own_here e P j by)

has_else : (test : Act → Bool) (e : Entry) (P : History) (j : ℕ) → e.who ≢ j → has_act test (own_entries (e ∷ P) j) ≡ has_act test (own_entries P j)
has_else test e P j other = ap (has_act test) (own_else e P j other)

-- an act that a caller has made is there
pub has_own : (test : Act → Bool) (H : History) (j : ℕ) → has_act test (own_entries H j) ≡ true → has_act test H ≡ true
has_own test [] j h = h
has_own test (e ∷ P) j h = elim (cases_eq e.who j) [
  | inl by ↦ elim (or_cases (test e.act) (has_act test (own_entries P j)) (sym (has_here test e P j by) ∙ h)) [
    | inl now ↦ or_left (test e.act) (has_act test P) now
    | inr was ↦ or_right (test e.act) (has_act test P) (has_own test P j was)
  ]
  | inr other ↦ or_right (test e.act) (has_act test P) (has_own test P j (sym (has_else test e P j other) ∙ h))
]

-- an older act of a caller is an act of the caller
own_older : (test : Act → Bool) (e : Entry) (P : History) (j : ℕ) → has_act test (own_entries P j) ≡ true → has_act test (own_entries (e ∷ P) j) ≡ true
own_older test e P j was = elim (cases_eq e.who j) [
  | inl by ↦ has_here test e P j by ∙ or_right (test e.act) (has_act test (own_entries P j)) was
  | inr other ↦ has_else test e P j other ∙ was
]

-- and some caller has made an act that is there
pub has_owner : (test : Act → Bool) (H : History) → has_act test H ≡ true → (j : ℕ) × (has_act test (own_entries H j) ≡ true)
has_owner test [] h = absurd (false≢true h)
has_owner test (e ∷ P) h = elim (or_cases (test e.act) (has_act test P) h) [
  | inl now ↦ (e.who, has_here test e P e.who refl ∙ or_left (test e.act) (has_act test (own_entries P e.who)) now)
  | inr was ↦ (let x = has_owner test P was in (x.0, own_older test e P x.0 x.1))
]

-- ---- prefixes

pub own_turns : (past mine : List Entry) (j : ℕ) → own_entries past j ≡ mine → own_entries (history_of past) j ≡ history_of mine
own_turns past mine j h = own_turned past j ∙ ap reverse h

pub front_turns : (front past : List Entry) → IsPrefix front past → (newer : History) × (history_of past ≡ newer ++ history_of front)
front_turns front past (rest, is) = (reverse rest, ap reverse is ∙ reverse-append front rest)

-- a caller with as many entries in a prefix as in all has no newer entry
pub none_newer : (newer P : History) (j : ℕ) → own_entries (newer ++ P) j ≡ own_entries P j → own_entries newer j ≡ []
none_newer newer P j h =
    let e : own_entries newer j ++ own_entries P j ≡ own_entries P j = sym (own_split newer P j) ∙ h in
    let n : length (own_entries newer j) + length (own_entries P j) ≡ length (own_entries P j) = sym (length-append (own_entries newer j) (own_entries P j)) ∙ ap length e in
    nil_from_length (own_entries newer j) (omega (arith, n))

-- ---- the roles of callers

-- number j is one of s submitters, one of n workers, or no caller
pub who_is : (s n j : ℕ) → (j < s) ⊎ (((i : ℕ) × (i < n) × (j ≡ s + i)) ⊎ (s + n ≤ j))
who_is s n j = elim (cases_lt j s) [
  | inl h ↦ inl h
  | inr h ↦ elim (cases_lt j (s + n)) [
    | inl k ↦ inr (inl (j - s, omega arith, omega arith))
    | inr k ↦ inr (inr k)
  ]
]
