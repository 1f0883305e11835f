-- The journal of a history tells each of its entries.
use Rattle.std.proofs.Common.{ℕ, ◌≡◌, if◌then◌else◌, List, [], ◌∷◌, ◌++◌, get_or, refl, sym, ap, ◌∙◌, arith}
use Rattle.std.specs.Prelude.{codes, bytes_eq}
use Rattle.std.proofs.lemmas.List.{append_cancel_left}
use Rattle.std.proofs.lemmas.List.Elements.{All-head, All-tail}
use Rattle.fq_model.specs.declared.event.Act.{Act}
use Rattle.fq_model.specs.declared.event.Act.TheVariants.{Submit, Take, Report, Done, Close, Weight, Workers, Withdraw}
use Rattle.fq_model.specs.declared.event.Entry.{Entry}
use Rattle.program_model.specs.declared.version.Version.{Version}
use Rattle.program_model.specs.declared.version.Version.TheVariants.{First, Second, Third}
use Rattle.program_model.specs.JournalText.{numbers_text, act_line, entry_line, entries_text, header_line, head_text, journal_text, version_for}
use Rattle.law_book.specs.Journals.{FitsTypes, IsEntry, AreEntries, JournalsTellHistories}
use Rattle.law_book.proofs.Telling.{IsWord, AreSmall, regrouped, some_line, line_told}

-- a line is the word of its act, and numbers
abbrev pub word_of : Act → List ℕ
word_of (Submit request tenant kind declared label) = codes "submit"
word_of (Take worker request estimate) = codes "take"
word_of (Report worker request used) = codes "report"
word_of (Done worker request cost) = codes "done"
word_of Close = codes "close"
word_of (Weight tenant weight) = codes "weight"
word_of (Workers count) = codes "workers"
word_of (Withdraw request) = codes "withdraw"

abbrev pub numbers_in : Act → List ℕ
numbers_in (Submit request tenant kind declared label) = request ∷ tenant ∷ kind ∷ declared ∷ label ∷ []
numbers_in (Take worker request estimate) = worker ∷ request ∷ estimate ∷ []
numbers_in (Report worker request used) = worker ∷ request ∷ used ∷ []
numbers_in (Done worker request cost) = worker ∷ request ∷ cost ∷ []
numbers_in Close = []
numbers_in (Weight tenant weight) = tenant ∷ weight ∷ []
numbers_in (Workers count) = count ∷ []
numbers_in (Withdraw request) = request ∷ []

-- the act of this word with these numbers
abbrev act_of : List ℕ → List ℕ → Act
act_of word ns =
    if bytes_eq word (codes "submit") then Submit (get_or ns 0 0) (get_or ns 1 0) (get_or ns 2 0) (get_or ns 3 0) (get_or ns 4 0)
    else if bytes_eq word (codes "take") then Take (get_or ns 0 0) (get_or ns 1 0) (get_or ns 2 0)
    else if bytes_eq word (codes "report") then Report (get_or ns 0 0) (get_or ns 1 0) (get_or ns 2 0)
    else if bytes_eq word (codes "done") then Done (get_or ns 0 0) (get_or ns 1 0) (get_or ns 2 0)
    else if bytes_eq word (codes "close") then Close
    else if bytes_eq word (codes "weight") then Weight (get_or ns 0 0) (get_or ns 1 0)
    else if bytes_eq word (codes "workers") then Workers (get_or ns 0 0)
    else Withdraw (get_or ns 0 0)

act_back : (a : Act) → act_of (word_of a) (numbers_in a) ≡ a
act_back (Submit request tenant kind declared label) = refl
act_back (Take worker request estimate) = refl
act_back (Report worker request used) = refl
act_back (Done worker request cost) = refl
act_back Close = refl
act_back (Weight tenant weight) = refl
act_back (Workers count) = refl
act_back (Withdraw request) = refl

act_told : (a b : Act) → word_of a ≡ word_of b → numbers_in a ≡ numbers_in b → a ≡ b
act_told a b word numbers = sym (act_back a) ∙ (rw (word, numbers) (act_back b))

act_row : (who moment : ℕ) (a : Act) → act_line who moment a ≡ word_of a ++ numbers_text (who ∷ moment ∷ numbers_in a)
act_row who moment (Submit request tenant kind declared label) = refl
act_row who moment (Take worker request estimate) = refl
act_row who moment (Report worker request used) = refl
act_row who moment (Done worker request cost) = refl
act_row who moment Close = refl
act_row who moment (Weight tenant weight) = refl
act_row who moment (Workers count) = refl
act_row who moment (Withdraw request) = refl

pub is_word : (a : Act) → IsWord (word_of a)
is_word (Submit request tenant kind declared label) = omega arith
is_word (Take worker request estimate) = omega arith
is_word (Report worker request used) = omega arith
is_word (Done worker request cost) = omega arith
is_word Close = omega arith
is_word (Weight tenant weight) = omega arith
is_word (Workers count) = omega arith
is_word (Withdraw request) = omega arith

are_small : (a : Act) → FitsTypes a → AreSmall (numbers_in a)
are_small (Submit request tenant kind declared label) fits = omega (arith, fits)
are_small (Take worker request estimate) fits = omega (arith, fits)
are_small (Report worker request used) fits = omega (arith, fits)
are_small (Done worker request cost) fits = omega (arith, fits)
are_small Close fits = tt
are_small (Weight tenant weight) fits = omega (arith, fits)
are_small (Workers count) fits = omega (arith, fits)
are_small (Withdraw request) fits = omega (arith, fits)

-- the numbers of an entry's line
abbrev pub row_of : Entry → List ℕ
row_of e = e.who ∷ e.moment ∷ numbers_in e.act

pub row_small : (e : Entry) → IsEntry e → AreSmall (row_of e)
row_small e is = (omega (arith, is.who), (is.moment, are_small e.act is.act))

pub line_row : (e : Entry) → entry_line e ≡ word_of e.act ++ numbers_text (row_of e)
line_row e = act_row e.who e.moment e.act

abbrev pub entry : ℕ → ℕ → Act → Entry
entry who moment act = record { who = who; moment = moment; act = act }

same_entry : (d e : Entry) → d.who ≡ e.who → d.moment ≡ e.moment → d.act ≡ e.act → d ≡ e
same_entry d e who moment act =
    ap (λ (w : ℕ). entry w d.moment d.act) who ∙ (ap (λ (m : ℕ). entry e.who m d.act) moment ∙ ap (λ (a : Act). entry e.who e.moment a) act)

-- lines of entries that begin the same text are those of one entry
entry_told : (d e : Entry) (r s : List ℕ) → IsEntry d → IsEntry e → entry_line d ++ r ≡ entry_line e ++ s → (d ≡ e) × (r ≡ s)
entry_told d e r s one two same =
    let rows = sym (ap (λ l. l ++ r) (line_row d)) ∙ (same ∙ ap (λ l. l ++ s) (line_row e)) in
    let told = line_told (word_of d.act) (word_of e.act) (row_of d) (row_of e) r s (is_word d.act) (is_word e.act) (row_small d one) (row_small e two) rows in
    let numbers : row_of d ≡ row_of e = told.1 in
    let who : d.who ≡ e.who = cc in
    let moment : d.moment ≡ e.moment = cc in
    let below : numbers_in d.act ≡ numbers_in e.act = cc in
    let act : d.act ≡ e.act = act_told d.act e.act told.0 below in
    (same_entry d e who moment act, told.2)

no_line : (e : Entry) (r : List ℕ) → [] ≡ entry_line e ++ r → ⊥
no_line e r none = some_line (word_of e.act) e.who (e.moment ∷ numbers_in e.act) r (none ∙ ap (λ l. l ++ r) (line_row e))

entries_told : (past other : List Entry) → AreEntries past → AreEntries other → entries_text past ≡ entries_text other → past ≡ other
entries_told [] [] one two same = refl
entries_told [] (e ∷ es) one two same = absurd (no_line e (entries_text es) same)
entries_told (d ∷ ds) [] one two same = absurd (no_line d (entries_text ds) (sym same))
entries_told (d ∷ ds) (e ∷ es) one two same =
    let told = entry_told d e (entries_text ds) (entries_text es) (All-head IsEntry d ds one) (All-head IsEntry e es two) same in
    rw (told.0, entries_told ds es (All-tail IsEntry d ds one) (All-tail IsEntry e es two) told.1) refl

-- the first lines have the same length
below_header : (v w : Version) (below rest : List ℕ) → header_line v ++ below ≡ header_line w ++ rest → below ≡ rest
below_header First First below rest same = cc
below_header First Second below rest same = cc
below_header First Third below rest same = cc
below_header Second First below rest same = cc
below_header Second Second below rest same = cc
below_header Second Third below rest same = cc
below_header Third First below rest same = cc
below_header Third Second below rest same = cc
below_header Third Third below rest same = cc

pub told_histories : JournalsTellHistories
unfolding journal_text
told_histories C tenants kinds past other one two same =
    let head = head_text C tenants kinds in
    let parts = regrouped (header_line (version_for past)) head (entries_text past) (header_line (version_for other)) head (entries_text other) same in
    let below = below_header (version_for past) (version_for other) (head ++ entries_text past) (head ++ entries_text other) parts in
    entries_told past other one two (append_cancel_left head (entries_text past) (entries_text other) below)
