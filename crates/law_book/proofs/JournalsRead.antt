-- Printed journals are read back as the documents that were printed.
use Rattle.std.proofs.Common.{ℕ, suc, ◌+◌, ◌*◌, ◌^◌, ◌<◌, ◌≤◌, ◌≡◌, ◌≢◌, ◌==◌, Bool, true, false, ◌||◌, if◌then◌else◌, List, [], ◌∷◌, ◌++◌, length, get_or, map, All, Ok, refl, sym, ap, ◌∙◌, subst, arith, append_assoc, length-append}
use Rattle.std.specs.Prelude.{codes}
use Rattle.std.specs.Fmt.{decimal}
use Rattle.std.specs.List.{list_any}
use Rattle.std.proofs.Math.Seq.{get_or-append_seam}
use Rattle.std.proofs.lemmas.Bool.{eqb-true, false_from_ne_true}
use Rattle.std.proofs.lemmas.List.{append-nil, get_or_append_left}
use Rattle.std.proofs.lemmas.List.Elements.{All-head, All-tail}
use Rattle.std.proofs.lemmas.Nat.{mul-le}
use Rattle.fq_model.specs.declared.config.Config.{Config}
use Rattle.fq_model.specs.declared.event.Entry.{Entry}
use Rattle.fq_model.specs.declared.limits.TheConstants.{TEXT_TENANTS, MOST_KINDS, TEXT_PAIRS}
use Rattle.fq_model.specs.History.{is_change, is_withdraw}
use Rattle.fq_model.specs.declared.limits.Limits.TheVariants.{Text}
use Rattle.fq_model.specs.Limits.{InLimits, IsWithinText, IsTextWeight}
use Rattle.fq_model.specs.Names.{AreNames}
use Rattle.fq_model.specs.Spelling.{is_name, policy_word, estimator_word}
use Rattle.program_model.specs.declared.version.Version.{Version}
use Rattle.program_model.specs.declared.version.Version.TheVariants.{First, Second, Third}
use Rattle.program_model.specs.Document.{Settings, LineReader, below_header, config_line, document_of, document_of_lines, with_lines}
use Rattle.program_model.specs.Journal.{Journal, entry_of_words}
use Rattle.program_model.specs.JournalText.{numbers_text, entry_line, entries_text, header_line, head_text, journal_text, kinds_text, settings_line, tenants_text, version_for}
use Rattle.program_model.specs.Lines.{Words, lines_of}
use Rattle.program_model.specs.Reading.{◌>>=◌, at_line}
use Rattle.journal_text.specs.Printing.{top_text}
use Rattle.journal_text.specs.Reading.{settings_in}
use Rattle.law_book.specs.Journals.{IsEntry, AreEntries, AreNamesFor, IsReadBack, journal_with, JournalsReadBack, StreamedReadBack}
use Rattle.law_book.proofs.Apart.{word_of, is_word, row_of, row_small, line_row}
use Rattle.law_book.proofs.Lines.{AreWords, spaced, words_first, row_spaced, numbers_words, line_read}
use Rattle.law_book.proofs.LinesRead.{MayStand, document, body_line_read, is_new, tenant_read, kind_read, config_read, name_word, policy_is_word, estimator_is_word}
use Rattle.law_book.proofs.Telling.{IsWord, decimal-word}

-- ---- the entries

-- these are entries of a journal of this version
abbrev AreOf : Version → List Entry → Type 0
AreOf First es = list_any (λ e. is_change e.act) es ≡ false
AreOf Second es = list_any (λ e. is_withdraw e.act) es ≡ false
AreOf Third es = Unit {0}

first_of : (a b : Bool) → (a || b) ≡ false → (a ≡ false) × (b ≡ false)
first_of true b is = absurd (cc)
first_of false b is = (refl, is)

one_of : (v : Version) (e : Entry) (es : List Entry) → AreOf v (e ∷ es) → MayStand v e.act × AreOf v es
one_of First e es are = first_of (is_change e.act) (list_any (λ e. is_change e.act) es) are
one_of Second e es are = first_of (is_withdraw e.act) (list_any (λ e. is_withdraw e.act) es) are
one_of Third e es are = (tt, tt)

-- the entries of a journal are of its version
of_version : (es : List Entry) → AreOf (version_for es) es
of_version es = go (list_any (λ e. is_withdraw e.act) es) (list_any (λ e. is_change e.act) es) refl refl
  where
    go : (t u : Bool) → list_any (λ e. is_withdraw e.act) es ≡ t → list_any (λ e. is_change e.act) es ≡ u → AreOf (if t then Third else if u then Second else First) es
    go true u withdraws changes = tt
    go false true withdraws changes = withdraws
    go false false withdraws changes = changes

entry_text : (e : Entry) (below : List ℕ) → entry_line e ++ below ≡ (word_of e.act ++ spaced (map decimal (row_of e))) ++ 10 ∷ below
entry_text e below = ap (λ l. l ++ below) (line_row e) ∙ row_spaced (word_of e.act) (row_of e) below

entries_read : (v : Version) (place : ℕ) (s : Settings) (tenants : List (List ℕ)) (weights : List ℕ) (kinds : List (List ℕ)) (body es : List Entry)
    → (length kinds == 0) ≡ false → AreEntries es → AreOf v es
    → with_lines (entry_of_words v) place (document s tenants weights kinds body) (lines_of (entries_text es)) ≡ Ok (document s tenants weights kinds (body ++ es))
entries_read v place s tenants weights kinds body [] some are of = rw (some, append-nil body) refl
entries_read v place s tenants weights kinds body (e ∷ es) some are of =
    let is = All-head IsEntry e es are in
    let may = one_of v e es of in
    line_read (entry_of_words v) place (document s tenants weights kinds body) (document s tenants weights kinds (body ++ e ∷ []))
    (word_of e.act) (map decimal (row_of e)) (entries_text (e ∷ es)) (entries_text es)
    (entry_text e (entries_text es)) (is_word e.act) (numbers_words (row_of e) (row_small e is))
    (body_line_read v s tenants weights kinds body e some is may.0)
    ∙ entries_read v (place + 1) s tenants weights kinds (body ++ e ∷ []) es some (All-tail IsEntry e es are) may.1
    ∙ ap (λ (l : List Entry). Ok (document s tenants weights kinds l)) (append_assoc body (e ∷ []) es)

-- ---- the kinds

-- the next of some names is new, and there is room for it
record IsNext (limit : ℕ) (done : List (List ℕ)) (name : List ℕ) (names : List (List ℕ)) : Type 0 where
  spelled : is_name name ≡ true
  differs : (k : ℕ) → k < length done → get_or done k [] ≢ name
  within : length (done ++ name ∷ []) ≤ length (done ++ name ∷ names)
  few : length (done ++ name ∷ []) ≤ limit

next_name : (limit : ℕ) (done : List (List ℕ)) (name : List ℕ) (names : List (List ℕ)) → AreNames limit (done ++ name ∷ names) → IsNext limit done name names
next_name limit done name names are =
    let size : length (done ++ name ∷ names) ≡ length done + suc (length names) = length-append done (name ∷ names) in
    let longer : length (done ++ name ∷ []) ≡ length done + 1 = length-append done (name ∷ []) in
    let here : get_or (done ++ name ∷ names) (length done) [] ≡ name = get_or-append_seam done name names [] in
    record {
      spelled = subst (λ n. is_name n ≡ true) here (are.spelled (length done) [] (omega (arith, size)));
      differs = λ k b e. are.distinct k (length done) [] b (omega (arith, size)) (get_or_append_left done (name ∷ names) [] k b ∙ e ∙ sym here);
      within = omega (arith, size, longer);
      few = omega (arith, size, longer, are.few);
    }

module _ (reader : LineReader Entry) (s : Settings) (tenants : List (List ℕ)) (weights : List ℕ) (below : List ℕ) (u : Journal)
    (some : (length tenants == 0) ≡ false) (few : length tenants ≤ TEXT_TENANTS) where
  kinds_read : (kinds : List (List ℕ)) (place : ℕ) (done : List (List ℕ))
      → AreNames MOST_KINDS (done ++ kinds) → length tenants * length (done ++ kinds) ≤ TEXT_PAIRS
      → ((p : ℕ) → with_lines reader p (document s tenants weights (done ++ kinds) []) (lines_of below) ≡ Ok u)
      → with_lines reader place (document s tenants weights done []) (lines_of (kinds_text kinds ++ below)) ≡ Ok u
  kinds_read [] place done are pairs rest_reads = rw (append-nil done) at (rest_reads place)
  kinds_read (name ∷ names) place done are pairs rest_reads =
      let next = next_name MOST_KINDS done name names are in
      let fits : length tenants * length (done ++ name ∷ []) ≤ TEXT_PAIRS =
      omega (arith, mul-le (length tenants) (length (done ++ name ∷ [])) (length tenants) (length (done ++ name ∷ names)) (omega arith) next.within, pairs) in
      let whole : (done ++ name ∷ []) ++ names ≡ done ++ name ∷ names = append_assoc done (name ∷ []) names in
      line_read reader place (document s tenants weights done []) (document s tenants weights (done ++ name ∷ []) [])
      (codes "kind") (name ∷ []) (kinds_text (name ∷ names) ++ below) (kinds_text names ++ below)
      (append_assoc (codes "kind " ++ name ++ codes "\n") (kinds_text names) below ∙ row_spaced (codes "kind " ++ name) [] (kinds_text names ++ below))
      (omega arith) (name_word name next.spelled, tt)
      (kind_read reader s tenants weights done name some next.spelled (is_new done name next.differs) few next.few fits)
      ∙ kinds_read names (place + 1) (done ++ name ∷ []) (rw whole are) (rw whole pairs) (λ p. rw whole (rest_reads p))

-- ---- the tenants

tenants_read : (reader : LineReader Entry) (s : Settings) (below : List ℕ) (u : Journal) (names : List (List ℕ)) (weights : List ℕ) (place : ℕ) (done : List (List ℕ)) (weighed : List ℕ)
    → AreNames TEXT_TENANTS (done ++ names) → length weights ≡ length names → All IsTextWeight weights
    → ((p : ℕ) → with_lines reader p (document s (done ++ names) (weighed ++ weights) [] []) (lines_of below) ≡ Ok u)
    → with_lines reader place (document s done weighed [] []) (lines_of (tenants_text names weights ++ below)) ≡ Ok u
tenants_read reader s below u [] [] place done weighed are same limits rest_reads = rw (append-nil done, append-nil weighed) at (rest_reads place)
tenants_read reader s below u [] (weight ∷ weights) place done weighed are same limits rest_reads = absurd (omega (arith, same))
tenants_read reader s below u (name ∷ names) [] place done weighed are same limits rest_reads = absurd (omega (arith, same))
tenants_read reader s below u (name ∷ names) (weight ∷ weights) place done weighed are same limits rest_reads =
    let next = next_name TEXT_TENANTS done name names are in
    let within : IsTextWeight weight = limits 0 weight (omega arith) in
    let names_same : (done ++ name ∷ []) ++ names ≡ done ++ name ∷ names = append_assoc done (name ∷ []) names in
    let weights_same : (weighed ++ weight ∷ []) ++ weights ≡ weighed ++ weight ∷ weights = append_assoc weighed (weight ∷ []) weights in
    let small : weight < 2 ^ 64 = omega (arith, within.1) in
    line_read reader place (document s done weighed [] []) (document s (done ++ name ∷ []) (weighed ++ weight ∷ []) [] [])
    (codes "tenant") (name ∷ decimal weight ∷ []) (tenants_text (name ∷ names) (weight ∷ weights) ++ below) (tenants_text names weights ++ below)
    (append_assoc (codes "tenant " ++ name ++ numbers_text (weight ∷ [])) (tenants_text names weights) below ∙ row_spaced (codes "tenant " ++ name) (weight ∷ []) (tenants_text names weights ++ below))
    (omega arith) (name_word name next.spelled, (decimal-word weight small, tt))
    (tenant_read reader s done weighed name weight next.spelled (is_new done name next.differs) within next.few)
    ∙ tenants_read reader s below u names weights (place + 1) (done ++ name ∷ []) (weighed ++ weight ∷ []) (rw names_same are) (omega (arith, same)) (λ k d b. limits (suc k) d (omega arith))
    (λ p. rw (names_same, weights_same) (rest_reads p))

-- ---- the configuration

-- three words with spaces between them, and the text behind them
three_words : (a b c more : List ℕ) → (a ++ codes " " ++ b ++ codes " " ++ c) ++ more ≡ a ++ (32 ∷ (b ++ (32 ∷ (c ++ more))))
three_words a b c more =
    append_assoc (a ++ codes " " ++ b ++ codes " ") c more
    ∙ append_assoc (a ++ codes " " ++ b) (codes " ") (c ++ more)
    ∙ append_assoc (a ++ codes " ") b (32 ∷ (c ++ more))
    ∙ append_assoc a (codes " ") (b ++ (32 ∷ (c ++ more)))

-- the words after the first of a configuration's line
abbrev settings_words : Config → Words
settings_words C = decimal C.workers ∷ policy_word C.policy ∷ estimator_word C.estimate ∷ map decimal (C.initial ∷ C.entries ∷ C.requests ∷ [])

settings_text : (C : Config) (below : List ℕ) → settings_line C ++ below ≡ (codes "config" ++ spaced (settings_words C)) ++ 10 ∷ below
settings_text C below =
    let ns = C.initial ∷ C.entries ∷ C.requests ∷ [] in
    let line = codes "config " ++ decimal C.workers ++ codes " " ++ policy_word C.policy ++ codes " " ++ estimator_word C.estimate in
    row_spaced line ns below
    ∙ ap (λ l. codes "config " ++ l ++ 10 ∷ below) (three_words (decimal C.workers) (policy_word C.policy) (estimator_word C.estimate) (spaced (map decimal ns)))

settings_are_words : (C : Config) → InLimits C → AreWords (settings_words C)
settings_are_words C limits = (
  decimal-word C.workers (omega (arith, limits.workers.1)),
  (
    policy_is_word C.policy,
    (
      estimator_is_word C.estimate,
      (
        decimal-word C.initial (omega (arith, limits.initial.1)),
        (
          decimal-word C.entries (omega (arith, limits.entries.1)),
          (
            decimal-word C.requests (omega (arith, limits.requests.1)),
            tt,
          ),
        ),
      ),
    ),
  ),
)

-- ---- the whole text

some_names : (names : List (List ℕ)) → 1 ≤ length names → (length names == 0) ≡ false
some_names names some = false_from_ne_true (length names == 0) (λ none. omega (arith, eqb-true (length names) 0 none, some))

module _ (C : Config) (tenants kinds : List (List ℕ)) (past : List Entry) (limits : InLimits C) (text : IsWithinText C) (names : AreNamesFor C tenants kinds) (are : AreEntries past) where
  abbrev below_tenants : List ℕ
  below_tenants = kinds_text kinds ++ entries_text past

  abbrev below_settings : List ℕ
  below_settings = tenants_text tenants C.weights ++ below_tenants

  head_read : (v : Version) → AreOf v past → below_header (entry_of_words v) (lines_of (settings_line C ++ below_settings)) ≡ Ok (journal_with C tenants kinds past)
  head_read v of =
      let some_tenant = some_names tenants (omega (arith, names.weighed, limits.tenants.0)) in
      let some_kind = some_names kinds (omega (arith, names.counted, limits.kinds.0)) in
      let pairs : length tenants * length kinds ≤ TEXT_PAIRS = rw (← names.weighed, ← names.counted) text.pairs in
      let words = settings_are_words C limits in
      let word : IsWord (codes "config") = omega arith in
      let has = words_first (codes "config") (settings_words C) below_settings word words in
      ap (below_header (entry_of_words v)) (ap lines_of (settings_text C below_settings) ∙ has.first.lines)
      ∙ ap (λ r. at_line 2 r >>= λ d. with_lines (entry_of_words v) 3 d (lines_of below_settings)) (ap config_line has.split ∙ config_read C limits text)
      ∙ tenants_read (entry_of_words v) (settings_in C) below_tenants (journal_with C tenants kinds past) tenants C.weights 3 [] [] names.tenants_are names.weighed text.weights
      (λ p. kinds_read (entry_of_words v) (settings_in C) tenants C.weights (entries_text past) (journal_with C tenants kinds past) some_tenant names.tenants_are.few kinds p [] names.kinds_are pairs
      (λ q. entries_read v q (settings_in C) tenants C.weights kinds [] past some_kind are of))

  parts : (v : Version) → top_text v C tenants kinds ++ entries_text past ≡ header_line v ++ (settings_line C ++ below_settings)
  parts v =
      append_assoc (header_line v) (head_text C tenants kinds) (entries_text past)
      ∙ ap (λ l. header_line v ++ l) (
      append_assoc (settings_line C ++ tenants_text tenants C.weights) (kinds_text kinds) (entries_text past)
      ∙ append_assoc (settings_line C) (tenants_text tenants C.weights) below_tenants
      )

  text_read : (v : Version) → AreOf v past → document_of_lines (codes "journal") entry_of_words (lines_of (header_line v ++ (settings_line C ++ below_settings))) ≡ Ok (journal_with C tenants kinds past)
  text_read First of = head_read First of
  text_read Second of = head_read Second of
  text_read Third of = head_read Third of

  -- a text of a version that may have these entries
  text_of : (v : Version) → AreOf v past → IsReadBack C tenants kinds past (top_text v C tenants kinds ++ entries_text past)
  unfolding document_of
  text_of v of = record {
    read = ap (λ l. document_of_lines (codes "journal") entry_of_words (lines_of l)) (parts v) ∙ text_read v of;
    config_is = ap (λ (n : ℕ). record C { limits = Text; kinds = n }) (sym names.counted);
  }

pub read_back : JournalsReadBack
unfolding journal_text
read_back C tenants kinds past limits text names are = text_of C tenants kinds past limits text names are (version_for past) (of_version past)

pub streamed_back : StreamedReadBack
streamed_back C tenants kinds past limits text names are = text_of C tenants kinds past limits text names are Third tt
