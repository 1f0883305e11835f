-- Below a head with kinds, the lines of a text are the lines of its body.
use Rattle.std.proofs.Common.{ℕ, ◌+◌, ◌<◌, ◌≡◌, ◌==◌, Bool, true, false, not, ◌&&◌, if◌then◌else◌, List, [], ◌∷◌, ◌++◌, length, Some, Result, Ok, Err, IfOk, refl, sym, ap, ◌∙◌, append_assoc, arith, length-append}
use Rattle.std.proofs.lemmas.List.{append-nil}
use Rattle.std.proofs.lemmas.Bool.{eqb-true}
use Rattle.std.specs.Prelude.{codes}
use Rattle.fq_laws.proofs.Faults.{no_fault}
use Rattle.program_model.specs.declared.fault.ScriptKind.{ScriptKind}
use Rattle.program_model.specs.declared.fault.ScriptKind.TheVariants.{Missing}
use Rattle.program_model.specs.declared.version.Version.{Version}
use Rattle.program_model.specs.Document.{Document, LineReader, config_of, config_line, with_body, with_line, with_lines, below_header, version_of, below_version}
use Rattle.program_model.specs.Lines.{Words, words_of, lines_of}
use Rattle.program_model.specs.Reading.{◌>>=◌, at_line, begins_with, is_empty}
use Rattle.journal_text.specs.Body.{Below, below_at, with_first, body_of, said_below, with_body_lines, Reads, IsOpened, IsHeadFault, Divides, DividesText, SaysFirst, IsStuck}
use Rattle.journal_text.specs.Reading.{ends_before, with_head_line, Fails, IsFirstFault, fault_at}
use Rattle.journal_text.specs.declared.fault.LineError.{LineError}
use Rattle.journal_text.specs.declared.fault.LineError.TheVariants as errors
use Rattle.journal_text.specs.declared.fault.ScriptFault.{ScriptFault}
use Rattle.journal_text.specs.declared.fault.ScriptFault.TheVariants as faults
use Rattle.journal_text.proofs.HeadLimits.{IsKept, config_of-in_limits, some_if}

-- these values before the later ones
abbrev pub with_more : {A F : Type 0} → List A → Result (List A) F → Result (List A) F
with_more said later = later >>= λ more. Ok (said ++ more)

-- the document with the value of one line more
abbrev added : {A : Type 0} → Document A → A → Document A
added d said = record d { body = d.body ++ said ∷ [] }

-- the document with the values of the lines below
abbrev extended : {A : Type 0} → Document A → Result (List A) (ℕ × ScriptKind) → Result (Document A) (ℕ × ScriptKind)
extended d later = later >>= λ more. Ok (record d { body = d.body ++ more })

-- a line may be added before the others or with them
regrouped : {A : Type 0} (d : Document A) (said : A) (later : Result (List A) (ℕ × ScriptKind)) → extended (added d said) later ≡ extended d (with_first said later)
regrouped d said (Ok more) = ap (λ body. Ok (record d { body = body })) (append_assoc d.body (said ∷ []) more)
regrouped d said (Err e) = refl

-- one line of the body, and those below it
one_more : {A : Type 0} (reader : LineReader A) (place : ℕ) (lines : List (List ℕ)) (d : Document A) (read : Result A ScriptKind)
    → ((said : A) → with_lines reader (place + 1) (added d said) lines ≡ extended (added d said) (body_of reader (place + 1) lines))
    → (at_line place (read >>= λ said. Ok (added d said)) >>= λ more. with_lines reader (place + 1) more lines)
    ≡ extended d (at_line place read >>= λ said. with_first said (body_of reader (place + 1) lines))
one_more reader place lines d (Ok said) later = later said ∙ regrouped d said (body_of reader (place + 1) lines)
one_more reader place lines d (Err kind) later = refl

-- a line that is none of the head
past_head : {X : Type 0} (tenant kind none : Bool) (x y z w : X) → none ≡ false → kind ≡ false
    → (if tenant && none then x else (if kind then y else (if none then z else w))) ≡ w
past_head tenant kind true x y z w some past = absurd (cc)
past_head tenant true false x y z w some past = absurd (cc)
past_head true false false x y z w some past = refl
past_head false false false x y z w some past = refl

-- a line that goes to the body
in_body : {A : Type 0} (reader : LineReader A) (d : Document A) (words : Words) → is_empty d.kinds ≡ false
    → (begins_with words (codes "kind") && (not (is_empty d.tenants) && is_empty d.body)) ≡ false
    → with_line reader d words ≡ (reader words >>= λ said. Ok (added d said))
unfolding with_line with_body
in_body reader d words some past = past_head (begins_with words (codes "tenant")) _ (is_empty d.kinds) _ _ _ _ some past

-- no line is left
none_left : {A : Type 0} (reader : LineReader A) (place : ℕ) (d : Document A) → is_empty d.kinds ≡ false → with_lines reader place d [] ≡ extended d (body_of reader place [])
none_left reader place d some = rw (some, append-nil d.body) refl

some_is : (n : ℕ) → 0 < n → (n == 0) ≡ false
some_is n some = go (n == 0) refl
  where
    go : (t : Bool) → (n == 0) ≡ t → t ≡ false
    go true e = absurd (omega (arith, eqb-true n 0 e))
    go false e = refl

is_empty-push : {A : Type 0} (xs : List A) (x : A) → is_empty (xs ++ x ∷ []) ≡ false
is_empty-push xs x = some_is (length (xs ++ x ∷ [])) (omega (arith, length-append xs (x ∷ [])))

no_kind : (k t b : Bool) → b ≡ false → (k && (t && b)) ≡ false
no_kind true true b h = h
no_kind true false b h = refl
no_kind false t b h = refl

-- where the body is not empty, each line goes to it
with_lines-more : {A : Type 0} (reader : LineReader A) (lines : List (List ℕ)) (place : ℕ) (d : Document A) → is_empty d.kinds ≡ false → is_empty d.body ≡ false
    → with_lines reader place d lines ≡ extended d (body_of reader place lines)
with_lines-more reader [] place d some more = none_left reader place d some
with_lines-more reader (line ∷ lines) place d some more =
    rw (in_body reader d (words_of line) some (no_kind (begins_with (words_of line) (codes "kind")) (not (is_empty d.tenants)) (is_empty d.body) more))
    (one_more reader place lines d (reader (words_of line)) (λ said. with_lines-more reader lines (place + 1) (added d said) some (is_empty-push d.body said)))

-- none of the head's lines is left
abbrev pub StartsBody : {A : Type 0} → Document A → List (List ℕ) → Type 0
StartsBody d [] = Unit {0}
StartsBody d (line ∷ lines) = ends_before d (words_of line) ≡ true

past_kinds : (n k t b : Bool) → (n && not k) ≡ true → (k && (t && b)) ≡ false
past_kinds true true t b h = absurd (cc)
past_kinds true false t b h = refl
past_kinds false k t b h = absurd (cc)

-- below a head with kinds, the lines are the body's
pub with_lines-body : {A : Type 0} (reader : LineReader A) (lines : List (List ℕ)) (place : ℕ) (d : Document A) → is_empty d.kinds ≡ false → StartsBody d lines
    → with_lines reader place d lines ≡ extended d (body_of reader place lines)
with_lines-body reader [] place d some starts = none_left reader place d some
with_lines-body reader (line ∷ lines) place d some starts =
    rw (in_body reader d (words_of line) some (past_kinds (not (is_empty d.kinds)) (begins_with (words_of line) (codes "kind")) (not (is_empty d.tenants)) (is_empty d.body) starts))
    (one_more reader place lines d (reader (words_of line)) (λ said. with_lines-more reader lines (place + 1) (added d said) some (is_empty-push d.body said)))

-- the body of a document that had none
extended-bodyless : {A : Type 0} (d : Document A) (said : Result (List A) (ℕ × ScriptKind)) → d.body ≡ [] → extended d said ≡ with_body_lines d said
extended-bodyless d (Ok more) none = ap (λ body. Ok (record d { body = body ++ more })) none
extended-bodyless d (Err e) none = refl

-- however the lines of the body are read, the text spells the head so far with the lines of the rest
abbrev pub IsReadAt : {A : Type 0} → Reads A → Version → ℕ → Document A → List ℕ → Type 0
IsReadAt {A} text version place d rest = (reader : Version → LineReader A) → with_lines (reader version) place d (lines_of rest) ≡ text reader

-- a head was read up to the body
opened_at : {A : Type 0} (text : Reads A) (version : Version) (place : ℕ) (d : Document A) (rest : List ℕ)
    → IsReadAt text version place d rest → IsKept d → is_empty d.kinds ≡ false → StartsBody d (lines_of rest)
    → IsOpened text d (below_at version place rest)
opened_at text version place d rest same kept some starts = record {
  means = λ reader. sym (same reader) ∙ (with_lines-body (reader version) (lines_of rest) place d some starts ∙ extended-bodyless d _ kept.bodyless);
  bodyless = kept.bodyless;
  fits = no_fault (config_of d) (config_of-in_limits d kept (some_if (length d.kinds) some));
}

pub some_kinds : (none kind : Bool) → (not none && not kind) ≡ true → none ≡ false
some_kinds true kind ends = absurd (cc)
some_kinds false kind ends = refl

-- a head was read up to the first line of the body
pub opened_before : {A : Type 0} (text : Reads A) (version : Version) (place : ℕ) (d : Document A) (line rest below : List ℕ)
    → IsReadAt text version place d rest → IsKept d → lines_of rest ≡ line ∷ lines_of below → ends_before d (words_of line) ≡ true
    → IsOpened text d (below_at version place rest)
opened_before text version place d line rest below same kept first ends =
    opened_at text version place d rest same kept (some_kinds (is_empty d.kinds) (begins_with (words_of line) (codes "kind")) ends) (rw first ends)

-- a head was read up to the end of the text
pub opened_at_end : {A : Type 0} (text : Reads A) (version : Version) (place : ℕ) (d : Document A) (rest : List ℕ)
    → IsReadAt text version place d rest → IsKept d → is_empty d.kinds ≡ false → rest ≡ []
    → IsOpened text d (below_at version place rest)
opened_at_end text version place d rest same kept some end = opened_at text version place d rest same kept some (rw end tt)

-- a text that ends in its head lacks a part of it
pub ends_in_head : {A : Type 0} (text : Reads A) (version : Version) (place : ℕ) (d : Document A) (rest : List ℕ)
    → IsReadAt text version place d rest → is_empty d.kinds ≡ true → rest ≡ [] → IsHeadFault (faults.At place Missing) text
ends_in_head text version place d rest same none end reader = sym (same reader) ∙ rw (end, none) refl

-- where the body is empty, and a line does not begin it, the line is one of the head
same_head : {X : Type 0} (tenant kind none unnamed bodyless : Bool) (x y z w : X) → bodyless ≡ true → (not none && not kind) ≡ false → (none ≡ false → unnamed ≡ false)
    → (if tenant && none then x else (if kind && (not unnamed && bodyless) then y else (if none then z else w)))
    ≡ (if tenant && none then x else (if kind && not unnamed then y else z))
same_head tenant kind none unnamed false x y z w empty goes_on order = absurd (cc)
same_head true kind true unnamed true x y z w empty goes_on order = refl
same_head false false true unnamed true x y z w empty goes_on order = refl
same_head false true true true true x y z w empty goes_on order = refl
same_head false true true false true x y z w empty goes_on order = refl
same_head tenant false false unnamed true x y z w empty goes_on order = absurd (cc)
same_head tenant true false true true x y z w empty goes_on order = absurd (cc (order refl))
same_head true true false false true x y z w empty goes_on order = refl
same_head false true false false true x y z w empty goes_on order = refl

-- a line of the head
in_head : {A : Type 0} (reader : LineReader A) (d : Document A) (words : Words) → IsKept d → ends_before d words ≡ false → with_line reader d words ≡ with_head_line d words
unfolding with_line
in_head reader d words kept goes_on =
    same_head (begins_with words (codes "tenant")) (begins_with words (codes "kind")) (is_empty d.kinds) (is_empty d.tenants) (is_empty d.body) _ _ _ _
    (ap is_empty kept.bodyless) goes_on (λ none. some_is (length d.tenants) (kept.order (some_if (length d.kinds) none)))

-- a line of the head, and those below it
next_in_head : {A : Type 0} (reader : LineReader A) (place : ℕ) (d : Document A) (line rest below : List ℕ)
    → IsKept d → lines_of rest ≡ line ∷ lines_of below → ends_before d (words_of line) ≡ false
    → with_lines reader place d (lines_of rest) ≡ (at_line place (with_head_line d (words_of line)) >>= λ more. with_lines reader (place + 1) more (lines_of below))
next_in_head reader place d line rest below kept first goes_on =
    rw first (ap (λ read. at_line place read >>= λ more. with_lines reader (place + 1) more (lines_of below)) (in_head reader d (words_of line) kept goes_on))

-- the fault of a line of the head is the first of the text
pub fault_in_head : {A : Type 0} (text : Reads A) (version : Version) (place : ℕ) (d : Document A) (line rest below : List ℕ) (e : LineError)
    → IsReadAt text version place d rest → IsKept d → lines_of rest ≡ line ∷ lines_of below → ends_before d (words_of line) ≡ false
    → Fails e (with_head_line d (words_of line)) → IsHeadFault (fault_at place e) text
fault_in_head text version place d line rest below (errors.Fault kind) same kept first goes_on fails reader =
    sym (same reader) ∙ (next_in_head (reader version) place d line rest below kept first goes_on ∙ ap (λ r. at_line place r >>= λ more. with_lines (reader version) (place + 1) more (lines_of below)) fails)
fault_in_head text version place d line rest below errors.NoMemory same kept first goes_on fails reader = tt

-- The lines that are passed, and those of the rest, are the lines below the config line; and whatever lines follow
-- those that are passed, they are read on the head so far.
pub record IsPast {A : Type 0} (config d : Document A) (text : List ℕ) (place : ℕ) (rest : List ℕ) : Type 0 where
  pub above : List (List ℕ)
  pub split : lines_of text ≡ above ++ lines_of rest
  pub counted : place ≡ 3 + length above
  pub says : (reader : LineReader A) (more : List (List ℕ)) → with_lines reader place d more ≡ with_lines reader 3 config (above ++ more)

pub nothing_past : {A : Type 0} (config : Document A) (text : List ℕ) → IsPast config config text 3 text
nothing_past config text = record { above = []; split = refl; counted = refl; says = λ reader more. refl }

-- the rest, on the head so far, spells what the whole does
pub left_says : {A : Type 0} (config d : Document A) (text : List ℕ) (place : ℕ) (rest : List ℕ) (version : Version) → IsPast config d text place rest
    → IsReadAt (λ reader. with_lines (reader version) 3 config (lines_of text)) version place d rest
left_says config d text place rest version past reader = past.says (reader version) (lines_of rest) ∙ ap (with_lines (reader version) 3 config) (sym past.split)

-- a line of the head more is passed
pub one_past : {A : Type 0} (config d u : Document A) (text : List ℕ) (place : ℕ) (line rest below : List ℕ) → IsPast config d text place rest → IsKept d
    → lines_of rest ≡ line ∷ lines_of below → ends_before d (words_of line) ≡ false → with_head_line d (words_of line) ≡ Ok u
    → IsPast config u text (place + 1) below
one_past config d u text place line rest below past kept first goes_on read = record {
  above = past.above ++ line ∷ [];
  split = past.split ∙ ap (λ l. past.above ++ l) first ∙ sym (append_assoc past.above (line ∷ []) (lines_of below));
  counted = omega (arith, past.counted, length-append past.above (line ∷ []));
  says = λ reader more.
      sym (ap (λ r. at_line place r >>= λ next. with_lines reader (place + 1) next more) (in_head reader d (words_of line) kept goes_on ∙ read))
      ∙ (past.says reader (line ∷ more) ∙ ap (with_lines reader 3 config) (sym (append_assoc past.above (line ∷ []) more)));
}

-- the lines that are passed are those of the head, where it has kinds
pub divided_at : {A : Type 0} (config d : Document A) (text : List ℕ) (place : ℕ) (rest : List ℕ) (version : Version) → IsPast config d text place rest
    → is_empty d.kinds ≡ false → Divides (λ lines reader. with_lines (reader version) 3 config lines) 3 (lines_of text) d (below_at version place rest)
divided_at config d text place rest version past some = record {
  above = past.above;
  split = past.split;
  spells = λ reader. ap (with_lines (reader version) 3 config) (sym (append-nil past.above)) ∙ sym (past.says (reader version) []) ∙ rw some refl;
  counted = past.counted;
}

-- two facts of one result
pub IfOk-both : {T E : Type 0} (r : Result T E) (P Q : T → Type 0) → IfOk r P → IfOk r Q → IfOk r (λ x. P x × Q x)
IfOk-both (Ok x) P Q p q = (p, q)
IfOk-both (Err e) P Q p q = tt

-- the lines of the head below the first line of a text are the config line, and those below that
pub under_config : {A : Type 0} (version : Version) (config head : Document A) (text line below : List ℕ) (body : Below)
    → lines_of text ≡ line ∷ lines_of below → config_line (words_of line) ≡ Ok config
    → Divides (λ lines reader. with_lines (reader version) 3 config lines) 3 (lines_of below) head body
    → Divides (λ lines reader. below_header (reader version) lines) 2 (lines_of text) head body
under_config version config head text line below body first read divided = record {
  above = line ∷ divided.above;
  split = first ∙ ap (λ l. line ∷ l) divided.split;
  spells = λ reader. ap (λ r. at_line 2 r >>= λ d. with_lines (reader version) 3 d divided.above) read ∙ divided.spells reader;
  counted = omega (arith, divided.counted);
}

-- the lines of the head of a text are the first line, which names the version, and those below it
pub under_header : {A : Type 0} (title : List ℕ) (version : Version) (head : Document A) (text line below : List ℕ) (body : Below)
    → lines_of text ≡ line ∷ lines_of below → version_of title line ≡ Some version → body.version ≡ version
    → Divides (λ lines reader. below_header (reader version) lines) 2 (lines_of below) head body → DividesText title text head body
under_header title version head text line below body first names is divided = record {
  divided = record {
    above = line ∷ divided.above;
    split = first ∙ ap (λ l. line ∷ l) divided.split;
    spells = λ reader. ap (λ v. below_version reader v divided.above) names ∙ divided.spells reader;
    counted = omega (arith, divided.counted);
  };
  version = names ∙ ap (λ v. Some v) (sym is);
}

-- the value of a first line comes before those of the others
pub said_first : {A : Type 0} (reader : Version → LineReader A) (old : Below) (said : A) (new : Below) → SaysFirst reader old said new
    → said_below reader old ≡ with_first said (said_below reader new)
said_first reader old said new first = rw (first.there, first.says, first.left) refl

-- the lines that are left are fewer
pub fewer_left : {A : Type 0} (reader : Version → LineReader A) (old : Below) (said : A) (new : Below) → SaysFirst reader old said new
    → length new.lines < length old.lines
fewer_left reader old said new first = rw first.there (omega arith)

-- the fault of a first line is the first fault
pub first_fault : {A : Type 0} (reader : Version → LineReader A) (old : Below) (fault : ScriptFault) (new : Below) → IsStuck reader old fault new
    → IsFirstFault fault (said_below reader old)
first_fault reader old fault new stuck = rw (stuck.fault_is, stuck.there, stuck.fails) refl

-- the first line of a text was not read
pub stays_at_first : {A : Type 0} (reader : Version → LineReader A) (version : Version) (place : ℕ) (rest line below : List ℕ) (old new : Below) (kind : ScriptKind)
    → below_at version place rest ≡ old → below_at version place rest ≡ new → lines_of rest ≡ line ∷ lines_of below → reader version (words_of line) ≡ Err kind
    → IsStuck reader old (faults.At place kind) new
stays_at_first reader version place rest line below old new kind was is first fails = rw (sym was, sym is) (record {
  line = line;
  more = lines_of below;
  kind = kind;
  there = first;
  fails = fails;
  fault_is = refl;
  same = refl;
})

-- the value of the first line comes before the rest
with_more-first : {A F : Type 0} (said : List A) (x : A) (later : Result (List A) F) → with_more said (with_first x later) ≡ with_more (said ++ x ∷ []) later
with_more-first said x (Ok more) = ap (λ all. Ok all) (sym (append_assoc said (x ∷ []) more))
with_more-first said x (Err e) = refl

first_said : {A : Type 0} (reader : Version → LineReader A) (old : Below) (x : A) (new : Below) → SaysFirst reader old x new
    → said_below reader old ≡ with_first x (said_below reader new)
first_said reader old x new first =
    let version : new.version ≡ old.version = ap (λ b. b.version) first.left in
    let place : new.place ≡ old.place + 1 = ap (λ b. b.place) first.left in
    rw (version, place, first.there, first.says) refl

-- one line more is read
pub one_said : {A : Type 0} (reader : Version → LineReader A) (said said2 : List A) (x : A) (old new : Below) (all : Result (List A) (ℕ × ScriptKind))
    → SaysFirst reader old x new → said2 ≡ said ++ x ∷ [] → with_more said (said_below reader old) ≡ all → with_more said2 (said_below reader new) ≡ all
one_said reader said said2 x old new all first longer so_far =
    ap (λ l. with_more l (said_below reader new)) longer ∙ sym (with_more-first said x (said_below reader new)) ∙ ap (with_more said) (sym (first_said reader old x new first)) ∙ so_far

-- no line is left
pub all_said : {A : Type 0} (reader : Version → LineReader A) (said : List A) (old : Below) (all : Result (List A) (ℕ × ScriptKind)) → old.lines ≡ []
    → with_more said (said_below reader old) ≡ all → all ≡ Ok said
all_said reader said old all none so_far =
    let left : said_below reader old ≡ Ok [] = rw none refl in
    sym so_far ∙ ap (with_more said) left ∙ ap (λ l. Ok l) (append-nil said)
