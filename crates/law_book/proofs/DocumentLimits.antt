-- A text that spells a script or a journal names a configuration that a scheduler can be opened with.
use Rattle.std.proofs.Common.{ℕ, ◌+◌, ◌≡◌, Bool, true, false, not, ◌&&◌, if◌then◌else◌, List, [], ◌∷◌, ◌++◌, length, Option, Some, None, Result, Ok, Err, refl, sym, ap, ◌∙◌, subst, arith, length-append}
use Rattle.std.specs.Prelude.{codes}
use Rattle.std.proofs.lemmas.Bool.{and_parts, cond_both, eqb-true, false_from_ne_true, false≢true, not-true}
use Rattle.fq_model.specs.Limits.{InLimits}
use Rattle.program_model.specs.declared.fault.ScriptKind.{ScriptKind}
use Rattle.program_model.specs.declared.fault.ScriptKind.TheVariants.{Missing}
use Rattle.program_model.specs.declared.version.Version.{Version}
use Rattle.program_model.specs.Document.{Document, LineReader, config_of, config_line, with_tenant, with_kind, with_body, with_line, with_head, with_lines, below_header, below_version, version_of, document_of_lines, document_of}
use Rattle.program_model.specs.Lines.{Words, words_of, lines_of}
use Rattle.program_model.specs.Reading.{at_line, begins_with, is_empty}
use Rattle.journal_text.proofs.HeadLimits.{bind_ok, IsKept, with_tenant-kept, with_kind-kept, config_line-kept, config_of-in_limits, some_if}

read_at : {A F : Type 0} (place : ℕ) (read : Result A F) (x : A) → at_line place read ≡ Ok x → read ≡ Ok x
read_at place (Ok y) x h = let same : y ≡ x = cc in ap Ok same
read_at place (Err fault) x h = absurd (cc)

ended : {A : Type 0} (place : ℕ) (d u : Document A) → with_head place d ≡ Ok u → (is_empty d.kinds ≡ false) × (d ≡ u)
ended {A} place d u h = go (is_empty d.kinds) h
  where
    go : (t : Bool) → ◌≡◌ {A = Result (Document A) (ℕ × ScriptKind)} (if t then Err (place, Missing) else Ok d) (Ok u) → (t ≡ false) × (d ≡ u)
    go true h = absurd (cc)
    go false h = (refl, cc)

-- the part that a line adds to a document: a tenant or a kind of its head, or an item of its body
data Step {A : Type 0} (d u : Document A) : Type 0 where
  Tenant : (line : Words) → is_empty d.kinds ≡ true → with_tenant d line ≡ Ok u → Step d u
  Kind : (line : Words) → is_empty d.tenants ≡ false → is_empty d.body ≡ true → with_kind d line ≡ Ok u → Step d u
  Said : (x : A) → is_empty d.kinds ≡ false → u ≡ record d { body = d.body ++ x ∷ [] } → Step d u

module _ {A : Type 0} (reader : LineReader A) where
  said : (d u : Document A) (line : Words) → with_body reader d line ≡ Ok u → (x : A) × (u ≡ record d { body = d.body ++ x ∷ [] })
  unfolding with_body
  said d u line h =
      let read = bind_ok (reader line) _ u h in
      let same : Ok (record d { body = d.body ++ read.0 ∷ [] }) ≡ Ok u = read.2 in
      (read.0, cc)

  step_of : (d u : Document A) (line : Words) → with_line reader d line ≡ Ok u → Step d u
  unfolding with_line
  step_of d u line =
      cond_both (begins_with line (codes "tenant") && is_empty d.kinds) _ _ (λ read. read ≡ Ok u → Step d u)
      (λ a w. Tenant line (and_parts (begins_with line (codes "tenant")) (is_empty d.kinds) a).1 w)
      (λ a. cond_both (begins_with line (codes "kind") && (not (is_empty d.tenants) && is_empty d.body)) _ _ (λ read. read ≡ Ok u → Step d u)
      (λ b w.
      let may = and_parts (not (is_empty d.tenants)) (is_empty d.body) (and_parts (begins_with line (codes "kind")) _ b).1 in
      Kind line (not-true (is_empty d.tenants) may.0) may.1 w)
      (λ b. cond_both (is_empty d.kinds) _ _ (λ read. read ≡ Ok u → Step d u) (λ c w. absurd (cc)) (λ c w. let x = said d u line w in Said x.0 c x.1)))

  -- a line, and those below it
  one_line : (place : ℕ) (d u : Document A) (line : List ℕ) (lines : List (List ℕ)) → with_lines reader place d (line ∷ lines) ≡ Ok u → (e : Document A) × Step d e × (with_lines reader (place + 1) e lines ≡ Ok u)
  one_line place d u line lines h =
      let read = bind_ok (at_line place (with_line reader d (words_of line))) _ u h in
      (read.0, step_of d read.0 (words_of line) (read_at place (with_line reader d (words_of line)) read.0 read.1), read.2)

  still_some : (xs : List A) (x : A) → is_empty (xs ++ x ∷ []) ≡ false
  still_some xs x = false_from_ne_true (is_empty (xs ++ x ∷ [])) (λ e. omega (arith, eqb-true (length (xs ++ x ∷ [])) 0 e, length-append xs (x ∷ [])))

  -- where the body has an item, no line changes the configuration
  body_keeps : (lines : List (List ℕ)) (place : ℕ) (d u : Document A) → is_empty d.kinds ≡ false → is_empty d.body ≡ false → with_lines reader place d lines ≡ Ok u → config_of u ≡ config_of d
  body_keeps [] place d u some more h = ap config_of (sym (ended place d u h).1)
  body_keeps (line ∷ lines) place d u some more h =
      let next = one_line place d u line lines h in
      by_step next.0 next.1 (λ x is. body_keeps lines (place + 1) (record d { body = d.body ++ x ∷ [] }) u some (still_some d.body x) (subst (λ (e : Document A). with_lines reader (place + 1) e lines ≡ Ok u) is next.2))
    where
      by_step : (e : Document A) → Step d e → ((x : A) → e ≡ record d { body = d.body ++ x ∷ [] } → config_of u ≡ config_of d) → config_of u ≡ config_of d
      by_step e (Tenant l none w) rest = absurd (false≢true (sym some ∙ none))
      by_step e (Kind l named none w) rest = absurd (false≢true (sym more ∙ none))
      by_step e (Said x kinds is) rest = rest x is

  -- a document whose head is being read stays within the limits, whatever lines follow
  head_limits : (lines : List (List ℕ)) (place : ℕ) (d u : Document A) → IsKept d → with_lines reader place d lines ≡ Ok u → InLimits (config_of u)
  head_limits [] place d u kept h =
      let end = ended place d u h in
      subst (λ (e : Document A). InLimits (config_of e)) end.1 (config_of-in_limits d kept (some_if (length d.kinds) end.0))
  head_limits (line ∷ lines) place d u kept h =
      let next = one_line place d u line lines h in
      by_step next.0 next.1 next.2 (λ e k r. head_limits lines (place + 1) e u k r)
    where
      by_step : (e : Document A) → Step d e → with_lines reader (place + 1) e lines ≡ Ok u → ((e : Document A) → IsKept e → with_lines reader (place + 1) e lines ≡ Ok u → InLimits (config_of u)) → InLimits (config_of u)
      by_step e (Tenant l none w) below rest = rest e (with_tenant-kept d e l (eqb-true (length d.kinds) 0 none) kept w) below
      by_step e (Kind l named none w) below rest = rest e (with_kind-kept d e l (some_if (length d.tenants) named) kept w) below
      by_step e (Said x kinds is) below rest =
          let added : Document A = record d { body = d.body ++ x ∷ [] } in
          let same = body_keeps lines (place + 1) added u kinds (still_some d.body x) (subst (λ (f : Document A). with_lines reader (place + 1) f lines ≡ Ok u) is below) in
          subst InLimits (sym same) (config_of-in_limits d kept (some_if (length d.kinds) kinds))

  below_limits : (lines : List (List ℕ)) (u : Document A) → below_header reader lines ≡ Ok u → InLimits (config_of u)
  below_limits [] u h = absurd (cc)
  below_limits (line ∷ lines) u h =
      let read = bind_ok (at_line 2 (config_line (words_of line))) _ u h in
      head_limits lines 3 read.0 u (config_line-kept (words_of line) read.0 (read_at 2 (config_line (words_of line)) read.0 read.1)) read.2

version_limits : {A : Type 0} (reader : Version → LineReader A) (version : Option Version) (lines : List (List ℕ)) (u : Document A) → below_version reader version lines ≡ Ok u → InLimits (config_of u)
version_limits reader None lines u h = absurd (cc)
version_limits reader (Some version) lines u h = below_limits (reader version) lines u h

lines_limits : {A : Type 0} (title : List ℕ) (reader : Version → LineReader A) (lines : List (List ℕ)) (u : Document A) → document_of_lines title reader lines ≡ Ok u → InLimits (config_of u)
lines_limits title reader [] u h = absurd (cc)
lines_limits title reader (line ∷ lines) u h = version_limits reader (version_of title line) lines u h

pub document_limits : {A : Type 0} (title : List ℕ) (reader : Version → LineReader A) (bytes : List ℕ) (u : Document A) → document_of title reader bytes ≡ Ok u → InLimits (config_of u)
unfolding document_of
document_limits title reader bytes u h = lines_limits title reader (lines_of bytes) u h
