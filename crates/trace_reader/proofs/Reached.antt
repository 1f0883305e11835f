-- Reading a text record by record: the rest of the text, and the trace of the records so far.
use Rattle.std.proofs.Common.{ℕ, zero, suc, ◌+◌, ◌<◌, ◌≤◌, ◌≡◌, ◌⊎◌, Bool, true, false, if◌then◌else◌, List, [], ◌∷◌, ◌++◌, length, Option, Some, None, Ok, Err, inl, inr, refl, ◌∙◌, ap, subst, arith}
use Rattle.csv.specs.Machine.{Read, next_record, step, is_end, ends_at_end, fields_after, field_after}
use Rattle.csv.proofs.ReadFacts.{rows-more}
use Rattle.csv.specs.declared.reader.Reader.{Reader}
use Rattle.csv.specs.Reading.{ReadRecord, source_of, Reached, default_config, records, records_from, records_next, strip_bom}
use Rattle.csv.specs.declared.parser.Config.{Config}
use Rattle.csv.specs.declared.parser.State.{State}
use Rattle.csv.specs.declared.parser.State.TheVariants as st
use Rattle.program_model.specs.declared.fault.TraceKind.{TraceKind}
use Rattle.program_model.specs.Trace.{Trace}
use Rattle.program_model.specs.TraceGrammar.{Record, no_records, with_record, with_records, at_end, trace_of_records}
use Rattle.trace_reader.specs.declared.fault.RecordError.{RecordError}
use Rattle.trace_reader.specs.declared.fault.RecordError.TheVariants as errors
use Rattle.trace_reader.specs.Reading.{Fails, IsFirstFault, fault_at}

-- ---- the rest of a text

either_rest : (b : Bool) (x : Read) (o : Option Read) (p : Read) (n : ℕ) → length x.2 ≤ n → ((q : Read) → o ≡ Some q → length q.2 ≤ n)
    → (if b then Some x else o) ≡ Some p → length p.2 ≤ n
either_rest true x o p n some other e = let same : x ≡ p = cc in subst (λ q. length q.2 ≤ n) same some
either_rest false x o p n some other e = other p e

-- the rest after a record is no longer than the text
rest_at_most : (cfg : Config) (s : State) (fields : List (List ℕ)) (field xs : List ℕ) (p : Read)
    → next_record cfg s fields field xs ≡ Some p → length p.2 ≤ length xs
unfolding next_record
rest_at_most cfg s fields field [] p e = either_rest (ends_at_end s) (fields ++ field ∷ [], st.StartRecord, []) None p 0 (omega arith) (λ q none. absurd (cc)) e
rest_at_most cfg s fields field (c ∷ rest) p e =
    let shorter : length p.2 ≤ length rest =
    either_rest (is_end (step cfg s c).1) _ _ p (length rest) (omega arith)
    (λ q more. rest_at_most cfg (step cfg s c).0 (fields_after (step cfg s c).1 fields field) (field_after (step cfg s c).1 c field) rest q more) e in
    omega arith

-- a record takes a byte at least
takes_a_byte : (cfg : Config) (s : State) (c : ℕ) (rest : List ℕ) (p : Read) → next_record cfg s [] [] (c ∷ rest) ≡ Some p → length p.2 ≤ length rest
unfolding next_record
takes_a_byte cfg s c rest p e = either_rest (is_end (step cfg s c).1) _ _ p (length rest) (omega arith)
    (λ q more. rest_at_most cfg (step cfg s c).0 (fields_after (step cfg s c).1 [] []) (field_after (step cfg s c).1 c []) rest q more) e

either_end : (b : Bool) (x p : Read) → x.1 ≡ st.StartRecord → x.2 ≡ [] → (if b then Some x else None) ≡ Some p → (p.1 ≡ st.StartRecord) × (p.2 ≡ [])
either_end true x p state rest e = let same : x ≡ p = cc in subst (λ q. (q.1 ≡ st.StartRecord) × (q.2 ≡ [])) same (state, rest)
either_end false x p state rest e = absurd (cc)

last_record : (cfg : Config) (s : State) (p : Read) → next_record cfg s [] [] [] ≡ Some p → (p.1 ≡ st.StartRecord) × (p.2 ≡ [])
unfolding next_record
last_record cfg s p e = either_end (ends_at_end s) ([] ++ [] ∷ [], st.StartRecord, []) p refl refl e

nothing_left : (cfg : Config) → next_record cfg st.StartRecord [] [] [] ≡ None
unfolding next_record
nothing_left cfg = refl

-- no more than n records are left
abbrev pub Enough : ℕ → State → List ℕ → Type 0
Enough n s xs = (next_record default_config s [] [] xs ≡ None) ⊎ (length xs < n)

-- a record, and the rest after it
record Next (n : ℕ) (s s2 : State) (xs ys : List ℕ) (fields : Record) : Type 0 where
  left : ℕ
  one_less : n ≡ suc left
  records : records_from default_config n s xs ≡ fields ∷ records_from default_config left s2 ys
  enough : Enough left s2 ys

enough_after : (m : ℕ) (s : State) (xs : List ℕ) (p : Read) → next_record default_config s [] [] xs ≡ Some p → length xs < suc m → Enough m p.1 p.2
enough_after m s [] p one few = let last = last_record default_config s p one in inl (rw (last.0, last.1) (nothing_left default_config))
enough_after m s (c ∷ rest) p one few = let short = takes_a_byte default_config s c rest p one in inr (omega arith)

next_of : (n : ℕ) (s : State) (xs : List ℕ) (p : Read) → next_record default_config s [] [] xs ≡ Some p → Enough n s xs → Next n s p.1 xs p.2 p.0
unfolding records_from
next_of n s xs p one (inl none) = absurd (cc)
next_of zero s xs p one (inr few) = absurd (omega arith)
next_of (suc m) s xs p one (inr few) = record {
  left = m;
  one_less = refl;
  records = ap (records_next (records_from default_config m)) one;
  enough = enough_after m s xs p one few;
}

next_is : (n : ℕ) (s s2 : State) (xs ys : List ℕ) (fields : Record) → Reached default_config s xs (fields ∷ []) s2 ys → Enough n s xs → Next n s s2 xs ys fields
unfolding Reached
next_is n s s2 xs ys fields reached enough =
    rw (reached.2, ← reached.3.0, ← reached.3.1) (next_of n s xs reached.0 reached.1 enough)

pub none_left : (n : ℕ) (s : State) (xs : List ℕ) → next_record default_config s [] [] xs ≡ None → records_from default_config n s xs ≡ []
unfolding records_from
none_left zero s xs none = refl
none_left (suc n) s xs none = ap (records_next (records_from default_config n)) none

-- a reader that has read one record more
pub one_read : {R : Type 0} (rem : R → Option (List ℕ)) (a b : Reader R) (fields : Record) (xs : List ℕ) → a.config ≡ default_config → source_of rem a ≡ Some xs → ReadRecord rem a b true fields
    → (ys : List ℕ) × (source_of rem b ≡ Some ys) × Reached default_config a.state xs (fields ∷ []) b.state ys
unfolding Reached
one_read rem a b fields xs config source read = rows-more rem a b fields default_config a.state xs xs [] config source (refl, refl) read

-- ---- the trace of the records so far

-- the trace t of the records before `place` is that of the text so far, of which xs is left
pub record IsAt (text : List ℕ) (t : Trace) (place : ℕ) (s : State) (xs : List ℕ) : Type 0 where
  pub left : ℕ
  pub enough : Enough left s xs
  pub counted : place + left ≡ length text + 2
  pub same : trace_of_records (records default_config text) ≡ with_records place t (records_from default_config left s xs)

pub at_start : (text : List ℕ) → IsAt text no_records 1 st.StartRecord text
at_start text = record { left = length text + 1; enough = inr (omega arith); counted = omega arith; same = refl }

next_same : (place : ℕ) (t t2 : Trace) (fields : Record) (more : List Record) → with_record t fields ≡ Ok t2
    → with_records place t (fields ∷ more) ≡ with_records (place + 1) t2 more
next_same place t t2 fields more given = rw given refl

next_faulty : (place : ℕ) (t : Trace) (kind : TraceKind) (fields : Record) (more : List Record) → with_record t fields ≡ Err kind
    → with_records place t (fields ∷ more) ≡ Err (place, kind)
next_faulty place t kind fields more given = rw given refl

pub next_at : (text : List ℕ) (t t2 : Trace) (place : ℕ) (s s2 : State) (xs ys : List ℕ) (fields : Record)
    → IsAt text t place s xs → Reached default_config s xs (fields ∷ []) s2 ys → with_record t fields ≡ Ok t2 → IsAt text t2 (place + 1) s2 ys
next_at text t t2 place s s2 xs ys fields at reached given =
    let next = next_is at.left s s2 xs ys fields reached at.enough in
    record {
      left = next.left;
      enough = next.enough;
      counted = omega (arith, at.counted, next.one_less);
      same = at.same ∙ (ap (with_records place t) next.records ∙ next_same place t t2 fields (records_from default_config next.left s2 ys) given);
    }

pub place_at_most : (text : List ℕ) (t : Trace) (place : ℕ) (s s2 : State) (xs ys : List ℕ) (fields : Record)
    → IsAt text t place s xs → Reached default_config s xs (fields ∷ []) s2 ys → place ≤ length text + 1
place_at_most text t place s s2 xs ys fields at reached =
    let next = next_is at.left s s2 xs ys fields reached at.enough in
    omega (arith, at.counted, next.one_less)

pub first_fault : (text : List ℕ) (t : Trace) (place : ℕ) (s s2 : State) (xs ys : List ℕ) (fields : Record) (e : RecordError)
    → IsAt text t place s xs → Reached default_config s xs (fields ∷ []) s2 ys → Fails e (with_record t fields)
    → IsFirstFault (fault_at place e) (trace_of_records (records default_config text))
first_fault text t place s s2 xs ys fields errors.NoMemory at reached fails = tt
first_fault text t place s s2 xs ys fields (errors.Fault kind) at reached fails =
    let next = next_is at.left s s2 xs ys fields reached at.enough in
    at.same ∙ (ap (with_records place t) next.records ∙ next_faulty place t kind fields (records_from default_config next.left s2 ys) fails)

pub at_its_end : (text : List ℕ) (t : Trace) (place : ℕ) (s : State) (xs : List ℕ)
    → IsAt text t place s xs → next_record default_config s [] [] xs ≡ None → trace_of_records (records default_config text) ≡ at_end place t
at_its_end text t place s xs at none = at.same ∙ ap (with_records place t) (none_left at.left s xs none)

pub stripped : (text : List ℕ) → length (strip_bom text) ≤ length text
unfolding strip_bom
stripped [] = omega arith
stripped (a ∷ []) = omega arith
stripped (a ∷ b ∷ []) = omega arith
stripped (a ∷ b ∷ c ∷ rest) = go _
  where
    go : (mark : Bool) → length (if mark then rest else a ∷ b ∷ c ∷ rest) ≤ length (a ∷ b ∷ c ∷ rest)
    go true = omega arith
    go false = omega arith
