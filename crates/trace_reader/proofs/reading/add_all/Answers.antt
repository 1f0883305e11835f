use Rattle.std.proofs.Common.{Bor, List, ℕ, ◌∙◌, ◌≤◌, ◌≡◌, length, refl, inl, inr, Some, [], rules, sym, subst}
use Rattle.csv.proofs.ReadFacts.{rows-end}
use Rattle.csv.specs.Reading.{default_config, strip_bom}
use Rattle.csv.specs.Records.{fields_of}
use Rattle.program_model.specs.TraceGrammar.{trace_of}
use Rattle.trace_reader.proofs.Reached.{one_read, at_start, next_at, place_at_most, first_fault, at_its_end, stripped}
use Rattle.trace_reader.proofs.reading.add_all.Goals as goal

pub record-init : goal.record-init
record-init c =
    let fr = c.from_reader-reader.ensures in
    let flexible = c.flexible.ensures in
    let headers = c.has_headers.ensures in
    rw (c.requires, fr.state) (
      rw (flexible, headers) at fr.trim ∙ c.new.ensures.trim,
      inr (inr (rw (flexible, headers) at fr.has_headers, fr.headers)),
      rw (flexible, headers) at fr.config ∙ c.new.ensures.config,
      strip_bom c.args.bytes.now,
      fr.source,
      at_start (strip_bom c.args.bytes.now),
    )

pub is_read-requires-clause-ready : goal.is_read-requires-clause-ready
is_read-requires-clause-ready c = c.record.invariant.1

pub is_read-requires-clause-untrimmed : goal.is_read-requires-clause-untrimmed
is_read-requires-clause-untrimmed c = c.record.invariant.0

pub overflow_add-place : goal.overflow_add-place
overflow_add-place c =
    let inv = c.record.invariant in
    let m = one_read (λ (b : Bor (List ℕ)). Some b.now) c.record.reader c.is_read.new.reader (fields_of c.is_read.new.row) inv.3 inv.2 inv.4 (rw c.if-branch.true at c.in_ok-is_read.ensures.read) in
    let most = place_at_most (strip_bom c.args.bytes.now) c.record.draft c.record.place _ _ inv.3 m.0 (fields_of c.is_read.new.row) inv.5 m.2 in
    let short : length (strip_bom c.args.bytes.now) ≤ length c.args.bytes.now = stripped c.args.bytes.now in
    search rules

pub record-preserved : goal.record-preserved
record-preserved c =
    let inv = c.record.invariant in
    let s = (rw c.if-branch.true at c.in_ok-is_read.ensures.read) in
    let m = one_read (λ (b : Bor (List ℕ)). Some b.now) c.record.reader c.is_read.new.reader (fields_of c.is_read.new.row) inv.3 inv.2 inv.4 s in
    (s.3 ∙ inv.0, inl c.in_ok-is_read.ensures.first, s.2 ∙ inv.2, m.0, m.1, next_at (strip_bom c.args.bytes.now) c.record.draft c.add_record.new.draft c.record.place _ _ inv.3 m.0 (fields_of c.is_read.new.row) inv.5 m.2 c.in-Ok.ensures)

pub returns-in-Err-clause-fault : goal.returns-in-Err-clause-fault
unfolding trace_of
returns-in-Err-clause-fault c =
    let inv = c.record.invariant in
    let m = one_read (λ (b : Bor (List ℕ)). Some b.now) c.record.reader c.is_read.new.reader (fields_of c.is_read.new.row) inv.3 inv.2 inv.4 (rw c.if-branch.true at c.in_ok-is_read.ensures.read) in
    rw c.at.ensures (first_fault (strip_bom c.args.bytes.now) c.record.draft c.record.place _ _ inv.3 m.0 (fields_of c.is_read.new.row) c.in-Err.e inv.5 m.2 c.in-Err.ensures)

pub returns-clause-ok : goal.returns-clause-ok
unfolding trace_of
returns-clause-ok c =
    let inv = c.record.invariant in
    let none = rows-end (λ (b : Bor (List ℕ)). Some b.now) c.record.reader c.is_read.new.reader (fields_of c.is_read.new.row) default_config inv.3 inv.2 inv.4 (rw c.if-branch.false at c.in_ok-is_read.ensures.read) in
    at_its_end (strip_bom c.args.bytes.now) c.record.draft c.record.place _ inv.3 inv.5 none
