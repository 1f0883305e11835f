-- Rows that are dealt to one submitter.
use Rattle.std.proofs.Common.{ℕ, suc, ◌+◌, ◌<◌, ◌≡◌, ◌==◌, Bool, true, false, cond, List, [], ◌∷◌, ◌++◌, length, drop, get_or, map, append_assoc, append-nil, sym, ap, ◌∙◌, add-one}
use Rattle.std.proofs.lemmas.List.{map-append}
use Rattle.std.proofs.Math.Seq.{drop-cons, drop-length}
use Rattle.program_model.specs.declared.trace.TraceRow.{TraceRow}
use Rattle.program_model.specs.Courses.{row_request}
use Rattle.fq_model.specs.History.{Request}
use Rattle.program_model.specs.PoolHistory.{requests_from}
use Rattle.gate_rules.specs.declared.rows.Row.{Row}
use Rattle.trace_pool.specs.PoolEnd.{row_asks}

-- the rows that were dealt before row r, and those that are left from row r on, are all rows of submitter j
abbrev pub IsDealtTo : List TraceRow → ℕ → ℕ → List (Row ℕ) → Type 0
IsDealtTo rows j r queue = map row_asks queue ++ requests_from j r (drop r rows) ≡ requests_from j 0 rows

from_here : (rows : List TraceRow) (j r : ℕ) (d : TraceRow) → r < length rows → requests_from j r (drop r rows) ≡ requests_from j r (get_or rows r d ∷ drop (suc r) rows)
from_here rows j r d here = ap (requests_from j r) (drop-cons rows r d here)

-- a row of this submitter
pub deals_row : (rows : List TraceRow) (j r : ℕ) (d : TraceRow) (queue : List (Row ℕ)) (x : Row ℕ) → r < length rows → IsDealtTo rows j r queue → ((get_or rows r d).submitter == j) ≡ true → row_asks x ≡ row_request r (get_or rows r d)
    → IsDealtTo rows j (r + 1) (queue ++ x ∷ [])
deals_row rows j r d queue x here dealt own same =
    let rest : List Request = requests_from j (suc r) (drop (suc r) rows) in
    let there : requests_from j r (drop r rows) ≡ row_request r (get_or rows r d) ∷ rest = from_here rows j r d here ∙ ap (λ (b : Bool). cond b (row_request r (get_or rows r d) ∷ rest) rest) own in
    let split : map row_asks (queue ++ x ∷ []) ++ rest ≡ map row_asks queue ++ row_asks x ∷ rest = ap (λ l. l ++ rest) (map-append row_asks queue (x ∷ [])) ∙ append_assoc (map row_asks queue) (row_asks x ∷ []) rest in
    let next : IsDealtTo rows j (suc r) (queue ++ x ∷ []) = split ∙ (ap (λ q. map row_asks queue ++ q ∷ rest) same ∙ (ap (λ l. map row_asks queue ++ l) (sym there) ∙ dealt)) in
    rw add-one next

-- a row of another submitter
pub passes_row : (rows : List TraceRow) (j r : ℕ) (d : TraceRow) (queue : List (Row ℕ)) → r < length rows → IsDealtTo rows j r queue → ((get_or rows r d).submitter == j) ≡ false → IsDealtTo rows j (r + 1) queue
passes_row rows j r d queue here dealt other =
    let rest : List Request = requests_from j (suc r) (drop (suc r) rows) in
    let there : requests_from j r (drop r rows) ≡ rest = from_here rows j r d here ∙ ap (λ (b : Bool). cond b (row_request r (get_or rows r d) ∷ rest) rest) other in
    let next : IsDealtTo rows j (suc r) queue = ap (λ l. map row_asks queue ++ l) (sym there) ∙ dealt in
    rw add-one next

-- where no row is left, all are dealt
pub all_dealt : (rows : List TraceRow) (j r : ℕ) (queue : List (Row ℕ)) → r ≡ length rows → IsDealtTo rows j r queue → map row_asks queue ≡ requests_from j 0 rows
all_dealt rows j r queue end dealt = sym (append-nil (map row_asks queue)) ∙ (ap (λ l. map row_asks queue ++ requests_from j r l) (sym none) ∙ dealt)
  where
    none : drop r rows ≡ []
    none = ap (λ n. drop n rows) end ∙ drop-length rows
