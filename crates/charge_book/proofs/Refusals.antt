-- The rows of a book and the rules refuse the same uses and costs.
use Rattle.std.proofs.Common.{ℕ, ◌<◌, ◌≡◌, nat_lt, if◌then◌else◌, Bool, true, false, refl, sym, ◌∙◌, subst, Option, Some, None, option_map}
use Rattle.std.proofs.lemmas.Bool.{lt-leb}
use Rattle.fq_model.specs.declared.config.Config.{Config}
use Rattle.fq_model.specs.declared.event.Cause.{Cause}
use Rattle.fq_model.specs.declared.event.Cause.TheVariants as cause
use Rattle.fq_model.specs.History.{History, Request, request_at, running_on, last_use}
use Rattle.fq_model.specs.Charge.{taken_weight}
use Rattle.fq_model.specs.Rules.{IsLegal, take_refusal, done_refusal}
use Rattle.fq_laws.proofs.History.Workers.{running_runs, took}
use Rattle.fq_laws.proofs.History.Requests.{taken_known, request_known, IsKnown}
use Rattle.vt_fixed.specs.declared.limits.TheConstants.{GREATEST_COST}
use Rattle.charge_book.specs.declared.row.RunRow.{RunRow}
use Rattle.charge_book.specs.declared.refusal.BookRefusal.{BookRefusal}
use Rattle.charge_book.specs.declared.refusal.BookRefusal.TheVariants.{CostRange, Falling}
use Rattle.charge_book.specs.Book.{BookView, row_on, row_refusal, use_refusal}
use Rattle.charge_book.specs.Refusal.{cause_of}
use Rattle.charge_book.specs.Histories.{row_of_worker, BookIs}
use Rattle.charge_book.proofs.Rows.{of_worker_known, of_worker_none}

-- the row is of the worker's request, and has the weight of its tenant just before its Take
pub record RowSays (C : Config) (P : History) (worker : ℕ) (row : RunRow) : Type 0 where
  pub running_is : running_on P worker ≡ Some row.request
  pub asked : Request
  pub known : request_at P row.request ≡ Some asked
  pub tenant_is : asked.tenant ≡ row.tenant
  pub kind_is : asked.kind ≡ row.kind
  pub weight_is : row.weight ≡ taken_weight C P row.tenant row.request
  pub last_is : row.last ≡ last_use P row.request
  pub in_range : IsKnown C asked

-- a row by the worker's request, if it runs one
abbrev pub IsRowOf : Config → History → ℕ → Option RunRow → Type 0
IsRowOf C P worker None = running_on P worker ≡ None
IsRowOf C P worker (Some row) = RowSays C P worker row

-- the row of a worker
pub row_of : (C : Config) (P : History) (b : BookView) (worker : ℕ) (held : Option RunRow) → IsLegal C P → BookIs C P b → worker < C.workers → row_on b worker ≡ held → IsRowOf C P worker held
row_of C P b worker held l is known e = subst (IsRowOf C P worker) (sym (is.rows worker known) ∙ e) (go (running_on P worker) refl)
  where
    go : (o : Option ℕ) → running_on P worker ≡ o → IsRowOf C P worker (row_of_worker C P worker)
    go None on = subst (IsRowOf C P worker) (sym (of_worker_none C P worker on)) on
    go (Some r) on =
        let q = taken_known C P r l (took P worker r (running_runs C P worker r l on).taken) in
        subst (IsRowOf C P worker) (sym (of_worker_known C P worker r q.0 on q.1)) (record {
          running_is = on;
          asked = q.0;
          known = q.1;
          tenant_is = refl;
          kind_is = refl;
          weight_is = refl;
          last_is = refl;
          in_range = request_known C P r q.0 l q.1;
        })

-- why a worker with this row is refused work, if it is
abbrev pub busy : Option RunRow → Option Cause
busy None = None
busy (Some row) = Some (cause.Busy row.request)

busy_at : (C : Config) (P : History) (worker : ℕ) (held : Option RunRow) → worker < C.workers → IsRowOf C P worker held → take_refusal C P worker ≡ busy held
busy_at C P worker None known says = rw (lt-leb C.workers worker known, says) refl
busy_at C P worker (Some row) known says = rw (lt-leb C.workers worker known, says.running_is) refl

pub take_refused : (C : Config) (P : History) (b : BookView) (worker : ℕ) (held : Option RunRow) → IsLegal C P → BookIs C P b → worker < C.workers → row_on b worker ≡ held → take_refusal C P worker ≡ busy held
take_refused C P b worker held l is known e = busy_at C P worker held known (row_of C P b worker held l is known e)

-- the cause of the book's refusal, if it refuses
abbrev pub cause_if : Option BookRefusal → Option Cause
cause_if refusal = option_map cause_of refusal

used_at : (C : Config) (P : History) (worker used : ℕ) (held : Option RunRow) → worker < C.workers → IsRowOf C P worker held → done_refusal C P worker used ≡ cause_if (row_refusal held used)
used_at C P worker used None known says = rw (lt-leb C.workers worker known, says) refl
used_at C P worker used (Some row) known says = rw (lt-leb C.workers worker known, says.running_is, ← says.last_is) (by_tests (nat_lt GREATEST_COST used) (nat_lt used row.last))
  where
    by_tests : (high falls : Bool) → (if high then Some (cause.Cost used) else (if falls then Some (cause.Falling row.last used) else None)) ≡ cause_if (if high then Some (CostRange used) else (if falls then Some (Falling row.last used) else None))
    by_tests true falls = refl
    by_tests false true = refl
    by_tests false false = refl

-- a use or a cost is refused for the cause of the book, and accepted where the book has none
pub use_refused : (C : Config) (P : History) (b : BookView) (worker used : ℕ) → IsLegal C P → BookIs C P b → worker < C.workers → done_refusal C P worker used ≡ cause_if (use_refusal b worker used)
use_refused C P b worker used l is known = used_at C P worker used (row_on b worker) known (row_of C P b worker (row_on b worker) l is known refl)
