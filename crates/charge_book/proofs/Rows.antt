-- The rows of a book at one entry more of a history.
use Rattle.std.proofs.Common.{ℕ, ◌≡◌, ◌≢◌, max, true, Option, Some, None, unwrap_or, option_map, option_and_then, arith, refl, sym, ap, ◌∙◌}
use Rattle.std.proofs.lemmas.Bool.{ne_eqb, false≢true}
use Rattle.std.proofs.lemmas.Option.{none-some}
use Rattle.fq_model.specs.declared.config.Config.{Config}
use Rattle.fq_model.specs.declared.event.Act.{Act}
use Rattle.fq_model.specs.declared.event.Act.TheVariants.{Submit, Take, Report, Done, Withdraw}
use Rattle.fq_model.specs.History.{History, Request, request_at, running_on, last_use, Runs}
use Rattle.fq_model.specs.Charge.{taken_estimate, taken_weight, charge, charge_from, final_cost}
use Rattle.fq_laws.specs.Words.{one_more, is_quiet}
use Rattle.fq_laws.proofs.History.Workers.{took}
use Rattle.fq_laws.proofs.Charge.Requests.{cost_none, estimate_some}
use Rattle.charge_book.specs.declared.row.RunRow.{RunRow}
use Rattle.charge_book.specs.Rows.{row_charge}
use Rattle.charge_book.specs.Histories.{run_row, row_of_request, row_of_worker}

-- the numbers that a row reads of request s are the same in Q
pub record Reads (C : Config) (P Q : History) (s : ℕ) : Type 0 where
  pub request : request_at Q s ≡ request_at P s
  pub weight : (t : ℕ) → taken_weight C Q t s ≡ taken_weight C P t s
  pub estimate : taken_estimate Q s ≡ taken_estimate P s
  pub last : last_use Q s ≡ last_use P s

row_same : (C : Config) (P Q : History) (s : ℕ) (q : Request) → Reads C P Q s → run_row C Q s q ≡ run_row C P s q
row_same C P Q s q r = go (taken_weight C Q q.tenant s) (taken_estimate Q s) (last_use Q s) (r.weight q.tenant) r.estimate r.last
  where
    go : (w : ℕ) (x : Option ℕ) (l : ℕ) → w ≡ taken_weight C P q.tenant s → x ≡ taken_estimate P s → l ≡ last_use P s → ◌≡◌ {A = RunRow} (record { request = s; tenant = q.tenant; kind = q.kind; weight = w; estimate = unwrap_or x 0; last = l }) (run_row C P s q)
    go w x l a b c = rw (a, b, c) refl

of_request_same : (C : Config) (P Q : History) (s : ℕ) → Reads C P Q s → row_of_request C Q s ≡ row_of_request C P s
of_request_same C P Q s r = ap (option_map (run_row C Q s)) r.request ∙ go (request_at P s)
  where
    go : (o : Option Request) → option_map (run_row C Q s) o ≡ option_map (run_row C P s) o
    go None = refl
    go (Some q) = ap Some (row_same C P Q s q r)

-- a worker that runs the same request, of which the same is read, has the same row
pub of_worker_same : (C : Config) (P Q : History) (i : ℕ) → running_on Q i ≡ running_on P i → ((s : ℕ) → running_on P i ≡ Some s → Reads C P Q s) → row_of_worker C Q i ≡ row_of_worker C P i
of_worker_same C P Q i same reads = ap (option_and_then (row_of_request C Q)) same ∙ go (running_on P i) refl
  where
    go : (o : Option ℕ) → running_on P i ≡ o → option_and_then (row_of_request C Q) o ≡ option_and_then (row_of_request C P) o
    go None e = refl
    go (Some s) e = of_request_same C P Q s (reads s e)

-- the row of a running request that is known
pub of_worker_known : (C : Config) (P : History) (i s : ℕ) (q : Request) → running_on P i ≡ Some s → request_at P s ≡ Some q → row_of_worker C P i ≡ Some (run_row C P s q)
of_worker_known C P i s q runs known = ap (option_and_then (row_of_request C P)) runs ∙ ap (option_map (run_row C P s)) known

pub of_worker_none : (C : Config) (P : History) (i : ℕ) → running_on P i ≡ None → row_of_worker C P i ≡ None
of_worker_none C P i none = ap (option_and_then (row_of_request C P)) none

-- the charge of a running request is the charge of its row
pub charge_is : (C : Config) (P : History) (i s : ℕ) (q : Request) → Runs P i s → charge P s ≡ row_charge (run_row C P s q)
charge_is C P i s q runs = go (taken_estimate P s) (final_cost P s) (estimate_some P s (took P i s runs.taken)) (cost_none P s runs.not_done)
  where
    go : (x y : Option ℕ) → (c : ℕ) × (x ≡ Some c) → y ≡ None → charge_from x y (last_use P s) ≡ max (unwrap_or x 0) (last_use P s)
    go None y h e = absurd (none-some h.0 h.1)
    go (Some c) None h e = refl
    go (Some c) (Some d) h e = absurd (none-some d (sym e))

-- ---- the numbers of other requests

pub reads_submit : (C : Config) (P : History) (who m r t k d l s : ℕ) → r ≢ s → Reads C P (one_more who m (Submit r t k d l) P) s
reads_submit C P who m r t k d l s ne = record { request = rw (ne_eqb r s ne) refl; weight = λ u. refl; estimate = refl; last = omega arith }

pub reads_take : (C : Config) (P : History) (who m w r c s : ℕ) → r ≢ s → Reads C P (one_more who m (Take w r c) P) s
reads_take C P who m w r c s ne = record { request = refl; weight = λ u. rw (ne_eqb r s ne) refl; estimate = rw (ne_eqb r s ne) refl; last = omega arith }

pub reads_report : (C : Config) (P : History) (who m w r used s : ℕ) → r ≢ s → Reads C P (one_more who m (Report w r used) P) s
reads_report C P who m w r used s ne = record { request = refl; weight = λ u. refl; estimate = refl; last = rw (ne_eqb r s ne) (omega arith) }

pub reads_done : (C : Config) (P : History) (who m w r cost s : ℕ) → Reads C P (one_more who m (Done w r cost) P) s
reads_done C P who m w r cost s = record { request = refl; weight = λ u. refl; estimate = refl; last = omega arith }

pub reads_withdraw : (C : Config) (P : History) (who m r s : ℕ) → Reads C P (one_more who m (Withdraw r) P) s
reads_withdraw C P who m r s = record { request = refl; weight = λ u. refl; estimate = refl; last = omega arith }

-- an act that touches no request, as a Weight of its tenant, leaves the numbers of every request
pub reads_quiet : (C : Config) (P : History) (who m s : ℕ) (a : Act) → is_quiet a ≡ true → Reads C P (one_more who m a P) s
reads_quiet C P who m s (Submit request tenant kind declared label) q = absurd (false≢true q)
reads_quiet C P who m s (Take worker request estimate) q = absurd (false≢true q)
reads_quiet C P who m s (Report worker request used) q = absurd (false≢true q)
reads_quiet C P who m s (Done worker request cost) q = absurd (false≢true q)
reads_quiet C P who m s _ q = record { request = refl; weight = λ u. refl; estimate = refl; last = omega arith }

-- and it leaves the request of each worker
pub running_on_quiet : (P : History) (who m i : ℕ) (a : Act) → is_quiet a ≡ true → running_on (one_more who m a P) i ≡ running_on P i
running_on_quiet P who m i (Take worker request estimate) q = absurd (false≢true q)
running_on_quiet P who m i (Done worker request cost) q = absurd (false≢true q)
running_on_quiet P who m i _ q = refl
