-- The book and the accounts of a history at one entry that charges a tenant.
use Rattle.std.proofs.Common.{ℕ, ◌<◌, ◌≤◌, ◌≡◌, ◌≢◌, ◌^◌, false, List, [], ◌∷◌, length, replicate, Option, Some, None, ℤ, pos, ◌+ℤ◌, arith, refl, sym, ap, subst, ◌∙◌}
use Rattle.std.specs.Prelude.{is_none, if◌then◌else◌}
use mir.Val.{to_z, of_z}
use Rattle.std.specs.Int.{w128}
use Rattle.std.proofs.lemmas.Bool.{eq-eqb}
use Rattle.std.proofs.lemmas.Int.{ints}
use Rattle.vt_fixed.specs.Rounding.{length_of}
use Rattle.fq_model.specs.declared.config.Config.{Config}
use Rattle.fq_model.specs.declared.event.Entry.{Entry}
use Rattle.fq_model.specs.declared.event.Act.TheVariants.{Submit, Take, Report, Done}
use Rattle.fq_model.specs.Limits.{InLimits}
use Rattle.fq_model.specs.History.{is_submit, History, Request, request_at, is_of_tenant, weight_at, head}
use Rattle.fq_model.specs.Pace.{virtual_time}
use Rattle.fq_model.specs.Charge.{completed}
use Rattle.fq_model.specs.Rules.{IsLegal, FitsUse}
use Rattle.fq_laws.specs.Words.{one_more}
use Rattle.fq_laws.specs.Steps.{Ends}
use Rattle.fq_laws.proofs.Charge.Limits.{virtual_charge_within}
use Rattle.fq_laws.proofs.History.Workers.{runs_worker_known}
use Rattle.fq_laws.proofs.History.Weights.{pool_high}
use Rattle.fq_laws.proofs.History.Asked.{of_other}
use Rattle.fq_laws.proofs.History.Requests.{request_known}
use Rattle.fq_laws.proofs.Charge.Estimates.{completed_done, estimate_range}
use Rattle.charge_book.specs.declared.row.RunRow.{RunRow}
use Rattle.charge_book.specs.Book.{BookView, row_on, row_of_run, begun, reported, report_change, finished, finish_change}
use Rattle.charge_book.specs.Histories.{BookIs, BookFollows}
use Rattle.charge_book.proofs.Steps.{book_nil, may_begin, book_take, book_report, book_done}
use Rattle.tag_rules.specs.Accounts.{AccountsView, charge_of, raised, charged, IsCharge, AccountsAre}
use Rattle.tag_rules.proofs.AccountSteps.{accounts_raise, accounts_leave, accounts_charge, may_charge}
use Rattle.charge_book.proofs.Refusals.{RowSays, row_of}

-- a new book is that of the empty history
pub book_opened : (C : Config) (b : BookView) → b.rows ≡ replicate C.workers None → b.nets ≡ replicate (length C.weights) 0 → b.begins ≡ 0 → BookIs C [] b
book_opened C b rows nets begins = subst (BookIs C []) (sym (ap (λ (x : List (Option RunRow)). record { rows = x; nets = b.nets; begins = b.begins }) rows ∙ (ap (λ (x : List ℕ). record { rows = replicate C.workers None; nets = x; begins = b.begins }) nets ∙ ap (λ (x : ℕ). record { rows = replicate C.workers None; nets = replicate (length C.weights) 0; begins = x }) begins))) (book_nil C)

-- the accounts at a Submit, by whether its tenant has a head
pub accounts_submit : (C : Config) (P : History) (a : AccountsView) (who m r t k declared label : ℕ) (o : Option ℕ) → InLimits C → IsLegal C (one_more who m (Submit r t k declared label) P) → head P t ≡ o → AccountsAre C P a → AccountsAre C (one_more who m (Submit r t k declared label) P) (if is_none o then raised a t (pos (virtual_time C P m)) else a)
accounts_submit C P a who m r t k declared label None lim l none is = accounts_raise C P a who m r t k declared label lim l none is
accounts_submit C P a who m r t k declared label (Some first) lim l some is = accounts_leave C P a who m r t k declared label first lim l some is

-- after the entry the book is b, and the virtual charge of tenant t has changed by `change`
pub record Step (C : Config) (P : History) (e : Entry) (a : AccountsView) (t : ℕ) (b : BookView) (change : ℤ) : Type 0 where
  pub limits : InLimits C
  pub legal : IsLegal C (e ∷ P)
  pub accounts_are : AccountsAre C P a
  pub tenant_known : t < length C.weights
  pub follows : BookFollows C P (e ∷ P) t b change

module _ (C : Config) (P : History) (e : Entry) (a : AccountsView) (t : ℕ) (b : BookView) (change z : ℤ) (x : Step C P e a t b change) (same : z ≡ change) where
  -- the change fits 128 bits
  read_back : to_z w128 (of_z w128 z) ≡ change
  read_back =
      let low = virtual_charge_within C P t x.limits x.legal.0 in
      let high = virtual_charge_within C (e ∷ P) t x.limits x.legal in
      let own = x.follows.changes_by.own in
      let back : to_z w128 (of_z w128 z) ≡ z = omega (arith, ints) in back ∙ same

  -- the preconditions of `charge`
  pub step_sized : t < length a.charges
  step_sized = omega (arith, x.accounts_are.charges_sized, x.tenant_known)

  pub step_charge : IsCharge (charge_of a t +ℤ to_z w128 (of_z w128 z))
  step_charge = subst (λ y. IsCharge (charge_of a t +ℤ y)) (sym read_back) (may_charge C P a e t change x.limits x.legal x.tenant_known x.follows.changes_by.own x.accounts_are)

  -- and the accounts after it
  pub step_accounts : (new : AccountsView) → is_submit e.act ≡ false → new ≡ charged a t (to_z w128 (of_z w128 z)) → AccountsAre C (e ∷ P) new
  step_accounts new other is = subst (AccountsAre C (e ∷ P)) (sym (is ∙ ap (charged a t) read_back)) (accounts_charge C P a e t change other x.tenant_known x.follows.changes_by.own x.follows.changes_by.others x.accounts_are)

-- ---- a Take

-- the preconditions of `begin`, and its step
pub record BeginStep (C : Config) (P : History) (b : BookView) (a : AccountsView) (who m w r tenant kind estimate weight : ℕ) : Type 0 where
  pub worker : w < length b.rows
  pub free : row_on b w ≡ None
  pub few : b.begins < 2 ^ 32
  pub estimate_low : estimate ≤ 1000000000
  pub step : Step C P (record { who = who; moment = m; act = Take w r estimate }) a tenant (begun b w (row_of_run r tenant kind weight estimate)) (pos (length_of estimate weight))
  pub others : (u : ℕ) → u ≢ tenant → is_of_tenant u (request_at P r) ≡ false

pub begin_step : (C : Config) (P : History) (b : BookView) (a : AccountsView) (who m w r estimate weight : ℕ) (q : Request) → InLimits C → IsLegal C (one_more who m (Take w r estimate) P) → request_at P r ≡ Some q → weight ≡ weight_at C P q.tenant → BookIs C P b → AccountsAre C P a → BeginStep C P b a who m w r q.tenant q.kind estimate weight
begin_step C P b a who m w r estimate weight q lim l known heavy is are =
    let may = may_begin C P b who m w r estimate q lim l known is in
    let worker : w < C.workers = omega (arith, l.3.worker_known, pool_high C P l.0) in
    let range = estimate_range C P r l.3.asked lim l.0 l.3.chosen.asked in
    record {
      worker = omega (arith, is.workers, worker);
      free = may.0;
      few = may.1;
      estimate_low = omega (arith, range.1, l.3.chosen.estimate_is);
      step = record {
        limits = lim;
        legal = l;
        accounts_are = are;
        tenant_known = (request_known C P r q l.0 known).tenant_known;
        follows = subst (λ y. BookFollows C P (one_more who m (Take w r estimate) P) q.tenant (begun b w (row_of_run r q.tenant q.kind y estimate)) (pos (length_of estimate y))) (sym heavy) (book_take C P b who m w r estimate q lim l known is);
      };
      others = λ u ne. of_other P u r q known (λ e. ne (sym e));
    }

-- ---- a Report and a Done

-- a request is of its tenant alone
pub only_owner : (P : History) (r t u : ℕ) (q : Request) → request_at P r ≡ Some q → q.tenant ≡ t → u ≢ t → is_of_tenant u (request_at P r) ≡ false
only_owner P r t u q is own ne = of_other P u r q is (λ e. ne (sym e ∙ own))

-- the row is of a request of its tenant, whose use or cost is in range
pub row_used : (C : Config) (P : History) (b : BookView) (w r used : ℕ) (row : RunRow) → IsLegal C P → BookIs C P b → FitsUse P w r used → row_on b w ≡ Some row → RowSays C P w row
row_used C P b w r used row l is f held = row_of C P b w (Some row) l is (runs_worker_known C P w r l f.runs) held

pub record ReportStep (C : Config) (P : History) (b : BookView) (a : AccountsView) (who m w used : ℕ) (row : RunRow) : Type 0 where
  pub step : Step C P (record { who = who; moment = m; act = Report w row.request used }) a row.tenant (reported b w used) (report_change b w used)
  pub others : (u : ℕ) → u ≢ row.tenant → is_of_tenant u (request_at P row.request) ≡ false

pub report_step : (C : Config) (P : History) (b : BookView) (a : AccountsView) (who m w used : ℕ) (row : RunRow) → InLimits C → IsLegal C (one_more who m (Report w row.request used) P) → BookIs C P b → AccountsAre C P a → row_on b w ≡ Some row → ReportStep C P b a who m w used row
report_step C P b a who m w used row lim l is are held =
    let says : RowSays C P w row = row_used C P b w row.request used row l.0 is l.3.0 held in
    record {
      step = record {
        limits = lim;
        legal = l;
        accounts_are = are;
        tenant_known = subst (λ t. t < length C.weights) says.tenant_is says.in_range.tenant_known;
        follows = subst (λ t. BookFollows C P (one_more who m (Report w row.request used) P) t (reported b w used) (report_change b w used)) says.tenant_is (book_report C P b who m w row.request used says.asked lim l says.known is);
      };
      others = λ u ne. only_owner P row.request row.tenant u says.asked says.known says.tenant_is ne;
    }

pub record FinishStep (C : Config) (P : History) (b : BookView) (a : AccountsView) (who m w cost : ℕ) (row : RunRow) : Type 0 where
  pub step : Step C P (record { who = who; moment = m; act = Done w row.request cost }) a row.tenant (finished b w cost) (finish_change b w cost)
  pub kind_known : row.kind < C.kinds
  pub cost_low : cost ≤ 1000000000
  pub completed_is : completed (one_more who m (Done w row.request cost) P) ≡ record { tenant = row.tenant; kind = row.kind; cost = cost } ∷ completed P
  pub ends : Ends m row.tenant P (record { who = who; moment = m; act = Done w row.request cost })
  pub others : (u : ℕ) → u ≢ row.tenant → is_of_tenant u (request_at P row.request) ≡ false

pub finish_step : (C : Config) (P : History) (b : BookView) (a : AccountsView) (who m w cost : ℕ) (row : RunRow) → InLimits C → IsLegal C (one_more who m (Done w row.request cost) P) → BookIs C P b → AccountsAre C P a → row_on b w ≡ Some row → FinishStep C P b a who m w cost row
finish_step C P b a who m w cost row lim l is are held =
    let says : RowSays C P w row = row_used C P b w row.request cost row l.0 is l.3 held in
    record {
      step = record {
        limits = lim;
        legal = l;
        accounts_are = are;
        tenant_known = subst (λ t. t < length C.weights) says.tenant_is says.in_range.tenant_known;
        follows = subst (λ t. BookFollows C P (one_more who m (Done w row.request cost) P) t (finished b w cost) (finish_change b w cost)) says.tenant_is (book_done C P b who m w row.request cost says.asked lim l says.known is);
      };
      kind_known = subst (λ k. k < C.kinds) says.kind_is says.in_range.kind_known;
      cost_low = l.3.in_range;
      completed_is = completed_done P who m w row.request cost says.asked says.known ∙ ap (λ (k : ℕ). record { tenant = says.asked.tenant; kind = k; cost = cost } ∷ completed P) says.kind_is ∙ ap (λ (t : ℕ). record { tenant = t; kind = row.kind; cost = cost } ∷ completed P) says.tenant_is;
      ends = record { request = row.request; asked = says.asked; moment_is = refl; ends = eq-eqb row.request row.request refl; asked_is = says.known; tenant_is = says.tenant_is };
      others = λ u ne. only_owner P row.request row.tenant u says.asked says.known says.tenant_is ne;
    }
