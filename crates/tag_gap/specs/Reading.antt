-- The state that is kept while the entries of a history are read.
use Rattle.std.specs.Prelude.{ℕ, ℤ, ◌<◌, ◌≡◌, ◌==◌, ◌∷◌, if◌then◌else◌, List, Some, length, slice_get, slice_index}
use Rattle.fq_model.specs.declared.config.Config.{Config}
use Rattle.fq_model.specs.declared.event.Act.TheVariants.{Take, Withdraw}
use Rattle.fq_model.specs.declared.event.Entry.{Entry}
use Rattle.fq_model.specs.Limits.{InLimits}
use Rattle.fq_model.specs.History.{History, Request, request_at, queue}
use Rattle.fq_model.specs.Rules.{IsLegal}
use Rattle.gap_laws.specs.Words.{HasDeclaredCosts}
use Rattle.tag_rules.specs.Accounts.{AccountsView, AccountsAre, raised}
use Rattle.virtual_clock.specs.Histories.{TimesAre}
use Rattle.tag_gap.specs.declared.asked.Asked.{Asked}
use Rattle.tag_gap.specs.declared.reading.Reading.{Reading}
use Rattle.tag_gap.specs.Asked.{asked_of}

-- the numbers of waiting requests by tenant
pub record WaitingAre (C : Config) (P : History) (waiting : List ℕ) : Type 0 where
  pub tenants : length waiting ≡ length C.weights
  pub each : (t : ℕ) → t < length C.weights → slice_index waiting t ≡ length (queue P t)

-- the history is legal, and all that is kept is its own
pub record Keeps (C : Config) (P : History) (k : Reading) : Type 0 where
  pub limits : InLimits C
  pub legal : IsLegal C P
  pub policy_is : k.policy ≡ C.policy
  pub times_are : TimesAre C P k.times
  pub accounts_are : AccountsAre C P k.accounts
  pub waiting_are : WaitingAre C P k.waiting.items

-- the kept state is that of some history
abbrev pub KeepsSome : Reading → Type 0
KeepsSome k = (C : Config) × (P : History) × Keeps C P k

-- the entry is of this moment, and is the Take of a request of this tenant by this worker, at this estimate
pub record Takes (moment worker tenant estimate : ℕ) (P : History) (e : Entry) : Type 0 where
  pub request : ℕ
  pub asked : Request
  pub moment_is : e.moment ≡ moment
  pub act_is : e.act ≡ Take worker request estimate
  pub asked_is : request_at P request ≡ Some asked
  pub tenant_is : asked.tenant ≡ tenant

-- the entry is of this moment, and withdraws a request of this tenant
pub record Withdraws (moment tenant : ℕ) (P : History) (e : Entry) : Type 0 where
  pub request : ℕ
  pub asked : Request
  pub moment_is : e.moment ≡ moment
  pub act_is : e.act ≡ Withdraw request
  pub asked_is : request_at P request ≡ Some asked
  pub tenant_is : asked.tenant ≡ tenant

-- the entry may come after the history, and leaves all requests as declared; the requests before it are known
pub record MayCome (C : Config) (asked : List Asked) (P : History) (e : Entry) : Type 0 where
  pub costs : HasDeclaredCosts C (e ∷ P)
  pub known : (r : ℕ) (q : Request) → request_at P r ≡ Some q → slice_get asked r ≡ Some (asked_of q)

-- the kept state is that of a history after which the entry may come
pub record AwaitsEntry (asked : List Asked) (e : Entry) (k : Reading) : Type 0 where
  pub config : Config
  pub history : History
  pub comes : MayCome config asked history e
  pub keeps : Keeps config history k

-- and the state that was kept of each such history becomes that of the history with the entry
abbrev pub FollowsEntry : List Asked → Entry → Reading → Reading → Type 0
FollowsEntry asked e before after =
    (C : Config) (P : History) → MayCome C asked P e → Keeps C P before → Keeps C (e ∷ P) after

-- the accounts with the tag of the tenant raised to v, where none of its requests waits
abbrev pub raised_first : ℕ → AccountsView → ℕ → ℤ → AccountsView
raised_first waiting a tenant v = if waiting == 0 then raised a tenant v else a
