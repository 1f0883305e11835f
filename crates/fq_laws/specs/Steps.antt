-- A value that is kept of a history, and its change at one entry more.
use Rattle.std.specs.Prelude.{ℕ, ◌≡◌, ◌∷◌, Bool, Some, true, false}
use Rattle.fq_model.specs.declared.config.Config.{Config}
use Rattle.fq_model.specs.declared.event.Act.{Act}
use Rattle.fq_model.specs.declared.event.Act.TheVariants.{Submit, Report, Close, Weight, Workers}
use Rattle.fq_model.specs.declared.event.Entry.{Entry}
use Rattle.fq_model.specs.Limits.{InLimits}
use Rattle.fq_model.specs.History.{History, Request, request_at, is_end_of}
use Rattle.fq_model.specs.Rules.{IsLegal}

-- the kept value is that of a legal history after which such an entry may come
pub record Awaits {K : Type 0} (KeptIs : Config → History → K → Type 0) (Comes : History → Entry → Type 0) (kept : K)
    : Type 0 where
  pub config : Config
  pub history : History
  pub entry : Entry
  pub limits : InLimits config
  pub legal : IsLegal config (entry ∷ history)
  pub comes : Comes history entry
  pub kept_is : KeptIs config history kept

-- for each such history of which `before` is kept, `after` is the kept value of the history with the entry
abbrev pub Follows : {K : Type 0} → (Config → History → K → Type 0) → (History → Entry → Type 0) → K → K → Type 0
Follows KeptIs Comes before after =
    (C : Config) (P : History) (e : Entry) → InLimits C → IsLegal C (e ∷ P) → Comes P e → KeptIs C P before
    → KeptIs C (e ∷ P) after

-- the entry is of this moment, and submits a request of this tenant
pub record Submits (moment tenant : ℕ) (P : History) (e : Entry) : Type 0 where
  pub request : ℕ
  pub kind : ℕ
  pub declared : ℕ
  pub label : ℕ
  pub moment_is : e.moment ≡ moment
  pub act_is : e.act ≡ Submit request tenant kind declared label

-- the act is a Report or a Close
abbrev pub is_passing : Act → Bool
is_passing (Report worker request used) = true
is_passing Close = true
is_passing _ = false

-- the entry is of this moment, and is a Report or a Close
pub record Passes (moment : ℕ) (P : History) (e : Entry) : Type 0 where
  pub moment_is : e.moment ≡ moment
  pub passes : is_passing e.act ≡ true

-- the entry is of this moment, and is the Done or the Withdraw of a request of this tenant
pub record Ends (moment tenant : ℕ) (P : History) (e : Entry) : Type 0 where
  pub request : ℕ
  pub asked : Request
  pub moment_is : e.moment ≡ moment
  pub ends : is_end_of request e.act ≡ true
  pub asked_is : request_at P request ≡ Some asked
  pub tenant_is : asked.tenant ≡ tenant

-- the entry is of this moment, and gives the tenant this weight
pub record Reweighs (moment tenant weight : ℕ) (P : History) (e : Entry) : Type 0 where
  pub moment_is : e.moment ≡ moment
  pub act_is : e.act ≡ Weight tenant weight

-- the entry is of this moment, and sets the number of workers to this count
pub record Staffs (moment count : ℕ) (P : History) (e : Entry) : Type 0 where
  pub moment_is : e.moment ≡ moment
  pub act_is : e.act ≡ Workers count
