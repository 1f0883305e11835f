-- The greatest length of a request so far, the tenants of the requests, and those whose heads are not read.
use Rattle.std.specs.Prelude.{ℕ, ◌<◌, ◌≤◌, ◌≡◌, ◌==◌, ◌||◌, ◌∷◌, ◌++◌, max, Bool, true, false, [], List, length, All}
use Rattle.std.specs.Prelude.{slice_index, Option, Some, None, unsigned_abs}
use Rattle.fq_model.specs.declared.config.Config.{Config}
use Rattle.fq_model.specs.declared.event.Act.{Act}
use Rattle.fq_model.specs.declared.event.Act.TheVariants.{Submit, Take, Report, Done, Weight, Withdraw}
use Rattle.fq_model.specs.History.{History, request_at, is_of_tenant, submits}
use Rattle.fq_model.specs.Keys.{HeadKeys}
use Rattle.fq_model.specs.Lead.{head_length}
use Rattle.tag_lead.specs.declared.spans.MeasuredLength.{MeasuredLength}

-- whose each request is, of all that are submitted
pub record TenantsAre (P : History) (xs : List ℕ) : Type 0 where
  pub sized : length xs ≡ submits P
  pub each : (r : ℕ) → r < submits P → is_of_tenant (slice_index xs r) (request_at P r) ≡ true

-- the request of the act, but for a Submit, is one of the first n
abbrev pub IsAmong : ℕ → Act → Type 0
IsAmong n (Take worker request estimate) = request < n
IsAmong n (Report worker request used) = request < n
IsAmong n (Done worker request cost) = request < n
IsAmong n (Withdraw request) = request < n
IsAmong n _ = Unit {0}

-- whose request or weight the act is about, where these are the tenants of the requests
abbrev pub tenant_of_act : List ℕ → Act → Option ℕ
tenant_of_act xs (Submit request tenant kind declared label) = Some tenant
tenant_of_act xs (Take worker request estimate) = Some (slice_index xs request)
tenant_of_act xs (Report worker request used) = Some (slice_index xs request)
tenant_of_act xs (Done worker request cost) = Some (slice_index xs request)
tenant_of_act xs (Weight tenant weight) = Some tenant
tenant_of_act xs (Withdraw request) = Some (slice_index xs request)
tenant_of_act xs _ = None

-- the tenants with that of a request that comes
abbrev pub tenants_with : List ℕ → Act → List ℕ
tenants_with xs (Submit request tenant kind declared label) = xs ++ tenant ∷ []
tenants_with xs _ = xs

-- the length that an act measures, or 0
abbrev pub charge_length : Option MeasuredLength → ℕ
charge_length None = 0
charge_length (Some x) = x.len

-- t is one of the tenants
abbrev pub is_among : List ℕ → ℕ → Bool
is_among [] t = false
is_among (u ∷ ts) t = (u == t) || is_among ts t

-- the greatest length of a head of these tenants, or 0
abbrev pub longest_among : Config → History → List ℕ → ℕ
longest_among C P [] = 0
longest_among C P (t ∷ ts) = max (head_length C P t) (longest_among C P ts)

-- the greatest length, with the heads of these tenants where the act takes a request
abbrev pub length_at : Config → History → Act → List ℕ → ℕ → ℕ
length_at C P (Take worker request estimate) ts len = max len (longest_among C P ts)
length_at C P _ ts len = len

-- the tenants whose heads are not read then
abbrev pub unread_at : Act → List ℕ → List ℕ
unread_at (Take worker request estimate) ts = []
unread_at _ ts = ts

-- with that of the act, after it
abbrev pub unread_with : List ℕ → Option ℕ → List ℕ
unread_with ts None = ts
unread_with ts (Some t) = ts ++ t ∷ []

-- the heads of all tenants but these are no longer than this
pub record AreUnread (C : Config) (P : History) (ts : List ℕ) (len : ℕ) : Type 0 where
  pub known : All (λ t. t < length C.weights) ts
  pub others : (t : ℕ) → t < length C.weights → is_among ts t ≡ false → head_length C P t ≤ len

-- the length of a head by its keys
abbrev pub length_by : Option HeadKeys → ℕ
length_by None = 0
length_by (Some k) = unsigned_abs k.len
