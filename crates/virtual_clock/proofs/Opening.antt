-- Which entries open a request of a tenant, close one, or change a weight or the number of workers, and the active
-- weight after them.
use Rattle.std.proofs.Common.{ℕ, ◌+◌, ◌<◌, ◌≤◌, ◌≡◌, ◌≢◌, Bool, true, false, cond, arith, refl, ap, sym, subst, ◌∙◌, ◌∷◌, length, Some}
use Rattle.std.proofs.lemmas.Bool.{eq-eqb, ne_eqb, eqb-true, false≢true}
use Rattle.fq_model.specs.declared.config.Config.{Config}
use Rattle.fq_model.specs.declared.event.Act.{Act}
use Rattle.fq_model.specs.declared.event.Act.TheVariants.{Submit, Take, Report, Done, Close, Weight, Workers, Withdraw}
use Rattle.fq_model.specs.declared.event.Entry.{Entry}
use Rattle.fq_model.specs.Limits.{InLimits, IsWithin, IsWeight}
use Rattle.fq_model.specs.History.{History, Request, request_at, is_of_tenant, is_end_of, weight_at, pool_at}
use Rattle.fq_model.specs.Time.{open_requests, is_active, active_weight}
use Rattle.fq_model.specs.Rules.{IsLegal, Fits}
use Rattle.fq_laws.specs.Words.{one_more, is_take}
use Rattle.fq_laws.specs.Steps.{Submits, Ends, Reweighs, Staffs}
use Rattle.fq_laws.proofs.Time.Clock.{SameWeight, active_weight_at}
use Rattle.fq_laws.proofs.Limits.{no_greater_weight}
use Rattle.fq_laws.proofs.History.Weights.{weight_step, pool_step}
use Rattle.fq_laws.proofs.History.Requests.{request_known}
use Rattle.fq_laws.proofs.History.Asked.{of_own, of_other}
use Rattle.fq_laws.proofs.Time.Open.{open_submit, open_done, open_withdraw, open_take, open_report, open_quiet, active_of_open, inactive_of_open}

-- tenant t has one open request more in Q than in P, and each other as many
pub record Opens (C : Config) (P Q : History) (t : ℕ) : Type 0 where
  pub known : t < length C.weights
  pub more : open_requests Q t ≡ open_requests P t + 1
  pub others_stay : (u : ℕ) → u ≢ t → SameWeight C P Q u
  pub weight_stays : weight_at C Q t ≡ weight_at C P t
  pub pool_stays : pool_at C Q ≡ pool_at C P

-- tenant t has one open request less in Q than in P, and each other as many
pub record Closes (C : Config) (P Q : History) (t : ℕ) : Type 0 where
  pub known : t < length C.weights
  pub less : open_requests P t ≡ open_requests Q t + 1
  pub others_stay : (u : ℕ) → u ≢ t → SameWeight C P Q u
  pub weight_stays : weight_at C Q t ≡ weight_at C P t
  pub pool_stays : pool_at C Q ≡ pool_at C P

-- ---- entries

-- an entry, once its act is known
with_act : (e : Entry) (a : Act) → e.act ≡ a → e ≡ record { who = e.who; moment = e.moment; act = a }
with_act e a is = ap (λ (x : Act). record { who = e.who; moment = e.moment; act = x }) is

-- a Submit opens one of its tenant
opens_submit : (C : Config) (P : History) (who m r t k d x : ℕ) → InLimits C → IsLegal C (one_more who m (Submit r t k d x) P) → Opens C P (one_more who m (Submit r t k d x) P) t
opens_submit C P who m r t k d x lim l = record {
  known = l.3.tenant_known;
  more = open_submit C P who m t r t k d x lim l.0 l.3.numbered ∙ ap (λ b. open_requests P t + cond b 1 0) (eq-eqb t t refl);
  others_stay = λ u other. record {
    open_same = open_submit C P who m u r t k d x lim l.0 l.3.numbered ∙ (ap (λ b. open_requests P u + cond b 1 0) (ne_eqb t u (λ e. other (sym e))) ∙ omega arith);
    weight_same = weight_step C P (record { who = who; moment = m; act = Submit r t k d x }) u;
  };
  weight_stays = weight_step C P (record { who = who; moment = m; act = Submit r t k d x }) t;
  pool_stays = pool_step C P (record { who = who; moment = m; act = Submit r t k d x });
}

pub submits_open : (C : Config) (P : History) (e : Entry) (m t : ℕ) → InLimits C → IsLegal C (e ∷ P) → Submits m t P e → Opens C P (e ∷ P) t
submits_open C P e m t lim l s =
    let entry = with_act e _ s.act_is in
    subst (λ (e : Entry). Opens C P (e ∷ P) t) (sym entry) (opens_submit C P e.who e.moment s.request t s.kind s.declared s.label lim (subst (λ (e : Entry). IsLegal C (e ∷ P)) entry l))

-- an entry with this act closes one of the tenant of request r
record EndsOne (C : Config) (P : History) (e : Entry) (r : ℕ) : Type 0 where
  less : (u : ℕ) → open_requests P u ≡ open_requests (e ∷ P) u + cond (is_of_tenant u (request_at P r)) 1 0
  weights_stay : (u : ℕ) → weight_at C (e ∷ P) u ≡ weight_at C P u
  pool_stays : pool_at C (e ∷ P) ≡ pool_at C P

closes_one : (C : Config) (P : History) (e : Entry) (r : ℕ) (q : Request) → IsLegal C P → request_at P r ≡ Some q → EndsOne C P e r → Closes C P (e ∷ P) q.tenant
closes_one C P e r q l asked x = record {
  known = (request_known C P r q l asked).tenant_known;
  less = x.less q.tenant ∙ ap (λ b. open_requests (e ∷ P) q.tenant + cond b 1 0) (of_own P q.tenant r q asked refl);
  others_stay = λ u other. record { open_same = same u other; weight_same = x.weights_stay u };
  weight_stays = x.weights_stay q.tenant;
  pool_stays = x.pool_stays;
}
  where
    same : (u : ℕ) → u ≢ q.tenant → open_requests (e ∷ P) u ≡ open_requests P u
    same u other = let k = x.less u ∙ ap (λ b. open_requests (e ∷ P) u + cond b 1 0) (of_other P u r q asked (λ e. other (sym e))) in omega (arith, k)

ends_at : (C : Config) (P : History) (who m r : ℕ) (a : Act) (q : Request) → InLimits C → IsLegal C (one_more who m a P) → is_end_of r a ≡ true → request_at P r ≡ Some q → Closes C P (one_more who m a P) q.tenant
ends_at C P who m r (Submit request tenant kind declared label) q lim l h asked = absurd (false≢true h)
ends_at C P who m r (Take worker request estimate) q lim l h asked = absurd (false≢true h)
ends_at C P who m r (Report worker request used) q lim l h asked = absurd (false≢true h)
ends_at C P who m r (Done worker request cost) q lim l h asked =
    let e : Entry = record { who = who; moment = m; act = Done worker request cost } in
    closes_one C P e request q l.0 (rw (eqb-true request r h) asked) (record { less = λ u. open_done C P who m u worker request cost lim l.0 l.3; weights_stay = weight_step C P e; pool_stays = pool_step C P e })
ends_at C P who m r (Withdraw request) q lim l h asked =
    let e : Entry = record { who = who; moment = m; act = Withdraw request } in
    closes_one C P e request q l.0 (rw (eqb-true request r h) asked) (record { less = λ u. open_withdraw C P who m u request lim l.0 l.3; weights_stay = weight_step C P e; pool_stays = pool_step C P e })
ends_at C P who m r Close q lim l h asked = absurd (false≢true h)
ends_at C P who m r (Weight tenant weight) q lim l h asked = absurd (false≢true h)
ends_at C P who m r (Workers count) q lim l h asked = absurd (false≢true h)

pub ends_close : (C : Config) (P : History) (e : Entry) (m t : ℕ) → InLimits C → IsLegal C (e ∷ P) → Ends m t P e → Closes C P (e ∷ P) t
ends_close C P e m t lim l s = subst (Closes C P (e ∷ P)) s.tenant_is (ends_at C P e.who e.moment s.request e.act s.asked lim l s.ends s.asked_is)

-- such an act is no Take
pub end_no_take : (r : ℕ) (a : Act) → is_end_of r a ≡ true → is_take a ≡ false
end_no_take r (Take worker request estimate) h = absurd (false≢true h)
end_no_take r _ h = refl

-- the act opens no request and closes none, and changes no weight and no number of workers
abbrev pub passes : Act → Bool
passes (Take worker request estimate) = true
passes (Report worker request used) = true
passes Close = true
passes _ = false

-- the acts that pass leave the open requests, the weights and the number of workers
pub record Passed (C : Config) (P Q : History) : Type 0 where
  pub all_stay : (t : ℕ) → SameWeight C P Q t
  pub pool_stays : pool_at C Q ≡ pool_at C P

passes_at : (C : Config) (P : History) (who m : ℕ) (a : Act) → passes a ≡ true → Passed C P (one_more who m a P)
unfolding weight_at pool_at
passes_at C P who m (Submit request tenant kind declared label) h = absurd (cc)
passes_at C P who m (Take worker request estimate) h = record { all_stay = λ t. record { open_same = open_take P who m t worker request estimate; weight_same = refl }; pool_stays = refl }
passes_at C P who m (Report worker request used) h = record { all_stay = λ t. record { open_same = open_report P who m t worker request used; weight_same = refl }; pool_stays = refl }
passes_at C P who m (Done worker request cost) h = absurd (cc)
passes_at C P who m Close h = record { all_stay = λ t. record { open_same = open_quiet P who m t Close refl; weight_same = refl }; pool_stays = refl }
passes_at C P who m (Weight tenant weight) h = absurd (cc)
passes_at C P who m (Workers count) h = absurd (cc)
passes_at C P who m (Withdraw request) h = absurd (cc)

pub passes_leave : (C : Config) (P : History) (e : Entry) → passes e.act ≡ true → Passed C P (e ∷ P)
passes_leave C P e h = passes_at C P e.who e.moment e.act h

-- a Weight leaves the open requests and the number of workers, and gives its tenant the weight
pub record Reweighed (C : Config) (P Q : History) (t w : ℕ) : Type 0 where
  pub known : t < length C.weights
  pub in_range : IsWeight w
  pub open_stay : (u : ℕ) → open_requests Q u ≡ open_requests P u
  pub others_stay : (u : ℕ) → u ≢ t → weight_at C Q u ≡ weight_at C P u
  pub weight_is : weight_at C Q t ≡ w
  pub pool_stays : pool_at C Q ≡ pool_at C P

reweighs_at : (C : Config) (P : History) (who m t w : ℕ) → Fits C P m (Weight t w) → Reweighed C P (one_more who m (Weight t w) P) t w
unfolding weight_at pool_at
reweighs_at C P who m t w f = record {
  known = f.tenant_known;
  in_range = (f.weight_in_range.0, omega (arith, f.weight_in_range.1, no_greater_weight C.limits));
  open_stay = λ u. open_quiet P who m u (Weight t w) refl;
  others_stay = λ u other. rw (ne_eqb t u (λ e. other (sym e))) refl;
  weight_is = rw (eq-eqb t t refl) refl;
  pool_stays = refl;
}

pub reweighs : (C : Config) (P : History) (e : Entry) (m t w : ℕ) → IsLegal C (e ∷ P) → Reweighs m t w P e → Reweighed C P (e ∷ P) t w
reweighs C P e m t w l s =
    let entry = with_act e _ s.act_is in
    subst (λ (e : Entry). Reweighed C P (e ∷ P) t w) (sym entry) (reweighs_at C P e.who e.moment t w (subst (Fits C P e.moment) s.act_is l.3))

-- a Workers leaves the open requests and the weights, and makes the number of workers its own
pub record Staffed (C : Config) (P Q : History) (n : ℕ) : Type 0 where
  pub in_range : IsWithin 1 C.workers n
  pub all_stay : (t : ℕ) → SameWeight C P Q t
  pub pool_is : pool_at C Q ≡ n

staffs_at : (C : Config) (P : History) (who m n : ℕ) → Fits C P m (Workers n) → Staffed C P (one_more who m (Workers n) P) n
unfolding weight_at pool_at
staffs_at C P who m n f = record {
  in_range = f.count_in_range;
  all_stay = λ t. record { open_same = open_quiet P who m t (Workers n) refl; weight_same = refl };
  pool_is = refl;
}

pub staffs : (C : Config) (P : History) (e : Entry) (m n : ℕ) → IsLegal C (e ∷ P) → Staffs m n P e → Staffed C P (e ∷ P) n
staffs C P e m n l s =
    let entry = with_act e _ s.act_is in
    subst (λ (e : Entry). Staffed C P (e ∷ P) n) (sym entry) (staffs_at C P e.who e.moment n (subst (Fits C P e.moment) s.act_is l.3))

-- ---- the active weight

-- the first open request of a tenant adds its weight
pub weight_woken : (C : Config) (P : History) (e : Entry) (t : ℕ) → Opens C P (e ∷ P) t → open_requests P t ≡ 0 → active_weight C (e ∷ P) ≡ active_weight C P + weight_at C P t
weight_woken C P e t o none =
    let on : is_active (e ∷ P) t ≡ true = active_of_open (e ∷ P) t (omega (arith, o.more)) in
    let k : active_weight C (e ∷ P) + 0 ≡ active_weight C P + weight_at C P t = rw (inactive_of_open P t none, on, o.weight_stays) at (active_weight_at C P e t o.known o.others_stay) in
    omega arith

-- without the last its weight is taken away
pub weight_asleep : (C : Config) (P : History) (e : Entry) (t : ℕ) → Closes C P (e ∷ P) t → open_requests P t ≡ 1 → active_weight C (e ∷ P) + weight_at C P t ≡ active_weight C P
weight_asleep C P e t c one =
    let on : is_active P t ≡ true = active_of_open P t (omega (arith, one)) in
    let off : is_active (e ∷ P) t ≡ false = inactive_of_open (e ∷ P) t (omega (arith, one, c.less)) in
    let k : active_weight C (e ∷ P) + weight_at C P t ≡ active_weight C P + 0 = rw (on, off) at (active_weight_at C P e t c.known c.others_stay) in
    omega arith

-- and where it has one before and after, the weight stays
pub weight_stays_in : (C : Config) (P : History) (e : Entry) (t : ℕ) → t < length C.weights → weight_at C (e ∷ P) t ≡ weight_at C P t → ((u : ℕ) → u ≢ t → SameWeight C P (e ∷ P) u) → 1 ≤ open_requests P t → 1 ≤ open_requests (e ∷ P) t → active_weight C (e ∷ P) ≡ active_weight C P
weight_stays_in C P e t known same others was is =
    let k : active_weight C (e ∷ P) + weight_at C P t ≡ active_weight C P + weight_at C P t = rw (active_of_open P t was, active_of_open (e ∷ P) t is, same) at (active_weight_at C P e t known others) in
    omega arith

-- a tenant that is active trades its weight for the new one, and one that is not leaves the active weight
others_weigh : (C : Config) (P : History) (e : Entry) (t w : ℕ) → Reweighed C P (e ∷ P) t w → (u : ℕ) → u ≢ t → SameWeight C P (e ∷ P) u
others_weigh C P e t w r u other = record { open_same = r.open_stay u; weight_same = r.others_stay u other }

pub weight_traded : (C : Config) (P : History) (e : Entry) (t w : ℕ) → Reweighed C P (e ∷ P) t w → 1 ≤ open_requests P t → active_weight C (e ∷ P) + weight_at C P t ≡ active_weight C P + w
weight_traded C P e t w r some =
    let on : is_active P t ≡ true = active_of_open P t some in
    let still : is_active (e ∷ P) t ≡ true = active_of_open (e ∷ P) t (omega (arith, some, r.open_stay t)) in
    rw (on, still, r.weight_is) at (active_weight_at C P e t r.known (others_weigh C P e t w r))

pub weight_untouched : (C : Config) (P : History) (e : Entry) (t w : ℕ) → Reweighed C P (e ∷ P) t w → open_requests P t ≡ 0 → active_weight C (e ∷ P) ≡ active_weight C P
weight_untouched C P e t w r none =
    let k : active_weight C (e ∷ P) + 0 ≡ active_weight C P + 0 = rw (inactive_of_open P t none, inactive_of_open (e ∷ P) t (omega (arith, none, r.open_stay t))) at (active_weight_at C P e t r.known (others_weigh C P e t w r)) in
    omega arith
