-- The tracker beside a journal at one entry more.
use Rattle.std.proofs.Common.{true, ℕ, ◌+◌, ◌<◌, ◌≤◌, ◌≡◌, ◌≢◌, ◌^◌, arith, refl, sym, ap, subst, ◌∙◌, inl, inr, ◌⊎◌, [], ◌∷◌, ◌++◌, length, drop, Option, Some, None, ℤ, pos, ◌+ℤ◌, ◌≤ℤ◌}
use Rattle.std.specs.Prelude.{slice_get, is_none, if◌then◌else◌, IfSome, IfNone, IsSome}
use Rattle.std.proofs.lemmas.Bool.{eq-eqb, ne_eqb}
use Rattle.std.proofs.lemmas.Int.{ints}
use mir.Val.{to_z, of_z}
use Rattle.std.specs.Int.{w128}
use Rattle.vt_fixed.specs.Rounding.{length_of}
use Rattle.fq_model.specs.declared.config.Config.{Config}
use Rattle.fq_model.specs.declared.config.Policy.{Policy}
use Rattle.fq_model.specs.declared.config.Policy.TheVariants.{Wfq, Wf2q, Msf2q, TwoDfq, TwoDfqPlus}
use Rattle.fq_model.specs.declared.event.Entry.{Entry}
use Rattle.fq_model.specs.declared.event.Act.TheVariants.{Take, Report, Done, Close, Weight, Workers, Withdraw}
use Rattle.fq_model.specs.declared.event.Act.{Act}
use Rattle.vt_fixed.specs.declared.limits.TheConstants.{GREATEST_COST, GREATEST_MOMENT}
use Rattle.fq_model.specs.History.{History, Request, request_at, head, waiting, weight_at, pool_at}
use Rattle.fq_model.specs.Time.{last_moment, virtual_idle_time}
use Rattle.fq_model.specs.Pace.{virtual_time}
use Rattle.fq_model.specs.Limits.{InLimits}
use Rattle.fq_model.specs.Charge.{virtual_charge, completed, estimate_at}
use Rattle.fq_model.specs.Keys.{HeadKeys, head_keys as head_keys_of, keys_at, start, start_for, tag, IsChoice, IsChoiceAt}
use Rattle.fq_model.specs.Rules.{IsLegal, IsChosen, take_refusal}
use Rattle.fq_laws.specs.Words.{one_more, is_quiet}
use Rattle.fq_laws.specs.Steps.{Submits, Passes, Ends}
use Rattle.fq_laws.proofs.Charge.Estimates.{estimate_range}
use Rattle.fq_laws.proofs.History.Asked.{of_other}
use Rattle.fq_laws.proofs.History.Requests.{request_known}
use Rattle.fq_laws.proofs.Keys.Choices.{head_keys_are, no_head_no_keys, keys_tenant_known}
use Rattle.fq_laws.proofs.Keys.Tags.{start_within, tag_within}
use Rattle.fq_laws.proofs.Rules.Limits.{last_moment_small}
use Rattle.fq_laws.proofs.Rules.Refusals.{take_free}
use Rattle.fq_laws.proofs.Rules.Takes.{keys_head, choice_head}
use Rattle.fq_laws.proofs.Keys.Pace.{virtual_time_step}
use Rattle.fq_laws.proofs.History.Weights.{pool_step}
use Rattle.charge_book.specs.declared.row.RunRow.{RunRow}
use Rattle.charge_book.specs.Book.{row_of_run, begun, reported, report_change, finished, finish_change}
use Rattle.charge_book.proofs.Steps.{book_submit, book_withdraw, book_quiet}
use Rattle.tag_rules.proofs.AccountSteps.{accounts_withdraw, accounts_quiet, tag_is_sum}
use Rattle.tag_rules.specs.Tables.{ChooserView, Setting, setting_at, with_workers, resized, Has, NoneHas, turn_of, IsTableChoice, asked_at}
use Rattle.tag_rules.specs.Accounts.{AccountsView, AccountsAre, charge_of, base_of, raised, charged}
use Rattle.virtual_clock.specs.declared.times.Times.{Times}
use Rattle.virtual_clock.specs.Histories.{TimesAre, TimesAt, ComesTo, TakesChoice, IsTimeOf, IsWeightOf}
use Rattle.waiting_lists.specs.declared.item.Item.{Item}
use Rattle.waiting_lists.specs.Lists as lists
use Rattle.sched_state.specs.declared.tracker.Tracker.{Tracker}
use Rattle.sched_state.specs.Costs.{CostsAre}
use Rattle.sched_state.specs.Tracker.{Mirrors, Tracks, TracksBut, TracksSomeBut, submit_act}
use Rattle.sched_state.proofs.ListLemmas.{item_head, no_item_head, first_is, lists_report, lists_done, lists_quiet, pushed, taken, removed_asked, withdrawn}
use Rattle.sched_state.proofs.CostLemmas.{costs_stay, completed_quiet}
use Rattle.sched_state.proofs.ChargeLemmas.{accounts_submit, step_accounts, BeginStep, ReportStep, FinishStep}
use Rattle.sched_state.proofs.KeyLemmas.{keys_of_others, setting_stays, latest_at, choice_of, nothing_waits}

-- ---- where a tenant starts

start_by : (C : Config) (P : History) (m t : ℕ) (p : Policy) → p ≡ C.policy → start C P m t ≡ start_for p (tag C P t) (virtual_charge C P t + virtual_idle_time C P m t)
unfolding start
start_by C P m t p e = rw e refl

-- under msf2q by its idle time, and else at its tag
pub start_msf2q : (C : Config) (P : History) (m t : ℕ) (p : Policy) → p ≡ C.policy → p ≡ Msf2q → start C P m t ≡ virtual_charge C P t + virtual_idle_time C P m t
start_msf2q C P m t p e is = start_by C P m t Msf2q (sym is ∙ e)

pub start_tag : (C : Config) (P : History) (m t : ℕ) (p : Policy) → p ≡ C.policy → (p ≡ Wfq) ⊎ ((p ≡ Wf2q) ⊎ ((p ≡ TwoDfq) ⊎ (p ≡ TwoDfqPlus))) → start C P m t ≡ tag C P t
start_tag C P m t p e (inl is) = start_by C P m t Wfq (sym is ∙ e)
start_tag C P m t p e (inr (inl is)) = start_by C P m t Wf2q (sym is ∙ e)
start_tag C P m t p e (inr (inr (inl is))) = start_by C P m t TwoDfq (sym is ∙ e)
start_tag C P m t p e (inr (inr (inr is))) = start_by C P m t TwoDfqPlus (sym is ∙ e)

-- msf2q is not 2dfq+
pub not_plus : (q p : Policy) → p ≡ q → p ≡ Msf2q → q ≢ TwoDfqPlus
not_plus q p e is = λ plus. (let both : Msf2q ≡ TwoDfqPlus = sym is ∙ (e ∙ plus) in absurd (cc))

-- a natural number as it is handed on
pub handed_on : (z : ℤ) (n : ℕ) → z ≡ pos n → n ≤ 10 ^ 25 → to_z w128 (of_z w128 z) ≡ pos n
handed_on z n e low = omega (arith, ints, e, low)

-- where a tenant starts by its tag, as it is handed on
pub tag_handed_on : (C : Config) (P : History) (a : AccountsView) (t : ℕ) (z : ℤ) → InLimits C → IsLegal C P → t < length C.weights → AccountsAre C P a → z ≡ charge_of a t +ℤ base_of a t → to_z w128 (of_z w128 z) ≡ pos (tag C P t)
tag_handed_on C P a t z lim l known are is = omega (arith, ints, is, tag_is_sum C P a t known are, tag_within C P t lim l)

module _ {J X : Type 0} (label : J → ℕ) (C : Config) (P : History) (t : ℕ) (k : Tracker J X) (m : Mirrors label C P k) (known : t < length C.weights) where
  pub start_low : start C P (last_moment P) t ≤ 10 ^ 25
  start_low = start_within C P (last_moment P) t m.limits m.legal (omega arith) (last_moment_small C P m.legal)

  -- ---- the head of a list

  pub head_none : slice_get (lists.list_of k.lists t) 0 ≡ None → keys_at C P (last_moment P) t ≡ None
  head_none none = no_head_no_keys C P (last_moment P) t (no_item_head label C P t k.lists m.limits m.legal known m.lists_are none)

  module _ (i : Item J) (top : slice_get (lists.list_of k.lists t) 0 ≡ Some i) where
    asked : Request
    asked = record { tenant = t; kind = i.kind; declared = i.declared; label = label i.job }

    pub is_head : head P t ≡ Some i.request
    is_head = (item_head label C P t i k.lists m.limits m.legal known m.lists_are top).0

    pub was_asked : request_at P i.request ≡ Some (record { tenant = t; kind = i.kind; declared = i.declared; label = label i.job })
    was_asked = (item_head label C P t i k.lists m.limits m.legal known m.lists_are top).1.asked

    pub kind_known : i.kind < C.kinds
    kind_known = (request_known C P i.request (record { tenant = t; kind = i.kind; declared = i.declared; label = label i.job }) m.legal was_asked).kind_known

    -- an estimate of it is in range
    pub estimate_low : (estimate : ℕ) → estimate ≡ estimate_at C P t i.kind i.declared → estimate ≤ GREATEST_COST
    estimate_low estimate e = rw e (estimate_range C P i.request (record { tenant = t; kind = i.kind; declared = i.declared; label = label i.job }) m.limits m.legal was_asked).1

    -- and these are its keys
    pub head_keys : (z : ℤ) (estimate weight : ℕ) (found : HeadKeys) → z ≡ pos (start C P (last_moment P) t) → estimate ≡ estimate_at C P t i.kind i.declared → weight ≡ weight_at C P t → found ≡ record { start = to_z w128 (of_z w128 z); len = pos (length_of estimate weight); request = i.request } → ◌≡◌ {A = Option HeadKeys} (Some found) (keys_at C P (last_moment P) t)
    head_keys z estimate weight found starts costs weighs is = ap (λ (x : HeadKeys). Some x) (is ∙ rw (handed_on z (start C P (last_moment P) t) starts start_low, costs, weighs) refl) ∙ sym (head_keys_are C P (last_moment P) t i.request (record { tenant = t; kind = i.kind; declared = i.declared; label = label i.job }) is_head was_asked)

-- a tracker with the keys of all tenants has those of all but one
pub all_but : {J X : Type 0} (label : J → ℕ) (seen : X → ChooserView) (C : Config) (P : History) (t : ℕ) (k : Tracker J X) → t < length C.weights → Tracks label seen C P k → TracksBut label seen t C P k
all_but label seen C P t k known all =
    let keys = all.chooser_is in
    record {
      mirrors = all.mirrors;
      tenant_known = known;
      chooser_is = record { setting_is = keys.setting_is; sized = keys.sized; keys_are = λ u b ne. keys.keys_are u b tt; latest_low = keys.latest_low };
    }

-- ---- after an entry that concerns one tenant

module _ {J X : Type 0} (label : J → ℕ) (seen : X → ChooserView) (C : Config) (P : History) (k n : Tracker J X) (old : Tracks label seen C P k) where
  -- a Submit of tenant t
  pub submit_but : (who m t : ℕ) (i : Item J) (v : ℤ) → IsLegal C (one_more who m (submit_act label t i) P) → ((e : Entry) → Submits m t P e → IsLegal C (e ∷ P) → TimesAre C (e ∷ P) n.times) → IsTimeOf n.times v → n.accounts ≡ (if is_none (slice_get (lists.list_of k.lists t) 0) then raised k.accounts t v else k.accounts) → n.lists ≡ lists.with_list k.lists t (lists.list_of k.lists t ++ i ∷ []) → n.book ≡ k.book → n.costs ≡ k.costs → n.chooser ≡ k.chooser → TracksBut label seen t C (one_more who m (submit_act label t i) P) n
  submit_but who m t i v l follow shows accounts listed books costs chooses =
      let e : Entry = record { who = who; moment = m; act = submit_act label t i } in
      let o = old.mirrors in
      let times : TimesAre C (e ∷ P) n.times = follow e (record { request = i.request; kind = i.kind; declared = i.declared; label = label i.job; moment_is = refl; act_is = refl }) l in
      let at : v ≡ pos (virtual_time C P m) = shows C (e ∷ P) m times ∙ ap pos (virtual_time_step C P e refl) in
      let first : is_none (slice_get (lists.list_of k.lists t) 0) ≡ is_none (head P t) = first_is label C P t k.lists o.limits o.legal l.3.tenant_known o.lists_are in
      let same : n.accounts ≡ (if is_none (head P t) then raised k.accounts t (pos (virtual_time C P m)) else k.accounts) = accounts ∙ rw (first, at) refl in
      record {
        mirrors = record {
          limits = o.limits;
          legal = l;
          lists_are = (pushed label C P who m t (label i.job) i k.lists n.lists o.limits l refl o.lists_are listed).lists_are;
          book_is = rw books (book_submit C P k.book who m i.request t i.kind i.declared (label i.job) l o.book_is);
          accounts_are = rw same (accounts_submit C P k.accounts who m i.request t i.kind i.declared (label i.job) (head P t) o.limits l refl o.accounts_are);
          costs_are = rw costs (costs_stay C P (e ∷ P) k.costs o.costs_are refl);
          times_are = times;
        };
        tenant_known = l.3.tenant_known;
        chooser_is = rw chooses (keys_of_others C P e (seen k.chooser) (seen k.chooser) (λ u. u ≢ t) o.limits l (λ u ne. ne_eqb t u (λ x. ne (sym x))) old.chooser_is (setting_stays C P e (seen k.chooser) (pool_step C P e) old.chooser_is) refl (latest_at C P m (seen k.chooser) l.1 old.chooser_is));
      }

  -- a Report of a use of the row's request
  pub report_but : (who m w used : ℕ) (row : RunRow) (change : ℤ) → ReportStep C P k.book k.accounts who m w used row → ((e : Entry) → Passes m P e → IsLegal C (e ∷ P) → TimesAre C (e ∷ P) n.times) → change ≡ report_change k.book w used → n.book ≡ reported k.book w used → n.accounts ≡ charged k.accounts row.tenant (to_z w128 (of_z w128 change)) → n.lists ≡ k.lists → n.costs ≡ k.costs → n.chooser ≡ k.chooser → TracksBut label seen row.tenant C (one_more who m (Report w row.request used) P) n
  report_but who m w used row change x follow changed books accounts listed costs chooses =
      let e : Entry = record { who = who; moment = m; act = Report w row.request used } in
      let o = old.mirrors in
      record {
        mirrors = record {
          limits = o.limits;
          legal = x.step.legal;
          lists_are = rw listed (lists_report label C P who m w row.request used k.lists x.step.legal o.lists_are);
          book_is = rw books x.step.follows.book_is;
          accounts_are = step_accounts C P e k.accounts row.tenant _ _ change x.step changed n.accounts refl accounts;
          costs_are = rw costs (costs_stay C P (e ∷ P) k.costs o.costs_are refl);
          times_are = follow e (record { moment_is = refl; passes = refl }) x.step.legal;
        };
        tenant_known = x.step.tenant_known;
        chooser_is = rw chooses (keys_of_others C P e (seen k.chooser) (seen k.chooser) (λ u. u ≢ row.tenant) o.limits x.step.legal x.others old.chooser_is (setting_stays C P e (seen k.chooser) (pool_step C P e) old.chooser_is) refl (latest_at C P m (seen k.chooser) x.step.legal.1 old.chooser_is));
      }

  -- a Done of the row's request
  pub done_but : (who m w cost : ℕ) (row : RunRow) (change : ℤ) → FinishStep C P k.book k.accounts who m w cost row → TimesAre C (one_more who m (Done w row.request cost) P) n.times → change ≡ finish_change k.book w cost → n.book ≡ finished k.book w cost → n.accounts ≡ charged k.accounts row.tenant (to_z w128 (of_z w128 change)) → CostsAre C (one_more who m (Done w row.request cost) P) n.costs → n.lists ≡ k.lists → n.chooser ≡ k.chooser → TracksBut label seen row.tenant C (one_more who m (Done w row.request cost) P) n
  done_but who m w cost row change x times changed books accounts learned listed chooses =
      let e : Entry = record { who = who; moment = m; act = Done w row.request cost } in
      let o = old.mirrors in
      record {
        mirrors = record {
          limits = o.limits;
          legal = x.step.legal;
          lists_are = rw listed (lists_done label C P who m w row.request cost k.lists x.step.legal o.lists_are);
          book_is = rw books x.step.follows.book_is;
          accounts_are = step_accounts C P e k.accounts row.tenant _ _ change x.step changed n.accounts refl accounts;
          costs_are = learned;
          times_are = times;
        };
        tenant_known = x.step.tenant_known;
        chooser_is = rw chooses (keys_of_others C P e (seen k.chooser) (seen k.chooser) (λ u. u ≢ row.tenant) o.limits x.step.legal x.others old.chooser_is (setting_stays C P e (seen k.chooser) (pool_step C P e) old.chooser_is) refl (latest_at C P m (seen k.chooser) x.step.legal.1 old.chooser_is));
      }

  -- a Take of the item i of tenant t
  pub take_but : (who m w t estimate weight : ℕ) (i : Item J) (v change : ℤ) → BeginStep C P k.book k.accounts who m w i.request t i.kind estimate weight → slice_get (lists.list_of k.lists t) 0 ≡ Some i → TimesAre C (one_more who m (Take w i.request estimate) P) n.times → v ≡ pos (virtual_time C P m) → change ≡ pos (length_of estimate weight) → n.book ≡ begun k.book w (row_of_run i.request t i.kind weight estimate) → n.accounts ≡ charged k.accounts t (to_z w128 (of_z w128 change)) → n.lists ≡ lists.with_list k.lists t (drop 1 (lists.list_of k.lists t)) → n.costs ≡ k.costs → seen n.chooser ≡ asked_at (seen k.chooser) v → TracksBut label seen t C (one_more who m (Take w i.request estimate) P) n
  take_but who m w t estimate weight i v change x top times at changed books accounts listed costs chooses =
      let e : Entry = record { who = who; moment = m; act = Take w i.request estimate } in
      let o = old.mirrors in
      record {
        mirrors = record {
          limits = o.limits;
          legal = x.step.legal;
          lists_are = (taken label C P who m w estimate t i k.lists n.lists o.limits x.step.legal x.step.tenant_known o.lists_are top listed).lists_are;
          book_is = rw books x.step.follows.book_is;
          accounts_are = step_accounts C P e k.accounts t _ _ change x.step changed n.accounts refl accounts;
          costs_are = rw costs (costs_stay C P (e ∷ P) k.costs o.costs_are refl);
          times_are = times;
        };
        tenant_known = x.step.tenant_known;
        chooser_is = keys_of_others C P e (seen k.chooser) (seen n.chooser) (λ u. u ≢ t) o.limits x.step.legal x.others old.chooser_is (ap (λ (y : ChooserView). y.setting) chooses ∙ setting_stays C P e (seen k.chooser) (pool_step C P e) old.chooser_is) (ap (λ (y : ChooserView). y.table) chooses) (rw chooses (omega (arith, ints, at)));
      }

  -- a Withdraw of the item i of tenant t
  pub withdraw_ends : (who m t r : ℕ) (i : Item J) (left : lists.ListsView J) → lists.IsRemoved k.lists r t i left → Ends m t P (record { who = who; moment = m; act = Withdraw r })
  withdraw_ends who m t r i left x = record { request = r; asked = _; moment_is = refl; ends = eq-eqb r r refl; asked_is = removed_asked label C P r t i k.lists left old.mirrors.lists_are x; tenant_is = refl }

  pub withdraw_but : (who m t r : ℕ) (i : Item J) → IsLegal C (one_more who m (Withdraw r) P) → lists.IsRemoved k.lists r t i n.lists → TimesAre C (one_more who m (Withdraw r) P) n.times → n.book ≡ k.book → n.accounts ≡ k.accounts → n.costs ≡ k.costs → n.chooser ≡ k.chooser → TracksBut label seen t C (one_more who m (Withdraw r) P) n
  withdraw_but who m t r i l x times books accounts costs chooses =
      let e : Entry = record { who = who; moment = m; act = Withdraw r } in
      let o = old.mirrors in
      let asked = removed_asked label C P r t i k.lists n.lists o.lists_are x in
      record {
        mirrors = record {
          limits = o.limits;
          legal = l;
          lists_are = (withdrawn label C P who m r t i k.lists n.lists o.limits l o.lists_are x).lists_are;
          book_is = rw books (book_withdraw C P k.book who m r o.book_is);
          accounts_are = rw accounts (accounts_withdraw C P k.accounts who m r o.accounts_are);
          costs_are = rw costs (costs_stay C P (e ∷ P) k.costs o.costs_are refl);
          times_are = times;
        };
        tenant_known = omega (arith, x.known, o.lists_are.tenants);
        chooser_is = rw chooses (keys_of_others C P e (seen k.chooser) (seen k.chooser) (λ u. u ≢ t) o.limits l (λ u ne. of_other P u r _ asked (λ z. ne (sym z))) old.chooser_is (setting_stays C P e (seen k.chooser) (pool_step C P e) old.chooser_is) refl (latest_at C P m (seen k.chooser) l.1 old.chooser_is));
      }

-- ---- after an entry that touches no request

module _ {J X : Type 0} (label : J → ℕ) (C : Config) (P : History) (k n : Tracker J X) (old : Mirrors label C P k) where
  pub mirrors_quiet : (who m : ℕ) (a : Act) → is_quiet a ≡ true → IsLegal C (one_more who m a P) → TimesAre C (one_more who m a P) n.times → n.lists ≡ k.lists → n.book ≡ k.book → n.accounts ≡ k.accounts → n.costs ≡ k.costs → Mirrors label C (one_more who m a P) n
  mirrors_quiet who m a q l times listed books accounts costs = record {
    limits = old.limits;
    legal = l;
    lists_are = rw listed (lists_quiet label C P who m a k.lists q l old.lists_are);
    book_is = rw books (book_quiet C P k.book who m a q old.book_is);
    accounts_are = rw accounts (accounts_quiet C P k.accounts who m a q old.accounts_are);
    costs_are = rw costs (costs_stay C P (one_more who m a P) k.costs old.costs_are (completed_quiet P a (completed P) q));
    times_are = times;
  }

-- a Weight may change the keys of its tenant
pub reweigh_but : {J X : Type 0} (label : J → ℕ) (seen : X → ChooserView) (C : Config) (P : History) (k n : Tracker J X) (who m t w : ℕ) → Tracks label seen C P k → IsLegal C (one_more who m (Weight t w) P) → TimesAre C (one_more who m (Weight t w) P) n.times → n.lists ≡ k.lists → n.book ≡ k.book → n.accounts ≡ k.accounts → n.costs ≡ k.costs → n.chooser ≡ k.chooser → TracksBut label seen t C (one_more who m (Weight t w) P) n
reweigh_but label seen C P k n who m t w old l times listed books accounts costs chooses =
    let e : Entry = record { who = who; moment = m; act = Weight t w } in
    record {
      mirrors = mirrors_quiet label C P k n old.mirrors who m (Weight t w) refl l times listed books accounts costs;
      tenant_known = l.3.tenant_known;
      chooser_is = rw chooses (keys_of_others C P e (seen k.chooser) (seen k.chooser) (λ u. u ≢ t) old.mirrors.limits l (λ u ne. ne_eqb t u (λ x. ne (sym x))) old.chooser_is (setting_stays C P e (seen k.chooser) (pool_step C P e) old.chooser_is) refl (latest_at C P m (seen k.chooser) l.1 old.chooser_is));
    }

-- a Close changes no keys
pub close_tracks : {J X : Type 0} (label : J → ℕ) (seen : X → ChooserView) (C : Config) (P : History) (k n : Tracker J X) (who m : ℕ) → Tracks label seen C P k → IsLegal C (one_more who m Close P) → TimesAre C (one_more who m Close P) n.times → n.lists ≡ k.lists → n.book ≡ k.book → n.accounts ≡ k.accounts → n.costs ≡ k.costs → n.chooser ≡ k.chooser → Tracks label seen C (one_more who m Close P) n
close_tracks label seen C P k n who m old l times listed books accounts costs chooses =
    let e : Entry = record { who = who; moment = m; act = Close } in
    record {
      mirrors = mirrors_quiet label C P k n old.mirrors who m Close refl l times listed books accounts costs;
      chooser_is = rw chooses (keys_of_others C P e (seen k.chooser) (seen k.chooser) (λ t. Unit {0}) old.mirrors.limits l (λ u among. refl) old.chooser_is (setting_stays C P e (seen k.chooser) (pool_step C P e) old.chooser_is) refl (latest_at C P m (seen k.chooser) l.1 old.chooser_is));
    }

-- nor does a Workers, which changes the setting
pub workers_tracks : {J X : Type 0} (label : J → ℕ) (seen : X → ChooserView) (C : Config) (P : History) (k n : Tracker J X) (who m count : ℕ) → Tracks label seen C P k → IsLegal C (one_more who m (Workers count) P) → TimesAre C (one_more who m (Workers count) P) n.times → n.lists ≡ k.lists → n.book ≡ k.book → n.accounts ≡ k.accounts → n.costs ≡ k.costs → seen n.chooser ≡ resized (seen k.chooser) count → Tracks label seen C (one_more who m (Workers count) P) n
workers_tracks label seen C P k n who m count old l times listed books accounts costs chooses =
    let e : Entry = record { who = who; moment = m; act = Workers count } in
    record {
      mirrors = mirrors_quiet label C P k n old.mirrors who m (Workers count) refl l times listed books accounts costs;
      chooser_is = rw chooses (keys_of_others C P e (seen k.chooser) (resized (seen k.chooser) count) (λ t. Unit {0}) old.mirrors.limits l (λ u among. refl) old.chooser_is (ap (λ (s : Setting). with_workers s count) old.chooser_is.setting_is ∙ ap (setting_at C) (sym (pool_step C P e))) refl (latest_at C P m (seen k.chooser) l.1 old.chooser_is));
    }

-- ---- the request that a worker takes

module _ {J X : Type 0} (label : J → ℕ) (seen : X → ChooserView) (C : Config) (P : History) (m w : ℕ) (k : Tracker J X) (old : Tracks label seen C P k) (later : last_moment P ≤ m) (in_range : m ≤ GREATEST_MOMENT) (free : take_refusal C P w ≡ None) (pooled : w < pool_at C P) (some : waiting P ≢ 0) where
  -- the times, after they have come to the moment
  pub there : (times : Times) → ComesTo m k.times times → TimesAt C P m times
  there times comes = comes C P old.mirrors.limits old.mirrors.legal old.mirrors.times_are

  -- virtual time there, as it is handed on
  pub time_at : (times : Times) (v : ℤ) → ComesTo m k.times times → IsTimeOf times v → pos 0 ≤ℤ v → v ≤ℤ pos (10 ^ 25) → to_z w128 (of_z w128 v) ≡ pos (virtual_time C P m)
  time_at times v passes shows low high =
      let at : v ≡ pos (virtual_time C P m) = shows C P m (there times passes) in
      omega (arith, ints, at, low, high)

  -- and the weight of a tenant there
  pub weighed_there : (times : Times) (t : ℕ) → ComesTo m k.times times → t < length C.weights → t < length times.weights
  weighed_there times t passes known =
      omega (arith, known, (there times passes).weights_are.tenants)

  pub weight_there : (times : Times) (t weight : ℕ) → ComesTo m k.times times → IsWeightOf times t weight → t < length C.weights → weight ≡ weight_at C P t
  weight_there times t weight passes shows known =
      shows C P m (there times passes) known

  -- the tenant is chosen
  pub record Turns (t : ℕ) : Type 0 where
    pub keys : HeadKeys
    pub choice : IsChoiceAt C P m w t keys
    pub known : t < length C.weights
    pub is_head : head P t ≡ Some keys.request

  pub turns_with : (t : ℕ) (z : ℤ) (keys : HeadKeys) → z ≡ pos (virtual_time C P m) → IsChoice (turn_of (seen k.chooser).setting w z) (Has (seen k.chooser).table) t keys → Turns t
  turns_with t z keys at chosen =
      let choice : IsChoiceAt C P m w t keys = choice_of C P m (seen k.chooser) old.mirrors.legal old.chooser_is w t z keys at chosen in
      let keys_are = choice_head C P m w t keys choice in
      record { keys = keys; choice = choice; known = keys_tenant_known C P m t keys old.mirrors.legal keys_are; is_head = (keys_head C P m t keys keys_are).1 }

  pub turns : (o : Option ℕ) (t : ℕ) (z : ℤ) → z ≡ pos (virtual_time C P m) → o ≡ Some t → IfSome o (IsTableChoice (seen k.chooser).setting (seen k.chooser).table w z) → Turns t
  turns (Some u) t z at same chosen =
      let e : u ≡ t = cc in
      let x : IsTableChoice (seen k.chooser).setting (seen k.chooser).table w z t = subst (IsTableChoice (seen k.chooser).setting (seen k.chooser).table w z) e chosen in
      turns_with t z x.0 at x.1
  turns None t z at same chosen = absurd (cc)

  -- its list is not empty
  pub has_item : (t : ℕ) (o : Option (Item J)) → Turns t → slice_get (lists.list_of k.lists t) 0 ≡ o → IsSome o
  has_item t (Some i) x top = refl
  has_item t None x top = let e : ◌≡◌ {A = Option ℕ} None (Some x.keys.request) = sym (no_item_head label C P t k.lists old.mirrors.limits old.mirrors.legal x.known old.mirrors.lists_are top) ∙ x.is_head in absurd (cc)

  -- and its first item is the chosen request
  pub item_chosen : (t estimate : ℕ) (i : Item J) → Turns t → slice_get (lists.list_of k.lists t) 0 ≡ Some i → estimate ≡ estimate_at C P t i.kind i.declared → IsChosen C P m w i.request estimate (record { tenant = t; kind = i.kind; declared = i.declared; label = label i.job })
  item_chosen t estimate i x top costs =
      let number : Some i.request ≡ Some x.keys.request = sym (is_head label C P t k old.mirrors x.known i top) ∙ x.is_head in
      record { tenant = t; keys = x.keys; choice = x.choice; request_is = cc; asked = was_asked label C P t k old.mirrors x.known i top; estimate_is = costs }

  -- by the keys of the choice
  pub chosen_keys : (t estimate : ℕ) (i : Item J) (z : ℤ) (keys : HeadKeys) (at : z ≡ pos (virtual_time C P m)) (chosen : IsChoice (turn_of (seen k.chooser).setting w z) (Has (seen k.chooser).table) t keys) (top : slice_get (lists.list_of k.lists t) 0 ≡ Some i) (costs : estimate ≡ estimate_at C P t i.kind i.declared) → (item_chosen t estimate i (turns_with t z keys at chosen) top costs).keys ≡ keys
  unfolding turns_with item_chosen
  chosen_keys t estimate i z keys at chosen top costs = refl

  pub legal_take : (who t estimate : ℕ) (i : Item J) → IsChosen C P m w i.request estimate (record { tenant = t; kind = i.kind; declared = i.declared; label = label i.job }) → IsLegal C (one_more who m (Take w i.request estimate) P)
  legal_take who t estimate i chosen = (old.mirrors.legal, later, in_range, record { worker_known = pooled; free = take_free C P w old.mirrors.legal free; asked = _; chosen = chosen })

  -- under 2dfq+ its keys are these numbers
  pub takes_choice : (who t estimate weight : ℕ) (i : Item J) (begins len : ℤ) → Turns t → slice_get (lists.list_of k.lists t) 0 ≡ Some i → estimate ≡ estimate_at C P t i.kind i.declared → weight ≡ weight_at C P t → begins ≡ pos (tag C P t) → len ≡ pos (length_of estimate weight) → C.policy ≡ TwoDfqPlus → TakesChoice w begins len C P (record { who = who; moment = m; act = Take w i.request estimate })
  takes_choice who t estimate weight i begins len x top costs weighs tagged lasts plus =
      let what : Request = record { tenant = t; kind = i.kind; declared = i.declared; label = label i.job } in
      let number : Some i.request ≡ Some x.keys.request = sym (is_head label C P t k old.mirrors x.known i top) ∙ x.is_head in
      let same : i.request ≡ x.keys.request = cc in
      let asked : request_at P x.keys.request ≡ Some what = ap (request_at P) (sym same) ∙ was_asked label C P t k old.mirrors x.known i top in
      let both : Some x.keys ≡ Some (head_keys_of C P m t x.keys.request what) = sym (choice_head C P m w t x.keys x.choice) ∙ head_keys_are C P m t x.keys.request what x.is_head asked in
      let keys_are : x.keys ≡ head_keys_of C P m t x.keys.request what = cc in
      let starts : start C P m t ≡ tag C P t = start_by C P m t TwoDfqPlus (sym plus) in
      record {
        request = i.request;
        estimate = estimate;
        tenant = t;
        keys = x.keys;
        act_is = refl;
        choice = x.choice;
        start_is = tagged ∙ (ap pos (sym starts) ∙ sym (ap (λ (h : HeadKeys). h.start) keys_are));
        len_is = lasts ∙ (rw (costs, weighs) refl ∙ sym (ap (λ (h : HeadKeys). h.len) keys_are));
      }

  -- something is chosen
  pub some_chosen : (o : Option ℕ) → IfNone o (NoneHas (seen k.chooser).table) → IsSome o
  some_chosen (Some t) none = refl
  some_chosen None none = absurd (some (nothing_waits C P m (seen k.chooser) old.mirrors.legal old.chooser_is none))

-- ---- the preconditions and the results, by a configuration that was read

module _ {J X : Type 0} (label : J → ℕ) (seen : X → ChooserView) {C D : Config} {P : History} {t : ℕ} {k : Tracker J X} (read : D ≡ C) (but : TracksBut label seen t C P k) where
  pub some_but : TracksSomeBut label seen t D k
  some_but = subst (λ (B : Config). TracksSomeBut label seen t B k) (sym read) (record { past = P; tracks = but })

  pub renewed : {n : Tracker J X} → ((P : History) → TracksBut label seen t D P k → Tracks label seen D P n) → Tracks label seen C P n
  renewed {n} renews = subst (λ (B : Config). Tracks label seen B P n) read (renews P (subst (λ (B : Config). TracksBut label seen t B P k) (sym read) but))
