-- The tracker that a scheduler keeps beside its journal, so that no call looks back in it.
use Rattle.std.specs.Prelude.{ℕ, ℤ, ◌<◌, ◌≤◌, ◌≡◌, is_none, if◌then◌else◌, length, slice_get, Some}
use Rattle.std.specs.FinMap as map
use Rattle.vt_fixed.specs.declared.limits.TheConstants.{GREATEST_MOMENT}
use Rattle.fq_model.specs.declared.config.Config.{Config}
use Rattle.fq_model.specs.declared.event.Act.{Act}
use Rattle.fq_model.specs.declared.event.Act.TheVariants.{Submit, Take}
use Rattle.fq_model.specs.Limits.{InLimits}
use Rattle.fq_model.specs.History.{History, Request}
use Rattle.fq_model.specs.Time.{last_moment}
use Rattle.fq_model.specs.Rules.{IsLegal, IsChosen}
use Rattle.fq_laws.specs.Words.{one_more}
use Rattle.charge_book.specs.Histories.{BookIs}
use Rattle.tag_rules.specs.Tables.{ChooserView}
use Rattle.tag_rules.specs.Accounts.{AccountsView, AccountsAre, raised}
use Rattle.virtual_clock.specs.Histories.{TimesAre}
use Rattle.waiting_lists.specs.Lists.{ListsView, list_of}
use Rattle.waiting_lists.specs.declared.item.Item.{Item}
use Rattle.sched_state.specs.declared.tracker.Tracker.{Tracker}
use Rattle.sched_journal.specs.Journal.{JournalView, history}
use Rattle.sched_state.specs.Refusals.{GetsWork}
use Rattle.sched_state.specs.Lists.{ListsAre, jobs_in}
use Rattle.sched_state.specs.Costs.{CostsAre}
use Rattle.sched_state.specs.Keys.{ChooserIs, ChooserIsBut}

-- the configuration is in its limits, the history is legal, and all that is kept is its own, but for the keys of heads
pub record Mirrors {J X : Type 0} (label : J → ℕ) (C : Config) (P : History) (k : Tracker J X) : Type 0 where
  pub limits : InLimits C
  pub legal : IsLegal C P
  pub lists_are : ListsAre label C P k.lists
  pub book_is : BookIs C P k.book
  pub accounts_are : AccountsAre C P k.accounts
  pub costs_are : CostsAre C P k.costs
  pub times_are : TimesAre C P k.times

-- the Submit of an item
abbrev pub submit_act : {J : Type 0} → (J → ℕ) → ℕ → Item J → Act
submit_act label tenant i = Submit i.request tenant i.kind i.declared (label i.job)

-- the accounts with the tag of the tenant raised to v, where none of its requests waits
abbrev pub raised_first : {J : Type 0} → ListsView J → AccountsView → ℕ → ℤ → AccountsView
raised_first w a tenant v = if is_none (slice_get (list_of w tenant) 0) then raised a tenant v else a

-- a worker may take the chosen request at m
pub record MayBegin (j : JournalView) (m worker : ℕ) : Type 0 where
  pub later : last_moment (history j) ≤ m
  pub in_range : m ≤ GREATEST_MOMENT
  pub gets : GetsWork j.config (history j) worker

module _ {J X : Type 0} (label : J → ℕ) (seen : X → ChooserView) where
  -- all that is kept is the history's own, the keys of all heads too
  pub record Tracks (C : Config) (P : History) (k : Tracker J X) : Type 0 where
    pub mirrors : Mirrors label C P k
    pub chooser_is : ChooserIs C P (seen k.chooser)

  -- all that is kept is the history's own, the keys of all heads too but that of this tenant, who is one of the
  -- configuration
  pub record TracksBut (tenant : ℕ) (C : Config) (P : History) (k : Tracker J X) : Type 0 where
    pub mirrors : Mirrors label C P k
    pub tenant_known : tenant < length C.weights
    pub chooser_is : ChooserIsBut tenant C P (seen k.chooser)

  -- the tracker is so for some history
  pub record TracksSomeBut (tenant : ℕ) (C : Config) (k : Tracker J X) : Type 0 where
    pub past : History
    pub tracks : TracksBut tenant C past k

  -- all is of the journal with one entry more, of the moment m and with this act, whoever makes the call
  abbrev pub TracksAfter : JournalView → ℕ → Act → Tracker J X → Type 0
  TracksAfter j m act k = (who : ℕ) → Tracks j.config (one_more who m act (history j)) k

  -- the worker takes this item, which is chosen at m, at this estimate: it waits no longer, and all else follows its
  -- Take
  pub record Begins (j : JournalView) (m worker : ℕ) (old : Tracker J X) (i : Item J) (estimate : ℕ)
      (new : Tracker J X) : Type 0 where
    pub asked : Request
    pub label_is : asked.label ≡ label i.job
    pub chosen : IsChosen j.config (history j) m worker i.request estimate asked
    pub tracks : TracksAfter j m (Take worker i.request estimate) new
    pub job_is : map.get (jobs_in old.lists.lists) i.request ≡ Some i.job
    pub jobs_are : jobs_in new.lists.lists ≡ map.remove (jobs_in old.lists.lists) i.request
