-- The view of a journal in contracts, and the invariant of its ledger.
use Rattle.std.specs.Prelude.{ℕ, ◌≡◌, nat_le, Bool, List, [], ◌∷◌, ◌++◌, length, Option, Some, None}
use Rattle.fq_model.specs.declared.config.Config.{Config}
use Rattle.fq_model.specs.declared.event.Act.{Act}
use Rattle.fq_model.specs.declared.event.Entry.{Entry}
use Rattle.fq_model.specs.Limits.{InLimits}
use Rattle.fq_model.specs.History.{History, history_of, waiting}
use Rattle.fq_model.specs.Rules.{IsLegal, needed_room}
use Rattle.fq_laws.specs.Words.{one_more}
use Rattle.sched_journal.specs.declared.tally.Tally.{Tally}
use Rattle.sched_journal.specs.Tally.{TallyIs}

-- the configuration that it is kept under, and its entries in order of time
pub record JournalView : Type 0 where
  pub config : Config
  pub past : List Entry

-- its history, the newest entry first
abbrev pub history : JournalView → History
history j = history_of j.past

-- the journal with one entry more
abbrev pub with_entry : JournalView → Entry → JournalView
with_entry j e = record { config = j.config; past = j.past ++ e ∷ [] }

-- the last entry of a history
abbrev pub newest : History → Option Entry
newest [] = None
newest (e ∷ P) = Some e

-- an entry with this act may come at m, whoever makes the call
abbrev pub MayGain : JournalView → ℕ → Act → Type 0
MayGain j m act = (who : ℕ) → IsLegal j.config (one_more who m act (history j))

-- where `backlog` requests wait, whether there is room for `more` entries
abbrev pub IsRoomFor : JournalView → ℕ → ℕ → Bool → Type 0
IsRoomFor j backlog more room =
    backlog ≡ waiting (history j) → room ≡ nat_le (needed_room (history j) more) j.config.entries

-- its configuration is in its limits, its history is legal, and these are how many entries it has, the last of them,
-- and its tally
pub record KeepsLedger (C : Config) (past : List Entry) (count : ℕ) (last : Option Entry) (tally : Tally) : Type 0 where
  pub limits : InLimits C
  pub legal : IsLegal C (history_of past)
  pub count_is : count ≡ length past
  pub last_is : last ≡ newest (history_of past)
  pub tally_is : TallyIs (history_of past) tally
