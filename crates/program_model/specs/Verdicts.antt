-- Whether the entries of a journal are a legal history; and where they aren't, the first one that isn't legal.
use Rattle.std.specs.Prelude.{ℕ, ◌+◌, ◌≡◌, List, ◌∷◌, ◌++◌, length, Option, Some, None}
use Rattle.fq_model.specs.declared.config.Config.{Config}
use Rattle.fq_model.specs.declared.event.Entry.{Entry}
use Rattle.fq_model.specs.declared.event.Reply.{Reply}
use Rattle.fq_model.specs.History.{History, history_of}
use Rattle.fq_model.specs.Rules.{IsLegal, Answers}
use Rattle.program_model.specs.Journal.{call_of}
use Rattle.program_model.specs.declared.verdict.Verdict.{Verdict}
use Rattle.program_model.specs.declared.verdict.Verdict.TheVariants.{Legal, Bad}

-- the history with this entry more, or as it is
abbrev pub with_gained : Option Entry → History → History
with_gained None P = P
with_gained (Some e) P = e ∷ P

-- Entry `place`, counted from 1, is the first that isn't legal: the entries before it are legal, and with it they
-- aren't. At those before it, its call is answered by this reply, and the history then gains the entry that is wanted
-- in its place, or none.
pub record IsFirstBad
    (C : Config) (entries : List Entry) (place : ℕ) (reply : Reply) (wanted : Option Entry) : Type 0 where
  pub before : List Entry
  pub given : Entry
  pub after : List Entry
  pub split : entries ≡ before ++ given ∷ after
  pub counted : place ≡ length before + 1
  pub legal_before : IsLegal C (history_of before)
  pub not_legal : ¬ IsLegal C (given ∷ history_of before)
  pub answered : Answers C (history_of before) (call_of given) reply (with_gained wanted (history_of before))

-- the verdict on entries in order of time
abbrev pub IsVerdict : Config → List Entry → Verdict → Type 0
IsVerdict C entries Legal = IsLegal C (history_of entries)
IsVerdict C entries (Bad place reply wanted) = IsFirstBad C entries place reply wanted
