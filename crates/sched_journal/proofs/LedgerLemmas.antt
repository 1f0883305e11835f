-- A ledger at one entry more.
use Rattle.std.proofs.Common.{ℕ, ◌<◌, ◌≤◌, ◌≡◌, ◌+◌, ◌^◌, arith, refl, sym, ap, length, List, [], ◌∷◌, ◌++◌, Option, Some, None}
use Rattle.std.proofs.lemmas.List.{length-reverse, length-append}
use Rattle.fq_model.specs.declared.config.Config.{Config}
use Rattle.fq_model.specs.declared.event.Entry.{Entry}
use Rattle.fq_model.specs.History.{History, history_of}
use Rattle.fq_model.specs.Time.{last_moment}
use Rattle.fq_model.specs.Rules.{IsLegal}
use Rattle.fq_laws.proofs.Rules.Limits.{length_entries}
use Rattle.sched_journal.specs.declared.tally.Tally.{Tally}
use Rattle.sched_journal.specs.Tally.{counted}
use Rattle.sched_journal.specs.Journal.{newest, KeepsLedger}
use Rattle.sched_journal.proofs.TallyLemmas.{tally_after}
use Rattle.sched_journal.proofs.JournalLemmas.{history_with}

-- the number of entries stays in 32 bits
pub one_more_fits : (C : Config) (past : List Entry) (e : Entry) (count : ℕ) (last : Option Entry) (t : Tally) → KeepsLedger C past count last t → IsLegal C (e ∷ history_of past) → count + 1 < 2 ^ 32
one_more_fits C past e count last t k l = omega (arith, length_entries C (e ∷ history_of past) k.limits l, k.limits.entries.1, k.count_is, length-reverse past)

-- and the ledger is kept
pub ledger_keeps : (C : Config) (past more : List Entry) (e : Entry) (count : ℕ) (last : Option Entry) (t u : Tally) → KeepsLedger C past count last t → IsLegal C (e ∷ history_of past) → more ≡ past ++ e ∷ [] → u ≡ counted t e.act → KeepsLedger C more (count + 1) (Some e) u
ledger_keeps C past more e count last t u k l is counts = rw (is, counts) (record {
  limits = k.limits;
  legal = rw (history_with past e) l;
  count_is = omega (arith, k.count_is, length-append past (e ∷ []));
  last_is = rw (history_with past e) refl;
  tally_is = rw (history_with past e) (tally_after C (history_of past) e t k.limits l k.tally_is);
})

-- the moment of an entry, or 0
abbrev moment_of : Option Entry → ℕ
moment_of None = 0
moment_of (Some e) = e.moment

-- the last moment is that of the last entry
pub newest_some : (P : History) (e : Entry) → newest P ≡ Some e → last_moment P ≡ e.moment
newest_some [] e is = absurd (cc)
newest_some (x ∷ P) e is = ap moment_of is

-- or 0
pub newest_none : (P : History) → newest P ≡ None → last_moment P ≡ 0
newest_none [] is = refl
newest_none (x ∷ P) is = absurd (cc)

-- no more entries than the configuration has room for
pub within_entries : (C : Config) (past : List Entry) (count : ℕ) (last : Option Entry) (t : Tally) → KeepsLedger C past count last t → count ≤ C.entries
within_entries C past count last t k = omega (arith, length_entries C (history_of past) k.limits k.legal, k.count_is, length-reverse past)

-- nor is the list longer
pub length_within : (C : Config) (past : List Entry) (count : ℕ) (last : Option Entry) (t : Tally) → KeepsLedger C past count last t → length past ≤ C.entries
length_within C past count last t k = rw (sym k.count_is) (within_entries C past count last t k)
