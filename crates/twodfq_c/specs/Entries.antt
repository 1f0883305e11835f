-- Entries of a history in plain numbers.
use Rattle.std.specs.Prelude.{◌≡◌, ◌-◌, ℕ, length, Option, Some, None}
use Rattle.fq_model.specs.declared.event.Entry.{Entry}
use Rattle.fq_model.specs.declared.event.Act.{Act}
use Rattle.fq_model.specs.declared.event.Act.TheVariants as act
use Rattle.fq_model.specs.History.{history_of}
use Rattle.fq_model.specs.Rules.{IsLegal}
use Rattle.sched_journal.specs.Stores.{kept_entry}
use Rattle.twodfq_c.specs.declared.entry.PlainEntry.{PlainEntry}
use Rattle.twodfq_c.specs.Held.{Held}

-- an act, of nobody and at no moment, that has these numbers: its kind, request, tenant, kind of request, worker,
-- amount, label
abbrev pub numbers : ℕ → ℕ → ℕ → ℕ → ℕ → ℕ → ℕ → PlainEntry
numbers kind request tenant request_kind worker amount label = record {
  kind = kind;
  who = 0;
  moment = 0;
  request = request;
  tenant = tenant;
  request_kind = request_kind;
  worker = worker;
  amount = amount;
  label = label;
}

-- where no entry that is kept has the index: the first that has one that is
abbrev pub no_entry : ℕ → PlainEntry
no_entry first = numbers 255 0 0 0 0 first 0

-- an act of a worker on the request that it runs
abbrev pub run_by : ℕ → ℕ → ℕ → ℕ → PlainEntry
run_by kind worker request amount = numbers kind request 0 0 worker amount 0

abbrev pub plain_act : Act → PlainEntry
plain_act (act.Submit request tenant kind declared label) = numbers 0 request tenant kind 0 declared label
plain_act (act.Take worker request estimate) = run_by 1 worker request estimate
plain_act (act.Report worker request used) = run_by 2 worker request used
plain_act (act.Done worker request cost) = run_by 3 worker request cost
plain_act act.Close = numbers 4 0 0 0 0 0 0
plain_act (act.Weight tenant weight) = numbers 5 0 tenant 0 0 weight 0
plain_act (act.Workers count) = numbers 6 0 0 0 0 count 0
plain_act (act.Withdraw request) = numbers 7 request 0 0 0 0 0

-- the act's numbers, with who did it and when
abbrev pub plain_entry : Entry → PlainEntry
plain_entry entry =
    let plain = plain_act entry.act in record {
      kind = plain.kind;
      who = entry.who;
      moment = entry.moment;
      request = plain.request;
      tenant = plain.tenant;
      request_kind = plain.request_kind;
      worker = plain.worker;
      amount = plain.amount;
      label = plain.label;
    }

abbrev pub plain_found : ℕ → Option Entry → PlainEntry
plain_found first None = no_entry first
plain_found first (Some entry) = plain_entry entry

-- the entry with this index of the history that is held, which is legal, if it is one of those that are kept
abbrev pub ReadsHeld : Held → ℕ → PlainEntry → Type 0
ReadsHeld None index plain = plain ≡ no_entry 0
ReadsHeld (Some s) index plain =
    (plain ≡ plain_found (length s.past - s.keep) (kept_entry s.keep s.past index))
    × IsLegal s.config (history_of s.past)
