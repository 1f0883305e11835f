-- A journal of a legal history is judged legal.
use Rattle.std.proofs.Common.{ℕ, zero, suc, List, [], ◌∷◌, ◌++◌, All, arith, refl, subst, sym, append_assoc}
use Rattle.std.proofs.lemmas.List.Elements.{All-head, All-tail}
use Rattle.fq_model.specs.declared.config.Config.{Config}
use Rattle.fq_model.specs.declared.event.Act.{Act}
use Rattle.fq_model.specs.declared.event.Act.TheVariants.{Submit, Take, Report, Done, Close, Weight, Workers, Withdraw}
use Rattle.fq_model.specs.declared.event.Entry.{Entry}
use Rattle.fq_model.specs.History.{History, history_of}
use Rattle.fq_model.specs.Limits.{InLimits}
use Rattle.fq_model.specs.Rules.{IsLegal, Fits}
use Rattle.fq_laws.proofs.Charge.Estimates.{estimate_range}
use Rattle.fq_laws.proofs.History.Numbers.{next_small, take_request_small, waits_number_small, use_small}
use Rattle.fq_laws.proofs.History.Weights.{pool_high}
use Rattle.fq_laws.proofs.History.Workers.{runs_worker_known}
use Rattle.program_model.specs.Document.{config_of}
use Rattle.fq_model.specs.declared.limits.TheConstants.{TEXT_WEIGHT}
use Rattle.fq_laws.proofs.Limits.{no_greater_weight}
use Rattle.limit_laws.specs.Words.{WeightsAtMost}
use Rattle.limit_laws.proofs.Legal.{legal_text}
use Rattle.journal_check.proofs.OneVerdict.{legal_among, legal_is_legal}
use Rattle.law_book.specs.Journals.{FitsTypes, FitsLabel, IsEntry, IsUnreadFit, LegalEntriesFit, IsReadBack, IsJudgedLegal, LegalIsJudgedLegal, StreamedIsJudgedLegal, journal_with}
use Rattle.law_book.proofs.JournalsRead.{read_back, streamed_back}

-- the numbers of an act that fits a legal history
act_fits : (C : Config) (P : History) (m : ℕ) (act : Act) → InLimits C → IsLegal C P → Fits C P m act → FitsLabel act → FitsTypes act
act_fits C P m (Submit request tenant kind declared label) limits legal f unread = (
  next_small C P request limits legal f.numbered,
  omega (arith, f.tenant_known, limits.tenants.1),
  omega (arith, f.kind_known, limits.kinds.1),
  omega (arith, f.declared_high),
  unread,
)
act_fits C P m (Take worker request estimate) limits legal f unread =
    let low = estimate_range C P request f.asked limits legal f.chosen.asked in (
      omega (arith, f.worker_known, pool_high C P legal, limits.workers.1),
      take_request_small C P m worker request estimate limits legal f,
      omega (arith, f.chosen.estimate_is, low.1),
    )
act_fits C P m (Report worker request used) limits legal f unread = (
  omega (arith, runs_worker_known C P worker request legal f.0.runs, limits.workers.1),
  use_small C P worker request used limits legal f.0,
  omega (arith, f.0.in_range),
)
act_fits C P m (Done worker request cost) limits legal f unread = (
  omega (arith, runs_worker_known C P worker request legal f.runs, limits.workers.1),
  use_small C P worker request cost limits legal f,
  omega (arith, f.in_range),
)
act_fits C P m Close limits legal f unread = tt
act_fits C P m (Weight tenant weight) limits legal f unread =
    (omega (arith, f.tenant_known, limits.tenants.1), omega (arith, f.weight_in_range.1, no_greater_weight C.limits))
act_fits C P m (Workers count) limits legal f unread = omega (arith, f.count_in_range.1, limits.workers.1)
act_fits C P m (Withdraw request) limits legal f unread = waits_number_small C P request limits legal f

entry_fits : (C : Config) (P : History) (e : Entry) → InLimits C → IsLegal C (e ∷ P) → IsUnreadFit e → IsEntry e
entry_fits C P e limits legal unread = record {
  who = unread.who;
  moment = omega (arith, legal.2);
  act = act_fits C P e.moment e.act limits legal.0 legal.3 unread.label;
}

all_fit : (C : Config) (before past : List Entry) → InLimits C → IsLegal C (history_of (before ++ past)) → All IsUnreadFit past → All IsEntry past
all_fit C before [] limits legal unread k d there = absurd (omega (arith, there))
all_fit C before (e ∷ past) limits legal unread zero d there =
    entry_fits C (history_of before) e limits (legal_among C before past e legal) (All-head IsUnreadFit e past unread)
all_fit C before (e ∷ past) limits legal unread (suc k) d there =
    all_fit C (before ++ e ∷ []) past limits (subst (λ (l : List Entry). IsLegal C (history_of l)) (sym (append_assoc before (e ∷ []) past)) legal)
    (All-tail IsUnreadFit e past unread) k d (omega (arith, there))

pub entries_fit : LegalEntriesFit
entries_fit C past limits legal unread = all_fit C [] past limits legal unread

-- the text of a legal history that is read back is judged legal
judged : (C : Config) (tenants kinds : List (List ℕ)) (past : List Entry) (text : List ℕ) → IsReadBack C tenants kinds past text → WeightsAtMost TEXT_WEIGHT (history_of past) → IsLegal C (history_of past) → IsJudgedLegal C past text
judged C tenants kinds past text back weights legal =
    let here : IsLegal (config_of (journal_with C tenants kinds past)) (history_of past) = subst (λ (B : Config). IsLegal B (history_of past)) (sym back.config_is) (legal_text C (history_of past) weights legal) in
    record {
      journal = journal_with C tenants kinds past;
      read = back.read;
      config_is = back.config_is;
      body_is = refl;
      legal = here;
      no_other = λ v is. (legal_is_legal (config_of (journal_with C tenants kinds past)) past v is).1 here;
    }

pub judged_legal : LegalIsJudgedLegal
judged_legal C tenants kinds past limits text names unread weights legal =
    judged C tenants kinds past _ (read_back C tenants kinds past limits text names (entries_fit C past limits legal unread)) weights legal

pub streamed_legal : StreamedIsJudgedLegal
streamed_legal C tenants kinds past limits text names unread weights legal =
    judged C tenants kinds past _ (streamed_back C tenants kinds past limits text names (entries_fit C past limits legal unread)) weights legal
