-- The tally of a history at one entry more.
use Rattle.std.proofs.Common.{ℕ, false, arith, refl, sym, ◌∙◌, [], ◌∷◌}
use Rattle.fq_model.specs.declared.config.Config.{Config}
use Rattle.fq_model.specs.declared.event.Act.{Act}
use Rattle.fq_model.specs.declared.event.Act.TheVariants.{Submit, Take, Report, Done, Close, Weight, Workers, Withdraw}
use Rattle.fq_model.specs.declared.event.Entry.{Entry}
use Rattle.fq_model.specs.Limits.{InLimits}
use Rattle.fq_model.specs.History.{History, is_closed}
use Rattle.fq_model.specs.Rules.{IsLegal}
use Rattle.fq_laws.specs.Words.{one_more}
use Rattle.fq_laws.proofs.Rules.Room.{has_room}
use Rattle.fq_laws.proofs.History.Counts.{running_submit, running_report, running_withdraw, running_quiet, running_none}
use Rattle.fq_laws.proofs.History.Numbers.{running_taken, running_finished, submits_small}
use Rattle.fq_laws.proofs.Rules.Limits.{running_some}
use Rattle.sched_journal.specs.declared.tally.Tally.{Tally}
use Rattle.sched_journal.specs.Tally.{TallyIs, counted, CanCount}

pub tally_nil : TallyIs [] (record { closed = false; submits = 0; running = 0 })
unfolding is_closed
tally_nil = record { closed_is = refl; submits_are = refl; running_are = sym running_none }

counts : (C : Config) (P : History) (who m : ℕ) (a : Act) (t : Tally) → InLimits C → IsLegal C (one_more who m a P) → TallyIs P t → TallyIs (one_more who m a P) (counted t a)
unfolding is_closed
counts C P who m (Submit r t k d x) tally lim l h = record { closed_is = h.closed_is; submits_are = omega (arith, h.submits_are); running_are = h.running_are ∙ sym (running_submit P who m r t k d x) }
counts C P who m (Take i r c) tally lim l h = record { closed_is = h.closed_is; submits_are = h.submits_are; running_are = omega (arith, h.running_are, running_taken C P who m i r c lim l.0 l.3) }
counts C P who m (Report i r u) tally lim l h = record { closed_is = h.closed_is; submits_are = h.submits_are; running_are = h.running_are ∙ sym (running_report P who m i r u) }
counts C P who m (Done i r c) tally lim l h = record { closed_is = h.closed_is; submits_are = h.submits_are; running_are = omega (arith, h.running_are, running_finished C P who m i r c lim l.0 l.3) }
counts C P who m Close tally lim l h = record { closed_is = refl; submits_are = h.submits_are; running_are = h.running_are ∙ sym (running_quiet P who m Close refl) }
counts C P who m (Weight t w) tally lim l h = record { closed_is = h.closed_is; submits_are = h.submits_are; running_are = h.running_are ∙ sym (running_quiet P who m (Weight t w) refl) }
counts C P who m (Workers n) tally lim l h = record { closed_is = h.closed_is; submits_are = h.submits_are; running_are = h.running_are ∙ sym (running_quiet P who m (Workers n) refl) }
counts C P who m (Withdraw r) tally lim l h = record { closed_is = h.closed_is; submits_are = h.submits_are; running_are = h.running_are ∙ sym (running_withdraw P who m r) }

can_count_at : (C : Config) (P : History) (who m : ℕ) (a : Act) (t : Tally) → InLimits C → IsLegal C (one_more who m a P) → TallyIs P t → CanCount t a
can_count_at C P who m (Submit r t k d x) tally lim l h = let small = submits_small C (one_more who m (Submit r t k d x) P) lim l in omega (arith, h.submits_are, small)
can_count_at C P who m (Take i r c) tally lim l h = let room = has_room C P lim l.0 in omega (arith, h.running_are, room, lim.entries)
can_count_at C P who m (Done i r c) tally lim l h = omega (arith, h.running_are, running_some C P i r lim l.0 l.3.runs)
can_count_at C P who m _ tally lim l h = tt

-- after an entry the count is that of the longer history
pub tally_after : (C : Config) (P : History) (e : Entry) (t : Tally) → InLimits C → IsLegal C (e ∷ P) → TallyIs P t → TallyIs (e ∷ P) (counted t e.act)
tally_after C P e t lim l h = counts C P e.who e.moment e.act t lim l h

-- and it can be made
pub can_count : (C : Config) (P : History) (e : Entry) (t : Tally) → InLimits C → IsLegal C (e ∷ P) → TallyIs P t → CanCount t e.act
can_count C P e t lim l h = can_count_at C P e.who e.moment e.act t lim l h
