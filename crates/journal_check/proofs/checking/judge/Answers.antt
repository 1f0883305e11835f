use Rattle.std.proofs.Common.{◌++◌, ◌∷◌, [], ◌∙◌, refl, subst, get_or}
use Rattle.fq_model.specs.declared.config.Config.{Config}
use Rattle.fq_model.specs.declared.event.Entry.{Entry}
use Rattle.fq_model.specs.History.{history_of}
use Rattle.fq_model.specs.Rules.{IsLegal}
use Rattle.program_model.specs.Verdicts.{IsVerdict}
use Rattle.journal_check.proofs.Judging.{none_judged, bad_among, one_more_judged, all_judged}
use Rattle.journal_check.proofs.Turns.{no_entry}
use Rattle.journal_check.proofs.checking.judge.Goals as goal

pub loop-entry-init : goal.loop-entry-init
loop-entry-init g c = record { config_is = refl; judged = none_judged c.args.scheduler.now.config c.args.entries.now c.args.scheduler.now.past c.requires.opened }

pub judge_next-requires : goal.judge_next-requires
judge_next-requires g c = rw c.loop-entry.invariant.config_is c.requires.limits

pub returns-in_default : goal.returns-in_default
returns-in_default g c =
    let old = c.loop-entry.scheduler in
    let given : Entry = get_or c.args.entries.now c.loop-entry.entry-index no_entry in
    bad_among c.args.scheduler.now.config c.args.entries.now c.loop-entry.entry-index old.past given no_entry c.loop-entry.invariant.judged c.loop-entry-test.true refl c.judge_next.result c.in_default.not-Legal
    (subst (λ (C : Config). IsVerdict C (old.past ++ given ∷ []) c.judge_next.result) c.loop-entry.invariant.config_is c.judge_next.ensures.verdict)

pub loop-entry-preserved : goal.loop-entry-preserved
loop-entry-preserved g c =
    let old = c.loop-entry.scheduler in
    let given : Entry = get_or c.args.entries.now c.loop-entry.entry-index no_entry in
    record {
      config_is = c.judge_next.ensures.config ∙ c.loop-entry.invariant.config_is;
      judged = one_more_judged c.args.scheduler.now.config c.args.entries.now c.loop-entry.entry-index old.past given no_entry c.loop-entry.invariant.judged c.loop-entry-test.true refl c.judge_next.new.scheduler.past
          (c.in-Legal.ensures.past refl)
          (subst (λ (C : Config). IsLegal C (history_of (old.past ++ given ∷ []))) c.loop-entry.invariant.config_is c.in-Legal.ensures.verdict);
    }

pub returns : goal.returns
returns g c = all_judged c.args.scheduler.now.config c.args.entries.now c.loop-entry.entry-index c.loop-entry.scheduler.past c.loop-entry-test.false c.loop-entry.invariant.judged
