use Rattle.std.proofs.Common.{◌∙◌, ap, ap₂, sym}
use Rattle.fq_model.specs.Gap.{not_declared}
use Rattle.tag_gap.specs.Strays.{lesser}
use Rattle.tag_difference.proofs.Prefixes.{first_entries, next_entry, one_on, legal_next, all_entries}
use Rattle.tag_gap.proofs.AskedLemmas.{known_first}
use Rattle.tag_gap.proofs.StrayLemmas.{stray_nil, stray_known, stray_next}
use Rattle.tag_gap.proofs.strays.least_stray.Goals as goal

pub loop-entry-init : goal.loop-entry-init
loop-entry-init c = sym (stray_nil c.args.config.now)

pub stray-requires : goal.stray-requires
stray-requires c =
    let C = c.args.config.now in
    let past = c.args.past.now in
    let i = c.loop-entry.entry-index in
    stray_known C (first_entries past i) (next_entry past i) c.args.asked.now (legal_next C past i c.loop-entry-test.true c.requires.legal) (known_first C past i c.args.asked.now c.requires.legal c.requires.asked)

pub loop-entry-preserved : goal.loop-entry-preserved
loop-entry-preserved c =
    let C = c.args.config.now in
    let past = c.args.past.now in
    let i = c.loop-entry.entry-index in
    let next = stray_next C (first_entries past i) (next_entry past i) c.args.asked.now c.requires.declared c.requires.limits (legal_next C past i c.loop-entry-test.true c.requires.legal) (known_first C past i c.args.asked.now c.requires.legal c.requires.asked) in
    c.lesser-least.ensures ∙ (ap₂ lesser c.loop-entry.invariant c.stray.ensures ∙ (sym next ∙ ap (not_declared C) (sym (one_on past i c.loop-entry-test.true))))

pub returns : goal.returns
returns c = c.loop-entry.invariant ∙ ap (not_declared c.args.config.now) (all_entries c.args.past.now c.loop-entry.entry-index c.loop-entry-test.false)
