use Rattle.std.proofs.Common.{◌≡◌, ◌∷◌, ◌++◌, [], ◌∙◌, sym, ap, subst, length, take, get_or, ◌+◌, ap₂}
use Rattle.std.proofs.lemmas.List.{take_all, take_more}
use Rattle.fq_model.specs.declared.event.Act.TheVariants.{Submit}
use Rattle.fq_model.specs.declared.event.Entry.{Entry}
use Rattle.fq_model.specs.Fluid.{changes_of, with_change}
use Rattle.fq_model.specs.History.{history_of}
use Rattle.lag_report.specs.Courses.{NamesOneOf, courses_of, rows_of, courses_after, rows_after}
use Rattle.lag_report.proofs.Pasts.{history_more, named}
use Rattle.lag_report.proofs.reading.read.Goals as goal

-- the entry past the end of the list
abbrev none : Entry
none = record { who = 0; moment = 0; act = Submit 0 0 0 0 0 }

pub add-requires : goal.add-requires
add-requires c = subst (λ n. NamesOneOf n (get_or c.args.past.now c.loop-entry.entry-index none).act) (sym (ap length c.loop-entry.invariant.courses)) (named c.args.past.now c.loop-entry.entry-index none c.loop-entry-test.true c.requires)

pub loop-entry-preserved : goal.loop-entry-preserved
loop-entry-preserved c =
    let entry : Entry = get_or c.args.past.now c.loop-entry.entry-index none in
    let more : history_of (take (c.loop-entry.entry-index + 1) c.args.past.now) ≡ entry ∷ history_of (take c.loop-entry.entry-index c.args.past.now) = history_more c.args.past.now c.loop-entry.entry-index none c.loop-entry-test.true in
    record {
      past = c.in_ok-add.ensures.past ∙ ap (λ es. es ++ entry ∷ []) c.loop-entry.invariant.past ∙ sym (take_more c.args.past.now c.loop-entry.entry-index none c.loop-entry-test.true);
      courses = c.in_ok-add.ensures.courses ∙ ap (courses_after entry.moment entry.act) c.loop-entry.invariant.courses ∙ sym (ap courses_of more);
      changes = c.in_ok-add.ensures.changes ∙ ap (with_change entry.moment entry.act) c.loop-entry.invariant.changes ∙ sym (ap changes_of more);
      rows = c.in_ok-add.ensures.rows ∙ ap₂ (λ cs rs. rows_after cs entry.act rs) c.loop-entry.invariant.courses c.loop-entry.invariant.rows ∙ sym (ap rows_of more);
    }

pub loop-entry-init : goal.loop-entry-init
loop-entry-init c = record { past = c.new.ensures; courses = c.new-2.ensures.items; rows = c.new-3.ensures.items; changes = c.new-4.ensures.items }

pub returns-clause-past : goal.returns-clause-past
returns-clause-past c = c.loop-entry.invariant.past ∙ take_all c.loop-entry.entry-index c.args.past.now c.loop-entry-test.false

pub returns-clause-courses : goal.returns-clause-courses
returns-clause-courses c = c.loop-entry.invariant.courses ∙ ap (λ es. courses_of (history_of es)) (take_all c.loop-entry.entry-index c.args.past.now c.loop-entry-test.false)

pub returns-clause-rows : goal.returns-clause-rows
returns-clause-rows c = c.loop-entry.invariant.rows ∙ ap (λ es. rows_of (history_of es)) (take_all c.loop-entry.entry-index c.args.past.now c.loop-entry-test.false)

pub returns-clause-changes : goal.returns-clause-changes
returns-clause-changes c = c.loop-entry.invariant.changes ∙ ap (λ es. changes_of (history_of es)) (take_all c.loop-entry.entry-index c.args.past.now c.loop-entry-test.false)
