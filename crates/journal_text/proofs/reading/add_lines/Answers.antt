use Rattle.std.proofs.Common.{◌≡◌, Ok, arith, rules, true, false, sym, ◌∙◌, ap, subst}
use Rattle.program_model.specs.Lines.{words_of}
use Rattle.journal_text.specs.Reading.{ends_before, with_head_line, Fails}
use Rattle.journal_text.proofs.HeadLimits.{config_line-kept, with_head_line-kept}
use Rattle.journal_text.proofs.Bodies.{opened_before, opened_at_end, nothing_past, one_past, left_says, divided_at, some_kinds, fault_in_head}
use Rattle.journal_text.proofs.reading.add_lines.Goals as goal

pub loop-line-init : goal.loop-line-init
loop-line-init g c = record {
  past = nothing_past _ _;
  counted = omega arith;
  kept = config_line-kept c.requires.0 _ c.requires.1;
}

pub returns-then-ends_before-clause-ok : goal.returns-then-ends_before-clause-ok
returns-then-ends_before-clause-ok g c =
    let words : c.of-words.result ≡ words_of c.in-Some.line.now = c.of-words.ensures in
    let ends : ends_before c.loop-line.draft (words_of c.in-Some.line.now) ≡ true = cc in
    λ version. opened_before _ version c.loop-line.place c.loop-line.draft c.in-Some.line.now c.loop-line.rest.now c.in-Some.below.now
    (left_says _ c.loop-line.draft _ c.loop-line.place c.loop-line.rest.now version c.loop-line.invariant.past) c.loop-line.invariant.kept c.in-Some.ensures.lines ends

pub returns-in-Err-clause-fault : goal.returns-in-Err-clause-fault
returns-in-Err-clause-fault g c =
    let words : c.of-words.result ≡ words_of c.in-Some.line.now = c.of-words.ensures in
    let goes_on : ends_before c.loop-line.draft (words_of c.in-Some.line.now) ≡ false = cc in
    λ version. rw c.at.ensures
    (fault_in_head _ version c.loop-line.place c.loop-line.draft c.in-Some.line.now c.loop-line.rest.now c.in-Some.below.now c.in-Err.e
    (left_says _ c.loop-line.draft _ c.loop-line.place c.loop-line.rest.now version c.loop-line.invariant.past) c.loop-line.invariant.kept c.in-Some.ensures.lines goes_on (subst (λ ws. Fails c.in-Err.e (with_head_line c.loop-line.draft ws)) words c.in-Err.ensures))

pub loop-line-preserved : goal.loop-line-preserved
loop-line-preserved g c =
    let words : c.of-words.result ≡ words_of c.in-Some.line.now = c.of-words.ensures in
    let goes_on : ends_before c.loop-line.draft (words_of c.in-Some.line.now) ≡ false = cc in
    let read : with_head_line c.loop-line.draft (words_of c.in-Some.line.now) ≡ Ok c.add_words.new.self = ap (with_head_line c.loop-line.draft) (sym words) ∙ c.in_default-add_words.ensures in
    record {
      past = one_past _ c.loop-line.draft c.add_words.new.self _ c.loop-line.place c.in-Some.line.now c.loop-line.rest.now c.in-Some.below.now
          c.loop-line.invariant.past c.loop-line.invariant.kept c.in-Some.ensures.lines goes_on read;
      counted = omega (arith, c.in-Some.ensures.shorter);
      kept = with_head_line-kept c.loop-line.draft c.add_words.new.self (words_of c.in-Some.line.now) c.loop-line.invariant.kept read;
    }

pub returns-clause-ok : goal.returns-clause-ok
returns-clause-ok g c =
    λ version. opened_at_end _ version c.loop-line.place c.loop-line.draft c.loop-line.rest.now
    (left_says _ c.loop-line.draft _ c.loop-line.place c.loop-line.rest.now version c.loop-line.invariant.past) c.loop-line.invariant.kept (search rules) (search rules)

pub returns-then-ends_before-clause-divided : goal.returns-then-ends_before-clause-divided
returns-then-ends_before-clause-divided g c =
    let words : c.of-words.result ≡ words_of c.in-Some.line.now = c.of-words.ensures in
    let ends : ends_before c.loop-line.draft (words_of c.in-Some.line.now) ≡ true = cc in
    λ version. divided_at _ c.loop-line.draft _ c.loop-line.place c.loop-line.rest.now version c.loop-line.invariant.past (some_kinds _ _ ends)

pub returns-clause-divided : goal.returns-clause-divided
returns-clause-divided g c = λ version. divided_at _ c.loop-line.draft _ c.loop-line.place c.loop-line.rest.now version c.loop-line.invariant.past (search rules)
