use Rattle.std.proofs.Common.{sym, ◌∙◌}
use Rattle.program_model.specs.Commands.{built_commands}
use Rattle.command_line.proofs.FirstWord.{command_none, command_first, command_named, other_word}
use Rattle.command_line.proofs.command.command.Goals as goal

pub returns-in_err-word-clause-asked : goal.returns-in_err-word-clause-asked
returns-in_err-word-clause-asked c = c.from_residual.ensures ∙ sym (command_none built_commands c.args.words.now c.in_err-word.ensures.cases)

pub returns-in-script-clause-asked : goal.returns-in-script-clause-asked
returns-in-script-clause-asked c =
    let named = command_named built_commands c.args.words.now c.in_ok-word.word.now c.in_ok-word.words.now _ c.in_ok-word.ensures.cases.0 (sym c.as_str.ensures.value ∙ c.in-script.is) in
    c.script_command.ensures.asked ∙ sym named

pub returns-in-run-clause-asked : goal.returns-in-run-clause-asked
returns-in-run-clause-asked c =
    let named = command_named built_commands c.args.words.now c.in_ok-word.word.now c.in_ok-word.words.now _ c.in_ok-word.ensures.cases.0 (sym c.as_str.ensures.value ∙ c.in-run.is) in
    c.run_command.ensures.asked ∙ sym named

pub returns-in-live-clause-asked : goal.returns-in-live-clause-asked
returns-in-live-clause-asked c =
    let named = command_named built_commands c.args.words.now c.in_ok-word.word.now c.in_ok-word.words.now _ c.in_ok-word.ensures.cases.0 (sym c.as_str.ensures.value ∙ c.in-live.is) in
    c.live_command.ensures.asked ∙ sym named

pub returns-in-gen-clause-asked : goal.returns-in-gen-clause-asked
returns-in-gen-clause-asked c =
    let named = command_named built_commands c.args.words.now c.in_ok-word.word.now c.in_ok-word.words.now _ c.in_ok-word.ensures.cases.0 (sym c.as_str.ensures.value ∙ c.in-gen.is) in
    c.gen_command.ensures.asked ∙ sym named

pub returns-in-check-clause-asked : goal.returns-in-check-clause-asked
returns-in-check-clause-asked c =
    let named = command_named built_commands c.args.words.now c.in_ok-word.word.now c.in_ok-word.words.now _ c.in_ok-word.ensures.cases.0 (sym c.as_str.ensures.value ∙ c.in-check.is) in
    c.check_command.ensures.asked ∙ sym named

pub returns-in-lead-clause-asked : goal.returns-in-lead-clause-asked
returns-in-lead-clause-asked c =
    let named = command_named built_commands c.args.words.now c.in_ok-word.word.now c.in_ok-word.words.now _ c.in_ok-word.ensures.cases.0 (sym c.as_str.ensures.value ∙ c.in-lead.is) in
    c.lead_command.ensures.asked ∙ sym named

pub returns-in-shape-clause-asked : goal.returns-in-shape-clause-asked
returns-in-shape-clause-asked c =
    let named = command_named built_commands c.args.words.now c.in_ok-word.word.now c.in_ok-word.words.now _ c.in_ok-word.ensures.cases.0 (sym c.as_str.ensures.value ∙ c.in-shape.is) in
    c.shape_command.ensures.asked ∙ sym named

pub returns-in-compare-clause-asked : goal.returns-in-compare-clause-asked
returns-in-compare-clause-asked c =
    let named = command_named built_commands c.args.words.now c.in_ok-word.word.now c.in_ok-word.words.now _ c.in_ok-word.ensures.cases.0 (sym c.as_str.ensures.value ∙ c.in-compare.is) in
    c.compare_command.ensures.asked ∙ sym named

pub returns-in_default-clause-asked : goal.returns-in_default-clause-asked
returns-in_default-clause-asked c =
    let first = command_first built_commands c.args.words.now c.in_ok-word.word.now c.in_ok-word.words.now c.in_ok-word.ensures.cases.0 in
    let value = c.as_str.ensures.value in
    let script = rw value at c.in_default.not-script in
    let run = rw value at c.in_default.not-run in
    let live = rw value at c.in_default.not-live in
    let gen = rw value at c.in_default.not-gen in
    let check = rw value at c.in_default.not-check in
    let lead = rw value at c.in_default.not-lead in
    let shape = rw value at c.in_default.not-shape in
    let compare = rw value at c.in_default.not-compare in
    sym (rw (other_word _ _ script, other_word _ _ run, other_word _ _ live, other_word _ _ gen, other_word _ _ check, other_word _ _ lead, other_word _ _ shape, other_word _ _ compare) at first)
