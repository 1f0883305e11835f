use Rattle.std.proofs.Common.{ℕ, ◌≡◌, List, [], ◌∷◌, map, get_or, Some, option_map, unwrap_or, slice_index_or, sym, ap, ◌∙◌, length, refl, arith}
use Rattle.std.specs.String.{string_bytes}
use Rattle.program_model.specs.declared.command.Command.TheVariants.{Plain}
use Rattle.program_model.specs.declared.command.PlainCommand.TheVariants.{Run}
use Rattle.program_model.specs.declared.command.HistoryPrint.{HistoryPrint}
use Rattle.program_model.specs.declared.command.HistoryPrint.TheVariants.{Both}
use Rattle.program_model.specs.declared.trace.RunOptions.{RunOptions}
use Rattle.program_model.specs.Lines.{Words}
use Rattle.program_model.specs.Options.{Value, values_in}
use Rattle.program_model.specs.RunCommand.{run_of_values}
use Rattle.program_model.specs.TraceCommand.{trace_options, history_prints, run_options_of}
use Rattle.std.specs.Prelude.{codes}
use Rattle.vt_fixed.specs.declared.limits.TheConstants.{GREATEST_COST}
use Rattle.fq_model.specs.declared.limits.TheConstants.{TEXT_WORKERS, GREATEST_SLOT}
use Rattle.program_model.specs.CommandOptions.{number_given, workers_option, initial_option, refresh_option, slot_option}
use Rattle.command_line.proofs.InRange.{read_from, number_at_most}
use Rattle.command_line.proofs.Lengths.{values_length, value_there}
use Rattle.command_line.proofs.command.run_command.Goals.{In_ok-workers}
use Rattle.command_line.proofs.command.run_command.Goals as goal

pub returns-in_err-workers-clause-asked : goal.returns-in_err-workers-clause-asked
returns-in_err-workers-clause-asked c =
    let values : c.values_in.result ≡ values_in trace_options (map string_bytes c.args.words.now) = c.values_in.ensures.values in
    c.from_residual.ensures ∙ ap (option_map run_of_values) (sym c.in_err-workers.was ∙ values)

-- the values that were read
read_here : (c : In_ok-workers) → values_in trace_options (map string_bytes c.args.words.now) ≡ Some c.in_ok-workers.field-0
read_here c =
    let values : c.values_in.result ≡ values_in trace_options (map string_bytes c.args.words.now) = c.values_in.ensures.values in
    sym values ∙ c.in_ok-workers.was

-- the command of these values, however each was looked up
is_run : (words : Words) (v : List Value) (a b c d e f g : Value) (run : RunOptions) (slot : ℕ) (print : HistoryPrint) → values_in trace_options words ≡ Some v
    → run ≡ run_options_of (get_or v 0 a ∷ get_or v 1 b ∷ get_or v 2 c ∷ get_or v 3 d ∷ get_or v 4 e ∷ []) → slot ≡ unwrap_or (number_given (get_or v 5 f)) 0
    → print ≡ slice_index_or history_prints (unwrap_or (number_given (get_or v 6 g)) 0) Both
    → Some (Plain (Run run slot print)) ≡ option_map run_of_values (values_in trace_options words)
is_run words v a b c d e f g run slot print read run_is slot_is print_is =
    let long : length v ≡ 7 = values_length trace_options words v read in
    rw (run_is, slot_is, print_is, read, value_there v 0 a (omega arith), value_there v 1 b (omega arith), value_there v 2 c (omega arith), value_there v 3 d (omega arith), value_there v 4 e (omega arith), value_there v 5 f (omega arith), value_there v 6 g (omega arith)) refl

pub returns-clause-asked : goal.returns-clause-asked
returns-clause-asked c =
    is_run (map string_bytes c.args.words.now) c.in_ok-workers.field-0 c.index-branch-0.result c.index-branch-1.result c.index-branch-2.result c.index-branch-3.result c.index-branch-4.result c.index-branch-5.result c.index-branch-6.result
    c.run_options.result c.number.result c.choice.result (read_here (goal.at.returns-clause-asked c).In_ok-workers) c.run_options.ensures.value c.number.ensures c.choice.ensures

pub run_options-requires-clause-workers : goal.run_options-requires-clause-workers
run_options-requires-clause-workers c =
    read_from trace_options (map string_bytes c.args.words.now) c.in_ok-workers.field-0 0 1 TEXT_WORKERS (codes "4") workers_option c.index-branch-0.result
    (read_here (goal.at.run_options-requires-clause-workers c).In_ok-workers) refl refl refl

pub run_options-requires-clause-initial : goal.run_options-requires-clause-initial
run_options-requires-clause-initial c =
    read_from trace_options (map string_bytes c.args.words.now) c.in_ok-workers.field-0 3 1 GREATEST_COST (codes "1000") initial_option c.index-branch-3.result
    (read_here (goal.at.run_options-requires-clause-initial c).In_ok-workers) refl refl refl

pub run_options-requires-clause-refresh : goal.run_options-requires-clause-refresh
run_options-requires-clause-refresh c =
    read_from trace_options (map string_bytes c.args.words.now) c.in_ok-workers.field-0 4 0 GREATEST_COST (codes "10000") refresh_option c.index-branch-4.result
    (read_here (goal.at.run_options-requires-clause-refresh c).In_ok-workers) refl refl refl

pub returns-clause-range : goal.returns-clause-range
returns-clause-range c =
    let slot = read_from trace_options (map string_bytes c.args.words.now) c.in_ok-workers.field-0 5 0 GREATEST_SLOT (codes "0") slot_option c.index-branch-5.result
    (read_here (goal.at.returns-clause-range c).In_ok-workers) refl refl refl in
    (c.run_options.ensures.range, number_at_most 0 GREATEST_SLOT c.number.result _ slot c.number.ensures)
