use Rattle.std.proofs.Common.{◌⊎◌}
use Rattle.program_model.specs.CompareCommand.{IsRowsAnswer, IsLongAnswer}
use Rattle.program_model.specs.Simulated.{needed_entries}
use Rattle.command_texts.proofs.Reports.{of_entries}
use Rattle.twodfq_main.proofs.Comparisons.{rows_answer, long_stop, many_reason, twelve_rows}
use Rattle.twodfq_main.proofs.compare.compared.Goals as goal

pub print-text-requires : goal.print-text-requires
print-text-requires g c = rw c.as_slice.ensures.value (twelve_rows c.args.trace.now c.args.options c.in-Ok.rows.items c.in-Ok.ensures.rows)

pub returns-in_ok-text-in-Ok : goal.returns-in_ok-text-in-Ok
returns-in_ok-text-in-Ok g c =
    rw (c.success.ensures.status, c.success.ensures.text)
    (rows_answer c.args.trace.now c.args.options c.in-Ok.rows c.in-Ok.rows.items c.in_ok-text-in-Ok.field-0.items c.in-Ok.ensures.too_many c.in-Ok.ensures.rows (rw c.as_slice.ensures.value at c.in_ok-text-in-Ok.ensures))

pub returns-in-Err-TooManyEntries : goal.returns-in-Err-TooManyEntries
returns-in-Err-TooManyEntries g c =
    let T = c.args.trace.now in
    let o = c.args.options in
    let many = many_reason T o c.in-Err-TooManyEntries.field-0 c.in-Err-TooManyEntries.needed c.in-Err-TooManyEntries.field-0-is c.in-Err-TooManyEntries.ensures.reason in
    of_entries (λ a. IsRowsAnswer T o a ⊎ IsLongAnswer T o a) (needed_entries T.rows o.refresh) c.in-Err-TooManyEntries.needed c.too_many_entries.result many.0 many.1 c.too_many_entries.ensures

pub returns-in-Err-TooLong : goal.returns-in-Err-TooLong
returns-in-Err-TooLong g c =
    long_stop c.args.trace.now c.args.options c.in-Err-TooLong.field-0 _ c.in-Err-TooLong.cells c.too_many_cells.result c.in-Err-TooLong.field-0-is c.in-Err-TooLong.ensures.too_many c.in-Err-TooLong.ensures.reason c.too_many_cells.ensures
