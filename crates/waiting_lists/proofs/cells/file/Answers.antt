use Rattle.std.proofs.Common.{◌%◌, None, length, get_or}
use Rattle.waiting_lists.proofs.Filed.{file_keeps, led_same, number_bound}
use Rattle.waiting_lists.proofs.cells.file.Goals as goal

pub lead_in_cell-requires : goal.lead_in_cell-requires
lead_in_cell-requires g c = number_bound c.args.slots.now c.args.slot c.args.request c.requires.held

pub returns-clause-keeps : goal.returns-clause-keeps
returns-clause-keeps g c =
    file_keeps c.args.cells.now c.args.slots.now c.lead_in_cell.new.slots c.args.slot c.args.request c.requires.some c.requires.held c.requires.kept c.lead_in_cell.ensures

pub returns-clause-lists : goal.returns-clause-lists
returns-clause-lists g c =
    led_same c.args.slots.now c.lead_in_cell.new.slots c.args.slot (get_or c.args.cells.now (c.args.request % length c.args.cells.now) None) (number_bound c.args.slots.now c.args.slot c.args.request c.requires.held) c.lead_in_cell.ensures
