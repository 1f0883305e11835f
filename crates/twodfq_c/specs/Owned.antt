-- The scheduler that a slot owns.
use Rattle.std.specs.Prelude.{Option, Some, None}
use Rattle.std_heap.specs.contracts.GlobalAllocator.TheImpl as heap_impl
use Rattle.std.specs.Box.Ownership.{box_owns}
use Rattle.sched_state.specs.contracts.scheduler.Scheduler.{the_row}
use Rattle.sched_journal.specs.declared.store.Store as store
use Rattle.sched_journal.specs.contracts.last_entries.LastEntries as entries
use Rattle.sched_journal.specs.contracts.last_entries.LastEntriesStore.TheImpl as storing
use Rattle.tag_rules.specs.declared.chooser.Chooser.{Ghosts}
use Rattle.shared_order.specs.contracts.chooser.SharedChooser as chooser
use Rattle.shared_order.specs.contracts.chooser.SharedChooserChooser.TheImpl as choosing
use Rattle.fq_model.specs.contracts.job.U64Job.TheImpl as job
use mir.Syntax.{Ty}
use base.Fml.{Fml, ftrue}
use denote.Builtin.{u64}
use denote.RattleType.{RattleType}
use denote.RawPtr.{Ptr}

-- the chooser, and its view in contracts
abbrev pub chooser_row : RattleType
chooser_row = chooser.the_row

abbrev pub chooser_seen : Ghosts chooser_row.Denot
chooser_seen = choosing.ghosts

-- the store of the last entries, and its view in contracts
abbrev pub store_row : RattleType
store_row = entries.the_row

abbrev pub store_seen : store.Ghosts store_row.Denot
store_seen = storing.ghosts

-- a scheduler that keeps its last entries, and whose jobs are their labels
abbrev pub served : RattleType
served = the_row u64 chooser_row store_row job.ghosts chooser_seen store_seen

-- the right to free a block of the C heap
abbrev pub freed : Ty → Ptr → Fml
freed = heap_impl.ghosts.dealloc_token (record { memory = record { seal = tt } })

-- the scheduler at the pointer and the right to free it, or nothing
abbrev pub slot_owns : Ptr → Option served.Denot → Fml
slot_owns p None = ftrue
slot_owns p (Some s) = box_owns freed served p s
