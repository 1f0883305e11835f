-- A slot may be sent to another thread: it owns plain data on the heap, or nothing.
use Rattle.std.specs.Prelude.{Option, Some, None}
use Rattle.std.proofs.Crossing as heap
use Rattle.std_alloc.proofs.SendSync.{quiet, lies}
use Rattle.fq_model.specs.contracts.job.U64Job.TheImpl as job
use Rattle.shared_order.proofs.chooser.SharedChooser.TheSendSync as chooser_send
use Rattle.sched_state.proofs.scheduler.Scheduler.TheSendSync as scheduler_send
use Rattle.sched_journal.proofs.last_entries.LastEntries.TheSendSync as store_send
use mir.Raw.{raw as bare}
use base.Shift.{Keyless}
use denote.Builtin.{u64}
use denote.Memory.{lone}
use denote.RawPtr.{Ptr}
use denote.Struct.Owning.{shape, fields, to}
use denote.Struct.Struct.{exits_of}
use denote.Param.Send.{IsSend, AllSend, owning_send, struct_send, sendable}
use Rattle.twodfq_c.specs.Owned.{chooser_row, chooser_seen, store_row, store_seen, served, slot_owns}
use Rattle.twodfq_c.specs.contracts.slot.Slot.{the_row, the_type}

served_send : IsSend served
served_send = scheduler_send.the_send u64 chooser_row store_row job.ghosts chooser_seen store_seen (search sendable) chooser_send.the_send store_send.the_send

keyless : (p : Ptr) (o : Option served.Denot) → Keyless (slot_owns p o)
keyless p None = tt
keyless p (Some s) = (lies served served_send p s, heap.frees.frees (record { memory = record { seal = tt } }) (bare (lone served.mir)) p)

pub send : IsSend the_row
send =
    let all : AllSend (fields the_type) = (search sendable, tt) in
    owning_send the_type all (λ d. keyless d.at d.held)
    (λ k. quiet (to the_type) (exits_of k (fields the_type)) ((struct_send (shape the_type) all).leaving k))
