-- Runs over memory that never fails.
use Rattle.std.proofs.Common.{ℕ, ◌<◌, ◌≡◌, ◌≢◌, ap, subst, refl, List, [], length, Option, Some, None}
use Rattle.fq_memory.specs.Clean.{CleanMemory, IsClean}
use Rattle.fq_io.specs.Faults.{Rose}
use Rattle.fq_io.specs.Sinks.{AppendsPart}
use Rattle.fq_io.specs.Sources.{GaveAll}
use Rattle.fq_memory.proofs.Clean.{stays_zero, never_full}
use Rattle.program_model.specs.declared.command.Command.{Command}
use Rattle.program_model.specs.declared.command.Command.TheVariants.{Plain}
use Rattle.program_model.specs.declared.command.PlainCommand.TheVariants.{Gen}
use Rattle.program_model.specs.Answer.{Answer, Text}
use Rattle.program_model.specs.Commands.{reads_input, IsAnswer}
use Rattle.program_model.specs.Program.{Move, Device, Fails, ReadsInput, FailsWriting, IsRun}
use Rattle.command_texts.proofs.Runs.{run_means, run_cut}
use Rattle.law_book.specs.Programs.{NeverFailsReading, NeverFailsWriting, AreTextsShorter, IsCleanSink}

pub no_reading : (Told : ℕ → Type 0) → NeverFailsReading Told
no_reading Told ask source sink errs status run clean four =
    let rose : Rose source.before.faults source.after.faults = (run_means run).reading four in
    stays_zero (rw (clean.0, clean.1) at rose)

-- a text that was written in part is not shorter than the room
part_fits : (room : ℕ) (sink : Move) (text : List ℕ) → IsCleanSink room sink → length text < room → Fails sink → AppendsPart sink.before.bytes sink.after.bytes text → ⊥
part_fits room sink text clean short fails part =
    let written : AppendsPart (Some []) (Some clean.written) text = rw (ap (λ (d : Device). d.bytes) clean.fresh, clean.told) at part in
    let rose : Rose 0 sink.after.faults = rw (ap (λ (d : Device). d.faults) clean.fresh) at fails in
    never_full room written.0 sink.after.faults text clean.written clean.clean short written.2 rose

-- the bytes that were read are the input of the source
told_input : (input read : List ℕ) (left : Option (List ℕ)) → GaveAll (Some input) left read → read ≡ input
told_input input read None gave = absurd gave
told_input input read (Some ys) gave = gave.0

-- so an answer to the bytes that were read is an answer to the input of the source
told_answer : (Told : ℕ → Type 0) (command : Command) (source : Move) (input read : List ℕ) (answer : Answer) → source.before.bytes ≡ Some input → ReadsInput (reads_input command) source read
    → IsAnswer Told command read answer → IsAnswer Told command input answer
told_answer Told (Plain (Gen seed tenants requests print)) source input read answer told reads x = x
told_answer Told command source input read answer told reads x = subst (λ xs. IsAnswer Told command xs answer) (told_input input read source.after.bytes (rw told at reads)) x

pub no_writing : (Told : ℕ → Type 0) → NeverFailsWriting Told
no_writing Told ask source sink errs status room input run told clean short five =
    let cut = run_cut run five in
    let failed : FailsWriting Told cut.0 source sink = cut.2 in
    let answer = told_answer Told cut.0 source input failed.answered.input (Text failed.status failed.text) told failed.answered.read failed.answered.is_answer in
    part_fits room sink failed.text clean (short cut.0 failed.status failed.text cut.1 answer) failed.wrote.0 failed.wrote.1

-- over a clean sink, given before and after the run, no run ends with 5
pub never_writes : (old new : CleanMemory) {Told : ℕ → Type 0} {ask : Option Command} {left : Option (List ℕ)} {left_faults faults : ℕ} {input : List ℕ} {errs : Move} {status : ℕ}
    → old.written ≡ [] → old.faults ≡ 0 → Some new.room ≡ Some old.room → IsClean new.room new.written new.faults
    → IsRun Told ask (record { before = record { bytes = Some input; faults = faults }; after = record { bytes = left; faults = left_faults } })
    (record { before = record { bytes = Some old.written; faults = old.faults }; after = record { bytes = Some new.written; faults = new.faults } }) errs status
    → AreTextsShorter old.room Told ask input → status ≢ 5
never_writes old new {Told} {ask} {left} {left_faults} {faults} {input} {errs} {status} written none room clean run short five =
    let same : new.room ≡ old.room = cc in
    no_writing Told ask _ _ errs status old.room input run refl (record { fresh = rw (written, none) refl; written = new.written; told = refl; clean = rw same at clean }) short five
