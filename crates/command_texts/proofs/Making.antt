-- Answers among others, and answers to an input by its contents.
use Rattle.std.proofs.Common.{ℕ, ◌≡◌, sym, subst, Bool, true, false, List, Result, Ok, Err}
use Rattle.std.specs.Prelude.{IfOk, IsOkAnd}
use Rattle.std.specs.String.{string_bytes}
use Rattle.std.proofs.lemmas.Bool.{false≢true}
use Rattle.program_model.specs.declared.ending.Output.{Output}
use Rattle.program_model.specs.declared.ending.Stop.{Stop}
use Rattle.program_model.specs.declared.ending.Stop.TheVariants as stops
use Rattle.program_model.specs.declared.fault.ScriptKind.{ScriptKind}
use Rattle.program_model.specs.declared.fault.TraceKind.{TraceKind}
use Rattle.program_model.specs.Answer.{Answer, Text, Message, message_line, IsReadAnswer, IsAnswerUnless}
use Rattle.program_model.specs.FaultTexts.{fault_text, trace_fault_text}
use Rattle.program_model.specs.Trace.{Trace}
use Rattle.program_model.specs.TraceCommand.{IsTraceAnswer}
use Rattle.program_model.specs.TraceGrammar.{trace_of}
use Rattle.journal_text.specs.Reading as documents
use Rattle.journal_text.specs.declared.fault.ScriptFault.{ScriptFault}
use Rattle.journal_text.specs.declared.fault.ScriptFault.TheVariants as document_faults
use Rattle.trace_reader.specs.Reading.{IsFirstFault}
use Rattle.trace_reader.specs.declared.fault.TraceFault.{TraceFault}
use Rattle.trace_reader.specs.declared.fault.TraceFault.TheVariants as faults
use Rattle.command_texts.specs.Making.{IsStop, Makes, TellsTraceFault, TellsDocumentFault, IsTraceFault}

-- a stop that is one of these answers is one of those
pub stop_as : (These Those : Answer → Type 0) (stop : Stop) → ((answer : Answer) → These answer → Those answer) → IsStop These stop → IsStop Those stop
stop_as These Those (stops.Message status message) more x = more (Message status (string_bytes message)) x
stop_as These Those stops.NoMemory more x = tt

-- a result that is one of these answers is one of those
pub makes_as : (These Those : Answer → Type 0) (made : Result Output Stop) → ((answer : Answer) → These answer → Those answer) → Makes These made → Makes Those made
makes_as These Those (Ok output) more x = more (Text output.status output.text.items) x
makes_as These Those (Err stop) more x = stop_as These Those stop more x

-- a stop with a text as a line is a stop with these words
pub told_is : {T E : Type 0} (bytes : T → List ℕ) (text : Result T E) (status : ℕ) (words : List ℕ) (stop : Stop) → IfOk text (λ t. bytes t ≡ words)
    → IsStop (λ answer. IsOkAnd text (λ t. answer ≡ Message status (message_line (bytes t)))) stop → IsStop (λ answer. answer ≡ Message status (message_line words)) stop
told_is bytes (Ok t) status words stop is x =
    stop_as (λ answer. answer ≡ Message status (message_line (bytes t))) (λ answer. answer ≡ Message status (message_line words)) stop (λ answer y. subst (λ w. answer ≡ Message status (message_line w)) is y) x
told_is bytes (Err fault) status words stop is x = stop_as (λ answer. ⊥) (λ answer. answer ≡ Message status (message_line words)) stop (λ answer y. absurd y) x

-- the answer where the condition holds, and the answer where it does not
pub so_answers : (b : Bool) (so answer : Answer) (Else : Answer → Type 0) → b ≡ true → answer ≡ so → IsAnswerUnless b so Else answer
so_answers true so answer Else is x = x
so_answers false so answer Else is x = absurd (false≢true is)

pub else_answers : (b : Bool) (so answer : Answer) (Else : Answer → Type 0) → b ≡ false → Else answer → IsAnswerUnless b so Else answer
else_answers true so answer Else is x = absurd (false≢true (sym is))
else_answers false so answer Else is x = x

-- an answer to the contents of an input is an answer to the input, whatever the texts of its faults
module _ {A F : Type 0} (fault_text : F → List ℕ) (IsOf : A → Answer → Type 0) (read : Result A (ℕ × F)) where
  pub of_said : (said : A) (answer : Answer) → read ≡ Ok said → IsOf said answer → IsReadAnswer fault_text IsOf read answer
  of_said said answer is x = subst (λ r. IsReadAnswer fault_text IsOf r answer) (sym is) x

  pub made_of_said : (said : A) (made : Result Output Stop) → read ≡ Ok said → Makes (IsOf said) made → Makes (IsReadAnswer fault_text IsOf read) made
  made_of_said said made is x = makes_as (IsOf said) (IsReadAnswer fault_text IsOf read) made (λ answer y. of_said said answer is y) x

-- so is an answer to the trace that it spells
pub made_of_read : (OfTrace : Trace → Answer → Type 0) (input : List ℕ) (T : Trace) (made : Result Output Stop) → trace_of input ≡ Ok T → Makes (OfTrace T) made → Makes (IsTraceAnswer OfTrace input) made
made_of_read OfTrace input T made is x = made_of_said trace_fault_text OfTrace (trace_of input) T made is x

-- the answer and the stop that name the first fault of an input
first_fault : (input : List ℕ) (fault : TraceFault) (answer : Answer) → IsFirstFault fault (trace_of input) → TellsTraceFault fault answer → IsTraceFault input answer
first_fault input (faults.At line kind) answer first x = subst (λ read. IsReadAnswer trace_fault_text (λ trace other. ⊥) read answer) (sym first) x
first_fault input faults.NoMemory answer first x = absurd x

pub first_stop : (input : List ℕ) (fault : TraceFault) (stop : Stop) → IsFirstFault fault (trace_of input) → IsStop (TellsTraceFault fault) stop → IsStop (IsTraceFault input) stop
first_stop input fault stop first x = stop_as (TellsTraceFault fault) (IsTraceFault input) stop (λ answer y. first_fault input fault answer first y) x

-- and its first fault whatever would be answered of a trace
of_fault : (OfTrace : Trace → Answer → Type 0) (read : Result Trace (ℕ × TraceKind)) (answer : Answer) → IsReadAnswer trace_fault_text (λ trace other. ⊥) read answer → IsReadAnswer trace_fault_text OfTrace read answer
of_fault OfTrace (Ok trace) answer x = absurd x
of_fault OfTrace (Err (line, fault)) answer x = x

pub stop_of_fault : (OfTrace : Trace → Answer → Type 0) (input : List ℕ) (stop : Stop) → IsStop (IsTraceFault input) stop → IsStop (IsTraceAnswer OfTrace input) stop
stop_of_fault OfTrace input stop x = stop_as (IsTraceFault input) (IsTraceAnswer OfTrace input) stop (λ answer y. of_fault OfTrace (trace_of input) answer y) x

-- answers that name the first fault of a script or a journal, by its title, whatever the answer to its contents
module _ {A : Type 0} (title : List ℕ) (IsOf : A → Answer → Type 0) (read : Result A (ℕ × ScriptKind)) where
  document_fault : (fault : ScriptFault) (answer : Answer) → documents.IsFirstFault fault read → TellsDocumentFault title fault answer → IsReadAnswer (fault_text title) IsOf read answer
  document_fault (document_faults.At line kind) answer first x = subst (λ r. IsReadAnswer (fault_text title) IsOf r answer) (sym first) x
  document_fault document_faults.NoMemory answer first x = absurd x

  pub document_stop : (fault : ScriptFault) (stop : Stop) → documents.IsFirstFault fault read → IsStop (TellsDocumentFault title fault) stop → IsStop (IsReadAnswer (fault_text title) IsOf read) stop
  document_stop fault stop first x = stop_as (TellsDocumentFault title fault) (IsReadAnswer (fault_text title) IsOf read) stop (λ answer y. document_fault fault answer first y) x
