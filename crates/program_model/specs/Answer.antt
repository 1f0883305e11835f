-- The answer of a command to an input: a text or a message, and the program's status with it.
use Rattle.std.specs.Prelude.{ℕ, ◌≡◌, Bool, true, false, List, ◌++◌, Result, Ok, Err, codes}
use Rattle.program_model.specs.FaultTexts.{placed_text}

-- a text that is written, or a message in its place, and the status that goes with it
pub data Answer : Type 0 where
  Text : (status : ℕ) (bytes : List ℕ) → Answer
  Message : (status : ℕ) (bytes : List ℕ) → Answer

-- its status
abbrev pub answer_status : Answer → ℕ
answer_status (Text status bytes) = status
answer_status (Message status bytes) = status

-- a message is one line, after the program's name
abbrev pub message_line : List ℕ → List ℕ
message_line text = codes "twodfq: " ++ text ++ codes "\n"

-- the answer to an input with a fault of this text, at this line
abbrev pub fault_answer : ℕ → List ℕ → Answer
fault_answer line fault = Message 3 (message_line (placed_text line fault))

-- the answer to the contents of an input; or, where the input has a fault, its first fault, by its line and text
abbrev pub IsReadAnswer : {A F : Type 0} → (F → List ℕ) → (A → Answer → Type 0) → Result A (ℕ × F) → Answer → Type 0
IsReadAnswer fault_text IsOf (Ok said) answer = IsOf said answer
IsReadAnswer fault_text IsOf (Err (line, fault)) answer = answer ≡ fault_answer line (fault_text fault)

-- where the condition holds, the only answer is this one; where it doesn't, the answers are those of `Else`
abbrev pub IsAnswerUnless : Bool → Answer → (Answer → Type 0) → Answer → Type 0
IsAnswerUnless true so Else answer = answer ≡ so
IsAnswerUnless false so Else answer = Else answer
