-- The meaning of each status of the program, by the command and the bytes of the input, both ways.
use Rattle.std.specs.Prelude.{ℕ, ◌≡◌, ◌==◌, ◌↔◌, nat_lt, Bool, false, ◌||◌, if◌then◌else◌, List, [], length, Option, Some, ◌⊎◌, IsSome, IfSome, IsSomeAnd}
use Rattle.program_model.specs.declared.command.Command.{Command}
use Rattle.program_model.specs.declared.ending.Failure.TheVariants.{TooLong}
use Rattle.program_model.specs.Answer.{Answer, Message, answer_status, IsAnswerUnless}
use Rattle.program_model.specs.Commands.{reads_input, IsAnswer}
use Rattle.program_model.specs.Ending.{failure_message}
use Rattle.program_model.specs.Program.{Move, Fails, greatest_input}

-- a possible result for an input: that it is too long, or an answer of the command
abbrev pub IsSaid : (ℕ → Type 0) → Command → List ℕ → Answer → Type 0
IsSaid Told command input answer =
    IsAnswerUnless (nat_lt greatest_input (length input))
    (Message 3 (failure_message TooLong))
    (IsAnswer Told command input) answer

-- a possible result for it has this status
pub record MaySay (status : ℕ) (Told : ℕ → Type 0) (command : Command) (input : List ℕ) : Type 0 where
  pub answer : Answer
  pub is_said : IsSaid Told command input answer
  pub status_is : answer_status answer ≡ status

-- each possible result for it has this status
abbrev pub MustSay : ℕ → (ℕ → Type 0) → Command → List ℕ → Type 0
MustSay status Told command input =
    (answer : Answer) → IsSaid Told command input answer → answer_status answer ≡ status

-- the answer is a message at this status
pub record IsMessage (status : ℕ) (answer : Answer) : Type 0 where
  pub message : List ℕ
  pub answer_is : answer ≡ Message status message

-- each possible result for it is a message at this status, so that nothing is to be written
abbrev pub MustTell : ℕ → (ℕ → Type 0) → Command → List ℕ → Type 0
MustTell status Told command input =
    (answer : Answer) → IsSaid Told command input answer → IsMessage status answer

-- the input of a command, where it is known: the bytes of its source, if they are known; a command that reads no input
-- has the empty one
abbrev pub input_of : Command → Option (List ℕ) → Option (List ℕ)
input_of command bytes = if reads_input command then bytes else Some []

-- a command is asked for, and this is so of its input, where that is known
abbrev pub May : (Command → List ℕ → Type 0) → Option Command → Option (List ℕ) → Type 0
May So ask bytes = IsSomeAnd ask (λ command. IfSome (input_of command bytes) (So command))

-- a command is asked for, its input is known, and this is so of it
abbrev pub Must : (Command → List ℕ → Type 0) → Option Command → Option (List ℕ) → Type 0
Must So ask bytes = IsSomeAnd ask (λ command. IsSomeAnd (input_of command bytes) (So command))

-- the status is that of no result for an input
abbrev pub is_failure : ℕ → Bool
is_failure status = status == 2 || (status == 4 || (status == 5 || status == 6))

-- The meaning of a status, by the command and an input that is known. 2 comes exactly where no command is asked for, 4
-- only where reading failed, and 5 only where writing failed; any other status but 6 is that of a possible result.
-- The other way round: where a command is asked for, reading did not fail, and all possible results have one status,
-- then this status comes, or 6 where memory ran out, provided that writing did not fail either; and it comes even
-- where writing failed, if the possible results are messages, since then nothing is to be written.
pub record StatusMeans (Told : ℕ → Type 0) (ask : Option Command) (source sink : Move) (status : ℕ) : Type 0 where
  pub line : (status ≡ 2) ↔ ¬ IsSome ask
  pub reading : status ≡ 4 → Fails source
  pub writing : status ≡ 5 → Fails sink
  pub said : is_failure status ≡ false → May (MaySay status Told) ask source.before.bytes
  pub tells : (s : ℕ) → Must (MustTell s Told) ask source.before.bytes → ¬ Fails source → (status ≡ s) ⊎ (status ≡ 6)
  pub says :
      (s : ℕ) → Must (MustSay s Told) ask source.before.bytes → ¬ Fails source → ¬ Fails sink
      → (status ≡ s) ⊎ (status ≡ 6)
