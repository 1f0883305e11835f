-- Stages: the number of turns that they hold, and the facts about them that stay true.
use Rattle.std.proofs.Common.{◌≡◌, ◌≢◌, ℕ, ◌+◌, ◌≤◌, true, List, [], ◌∷◌, length, sym, refl, ap, ◌∙◌, arith}
use Rattle.fq_model.specs.declared.event.Entry.{Entry}
use Rattle.history_lock.specs.declared.table.View.{View}
use Rattle.history_lock.specs.declared.table.Stage.{Stage}
use Rattle.history_lock.specs.declared.table.Stage.TheVariants.{Spent, Idle, Waits, Served}
use Rattle.history_lock.specs.Views.{turns_of, turns_at, is_idle}
use Rattle.history_lock.specs.Rule.{total, Staged, Marks, Unless}
use Rattle.history_lock.proofs.Functions.{put, put_else}

at_most : (s : Stage) → turns_at s ≤ 1
at_most Spent = omega arith
at_most Idle = omega arith
at_most (Waits t) = omega arith
at_most (Served t p) = omega arith

pub turns_few : {F : Type 0} (vs : List (View F)) → total turns_of vs ≤ length vs
turns_few [] = omega arith
turns_few (x ∷ xs) = let s = turns_few xs in let t = at_most x.stage in omega arith

abbrev pub turn_or : Stage → ℕ
turn_or (Waits t) = t
turn_or (Served t p) = t
turn_or _ = 0

-- which stage it is
abbrev pub code : Stage → ℕ
code Spent = 0
code Idle = 1
code (Waits t) = 2
code (Served t p) = 3

pub unless : {P : Type 0} (s : Stage) → code s ≢ 0 → Unless P s → P
unless Spent n u = absurd (n refl)
unless Idle n u = u
unless (Waits t) n u = u
unless (Served t p) n u = u

pub unless_map : {P Q : Type 0} (s : Stage) → (P → Q) → Unless P s → Unless Q s
unless_map Spent f u = tt
unless_map Idle f u = f u
unless_map (Waits t) f u = f u
unless_map (Served t p) f u = f u

-- the marks after a turn is drawn by a seat, and after one ends
abbrev pub drawing : Marks → ℕ → Marks
drawing k me = record k { drawn = k.drawn + 1; holder = put k.holder k.drawn me }

abbrev pub ending : Marks → List Entry → Marks
ending k q = record k { served = k.served + 1; history = q }

-- the notes of other seats stay true where a turn is drawn
pub staged_drawn : (k : Marks) (seat me : ℕ) (s : Stage) → Staged k seat s → Staged (drawing k me) seat s
staged_drawn k seat me Spent x = tt
staged_drawn k seat me Idle x = tt
staged_drawn k seat me (Waits t) x = (x.0, (let l = x.1 in omega arith), put_else k.holder k.drawn me t (λ e. let l = x.1 in omega arith) ∙ x.2)
staged_drawn k seat me (Served t p) x = (x.0, (let l = x.1 in omega arith), put_else k.holder k.drawn me t (λ e. let l = x.1 in omega arith) ∙ x.2, x.3)

-- and where another seat's turn ends
pub staged_ended : (k : Marks) (q : List Entry) (seat me : ℕ) → k.holder k.served ≡ me → seat ≢ me → (s : Stage) → Staged k seat s → Staged (ending k q) seat s
staged_ended k q seat me here other Spent x = tt
staged_ended k q seat me here other Idle x = tt
staged_ended k q seat me here other (Waits t) x = let apart : t ≢ k.served = λ e. other (sym x.2 ∙ (ap k.holder e ∙ here)) in let l = x.0 in (omega arith, x.1, x.2)
staged_ended k q seat me here other (Served t p) x = absurd (other (sym x.2 ∙ (ap k.holder x.0 ∙ here)))

pub spent_quiet : (s : Stage) → code s ≡ 0 → turns_at s ≡ 0
spent_quiet Spent e = refl
spent_quiet Idle e = absurd (omega arith)
spent_quiet (Waits t) e = absurd (omega arith)
spent_quiet (Served t p) e = absurd (omega arith)

pub idle_is : (s : Stage) → is_idle s ≡ true → s ≡ Idle
idle_is Idle e = refl
idle_is Spent e = cc
idle_is (Waits t) e = cc
idle_is (Served t p) e = cc
