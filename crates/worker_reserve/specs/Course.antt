-- The course of a credit: time passes, free workers are asked, and the number of workers changes.
use Rattle.std.specs.Prelude.{ℕ, ◌≡◌, ◌<◌, ◌≤◌, ◌+◌, ◌-◌, ◌*◌, max, List, [], ◌∷◌}
use Rattle.worker_reserve.specs.declared.credit.Passed.{Passed}
use Rattle.worker_reserve.specs.declared.rule.Budget.{Budget}
use Rattle.worker_reserve.specs.declared.rule.Question.{Question}
use Rattle.worker_reserve.specs.Credit.{CreditView, counted, after_passed, with_workers, budget_of}
use Rattle.worker_reserve.specs.Rule.{Declines, pause_of}

-- time passes; the free workers are asked, and so many decline; there are so many workers from now on
pub data Event : Type 0 where
  Passes : Passed → Event
  Asked : ℕ → Event
  Changes : ℕ → Event

-- the credit, how many workers declined when they were asked last, and when they are to be asked again at the latest
pub record Course : Type 0 where
  pub credit : CreditView
  pub declining : ℕ
  pub asked_again : ℕ

abbrev pub begun : CreditView → Course
begun v = record { credit = v; declining = 0; asked_again = 0 }

-- who declines is asked again after the pause that the credit allows
abbrev pub after_asked : Course → ℕ → Course
after_asked c declining = record c {
  declining = declining;
  asked_again = c.credit.moment + pause_of (budget_of c.credit) declining;
}

abbrev pub after_event : Course → Event → Course
after_event c (Passes p) = record c { credit = after_passed c.credit p }
after_event c (Asked declining) = after_asked c declining
after_event c (Changes n) = record c { credit = with_workers c.credit n }

-- the course from a credit on, by events of which the newest is the first
abbrev pub course : CreditView → List Event → Course
course v [] = begun v
course v (e ∷ older) = after_event (course v older) e

-- a worker that declines by the rule beside so many that decline already: what it knows, and the demands
pub record DeclinesBeside (b : Budget) (declining : ℕ) : Type 0 where
  pub asked : Question
  pub smaller : ℕ
  pub visitors : ℕ
  pub beside : asked.declining ≡ declining
  pub declines : Declines b asked smaller visitors

-- so many workers decline, one after the other
abbrev pub DeclineInTurn : Budget → ℕ → Type 0
DeclineInTurn b declining = (k : ℕ) → k < declining → DeclinesBeside b k

-- time goes on, no more decline than did when they were asked, and these are to be asked again in time
pub record MayPass (c : Course) (p : Passed) : Type 0 where
  pub in_order : c.credit.moment ≤ p.moment
  pub few : p.declining ≤ c.declining
  pub again : 0 < p.declining → p.asked_again ≤ c.asked_again

-- workers decline by the rule, and not more than there are
pub record MayAsk (c : Course) (declining : ℕ) : Type 0 where
  pub few : declining ≤ c.credit.workers
  pub by_rule : DeclineInTurn (budget_of c.credit) declining

-- the number of workers changes at any time
abbrev pub MayHappen : Course → Event → Type 0
MayHappen c (Passes p) = MayPass c p
MayHappen c (Asked declining) = MayAsk c declining
MayHappen c (Changes n) = Unit

abbrev pub IsCourse : CreditView → List Event → Type 0
IsCourse v [] = Unit
IsCourse v (e ∷ older) = IsCourse v older × MayHappen (course v older) e

-- the time for which requests ran, and that for which workers declined, as far as it counts
abbrev pub busy : Course → Event → ℕ
busy c (Passes p) = p.running * (p.moment - c.credit.moment)
busy c e = 0

abbrev pub idle : Course → Event → ℕ
idle c (Passes p) = p.declining * counted c.credit p
idle c e = 0

abbrev pub all_busy : CreditView → List Event → ℕ
all_busy v [] = 0
all_busy v (e ∷ older) = all_busy v older + busy (course v older) e

abbrev pub all_idle : CreditView → List Event → ℕ
all_idle v [] = 0
all_idle v (e ∷ older) = all_idle v older + idle (course v older) e

-- the greatest number of workers there were, from this many on
abbrev pub most_workers : ℕ → List Event → ℕ
most_workers first [] = first
most_workers first (Changes n ∷ older) = max n (most_workers first older)
most_workers first (e ∷ older) = most_workers first older

-- the number of workers stays as it is
abbrev pub KeepsWorkers : List Event → Type 0
KeepsWorkers [] = Unit
KeepsWorkers (Changes n ∷ older) = ⊥
KeepsWorkers (e ∷ older) = KeepsWorkers older
