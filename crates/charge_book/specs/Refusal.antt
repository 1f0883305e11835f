-- A refusal of the book as a cause of the scheduler.
use Rattle.fq_model.specs.declared.event.Cause.{Cause}
use Rattle.fq_model.specs.declared.event.Cause.TheVariants as cause
use Rattle.charge_book.specs.declared.refusal.BookRefusal.{BookRefusal}
use Rattle.charge_book.specs.declared.refusal.BookRefusal.TheVariants.{NotRunning, CostRange, Falling}

-- the cause for which a use or a cost is refused
abbrev pub cause_of : BookRefusal → Cause
cause_of NotRunning = cause.NotRunning
cause_of (CostRange given) = cause.Cost given
cause_of (Falling last given) = cause.Falling last given
