-- The entries of one caller, and the outcome of a list of calls.
use Rattle.std.specs.Prelude.{ℕ, ◌≡◌, ◌==◌, List, [], ◌∷◌, filter}
use Rattle.fq_model.specs.declared.config.Config.{Config}
use Rattle.fq_model.specs.declared.event.Call.{Call}
use Rattle.fq_model.specs.declared.event.Reply.{Reply}
use Rattle.fq_model.specs.History.{History}
use Rattle.fq_model.specs.Rules.{Answers}

-- the entries of caller p
abbrev pub own_entries : History → ℕ → History
own_entries P p = filter (λ e. e.who == p) P

-- from the history P on the calls are answered by the replies, one by one, and the history is then H
abbrev pub OutcomeFrom : Config → History → List Call → List Reply → History → Type 0
OutcomeFrom C P [] [] H = H ≡ P
OutcomeFrom C P (c ∷ cs) (r ∷ rs) H = (P2 : History) × Answers C P c r P2 × OutcomeFrom C P2 cs rs H
OutcomeFrom C P _ _ H = ⊥

-- the calls, made in order on a scheduler that was just opened, are answered by the replies, and leave the history H
abbrev pub Outcome : Config → List Call → List Reply → History → Type 0
Outcome C calls replies H = OutcomeFrom C [] calls replies H
