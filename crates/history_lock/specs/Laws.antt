-- Histories in order of time, as a lock keeps them, and with the newest entry first, as definitions have them.
use Rattle.std.specs.Prelude.{◌≡◌, ℕ, List, [], ◌∷◌, ◌++◌}
use Rattle.fq_model.specs.declared.event.Entry.{Entry}
use Rattle.fq_model.specs.History.{History, history_of}
use Rattle.fq_model.specs.Outcome.{own_entries}
use Rattle.history_lock.specs.Histories.{IsPrefix}

abbrev pub OwnTurnsRound : Type 0
OwnTurnsRound = (P : List Entry) (who : ℕ) → own_entries (history_of P) who ≡ history_of (own_entries P who)

abbrev pub PrefixTurnsRound : Type 0
PrefixTurnsRound =
    (front P : List Entry) → IsPrefix front P → (newer : History) × (history_of P ≡ newer ++ history_of front)

abbrev pub GrowthTurnsRound : Type 0
GrowthTurnsRound = (P : List Entry) (e : Entry) → history_of (P ++ e ∷ []) ≡ e ∷ history_of P
