-- The answers of the echo.
use Rattle.std.specs.Prelude.{◌≡◌, ◌⊎◌, ℕ, ◌<◌, ◌≤◌, List, [], ◌∷◌, ◌++◌, length}
use Rattle.std.proofs.Common.{inl, inr, refl}
use Rattle.fq_model.specs.declared.event.Entry.{Entry}
use Rattle.fq_model.specs.declared.event.Act.TheVariants.{Close}
use Rattle.history_lock.specs.Histories.{Grows}

-- an echo's entries, and their greatest number
pub record EchoView : Type 0 where
  pub past : List Entry
  pub room : ℕ

-- the entry of a call
abbrev pub echoed : ℕ → ℕ → Entry
echoed who call = record { who = who; moment = call; act = Close }

-- the reply is the length of the past, which gains the call's entry where there is room
abbrev pub EchoAnswers : ℕ → List Entry → ℕ → ℕ → ℕ → List Entry → Type 0
EchoAnswers room P who call reply P2 =
    (reply ≡ length P) × (((length P < room) × (P2 ≡ P ++ echoed who call ∷ [])) ⊎ ((room ≤ length P) × (P2 ≡ P)))

pub echo_grows : (room : ℕ) (P : List Entry) (who call reply : ℕ) (P2 : List Entry)
    → EchoAnswers room P who call reply P2 → Grows who P P2
echo_grows room P who call reply P2 (is, inl h) = inr (echoed who call, h.1, refl)
echo_grows room P who call reply P2 (is, inr h) = inl h.1
