-- A row whose kind the configuration has is not refused for its kind.
use Rattle.std.proofs.Common.{◌≡◌, ℕ, ◌≤◌, ◌<◌, nat_le, Bool, true, false, [], ◌∷◌, Some, sym, arith}
use Rattle.std.proofs.lemmas.Bool.{false≢true}
use Rattle.std.proofs.lemmas.Bool.Decides.{nat_tests}
use Rattle.fq_model.specs.declared.config.Config.{Config}
use Rattle.fq_model.specs.declared.event.Act.{Act}
use Rattle.fq_model.specs.declared.event.Cause.{Cause}
use Rattle.fq_model.specs.declared.event.Cause.TheVariants as cause
use Rattle.fq_model.specs.declared.event.Reply.TheVariants as answer
use Rattle.fq_model.specs.History.{History}
use Rattle.fq_model.specs.Rules.{IsAccepted, RefusedOrElse, first_true}
use Rattle.gate_rules.specs.declared.rows.Row.{Row}
use Rattle.worker_gate.specs.Feeding.{IsRefused, NotByKind}

-- of these causes the cause of the kind is not the first that is true
never_by_kind : (a b c d e f : Bool) (tenant kind declared slots entries k n : ℕ) (P Q : History) (who m : ℕ) (act : Act) → c ≡ false
    → RefusedOrElse (first_true ((a, cause.Closed) ∷ (b, cause.Tenant tenant) ∷ (c, cause.Kind kind) ∷ (d, cause.Cost declared) ∷ (e, cause.Slots slots) ∷ (f, cause.Full entries) ∷ []))
    P (answer.Refused (cause.Kind k)) Q (IsAccepted P who m act (answer.Request n) (answer.Refused (cause.Kind k)) Q)
    → ⊥
never_by_kind true b c d e f tenant kind declared slots entries k n P Q who m act off x = let same : answer.Refused (cause.Kind k) ≡ answer.Refused cause.Closed = x.0 in absurd (cc)
never_by_kind false true c d e f tenant kind declared slots entries k n P Q who m act off x = let same : answer.Refused (cause.Kind k) ≡ answer.Refused (cause.Tenant tenant) = x.0 in absurd (cc)
never_by_kind false false true d e f tenant kind declared slots entries k n P Q who m act off x = absurd (false≢true (sym off))
never_by_kind false false false true e f tenant kind declared slots entries k n P Q who m act off x = let same : answer.Refused (cause.Kind k) ≡ answer.Refused (cause.Cost declared) = x.0 in absurd (cc)
never_by_kind false false false false true f tenant kind declared slots entries k n P Q who m act off x = let same : answer.Refused (cause.Kind k) ≡ answer.Refused (cause.Slots slots) = x.0 in absurd (cc)
never_by_kind false false false false false true tenant kind declared slots entries k n P Q who m act off x = let same : answer.Refused (cause.Kind k) ≡ answer.Refused (cause.Full entries) = x.0 in absurd (cc)
never_by_kind false false false false false false tenant kind declared slots entries k n P Q who m act off x = let same : answer.Refused (cause.Kind k) ≡ answer.Request n = x.0 in absurd (cc)

kind_test : (kinds kind : ℕ) → kind < kinds → nat_le kinds kind ≡ false
kind_test kinds kind low = grind (arith, nat_tests)

module _ {J : Type 0} (label : J → ℕ) (kind_for : Row J → ℕ) (C : Config) (Tells : ℕ → Type 0) (number : ℕ) (seen : History) (row : Row J) where
  -- a row whose kind the configuration has was not refused for it
  pub not_by_kind : (kinds : ℕ) (why : Cause) → kind_for row < kinds → kinds ≤ C.kinds → IsRefused label kind_for C Tells number seen (Some (row, why)) → NotByKind (Some (row, why))
  not_by_kind kinds (cause.Kind kind) low few r =
      never_by_kind _ _ _ _ _ _ _ _ _ _ _ _ _ _ _ _ _ _ (kind_test C.kinds (kind_for row) (omega (arith, low, few))) r.2
  not_by_kind kinds cause.Closed low few r = tt
  not_by_kind kinds (cause.Tenant tenant) low few r = tt
  not_by_kind kinds (cause.Cost declared) low few r = tt
  not_by_kind kinds (cause.Slots slots) low few r = tt
  not_by_kind kinds (cause.Full entries) low few r = tt
  not_by_kind kinds (cause.Worker worker) low few r = tt
  not_by_kind kinds (cause.Busy request) low few r = tt
  not_by_kind kinds cause.NotRunning low few r = tt
  not_by_kind kinds (cause.Falling last given) low few r = tt
  not_by_kind kinds (cause.Weight weight) low few r = tt
  not_by_kind kinds (cause.Workers workers) low few r = tt
  not_by_kind kinds (cause.NotWaiting request) low few r = tt
