-- How much others are charged while the head of a tenant waits.
use Rattle.std.proofs.Common.{ℕ, zero, suc, ◌+◌, ◌*◌, ◌≤◌, ◌≡◌, ◌≢◌, ◌==◌, ◌∙◌, refl, sym, ap, subst, arith, inl, inr, [], ◌∷◌, ◌++◌, Some, pos, ◌≤ℤ◌, append_assoc, length}
use Rattle.std.specs.Prelude.{◌-ℤ◌}
use Rattle.std.proofs.lemmas.Int.{ints}
use Rattle.std.proofs.lemmas.Bool.{cases_Bool, eqb-false}
use Rattle.std.proofs.Math.Nat.{add-mul}
use Rattle.fq_model.specs.Ever.{most_lead}
use Rattle.fq_model.specs.declared.config.Config.{Config}
use Rattle.fq_model.specs.History.{History, head}
use Rattle.fq_model.specs.Charge.{virtual_charge}
use Rattle.fq_model.specs.Lead.{may_rise, may_fall, start_now}
use Rattle.fq_model.specs.Pace.{tag_base}
use Rattle.fq_model.specs.Sums.{sum_below}
use Rattle.fq_laws.proofs.Keys.Tags.{base_rises}
use Rattle.gap_laws.specs.Words.{IsPrefix, WaitsFrom}
use Rattle.gap_laws.proofs.Runs.{prefix_of_prefix}
use Rattle.gap_laws.proofs.Takes.{most_waits}
use Rattle.gap_laws.proofs.WorstCase.{longest, nothing}
use Rattle.ever_laws.specs.Laws.{most_charged, ChargeIsBounded, OthersAreBounded}
use Rattle.ever_laws.specs.Words.{IsPacedWithin}
use Rattle.ever_laws.proofs.Bound.{lead_bounded}
use Rattle.ever_laws.proofs.Counts.{no_longer, within_earlier, waits_or_not}
use Rattle.ever_laws.proofs.Entries.{starts_at}
use Rattle.ever_laws.proofs.Grounds.{runs_within}

bases_rise : (C : Config) (newer S : History) (t : ℕ) → tag_base C S t ≤ tag_base C (newer ++ S) t
bases_rise C [] S t = omega arith
bases_rise C (e ∷ newer) S t = omega (arith, bases_rise C newer S t, base_rises C (newer ++ S) e t)

-- (of f: start, rise, charge and base later, and start, fall, charge and base at S; of g: start, rise and fall later,
-- and start and rise at S)
no_more : (x2 u2 v2 b2 x d v b y2 w2 e2 y w lead : ℕ) → (pos (x2 + u2) -ℤ (pos y2 -ℤ pos e2)) ≤ℤ (pos lead -ℤ pos 1) → y2 + w2 ≤ y + w → (pos (y + w) -ℤ (pos x -ℤ pos d)) ≤ℤ (pos lead -ℤ pos 1) → x2 ≡ v2 + b2 → x ≡ v + b → b ≤ b2 → v2 ≤ v + 2 * lead
no_more x2 u2 v2 b2 x d v b y2 w2 e2 y w lead ahead still behind starts started bases = omega (arith, ints, ahead, still, behind, starts, started, bases)

-- where f waits at S
charged_waiting : (C : Config) (newer S : History) (f g r q M : ℕ) → f ≢ g → IsPacedWithin C (newer ++ S) M → WaitsFrom S (newer ++ S) g r → head S f ≡ Some q → virtual_charge C (newer ++ S) f ≤ virtual_charge C S f + 2 * most_lead C M
charged_waiting C newer S f g r q M ne is waits some =
    let at_s : IsPacedWithin C S M = within_earlier C newer S M is in
    let now : head (newer ++ S) g ≡ Some r = waits (newer ++ S) ([], refl) (newer, refl) in
    no_more (start_now C (newer ++ S) f) (may_rise (longest M) C (newer ++ S) f) (virtual_charge C (newer ++ S) f) (tag_base C (newer ++ S) f) (start_now C S f) (may_fall nothing C S f) (virtual_charge C S f) (tag_base C S f) (start_now C (newer ++ S) g) (may_rise (longest M) C (newer ++ S) g) (may_fall nothing C (newer ++ S) g) (start_now C S g) (may_rise (longest M) C S g) (most_lead C M)
    (lead_bounded C (newer ++ S) f g r M ne is now)
    (most_waits C newer S f g r M ne is.limits is.legal (no_longer C (newer ++ S) f g M is) waits)
    (lead_bounded C S g f q M (λ e. ne (sym e)) at_s some)
    (starts_at C (newer ++ S) f is.policy) (starts_at C S f is.policy) (bases_rise C newer S f)

rises_within : (C : Config) (P : History) (f M : ℕ) → IsPacedWithin C P M → may_rise (longest M) C P f ≤ C.workers * M
rises_within C P f M is = let within = runs_within C P f M is in omega (arith, within.parts, within.all)

pub charge_bounded : ChargeIsBounded
charge_bounded C newer S f g r M ne is waits =
    let rise = rises_within C S f M (within_earlier C newer S M is) in
    elim (waits_or_not C newer S f M is) [
      | inr n ↦ omega (arith, n.uncharged, rise)
      | inl w ↦
          let all : newer ++ S ≡ w.later ++ (w.mid ++ S) = ap (λ (P : History). P ++ S) w.split ∙ append_assoc w.later w.mid S in
          let from : IsPrefix S (w.mid ++ S) = (w.mid, refl) in
          let low : virtual_charge C (newer ++ S) f ≤ virtual_charge C (w.mid ++ S) f + 2 * most_lead C M = rw all (charged_waiting C w.later (w.mid ++ S) f g r w.request M ne (subst (λ H. IsPacedWithin C H M) all is)
          (λ Q inner over. waits Q (subst (IsPrefix Q) (sym all) inner) (prefix_of_prefix S (w.mid ++ S) Q from over)) w.some) in
          omega (arith, low, w.uncharged, rise)
    ]

sum_more : (a b : ℕ → ℕ) (x n : ℕ) → ((t : ℕ) → a t ≤ b t + x) → sum_below a n ≤ sum_below b n + n * x
unfolding sum_below
sum_more a b x zero each = omega arith
sum_more a b x (suc n) each = omega (arith, each n, sum_more a b x n each, add-mul 1 n x)

pub others_bounded : OthersAreBounded
others_bounded C newer S g r M is waits = sum_more _ _ (most_charged C M) (length C.weights) (λ t. elim (cases_Bool (t == g)) [
  | inl own ↦ rw own (omega arith)
  | inr other ↦ rw other (charge_bounded C newer S t g r M (eqb-false t g other) is waits)
])
