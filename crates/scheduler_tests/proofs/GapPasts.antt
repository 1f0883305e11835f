-- That the pasts of the tests are legal.
use Rattle.std.proofs.Common.{ℕ, ◌≡◌, refl, sym, subst, arith, List, [], ◌∷◌}
use Rattle.fq_model.specs.declared.config.Config.{Config}
use Rattle.fq_model.specs.declared.config.Estimator.TheVariants.{Declared, Pessimistic}
use Rattle.fq_model.specs.declared.config.Policy.TheVariants.{Wfq, TwoDfq}
use Rattle.fq_model.specs.declared.event.Act.{Act}
use Rattle.fq_model.specs.declared.event.Act.TheVariants.{Submit, Take, Done, Close, Weight}
use Rattle.fq_model.specs.declared.event.Entry.{Entry}
use Rattle.fq_model.specs.History.{history_of}
use Rattle.fq_model.specs.Rules.{IsLegal}
use Rattle.worked_histories.proofs.Computed.Histories.{computing}
use Rattle.worked_histories.proofs.Computed.Legal.{legal_is}
use Rattle.scheduler_tests.specs.Gaps.{gap_config}

abbrev pub at : ℕ → Act → Entry
at moment act = record { who = 0; moment = moment; act = act }

abbrev pub submit : ℕ → ℕ → ℕ → ℕ → Entry
submit moment request tenant declared = at moment (Submit request tenant 0 declared 0)

abbrev pub take : ℕ → ℕ → ℕ → ℕ → Entry
take moment worker request estimate = at moment (Take worker request estimate)

abbrev pub done : ℕ → ℕ → ℕ → ℕ → Entry
done moment worker request cost = at moment (Done worker request cost)

-- a legal history is legal under an equal name
pub named : (C : Config) (past entries : List Entry) → past ≡ entries → IsLegal C (history_of entries) → IsLegal C (history_of past)
named C past entries same l = subst (λ (x : List Entry). IsLegal C (history_of x)) (sym same) l

-- ---- two workers that stagger

abbrev pub two_workers : List Entry
two_workers =
    submit 0 0 0 8
    ∷ submit 0 1 1 2
    ∷ submit 0 2 1 2
    ∷ take 0 0 1 2
    ∷ take 0 1 0 8
    ∷ done 2 0 1 2
    ∷ take 2 0 2 2
    ∷ done 4 0 2 2
    ∷ done 8 1 0 8
    ∷ at 8 Close
    ∷ []

pub two_workers_legal : (past : List Entry) → past ≡ two_workers → IsLegal (gap_config 2 1 TwoDfq Declared) (history_of past)
unfolding computing
two_workers_legal past same = named _ past two_workers same (legal_is 3 2 (gap_config 2 1 TwoDfq Declared) (history_of two_workers) (record { bound = omega arith; acts = refl }) refl)

-- ---- estimates that are not the declared numbers

abbrev pub estimated : List Entry
estimated =
    submit 0 0 0 1
    ∷ submit 0 1 0 1
    ∷ take 0 0 0 990
    ∷ submit 0 2 1 1
    ∷ done 3 0 0 3
    ∷ take 3 0 2 990
    ∷ done 993 0 2 990
    ∷ submit 993 3 1 1
    ∷ take 993 0 1 980
    ∷ []

pub estimated_legal : (past : List Entry) → past ≡ estimated → IsLegal (gap_config 1 2 TwoDfq Pessimistic) (history_of past)
unfolding computing
estimated_legal past same = named _ past estimated same (legal_is 4 2 (gap_config 1 2 TwoDfq Pessimistic) (history_of estimated) (record { bound = omega arith; acts = refl }) refl)

-- ---- a weight that rises

abbrev pub reweighed : List Entry
reweighed = submit 0 0 0 8 ∷ submit 0 1 1 4 ∷ at 0 (Weight 0 4) ∷ submit 0 2 0 8 ∷ take 0 0 0 8 ∷ []

pub reweighed_legal : (past : List Entry) → past ≡ reweighed → IsLegal (gap_config 1 1 Wfq Declared) (history_of past)
unfolding computing
reweighed_legal past same = named _ past reweighed same (legal_is 3 2 (gap_config 1 1 Wfq Declared) (history_of reweighed) (record { bound = omega arith; acts = refl }) refl)
