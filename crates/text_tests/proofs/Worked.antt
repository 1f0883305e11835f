-- Worked histories are legal.
use Rattle.std.proofs.Common.{[], ◌∷◌, List, refl, arith}
use Rattle.fq_model.specs.declared.event.Act.TheVariants.{Submit, Take, Done, Close, Weight, Withdraw}
use Rattle.fq_model.specs.declared.event.Entry.{Entry}
use Rattle.fq_model.specs.History.{history_of}
use Rattle.fq_model.specs.Rules.{IsLegal}
use Rattle.worked_histories.proofs.Computed.Histories.{computing}
use Rattle.worked_histories.proofs.Computed.Legal.{legal_is}
use Rattle.text_tests.specs.Worked.{worked_config}

-- two workers, one of which runs a long request
abbrev pub trace_entries : List Entry
trace_entries =
    record { who = 0; moment = 0; act = Submit 0 0 0 8 0 }
    ∷ record { who = 0; moment = 0; act = Submit 1 1 0 2 1 }
    ∷ record { who = 1; moment = 0; act = Submit 2 1 0 2 2 }
    ∷ record { who = 2; moment = 0; act = Take 0 1 2 }
    ∷ record { who = 3; moment = 0; act = Take 1 0 8 }
    ∷ record { who = 2; moment = 2; act = Done 0 1 2 }
    ∷ record { who = 2; moment = 2; act = Take 0 2 2 }
    ∷ record { who = 2; moment = 4; act = Done 0 2 2 }
    ∷ record { who = 3; moment = 8; act = Done 1 0 8 }
    ∷ record { who = 0; moment = 8; act = Close }
    ∷ []

pub trace_entries_legal : IsLegal (worked_config 2) (history_of trace_entries)
unfolding computing
trace_entries_legal = legal_is 3 2 (worked_config 2) (history_of trace_entries) (record { bound = omega arith; acts = refl }) refl

-- one worker, and a weight that changes in the middle
abbrev pub weight_entries : List Entry
weight_entries =
    record { who = 0; moment = 0; act = Submit 0 0 0 20 0 }
    ∷ record { who = 0; moment = 0; act = Submit 1 1 0 20 1 }
    ∷ record { who = 2; moment = 0; act = Take 0 0 20 }
    ∷ record { who = 1; moment = 10; act = Weight 0 3 }
    ∷ record { who = 2; moment = 20; act = Done 0 0 20 }
    ∷ record { who = 2; moment = 20; act = Take 0 1 20 }
    ∷ record { who = 2; moment = 40; act = Done 0 1 20 }
    ∷ record { who = 0; moment = 40; act = Close }
    ∷ []

pub weight_entries_legal : IsLegal (worked_config 1) (history_of weight_entries)
unfolding computing
weight_entries_legal = legal_is 2 2 (worked_config 1) (history_of weight_entries) (record { bound = omega arith; acts = refl }) refl

-- one worker, and a request that is withdrawn while another runs
abbrev pub withdrawn_entries : List Entry
withdrawn_entries =
    record { who = 0; moment = 0; act = Submit 0 0 0 8 0 }
    ∷ record { who = 0; moment = 0; act = Submit 1 1 0 2 1 }
    ∷ record { who = 0; moment = 0; act = Submit 2 1 0 2 2 }
    ∷ record { who = 2; moment = 0; act = Take 0 1 2 }
    ∷ record { who = 0; moment = 1; act = Withdraw 0 }
    ∷ record { who = 2; moment = 2; act = Done 0 1 2 }
    ∷ record { who = 2; moment = 2; act = Take 0 2 2 }
    ∷ record { who = 2; moment = 4; act = Done 0 2 2 }
    ∷ record { who = 0; moment = 4; act = Close }
    ∷ []

pub withdrawn_entries_legal : IsLegal (worked_config 1) (history_of withdrawn_entries)
unfolding computing
withdrawn_entries_legal = legal_is 3 2 (worked_config 1) (history_of withdrawn_entries) (record { bound = omega arith; acts = refl }) refl

-- two requests that wait
abbrev pub waiting_entries : List Entry
waiting_entries =
    record { who = 0; moment = 0; act = Submit 0 0 0 8 0 }
    ∷ record { who = 0; moment = 5; act = Submit 1 1 0 2 1 }
    ∷ []

pub waiting_entries_legal : IsLegal (worked_config 1) (history_of waiting_entries)
unfolding computing
waiting_entries_legal = legal_is 2 2 (worked_config 1) (history_of waiting_entries) (record { bound = omega arith; acts = refl }) refl

-- a request that runs for two seconds
abbrev pub long_entries : List Entry
long_entries =
    record { who = 0; moment = 0; act = Submit 0 1 0 9 0 }
    ∷ record { who = 2; moment = 0; act = Take 0 0 9 }
    ∷ record { who = 2; moment = 2000000; act = Done 0 0 9 }
    ∷ []

pub long_entries_legal : IsLegal (worked_config 1) (history_of long_entries)
unfolding computing
long_entries_legal = legal_is 1 2 (worked_config 1) (history_of long_entries) (record { bound = omega arith; acts = refl }) refl
