use Rattle.std.proofs.Common.{◌≤◌, [], arith}
use Rattle.std.proofs.lemmas.List.Elements.{All-nil, All-cons}
use Rattle.vt_fixed.specs.declared.limits.TheConstants.{GREATEST_WEIGHT}
use Rattle.fq_model.specs.Limits.{IsWeight, IsTextWeight, as_text}
use Rattle.fq_model.specs.Rules.{FitsWeight, HasRoom}
use Rattle.fq_laws.proofs.History.Counts.{waiting_none, running_none}
use Rattle.limit_laws.specs.Examples.{raised_config, raised_history}
use Rattle.limit_laws.proofs.examples.raised.Goals as goal

pub returns-clause-limits : goal.returns-clause-limits
unfolding raised_config
returns-clause-limits c = record {
  workers = (omega arith, omega arith);
  tenants = (omega arith, omega arith);
  weights = All-cons IsWeight 1 [] (omega arith, omega arith) (All-nil IsWeight);
  kinds = (omega arith, omega arith);
  pairs = omega arith;
  entries = (omega arith, omega arith);
  requests = (omega arith, omega arith);
  initial = (omega arith, omega arith);
  own = record {
    workers = omega arith;
    tenants = omega arith;
    weights = All-cons (λ w. w ≤ GREATEST_WEIGHT) 1 [] (omega arith) (All-nil (λ w. w ≤ GREATEST_WEIGHT));
    pairs = omega arith;
    entries = omega arith;
    requests = omega arith;
  };
}

pub returns-clause-numbers : goal.returns-clause-numbers
unfolding raised_config
returns-clause-numbers c = record {
  workers = omega arith;
  tenants = omega arith;
  weights = All-cons IsTextWeight 1 [] (omega arith, omega arith) (All-nil IsTextWeight);
  pairs = omega arith;
  entries = omega arith;
  requests = omega arith;
}

room : HasRoom raised_config [] 2
unfolding raised_config
room = omega (arith, waiting_none, running_none)

fits : FitsWeight raised_config [] 0 1001
unfolding raised_config
fits = record { tenant_known = omega arith; weight_in_range = (omega arith, omega arith); room = room }

pub returns-clause-legal : goal.returns-clause-legal
unfolding raised_history
returns-clause-legal c = (tt, omega arith, omega arith, fits)

too_great : ¬ FitsWeight (as_text raised_config) [] 0 1001
unfolding raised_config
too_great f = let low : 1001 ≤ 1000 = f.weight_in_range.1 in absurd (omega arith)

pub returns-clause-not_of_text : goal.returns-clause-not_of_text
unfolding raised_history
returns-clause-not_of_text c = λ h. too_great h.3
