use Rattle.std.proofs.Common.{◌≡◌, ◌*◌}
use Rattle.program_model.specs.Generator.{after_draws, generated_requests}
use Rattle.trace_reader.proofs.generating.generated.Given as goal

abbrev pub invariant-loop-j : goal.invariant-loop-j
invariant-loop-j l = record {
  numbers : l.numbers ≡ after_draws l.seed (3 * l.j);
  trace : l.draft ≡ generated_requests l.seed l.fn.tenants l.j;
}
