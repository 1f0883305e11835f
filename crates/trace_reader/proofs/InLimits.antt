-- The configuration of a trace is in its limits.
use Rattle.std.proofs.Common.{ℕ, ◌*◌, ◌≤◌, ◌≡◌, max, length, arith, List, Result, Ok, Err, IsOk, IfErr, subst, sym, ap, refl, ◌∙◌, Some, None}
use Rattle.fq_model.specs.declared.config.Config.{Config}
use Rattle.program_model.specs.declared.trace.RunOptions.{RunOptions}
use Rattle.fq_model.specs.declared.limits.TheConstants.{TEXT_PAIRS, TEXT_TENANTS, LEAST_ENTRIES, MOST_ENTRIES}
use Rattle.fq_model.specs.declared.limits.Limits.TheVariants.{Text}
use Rattle.fq_model.specs.declared.config.ConfigFault.{ConfigFault}
use Rattle.program_model.specs.Courses.{trace_config}
use Rattle.fq_model.specs.Limits.{InLimits, IsWithin, config_fault}
use Rattle.program_model.specs.RunLimits.{AreInRange}
use Rattle.program_model.specs.Trace.{Trace}
use Rattle.program_model.specs.TraceText.{IsLawfulTrace}
use Rattle.fq_laws.proofs.Faults.{no_fault}

module _ (T : Trace) (O : RunOptions) where
  pub trace_limits : (entries : ℕ) → IsLawfulTrace T → AreInRange O → IsWithin LEAST_ENTRIES MOST_ENTRIES entries → InLimits (trace_config T O entries)
  trace_limits entries lawful options within =
      let tenants : length T.weights ≤ TEXT_TENANTS = omega (arith, lawful.weighed, lawful.tenants.few) in
      let pairs : length T.weights * length T.kinds ≤ TEXT_PAIRS = subst (λ n. n * length T.kinds ≤ TEXT_PAIRS) (sym lawful.weighed) lawful.pairs in
      record {
        workers = (options.workers.0, omega (arith, options.workers.1));
        tenants = (omega (arith, lawful.weighed, lawful.some_tenant), omega (arith, tenants));
        weights = λ k d lt. ((lawful.weights k d lt).0, omega (arith, (lawful.weights k d lt).1));
        kinds = (lawful.some_kind, lawful.kinds.few);
        pairs = omega (arith, pairs);
        entries = (within.0, omega (arith, within.1));
        requests = (omega arith, omega (arith, lawful.few));
        initial = options.initial;
        own = record {
          workers = options.workers.1;
          tenants = tenants;
          weights = λ k d lt. (lawful.weights k d lt).1;
          pairs = pairs;
          entries = within.1;
          requests = omega (arith, lawful.few);
        };
      }

  -- a configuration of these numbers is accepted
  pub is_accepted : {A : Type 0} (weights : List ℕ) (kinds entries requests : ℕ) (made : Result A ConfigFault) → InLimits (trace_config T O entries) → weights ≡ T.weights → kinds ≡ length T.kinds → requests ≡ max 1 (length T.rows) →
      IfErr made (λ f. config_fault (record { limits = Text; workers = O.workers; weights = weights; kinds = kinds; entries = entries; requests = requests; policy = O.policy; estimate = O.estimate; initial = O.initial }) ≡ Some f) → IsOk made
  is_accepted weights kinds entries requests (Ok checked) p w k r h = refl
  is_accepted weights kinds entries requests (Err f) p w k r h =
      let D : Config = record { limits = Text; workers = O.workers; weights = weights; kinds = kinds; entries = entries; requests = requests; policy = O.policy; estimate = O.estimate; initial = O.initial } in
      let same : D ≡ trace_config T O entries = rw (w, k, r) refl in
      let n : None ≡ Some f = sym (no_fault (trace_config T O entries) p) ∙ sym (ap config_fault same) ∙ h in absurd (cc)
