-- The schedulers of a service are legal.
use Rattle.std.proofs.Common.{ℕ, ◌≡◌, ◌∙◌, ◌*◌, ◌<◌, ◌≤◌, Bool, true, false, List, [], ◌∷◌, Option, Some, None, refl, sym, ap, subst, length, get_or, arith, nat_lt, cond}
use Rattle.std.specs.Prelude.{◌==◌, ◌||◌, is_some, position}
use Rattle.std.specs.List.{position_or_len}
use Rattle.std.proofs.lemmas.List.{length-replicate}
use Rattle.std.proofs.lemmas.List.Sums.{fails_before_first}
use Rattle.std.proofs.lemmas.Bool.Decides.{nat_tests}
use Rattle.vt_fixed.specs.declared.limits.TheConstants.{GREATEST_COST, MOST_WORKERS}
use Rattle.fq_model.specs.declared.limits.TheConstants.{MOST_TENANTS, MOST_KINDS, MOST_PAIRS, MOST_REQUESTS, MOST_LONG_ENTRIES, LEAST_ENTRIES}
use Rattle.fq_model.specs.declared.config.Config.{Config}
use Rattle.fq_model.specs.declared.config.ConfigFault.{ConfigFault}
use Rattle.fq_model.specs.declared.limits.Limits.{Limits}
use Rattle.fq_model.specs.declared.limits.Limits.TheVariants.{Text, Whole, Long}
use Rattle.fq_model.specs.declared.event.Act.{Act}
use Rattle.fq_model.specs.declared.event.Act.TheVariants.{Submit, Take, Report, Done, Close, Weight, Workers, Withdraw}
use Rattle.fq_model.specs.declared.event.Call.{Call}
use Rattle.fq_model.specs.declared.event.Reply.{Reply}
use Rattle.fq_model.specs.History.{History, weight_at, weight_after}
use Rattle.fq_model.specs.Limits.{IsWithin, InLimits, is_outside, bad_weight, config_fault, most_workers, most_tenants, greatest_weight, most_pairs, most_entries, most_requests}
use Rattle.fq_model.specs.Rules.{Fits, IsLegal}
use Rattle.fq_model.specs.Rows.{first_true}
use Rattle.fq_model.specs.Sums.{list_below}
use Rattle.fq_laws.proofs.Limits.{no_greater_weight}
use Rattle.fq_laws.proofs.Outcome.{outcome_from_legal}
use Rattle.fq_laws.proofs.Rules.Answers.{answer_legal}
use Rattle.fq_laws.proofs.Lists.{list_length, list_at}
use Rattle.service_model.specs.declared.config.ServiceConfig.{ServiceConfig}
use Rattle.service_model.specs.declared.config.ServiceFault.{ServiceFault}
use Rattle.service_model.specs.View.{Scheduler, ServiceView}
use Rattle.service_model.specs.Opening.{first_fault, own_fault, service_fault, opened_scheduler}
use Rattle.service_model.specs.Scheduling.{Makes, MakesNow, MakesBefore}
use Rattle.service_model.specs.Rolling.{RollsOver, next_config}
use Rattle.service_model.specs.Runs.{Step, IsRun, service_after}
use Rattle.service_model.specs.Laws.{IsServing, AreServing, SchedulersAreLegal}
use Rattle.service_laws.proofs.Moves.{SameSchedulers, IsClosed}
use Rattle.service_laws.proofs.Calls.{none_holds, answers}

-- ---- weights of a legal history

weight_next : (C : Config) (P : History) (m t : ℕ) (a : Act) → IsWithin 1 (greatest_weight C.limits) (weight_at C P t)
    → Fits C P m a → IsWithin 1 (greatest_weight C.limits) (weight_after t a (weight_at C P t))
weight_next C P m t (Weight tenant weight) older f = chosen (tenant == t) f.weight_in_range
  where
    chosen : (b : Bool) → IsWithin 1 (greatest_weight C.limits) weight
        → IsWithin 1 (greatest_weight C.limits) (cond b weight (weight_at C P t))
    chosen true w = w
    chosen false w = older
weight_next C P m t (Submit request tenant kind declared label) older f = older
weight_next C P m t (Take worker request estimate) older f = older
weight_next C P m t (Report worker request used) older f = older
weight_next C P m t (Done worker request cost) older f = older
weight_next C P m t Close older f = older
weight_next C P m t (Workers count) older f = older
weight_next C P m t (Withdraw request) older f = older

own_weight : (C : Config) (P : History) (t : ℕ) → InLimits C → IsLegal C P → t < length C.weights
    → IsWithin 1 (greatest_weight C.limits) (weight_at C P t)
unfolding weight_at
own_weight C [] t lim l within = ((lim.weights t 0 within).0, lim.own.weights t 0 within)
own_weight C (e ∷ P) t lim l within = weight_next C P e.moment t e.act (own_weight C P t lim l.0 within) l.3

-- ---- a next scheduler

module _ (v : ServiceView) (lim : InLimits v.present.config) (legal : IsLegal v.present.config v.present.history)
    (slots : length v.slots ≡ length v.present.config.weights) where
  abbrev weights : List ℕ
  weights = list_below (weight_at v.present.config v.present.history) (length v.slots)

  size : length weights ≡ length v.present.config.weights
  size = list_length (weight_at v.present.config v.present.history) (length v.slots) ∙ slots

  weight_of : (k d : ℕ) → k < length weights → IsWithin 1 (greatest_weight v.present.config.limits) (get_or weights k d)
  weight_of k d low =
      let inside : k < length v.present.config.weights = omega (arith, low, size) in
      subst (IsWithin 1 (greatest_weight v.present.config.limits))
      (sym (list_at (weight_at v.present.config v.present.history) (length v.slots) k d (omega (arith, inside, slots))))
      (own_weight v.present.config v.present.history k lim legal inside)

  pub next_in_limits : InLimits (next_config v)
  next_in_limits = record {
    workers = lim.workers;
    tenants = subst (IsWithin 1 _) (sym size) lim.tenants;
    weights = λ k d low.
        let w = weight_of k d low in
        (w.0, omega (arith, w.1, no_greater_weight v.present.config.limits));
    kinds = lim.kinds;
    pairs = subst (λ n. n * v.present.config.kinds ≤ MOST_PAIRS) (sym size) lim.pairs;
    entries = lim.entries;
    requests = lim.requests;
    initial = lim.initial;
    own = record {
      workers = lim.own.workers;
      tenants = omega (arith, size, lim.own.tenants);
      weights = λ k d low. (weight_of k d low).1;
      pairs = subst (λ n. n * v.present.config.kinds ≤ most_pairs v.present.config.limits) (sym size) lim.own.pairs;
      entries = lim.own.entries;
      requests = lim.own.requests;
    };
  }

-- ---- a configuration without a fault

record AreFalse (b1 b2 b3 b4 b5 b6 b7 b8 : Bool) : Type 0 where
  pub first : b1 ≡ false
  pub second : b2 ≡ false
  pub third : b3 ≡ false
  pub fourth : b4 ≡ false
  pub fifth : b5 ≡ false
  pub sixth : b6 ≡ false
  pub seventh : b7 ≡ false
  pub eighth : b8 ≡ false

all_false : {A : Type 0} (b1 b2 b3 b4 b5 b6 b7 b8 : Bool) (a1 a2 a3 a4 a5 a6 a7 a8 : A)
    → first_true
    ((b1, a1) ∷ (b2, a2) ∷ (b3, a3) ∷ (b4, a4) ∷ (b5, a5) ∷ (b6, a6) ∷ (b7, a7) ∷ (b8, a8) ∷ []) ≡ None
    → AreFalse b1 b2 b3 b4 b5 b6 b7 b8
all_false b1 b2 b3 b4 b5 b6 b7 b8 a1 a2 a3 a4 a5 a6 a7 a8 e =
    let n = none_holds ((b1, a1) ∷ (b2, a2) ∷ (b3, a3) ∷ (b4, a4) ∷ (b5, a5) ∷ (b6, a6) ∷ (b7, a7) ∷ (b8, a8) ∷ []) e in
    record {
      first = n.0;
      second = n.1.0;
      third = n.1.1.0;
      fourth = n.1.1.1.0;
      fifth = n.1.1.1.1.0;
      sixth = n.1.1.1.1.1.0;
      seventh = n.1.1.1.1.1.1.0;
      eighth = n.1.1.1.1.1.1.1.0;
    }

within : (low high n : ℕ) → is_outside low high n ≡ false → IsWithin low high n
within low high n e = (first low high n e, second low high n e)
  where
    first : (low high n : ℕ) → nat_lt n low || nat_lt high n ≡ false → low ≤ n
    first low high n e = grind (arith, nat_tests)

    second : (low high n : ℕ) → nat_lt n low || nat_lt high n ≡ false → n ≤ high
    second low high n e = grind (arith, nat_tests)

not_above : (a b : ℕ) → nat_lt a b ≡ false → b ≤ a
not_above a b e = grind (arith, nat_tests)

-- if no item is found that passes, each fails
no_position : {X : Type 0} (test : X → Bool) (xs : List X) → is_some (position test xs) ≡ false → (i : ℕ) (d : X)
    → i < length xs → test (get_or xs i d) ≡ false
no_position test xs e i d inside = fails_before_first test xs i d (omega (arith, past (nat_lt (position_or_len test xs) (length xs)) refl e, inside))
  where
    past : (b : Bool) → nat_lt (position_or_len test xs) (length xs) ≡ b
        → is_some (cond b (Some (position_or_len test xs)) None) ≡ false → length xs ≤ position_or_len test xs
    past true is k = let never : true ≡ false = k in absurd (cc)
    past false is k = not_above (position_or_len test xs) (length xs) is

weights_within : (C : Config) → is_some (bad_weight (greatest_weight C.limits) C.weights) ≡ false → (i d : ℕ)
    → i < length C.weights → IsWithin 1 (greatest_weight C.limits) (get_or C.weights i d)
weights_within C e i d inside =
    within 1 (greatest_weight C.limits) (get_or C.weights i d)
    (no_position (is_outside 1 (greatest_weight C.limits)) C.weights e i d inside)

-- no limits are above the widest
record AreWidest (limits : Limits) : Type 0 where
  pub workers : most_workers limits ≤ MOST_WORKERS
  pub tenants : most_tenants limits ≤ MOST_TENANTS
  pub pairs : most_pairs limits ≤ MOST_PAIRS
  pub entries : most_entries limits ≤ MOST_LONG_ENTRIES
  pub requests : most_requests limits ≤ MOST_REQUESTS

are_widest : (limits : Limits) → AreWidest limits
are_widest Text = record { workers = omega arith; tenants = omega arith; pairs = omega arith; entries = omega arith; requests = omega arith }
are_widest Whole = record { workers = omega arith; tenants = omega arith; pairs = omega arith; entries = omega arith; requests = omega arith }
are_widest Long = record { workers = omega arith; tenants = omega arith; pairs = omega arith; entries = omega arith; requests = omega arith }

in_limits : (C : Config) → config_fault C ≡ None → InLimits C
in_limits C e =
    let f = all_false (is_outside 1 (most_workers C.limits) C.workers)
    (is_outside 1 (most_tenants C.limits) (length C.weights))
    (is_some (bad_weight (greatest_weight C.limits) C.weights)) (is_outside 1 MOST_KINDS C.kinds)
    (nat_lt (most_pairs C.limits) (length C.weights * C.kinds))
    (is_outside LEAST_ENTRIES (most_entries C.limits) C.entries)
    (is_outside 1 (most_requests C.limits) C.requests) (is_outside 1 GREATEST_COST C.initial) _ _ _ _ _ _ _ _ e in
    let widest = are_widest C.limits in
    let workers = within 1 (most_workers C.limits) C.workers f.first in
    let tenants = within 1 (most_tenants C.limits) (length C.weights) f.second in
    let entries = within LEAST_ENTRIES (most_entries C.limits) C.entries f.sixth in
    let requests = within 1 (most_requests C.limits) C.requests f.seventh in
    let pairs = not_above (most_pairs C.limits) (length C.weights * C.kinds) f.fifth in
    record {
      workers = (workers.0, omega (arith, workers.1, widest.workers));
      tenants = (tenants.0, omega (arith, tenants.1, widest.tenants));
      weights = λ i d inside.
          let w = weights_within C f.third i d inside in
          (w.0, omega (arith, w.1, no_greater_weight C.limits));
      kinds = within 1 MOST_KINDS C.kinds f.fourth;
      pairs = omega (arith, pairs, widest.pairs);
      entries = (entries.0, omega (arith, entries.1, widest.entries));
      requests = (requests.0, omega (arith, requests.1, widest.requests));
      initial = within 1 GREATEST_COST C.initial f.eighth;
      own = record {
        workers = workers.1;
        tenants = tenants.1;
        weights = λ i d inside. (weights_within C f.third i d inside).1;
        pairs = pairs;
        entries = entries.1;
        requests = requests.1;
      };
    }

-- ---- the moves

first_none : (f : Option ConfigFault) (o : Option ServiceFault) → first_fault f o ≡ None → f ≡ None
first_none None o e = refl
first_none (Some f) o e = let k : Some _ ≡ None = e in absurd (cc)

module _ (c : ServiceConfig) where
  -- the schedulers serve, and the present one has a weight for each slot
  record Serve (v : ServiceView) : Type 0 where
    pub serving : AreServing c v
    pub slots : length v.slots ≡ length v.present.config.weights

  moved : (v w : ServiceView) → SameSchedulers v w → length w.slots ≡ length v.slots → Serve v → Serve w
  moved v w same slots s = record {
    serving = record {
      present = subst (IsServing c.scheduler) (sym same.present) s.serving.present;
      former = subst (IsServing c.scheduler) (sym same.former) s.serving.former;
    };
    slots = slots ∙ s.slots ∙ ap (λ (x : Scheduler). length x.config.weights) (sym same.present);
  }

  -- a scheduler that answers a call serves as before
  made : (s t : Scheduler) (asked : Call) (r : Reply) → Makes s asked r t → IsServing c.scheduler s
      → IsServing c.scheduler t
  made s t asked r x serves = record {
    config_is = subst (λ K. K ≡ record c.scheduler { weights = K.weights }) (sym x.0) serves.config_is;
    in_limits = subst InLimits (sym x.0) serves.in_limits;
    legal =
        subst (λ K. IsLegal K t.history) (sym x.0)
        (answer_legal s.config s.history asked r t.history serves.in_limits serves.legal x.1);
  }

  made_now : (v : ServiceView) (asked : Call) (r : Reply) (w : ServiceView) → MakesNow v asked r w → Serve v → Serve w
  made_now v asked r w x s =
      moved (record v { present = x.next }) w
      (record { present = ap (λ (u : ServiceView). u.present) x.after; former = ap (λ (u : ServiceView). u.former) x.after })
      (ap (λ (u : ServiceView). length u.slots) x.after)
      (record {
        serving = record {
          present = made v.present x.next asked r x.makes s.serving.present;
          former = s.serving.former;
        };
        slots = s.slots ∙ ap (λ (K : Config). length K.weights) (sym x.makes.0);
      })

  made_before : (v : ServiceView) (asked : Call) (r : Reply) (w : ServiceView) → MakesBefore v asked r w → Serve v
      → Serve w
  made_before v asked r w x s =
      moved (record v { former = x.next }) w
      (record { present = ap (λ (u : ServiceView). u.present) x.after; former = ap (λ (u : ServiceView). u.former) x.after })
      (ap (λ (u : ServiceView). length u.slots) x.after)
      (record {
        serving = record {
          present = s.serving.present;
          former = made v.former x.next asked r x.makes s.serving.former;
        };
        slots = s.slots;
      })

  rolled : (m : ℕ) (v w : ServiceView) → RollsOver c m v w → Serve v → Serve w
  rolled m v w x s =
      let p = s.serving.present in
      let limits = next_in_limits v p.in_limits p.legal s.slots in
      let u : ServiceView = record v { present = x.next; former = x.last } in
      moved u w
      (record { present = ap (λ (y : ServiceView). y.present) x.after; former = ap (λ (y : ServiceView). y.former) x.after })
      (ap (λ (y : ServiceView). length y.slots) x.after)
      (record {
        serving = record {
          present = record {
            config_is = subst (λ K. K ≡ record c.scheduler { weights = K.weights }) (sym x.next_is) (ap (λ (K : Config). record K { weights = (next_config v).weights }) p.config_is);
            in_limits = subst InLimits (sym x.next_is) limits;
            legal = outcome_from_legal x.next.config [] x.next.history _ _ (subst InLimits (sym x.next_is) limits) tt x.begins;
          };
          former = record {
            config_is = subst (λ K. K ≡ record c.scheduler { weights = K.weights }) (sym x.last_is) p.config_is;
            in_limits = subst InLimits (sym x.last_is) p.in_limits;
            legal =
                outcome_from_legal x.last.config v.present.history x.last.history _ _
                (subst InLimits (sym x.last_is) p.in_limits)
                (subst (λ K. IsLegal K v.present.history) (sym x.last_is) p.legal)
                x.ends;
          };
        };
        slots =
            sym (list_length (weight_at v.present.config v.present.history) (length v.slots))
            ∙ ap (λ (K : Config). length K.weights) (sym x.next_is);
      })

  is_closed : IsClosed c (λ v w. Serve v → Serve w)
  is_closed = record {
    joins = λ v u w a b s. b (a s);
    stays = λ v w x. moved v w x.schedulers x.slots;
    makes_now = made_now;
    makes_before = made_before;
    rolls_over = rolled;
    turns = λ v w x. moved v w x.schedulers x.slots;
    admits = λ v w x. moved v w x.schedulers x.slots;
  }

  serves : service_fault c ≡ None → (run : List Step) → IsRun c run → Serve (service_after c run)
  serves sound [] run =
      let first : IsServing c.scheduler (opened_scheduler c.scheduler) = record {
        config_is = refl;
        in_limits = in_limits c.scheduler (first_none (config_fault c.scheduler) (own_fault c) sound);
        legal = tt;
      } in
      record {
        serving = record { present = first; former = first };
        slots = length-replicate (length c.scheduler.weights) (record { generation = 0; limit = c.most_running; began_to_wait = None });
      }
  serves sound (step ∷ older) run =
      answers c (λ v w. Serve v → Serve w) is_closed step.before step.asked step.outcome step.after run.2
      (subst Serve (sym run.1) (serves sound older run.0))

pub schedulers_are_legal : SchedulersAreLegal
schedulers_are_legal c run sound is_run = (serves c sound run is_run).serving
