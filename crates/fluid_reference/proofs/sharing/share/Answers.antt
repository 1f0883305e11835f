use Rattle.std.proofs.Common.{arith, ◌≡◌, ◌<◌, length, All, get_or, map, subst, sym, ap, ◌∙◌, length-set}
use Rattle.std.proofs.lemmas.List.{get_or-map, length-map, take_all}
use Rattle.fq_model.specs.Level.{gift, IsLevel}
use Rattle.water_level.specs.Backlogs.{IsBacklog}
use Rattle.fluid_reference.specs.Slots.{want_of, AreBacklogged}
use Rattle.fluid_reference.proofs.Backlogged.{IsGiven, known_tenants, no_more, backlogs_in_range, given_one, given_low, level_is, served_is, still_are}
use Rattle.fluid_reference.proofs.sharing.share.Goals as goal
use Rattle.fluid_reference.proofs.sharing.share.Goals.{After-as_slice, After-give}

pub note_wants-requires-clause-known : goal.note_wants-requires-clause-known
note_wants-requires-clause-known c = known_tenants _ _ _ c.requires.backlogged

pub note_backlogged-requires-clause-known : goal.note_backlogged-requires-clause-known
note_backlogged-requires-clause-known c = known_tenants _ _ _ c.requires.backlogged

wants_are : (c : After-as_slice) → c.as_slice.result.now ≡ map (want_of c.args.costs.now c.args.served.now c.args.weights.now) c.args.backlogged.now
wants_are c = c.as_slice.ensures.value ∙ c.in_ok-note_wants.ensures

pub level-level-requires-clause-few : goal.level-level-requires-clause-few
level-level-requires-clause-few c = omega (arith, ap length (wants_are c), length-map c.args.backlogged.now (want_of c.args.costs.now c.args.served.now c.args.weights.now), no_more c.args.costs.now c.args.served.now c.args.backlogged.now c.requires.backlogged, c.requires.in_range.few)

pub level-level-requires-clause-in_range : goal.level-level-requires-clause-in_range
level-level-requires-clause-in_range c = subst (All IsBacklog) (sym (wants_are c)) (backlogs_in_range _ _ _ _ c.requires.in_range (known_tenants _ _ _ c.requires.backlogged))

-- the next tenant's gift
gift_is : (c : After-give) → c.give.result ≡ gift c.level-level.result (want_of c.args.costs.now c.args.served.now c.args.weights.now (get_or c.args.backlogged.now c.loop-k.k 0))
gift_is c = c.give.ensures ∙ ap (gift c.level-level.result) (c.index.ensures ∙ ap (λ bs. get_or bs c.loop-k.k c.index.result.now) c.in_ok-note_wants.ensures ∙ get_or-map (want_of c.args.costs.now c.args.served.now c.args.weights.now) c.args.backlogged.now c.loop-k.k 0 c.index.result.now c.loop-k-test.true)

pub overflow_add-served : goal.overflow_add-served
overflow_add-served c = omega (
  arith,
  gift_is (goal.at.overflow_add-served c).After-give,
  given_low c.level-level.result c.args.costs.now c.args.served.now c.args.weights.now c.args.backlogged.now c.loop-k.served c.loop-k.k c.requires.in_range c.requires.backlogged c.loop-k-test.true c.loop-k.invariant.given,
)

pub loop-k-preserved : goal.loop-k-preserved
loop-k-preserved c =
    let here : get_or c.args.backlogged.now c.loop-k.k 0 < length c.args.costs.now = known_tenants c.args.costs.now c.args.served.now c.args.backlogged.now c.requires.backlogged c.loop-k.k 0 c.loop-k-test.true in
    record {
      len = length-set c.loop-k.served _ _ ∙ c.loop-k.invariant.len;
      given = rw (gift_is (goal.at.loop-k-preserved c).After-give) (given_one c.level-level.result c.args.costs.now c.args.served.now c.args.weights.now c.args.backlogged.now c.loop-k.served c.loop-k.k c.loop-k-test.true (omega (arith, here, c.requires.in_range.served_len)) c.loop-k.invariant.len c.loop-k.invariant.given);
    }

pub returns-clause-next : goal.returns-clause-next
returns-clause-next c =
    let all : IsGiven c.level-level.result c.args.costs.now c.args.served.now c.args.weights.now c.args.backlogged.now c.loop-k.served = subst (λ w. IsGiven c.level-level.result c.args.costs.now c.args.served.now c.args.weights.now w c.loop-k.served) (take_all c.loop-k.k c.args.backlogged.now (omega (arith, c.loop-k-test.false))) c.loop-k.invariant.given in
    served_is c.args.cap c.level-level.result c.args.costs.now c.args.served.now c.args.weights.now c.args.backlogged.now c.loop-k.served c.requires.in_range c.requires.backlogged
    (subst (λ bs. IsLevel c.args.cap bs c.level-level.result) (wants_are (goal.at.returns-clause-next c).After-as_slice) c.level-level.ensures.level) c.loop-k.invariant.len all

pub returns-clause-level : goal.returns-clause-level
returns-clause-level c =
    level_is c.args.cap c.level-level.result c.args.costs.now c.args.served.now c.args.weights.now c.args.backlogged.now c.requires.in_range c.requires.backlogged
    (subst (λ bs. IsLevel c.args.cap bs c.level-level.result) (wants_are (goal.at.returns-clause-level c).After-as_slice) c.level-level.ensures.level)

pub returns-clause-left : goal.returns-clause-left
returns-clause-left c =
    let all : IsGiven c.level-level.result c.args.costs.now c.args.served.now c.args.weights.now c.args.backlogged.now c.loop-k.served = subst (λ w. IsGiven c.level-level.result c.args.costs.now c.args.served.now c.args.weights.now w c.loop-k.served) (take_all c.loop-k.k c.args.backlogged.now (omega (arith, c.loop-k-test.false))) c.loop-k.invariant.given in
    subst (AreBacklogged c.args.costs.now c.loop-k.served) (sym c.in_ok-note_backlogged.ensures) (still_are c.level-level.result c.args.costs.now c.args.served.now c.args.weights.now c.args.backlogged.now c.loop-k.served c.requires.in_range.served_len c.requires.backlogged all)

pub bounds-served-backlogged : goal.bounds-served-backlogged
bounds-served-backlogged c = subst (λ n. get_or c.args.backlogged.now c.loop-k.k 0 < n) (sym (c.loop-k.invariant.len ∙ c.requires.in_range.served_len)) (known_tenants c.args.costs.now c.args.served.now c.args.backlogged.now c.requires.backlogged c.loop-k.k 0 c.loop-k-test.true)

pub bounds-served-backlogged-in-loop-k : goal.bounds-served-backlogged-in-loop-k
bounds-served-backlogged-in-loop-k c = subst (λ n. get_or c.args.backlogged.now c.loop-k.k 0 < n) (sym (c.loop-k.invariant.len ∙ c.requires.in_range.served_len)) (known_tenants c.args.costs.now c.args.served.now c.args.backlogged.now c.requires.backlogged c.loop-k.k 0 c.loop-k-test.true)
