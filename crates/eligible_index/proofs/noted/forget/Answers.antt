use Rattle.std.proofs.Common.{refl, ap, ◌∙◌, false, replicate}
use Rattle.std.proofs.lemmas.List.{length-set, get_or_default}
use Rattle.eligible_index.proofs.Notes.{after_first, after_next, after_last}
use Rattle.eligible_index.proofs.noted.forget.Goals as goal

pub loop-number-init : goal.loop-number-init
loop-number-init c = record { sized = refl; after = after_first _ _ c.requires }

pub loop-number-preserved : goal.loop-number-preserved
loop-number-preserved c = record {
  sized = length-set _ _ _ ∙ c.loop-number.invariant.sized;
  after = after_next c.loop-number.flags c.args.numbers.now c.loop-number.number-index _ c.loop-number.invariant.after c.loop-number-test.true (get_or_default c.args.numbers.now c.loop-number.number-index 0 _ c.loop-number-test.true);
}

pub returns : goal.returns
returns c = after_last c.loop-number.flags c.args.numbers.now c.loop-number.number-index c.loop-number.invariant.after c.loop-number-test.false ∙ ap (λ n. replicate n false) c.loop-number.invariant.sized
