use Rattle.std.proofs.Common.{arith, inl, inr}
use Rattle.std.proofs.lemmas.Bool.{cases_lt}
use Rattle.water_level.proofs.Sums.{gifts_mono}
use Rattle.water_level.proofs.TheOne.{next_over}
use Rattle.water_level.proofs.levels.search.Goals as goal

pub search-init : goal.search-init
search-init c = record {
  order = elim (cases_lt c.args.low c.args.high) [
    | inl l ↦ l
    | inr l ↦ absurd (omega (arith, gifts_mono c.args.high c.args.low c.args.rows.now l, c.requires.fits, c.requires.over))
  ];
  fits = c.requires.fits;
  over = c.requires.over;
}

pub returns : goal.returns
returns c = next_over c.args.cap c.args.rows.now c.search.low c.search.high c.search.invariant.fits c.search.invariant.over (omega (arith, c.search-test.false))
