use Rattle.std.proofs.Common.{◌+◌, ◌-◌, ◌≤◌, ◌≡◌, length, ℤ, ◌≤ℤ◌, All, arith, rules, refl, sym, subst, ◌∙◌, w64}
use mir.Val.{SFits, to_z, of_z}
use Rattle.std.proofs.lemmas.Int.{to_z-of_z}
use Rattle.lag_report.specs.declared.samples.Ranked.{Ranked}
use Rattle.lag_report.specs.Ranked.{StandsAt}
use Rattle.lag_report.proofs.Ranks.{selected, further, those_after, rank_of}
use Rattle.lag_report.proofs.samples.rank.Goals as goal
use Rattle.lag_report.proofs.samples.rank.Goals.{After-select_nth_unstable-middle}

-- the sample in the middle, as it is read
middle : (c : After-select_nth_unstable-middle) (z : ℤ) → z ≡ c.select_nth_unstable-middle.result.1.now → StandsAt c.args.samples.now c.place-p50_at.result z c.select_nth_unstable-middle.result.2.now
middle c z is =
    let found = c.select_nth_unstable-middle in
    selected c.args.samples.now found.result.0.now found.result.2.now c.place-p50_at.result found.result.1.now z found.ensures.permutation found.ensures.front_len found.ensures.partitioned is

-- the number of samples after the place
beyond : (c : After-select_nth_unstable-middle) → c.place-p50_at.result + 1 + length c.select_nth_unstable-middle.result.2.now ≡ length c.args.samples.now
beyond c = those_after c.args.samples.now c.select_nth_unstable-middle.result.2.now c.place-p50_at.result c.select_nth_unstable-middle.result.1.now (middle c _ refl)

-- places rise with the percentile
up : (c : After-select_nth_unstable-middle) → c.place-p50_at.result ≤ c.place-p90_at.result
up c = omega (arith, c.place-p50_at.ensures.rank, c.place-p90_at.ensures.rank)

on : (c : After-select_nth_unstable-middle) → c.place-p90_at.result ≤ c.place-p99_at.result
on c = omega (arith, c.place-p90_at.ensures.rank, c.place-p99_at.ensures.rank)

pub select-p90-requires-clause-inside : goal.select-p90-requires-clause-inside
select-p90-requires-clause-inside c = omega (arith, beyond (goal.at.select-p90-requires-clause-inside c).After-select_nth_unstable-middle, c.place-p90_at.ensures.within)

pub select-p99-requires-clause-inside : goal.select-p99-requires-clause-inside
select-p99-requires-clause-inside c =
    let b : After-select_nth_unstable-middle = (goal.at.select-p99-requires-clause-inside c).After-select_nth_unstable-middle in
    omega (arith, up b, beyond b, those_after _ _ _ _ c.select-p90.ensures, c.place-p99_at.ensures.within)

pub select-greatest-requires-clause-inside : goal.select-greatest-requires-clause-inside
select-greatest-requires-clause-inside c =
    let b : After-select_nth_unstable-middle = (goal.at.select-greatest-requires-clause-inside c).After-select_nth_unstable-middle in
    omega (arith, up b, on b, beyond b, those_after _ _ _ _ c.select-p90.ensures, those_after _ _ _ _ c.select-p99.ensures, c.place-p99_at.ensures.within)

pub select-p90-requires-clause-least : goal.select-p90-requires-clause-least
select-p90-requires-clause-least c =
    let fits : SFits w64 c.select_nth_unstable-middle.result.1.now = search rules in
    (middle (goal.at.select-p90-requires-clause-least c).After-select_nth_unstable-middle (to_z w64 (of_z w64 c.select_nth_unstable-middle.result.1.now)) (to_z-of_z w64 c.select_nth_unstable-middle.result.1.now fits)).high

pub select-p99-requires-clause-least : goal.select-p99-requires-clause-least
select-p99-requires-clause-least c =
    let fits : SFits w64 c.select-p90.result.0 = search rules in
    subst (λ z. All (λ y. z ≤ℤ y) c.select-p90.result.1.now) (sym (to_z-of_z w64 c.select-p90.result.0 fits)) c.select-p90.ensures.high

pub select-greatest-requires-clause-least : goal.select-greatest-requires-clause-least
select-greatest-requires-clause-least c =
    let fits : SFits w64 c.select-p99.result.0 = search rules in
    subst (λ z. All (λ y. z ≤ℤ y) c.select-p99.result.1.now) (sym (to_z-of_z w64 c.select-p99.result.0 fits)) c.select-p99.ensures.high

pub returns : goal.returns
returns c =
    let b : After-select_nth_unstable-middle = (goal.at.returns c).After-select_nth_unstable-middle in
    let samples = c.args.samples.now in
    let f0 : SFits w64 c.least-least.result = search rules in
    let f50 : SFits w64 c.select_nth_unstable-middle.result.1.now = search rules in
    let f90 : SFits w64 c.select-p90.result.0 = search rules in
    let f99 : SFits w64 c.select-p99.result.0 = search rules in
    let f100 : SFits w64 c.select-greatest.result.0 = search rules in
    let p50 : StandsAt samples c.place-p50_at.result (to_z w64 (of_z w64 c.select_nth_unstable-middle.result.1.now)) c.select_nth_unstable-middle.result.2.now = middle b _ (to_z-of_z w64 _ f50) in
    let p90 : StandsAt samples c.place-p90_at.result (to_z w64 (of_z w64 c.select-p90.result.0)) c.select-p90.result.1.now =
    further _ _ _ _ _ _ _ _ _ p50 c.select-p90.ensures (omega (arith, up b)) (to_z-of_z w64 _ f90) in
    let p99 : StandsAt samples c.place-p99_at.result (to_z w64 (of_z w64 c.select-p99.result.0)) c.select-p99.result.1.now =
    further _ _ _ _ _ _ _ _ _ p90 c.select-p99.ensures (omega (arith, on b)) (to_z-of_z w64 _ f99) in
    let last : StandsAt samples (length samples - 1) (to_z w64 (of_z w64 c.select-greatest.result.0)) c.select-greatest.result.1.now =
    further _ _ _ _ _ _ _ _ _ p99 c.select-greatest.ensures (omega (arith, c.place-p99_at.ensures.within)) (to_z-of_z w64 _ f100) in
    five _ _ _ _ _ _ _ _ _ _
    (to_z-of_z w64 c.least-least.result f0 ∙ c.least-least.ensures)
    (rank_of _ _ _ _ _ p50 c.place-p50_at.ensures.rank)
    (rank_of _ _ _ _ _ p90 c.place-p90_at.ensures.rank)
    (rank_of _ _ _ _ _ p99 c.place-p99_at.ensures.rank)
    (rank_of _ _ _ _ _ last (omega (arith, c.requires.some)))
  where
    five : (a b c d e v w x y z : ℤ) → a ≡ v → b ≡ w → c ≡ x → d ≡ y → e ≡ z → (let r : Ranked = record { least = a; p50 = b; p90 = c; p99 = d; greatest = e } in r) ≡ record { least = v; p50 = w; p90 = x; p99 = y; greatest = z }
    five a b c d e v w x y z f g h i j = cc
