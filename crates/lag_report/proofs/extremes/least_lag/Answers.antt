use Rattle.std.proofs.Common.{ℕ, ◌+◌, ◌<◌, ◌≡◌, length, get_or, ◌≤ℤ◌, arith, rules, subst, sym, ◌∙◌, refl, below_more, w64}
use mir.Val.{SFits}
use Rattle.std.proofs.lemmas.Int.{to_z-of_z, ints}
use Rattle.std.proofs.lemmas.Bool.{eqb-true, eqb-false}
use Rattle.std.proofs.lemmas.List.{get_or_default}
use Rattle.lag_report.proofs.Texts.{no_row, least_of, least_none, moves_down}
use Rattle.lag_report.proofs.extremes.least_lag.Goals as goal
use Rattle.lag_report.proofs.extremes.least_lag.Goals.{then-rows-k, else-rows-k}

pub loop-k-init : goal.loop-k-init
loop-k-init c =
    let some : length c.args.rows.now ≡ 0 → ⊥ = eqb-false _ _ (sym c.is_empty.ensures ∙ c.if-is_empty.false) in
    record {
      inside = omega (arith, some);
      best = λ j l. let first : 0 ≡ j = omega (arith, l) in subst (λ n. (get_or c.args.rows.now 0 no_row).least ≤ℤ (get_or c.args.rows.now n no_row).least) first (omega (arith, ints));
    }

pub loop-k-preserved : goal.loop-k-preserved
loop-k-preserved c = elim c.if-rows-k.branch [
  | then-rows-k w ↦
      let better : (get_or c.args.rows.now c.loop-k.k no_row).least ≤ℤ (get_or c.args.rows.now c.loop-k.place no_row).least = omega (arith, ints, w.if-rows-k.true) in
      record {
        inside = omega (arith, w.place-is);
        best = subst (λ p. (j : ℕ) → j < c.loop-k.k + 1 → (get_or c.args.rows.now p no_row).least ≤ℤ (get_or c.args.rows.now j no_row).least) (sym w.place-is) (moves_down (λ j. (get_or c.args.rows.now j no_row).least) c.loop-k.place c.loop-k.k better c.loop-k.invariant.best);
      }
  | else-rows-k w ↦
      let worse : (get_or c.args.rows.now c.loop-k.place no_row).least ≤ℤ (get_or c.args.rows.now c.loop-k.k no_row).least = omega (arith, ints, w.if-rows-k.false) in
      record {
        inside = omega (arith, w.place-is, c.loop-k.invariant.inside);
        best = subst (λ p. (j : ℕ) → j < c.loop-k.k + 1 → (get_or c.args.rows.now p no_row).least ≤ℤ (get_or c.args.rows.now j no_row).least) (sym w.place-is) (below_more _ _ c.loop-k.invariant.best worse);
      }
]

pub returns-then-is_empty : goal.returns-then-is_empty
returns-then-is_empty c = least_none c.args.rows.now (eqb-true _ _ (sym c.is_empty.ensures ∙ c.if-is_empty.true))

pub returns : goal.returns
returns c =
    let fits : SFits w64 (get_or c.args.rows.now c.loop-k.place no_row).least = search rules in
    to_z-of_z w64 _ fits ∙ least_of c.args.rows.now (get_or c.args.rows.now c.loop-k.place no_row).least c.loop-k.place c.loop-k.invariant.inside refl
    (λ j d l. subst (λ r. (get_or c.args.rows.now c.loop-k.place no_row).least ≤ℤ r.least) (get_or_default c.args.rows.now j no_row d l) (c.loop-k.invariant.best j (omega (arith, l))))
