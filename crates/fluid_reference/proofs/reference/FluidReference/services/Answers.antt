use Rattle.std.proofs.Common.{ℕ, zero, suc, ◌<◌, ◌≡◌, false, nat_eq, length, arith, ap, sym, subst, ◌∙◌}
use Rattle.std.proofs.lemmas.Bool.{eqb-true, false≢true}
use Rattle.fq_model.specs.Sums.{list_below}
use Rattle.fluid_reference.specs.Slots.{column_of, number_at, replayed, slot_at}
use Rattle.fq_laws.proofs.Lists.{list_none}
use Rattle.fluid_reference.proofs.OfTenants.{if_ok}
use Rattle.fluid_reference.proofs.Replays.{column_is, row_length, table_length}
use Rattle.fluid_reference.proofs.reference.FluidReference.services.Goals as goal
use Rattle.fluid_reference.proofs.reference.FluidReference.services.Goals.{After-as_slice-3}

positive : (n : ℕ) → nat_eq n 0 ≡ false → 0 < n
positive zero e = absurd (false≢true (sym e))
positive (suc n) e = omega arith

some : (c : After-as_slice-3) → 0 < length c.self.inside.levels.items
some c = omega (arith, c.self.inside.levels.ok.0, positive c.self.inside.levels.len (sym c.if-is_empty.ensures))

known : (c : After-as_slice-3) → c.args.tenant < length c.self.inside.config.now.weights
known c =
    let long : length c.args.self.now ≡ length c.self.inside.levels.items = ap length (sym c.self.view_is) ∙ table_length c.self.inside.config.now c.self.inside.rows.items c.self.inside.changes.items c.self.inside.levels.items c.self.inside.slot in
    let row : length (slot_at c.args.self.now 0) ≡ length c.self.inside.config.now.weights = ap (λ table. length (slot_at table 0)) (sym c.self.view_is) ∙ row_length c.self.inside.config.now c.self.inside.rows.items c.self.inside.changes.items c.self.inside.levels.items c.self.inside.slot 0 (some c) in
    subst (λ n. c.args.tenant < n) row (c.requires 0 (omega (arith, long, some c)))

pub replay-requires-clause-known : goal.replay-requires-clause-known
replay-requires-clause-known c = known c

pub returns-then-is_empty : goal.returns-then-is_empty
returns-then-is_empty c =
    let none : length c.args.self.now ≡ 0 = ap length (sym c.self.view_is) ∙ table_length c.self.inside.config.now c.self.inside.rows.items c.self.inside.changes.items c.self.inside.levels.items c.self.inside.slot ∙ sym c.self.inside.levels.ok.0 ∙ eqb-true _ _ (sym c.if-is_empty.ensures) in
    c.new.ensures.items ∙ sym (ap (list_below (λ k. number_at (slot_at c.args.self.now k) c.args.tenant)) none ∙ list_none (λ k. number_at (slot_at c.args.self.now k) c.args.tenant))

pub returns : goal.returns
returns c =
    let b : After-as_slice-3 = (goal.at.returns c).After-as_slice-3 in
    if_ok c.replay.result (λ v is. is
    ∙ ap (λ xs. list_below (λ k. replayed c.self.inside.config.now xs c.as_slice-2.result.now c.as_slice-3.result.now c.self.inside.slot c.args.tenant (suc k)) (length c.as_slice-3.result.now)) c.as_slice.ensures.value
    ∙ ap (λ xs. list_below (λ k. replayed c.self.inside.config.now c.self.inside.rows.items xs c.as_slice-3.result.now c.self.inside.slot c.args.tenant (suc k)) (length c.as_slice-3.result.now)) c.as_slice-2.ensures.value
    ∙ ap (λ xs. list_below (λ k. replayed c.self.inside.config.now c.self.inside.rows.items c.self.inside.changes.items xs c.self.inside.slot c.args.tenant (suc k)) (length xs)) c.as_slice-3.ensures.value
    ∙ sym (column_is c.self.inside.config.now c.self.inside.rows.items c.self.inside.changes.items c.self.inside.levels.items c.self.inside.slot c.args.tenant (known b))
    ∙ ap (λ table. column_of table c.args.tenant) c.self.view_is) c.replay.ensures
