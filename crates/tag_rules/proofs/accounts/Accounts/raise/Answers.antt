use Rattle.std.proofs.Common.{arith, ap, length, slice_set, ℤ}
use Rattle.std.proofs.lemmas.Int.{ints, clamps}
use Rattle.tag_rules.specs.Accounts.{AccountsView}
use Rattle.tag_rules.proofs.Ranges.{Seen, seen, sound_base}
use Rattle.tag_rules.proofs.accounts.Accounts.raise.Goals as goal
use Rattle.tag_rules.proofs.accounts.Accounts.raise.Goals.{After-max}

-- the base and the charge that are read
read : (c : After-max) → Seen c.self.inside.charges.items c.self.inside.bases.items c.args.tenant c.index.result.now c.index-2.result.now
read c = seen _ _ _ _ _ c.self.invariant (omega (arith, ap (λ (a : AccountsView). length a.charges) c.self.view_is, c.requires.tenant)) c.index.ensures c.index-2.ensures

pub invariant_of-self : goal.invariant_of-self
invariant_of-self c =
    let r = read (goal.at.invariant_of-self c).After-max in
    sound_base c.self.inside.charges.items c.self.inside.bases.items c.args.tenant _ (omega (arith, ints, clamps, c.max.ensures.value, r.base_in.0, r.base_in.1, r.charge_in.0, r.charge_in.1), omega (arith, ints, clamps, c.max.ensures.value, r.base_in.0, r.base_in.1, r.charge_in.0, r.charge_in.1)) c.self.invariant

pub returns : goal.returns
returns c =
    let r = read (goal.at.returns c).After-max in
    rw (← c.self.view_is, r.base_is, r.charge_is) (ap (λ (x : ℤ). record { charges = c.self.inside.charges.items; bases = slice_set c.self.inside.bases.items c.args.tenant x }) (omega (arith, ints, clamps, c.max.ensures.value, r.base_in.0, r.base_in.1, r.charge_in.0, r.charge_in.1)))
