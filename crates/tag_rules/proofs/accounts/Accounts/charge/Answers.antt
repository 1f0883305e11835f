use Rattle.std.proofs.Common.{arith, ap, sym, ◌∙◌, ◌≡◌, ◌<◌, length}
use Rattle.std.proofs.lemmas.Int.{ints}
use Rattle.tag_rules.specs.Accounts.{AccountsView, charge_of}
use Rattle.tag_rules.proofs.Ranges.{read, sound_charge}
use Rattle.tag_rules.proofs.accounts.Accounts.charge.Goals as goal

pub invariant_of-self : goal.invariant_of-self
invariant_of-self c =
    let charges = c.self.inside.charges.items in
    let known : c.args.tenant < length charges = omega (arith, ap (λ (a : AccountsView). length a.charges) c.self.view_is, c.requires.tenant) in
    let was : charge_of c.args.self.now c.args.tenant ≡ c.index_mut.result.now = ap (λ (a : AccountsView). charge_of a c.args.tenant) (sym c.self.view_is) ∙ read charges c.args.tenant _ known c.index_mut.ensures.value in
    sound_charge charges c.self.inside.bases.items c.args.tenant _ (omega (arith, ints, was, c.requires.low, c.requires.high), omega (arith, ints, was, c.requires.low, c.requires.high)) c.self.invariant
