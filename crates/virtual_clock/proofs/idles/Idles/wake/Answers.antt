use Rattle.std.proofs.Common.{arith, refl, ap, subst, sym, ◌∙◌, ◌≡◌, ◌<◌, length, List, ◌≤ℤ◌}
use Rattle.std.proofs.lemmas.Int.{ints}
use Rattle.std.proofs.lemmas.List.Elements.{All-set}
use Rattle.std.proofs.lemmas.Option.{slice_get_read, get_or_from_slice_get}
use Rattle.virtual_clock.specs.declared.idles.Idle.{Idle}
use Rattle.virtual_clock.specs.Idles.{IsIdle, idle_of, asleep_at_first}
use Rattle.virtual_clock.proofs.idles.Idles.wake.Goals as goal

pub invariant_of-self : goal.invariant_of-self
invariant_of-self c =
    let items = c.self.inside.tenants.items in
    let idle = c.index-idle.result.now in
    let tenant_in : c.args.tenant < length items = omega (arith, ap (λ (i : List Idle). length i) c.self.view_is, c.requires.tenant) in
    let read : idle_of items c.args.tenant ≡ idle = get_or_from_slice_get items c.args.tenant idle asleep_at_first (slice_get_read items _ c.args.tenant idle refl tenant_in c.index-idle.ensures) in
    let old : IsIdle idle = subst IsIdle read (c.self.invariant c.args.tenant asleep_at_first tenant_in) in
    let later : idle.since ≤ℤ c.args.v = subst (λ (i : Idle). i.since ≤ℤ c.args.v) (ap (λ (i : List Idle). idle_of i c.args.tenant) (sym c.self.view_is) ∙ read) c.requires.later in
    All-set IsIdle items c.args.tenant _ (record {
      low = omega (arith, ints, old.low, old.high, old.since_in_range, later, c.requires.in_range);
      high = omega (arith, ints, old.low, old.high, old.since_in_range, later, c.requires.in_range);
      since_in_range = omega (arith, ints, old.low, old.high, later, c.requires.in_range);
    }) c.self.invariant
