use Rattle.std.proofs.Common.{◌≡◌, ◌∙◌, sym, ap, subst, set, ◌<◌, length}
use Rattle.std.proofs.lemmas.List.{length-map}
use Rattle.trace_runner.specs.Staff.{busy_key, idle_key}
use Rattle.trace_runner.proofs.Trees.{set_staff}
use Rattle.trace_runner.proofs.staff.Staff.set.Goals as goal

pub invariant_of-self : goal.invariant_of-self
invariant_of-self c =
    let busy : c.set.new.self ≡ set c.self.inside.busy c.args.worker (busy_key c.args.work) = c.set.ensures ∙ ap (set c.self.inside.busy c.args.worker) c.busy_key.ensures in
    let idle : c.set-2.new.self ≡ set c.self.inside.idle c.args.worker (idle_key c.args.work) = c.set-2.ensures ∙ ap (set c.self.inside.idle c.args.worker) c.idle_key.ensures in
    let known : c.args.worker < length c.self.inside.works.items = subst (λ xs. c.args.worker < length xs) (sym c.self.view_is) c.requires.worker in
    rw (busy, idle) (set_staff c.self.inside.works.items c.self.inside.busy c.self.inside.idle c.args.worker c.args.work c.self.invariant known c.requires.small)

pub set-requires : goal.set-requires
set-requires c = subst (λ n. c.args.worker < n) (sym (ap length c.self.invariant.busy_is ∙ length-map c.self.inside.works.items busy_key)) (subst (λ xs. c.args.worker < length xs) (sym c.self.view_is) c.requires.worker)

pub set-requires-2 : goal.set-requires-2
set-requires-2 c = subst (λ n. c.args.worker < n) (sym (ap length c.self.invariant.idle_is ∙ length-map c.self.inside.works.items idle_key)) (subst (λ xs. c.args.worker < length xs) (sym c.self.view_is) c.requires.worker)
