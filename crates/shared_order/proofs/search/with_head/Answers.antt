use Rattle.std.proofs.Common.{sym, ◌∙◌, ◌≡◌, ap, subst, rules, Some, [], ◌∷◌, ◌≤ℤ◌, to_z, of_z, FitsSigned}
use mir.Syntax.{w128}
use Rattle.std.proofs.lemmas.Int.{to_z-of_z}
use Rattle.std.proofs.lemmas.List.Elements.{All-nil, All-cons}
use Rattle.shared_order.specs.Heads.{HeadView}
use Rattle.shared_order.specs.Search.{key_of, TakesSoonest}
use Rattle.shared_order.proofs.Searching.{head_limits, key_read, is_le, is_more, stays, taken, begun}
use Rattle.shared_order.proofs.search.with_head.Goals as goal
use Rattle.shared_order.proofs.search.with_head.Goals.{in_default-via-in-Some+else-best-key, in_default-via-in_default}

pub key-key-requires : goal.key-key-requires
key-key-requires c = head_limits c.head.inside.finish c.head.inside.len c.head.invariant

pub returns-in-Some : goal.returns-in-Some
returns-in-Some c =
    let i = c.head.inside in
    let best = c.in-Some.best in
    let key_fits : FitsSigned w128 c.key-key.result = search rules in
    let best_fits : FitsSigned w128 best.key = search rules in
    let key_is : c.key-key.result ≡ key_of c.args.turn c.args.head = key_read c.args.turn i.finish i.len c.key-key.result c.head.invariant c.key-key.ensures ∙ ap (key_of c.args.turn) c.head.view_is in
    let le : best.key ≤ℤ key_of c.args.turn c.args.head = subst (λ z. best.key ≤ℤ z) key_is (is_le best.key c.key-key.result best_fits key_fits c.if-best-key.true) in
    subst (λ o. TakesSoonest c.args.turn o (c.args.head ∷ []) (Some best)) (sym c.in-Some.is) (stays c.args.turn best (c.args.head ∷ []) (All-cons (λ (h : HeadView). best.key ≤ℤ key_of c.args.turn h) c.args.head [] le (All-nil (λ (h : HeadView). best.key ≤ℤ key_of c.args.turn h))))

pub returns-in_default : goal.returns-in_default
returns-in_default c =
    let i = c.head.inside in
    let key_fits : FitsSigned w128 c.key-key.result = search rules in
    let read : to_z w128 (of_z w128 c.key-key.result) ≡ c.key-key.result = to_z-of_z w128 c.key-key.result key_fits in
    let key_is : c.key-key.result ≡ key_of c.args.turn c.args.head = key_read c.args.turn i.finish i.len c.key-key.result c.head.invariant c.key-key.ensures ∙ ap (key_of c.args.turn) c.head.view_is in
    elim c.in_default.branch [
      | in_default-via-in-Some+else-best-key w ↦ (let best_fits : FitsSigned w128 w.in-Some.best.key = search rules in
          subst (λ o. TakesSoonest c.args.turn o (c.args.head ∷ []) (Some (record { head = c.args.head; key = to_z w128 (of_z w128 c.key-key.result) }))) (sym w.in-Some.is) (taken c.args.turn w.in-Some.best (record { head = c.args.head; key = to_z w128 (of_z w128 c.key-key.result) }) (read ∙ key_is) (rw read (is_more w.in-Some.best.key c.key-key.result best_fits key_fits w.if-best-key.false))))
      | in_default-via-in_default w ↦ subst (λ o. TakesSoonest c.args.turn o (c.args.head ∷ []) (Some (record { head = c.args.head; key = to_z w128 (of_z w128 c.key-key.result) }))) (sym w.in_default.is) (begun c.args.turn (record { head = c.args.head; key = to_z w128 (of_z w128 c.key-key.result) }) (read ∙ key_is))
    ]
