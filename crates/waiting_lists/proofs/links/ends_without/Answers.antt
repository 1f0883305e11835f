use Rattle.std.proofs.Common.{◌≡◌, Some, None, MatchOption, refl, sym, ap, ◌∙◌, rules}
use Rattle.waiting_lists.specs.declared.links.Ends.{Ends}
use Rattle.waiting_lists.proofs.NewEnds.{ends_none, ends_alone, ends_past, match_none, match_some}
use Rattle.waiting_lists.proofs.links.ends_without.Goals as goal
use Rattle.waiting_lists.proofs.links.ends_without.Goals.{then-is_none+in_ok-next, else-is_none}

pub returns-in_err-first : goal.returns-in_err-first
returns-in_err-first c = rw (c.from_residual.ensures, c.in_err-first.was) (ends_none c.args.before c.args.next)

pub returns-in_err-next : goal.returns-in_err-next
returns-in_err-next c =
    let before : c.args.before ≡ None = search rules in
    rw (c.from_residual-in_err-next.ensures, c.in_ok-first.was, c.in_err-next.was, before) (ends_alone c.in_ok-first.field-0)

pub returns-else-is_none-2 : goal.returns-else-is_none-2
returns-else-is_none-2 c =
    let e = c.in_ok-first.field-0 in
    let new : Ends = record { first = c.if-is_none.result; last = e.last } in
    let first : MatchOption c.args.before (Some new.first ≡ c.args.next) (λ _. new.first ≡ e.first) = elim c.if-is_none.branch [
      | then-is_none+in_ok-next w ↦ match_none c.args.before (Some new.first ≡ c.args.next) (new.first ≡ e.first) (search rules) (ap Some w.result-is ∙ sym w.in_ok-next.was)
      | else-is_none w ↦ match_some c.args.before (Some new.first ≡ c.args.next) (new.first ≡ e.first) (search rules) w.result-is
    ] in
    let last : MatchOption c.args.next (Some new.last ≡ c.args.before) (λ _. new.last ≡ e.last) = match_some c.args.next (Some new.last ≡ c.args.before) (new.last ≡ e.last) c.if-is_none-2.ensures refl in
    rw c.in_ok-first.was (ends_past e new c.args.before c.args.next first last)
