use Rattle.std.proofs.Common.{ℕ, ◌<◌, ◌≡◌, Bool, List, false, get_or, length, sym, subst, ◌∙◌}
use Rattle.std.proofs.lemmas.List.{get_or_read}
use Rattle.eligible_index.proofs.Notes.{room_for, keeps_more}
use Rattle.eligible_index.proofs.noted.Noted.note.Goals as goal

in_range : (flags seen : List Bool) (n : ℕ) → flags ≡ seen → n < length seen → n < length flags
in_range flags seen n e lt = subst (λ (fs : List Bool). n < length fs) (sym e) lt

fresh : (flags : List Bool) (n : ℕ) (read : Bool) → n < length flags → read ≡ get_or flags n read → read ≡ false → get_or flags n false ≡ false
fresh flags n read lt e is = sym (get_or_read flags n read lt e false) ∙ is

pub push_reserved-requires : goal.push_reserved-requires
push_reserved-requires c =
    let lt : c.args.number < length c.self.inside.flags.items = in_range _ _ c.args.number c.self.view_is c.requires in
    room_for c.self.inside.flags.items c.self.inside.numbers.items c.args.number _ _ c.self.invariant lt (fresh _ _ c.index.result.now lt c.index.ensures c.if-not-index.true) c.self.inside.numbers.ok.0

pub invariant_of-self : goal.invariant_of-self
invariant_of-self c =
    let lt : c.args.number < length c.self.inside.flags.items = in_range _ _ c.args.number c.self.view_is c.requires in
    keeps_more c.self.inside.flags.items c.self.inside.numbers.items _ c.args.number _ _ c.self.invariant lt (fresh _ _ c.index.result.now lt c.index.ensures c.if-not-index.true) c.push_reserved.ensures.items c.push_reserved.ensures.capacity
