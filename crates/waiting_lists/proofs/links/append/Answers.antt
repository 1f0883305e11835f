use Rattle.std.proofs.Common.{◌≡◌, Some, None, MatchOption, length, get_or, refl, subst, rules}
use borrow.Author.Rules.{scaled_Fits}
use Rattle.std.proofs.lemmas.List.{get_or_default}
use Rattle.waiting_lists.specs.Linked.{empty_slot, last_of, Keeps}
use Rattle.waiting_lists.proofs.Pushes.{full_lists, free_bound, free_room, HasPushed, did_push, read_bound, appended_keeps, appended_lists, appended_put}
use Rattle.waiting_lists.proofs.links.append.Given as given
use Rattle.waiting_lists.proofs.links.append.Goals as goal
use Rattle.waiting_lists.proofs.links.append.Goals.{After-map-before, After-map_or}

pub returns-in_default-clause-full : goal.returns-in_default-clause-full
returns-in_default-clause-full g c =
    full_lists c.args.slots.now c.args.ends.now (subst (Keeps c.args.slots.now c.args.ends.now) c.in_default.is c.requires.kept)

pub bounds-slots-slot : goal.bounds-slots-slot
bounds-slots-slot g c = free_bound c.args.slots.now c.args.ends.now c.in-Some.slot (subst (Keeps c.args.slots.now c.args.ends.now) c.in-Some.is c.requires.kept)

pub bounds-slots-slot-in-Some : goal.bounds-slots-slot-in-Some
bounds-slots-slot-in-Some g c = free_bound c.args.slots.now c.args.ends.now c.in-Some.slot (subst (Keeps c.args.slots.now c.args.ends.now) c.in-Some.is c.requires.kept)

pub bounds-slots-slot-2 : goal.bounds-slots-slot-2
bounds-slots-slot-2 g c = free_bound c.args.slots.now c.args.ends.now c.in-Some.slot (subst (Keeps c.args.slots.now c.args.ends.now) c.in-Some.is c.requires.kept)

pub offset_bounds-slots-slot : goal.offset_bounds-slots-slot
offset_bounds-slots-slot g c = scaled_Fits c.in-Some.slot (length c.args.slots.now) _ (free_bound c.args.slots.now c.args.ends.now c.in-Some.slot (subst (Keeps c.args.slots.now c.args.ends.now) c.in-Some.is c.requires.kept)) c.well_formed.0.1

pub offset_bounds-slots-slot-2 : goal.offset_bounds-slots-slot-2
offset_bounds-slots-slot-2 g c = scaled_Fits c.in-Some.slot (length c.args.slots.now) _ (free_bound c.args.slots.now c.args.ends.now c.in-Some.slot (subst (Keeps c.args.slots.now c.args.ends.now) c.in-Some.is c.requires.kept)) c.well_formed.0.1

-- the last slot of the tenant's list
before_is : (g : given.Over) (c : After-map-before g) → c.map-before.result ≡ last_of (get_or c.args.ends.now c.args.tenant None)
before_is g c = search rules

pub lead-requires : goal.lead-requires
lead-requires g c = read_bound c.args.slots.now c.args.ends.now c.in-Some.slot (subst (Keeps c.args.slots.now c.args.ends.now) c.in-Some.is c.requires.kept) c.args.tenant c.requires.known c.args.item c.map-before.result (before_is g (goal.at.lead-requires g c).After-map-before)

-- the slot is at the end of the list
kept : (g : given.Over) (c : After-map_or g) → Keeps c.args.slots.now c.args.ends.now (Some c.in-Some.slot)
kept g c = subst (Keeps c.args.slots.now c.args.ends.now) c.in-Some.is c.requires.kept

pushed : (g : given.Over) (c : After-map_or g) → HasPushed c.args.slots.now c.args.ends.now c.in-Some.slot (kept g c) c.args.tenant c.requires.known c.args.item c.lead.new.slots (record { first = c.map_or.result; last = c.in-Some.slot })
pushed g c =
    let first : MatchOption (get_or c.args.ends.now c.args.tenant None) (c.map_or.result ≡ c.in-Some.slot) (λ e. c.map_or.result ≡ e.first) = search rules in
    did_push c.args.slots.now c.args.ends.now c.in-Some.slot (kept g c) c.args.tenant c.requires.known c.args.item c.map-before.result (before_is g (goal.at.returns-clause-keeps g c).After-map-before) c.lead.new.slots (record { first = c.map_or.result; last = c.in-Some.slot }) c.lead.ensures first refl

pub returns-clause-keeps : goal.returns-clause-keeps
returns-clause-keeps g c =
    rw (get_or_default c.args.slots.now c.in-Some.slot c.index-slots-slot.result empty_slot (free_bound c.args.slots.now c.args.ends.now c.in-Some.slot (kept g c)))
    (appended_keeps c.args.slots.now c.args.ends.now c.in-Some.slot (kept g c) c.args.tenant c.requires.known c.args.item c.lead.new.slots _ (pushed g c))

pub returns-clause-room : goal.returns-clause-room
returns-clause-room g c = free_room c.args.slots.now c.args.ends.now c.in-Some.slot (kept g c)

pub returns-clause-appended : goal.returns-clause-appended
returns-clause-appended g c = appended_lists c.args.slots.now c.args.ends.now c.in-Some.slot (kept g c) c.args.tenant c.requires.known c.args.item c.lead.new.slots _ (pushed g c)

pub returns-clause-held : goal.returns-clause-held
returns-clause-held g c = appended_put c.args.slots.now c.args.ends.now c.in-Some.slot (kept g c) c.args.tenant c.requires.known c.args.item c.lead.new.slots _ (pushed g c)
