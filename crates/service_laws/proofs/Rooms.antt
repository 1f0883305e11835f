-- What waits in a service came to its room as the room lets it.
use Rattle.std.proofs.Common.{ℕ, suc, ◌≡◌, ◌≢◌, ◌∙◌, ◌+◌, ◌<◌, ◌≤◌, Bool, true, false, List, [], ◌∷◌, ◌++◌, ◌⊎◌, Some, None, All, refl, sym, ap, subst, length, get_or, set, cond, arith, inl, inr}
use Rattle.std.specs.Prelude.{◌==◌, ◌&&◌, ◌||◌, slice_get, nat_lt}
use Rattle.std.specs.List.{count_by}
use Rattle.std.proofs.lemmas.Bool.{cases_eq, eq-eqb, cases_lt}
use Rattle.std.proofs.lemmas.Bool.Decides.{nat_tests, eqb_tells}
use Rattle.std.proofs.lemmas.List.{length-set, get_or-set_same, get_or-set_other, get_or_past, ext_get_or}
use Rattle.std.proofs.lemmas.List.Elements.{All-nil, All-head, All-tail, All-cons, All-set, All-append, All-get_or}
use Rattle.std.proofs.lemmas.List.Sums.{sum_by-set, sum_by-append, sum_by-cons}
use Rattle.std.proofs.lemmas.Option.{slice_get_within, get_or_from_slice_get}
use Rattle.fq_model.specs.Sums.{list_below}
use Rattle.fq_laws.proofs.Lists.{list_same, list_length, list_at}
use Rattle.waiting_room.specs.Room.{waiting_of, with_waiting, entered, left}
use Rattle.waiting_room.specs.Runs as rooms
use Rattle.waiting_room.specs.Runs.{Enters, Leaves}
use Rattle.service_model.specs.declared.config.ServiceConfig.{ServiceConfig}
use Rattle.service_model.specs.View.{Standing, Held, Forwarded, Runs, Ended, Withdrawn, Admitted, SlotView, ServiceView, stands_held, stands_forwarded, is_waiting, is_forwarded, of_slot, has_tenant, slot_at}
use Rattle.service_model.specs.Rolling.{renumbered}
use Rattle.service_model.specs.Room.{room_of, waiting_in}
use Rattle.service_laws.proofs.Lists.{not_both}
use Rattle.service_laws.proofs.Refreshed.{SameRequests, made_now, made_before}
use Rattle.service_laws.proofs.Rolled.{rolled, Renumbers, counted}
use Rattle.service_laws.proofs.Moves.{Becomes, Stays, Turns, Admits, IsClosed}
use Rattle.service_laws.proofs.Calls.{waiting_is_blind}

-- ---- counts after a change

abbrev pub as_one : Bool → ℕ
as_one b = cond b 1 0

abbrev pub one : (Admitted → Bool) → Admitted → ℕ
one test q = as_one (test q)

pub count_set : (test : Admitted → Bool) (qs : List Admitted) (ticket : ℕ) (q p : Admitted)
    → slice_get qs ticket ≡ Some q → count_by test (set qs ticket p) + one test q ≡ count_by test qs + one test p
count_set test qs ticket q p at =
    ap (λ x. count_by test (set qs ticket p) + cond (test x) 1 0) (sym (get_or_from_slice_get qs ticket q q at))
    ∙ sum_by-set (λ (x : Admitted). cond (test x) 1 0) qs ticket p q (slice_get_within qs ticket q at)

abbrev pub waits : Standing → Bool
waits s = stands_held s || stands_forwarded s

pub count_push : (test : Admitted → Bool) (qs : List Admitted) (q : Admitted)
    → count_by test (qs ++ q ∷ []) ≡ count_by test qs + one test q
count_push test qs q =
    let all = sum_by-append (λ (x : Admitted). as_one (test x)) qs (q ∷ []) in
    omega (arith, all, sum_by-cons (λ (x : Admitted). as_one (test x)) q [])

-- the request is of a slot below this
abbrev pub IsBelow : ℕ → Admitted → Type 0
IsBelow bound q = q.slot < bound

module _ (c : ServiceConfig) where
  pub record HasRoom (v : ServiceView) : Type 0 where
    pub slots : length v.slots ≡ length c.scheduler.weights
    pub known : All (IsBelow (length v.slots)) v.admitted
    pub steps : List rooms.Step
    pub run : rooms.IsRun (rooms.opened c.scheduler.requests (length c.scheduler.weights) c.room_per_tenant) steps
    pub room : rooms.after (rooms.opened c.scheduler.requests (length c.scheduler.weights) c.room_per_tenant) steps ≡ room_of c v

  -- ---- what the room of a service is after a change

  room_by : (v w : ServiceView) → length w.slots ≡ length v.slots → (l : List ℕ)
      → list_below (waiting_in w) (length v.slots) ≡ l → room_of c w ≡ record (room_of c v) { waiting = l }
  room_by v w slots l e =
      ap (λ x. record { places = c.scheduler.requests; per_tenant = c.room_per_tenant; waiting = x })
      (ap (list_below (waiting_in w)) slots ∙ e)

  pub room_same : (v w : ServiceView) → length w.slots ≡ length v.slots
      → ((slot : ℕ) → waiting_in w slot ≡ waiting_in v slot) → room_of c w ≡ room_of c v
  room_same v w slots same =
      room_by v w slots (list_below (waiting_in v) (length v.slots))
      (list_same (waiting_in w) (waiting_in v) (length v.slots) (λ slot _. same slot))

  pub size_is : (v : ServiceView) → length (room_of c v).waiting ≡ length v.slots
  size_is v = list_length (waiting_in v) (length v.slots)

  waiting_at : (v : ServiceView) (slot : ℕ) → slot < length v.slots → waiting_of (room_of c v) slot ≡ waiting_in v slot
  waiting_at v slot within = list_at (waiting_in v) (length v.slots) slot 0 within

  room_with : (v w : ServiceView) (slot n : ℕ) → slot < length v.slots → length w.slots ≡ length v.slots
      → waiting_in w slot ≡ n → ((other : ℕ) → other ≢ slot → waiting_in w other ≡ waiting_in v other)
      → room_of c w ≡ with_waiting (room_of c v) slot n
  room_with v w slot n within slots is others =
      room_by v w slots (set was slot n)
      (ext_get_or 0 now (set was slot n) (omega (arith, now_long, was_long, length-set was slot n)) each)
    where
      now : List ℕ
      now = list_below (waiting_in w) (length v.slots)

      was : List ℕ
      was = list_below (waiting_in v) (length v.slots)

      now_long : length now ≡ length v.slots
      now_long = list_length (waiting_in w) (length v.slots)

      was_long : length was ≡ length v.slots
      was_long = list_length (waiting_in v) (length v.slots)

      each : (i : ℕ) → i < length now → get_or now i 0 ≡ get_or (set was slot n) i 0
      each i inside =
          let low : i < length v.slots = omega (arith, inside, now_long) in
          list_at (waiting_in w) (length v.slots) i 0 low
          ∙ elim (cases_eq i slot) [
            | inl e ↦
                ap (waiting_in w) e ∙ is
                ∙ sym (get_or-set_same was slot n 0 (omega (arith, within, was_long)))
                ∙ ap (λ k. get_or (set was slot n) k 0) (sym e)
            | inr ne ↦
                others i ne
                ∙ sym (list_at (waiting_in v) (length v.slots) i 0 low)
                ∙ sym (get_or-set_other was slot i n 0 ne)
          ]

-- ---- one request stands elsewhere

pub apart : (a b : ℕ) → a ≢ b → (a == b) ≡ false
apart a b ne = elim (eqb_tells a b) [
  | inl same ↦ absurd (ne same.1)
  | inr other ↦ other.0
]

-- it counts for its own slot alone
own_one : (q : Admitted) → one (of_slot q.slot is_waiting) q ≡ as_one (waits q.stands)
own_one q = ap (λ b. as_one (b && waits q.stands)) (eq-eqb q.slot q.slot refl)

other_one : (q : Admitted) (slot : ℕ) → slot ≢ q.slot → one (of_slot slot is_waiting) q ≡ 0
other_one q slot ne = ap (λ b. as_one (b && waits q.stands)) (apart q.slot slot (λ e. ne (sym e)))

same_one : (q : Admitted) (next : Standing) (slot : ℕ) → waits next ≡ waits q.stands
    → one (of_slot slot is_waiting) (record q { stands = next }) ≡ one (of_slot slot is_waiting) q
same_one q next slot e = ap (λ b. as_one ((q.slot == slot) && b)) e

module _ (c : ServiceConfig) (v w : ServiceView) (x : Turns c v w) where
  counts : (slot : ℕ) → waiting_in w slot + one (of_slot slot is_waiting) x.q
      ≡ waiting_in v slot + one (of_slot slot is_waiting) (record x.q { stands = x.next })
  counts slot =
      ap (λ l. count_by (of_slot slot is_waiting) l + one (of_slot slot is_waiting) x.q) x.admitted
      ∙ count_set (of_slot slot is_waiting) v.admitted x.ticket x.q (record x.q { stands = x.next }) x.there

  turned_same : waits x.next ≡ waits x.q.stands → (slot : ℕ) → waiting_in w slot ≡ waiting_in v slot
  turned_same e slot = omega (arith, counts slot, same_one x.q x.next slot e)

  turned_other : (slot : ℕ) → slot ≢ x.q.slot → waiting_in w slot ≡ waiting_in v slot
  turned_other slot ne =
      omega (arith, counts slot, other_one x.q slot ne, other_one (record x.q { stands = x.next }) slot ne)

  turned_own : waits x.q.stands ≡ true → waits x.next ≡ false → waiting_in w x.q.slot + 1 ≡ waiting_in v x.q.slot
  turned_own was is =
      omega (
        arith,
        counts x.q.slot,
        own_one x.q,
        ap as_one was,
        own_one (record x.q { stands = x.next }),
        ap as_one is,
      )

-- where it stood and stands: it waits still, or waits no more, or waited no more already
Turning : Standing → Standing → Type 0
Turning a b = (waits b ≡ waits a) ⊎ ((waits a ≡ true) × (waits b ≡ false))

turning : (a b : Standing) → Becomes a b → Turning a b
unfolding Turning
turning Held (Forwarded request) x = inl refl
turning Held Withdrawn x = inr (refl, refl)
turning (Forwarded request) Withdrawn x = inr (refl, refl)
turning (Forwarded request) (Runs run) x = inr (refl, refl)
turning (Runs run) (Runs later) x = inl refl
turning (Runs run) Ended x = inl refl
turning Held Held x = absurd x
turning Held (Runs run) x = absurd x
turning Held Ended x = absurd x
turning (Forwarded request) Held x = absurd x
turning (Forwarded request) (Forwarded r) x = absurd x
turning (Forwarded request) Ended x = absurd x
turning (Runs run) Held x = absurd x
turning (Runs run) (Forwarded r) x = absurd x
turning (Runs run) Withdrawn x = absurd x
turning Ended Held x = absurd x
turning Ended (Forwarded r) x = absurd x
turning Ended (Runs run) x = absurd x
turning Ended Ended x = absurd x
turning Ended Withdrawn x = absurd x
turning Withdrawn Held x = absurd x
turning Withdrawn (Forwarded r) x = absurd x
turning Withdrawn (Runs run) x = absurd x
turning Withdrawn Ended x = absurd x
turning Withdrawn Withdrawn x = absurd x

-- ---- numbers of slots

known_next : (b : Bool) (n bound : ℕ) (q : Admitted) (qs : List Admitted) → q.slot < bound
    → ((k : ℕ) → All (IsBelow bound) (renumbered k qs))
    → All (IsBelow bound) (cond b (record q { stands = Forwarded n } ∷ renumbered (suc n) qs) (q ∷ renumbered n qs))
known_next true n bound q qs first rest = All-cons (IsBelow bound) (record q { stands = Forwarded n }) (renumbered (suc n) qs) first (rest (suc n))
known_next false n bound q qs first rest = All-cons (IsBelow bound) q (renumbered n qs) first (rest n)

known_renumbered : (n bound : ℕ) (qs : List Admitted) → All (IsBelow bound) qs
    → All (IsBelow bound) (renumbered n qs)
known_renumbered n bound [] all = all
known_renumbered n bound (q ∷ qs) all = known_next (is_forwarded q) n bound q qs (All-head (IsBelow bound) q qs all) (λ k. known_renumbered k bound qs (All-tail (IsBelow bound) q qs all))

-- ---- the moves

module _ (c : ServiceConfig) (named : c.named ≤ length c.scheduler.weights) where
  -- the slots stay, and what was in the room before is in it after
  pub record KeepsRoom (v w : ServiceView) : Type 0 where
    pub slots : length w.slots ≡ length v.slots
    pub room : HasRoom c v → HasRoom c w

  -- the room is the same, and the requests of the same slots
  same_room : (v w : ServiceView) → length w.slots ≡ length v.slots → room_of c w ≡ room_of c v
      → (All (IsBelow (length v.slots)) v.admitted → All (IsBelow (length v.slots)) w.admitted) → KeepsRoom v w
  same_room v w slots room known = record {
    slots = slots;
    room = λ h. record {
      slots = slots ∙ h.slots;
      known = subst (λ n. All (IsBelow n) w.admitted) (sym slots) (known h.known);
      steps = h.steps;
      run = h.run;
      room = h.room ∙ sym room;
    };
  }

  stays : (v w : ServiceView) → Stays v w → KeepsRoom v w
  stays v w x =
      same_room v w x.slots
      (room_same c v w x.slots (λ slot. ap (count_by (of_slot slot is_waiting)) x.admitted))
      (subst (All (IsBelow (length v.slots))) (sym x.admitted))

  renumbers : (v w : ServiceView) → Renumbers v w → KeepsRoom v w
  renumbers v w x =
      same_room v w (ap length x.slots)
      (room_same c v w (ap length x.slots) (λ slot.
      ap (count_by (of_slot slot is_waiting)) x.admitted
      ∙ counted (of_slot slot is_waiting) (waiting_is_blind slot) 0 v.admitted))
      (λ all. subst (All (IsBelow (length v.slots))) (sym x.admitted) (known_renumbered 0 (length v.slots) v.admitted all))

  same_requests : (v w : ServiceView) → SameRequests v w → KeepsRoom v w
  same_requests v w x =
      same_room v w (ap length x.slots)
      (room_same c v w (ap length x.slots) (λ slot. ap (count_by (of_slot slot is_waiting)) x.admitted))
      (subst (All (IsBelow (length v.slots))) (sym x.admitted))

  joins : (v u w : ServiceView) → KeepsRoom v u → KeepsRoom u w → KeepsRoom v w
  joins v u w a b = record { slots = b.slots ∙ a.slots; room = λ h. b.room (a.room h) }

  -- the slot of a request that is there
  slot_of : (v : ServiceView) (ticket : ℕ) (q : Admitted) → slice_get v.admitted ticket ≡ Some q
      → All (IsBelow (length v.slots)) v.admitted → q.slot < length v.slots
  slot_of v ticket q at all =
      subst (IsBelow (length v.slots)) (get_or_from_slice_get v.admitted ticket q q at)
      (All-get_or (IsBelow (length v.slots)) v.admitted ticket q (slice_get_within v.admitted ticket q at) all)

  known_after : (v w : ServiceView) (x : Turns c v w) → All (IsBelow (length v.slots)) v.admitted
      → All (IsBelow (length v.slots)) w.admitted
  known_after v w x all =
      subst (All (IsBelow (length v.slots))) (sym x.admitted)
      (All-set (IsBelow (length v.slots)) v.admitted x.ticket (record x.q { stands = x.next })
      (slot_of v x.ticket x.q x.there all) all)

  leaves : (v w : ServiceView) (x : Turns c v w) → waits x.q.stands ≡ true → waits x.next ≡ false → KeepsRoom v w
  leaves v w x was is = record {
    slots = x.slots;
    room = λ h.
        let within = slot_of v x.ticket x.q x.there h.known in
        let own = turned_own c v w x was is in
        let here = waiting_at c v x.q.slot within in
        record {
          slots = x.slots ∙ h.slots;
          known = subst (λ n. All (IsBelow n) w.admitted) (sym x.slots) (known_after v w x h.known);
          steps = Leaves x.q.slot ∷ h.steps;
          run = (
            h.run,
            subst (λ r. rooms.MayStep r (Leaves x.q.slot)) (sym h.room)
                (omega (arith, within, size_is c v), omega (arith, own, here)),
          );
          room =
              ap (λ r. left r x.q.slot) h.room
              ∙ ap (with_waiting (room_of c v) x.q.slot) (omega (arith, own, here))
              ∙ sym (room_with c v w x.q.slot (waiting_in w x.q.slot) within x.slots refl (turned_other c v w x));
        };
  }

  turns : (v w : ServiceView) → Turns c v w → KeepsRoom v w
  unfolding Turning
  turns v w x = elim (turning x.q.stands x.next x.becomes) [
    | inl same ↦ same_room v w x.slots (room_same c v w x.slots (turned_same c v w x same)) (known_after v w x)
    | inr gone ↦ leaves v w x gone.0 gone.1
  ]

  -- ---- an admission

  -- a slot that has a tenant is there
  pub slot_is_there : (v : ServiceView) (slot : ℕ) → length v.slots ≡ length c.scheduler.weights
      → has_tenant c.named v slot ≡ true → slot < length v.slots
  slot_is_there v slot slots e = elim (cases_lt slot (length v.slots)) [
    | inl l ↦ l
    | inr past ↦
        let none = get_or_past v.slots slot (record { generation = 0; limit = 0; began_to_wait = None }) past in
        let generation : (slot_at v slot).generation ≡ 0 = ap (λ (s : SlotView). s.generation) none in
        let never : has_tenant c.named v slot ≡ false =
        ap (λ g. nat_lt slot c.named || nat_lt 0 g) generation ∙ unnamed slot (omega (arith, past, slots, named)) in
        absurd (not_both (has_tenant c.named v slot) e never)
  ]
    where
      unnamed : (n : ℕ) → c.named ≤ n → nat_lt n c.named || nat_lt 0 0 ≡ false
      unnamed n high = grind (arith, nat_tests)

  module _ (v w : ServiceView) (x : Admits c v w) (slots : length v.slots ≡ length c.scheduler.weights) where
    there : x.q.slot < length v.slots
    there = slot_is_there v x.q.slot slots x.has_tenant

    pushed : (slot : ℕ) → waiting_in w slot ≡ waiting_in v slot + one (of_slot slot is_waiting) x.q
    pushed slot =
        ap (count_by (of_slot slot is_waiting)) x.admitted ∙ count_push (of_slot slot is_waiting) v.admitted x.q

    pub room_entered : room_of c w ≡ entered (room_of c v) x.q.slot
    room_entered =
        room_with c v w x.q.slot (waiting_of (room_of c v) x.q.slot + 1) there x.slots
        (omega (arith, pushed x.q.slot, own_one x.q, ap as_one x.waits, waiting_at c v x.q.slot there))
        (λ other ne. omega (arith, pushed other, other_one x.q other ne))

  admits : (v w : ServiceView) → Admits c v w → KeepsRoom v w
  admits v w x = record {
    slots = x.slots;
    room = λ h.
        let within = there v w x h.slots in
        record {
          slots = x.slots ∙ h.slots;
          known =
              subst (λ n. All (IsBelow n) w.admitted) (sym x.slots)
              (subst (All (IsBelow (length v.slots))) (sym x.admitted)
              (All-append (IsBelow (length v.slots)) v.admitted (x.q ∷ []) h.known
              (All-cons (IsBelow (length v.slots)) x.q [] within (All-nil (IsBelow (length v.slots))))));
          steps = Enters x.q.slot ∷ h.steps;
          run = (
            h.run,
            subst (λ r. rooms.MayStep r (Enters x.q.slot)) (sym h.room)
                (omega (arith, within, size_is c v), x.enters),
          );
          room = ap (λ r. entered r x.q.slot) h.room ∙ sym (room_entered v w x h.slots);
        };
  }

  pub is_closed : IsClosed c KeepsRoom
  is_closed = record {
    joins = joins;
    stays = stays;
    makes_now = λ v asked r w x. same_requests v w (made_now v asked r w x);
    makes_before = λ v asked r w x. same_requests v w (made_before v asked r w x);
    rolls_over = λ m v w x. renumbers v w (rolled c m v w x);
    turns = turns;
    admits = admits;
  }
