-- The limits of a tenant and of its kinds of requests, and which held request may go.
use Rattle.std.specs.Prelude.{ℕ, ◌≡◌, ◌==◌, not, Bool, ◌&&◌, ◌||◌, nat_lt, List, [], ◌∷◌, Option, Some, None, position, slice_get, slice_index}
use Rattle.fq_model.specs.declared.event.Reply.TheVariants as answer
use Rattle.service_model.specs.declared.config.ServiceConfig.{ServiceConfig}
use Rattle.service_model.specs.View.{Admitted, Forwarded, ServiceView, slot_at, how_many, has_any, of_slot, of_kind, is_held, is_sent, runs_before, with_standing}
use Rattle.service_model.specs.Scheduling.{lacks_room}
use Rattle.service_model.specs.Rolling.{submit_call, MakesWithRoom}

-- how many requests of a slot are forwarded and not ended, and how many of them are of a kind
abbrev pub sent_of : ServiceView → ℕ → ℕ
sent_of v slot = how_many v (of_slot slot is_sent)

abbrev pub sent_of_kind : ServiceView → ℕ → ℕ → ℕ
sent_of_kind v slot kind = how_many v (of_kind slot kind is_sent)

-- one more keeps within the limit, where 0 is no limit
abbrev pub is_below : ℕ → ℕ → Bool
is_below n limit = (limit == 0) || nat_lt n limit

-- one more request of this slot and kind keeps within the limit of the tenant and that of its kind
abbrev pub passes : ServiceConfig → ServiceView → ℕ → ℕ → Bool
passes c v slot kind =
    is_below (sent_of v slot) (slot_at v slot).limit
    && is_below (sent_of_kind v slot kind) (slice_index c.kind_most_running kind)

-- a request of this slot and kind is held
abbrev pub holds : ServiceView → ℕ → ℕ → Bool
holds v slot kind = has_any v (of_kind slot kind is_held)

-- a request that comes now is not held back: it passes both limits, and no older one of its tenant and kind is held
abbrev pub goes_at_once : ServiceConfig → ServiceView → ℕ → ℕ → Bool
goes_at_once c v slot kind = passes c v slot kind && not (holds v slot kind)

-- the present scheduler lacks room for the request, whatever the moment, and no next one may follow, since something
-- runs before it
abbrev pub is_stuck : ServiceConfig → ServiceView → Admitted → Bool
is_stuck c v q = lacks_room v.present (submit_call c 0 q) && runs_before v

-- the request is held, of this slot, and may be forwarded now
abbrev pub may_go : ServiceConfig → ServiceView → ℕ → Admitted → Bool
may_go c v slot q = of_slot slot is_held q && (passes c v slot q.kind && not (is_stuck c v q))

-- The ticket of the oldest held request of a slot that may be forwarded now, if there is one. It is the oldest held
-- one of its kind, too, since all of one kind pass alike.
abbrev pub next_to_go : ServiceConfig → ServiceView → ℕ → Option ℕ
next_to_go c v slot = position (may_go c v slot) v.admitted

-- the request q of this ticket is forwarded at m
pub record Forwards (c : ServiceConfig) (m : ℕ) (v : ServiceView) (ticket : ℕ) (w : ServiceView) : Type 0 where
  pub q : Admitted
  pub admitted : slice_get v.admitted ticket ≡ Some q
  pub request : ℕ
  pub made : ServiceView
  pub makes : MakesWithRoom c m v (submit_call c m q) (answer.Request request) made
  pub after : w ≡ with_standing made ticket q (Forwarded request)

-- these tickets are forwarded one after another, each as the next to go, until there is none
abbrev pub ReleasesThese : ServiceConfig → ℕ → ℕ → List ℕ → ServiceView → ServiceView → Type 0
ReleasesThese c m slot [] v w = (next_to_go c v slot ≡ None) × (w ≡ v)
ReleasesThese c m slot (ticket ∷ tickets) v w =
    (next_to_go c v slot ≡ Some ticket)
    × ((u : ServiceView) × Forwards c m v ticket u × ReleasesThese c m slot tickets u w)

-- the held requests of a slot that may go are forwarded at m, the oldest first, until none may
abbrev pub Releases : ServiceConfig → ℕ → ℕ → ServiceView → ServiceView → Type 0
Releases c m slot v w = (tickets : List ℕ) × ReleasesThese c m slot tickets v w
