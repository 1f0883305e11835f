-- No more requests of a tenant and kind are forwarded and not ended than the limit of the kind.
use Rattle.std.proofs.Common.{ℕ, ◌≡◌, ◌≢◌, ◌∙◌, ◌+◌, ◌≤◌, ◌⊎◌, Bool, true, false, List, [], ◌∷◌, refl, sym, ap, subst, nat_lt, arith, inl, inr}
use Rattle.std.specs.Prelude.{◌==◌, ◌&&◌, ◌||◌, slice_index}
use Rattle.std.specs.List.{count_by}
use Rattle.std.proofs.lemmas.Bool.{cases_eq}
use Rattle.std.proofs.lemmas.Bool.Decides.{nat_tests}
use Rattle.service_model.specs.declared.config.ServiceConfig.{ServiceConfig}
use Rattle.service_model.specs.View.{Standing, Held, Forwarded, Runs, Ended, Withdrawn, Admitted, ServiceView, stands_held, stands_forwarded, stands_running, is_sent, of_kind}
use Rattle.service_model.specs.Limits.{sent_of_kind, is_below, passes}
use Rattle.service_model.specs.Runs.{Step, IsRun, service_after}
use Rattle.service_model.specs.Laws.{IsWithinLimit, KindLimitsAreKept}
use Rattle.service_laws.proofs.Refreshed.{made_now, made_before}
use Rattle.service_laws.proofs.Rolled.{rolled, counted}
use Rattle.service_laws.proofs.Moves.{Becomes, IsLetGo, Turns, Admits, IsClosed, kind_is_blind, second_of_both}
use Rattle.service_laws.proofs.Calls.{answers}
use Rattle.service_laws.proofs.Rooms.{as_one, one, count_set, count_push, apart}

sent : Standing → Bool
sent s = stands_forwarded s || stands_running s

-- what is forwarded more is let go
sending : (a b : Standing) (Passes : Type 0) → Becomes a b → IsLetGo b Passes
    → (sent b ≡ sent a) ⊎ (Passes ⊎ (sent b ≡ false))
unfolding sent
sending Held (Forwarded request) Passes x go = inr (inl go)
sending Held Withdrawn Passes x go = inl refl
sending (Forwarded request) Withdrawn Passes x go = inr (inr refl)
sending (Forwarded request) (Runs run) Passes x go = inl refl
sending (Runs run) (Runs later) Passes x go = inl refl
sending (Runs run) Ended Passes x go = inr (inr refl)
sending Held Held Passes x go = absurd x
sending Held (Runs run) Passes x go = absurd x
sending Held Ended Passes x go = absurd x
sending (Forwarded request) Held Passes x go = absurd x
sending (Forwarded request) (Forwarded r) Passes x go = absurd x
sending (Forwarded request) Ended Passes x go = absurd x
sending (Runs run) Held Passes x go = absurd x
sending (Runs run) (Forwarded r) Passes x go = absurd x
sending (Runs run) Withdrawn Passes x go = absurd x
sending Ended Held Passes x go = absurd x
sending Ended (Forwarded r) Passes x go = absurd x
sending Ended (Runs run) Passes x go = absurd x
sending Ended Ended Passes x go = absurd x
sending Ended Withdrawn Passes x go = absurd x
sending Withdrawn Held Passes x go = absurd x
sending Withdrawn (Forwarded r) Passes x go = absurd x
sending Withdrawn (Runs run) Passes x go = absurd x
sending Withdrawn Ended Passes x go = absurd x
sending Withdrawn Withdrawn Passes x go = absurd x

-- one more than what is below a limit is within it
one_more : (n limit : ℕ) → is_below n limit ≡ true → IsWithinLimit limit (n + 1)
one_more n limit e = elim (cases_eq limit 0) [
  | inl none ↦ inl none
  | inr some ↦ inr (above n limit some e)
]
  where
    above : (n limit : ℕ) → limit ≢ 0 → (limit == 0) || nat_lt n limit ≡ true → n + 1 ≤ limit
    above n limit some e = grind (arith, nat_tests)

fewer : (n m limit : ℕ) → m ≤ n → IsWithinLimit limit n → IsWithinLimit limit m
fewer n m limit le w = elim w [
  | inl none ↦ inl none
  | inr within ↦ inr (omega (arith, le, within))
]

not_more : (a b : Bool) → as_one (a && (b && false)) ≡ 0
not_more true true = refl
not_more true false = refl
not_more false b = refl

at_most_one : (b : Bool) → as_one b ≤ 1
at_most_one true = omega arith
at_most_one false = omega arith

module _ (c : ServiceConfig) where
  abbrev Within : ServiceView → Type 0
  Within v = (slot kind : ℕ) → IsWithinLimit (slice_index c.kind_most_running kind) (sent_of_kind v slot kind)

  -- one more of a slot and kind that passes its limit
  with_one : (v : ServiceView) (q : Admitted) (slot kind n : ℕ) → passes c v q.slot q.kind ≡ true
      → n ≤ sent_of_kind v slot kind + one (of_kind slot kind is_sent) q
      → IsWithinLimit (slice_index c.kind_most_running kind) (sent_of_kind v slot kind)
      → IsWithinLimit (slice_index c.kind_most_running kind) n
  with_one v q slot kind n lets le before = elim (cases_eq q.kind kind) [
    | inl k ↦ elim (cases_eq q.slot slot) [
      | inl s ↦
          fewer (sent_of_kind v slot kind + 1) n (slice_index c.kind_most_running kind)
          (omega (arith, le, at_most_one (of_kind slot kind is_sent q)))
          (one_more (sent_of_kind v slot kind) (slice_index c.kind_most_running kind)
          (ap (λ i. is_below (sent_of_kind v i kind) (slice_index c.kind_most_running kind)) (sym s)
          ∙ ap (λ i. is_below (sent_of_kind v q.slot i) (slice_index c.kind_most_running i)) (sym k)
          ∙ second_of_both _ (is_below (sent_of_kind v q.slot q.kind) (slice_index c.kind_most_running q.kind)) lets))
      | inr s ↦ fewer (sent_of_kind v slot kind) n (slice_index c.kind_most_running kind)
          (omega (arith, le, ap (λ b. as_one ((q.kind == kind) && (b && is_sent q))) (apart q.slot slot s), nothing (q.kind == kind)))
          before
    ]
    | inr k ↦ fewer (sent_of_kind v slot kind) n (slice_index c.kind_most_running kind)
        (omega (arith, le, ap (λ b. as_one (b && ((q.slot == slot) && is_sent q))) (apart q.kind kind k)))
        before
  ]
    where
      nothing : (b : Bool) → as_one (b && false) ≡ 0
      nothing true = refl
      nothing false = refl

  turned : (v w : ServiceView) → Turns c v w → Within v → Within w
  unfolding sent
  turned v w x before slot kind =
      let p : Admitted = record x.q { stands = x.next } in
      let counts = ap (λ l. count_by (of_kind slot kind is_sent) l + one (of_kind slot kind is_sent) x.q) x.admitted
      ∙ count_set (of_kind slot kind is_sent) v.admitted x.ticket x.q p x.there in
      elim (sending x.q.stands x.next (passes c v x.q.slot x.q.kind ≡ true) x.becomes x.let_go) [
        | inl same ↦ fewer (sent_of_kind v slot kind) (sent_of_kind w slot kind) (slice_index c.kind_most_running kind)
            (omega (arith, counts, ap (λ b. as_one ((x.q.kind == kind) && ((x.q.slot == slot) && b))) same))
            (before slot kind)
        | inr other ↦ elim other [
          | inl lets ↦ with_one v p slot kind (sent_of_kind w slot kind) lets (omega (arith, counts)) (before slot kind)
          | inr gone ↦ fewer (sent_of_kind v slot kind) (sent_of_kind w slot kind) (slice_index c.kind_most_running kind)
              (omega (
                arith,
                counts,
                ap (λ b. as_one ((x.q.kind == kind) && ((x.q.slot == slot) && b))) gone,
                not_more (x.q.kind == kind) (x.q.slot == slot),
              ))
              (before slot kind)
        ]
      ]

  -- where it comes it is held, or let go
  coming : (s : Standing) (Passes : Type 0) → IsLetGo s Passes → stands_held s || stands_forwarded s ≡ true
      → (sent s ≡ false) ⊎ Passes
  unfolding sent
  coming Held Passes go e = inl refl
  coming (Forwarded request) Passes go e = inr go
  coming (Runs run) Passes go e = let k : false ≡ true = e in absurd (cc)
  coming Ended Passes go e = let k : false ≡ true = e in absurd (cc)
  coming Withdrawn Passes go e = let k : false ≡ true = e in absurd (cc)

  admitted : (v w : ServiceView) → Admits c v w → Within v → Within w
  unfolding sent
  admitted v w x before slot kind =
      let counts = ap (count_by (of_kind slot kind is_sent)) x.admitted
      ∙ count_push (of_kind slot kind is_sent) v.admitted x.q in
      elim (coming x.q.stands (passes c v x.q.slot x.q.kind ≡ true) x.let_go x.waits) [
        | inl held ↦ fewer (sent_of_kind v slot kind) (sent_of_kind w slot kind) (slice_index c.kind_most_running kind)
            (omega (
              arith,
              counts,
              ap (λ b. as_one ((x.q.kind == kind) && ((x.q.slot == slot) && b))) held,
              not_more (x.q.kind == kind) (x.q.slot == slot),
            ))
            (before slot kind)
        | inr lets ↦ with_one v x.q slot kind (sent_of_kind w slot kind) lets (omega (arith, counts)) (before slot kind)
      ]

  -- counts of the same requests
  same_counts : (v w : ServiceView) → ((slot kind : ℕ) → sent_of_kind w slot kind ≡ sent_of_kind v slot kind)
      → Within v → Within w
  same_counts v w same before slot kind =
      subst (IsWithinLimit (slice_index c.kind_most_running kind)) (sym (same slot kind)) (before slot kind)

  same_requests : (v w : ServiceView) → w.admitted ≡ v.admitted → Within v → Within w
  same_requests v w e = same_counts v w (λ slot kind. ap (count_by (of_kind slot kind is_sent)) e)

  is_closed : IsClosed c (λ v w. Within v → Within w)
  is_closed = record {
    joins = λ v u w a b h. b (a h);
    stays = λ v w x. same_requests v w x.admitted;
    makes_now = λ v asked r w x. same_requests v w (made_now v asked r w x).admitted;
    makes_before = λ v asked r w x. same_requests v w (made_before v asked r w x).admitted;
    rolls_over = λ m v w x. same_counts v w (λ slot kind.
        ap (count_by (of_kind slot kind is_sent)) (rolled c m v w x).admitted
        ∙ counted (of_kind slot kind is_sent) (kind_is_blind slot kind) 0 v.admitted);
    turns = turned;
    admits = admitted;
  }

  none_sent : (limit : ℕ) → IsWithinLimit limit 0
  none_sent limit = inr (omega arith)

  within : (run : List Step) → IsRun c run → Within (service_after c run)
  within [] run = λ slot kind. none_sent (slice_index c.kind_most_running kind)
  within (step ∷ older) run =
      answers c (λ v w. Within v → Within w) is_closed step.before step.asked step.outcome step.after run.2
      (subst Within (sym run.1) (within older run.0))

pub kind_limits_are_kept : KindLimitsAreKept
kind_limits_are_kept c run sound is_run = within c run is_run
