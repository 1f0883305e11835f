-- A hand that ran.
use Rattle.std.proofs.Common.{◌≡◌, ◌<◌, ◌-◌, ◌∙◌, ℕ, List, Global, length, slice_index_or, Option, Some, sym, ap, subst, arith}
use Rattle.std.specs.List.{ReversedBelow}
use Rattle.std.specs.declared.vec.Vec.{Vec}
use Rattle.fq_model.specs.declared.parts.Status.{Status}
use Rattle.history_lock.specs.Passes.{LockView}
use Rattle.status_board.specs.Boards.{BoardView, ReaderView}
use Rattle.desk.specs.declared.floor.Crew.{Crew}
use Rattle.gate_rules.specs.declared.counters.Counters.{Counters}
use Rattle.worker_gate.specs.declared.pool.Hand.{Hand}
use Rattle.worker_gate.specs.declared.pool.Hand.TheVariants.{Watch}
use Rattle.worker_gate.specs.Watching.{Watched}
use Rattle.worker_gate.specs.Hands.{HandDid, HandsDid}

module _ {J G : Type 0} (label : J → ℕ) (lock : LockView Crew) (shared : Option BoardView) (course_of : ℕ → Option (List Counters)) (cost_of : Counters → ℕ) (Tells : ℕ → Type 0) where
  -- a hand has done its part, where an equal hand has
  pub did_so : (hand known new : Hand J G) → hand ≡ known → HandDid label lock shared course_of cost_of Tells known new → HandDid label lock shared course_of cost_of Tells hand new
  did_so hand known new is did = subst (λ h. HandDid label lock shared course_of cost_of Tells h new) (sym is) did

  pub did_watch : (hand : Hand J G) (board : BoardView) (reader reader2 : ReaderView) (left left2 expected : ℕ) (seen seen2 : Vec Status Global) → hand ≡ Watch reader left expected seen → shared ≡ Some board → left2 ≡ 0
      → Watched board left reader reader2 seen.items seen2.items → HandDid label lock shared course_of cost_of Tells hand (Watch reader2 left2 expected seen2)
  did_watch hand board reader reader2 left left2 expected seen seen2 is shown none w =
      did_so hand (Watch reader left expected seen) (Watch reader2 left2 expected seen2) is (board, reader2, seen2, shown, ap (λ n. let h : Hand J G = Watch reader2 n expected seen2 in h) none, w)

  -- a hand has done its part, where the argument of a call with a `&mut` to it has
  pub did_at : (hand argument after new : Hand J G) → argument ≡ hand → after ≡ new → HandDid label lock shared course_of cost_of Tells argument after → HandDid label lock shared course_of cost_of Tells hand new
  did_at hand argument after new is left did = subst (λ h. HandDid label lock shared course_of cost_of Tells h new) is (subst (HandDid label lock shared course_of cost_of Tells argument) left did)

  -- hands that are turned round, have done their parts, and are turned back
  pub did_turned : (olds turned done news : List (Hand J G)) → length turned ≡ length olds → ReversedBelow olds turned (length olds) → length done ≡ length turned
      → ((i : ℕ) (d : Hand J G) → i < length turned → HandDid label lock shared course_of cost_of Tells (slice_index_or turned i d) (slice_index_or done i d))
      → length news ≡ length done → ReversedBelow done news (length done) → HandsDid label lock shared course_of cost_of Tells olds news
  did_turned olds turned done news same first all did back second = (back ∙ (all ∙ same), λ i d here. at i d here)
    where
      at : (i : ℕ) (d : Hand J G) → i < length olds → HandDid label lock shared course_of cost_of Tells (slice_index_or olds i d) (slice_index_or news i d)
      at i d here =
          let k : ℕ = length done - 1 - i in
          let below : k < length turned = omega (arith, here, same, all) in
          let was : slice_index_or turned k d ≡ slice_index_or olds i d = first k d (omega (arith, below, same)) ∙ ap (λ n. slice_index_or olds n d) (omega (arith, here, same, all)) in
          did_at (slice_index_or olds i d) (slice_index_or turned k d) (slice_index_or done k d) (slice_index_or news i d) was (sym (second i d (omega (arith, here, same, all)))) (did k d below)
