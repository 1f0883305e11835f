-- The facts about views, and those about the others that stay true at a step.
use Rattle.std.proofs.Common.{◌≡◌, ◌≢◌, ℕ, ◌+◌, ◌*◌, ◌≤◌, true, List, length, get_or, set, sym, refl, subst, arith}
use Rattle.std.proofs.Math.Seq.{set-get_or}
use mathlib.Core.Option.{some}
use lib.ListN.{get_elem?}
use Rattle.atomic_table.specs.Table.{State}
use Rattle.fq_model.specs.declared.config.Config.{Config}
use Rattle.history_lock.specs.Histories.{IsPrefix}
use Rattle.history_lock.proofs.Histories.{prefix_through}
use Rattle.history_lock.proofs.Lists.{seats_stay}
use Rattle.status_board.specs.declared.table.View.{View}
use Rattle.status_board.specs.declared.table.Stage.{Stage}
use Rattle.status_board.specs.declared.table.Stage.TheVariants.{Spent, Idle, Reading, Rests, Writes}
use Rattle.status_board.specs.Rule.{Marks, IsLive, Staged, Knows, Kept}
use Rattle.status_board.specs.Views.{is_idle, is_resting}

pub idle_is : (x : Stage) → is_idle x ≡ true → x ≡ Idle
idle_is Idle e = refl
idle_is Spent e = cc
idle_is Reading e = cc
idle_is Rests e = cc
idle_is Writes e = cc

pub rests_is : (x : Stage) → is_resting x ≡ true → x ≡ Rests
rests_is Rests e = refl
rests_is Spent e = cc
rests_is Idle e = cc
rests_is Reading e = cc
rests_is Writes e = cc

module _ (C : Config) where
  -- the facts about a view at a stage that was found out
  pub known : (s : State (Unit {0}) View) (r : Kept C s) (id : ℕ) (v : View) (x : Stage) → get_elem? s.views id ≡ some v → v.stage ≡ x → Staged C r.marks id v x
  known s r id v x at is = subst (Staged C r.marks id v) is (r.each_seat id v at)

  -- the facts about a view that is not the writer's stay true where the writer steps on
  pub others_know : (k k2 : Marks) (seat : ℕ) (v : View) → k2.writer ≡ k.writer → seat ≢ k.writer → IsPrefix k.shown k2.shown → 2 * length k.shown + k.busy ≤ 2 * length k2.shown + k2.busy
      → Knows C k seat v → Knows C k2 seat v
  others_know k k2 seat v same other more later = go v.stage
    where
      live : IsLive C k seat v → IsLive C k2 seat v
      live l = (l.0, prefix_through v.seen k.shown k2.shown l.1 more, prefix_through v.joined k.shown k2.shown l.2 more)

      go : (x : Stage) → Staged C k seat v x → Staged C k2 seat v x
      go Spent z = tt
      go Idle z = live z
      go Reading z = (live z.0, prefix_through v.noted k.shown k2.shown z.1 more, z.2, (let c = z.3 in omega arith))
      go Rests z = absurd (other z.1)
      go Writes z = absurd (other z.1)

  -- after a load the view is w
  pub loaded : (s : State (Unit {0}) View) (r : Kept C s) (i id : ℕ) (w : View) → Knows C r.marks id w → Kept C record { words = set s.words i (get_or s.words i 0); homes = s.homes; views = set s.views id w }
  loaded s r i id w mine = subst (λ (ws : List ℕ). Kept C record { words = ws; homes = s.homes; views = set s.views id w }) (sym (set-get_or s.words i 0)) record {
    marks = r.marks;
    words = r.words;
    wide = r.wide;
    low = r.low;
    at_rest = r.at_rest;
    each_seat = seats_stay (Knows C r.marks) s.views id w mine (λ j d _. r.each_seat j d);
  }
