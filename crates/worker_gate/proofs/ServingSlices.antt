-- A request as far as its slices were run.
use Rattle.std.proofs.Common.{length, map, refl, ◌<◌, ◌≡◌, ℕ, suc, ◌+◌, ◌≤◌, ◌⊎◌, inl, inr, Bool, List, [], ◌∷◌, Option, Result, Ok, Err, sym, ap, ◌∙◌, subst, arith, add-one}
use Rattle.std.specs.Prelude.{IsOk}
use Rattle.fq_model.specs.declared.limits.TheConstants.{MOST_SLICES}
use Rattle.fq_model.specs.History.{history_of, last_use}
use Rattle.fq_model.specs.declared.event.Call.TheVariants as call
use Rattle.fq_model.specs.declared.event.Reply.{Reply}
use Rattle.fq_model.specs.declared.event.Reply.TheVariants as answer
use Rattle.history_lock.specs.Passes.{LockView, PassView}
use Rattle.desk.specs.declared.floor.Crew.{Crew}
use Rattle.desk.specs.declared.refusals.DoneRefusal.{DoneRefusal}
use Rattle.desk.specs.declared.tokens.Running.{Running}
use Rattle.desk.specs.declared.tokens.Worker.{Worker}
use Rattle.desk.specs.Replies.{GoesOn, done_pass, done_reply}
use Rattle.desk.specs.Tokens.{Stays, IsAnswered}
use Rattle.vt_fixed.specs.declared.limits.TheConstants.{GREATEST_COST}
use Rattle.gate_rules.specs.declared.counters.Counters.{Counters}
use Rattle.gate_rules.specs.declared.counters.TheConstants.{NO_COUNTERS}
use Rattle.gate_rules.specs.declared.gate.Slice.{Slice}
use Rattle.gate_rules.specs.declared.gate.Slice.TheVariants.{More, End}
use Rattle.gate_rules.specs.declared.logged_gate.Asked.{Asked}
use Rattle.gate_rules.specs.Asking.{asked_for, newest, asked_next, with_more}
use Rattle.gate_rules.specs.Counting.{IsAtMost}
use Rattle.gate_rules.specs.Rules.{NeverFalls}
use Rattle.worker_gate.specs.Running.{Use}
use Rattle.worker_gate.specs.Serving.{run_of, HasNamed, IsAtStart, HasRunSlices, HasRun}
use Rattle.gate_rules.specs.Slices.{FollowsIfTold, counters_of}
use Rattle.worker_gate.proofs.ServingCourses.{IsAtIfTold, at_first, at_next, at_end, at_most}
use Rattle.worker_gate.proofs.ServingRuns.{named_none, named_more, named_up, run_ends}
use Rattle.worker_gate.proofs.ServingSteps.{Ended, done_step}

-- one slice more, after the slices of a job that were asked for so far
one_asked : (label k : ℕ) (last : Counters) (answer : Slice) (mores : List Counters) (asked log log2 : List Asked) → last ≡ newest mores → length mores ≡ k → log ≡ with_more label mores asked
    → log2 ≡ asked_for label k last answer ∷ log → log2 ≡ asked_next label mores answer ∷ with_more label mores asked
one_asked label k last answer mores asked log log2 last_is count is noted =
    noted ∙ (ap (λ n. asked_for label n last answer ∷ log) (sym count) ∙ (ap (λ a. asked_for label (length mores) a answer ∷ log) last_is ∙ ap (λ l. asked_next label mores answer ∷ l) is))

module _ (lock : LockView Crew) (Tells : ℕ → Type 0) (course_of : ℕ → Option (List Counters)) (cost_of : Counters → ℕ) (label : ℕ) (start : Running) (asked : List Asked) where
  -- k slices were asked for and run, and each was reported
  pub record IsAlong (now : Running) (k : ℕ) (last : Counters) (log : List Asked) : Type 0 where
    pub mores : List Counters
    pub count : length mores ≡ k
    pub last_is : last ≡ newest mores
    pub asked_are : log ≡ with_more label mores asked
    pub uses : List Use
    pub few : length uses ≤ k
    pub named : HasNamed lock Tells start now uses (cost_of last)
    pub uses_are : map (λ u. u.used) uses ≡ map cost_of mores
    pub at : IsAtIfTold cost_of (course_of label) k last uses

  pub along_first : IsAtStart lock start → IsAlong start 0 NO_COUNTERS asked
  along_first s = record {
    mores = [];
    count = refl;
    last_is = refl;
    asked_are = refl;
    uses = [];
    few = omega arith;
    named = named_none lock Tells start (cost_of NO_COUNTERS) s.own s.unused;
    uses_are = refl;
    at = at_first cost_of (course_of label);
  }

  -- no use falls
  pub along_rising : (now : Running) (k used : ℕ) (last counters : Counters) (log : List Asked) → IsAlong now k last log → NeverFalls cost_of → IsAtMost last counters → used ≡ cost_of counters → last_use (history_of now.pass.mine) now.request ≤ used
  along_rising now k used last counters log x rises up is =
      let low : last_use (history_of now.pass.mine) now.request ≤ cost_of last = subst (λ r. last_use (history_of now.pass.mine) r ≤ cost_of last) (sym x.named.run.request) x.named.rising in
      let more : cost_of last ≤ cost_of counters = rises last counters up in
      omega (arith, low, more, is)

  pub along_next : (old new : Running) (k used : ℕ) (last counters : Counters) (log log2 : List Asked) → IsAlong old k last log → FollowsIfTold (course_of label) k last (More counters) → log2 ≡ asked_for label k last (More counters) ∷ log → used ≡ cost_of counters
      → ((is_kept : Bool) × HasNamed lock Tells old new (record { used = used; is_kept = is_kept } ∷ []) used) → IsAlong new (k + 1) counters log2
  along_next old new k used last counters log log2 x f noted is (is_kept, y) =
      let use_ : Use = record { used = used; is_kept = is_kept } in
      let next : IsAtIfTold cost_of (course_of label) (suc k) counters (use_ ∷ x.uses) = at_next cost_of (course_of label) k last counters x.uses use_ f x.at is in record {
        mores = counters ∷ x.mores;
        count = omega (arith, x.count);
        last_is = refl;
        asked_are = one_asked label k last (More counters) x.mores asked log log2 x.last_is x.count x.asked_are noted;
        uses = use_ ∷ x.uses;
        few = omega (arith, x.few);
        named = subst (HasNamed lock Tells start new (use_ ∷ x.uses)) is (named_more lock Tells start old new use_ x.uses (cost_of last) x.named y);
        uses_are = ap (λ n. n ∷ map (λ u. u.used) x.uses) is ∙ ap (λ l. cost_of counters ∷ l) x.uses_are;
        at = subst (λ n. IsAtIfTold cost_of (course_of label) n counters (use_ ∷ x.uses)) (sym (add-one k)) next;
      }

  up_to : (now : Running) (k cost : ℕ) (last counters : Counters) (log : List Asked) (x : IsAlong now k last log) → NeverFalls cost_of → IsAtMost last counters → cost ≡ cost_of counters → HasNamed lock Tells start now x.uses cost
  up_to now k cost last counters log x rises up is =
      let more : cost_of last ≤ cost_of counters = rises last counters up in
      named_up lock Tells start now x.uses (cost_of last) cost (omega (arith, more, is)) x.named

  pub along_end : (now : Running) (k cost : ℕ) (last counters : Counters) (log log2 : List Asked) → IsAlong now k last log → NeverFalls cost_of → IsAtMost last counters → k < MOST_SLICES → FollowsIfTold (course_of label) k last (End counters)
      → log2 ≡ asked_for label k last (End counters) ∷ log → cost ≡ cost_of counters → HasRunSlices lock Tells course_of cost_of label start now asked log2 cost
  along_end now k cost last counters log log2 x rises up here f noted is = record {
    mores = x.mores;
    last = End counters;
    uses = x.uses;
    few = omega (arith, x.few, here);
    named = up_to now k cost last counters log x rises up is;
    charged = record { uses_are = x.uses_are; cost_is = is; ends = tt };
    follows = at_end cost_of (course_of label) k last counters (run_of start label x.mores (End counters) x.uses cost) f x.at is;
    asked_are = one_asked label k last (End counters) x.mores asked log log2 x.last_is x.count x.asked_are noted;
  }

  -- the last slice that there may be is the end, whatever the gate answers
  along_full : (now : Running) (n cost : ℕ) (last counters : Counters) (log log2 : List Asked) → suc n ≡ MOST_SLICES → IsAlong now n last log → NeverFalls cost_of → IsAtMost last counters → FollowsIfTold (course_of label) n last (More counters)
      → log2 ≡ asked_for label n last (More counters) ∷ log → cost ≡ cost_of counters → HasRunSlices lock Tells course_of cost_of label start now asked log2 cost
  along_full now n cost last counters log log2 most x rises up f noted is = record {
    mores = x.mores;
    last = More counters;
    uses = x.uses;
    few = omega (arith, x.few, most);
    named = up_to now n cost last counters log x rises up is;
    charged = record { uses_are = x.uses_are; cost_is = is; ends = ap suc x.count ∙ most };
    follows = at_most cost_of (course_of label) n last counters (run_of start label x.mores (More counters) x.uses cost) most f x.at is;
    asked_are = one_asked label n last (More counters) x.mores asked log log2 x.last_is x.count x.asked_are noted;
  }

  pub along_most : (now : Running) (k n cost : ℕ) (last counters : Counters) (answer : Slice) (log log2 : List Asked) → suc n ≡ MOST_SLICES → n ≤ k → k ≤ n → IsAlong now k last log → NeverFalls cost_of → IsAtMost last (counters_of answer) → FollowsIfTold (course_of label) n last answer
      → log2 ≡ asked_for label n last answer ∷ log → (answer ≡ More counters) ⊎ (answer ≡ End counters) → cost ≡ cost_of counters → HasRunSlices lock Tells course_of cost_of label start now asked log2 cost
  along_most now k n cost last counters answer log log2 most low high x rises up f noted (inl more) is =
      let here : k ≡ n = omega (arith, low, high) in
      along_full now n cost last counters log log2 most (subst (λ j. IsAlong now j last log) here x) rises (subst (λ a. IsAtMost last (counters_of a)) more up) (subst (FollowsIfTold (course_of label) n last) more f)
      (subst (λ a. log2 ≡ asked_for label n last a ∷ log) more noted) is
  along_most now k n cost last counters answer log log2 most low high x rises up f noted (inr end) is =
      let here : k ≡ n = omega (arith, low, high) in
      along_end now n cost last counters log log2 (subst (λ j. IsAlong now j last log) here x) rises (subst (λ a. IsAtMost last (counters_of a)) end up) (omega (arith, most)) (subst (FollowsIfTold (course_of label) n last) end f)
      (subst (λ a. log2 ≡ asked_for label n last a ∷ log) end noted) is

  -- the completion of a request whose slices were run
  pub slices_end : (old : Running) (new : PassView Crew) (m cost : ℕ) (log2 : List Asked) (reply : Reply) → HasRunSlices lock Tells course_of cost_of label start old asked log2 cost → cost ≤ GREATEST_COST → Stays lock old.pass new → Tells m
      → IsAnswered lock.frame old.pass (call.Done old.pass.number m old.worker cost) reply new → Ended lock Tells cost old new reply
  slices_end old new m cost log2 reply s limit stays tells a =
      let low : last_use (history_of old.pass.mine) old.request ≤ cost = subst (λ r. last_use (history_of old.pass.mine) r ≤ cost) (sym s.named.run.request) s.named.rising in
      done_step lock Tells cost old new m reply s.named.goes.stays.own stays tells low limit a

  pub job_end : (old : Running) (result : Result Worker (Running × DoneRefusal)) (new : Worker) (m cost : ℕ) (log2 : List Asked) → HasRunSlices lock Tells course_of cost_of label start old asked log2 cost → cost ≤ GREATEST_COST → Stays lock old.pass (done_pass result) → Tells m
      → IsAnswered lock.frame old.pass (call.Done old.pass.number m old.worker cost) (done_reply result) (done_pass result) → GoesOn old result → result ≡ Ok new → HasRun lock Tells course_of cost_of label start new asked log2
  job_end old result new m cost log2 s limit stays tells a on is =
      let stays2 : Stays lock old.pass new.pass = subst (λ r. Stays lock old.pass (done_pass r)) is stays in
      let answered : IsAnswered lock.frame old.pass (call.Done old.pass.number m old.worker cost) answer.Accepted new.pass = subst (λ r. IsAnswered lock.frame old.pass (call.Done old.pass.number m old.worker cost) (done_reply r) (done_pass r)) is a in
      let worker : new.worker ≡ old.worker = subst (GoesOn old) is on in
      run_ends lock Tells course_of cost_of label cost start old new asked log2 answer.Accepted s (slices_end old new.pass m cost log2 answer.Accepted s limit stays2 tells answered) worker

-- so each completion is accepted
pub accepted_is_ok : (result : Result Worker (Running × DoneRefusal)) → done_reply result ≡ answer.Accepted → IsOk result
accepted_is_ok (Ok worker) told = refl
accepted_is_ok (Err back) told = absurd (cc)
