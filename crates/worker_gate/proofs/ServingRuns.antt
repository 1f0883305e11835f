-- Calls of a worker one after another.
use Rattle.std.proofs.Common.{◌≡◌, ℕ, ◌≤◌, List, [], ◌∷◌, ◌++◌, length, Option, Some, sym, ap, ◌∙◌, subst, refl, arith}
use Rattle.std.proofs.lemmas.List.{reverse-append}
use Rattle.fq_model.specs.declared.config.Config.{Config}
use Rattle.fq_model.specs.declared.event.Act.{Act}
use Rattle.fq_model.specs.declared.event.Act.TheVariants.{Take, Done}
use Rattle.fq_model.specs.declared.event.Call.TheVariants as call
use Rattle.fq_model.specs.declared.event.Entry.{Entry}
use Rattle.fq_model.specs.declared.event.Reply.{Reply}
use Rattle.fq_model.specs.History.{History, history_of, last_use, Request, request_at}
use Rattle.fq_model.specs.Rules.{IsLegal, Answers}
use Rattle.fq_laws.proofs.History.Requests.{asked_stays}
use Rattle.history_lock.specs.Histories.{IsPrefix}
use Rattle.history_lock.specs.Passes.{LockView, PassView, IsOf}
use Rattle.history_lock.proofs.Histories.{prefix_through}
use Rattle.desk.specs.declared.floor.Crew.{Crew}
use Rattle.desk.specs.declared.tokens.Running.{Running}
use Rattle.desk.specs.declared.tokens.Worker.{Worker}
use Rattle.gate_rules.specs.declared.counters.Counters.{Counters}
use Rattle.gate_rules.specs.declared.logged_gate.Asked.{Asked}
use Rattle.gate_rules.specs.Asking.{with_slices}
use Rattle.worker_gate.specs.Moments.{HasToldMomentsFrom}
use Rattle.worker_gate.specs.Running.{Use, JobRun, with_uses, with_runs, acts_of, LackedRoom, AreKeptWhereRoom, HasLabel, IsRun, AreRuns, EndsWork, Worked}
use Rattle.worker_gate.specs.Serving.{run_of, Goes, HasNamed, HasRunSlices, HasRun, Serves}
use Rattle.worker_gate.proofs.Seen.{prefix_same, moments_begin}
use Rattle.worker_gate.proofs.ServingSteps.{Ended, Takes, Rests}

-- ---- facts about a history hold as it grows

lacked_on : (C : Config) (number : ℕ) (seen seen2 : List Entry) (acts : List Act) → IsPrefix seen seen2 → LackedRoom C number seen acts → LackedRoom C number seen2 acts
lacked_on C number seen seen2 acts on (P, begins, at, room) = (P, prefix_through P seen seen2 begins on, at, room)

pub kept_on : (C : Config) (number i r : ℕ) (seen seen2 : List Entry) (older : List Act) (uses : List Use) → IsPrefix seen seen2 → AreKeptWhereRoom C number i r seen older uses → AreKeptWhereRoom C number i r seen2 older uses
kept_on C number i r seen seen2 older [] on kept = tt
kept_on C number i r seen seen2 older (use_ ∷ uses) on kept =
    (λ no. lacked_on C number seen seen2 (with_uses i r uses older) on (kept.0 no), kept_on C number i r seen seen2 older uses on kept.1)

-- the uses are kept, where the caller, the worker and the acts are equal
kept_same : (C : Config) (n n2 i i2 r : ℕ) (seen : List Entry) (older older2 : List Act) (uses : List Use) → n ≡ n2 → i ≡ i2 → older ≡ older2 → AreKeptWhereRoom C n i r seen older uses → AreKeptWhereRoom C n2 i2 r seen older2 uses
kept_same C n n2 i i2 r seen older older2 uses number worker acts kept =
    subst (λ l. AreKeptWhereRoom C n2 i2 r seen l uses) acts (subst (λ w. AreKeptWhereRoom C n2 w r seen older uses) worker (subst (λ m. AreKeptWhereRoom C m i r seen older uses) number kept))

-- a request's Submit stays as a legal history grows
asked_on : (C : Config) (R H : History) (r : ℕ) (asked : Request) → IsLegal C (R ++ H) → request_at H r ≡ Some asked → request_at (R ++ H) r ≡ Some asked
asked_on C [] H r asked l is = is
asked_on C (e ∷ R) H r asked l is = asked_stays C (R ++ H) e r asked l (asked_on C R H r asked l.0 is)

label_on : (C : Config) (seen seen2 : List Entry) (r label : ℕ) → IsPrefix seen seen2 → IsLegal C (history_of seen2) → HasLabel (history_of seen) r label → HasLabel (history_of seen2) r label
label_on C seen seen2 r label (rest, is) l (asked, at, same) =
    let turned : history_of seen2 ≡ history_of rest ++ history_of seen = ap history_of is ∙ reverse-append seen rest in
    let legal : IsLegal C (history_of rest ++ history_of seen) = subst (IsLegal C) turned l in
    (asked, ap (λ H. request_at H r) turned ∙ asked_on C (history_of rest) (history_of seen) r asked legal at, same)

module _ (C : Config) (number i : ℕ) (course_of : ℕ → Option (List Counters)) (cost_of : Counters → ℕ) where
  run_on : (seen seen2 : List Entry) (older : List Act) (run : JobRun) → IsPrefix seen seen2 → IsLegal C (history_of seen2) → IsRun C number i course_of cost_of seen older run → IsRun C number i course_of cost_of seen2 older run
  run_on seen seen2 older run on l is = record {
    labelled = label_on C seen seen2 run.request run.label on l is.labelled;
    kept = kept_on C number i run.request seen seen2 (Take i run.request run.estimate ∷ older) run.uses on is.kept;
    few = is.few;
    charged = is.charged;
    follows = is.follows;
  }

  pub runs_on : (seen seen2 : List Entry) (older : List Act) (runs : List JobRun) → IsPrefix seen seen2 → IsLegal C (history_of seen2) → AreRuns C number i course_of cost_of seen older runs → AreRuns C number i course_of cost_of seen2 older runs
  runs_on seen seen2 older [] on l are = tt
  runs_on seen seen2 older (run ∷ runs) on l are = (run_on seen seen2 (with_runs i runs older) run on l are.0, runs_on seen seen2 older runs on l are.1)

module _ (lock : LockView Crew) (Tells : ℕ → Type 0) where
  pub goes_same : (pass : PassView Crew) → IsOf lock pass → Goes lock Tells pass pass
  goes_same pass own = record { stays = record { own = own; number = refl; made = refl; ended = refl }; seen = prefix_same pass.seen; moments = λ before told. told }

  pub goes_on : (a b c : PassView Crew) → Goes lock Tells a b → Goes lock Tells b c → Goes lock Tells a c
  goes_on a b c x y = record {
    stays = record { own = y.stays.own; number = y.stays.number ∙ x.stays.number; made = y.stays.made ∙ x.stays.made; ended = y.stays.ended ∙ x.stays.ended };
    seen = prefix_through a.seen b.seen c.seen x.seen y.seen;
    moments = λ before told. subst (λ n. HasToldMomentsFrom Tells n before (history_of c.seen)) x.stays.number
        (y.moments before (subst (λ n. HasToldMomentsFrom Tells n before (history_of b.seen)) (sym x.stays.number) (x.moments before told)));
  }

  -- ---- the uses of a request

  pub named_none : (running : Running) (most : ℕ) → IsOf lock running.pass → last_use (history_of running.pass.mine) running.request ≡ 0 → HasNamed lock Tells running running [] most
  named_none running most own unused = record {
    goes = goes_same running.pass own;
    run = record { worker = refl; request = refl; estimate = refl };
    acts_are = refl;
    kept = tt;
    rising = omega (arith, unused);
  }

  -- one more use after others
  more_uses : (i r : ℕ) (use_ : Use) (uses : List Use) (older : List Act) → with_uses i r (use_ ∷ []) (with_uses i r uses older) ≡ with_uses i r (use_ ∷ uses) older
  more_uses i r use_ uses older = refl

  -- there was no room when the acts were those that older uses left
  lacked_more : (start old : Running) (seen : List Entry) (uses : List Use) (most : ℕ) → HasNamed lock Tells start old uses most → LackedRoom lock.frame.config old.pass.number seen (acts_of old.pass.mine)
      → LackedRoom lock.frame.config start.pass.number seen (with_uses start.worker start.request uses (acts_of start.pass.mine))
  lacked_more start old seen uses most x lacked =
      subst (LackedRoom lock.frame.config start.pass.number seen) x.acts_are (subst (λ n. LackedRoom lock.frame.config n seen (acts_of old.pass.mine)) x.goes.stays.number lacked)

  pub named_more : (start old new : Running) (use_ : Use) (uses : List Use) (most : ℕ) → HasNamed lock Tells start old uses most → HasNamed lock Tells old new (use_ ∷ []) use_.used → HasNamed lock Tells start new (use_ ∷ uses) use_.used
  named_more start old new use_ uses most x y =
      let same : with_uses old.worker old.request (use_ ∷ []) (acts_of old.pass.mine) ≡ with_uses start.worker start.request (use_ ∷ []) (acts_of old.pass.mine) =
      ap (λ i. with_uses i old.request (use_ ∷ []) (acts_of old.pass.mine)) x.run.worker ∙ ap (λ r. with_uses start.worker r (use_ ∷ []) (acts_of old.pass.mine)) x.run.request in record {
        goes = goes_on start.pass old.pass new.pass x.goes y.goes;
        run = record { worker = y.run.worker ∙ x.run.worker; request = y.run.request ∙ x.run.request; estimate = y.run.estimate ∙ x.run.estimate };
        acts_are = y.acts_are ∙ (same ∙ (ap (with_uses start.worker start.request (use_ ∷ [])) x.acts_are ∙ more_uses start.worker start.request use_ uses (acts_of start.pass.mine)));
        kept = (
          λ no. lacked_more start old new.pass.seen uses most x (y.kept.0 no),
          kept_on lock.frame.config start.pass.number start.worker start.request old.pass.seen new.pass.seen (acts_of start.pass.mine) uses y.goes.seen x.kept,
        );
        rising = subst (λ r. last_use (history_of new.pass.mine) r ≤ use_.used) x.run.request y.rising;
      }

  -- these uses are named, under a greater bound
  pub named_up : (start new : Running) (uses : List Use) (most more : ℕ) → most ≤ more → HasNamed lock Tells start new uses most → HasNamed lock Tells start new uses more
  named_up start new uses most more up x = record { goes = x.goes; run = x.run; acts_are = x.acts_are; kept = x.kept; rising = omega (arith, x.rising, up) }

  module _ (course_of : ℕ → Option (List Counters)) (cost_of : Counters → ℕ) where
    -- ---- a job

    pub run_ends : (label cost : ℕ) (start old : Running) (new : Worker) (asked asked2 : List Asked) (reply : Reply) → HasRunSlices lock Tells course_of cost_of label start old asked asked2 cost
        → Ended lock Tells cost old new.pass reply → new.worker ≡ old.worker → HasRun lock Tells course_of cost_of label start new asked asked2
    run_ends label cost start old new asked asked2 reply s y worker =
        let x = s.named in
        let same : Done old.worker old.request cost ≡ Done start.worker start.request cost = ap (λ i. Done i old.request cost) x.run.worker ∙ ap (λ r. Done start.worker r cost) x.run.request in record {
          goes = goes_on start.pass old.pass new.pass x.goes y.goes;
          worker = worker ∙ x.run.worker;
          legal = y.legal;
          mores = s.mores;
          last = s.last;
          uses = s.uses;
          cost = cost;
          acts_are = y.acts_are ∙ (ap (λ act. act ∷ acts_of old.pass.mine) same ∙ ap (λ acts. Done start.worker start.request cost ∷ acts) x.acts_are);
          few = s.few;
          kept = kept_on lock.frame.config start.pass.number start.worker start.request old.pass.seen new.pass.seen (acts_of start.pass.mine) s.uses y.goes.seen x.kept;
          charged = s.charged;
          follows = s.follows;
          asked_are = s.asked_are;
        }

    -- ---- one job after another

    pub serves_none : (worker : Worker) (asked : List Asked) → IsOf lock worker.pass → Serves lock Tells course_of cost_of worker worker asked asked
    serves_none worker asked own = record { goes = goes_same worker.pass own; worker = refl; runs = []; acts_are = refl; asked_are = refl; runs_are = tt }

    -- a Take that gives no request adds nothing
    pub serves_rest : (start old new : Worker) (asked asked2 : List Asked) (m i : ℕ) (reply : Reply) → Serves lock Tells course_of cost_of start old asked asked2 → Rests lock Tells old.pass new.pass m i reply → new.worker ≡ old.worker → Serves lock Tells course_of cost_of start new asked asked2
    serves_rest start old new asked asked2 m i reply x y worker = record {
      goes = goes_on start.pass old.pass new.pass x.goes y.goes;
      worker = worker ∙ x.worker;
      runs = x.runs;
      acts_are = ap acts_of y.mine ∙ x.acts_are;
      asked_are = x.asked_are;
      runs_are = runs_on lock.frame.config start.pass.number start.worker course_of cost_of old.pass.seen new.pass.seen (acts_of start.pass.mine) x.runs y.goes.seen y.legal x.runs_are;
    }

    -- the acts of a worker when it is given one more request
    taken_acts : (start old : Worker) (running : Running) (label : ℕ) {asked asked2 : List Asked} (s : Serves lock Tells course_of cost_of start old asked asked2) → Takes lock Tells label old running
        → acts_of running.pass.mine ≡ Take start.worker running.request running.estimate ∷ with_runs start.worker s.runs (acts_of start.pass.mine)
    taken_acts start old running label s t =
        t.acts_are ∙ (ap (λ i. Take i running.request running.estimate ∷ acts_of old.pass.mine) s.worker ∙ ap (λ acts. Take start.worker running.request running.estimate ∷ acts) s.acts_are)

    run_acts : (start old new : Worker) (running : Running) (label : ℕ) {asked asked2 asked3 : List Asked} (s : Serves lock Tells course_of cost_of start old asked asked2) → Takes lock Tells label old running → running.worker ≡ old.worker
        → (h : HasRun lock Tells course_of cost_of label running new asked2 asked3)
        → acts_of new.pass.mine ≡ with_runs start.worker (run_of running label h.mores h.last h.uses h.cost ∷ s.runs) (acts_of start.pass.mine)
    run_acts start old new running label s t worker h =
        let i_is : running.worker ≡ start.worker = worker ∙ s.worker in
        h.acts_are ∙ (ap (λ i. Done i running.request h.cost ∷ with_uses i running.request h.uses (acts_of running.pass.mine)) i_is
        ∙ ap (λ acts. Done start.worker running.request h.cost ∷ with_uses start.worker running.request h.uses acts) (taken_acts start old running label s t))

    -- a Take that gives a request, and its run
    pub serves_run : (start old new : Worker) (running : Running) (label : ℕ) (asked asked2 asked3 : List Asked) → Serves lock Tells course_of cost_of start old asked asked2 → Takes lock Tells label old running → running.worker ≡ old.worker → HasRun lock Tells course_of cost_of label running new asked2 asked3
        → Serves lock Tells course_of cost_of start new asked asked3
    serves_run start old new running label asked asked2 asked3 s t worker h =
        let C : Config = lock.frame.config in
        let later : Goes lock Tells old.pass new.pass = goes_on old.pass running.pass new.pass t.goes h.goes in
        let run : JobRun = run_of running label h.mores h.last h.uses h.cost in
        let older : List Act = with_runs start.worker s.runs (acts_of start.pass.mine) in
        let is : IsRun C start.pass.number start.worker course_of cost_of new.pass.seen older run = record {
          labelled = label_on C running.pass.seen new.pass.seen running.request label h.goes.seen h.legal t.labelled;
          kept = kept_same C running.pass.number start.pass.number running.worker start.worker running.request new.pass.seen (acts_of running.pass.mine) (Take start.worker running.request running.estimate ∷ older) h.uses
              (t.goes.stays.number ∙ s.goes.stays.number) (worker ∙ s.worker) (taken_acts start old running label s t) h.kept;
          few = h.few;
          charged = h.charged;
          follows = h.follows;
        } in record {
          goes = goes_on start.pass old.pass new.pass s.goes later;
          worker = h.worker ∙ (worker ∙ s.worker);
          runs = run ∷ s.runs;
          acts_are = run_acts start old new running label s t worker h;
          asked_are = h.asked_are ∙ ap (with_slices label h.mores h.last) s.asked_are;
          runs_are = (is, runs_on C start.pass.number start.worker course_of cost_of old.pass.seen new.pass.seen (acts_of start.pass.mine) s.runs later.seen h.legal s.runs_are);
        }

    -- a worker that is turned away has done its part
    pub worked : (start old new : Worker) (asked asked2 : List Asked) (m : ℕ) (reply : Reply) → Serves lock Tells course_of cost_of start old asked asked2 → Rests lock Tells old.pass new.pass m old.worker reply → new.worker ≡ old.worker → EndsWork reply → Worked lock course_of cost_of Tells start new asked asked2
    worked start old new asked asked2 m reply s y worker ends =
        let C : Config = lock.frame.config in
        let x : Serves lock Tells course_of cost_of start new asked asked2 = serves_rest start old new asked asked2 m old.worker reply s y worker in
        let told : HasToldMomentsFrom Tells start.pass.number (length start.pass.seen) (history_of new.pass.seen) = x.goes.moments (length start.pass.seen) (moments_begin Tells start.pass.number start.pass.seen) in record {
          stays = x.goes.stays;
          worker = x.worker;
          seen = x.goes.seen;
          runs = x.runs;
          acts_are = x.acts_are ∙ ap (λ i. with_runs i x.runs (acts_of start.pass.mine)) (sym x.worker);
          asked_are = x.asked_are;
          runs_are = subst (λ i. AreRuns C new.pass.number i course_of cost_of new.pass.seen (acts_of start.pass.mine) x.runs) (sym x.worker)
              (subst (λ n. AreRuns C n start.worker course_of cost_of new.pass.seen (acts_of start.pass.mine) x.runs) (sym x.goes.stays.number) x.runs_are);
          moments = subst (λ n. HasToldMomentsFrom Tells n (length start.pass.seen) (history_of new.pass.seen)) (sym x.goes.stays.number) told;
          turned_away = (m, reply, ends, subst (λ i. Answers lock.frame.config (history_of new.pass.seen) (call.Take new.pass.number m i) reply (history_of new.pass.seen)) (sym worker) y.answers);
        }
