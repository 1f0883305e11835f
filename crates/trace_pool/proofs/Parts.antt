-- The parts of submitters and workers at the end of a pool, over the history with the newest entry first.
use Rattle.std.proofs.Common.{◌≡◌, ◌<◌, ◌≤◌, ℕ, List, [], ◌++◌, length, map, sym, ap, ◌∙◌, subst, inl, inr, Option}
use Rattle.fq_model.specs.declared.config.Config.{Config}
use Rattle.fq_model.specs.declared.event.Act.{Act}
use Rattle.fq_model.specs.declared.event.Call.TheVariants as call
use Rattle.fq_model.specs.declared.event.Cause.{Cause}
use Rattle.fq_model.specs.declared.event.Entry.{Entry}
use Rattle.fq_model.specs.declared.event.Reply.{Reply}
use Rattle.program_model.specs.declared.trace.RunOptions.{RunOptions}
use Rattle.program_model.specs.Courses.{submitters, worker_caller}
use Rattle.fq_model.specs.History.{History, history_of}
use Rattle.fq_model.specs.Outcome.{own_entries}
use Rattle.program_model.specs.PoolHistory.{pool_config, requests_from, HasToldMoments}
use Rattle.fq_model.specs.Rules.{IsLegal, Answers}
use Rattle.program_model.specs.Trace.{Trace}
use Rattle.history_lock.specs.Histories.{IsPrefix}
use Rattle.history_lock.specs.Passes.{LockView}
use Rattle.desk.specs.declared.floor.Crew.{Crew}
use Rattle.gate_rules.specs.declared.rows.Row.{Row}
use Rattle.worker_gate.specs.Feeding.{IsFeed, HasClosed, Splits, IsRefused}
use Rattle.worker_gate.specs.Moments.{HasToldMomentsFrom}
use Rattle.gate_rules.specs.Rules.{work_cost}
use Rattle.worker_gate.specs.Running.{JobRun, AreRuns, with_runs, acts_of, EndsWork}
use Rattle.trace_pool.specs.PoolEnd.{FeedEnds, WorkEnds, PoolEnds, row_asks, trace_course}
use Rattle.trace_pool.proofs.Callers.{own_turns, front_turns, none_newer, who_is}
use Rattle.trace_pool.proofs.Moments.{told_beyond, told_of_nobody, told_of_all}

-- the acts, the newest first
abbrev pub acts : History → List Act
acts H = map (λ e. e.act) H

-- a history of which the history that a caller has seen is a prefix, and the caller had no entry since
pub record Sees (H : History) (j : ℕ) (seen : History) : Type 0 where
  pub newer : History
  pub begins : H ≡ newer ++ seen
  pub none_since : own_entries newer j ≡ []

-- the entries of submitter j, who has seen this history: Submits of those of its rows that were sent
pub record FeedPart (T : Trace) (O : RunOptions) (Tells : ℕ → Type 0) (H : History) (j : ℕ) : Type 0 where
  pub seen : History
  pub sees : Sees H j seen
  pub rows : List (Row ℕ)
  pub sent : List (Row ℕ)
  pub stopped : Option (Row ℕ × Cause)
  pub rest : List (Row ℕ)
  pub split : Splits rows sent stopped rest
  pub rows_are : map row_asks rows ≡ requests_from j 0 T.rows
  pub feed : IsFeed (length T.rows) j (map row_asks sent) (own_entries H j)
  pub closed : HasClosed (length T.rows) j (own_entries H j) seen
  pub refused : IsRefused (λ n. n) (λ row. row.kind) (pool_config T O) Tells j seen stopped
  pub moments : HasToldMomentsFrom Tells j 0 seen

-- the entries of worker i, who has seen this history: the acts of its runs
pub record WorkPart (T : Trace) (O : RunOptions) (Tells : ℕ → Type 0) (H : History) (i : ℕ) : Type 0 where
  pub seen : List Entry
  pub sees : Sees H (worker_caller T.rows i) (history_of seen)
  pub runs : List JobRun
  pub acts_are : acts (own_entries H (worker_caller T.rows i)) ≡ with_runs i runs []
  pub runs_are : AreRuns (pool_config T O) (worker_caller T.rows i) i (trace_course O.refresh T.rows) work_cost seen [] runs
  pub number : ℕ
  pub moment : ℕ
  pub reply : Reply
  pub ends : EndsWork reply
  pub turned_away : Answers (pool_config T O) (history_of seen) (call.Take number moment i) reply (history_of seen)
  pub moments : HasToldMomentsFrom Tells (worker_caller T.rows i) 0 (history_of seen)

pub sees : (past seen mine : List Entry) (j : ℕ) → IsPrefix seen past → own_entries seen j ≡ mine → own_entries past j ≡ mine → Sees (history_of past) j (history_of seen)
sees past seen mine j front in_seen in_past =
    let x = front_turns seen past front in
    let same : own_entries (history_of past) j ≡ own_entries (history_of seen) j = own_turns past mine j in_past ∙ sym (own_turns seen mine j in_seen) in
    record { newer = x.0; begins = x.1; none_since = none_newer x.0 (history_of seen) j (sym (ap (λ P. own_entries P j) x.1) ∙ same) }

-- the entries that were added to none
added : (mine old more : List Entry) → mine ≡ old ++ more → old ≡ [] → mine ≡ more
added mine old more is none = is ∙ ap (λ l. l ++ more) none

-- ---- runs

module _ (T : Trace) (O : RunOptions) where
  -- the runs are runs where the configuration, the caller and the worker are equal
  runs_same : (C C2 : Config) (n n2 i i2 : ℕ) (seen : List Entry) (older : List Act) (runs : List JobRun) → C ≡ C2 → n ≡ n2 → i ≡ i2
      → AreRuns C n i (trace_course O.refresh T.rows) work_cost seen older runs → AreRuns C2 n2 i2 (trace_course O.refresh T.rows) work_cost seen older runs
  runs_same C C2 n n2 i i2 seen older runs config number worker are =
      subst (λ w. AreRuns C2 n2 w (trace_course O.refresh T.rows) work_cost seen older runs) worker
      (subst (λ m. AreRuns C2 m i (trace_course O.refresh T.rows) work_cost seen older runs) number
      (subst (λ D. AreRuns D n i (trace_course O.refresh T.rows) work_cost seen older runs) config are))

  -- onto no acts, where the worker began with no entry
  runs_begun : (C : Config) (n i : ℕ) (seen mine : List Entry) (runs : List JobRun) → mine ≡ []
      → AreRuns C n i (trace_course O.refresh T.rows) work_cost seen (acts_of mine) runs → AreRuns C n i (trace_course O.refresh T.rows) work_cost seen [] runs
  runs_begun C n i seen mine runs none are = subst (λ l. AreRuns C n i (trace_course O.refresh T.rows) work_cost seen (acts_of l) runs) none are

module _ (T : Trace) (O : RunOptions) (lock : LockView Crew) (Tells : ℕ → Type 0) (past : List Entry) where
  pub feed_part : (j : ℕ) → lock.frame.config ≡ pool_config T O → FeedEnds T O lock Tells past j → FeedPart T O Tells (history_of past) j
  feed_part j config f =
      let begins : f.begun.pass.number ≡ j = f.new.numbered in
      let number : f.ended.pass.number ≡ j = f.feeds.stays.number ∙ begins in
      let mine : f.ended.pass.mine ≡ f.feeds.more = added _ f.begun.pass.mine f.feeds.more f.feeds.mine f.new.mine in
      let in_past : own_entries past j ≡ f.feeds.more = subst (λ n. own_entries past n ≡ f.ended.pass.mine) number f.in_past.1 ∙ mine in
      let in_seen : own_entries f.ended.pass.seen j ≡ f.feeds.more = subst (λ n. own_entries f.ended.pass.seen n ≡ f.ended.pass.mine) number (sym f.ended.own) ∙ mine in
      let own : history_of f.feeds.more ≡ own_entries (history_of past) j = sym (own_turns past f.feeds.more j in_past) in
      record {
        seen = history_of f.ended.pass.seen;
        sees = sees past f.ended.pass.seen f.feeds.more j f.in_past.0 in_seen in_past;
        rows = f.rows;
        sent = f.feeds.sent;
        stopped = f.stopped;
        rest = f.rest;
        split = f.feeds.split;
        rows_are = f.rows_are;
        feed = subst (λ n. IsFeed (length T.rows) n (map row_asks f.feeds.sent) (own_entries (history_of past) j)) begins (subst (IsFeed (length T.rows) f.begun.pass.number (map row_asks f.feeds.sent)) own f.feeds.feed);
        closed = subst (λ n. HasClosed (length T.rows) n (own_entries (history_of past) j) (history_of f.ended.pass.seen)) begins (subst (λ P. HasClosed (length T.rows) f.begun.pass.number P (history_of f.ended.pass.seen)) own f.feeds.closed);
        refused = subst (λ C. IsRefused (λ n. n) (λ row. row.kind) C Tells j (history_of f.ended.pass.seen) f.stopped) config (subst (λ n. IsRefused (λ n. n) (λ row. row.kind) lock.frame.config Tells n (history_of f.ended.pass.seen) f.stopped) begins f.feeds.refused);
        moments = subst (λ n. HasToldMomentsFrom Tells j n (history_of f.ended.pass.seen)) (ap length f.new.seen) (subst (λ n. HasToldMomentsFrom Tells n (length f.begun.pass.seen) (history_of f.ended.pass.seen)) begins f.feeds.moments);
      }

  pub work_part : (i : ℕ) → lock.frame.config ≡ pool_config T O → WorkEnds T O lock Tells past i → WorkPart T O Tells (history_of past) i
  work_part i config w =
      let j : ℕ = worker_caller T.rows i in
      let d = w.worked in
      let number : w.ended.pass.number ≡ j = d.stays.number ∙ w.new.numbered in
      let worker : w.ended.worker ≡ i = d.worker ∙ w.numbered in
      let in_past : own_entries past j ≡ w.ended.pass.mine = subst (λ n. own_entries past n ≡ w.ended.pass.mine) number w.in_past.1 in
      let in_seen : own_entries w.ended.pass.seen j ≡ w.ended.pass.mine = subst (λ n. own_entries w.ended.pass.seen n ≡ w.ended.pass.mine) number (sym w.ended.own) in
      let own : own_entries (history_of past) j ≡ history_of w.ended.pass.mine = own_turns past w.ended.pass.mine j in_past in
      let away = d.turned_away in
      record {
        seen = w.ended.pass.seen;
        sees = sees past w.ended.pass.seen w.ended.pass.mine j w.in_past.0 in_seen in_past;
        runs = d.runs;
        acts_are = ap acts own ∙ (d.acts_are ∙ (ap (λ n. with_runs n d.runs (acts (history_of w.begun.pass.mine))) worker ∙ ap (λ l. with_runs i d.runs (acts (history_of l))) w.new.mine));
        runs_are = runs_begun T O (pool_config T O) j i w.ended.pass.seen w.begun.pass.mine d.runs w.new.mine
            (runs_same T O lock.frame.config (pool_config T O) w.ended.pass.number j w.ended.worker i w.ended.pass.seen (acts_of w.begun.pass.mine) d.runs config number worker d.runs_are);
        number = w.ended.pass.number;
        moment = away.0;
        reply = away.1;
        ends = away.2;
        turned_away = subst (λ C. Answers C (history_of w.ended.pass.seen) (call.Take w.ended.pass.number away.0 i) away.1 (history_of w.ended.pass.seen)) config (subst (λ n. Answers lock.frame.config (history_of w.ended.pass.seen) (call.Take w.ended.pass.number away.0 n) away.1 (history_of w.ended.pass.seen)) worker away.3);
        moments = subst (λ n. HasToldMomentsFrom Tells n 0 (history_of w.ended.pass.seen)) number (subst (λ n. HasToldMomentsFrom Tells w.ended.pass.number n (history_of w.ended.pass.seen)) (ap length w.new.seen) d.moments);
      }

-- ---- all parts

-- the parts of all callers that have entries in a legal history
pub record PoolParts (T : Trace) (O : RunOptions) (Tells : ℕ → Type 0) (H : History) : Type 0 where
  pub legal : IsLegal (pool_config T O) H
  pub fed : (j : ℕ) → j < submitters T.rows → FeedPart T O Tells H j
  pub served : (i : ℕ) → i < O.workers → WorkPart T O Tells H i
  pub no_other : (j : ℕ) → worker_caller T.rows O.workers ≤ j → own_entries H j ≡ []

pub pool_parts : (T : Trace) (O : RunOptions) (lock : LockView Crew) (Tells : ℕ → Type 0) (past : List Entry) → PoolEnds T O lock Tells past → PoolParts T O Tells (history_of past)
pool_parts T O lock Tells past p = record {
  legal = p.legal;
  fed = λ j h. feed_part T O lock Tells past j p.config (p.fed j h);
  served = λ i h. work_part T O lock Tells past i p.config (p.served i h);
  no_other = λ j h. own_turns past [] j (p.no_other j h);
}

-- ---- moments

seen_told : (Tells : ℕ → Type 0) (H seen : History) (j : ℕ) → Sees H j seen → HasToldMomentsFrom Tells j 0 seen → HasToldMomentsFrom Tells j 0 H
seen_told Tells H seen j s h = subst (HasToldMomentsFrom Tells j 0) (sym s.begins) (told_beyond Tells j s.newer seen s.none_since h)

pub parts_told : (T : Trace) (O : RunOptions) (Tells : ℕ → Type 0) (H : History) → PoolParts T O Tells H → HasToldMoments Tells H
parts_told T O Tells H p = told_of_all Tells H (λ j. elim (who_is (submitters T.rows) O.workers j) [
  | inl h ↦ (let f = p.fed j h in seen_told Tells H f.seen j f.sees f.moments)
  | inr other ↦ elim other [
    | inl x ↦ (let w = p.served x.0 x.1 in subst (λ n. HasToldMomentsFrom Tells n 0 H) (sym x.2) (seen_told Tells H (history_of w.seen) (worker_caller T.rows x.0) w.sees w.moments))
    | inr h ↦ told_of_nobody Tells j H (p.no_other j h)
  ]
])
