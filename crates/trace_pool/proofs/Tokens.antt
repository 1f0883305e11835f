-- The tokens of hands that have done their parts.
use Rattle.std.proofs.Common.{ℕ, zero, suc, ◌+◌, ◌-◌, ◌<◌, ◌≤◌, ◌≡◌, ◌⊎◌, inl, inr, List, [], ◌∷◌, ◌++◌, length, Option, Global, sym, ap, ◌∙◌, subst, refl, arith, nat_lt, Bool, true, false}
use Rattle.std.specs.Prelude.{vec_capacity}
use Rattle.std.specs.declared.vec.Vec.{Vec}
use Rattle.std.proofs.lemmas.Bool.{ltb-true, ltb-false}
use Rattle.fq_model.specs.declared.parts.Status.{Status}
use Rattle.program_model.specs.declared.trace.TraceRow.{TraceRow}
use Rattle.program_model.specs.Courses.{worker_caller}
use Rattle.history_lock.specs.Passes.{LockView, IsOf}
use Rattle.status_board.specs.Boards.{BoardView, ReaderView}
use Rattle.desk.specs.declared.floor.Crew.{Crew}
use Rattle.desk.specs.declared.tokens.Submitter.{Submitter}
use Rattle.desk.specs.declared.tokens.Worker.{Worker}
use Rattle.desk.specs.Ending.{HoldsOfEach, HoldsOfSome, IsFirst, AreOf, AreAll, first_made}
use Rattle.trace_pool.specs.Hands.{TraceHand}
use Rattle.worker_gate.specs.declared.pool.Hand.TheVariants.{Feed, Work, Watch}
use Rattle.trace_pool.specs.Parts.{IsCrewOf, HasFed, HasWorked, HasFedHand, HasWorkedHand, AreDone, HaveDone}
use Rattle.trace_pool.specs.Places.{HoldsFrom}
use Rattle.trace_pool.specs.Serving.{HasWatched}
use Rattle.trace_pool.specs.Tokens.{AreTokensOf, HasPlaces, submitters_in, workers_in, readers_in, statuses_in}
use Rattle.trace_pool.specs.declared.hands.Tokens.{Tokens}
use Rattle.trace_pool.proofs.Done.{WatchedLast}

-- ---- by places

module _ {A : Type 0} (Holds : ℕ → A → Type 0) where
  pub of_each : (Q : A → Type 0) → ((n : ℕ) (x : A) → Holds n x → Q x) → (n : ℕ) (xs : List A) → HoldsFrom Holds n xs → HoldsOfEach Q xs
  of_each Q f n [] h = tt
  of_each Q f n (x ∷ xs) h = (f n x h.0, of_each Q f (suc n) xs h.1)

  pub of_some : (Q : A → Type 0) (k n m : ℕ) (xs : List A) → k < length xs → m ≡ n + k → ((x : A) → Holds m x → Q x) → HoldsFrom Holds n xs → HoldsOfSome Q xs
  of_some Q k n m [] here is f h = absurd (omega (arith, here))
  of_some Q zero n m (x ∷ xs) here is f h = let same : m ≡ n = omega (arith, is) in inl (f x (subst (λ j. Holds j x) (sym same) h.0))
  of_some Q (suc k) n m (x ∷ xs) here is f h = inr (of_some Q k (suc n) m xs (omega (arith, here)) (omega (arith, is)) f h.1)

  -- the item at a place, with both facts
  pub found_at : (Q : A → Type 0) (k n m : ℕ) (xs : List A) → k < length xs → m ≡ n + k → HoldsFrom Holds n xs → HoldsOfEach Q xs → (x : A) × Holds m x × Q x
  found_at Q k n m [] here is h q = absurd (omega (arith, here))
  found_at Q zero n m (x ∷ xs) here is h q = let same : m ≡ n = omega (arith, is) in (x, subst (λ j. Holds j x) (sym same) h.0, q.0)
  found_at Q (suc k) n m (x ∷ xs) here is h q = found_at Q k (suc n) m xs (omega (arith, here)) (omega (arith, is)) h.1 q.1

-- ---- a watcher behind other hands

module _ (reader : ReaderView) (left expected : ℕ) (seen : Vec Status Global) where
  submitters_before : (hands : List TraceHand) → submitters_in (hands ++ Watch reader left expected seen ∷ []) ≡ submitters_in hands
  submitters_before [] = refl
  submitters_before (Feed who queue total stopped ∷ hands) = ap (λ l. who ∷ l) (submitters_before hands)
  submitters_before (Work worker log ∷ hands) = submitters_before hands
  submitters_before (Watch other some most statuses ∷ hands) = submitters_before hands

  workers_before : (hands : List TraceHand) → workers_in (hands ++ Watch reader left expected seen ∷ []) ≡ workers_in hands
  workers_before [] = refl
  workers_before (Feed who queue total stopped ∷ hands) = workers_before hands
  workers_before (Work worker log ∷ hands) = ap (λ l. worker ∷ l) (workers_before hands)
  workers_before (Watch other some most statuses ∷ hands) = workers_before hands

  readers_behind : (hands : List TraceHand) → readers_in (hands ++ Watch reader left expected seen ∷ []) ≡ readers_in hands ++ reader ∷ []
  readers_behind [] = refl
  readers_behind (Feed who queue total stopped ∷ hands) = readers_behind hands
  readers_behind (Work worker log ∷ hands) = readers_behind hands
  readers_behind (Watch other some most statuses ∷ hands) = ap (λ l. other ∷ l) (readers_behind hands)

  statuses_behind : (older : List Status) (hands : List TraceHand) → statuses_in older (hands ++ Watch reader left expected seen ∷ []) ≡ seen.items
  statuses_behind older [] = refl
  statuses_behind older (Feed who queue total stopped ∷ hands) = statuses_behind older hands
  statuses_behind older (Work worker log ∷ hands) = statuses_behind older hands
  statuses_behind older (Watch other some most statuses ∷ hands) = statuses_behind statuses.items hands

module _ (rows : List TraceRow) (lock : LockView Crew) (refresh : ℕ) (Tells : ℕ → Type 0) where
  abbrev Fed : ℕ → Submitter → Type 0
  Fed j t = HasFed rows lock refresh Tells j t

  abbrev Served : ℕ → Worker → Type 0
  Served i t = HasWorked rows lock refresh Tells i t

  abbrev FedHand : ℕ → TraceHand → Type 0
  FedHand j hand = HasFedHand rows lock refresh Tells j hand

  abbrev ServedHand : ℕ → TraceHand → Type 0
  ServedHand i hand = HasWorkedHand rows lock refresh Tells i hand

  -- ---- the tokens of hands

  no_submitters : (i : ℕ) (second : List TraceHand) → HoldsFrom ServedHand i second → submitters_in second ≡ []
  no_submitters i [] h = refl
  no_submitters i (Feed who queue total stopped ∷ hands) h = absurd h.0
  no_submitters i (Watch reader left expected seen ∷ hands) h = absurd h.0
  no_submitters i (Work worker log ∷ hands) h = no_submitters (suc i) hands h.1

  pub fed_tokens : (j : ℕ) (first second : List TraceHand) → HoldsFrom FedHand j first → HoldsFrom ServedHand 0 second → HoldsFrom Fed j (submitters_in (first ++ second))
  fed_tokens j [] second h w = subst (HoldsFrom Fed j) (sym (no_submitters 0 second w)) tt
  fed_tokens j (Feed who queue total stopped ∷ hands) second h w = (h.0, fed_tokens (suc j) hands second h.1 w)
  fed_tokens j (Work worker log ∷ hands) second h w = absurd h.0
  fed_tokens j (Watch reader left expected seen ∷ hands) second h w = absurd h.0

  served_tokens : (i : ℕ) (second : List TraceHand) → HoldsFrom ServedHand i second → HoldsFrom Served i (workers_in second)
  served_tokens i [] w = tt
  served_tokens i (Feed who queue total stopped ∷ hands) w = absurd w.0
  served_tokens i (Watch reader left expected seen ∷ hands) w = absurd w.0
  served_tokens i (Work worker log ∷ hands) w = (w.0, served_tokens (suc i) hands w.1)

  pub worked_tokens : (j : ℕ) (first second : List TraceHand) → HoldsFrom FedHand j first → HoldsFrom ServedHand 0 second → HoldsFrom Served 0 (workers_in (first ++ second))
  worked_tokens j [] second h w = served_tokens 0 second w
  worked_tokens j (Feed who queue total stopped ∷ hands) second h w = worked_tokens (suc j) hands second h.1 w
  worked_tokens j (Work worker log ∷ hands) second h w = absurd h.0
  worked_tokens j (Watch reader left expected seen ∷ hands) second h w = absurd h.0

  pub submitter_count : (j : ℕ) (first second : List TraceHand) → HoldsFrom FedHand j first → HoldsFrom ServedHand 0 second → length (submitters_in (first ++ second)) ≡ length first
  submitter_count j [] second h w = ap length (no_submitters 0 second w)
  submitter_count j (Feed who queue total stopped ∷ hands) second h w = ap suc (submitter_count (suc j) hands second h.1 w)
  submitter_count j (Work worker log ∷ hands) second h w = absurd h.0
  submitter_count j (Watch reader left expected seen ∷ hands) second h w = absurd h.0

  served_count : (i : ℕ) (second : List TraceHand) → HoldsFrom ServedHand i second → length (workers_in second) ≡ length second
  served_count i [] w = refl
  served_count i (Feed who queue total stopped ∷ hands) w = absurd w.0
  served_count i (Watch reader left expected seen ∷ hands) w = absurd w.0
  served_count i (Work worker log ∷ hands) w = ap suc (served_count (suc i) hands w.1)

  pub worker_count : (j : ℕ) (first second : List TraceHand) → HoldsFrom FedHand j first → HoldsFrom ServedHand 0 second → length (workers_in (first ++ second)) ≡ length second
  worker_count j [] second h w = served_count 0 second w
  worker_count j (Feed who queue total stopped ∷ hands) second h w = worker_count (suc j) hands second h.1 w
  worker_count j (Work worker log ∷ hands) second h w = absurd h.0
  worker_count j (Watch reader left expected seen ∷ hands) second h w = absurd h.0

  no_readers : (i : ℕ) (second : List TraceHand) → HoldsFrom ServedHand i second → readers_in second ≡ []
  no_readers i [] w = refl
  no_readers i (Feed who queue total stopped ∷ hands) w = absurd w.0
  no_readers i (Watch reader left expected seen ∷ hands) w = absurd w.0
  no_readers i (Work worker log ∷ hands) w = no_readers (suc i) hands w.1

  pub readers_none : (j : ℕ) (first second : List TraceHand) → HoldsFrom FedHand j first → HoldsFrom ServedHand 0 second → readers_in (first ++ second) ≡ []
  readers_none j [] second h w = no_readers 0 second w
  readers_none j (Feed who queue total stopped ∷ hands) second h w = readers_none (suc j) hands second h.1 w
  readers_none j (Work worker log ∷ hands) second h w = absurd h.0
  readers_none j (Watch reader left expected seen ∷ hands) second h w = absurd h.0

  -- the tokens that are taken back of hands that have done their parts
  pub have_done : {feeds works : ℕ} (hands : List TraceHand) (submitters : List Submitter) (workers : List Worker) → AreDone rows lock refresh Tells feeds works hands → feeds ≡ lock.frame.submitters → works ≡ lock.frame.config.workers → submitters ≡ submitters_in hands → workers ≡ workers_in hands
      → HaveDone rows lock refresh Tells submitters workers
  have_done {feeds} {works} hands submitters workers d all_feeds all_works first second =
      let both : submitters ≡ submitters_in (d.first ++ d.second) = first ∙ ap submitters_in d.both in
      let others : workers ≡ workers_in (d.first ++ d.second) = second ∙ ap workers_in d.both in record {
        fed = subst (HoldsFrom Fed 0) (sym both) (fed_tokens 0 d.first d.second d.have_fed d.have_worked);
        worked = subst (HoldsFrom Served 0) (sym others) (worked_tokens 0 d.first d.second d.have_fed d.have_worked);
        submitter_count = ap length both ∙ (submitter_count 0 d.first d.second d.have_fed d.have_worked ∙ (d.feed_count ∙ all_feeds));
        worker_count = ap length others ∙ (worker_count 0 d.first d.second d.have_fed d.have_worked ∙ (d.work_count ∙ all_works));
      }

  -- hands that have done their parts, and a watcher behind them
  module _ (shared : Option BoardView) {feeds works : ℕ} {other : TraceHand} (hands : List TraceHand) (w : WatchedLast rows lock shared refresh Tells feeds works other hands) where
    first_tokens : submitters_in hands ≡ submitters_in w.front
    first_tokens = ap submitters_in w.both ∙ submitters_before w.reader 0 w.expected w.seen w.front

    second_tokens : workers_in hands ≡ workers_in w.front
    second_tokens = ap workers_in w.both ∙ workers_before w.reader 0 w.expected w.seen w.front

    one_reader : readers_in hands ≡ w.reader ∷ []
    one_reader =
        let none : readers_in w.front ≡ [] = ap readers_in w.done.both ∙ readers_none 0 w.done.first w.done.second w.done.have_fed w.done.have_worked in
        ap readers_in w.both ∙ (readers_behind w.reader 0 w.expected w.seen w.front ∙ ap (λ l. l ++ w.reader ∷ []) none)

    pub have_places : (tokens : Tokens) → tokens.submitters.items ≡ [] → feeds ≤ vec_capacity tokens.submitters → tokens.workers.items ≡ [] → works ≤ vec_capacity tokens.workers → tokens.readers.items ≡ [] → 0 < vec_capacity tokens.readers → HasPlaces hands tokens
    have_places tokens none room none2 room2 none3 room3 =
        let d = w.done in
        let first : length (submitters_in hands) ≡ feeds = ap length first_tokens ∙ (ap (λ l. length (submitters_in l)) d.both ∙ (submitter_count 0 d.first d.second d.have_fed d.have_worked ∙ d.feed_count)) in
        let second : length (workers_in hands) ≡ works = ap length second_tokens ∙ (ap (λ l. length (workers_in l)) d.both ∙ (worker_count 0 d.first d.second d.have_fed d.have_worked ∙ d.work_count)) in record {
          no_submitters = none;
          submitters_fit = omega (arith, first, room);
          no_workers = none2;
          workers_fit = omega (arith, second, room2);
          no_readers = none3;
          readers_fit = omega (arith, ap length one_reader, room3);
        }

    pub back_done_so : (older : List Status) (tokens : Tokens) → AreTokensOf hands older tokens → feeds ≡ lock.frame.submitters → works ≡ lock.frame.config.workers → HaveDone rows lock refresh Tells tokens.submitters.items tokens.workers.items
    back_done_so older tokens t all_feeds all_works =
        have_done w.front tokens.submitters.items tokens.workers.items w.done all_feeds all_works (t.submitters_are ∙ first_tokens) (t.workers_are ∙ second_tokens)

    pub back_watched : (older : List Status) (tokens : Tokens) → AreTokensOf hands older tokens → HasWatched shared other tokens
    back_watched older tokens t =
        w.watched tokens (t.readers_are ∙ one_reader) (t.statuses_are ∙ (ap (statuses_in older) w.both ∙ statuses_behind w.reader 0 w.expected w.seen older w.front))

  -- ---- all tokens

  first_is : (tokens : List Submitter) → 0 < length tokens → HoldsFrom Fed 0 tokens → IsFirst tokens
  first_is [] some h = absurd (omega (arith, some))
  first_is (t ∷ ts) some h = h.0.feeds.stays.number ∙ h.0.new.numbered

  first_knows : (tokens : List Submitter) → 0 < length tokens → HoldsFrom Fed 0 tokens → first_made tokens + 1 ≡ lock.frame.submitters + lock.frame.config.workers
  first_knows [] some h = absurd (omega (arith, some))
  first_knows (t ∷ ts) some h = h.0.made refl

  module _ (submitters : List Submitter) (workers : List Worker) (h : HaveDone rows lock refresh Tells submitters workers) (some : 0 < lock.frame.submitters) where
    some_token : 0 < length submitters
    some_token = omega (arith, some, h.submitter_count)

    pub are_of : AreOf lock submitters workers
    are_of = record {
      submitters_own = of_each Fed (λ (t : Submitter). IsOf lock t.pass) (λ j t x. x.feeds.stays.own) 0 submitters h.fed;
      workers_own = of_each Served (λ (t : Worker). IsOf lock t.pass) (λ i t x. x.worked.stays.own) 0 workers h.worked;
      first = first_is submitters some_token h.fed;
    }

    pub made_is : first_made submitters + 1 ≡ lock.frame.submitters + lock.frame.config.workers
    made_is = first_knows submitters some_token h.fed

    pub are_all : IsCrewOf rows lock → AreAll submitters workers
    are_all crew number low high = go (nat_lt number (length submitters)) refl
      where
        go : (b : Bool) → nat_lt number (length submitters) ≡ b → HoldsOfSome (λ (t : Submitter). t.pass.number ≡ number) submitters ⊎ HoldsOfSome (λ (t : Worker). t.pass.number ≡ number) workers
        go true e = inl (of_some Fed (λ (t : Submitter). t.pass.number ≡ number) number 0 number submitters (ltb-true number (length submitters) e) (omega arith) (λ t x. x.feeds.stays.number ∙ x.new.numbered) h.fed)
        go false e =
            let above : length submitters ≤ number = omega (arith, ltb-false number (length submitters) e) in
            let i : ℕ = number - length submitters in
            let within : i < length workers = omega (arith, above, high, h.worker_count, h.submitter_count, made_is) in
            let same : worker_caller rows i ≡ number = omega (arith, crew, h.submitter_count, above) in
            inr (of_some Served (λ (t : Worker). t.pass.number ≡ number) i 0 i workers within (omega arith) (λ t x. x.worked.stays.number ∙ (x.new.numbered ∙ same)) h.worked)
