-- Hands that were given their parts, and have done them.
use Rattle.std.proofs.Common.{ℕ, suc, ◌+◌, ◌<◌, ◌≡◌, List, [], ◌∷◌, ◌++◌, length, slice_index_or, take, drop, append-nil, Option, All, Global, sym, ap, ◌∙◌, subst, refl, arith}
use Rattle.std.specs.declared.vec.Vec.{Vec}
use Rattle.std.proofs.Math.Seq.{drop-length, take-length}
use Rattle.std.proofs.lemmas.List.Elements.{All-nil, All-cons, All-append, All-push}
use Rattle.fq_model.specs.declared.parts.Status.{Status}
use Rattle.program_model.specs.declared.trace.TraceRow.{TraceRow}
use Rattle.history_lock.specs.Passes.{LockView}
use Rattle.status_board.specs.Boards.{BoardView, ReaderView}
use Rattle.desk.specs.declared.floor.Crew.{Crew}
use Rattle.trace_pool.specs.Hands.{TraceHand}
use Rattle.worker_gate.specs.declared.pool.Hand.TheVariants.{Feed, Work, Watch}
use Rattle.worker_gate.specs.Feeding.{Feeds}
use Rattle.worker_gate.specs.Hands.{IsHandOf, HandDid, HandsDid}
use Rattle.worker_gate.specs.Watching.{Watched}
use Rattle.gate_rules.specs.Rules.{work_cost}
use Rattle.trace_pool.specs.declared.hands.Tokens.{Tokens}
use Rattle.trace_pool.specs.PoolEnd.{trace_course}
use Rattle.trace_pool.specs.Parts.{IsFeedOf, IsWorkOf, AreHands, HasFed, HasWorked, HasFedHand, HasWorkedHand, AreDone}
use Rattle.trace_pool.specs.Places.{HoldsFrom}
use Rattle.trace_pool.specs.Serving.{IsWatcherOf, HasWatched}

-- item by item
module _ {A : Type 0} (Becomes : A → A → Type 0) where
  abbrev pub EachBecomes : List A → List A → Type 0
  EachBecomes [] [] = Unit {0}
  EachBecomes (x ∷ xs) (y ∷ ys) = Becomes x y × EachBecomes xs ys
  EachBecomes _ _ = ⊥

  pub each_becomes : (xs ys : List A) → length ys ≡ length xs → ((i : ℕ) (d : A) → i < length xs → Becomes (slice_index_or xs i d) (slice_index_or ys i d)) → EachBecomes xs ys
  each_becomes [] [] same did = tt
  each_becomes [] (y ∷ ys) same did = absurd (omega (arith, same))
  each_becomes (x ∷ xs) [] same did = absurd (omega (arith, same))
  each_becomes (x ∷ xs) (y ∷ ys) same did = (did 0 x (omega arith), each_becomes xs ys (omega (arith, same)) (λ i d here. did (suc i) d (omega (arith, here))))

  -- of two lists in a row
  pub record InARow (first second news : List A) : Type 0 where
    pub one : List A
    pub two : List A
    pub both : news ≡ one ++ two
    pub becomes_one : EachBecomes first one
    pub becomes_two : EachBecomes second two

  pub in_a_row : (first second news : List A) → EachBecomes (first ++ second) news → InARow first second news
  in_a_row [] second news did = record { one = []; two = news; both = refl; becomes_one = tt; becomes_two = did }
  in_a_row (x ∷ xs) second [] did = absurd did
  in_a_row (x ∷ xs) second (y ∷ ys) did =
      let r = in_a_row xs second ys did.1 in
      record { one = y ∷ r.one; two = r.two; both = ap (λ l. y ∷ l) r.both; becomes_one = (did.0, r.becomes_one); becomes_two = r.becomes_two }

  -- a fact about each item becomes another about the item that it becomes
  pub holds_of_new : (P Q : ℕ → A → Type 0) → ((n : ℕ) (x y : A) → P n x → Becomes x y → Q n y) → (n : ℕ) (xs ys : List A) → HoldsFrom P n xs → EachBecomes xs ys → HoldsFrom Q n ys
  holds_of_new P Q f n [] [] h did = tt
  holds_of_new P Q f n [] (y ∷ ys) h did = absurd did
  holds_of_new P Q f n (x ∷ xs) [] h did = absurd did
  holds_of_new P Q f n (x ∷ xs) (y ∷ ys) h did = (f n x y h.0 did.0, holds_of_new P Q f (suc n) xs ys h.1 did.1)

  pub same_length : (xs ys : List A) → EachBecomes xs ys → length ys ≡ length xs
  same_length [] [] did = refl
  same_length [] (y ∷ ys) did = absurd did
  same_length (x ∷ xs) [] did = absurd did
  same_length (x ∷ xs) (y ∷ ys) did = ap suc (same_length xs ys did.1)

  -- a single item
  pub one_becomes : (x : A) (ys : List A) → EachBecomes (x ∷ []) ys → (y : A) × (ys ≡ y ∷ []) × Becomes x y
  one_becomes x [] did = absurd did
  one_becomes x (y ∷ []) did = (y, refl, did.0)
  one_becomes x (y ∷ z ∷ ys) did = absurd did.1

module _ (rows : List TraceRow) (lock : LockView Crew) (shared : Option BoardView) (refresh : ℕ) (Tells : ℕ → Type 0) where
  abbrev Did : TraceHand → TraceHand → Type 0
  Did old new = HandDid (λ (n : ℕ). n) lock shared (trace_course refresh rows) work_cost Tells old new

  fed_hand : (j : ℕ) (old new : TraceHand) → IsFeedOf rows lock j old → Did old new → HasFedHand rows lock refresh Tells j new
  fed_hand j (Feed who queue total stopped) new is did =
      let feeds : Feeds (λ (n : ℕ). n) (λ row. row.kind) lock Tells (length rows) queue.items who did.0 did.2 did.1.items =
      subst (λ n. Feeds (λ (n : ℕ). n) (λ row. row.kind) lock Tells n queue.items who did.0 did.2 did.1.items) is.2 did.4 in
      let done : HasFed rows lock refresh Tells j did.0 = record {
        begun = who;
        queue = queue.items;
        stopped = did.2;
        rest = did.1.items;
        new = is.0;
        queue_is = is.1;
        made = λ zeroth. ap (λ n. n + 1) feeds.stays.made ∙ is.3 zeroth;
        feeds = feeds;
      } in
      subst (HasFedHand rows lock refresh Tells j) (sym did.3) done
  fed_hand j (Work worker log) new is did = absurd is
  fed_hand j (Watch reader left expected seen) new is did = absurd is

  worked_hand : (i : ℕ) (old new : TraceHand) → IsWorkOf rows lock i old → Did old new → HasWorkedHand rows lock refresh Tells i new
  worked_hand i (Feed who queue total stopped) new is did = absurd is
  worked_hand i (Watch reader left expected seen) new is did = absurd is
  worked_hand i (Work worker log) new is did =
      let done : HasWorked rows lock refresh Tells i did.0 = record { begun = worker; new = is.0; numbered = is.1; log = log; log2 = did.1; worked = did.3 } in
      subst (HasWorkedHand rows lock refresh Tells i) (sym did.2) done

  all_done : (feeds works : ℕ) (olds news : List TraceHand) → AreHands rows lock feeds works olds → EachBecomes Did olds news → AreDone rows lock refresh Tells feeds works news
  all_done feeds works olds news a each =
      let r = in_a_row Did a.first a.second news (subst (λ l. EachBecomes Did l news) a.both each) in record {
        first = r.one;
        second = r.two;
        both = r.both;
        have_fed = holds_of_new Did (IsFeedOf rows lock) (HasFedHand rows lock refresh Tells) fed_hand 0 a.first r.one a.are_feeds r.becomes_one;
        have_worked = holds_of_new Did (IsWorkOf rows lock) (HasWorkedHand rows lock refresh Tells) worked_hand 0 a.second r.two a.are_works r.becomes_two;
        feed_count = same_length Did a.first r.one r.becomes_one ∙ a.feed_count;
        work_count = same_length Did a.second r.two r.becomes_two ∙ a.work_count;
      }

  -- hands that have done their parts, and one more that has done its own
  pub record PoolDid (feeds works : ℕ) (other : TraceHand) (news : List TraceHand) : Type 0 where
    pub front : List TraceHand
    pub last : TraceHand
    pub both : news ≡ front ++ last ∷ []
    pub done : AreDone rows lock refresh Tells feeds works front
    pub other_did : Did other last

  pub pool_did : (feeds works : ℕ) (hands : List TraceHand) (other : TraceHand) (olds news : List TraceHand) → AreHands rows lock feeds works hands → olds ≡ hands ++ other ∷ []
      → HandsDid (λ (n : ℕ). n) lock shared (trace_course refresh rows) work_cost Tells olds news → PoolDid feeds works other news
  pool_did feeds works hands other olds news a is did =
      let each : EachBecomes Did olds news = each_becomes Did olds news did.0 did.1 in
      let r = in_a_row Did hands (other ∷ []) news (subst (λ l. EachBecomes Did l news) is each) in
      let one = one_becomes Did other r.two r.becomes_two in record {
        front = r.one;
        last = one.0;
        both = r.both ∙ ap (λ l. r.one ++ l) one.1;
        done = all_done feeds works hands r.one a r.becomes_one;
        other_did = one.2;
      }

  -- hands that have done their parts, and a watcher that has done its own
  pub record WatchedLast (feeds works : ℕ) (other : TraceHand) (news : List TraceHand) : Type 0 where
    pub front : List TraceHand
    pub reader : ReaderView
    pub expected : ℕ
    pub seen : Vec Status Global
    pub both : news ≡ front ++ Watch reader 0 expected seen ∷ []
    pub done : AreDone rows lock refresh Tells feeds works front
    pub watched : (tokens : Tokens) → tokens.readers.items ≡ reader ∷ [] → tokens.statuses.items ≡ seen.items → HasWatched shared other tokens

  pub watched_last : (feeds works : ℕ) (other : TraceHand) (news : List TraceHand) → IsWatcherOf lock shared other → PoolDid feeds works other news → WatchedLast feeds works other news
  watched_last feeds works (Feed who queue total stopped) news is d = absurd is
  watched_last feeds works (Work worker log) news is d = absurd is
  watched_last feeds works (Watch reader left expected seen) news is d =
      let did = d.other_did in record {
        front = d.front;
        reader = did.1;
        expected = expected;
        seen = did.2;
        both = d.both ∙ ap (λ hand. d.front ++ hand ∷ []) did.4;
        done = d.done;
        watched = λ tokens readers statuses. (did.0, did.1, did.3, readers, subst (λ xs. Watched did.0 left reader did.1 seen.items xs) (sym statuses) did.5);
      }

-- a slice of a whole vector, written back
pub written_back : {A : Type 0} (len : ℕ) (olds news : List A) → len ≡ length olds → length news ≡ length olds → take len (news ++ drop (length news) olds) ≡ news
written_back len olds news is same =
    let none : drop (length news) olds ≡ [] = ap (λ n. drop n olds) same ∙ drop-length olds in
    ap (λ l. take len (news ++ l)) none ∙ (ap (take len) (append-nil news) ∙ (ap (λ n. take n news) (is ∙ sym same) ∙ take-length news))

module _ (rows : List TraceRow) (lock : LockView Crew) (shared : Option BoardView) where
  feeds_of : (j : ℕ) (hands : List TraceHand) → HoldsFrom (IsFeedOf rows lock) j hands → All (IsHandOf lock shared) hands
  feeds_of j [] h = All-nil (IsHandOf lock shared)
  feeds_of j (Feed who queue total stopped ∷ hands) h = All-cons (IsHandOf lock shared) (Feed who queue total stopped) hands h.0.0.own (feeds_of (suc j) hands h.1)
  feeds_of j (Work worker log ∷ hands) h = absurd h.0
  feeds_of j (Watch reader left expected seen ∷ hands) h = absurd h.0

  works_of : (i : ℕ) (hands : List TraceHand) → HoldsFrom (IsWorkOf rows lock) i hands → All (IsHandOf lock shared) hands
  works_of i [] h = All-nil (IsHandOf lock shared)
  works_of i (Feed who queue total stopped ∷ hands) h = absurd h.0
  works_of i (Watch reader left expected seen ∷ hands) h = absurd h.0
  works_of i (Work worker log ∷ hands) h = All-cons (IsHandOf lock shared) (Work worker log) hands h.0.0.own (works_of (suc i) hands h.1)

  -- all hands are of the desk
  pub hands_of : (feeds works : ℕ) (hands : List TraceHand) → AreHands rows lock feeds works hands → All (IsHandOf lock shared) hands
  hands_of feeds works hands a = subst (All (IsHandOf lock shared)) (sym a.both) (All-append (IsHandOf lock shared) a.first a.second (feeds_of 0 a.first a.are_feeds) (works_of 0 a.second a.are_works))

  watcher_is : (other : TraceHand) → IsWatcherOf lock shared other → IsHandOf lock shared other
  watcher_is (Feed who queue total stopped) is = absurd is
  watcher_is (Work worker log) is = absurd is
  watcher_is (Watch reader left expected seen) is = is

  -- so is a watcher more
  pub hands_with : (feeds works : ℕ) (hands : List TraceHand) (other : TraceHand) → AreHands rows lock feeds works hands → IsWatcherOf lock shared other → All (IsHandOf lock shared) (hands ++ other ∷ [])
  hands_with feeds works hands other a is = All-push (IsHandOf lock shared) hands other (hands_of feeds works hands a) (watcher_is other is)

  -- the hands that a pool over the rows' gate leaves in the vector that it was given
  pub back_done : (refresh : ℕ) (Tells : ℕ → Type 0) (feeds works len : ℕ) (hands : List TraceHand) (other : TraceHand) (olds given news : List TraceHand) (gate_refresh : ℕ) (gate_rows : List TraceRow) → AreHands rows lock feeds works hands → olds ≡ hands ++ other ∷ [] → given ≡ olds → length given ≡ len
      → gate_refresh ≡ refresh → gate_rows ≡ rows → HandsDid (λ (n : ℕ). n) lock shared (trace_course gate_refresh gate_rows) work_cost Tells given news
      → PoolDid rows lock shared refresh Tells feeds works other (take len (news ++ drop (length news) olds))
  back_done refresh Tells feeds works len hands other olds given news gate_refresh gate_rows a with_other same is steps its did =
      let all : HandsDid (λ (n : ℕ). n) lock shared (trace_course refresh rows) work_cost Tells olds news =
      subst (λ n. HandsDid (λ (n : ℕ). n) lock shared (trace_course n rows) work_cost Tells olds news) steps
      (subst (λ r. HandsDid (λ (n : ℕ). n) lock shared (trace_course gate_refresh r) work_cost Tells olds news) its
      (subst (λ l. HandsDid (λ (n : ℕ). n) lock shared (trace_course gate_refresh gate_rows) work_cost Tells l news) same did)) in
      let whole : len ≡ length olds = sym is ∙ ap length same in
      subst (PoolDid rows lock shared refresh Tells feeds works other) (sym (written_back len olds news whole all.0)) (pool_did rows lock shared refresh Tells feeds works hands other olds news a with_other all)
