-- The entries before a Take, and the heads at it.
use Rattle.std.proofs.Common.{ℕ, zero, suc, ◌+◌, ◌<◌, ◌≤◌, ◌≡◌, ◌∙◌, false, arith, refl, sym, ap, subst, add-one, List, [], ◌∷◌, ◌++◌, length, take, drop, get_or, Option, Some, None, ℤ, pos}
use Rattle.std.specs.Prelude.{All}
use Rattle.std.proofs.Math.Seq.{take-suc, drop-cons}
use Rattle.std.proofs.lemmas.Option.{slice_get-get_or, slice_get_within, get_or_from_slice_get}
use Rattle.std.proofs.lemmas.List.{reverse-append, take-append-drop, take_all}
use Rattle.fq_model.specs.declared.config.Config.{Config}
use Rattle.fq_model.specs.declared.event.Act.TheVariants.{Submit, Take}
use Rattle.fq_model.specs.declared.event.Entry.{Entry}
use Rattle.fq_model.specs.History.{History, history_of, is_taken, is_take_of, pool_at}
use Rattle.fq_model.specs.declared.config.Policy.{Policy}
use Rattle.fq_model.specs.Pace.{virtual_time}
use Rattle.fq_model.specs.Keys.{HeadKeys, Turn, keys_at, turn_at}
use Rattle.fq_model.specs.Time.{effective_moment}
use Rattle.fq_laws.proofs.Rules.Passes.{in_order}
use Rattle.fq_model.specs.declared.event.Reply.{Reply}
use Rattle.fq_model.specs.Limits.{InLimits}
use Rattle.fq_model.specs.Rules.{Answers, IsLegal}
use Rattle.program_model.specs.Journal.{call_of}
use Rattle.journal_check.specs.declared.explaining.TakenAt.{TakenAt}
use Rattle.journal_check.proofs.Fitting.{call_enters}
use Rattle.journal_check.proofs.Judging.{same_entries}
use Rattle.journal_check.specs.Turns.{IsTakeAt, IsTurn}
use Rattle.program_model.specs.declared.explained.Explained.{Explained}
use Rattle.program_model.specs.declared.explained.ExplainRow.{ExplainRow}
use Rattle.program_model.specs.Explanations.{IsRow, AreRows, with_head, heads_below, heads_at, IsExplained}

-- ---- the first entries

-- the entry that a read past the last entry gives
abbrev pub no_entry : Entry
no_entry = record { who = 0; moment = 0; act = Submit 0 0 0 0 0 }

-- one entry more
pub history_more : (entries : List Entry) (k : ℕ) (none : Entry) → k < length entries → history_of (take (k + 1) entries) ≡ get_or entries k none ∷ history_of (take k entries)
history_more entries k none there =
    let longer : take (k + 1) entries ≡ take k entries ++ get_or entries k none ∷ [] = rw add-one (take-suc entries k none there) in
    ap history_of longer ∙ reverse-append (take k entries) (get_or entries k none ∷ [])

-- the entries before newer ones are legal
pub legal_before : (C : Config) (newer P : History) → IsLegal C (newer ++ P) → IsLegal C P
legal_before C [] P legal = legal
legal_before C (e ∷ newer) P legal = legal_before C newer P legal.0

pub legal_first : (C : Config) (entries : List Entry) (k : ℕ) → IsLegal C (history_of entries) → IsLegal C (history_of (take k entries))
legal_first C entries k legal =
    legal_before C (history_of (drop k entries)) (history_of (take k entries))
    (subst (IsLegal C) (ap history_of (sym (take-append-drop k entries)) ∙ reverse-append (take k entries) (drop k entries)) legal)

pub legal_next : (C : Config) (entries : List Entry) (k : ℕ) (none : Entry) → k < length entries → IsLegal C (history_of entries) → IsLegal C (get_or entries k none ∷ history_of (take k entries))
legal_next C entries k none there legal = subst (IsLegal C) (history_more entries k none there) (legal_first C entries (k + 1) legal)

-- the request is not taken yet
not_taken : (e : Entry) (P : History) (r : ℕ) → is_take_of r e.act ≡ false → is_taken P r ≡ false → is_taken (e ∷ P) r ≡ false
unfolding is_taken
not_taken e P r other before = rw (other, before) refl

pub not_taken_more : (entries : List Entry) (k : ℕ) (none : Entry) (r : ℕ) → k < length entries → is_take_of r (get_or entries k none).act ≡ false
    → is_taken (history_of (take k entries)) r ≡ false → is_taken (history_of (take (k + 1) entries)) r ≡ false
not_taken_more entries k none r there other before = ap (λ (P : History). is_taken P r) (history_more entries k none there) ∙ not_taken (get_or entries k none) (history_of (take k entries)) r other before

pub none_taken : (r : ℕ) → is_taken [] r ≡ false
unfolding is_taken
none_taken r = refl

pub never_taken : (entries : List Entry) (k r : ℕ) → length entries ≤ k → is_taken (history_of (take k entries)) r ≡ false → is_taken (history_of entries) r ≡ false
never_taken entries k r all before = sym (ap (λ (l : List Entry). is_taken (history_of l) r) (take_all k entries all)) ∙ before

-- the call of the next entry adds that entry
pub next_entered : (C : Config) (entries old new : List Entry) (k : ℕ) (none : Entry) (reply : Reply) → InLimits C → IsLegal C (history_of entries) → k < length entries → old ≡ take k entries
    → Answers C (history_of old) (call_of (get_or entries k none)) reply (history_of new) → new ≡ take (k + 1) entries
next_entered C entries old new k none reply limits legal there is answers =
    let here = subst (λ (l : List Entry). Answers C (history_of l) (call_of (get_or entries k none)) reply (history_of new)) is answers in
    same_entries (take (k + 1) entries) new (
    call_enters C (history_of (take k entries)) (history_of new) (get_or entries k none) reply limits (legal_next C entries k none there legal) here
    ∙ sym (history_more entries k none there)
    )

-- ---- the heads, and their rows

-- one tenant more, with its head if it has one
pub head_more : (keys : ℕ → Option HeadKeys) (n : ℕ) (heads new more : List (ℕ × HeadKeys)) (result found : Option HeadKeys) → heads ≡ heads_below keys n → result ≡ keys n → result ≡ found
    → new ≡ heads ++ with_head n found → more ≡ new → more ≡ heads_below keys (n + 1)
head_more keys n heads new more result found so_far read was longer is = rw add-one (is ∙ longer ∙ rw (so_far, ← read, was) refl)

-- the heads of all tenants
pub heads_all : (keys : ℕ → Option HeadKeys) (n last count : ℕ) (heads : List (ℕ × HeadKeys)) → n ≤ last → last ≤ n → last ≡ count → heads ≡ heads_below keys n → heads ≡ heads_below keys count
heads_all keys n last count heads below past all so_far =
    let same : n ≡ count = omega arith in
    so_far ∙ ap (heads_below keys) same

pub row_more : (at : Turn) (heads : List (ℕ × HeadKeys)) (rows : List ExplainRow) (head : ℕ × HeadKeys) (row : ExplainRow) → AreRows at heads rows → IsRow at head.0 head.1 row
    → AreRows at (heads ++ head ∷ []) (rows ++ row ∷ [])
row_more at [] [] head row are is = (is, tt)
row_more at [] (r ∷ rows) head row are is = absurd are
row_more at (h ∷ heads) [] head row are is = absurd are
row_more at (h ∷ heads) (r ∷ rows) head row are is = (are.0, row_more at heads rows head row are.1 is)

pub rows_more : (at : Turn) (heads : List (ℕ × HeadKeys)) (k : ℕ) (none head : ℕ × HeadKeys) (rows more : List ExplainRow) (row : ExplainRow) → k < length heads → head ≡ get_or heads k none
    → AreRows at (take k heads) rows → IsRow at head.0 head.1 row → more ≡ rows ++ row ∷ [] → AreRows at (take (k + 1) heads) more
rows_more at heads k none head rows more row there read are is longer =
    let longer_heads : take (k + 1) heads ≡ take k heads ++ head ∷ [] = rw add-one (take-suc heads k none there ∙ ap (λ (h : ℕ × HeadKeys). take k heads ++ h ∷ []) (sym read)) in
    rw (longer, longer_heads) (row_more at (take k heads) rows head row are is)

pub rows_all : (at : Turn) (heads : List (ℕ × HeadKeys)) (k : ℕ) (rows : List ExplainRow) → length heads ≤ k → AreRows at (take k heads) rows → AreRows at heads rows
rows_all at heads k rows all are = subst (λ (l : List (ℕ × HeadKeys)). AreRows at l rows) (take_all k heads all) are

-- ---- the Take

pub take_there : (entries : List Entry) (k : ℕ) (none : Entry) (worker request estimate : ℕ) → k < length entries → (get_or entries k none).act ≡ Take worker request estimate
    → IsTakeAt entries request (record { place = k; entry = get_or entries k none; worker = worker })
take_there entries k none worker request estimate there act = record { estimate = estimate; there = slice_get-get_or entries k none there; takes = act }

module _ (C : Config) (entries : List Entry) (request : ℕ) (x : TakenAt) (taken : IsTakeAt entries request x) where
  place_within : x.place < length entries
  place_within = slice_get_within entries x.place x.entry taken.there

  read_there : get_or entries x.place x.entry ≡ x.entry
  read_there = get_or_from_slice_get entries x.place x.entry x.entry taken.there

  -- the entries up to it are legal
  pub taken_legal : IsLegal C (history_of entries) → IsLegal C (x.entry ∷ history_of (take x.place entries))
  taken_legal legal = subst (λ (e : Entry). IsLegal C (e ∷ history_of (take x.place entries))) read_there (legal_next C entries x.place x.entry place_within legal)

  -- and the turn explains the request
  pub explained_is : (told : Explained) → IsTurn C (history_of (take x.place entries)) x.entry.moment x.worker told → IsExplained C entries request told
  explained_is told turn = record {
    before = take x.place entries;
    after = drop (suc x.place) entries;
    who = x.entry.who;
    estimate = taken.estimate;
    split = sym (take-append-drop x.place entries)
        ∙ ap (λ (l : List Entry). take x.place entries ++ l) (drop-cons entries x.place x.entry place_within ∙ ap (λ (e : Entry). e ∷ drop (suc x.place) entries) (read_there ∙ given));
    vtime_is = rw turn.moment_is turn.vtime_is;
    rows_are = rw (turn.worker_is, turn.moment_is) turn.rows_are;
  }
    where
      given : x.entry ≡ record { who = x.entry.who; moment = told.moment; act = Take told.worker request taken.estimate }
      given = rw (turn.worker_is, turn.moment_is, ← taken.takes) refl

-- ---- the turn

module _ (C : Config) (P : History) (given : Entry) (worker : ℕ) (legal : IsLegal C (given ∷ P)) where
  -- the Take comes at its own moment
  time_there : (v : ℤ) → v ≡ pos (virtual_time C P (effective_moment P given.moment)) → v ≡ pos (virtual_time C P given.moment)
  time_there v is = is ∙ ap (λ (m : ℕ). pos (virtual_time C P m)) (sym (in_order P given.moment legal.1 legal.2))

  pub turn_told : (policy : Policy) (workers : ℕ) (v z : ℤ) (heads : List (ℕ × HeadKeys)) (x : Explained) → policy ≡ C.policy → workers ≡ pool_at C P → v ≡ pos (virtual_time C P (effective_moment P given.moment)) → z ≡ v
      → heads ≡ heads_at C P given.moment → x.worker ≡ worker → x.moment ≡ given.moment → x.vtime ≡ z
      → AreRows (record { policy = policy; workers = workers; worker = worker; virtual_time = z }) heads x.rows.items → IsTurn C P given.moment worker x
  turn_told policy workers v z heads x policy_is pool is back heads_are worker_is moment_is vtime_is rows =
      let at : z ≡ pos (virtual_time C P given.moment) = back ∙ time_there v is in
      let turn : ◌≡◌ {A = Turn} (record { policy = policy; workers = workers; worker = worker; virtual_time = z }) (turn_at C P given.moment worker) = rw (policy_is, pool, at) refl in
      record {
        worker_is = worker_is;
        moment_is = moment_is;
        vtime_is = vtime_is ∙ at;
        rows_are = subst (λ (l : List (ℕ × HeadKeys)). AreRows (turn_at C P given.moment worker) l x.rows.items) heads_are (subst (λ (t : Turn). AreRows t heads x.rows.items) turn rows);
      }

-- a scheduler with this configuration, to which the first of these entries have come
module _ (C D : Config) (entries given past : List Entry) (place : ℕ) (same : D ≡ C) (read : given ≡ entries) (came : past ≡ take place given) where
  came_first : past ≡ take place entries
  came_first = came ∙ ap (λ (l : List Entry). take place l) read

  pub legal_here : (e : Entry) → IsLegal C (e ∷ history_of (take place entries)) → IsLegal D (e ∷ history_of past)
  legal_here e legal =
      subst (λ (l : List Entry). IsLegal D (e ∷ history_of l)) (sym came_first) (subst (λ (B : Config). IsLegal B (e ∷ history_of (take place entries))) (sym same) legal)

  pub turn_here : (m worker : ℕ) (x : Explained) → IsTurn D (history_of past) m worker x → IsTurn C (history_of (take place entries)) m worker x
  turn_here m worker x turn =
      subst (λ (l : List Entry). IsTurn C (history_of l) m worker x) came_first (subst (λ (B : Config). IsTurn B (history_of past) m worker x) same turn)

-- ---- the tenants of the rows

-- the tenants of these heads have numbers below this
AreBelow : ℕ → List (ℕ × HeadKeys) → Type 0
AreBelow n [] = Unit {0}
AreBelow n (head ∷ heads) = (head.0 < n) × AreBelow n heads

below_more : (n : ℕ) (heads : List (ℕ × HeadKeys)) → AreBelow n heads → AreBelow (suc n) heads
unfolding AreBelow
below_more n [] below = tt
below_more n (head ∷ heads) below = (omega (arith, below.0), below_more n heads below.1)

below_with : (n : ℕ) (heads : List (ℕ × HeadKeys)) (o : Option HeadKeys) → AreBelow (suc n) heads → AreBelow (suc n) (heads ++ with_head n o)
unfolding AreBelow
below_with n [] None below = tt
below_with n [] (Some k) below = (omega arith, tt)
below_with n (head ∷ heads) o below = (below.0, below_with n heads o below.1)

heads_are_below : (keys : ℕ → Option HeadKeys) (n : ℕ) → AreBelow n (heads_below keys n)
unfolding AreBelow
heads_are_below keys zero = tt
heads_are_below keys (suc n) = below_with n (heads_below keys n) (keys n) (below_more n (heads_below keys n) (heads_are_below keys n))

rows_below : (at : Turn) (n : ℕ) (heads : List (ℕ × HeadKeys)) (rows : List ExplainRow) → AreBelow n heads → AreRows at heads rows → (k : ℕ) (none : ExplainRow) → k < length rows → (get_or rows k none).tenant < n
unfolding AreBelow
rows_below at n [] [] below are k none there = absurd (omega (arith, there))
rows_below at n [] (row ∷ rows) below are k none there = absurd are
rows_below at n (head ∷ heads) [] below are k none there = absurd are
rows_below at n (head ∷ heads) (row ∷ rows) below are zero none there = omega (arith, are.0.tenant_is, below.0)
rows_below at n (head ∷ heads) (row ∷ rows) below are (suc k) none there = rows_below at n heads rows below.1 are.1 k none (omega (arith, there))

-- each row is of a tenant of the configuration
pub tenants_known : (C : Config) (P : History) (m worker : ℕ) (x : Explained) → IsTurn C P m worker x → All (λ row. row.tenant < length C.weights) x.rows.items
tenants_known C P m worker x turn k none there = rows_below (turn_at C P m worker) (length C.weights) (heads_at C P m) x.rows.items (heads_are_below (keys_at C P m) (length C.weights)) turn.rows_are k none there
