-- Histories that go on from one history, and their entries that pass a test.
use Rattle.std.proofs.Common.{ℕ, zero, suc, ◌+◌, ◌*◌, ◌<◌, ◌≤◌, ◌≡◌, ◌==◌, ◌⊎◌, Bool, true, false, cond, List, [], ◌∷◌, ◌++◌, length, reverse, Option, Some, None, arith, refl, ap, sym, ◌∙◌, subst, inl, inr, ◌||◌, append_assoc, filter}
use Rattle.std.proofs.lemmas.Bool.{cases_lt, false≢true, both_ways, cond-true, or_right, or_cases, or_parts, false_from_ne_true}
use Rattle.std.proofs.lemmas.List.{reverse-append, reverse-reverse, append_cancel_right, length-reverse}
use Rattle.fq_model.specs.declared.config.Config.{Config}
use Rattle.fq_model.specs.declared.event.Act.{Act}
use Rattle.fq_model.specs.declared.event.Act.TheVariants.{Submit, Take, Report, Done, Close, Weight, Workers, Withdraw}
use Rattle.fq_model.specs.declared.event.Entry.{Entry}
use Rattle.program_model.specs.declared.trace.RunOptions.{RunOptions}
use Rattle.program_model.specs.declared.trace.TraceRow.{TraceRow}
use Rattle.program_model.specs.Courses.{Each, worker_caller, course, serves, with_reports, course_acts, reports_below}
use Rattle.fq_model.specs.History.{History, has_act, is_close, is_closed, is_change, is_submit, is_taken, is_take_of, submits, with_submit}
use Rattle.fq_model.specs.Rules.{IsLegal}
use Rattle.program_model.specs.Simulated.{run_config, row_submits, timed, rank, RankBefore, InTurn, IsServed, IsSimulated, KeepsBusy, ClosesLast}
use Rattle.program_model.specs.Trace.{Trace}
use Rattle.fq_laws.proofs.History.Requests.{submitted_below, taken_submitted}
use Rattle.trace_reader.specs.Rows.{row_at}
use Rattle.trace_runner.specs.Staff.{ComesBefore}
use Rattle.trace_runner.proofs.Ending.{close_entry}
use Rattle.trace_runner.proofs.Rows.{row_there}

-- the entries after P, in order of time, put onto it
unfoldable pub onto : List Entry → History → History
onto [] P = P
onto (e ∷ es) P = onto es (e ∷ P)

pub onto_is : (es : List Entry) (P : History) → onto es P ≡ reverse es ++ P
unfolding onto
onto_is [] P = refl
onto_is (e ∷ es) P = onto_is es (e ∷ P) ∙ sym (ap (λ x. x ++ P) (reverse-append (e ∷ []) es) ∙ append_assoc (reverse es) (e ∷ []) P)

-- the entries that are put onto a history are determined by the result
pub same_rest : (es fs : List Entry) (P : History) → onto es P ≡ onto fs P → es ≡ fs
same_rest es fs P h =
    let r : reverse es ≡ reverse fs = append_cancel_right (reverse es) (reverse fs) P (sym (onto_is es P) ∙ h ∙ onto_is fs P) in
    sym (reverse-reverse es) ∙ ap reverse r ∙ reverse-reverse fs

pub legal_front : (C : Config) (es : List Entry) (P : History) → IsLegal C (onto es P) → IsLegal C P
unfolding onto
legal_front C [] P l = l
legal_front C (e ∷ es) P l = (legal_front C es (e ∷ P) l).0

pub each_front : (Q : History → Entry → Type 0) (es : List Entry) (P : History) → Each Q (onto es P) → Each Q P
unfolding onto
each_front Q [] P a = a
each_front Q (e ∷ es) P a = (each_front Q es (e ∷ P) a).0

pub change_front : (es : List Entry) (P : History) → has_act is_change (onto es P) ≡ false → has_act is_change P ≡ false
unfolding onto
change_front [] P h = h
change_front (e ∷ es) P h = (or_parts _ _ (change_front es (e ∷ P) h)).1

pub submits_onto : (es : List Entry) (P : History) → submits P ≤ submits (onto es P)
unfolding onto
submits_onto [] P = omega arith
submits_onto (e ∷ es) P = omega (arith, submits_onto es (e ∷ P), with_low e.act (submits P))
  where
    with_low : (a : Act) (n : ℕ) → n ≤ with_submit a n
    with_low (Submit q t k d l) n = omega arith
    with_low (Close) n = omega arith
    with_low _ n = omega arith

-- ---- the Close

pub closed_tail : (hs : List Entry) (h : Entry) (R : History) → is_closed R ≡ true → (x : Entry) × (Q : History) × (onto hs (h ∷ R) ≡ x ∷ Q) × (is_closed Q ≡ true)
unfolding onto is_closed
closed_tail [] h R c = (h, R, refl, c)
closed_tail (k ∷ ks) h R c = closed_tail ks k (h ∷ R) (or_right _ _ c)

pub ends_once : (H : History) (x : Entry) (Q : History) → H ≡ x ∷ Q → is_closed Q ≡ true → ClosesLast H → ⊥
ends_once H x Q e c d =
    let w : x ∷ Q ≡ close_entry d.older ∷ d.older = sym e ∙ d.last_is in
    let q : Q ≡ d.older = cc in
    both_ways _ d.once (subst (λ X. is_closed X ≡ true) q c)

-- nothing follows the Close
pub open_front : (es : List Entry) (e : Entry) (P : History) → ClosesLast (onto es (e ∷ P)) → is_closed P ≡ false
open_front es e P d = false_from_ne_true (is_closed P) (λ c. let t = closed_tail es e P c in ends_once (onto es (e ∷ P)) t.0 t.1 t.2 t.3 d)

pub open_last : (d : Entry) (P : History) → is_closed (d ∷ P) ≡ false → is_close d.act ≡ false
unfolding is_closed
open_last d P o = (or_parts _ _ o).0

pub closes : (a : Act) → is_close a ≡ true → a ≡ Close
closes Close h = refl
closes (Submit q t k d l) h = absurd (false≢true h)
closes (Take w q e) h = absurd (false≢true h)
closes (Report w q u) h = absurd (false≢true h)
closes (Done w q c) h = absurd (false≢true h)
closes (Weight t w) h = absurd (false≢true h)
closes (Workers c) h = absurd (false≢true h)
closes (Withdraw request) h = absurd (false≢true h)

pub open_rank : (a : Act) → is_close a ≡ false → is_change a ≡ false → RankBefore (rank a) (4, 0)
open_rank (Submit q t k d l) o c = inl (omega arith)
open_rank (Take w q e) o c = inl (omega arith)
open_rank (Report w q u) o c = inl (omega arith)
open_rank (Done w q k) o c = inl (omega arith)
open_rank Close o c = absurd (false≢true (sym o))
open_rank (Weight t w) o c = absurd (false≢true (sym c))
open_rank (Workers n) o c = absurd (false≢true (sym c))
open_rank (Withdraw request) o c = absurd (false≢true (sym c))

-- ---- facts about an entry and the history before it

pub record Here (T : Trace) (O : RunOptions) (P : History) (e : Entry) : Type 0 where
  pub legal : IsLegal (run_config T O) (e ∷ P)
  pub turn : InTurn P e
  pub busy : KeepsBusy O.workers P e
  pub unchanged : has_act is_change P ≡ false
  pub kept : is_change e.act ≡ false
  pub open_still : is_closed P ≡ false

pub here : (T : Trace) (O : RunOptions) (e : Entry) (es : List Entry) (P : History) → IsSimulated T O (onto (e ∷ es) P) → Here T O P e
unfolding onto
here T O e es P s =
    let c = or_parts _ _ (change_front es (e ∷ P) s.unchanged) in
    record {
      legal = legal_front (run_config T O) es (e ∷ P) s.legal;
      turn = (each_front InTurn es (e ∷ P) s.in_turn).1;
      busy = (each_front (KeepsBusy O.workers) es (e ∷ P) s.busy).1;
      unchanged = c.1;
      kept = c.0;
      open_still = open_front es e P s.closed;
    }

-- ---- the order of entries

abbrev pub Before : Entry → Entry → Type 0
Before e f = ComesBefore e.moment (rank e.act) f.moment (rank f.act)

pub rank_trans : (a b c : ℕ × ℕ) → RankBefore a b → RankBefore b c → RankBefore a c
rank_trans a b c p q = grind arith

pub rank_irrefl : (a : ℕ × ℕ) → RankBefore a a → ⊥
rank_irrefl a p = grind arith

pub trans : (e f g : Entry) → Before e f → Before f g → Before e g
trans e f g (inl a) (inl b) = inl (omega arith)
trans e f g (inl a) (inr b) = inl (omega (arith, b.0))
trans e f g (inr a) (inl b) = inl (omega (arith, a.0))
trans e f g (inr a) (inr b) = inr (a.0 ∙ b.0, rank_trans _ _ _ a.1 b.1)

pub irrefl : (e : Entry) → Before e e → ⊥
irrefl e (inl a) = omega arith
irrefl e (inr a) = rank_irrefl _ a.1

abbrev pub Among : Entry → List Entry → Type 0
Among g [] = ⊥
Among g (f ∷ fs) = (g ≡ f) ⊎ Among g fs

pub next_before : (T : Trace) (O : RunOptions) (d e : Entry) (P : History) → Here T O (d ∷ P) e → Before d e
next_before T O d e P h = elim (cases_lt d.moment e.moment) [
  | inl l ↦ inl l
  | inr l ↦ let same : d.moment ≡ e.moment = omega (arith, h.legal.1) in inr (same, by_close (is_close e.act) refl same)
]
  where
    open_d : is_close d.act ≡ false
    open_d = open_last d P h.open_still

    by_close : (b : Bool) → is_close e.act ≡ b → d.moment ≡ e.moment → RankBefore (rank d.act) (rank e.act)
    by_close false c same = h.turn same open_d c
    by_close true c same = subst (λ a. RankBefore (rank d.act) (rank a)) (sym (closes e.act c)) (open_rank d.act open_d (or_parts _ _ h.unchanged).0)

pub keys_after : (T : Trace) (O : RunOptions) (f g : Entry) (fs : List Entry) (P : History) → IsSimulated T O (onto fs (f ∷ P)) → Among g fs → Before f g
unfolding onto
keys_after T O f g [] P s a = absurd a
keys_after T O f g (h ∷ hs) P s (inl e) = subst (λ x. Before f x) (sym e) (next_before T O f h P (here T O h hs (f ∷ P) s))
keys_after T O f g (h ∷ hs) P s (inr a) = trans f h g (next_before T O f h P (here T O h hs (f ∷ P) s)) (keys_after T O h g hs (f ∷ P) s a)

-- an entry among the rest does not come before the first of the rest
pub not_skipped : (T : Trace) (O : RunOptions) (e f : Entry) (fs : List Entry) (P : History) → IsSimulated T O (onto fs (f ∷ P)) → Among e (f ∷ fs) → Before e f → ⊥
not_skipped T O e f fs P s (inl a) b = irrefl e (subst (λ x. Before e x) (sym a) b)
not_skipped T O e f fs P s (inr a) b = irrefl e (trans e f e b (keys_after T O f e fs P s a))

-- ---- parts of a history that pass a test

unfoldable pub kept : (Entry → Bool) → List Entry → List Entry
kept test es = filter test es

pub kept_onto : (test : Entry → Bool) (es : List Entry) (P : History) → filter test (onto es P) ≡ onto (kept test es) (filter test P)
unfolding onto kept
kept_onto test [] P = refl
kept_onto test (e ∷ es) P = kept_onto test es (e ∷ P) ∙ by_test (test e)
  where
    by_test : (b : Bool) → onto (filter test es) (cond b (e ∷ filter test P) (filter test P)) ≡ onto (cond b (e ∷ filter test es) (filter test es)) (filter test P)
    by_test true = refl
    by_test false = refl

pub among_by : (b : Bool) (g e : Entry) (es fs : List Entry) → (Among g fs → Among g es) → Among g (cond b (e ∷ fs) fs) → Among g (e ∷ es)
among_by true g e es fs h (inl x) = inl x
among_by true g e es fs h (inr x) = inr (h x)
among_by false g e es fs h x = inr (h x)

pub among_kept : (test : Entry → Bool) (g : Entry) (es : List Entry) → Among g (kept test es) → Among g es
unfolding kept
among_kept test g [] a = a
among_kept test g (e ∷ es) a = among_by (test e) g e es (filter test es) (among_kept test g es) a

pub kept_first : (test : Entry → Bool) (e : Entry) (es : List Entry) → test e ≡ true → kept test (e ∷ es) ≡ e ∷ kept test es
unfolding kept
kept_first test e es h = cond-true (test e) _ _ h

-- the rests of two histories that agree in this part
pub same_kept : (test : Entry → Bool) (es fs : List Entry) (P : History) → filter test (onto es P) ≡ filter test (onto fs P) → kept test es ≡ kept test fs
same_kept test es fs P h = same_rest (kept test es) (kept test fs) (filter test P) (sym (kept_onto test es P) ∙ h ∙ kept_onto test fs P)

-- an entry that passes and comes first in one rest is in the other
pub comes : (test : Entry → Bool) (e : Entry) (es fs : List Entry) (P : History) → filter test (onto (e ∷ es) P) ≡ filter test (onto fs P) → test e ≡ true → Among e fs
comes test e es fs P h v = among_kept test e fs (subst (λ l. Among e l) (sym (kept_first test e es v) ∙ same_kept test (e ∷ es) fs P h) (inl refl))

pub same_first : (e f : Entry) (es fs : List Entry) → e ∷ es ≡ f ∷ fs → e ≡ f
same_first e f es fs h = cc

-- two entries that pass and come first in both rests are equal
pub agrees : (test : Entry → Bool) (e f : Entry) (es fs : List Entry) (P : History) → filter test (onto (e ∷ es) P) ≡ filter test (onto (f ∷ fs) P) → test e ≡ true → test f ≡ true → e ≡ f
agrees test e f es fs P h v w = same_first e f (kept test es) (kept test fs) (sym (kept_first test e es v) ∙ same_kept test (e ∷ es) (f ∷ fs) P h ∙ kept_first test f fs w)

-- ---- courses

-- the first entry in time
unfoldable pub first_of_all : History → Option Entry
first_of_all [] = None
first_of_all (e ∷ []) = Some e
first_of_all (e ∷ d ∷ P) = first_of_all (d ∷ P)

pub first_onto : (es : List Entry) (e : Entry) (P : History) → first_of_all (onto es (e ∷ P)) ≡ first_of_all (e ∷ P)
unfolding onto first_of_all
first_onto [] e P = refl
first_onto (f ∷ fs) e P = first_onto fs f (e ∷ P)

pub first_timed : (who start i r step k estimate : ℕ) (act : Act) → first_of_all (timed who start (act ∷ with_reports i r step k (Take i r estimate ∷ []))) ≡ Some (record { who = who; moment = start + 0; act = Take i r estimate })
unfolding first_of_all
first_timed who start i r step zero estimate act = refl
first_timed who start i r step (suc k) estimate act = first_timed who start i r step k estimate (Report i r (suc k * step))

abbrev pub first_entry : Trace → ℕ → ℕ → ℕ → ℕ → Entry
first_entry T r i start estimate = record { who = worker_caller T.rows i; moment = start + 0; act = Take i r estimate }

pub first_served : (T : Trace) (refresh : ℕ) (H : History) (r : ℕ) (row : TraceRow) → (s : IsServed T refresh H r row) → first_of_all (course H r) ≡ Some (first_entry T r s.worker s.start s.estimate)
first_served T refresh H r row s = ap first_of_all s.course_is ∙ first_timed (worker_caller T.rows s.worker) s.start s.worker r refresh (reports_below refresh row.cost) s.estimate (Done s.worker r row.cost)

-- two such courses with one first entry are one
pub same_served : (T : Trace) (refresh : ℕ) (H K : History) (r : ℕ) (row : TraceRow) → IsServed T refresh H r row → IsServed T refresh K r row → first_of_all (course H r) ≡ first_of_all (course K r) → course H r ≡ course K r
same_served T refresh H K r row s t e =
    let takes : Some (first_entry T r s.worker s.start s.estimate) ≡ Some (first_entry T r t.worker t.start t.estimate) = sym (first_served T refresh H r row s) ∙ e ∙ first_served T refresh K r row t in
    let both : first_entry T r s.worker s.start s.estimate ≡ first_entry T r t.worker t.start t.estimate = cc in
    let acts : Take s.worker r s.estimate ≡ Take t.worker r t.estimate = ap (λ (e : Entry). e.act) both in
    let w : s.worker ≡ t.worker = cc in
    let m : s.start + 0 ≡ t.start + 0 = ap (λ (e : Entry). e.moment) both in
    let n : s.start ≡ t.start = omega (arith, m) in
    let c : s.estimate ≡ t.estimate = cc in
    s.course_is ∙ same_course w n c ∙ sym t.course_is
  where
    same_course : {i j m n a b : ℕ} → i ≡ j → m ≡ n → a ≡ b → timed (worker_caller T.rows i) m (course_acts i r a refresh row.cost) ≡ timed (worker_caller T.rows j) n (course_acts j r b refresh row.cost)
    same_course {i} {j} {m} {n} {a} {b} x y z = ap (λ q. timed (worker_caller T.rows q) m (course_acts q r a refresh row.cost)) x ∙ ap (λ q. timed (worker_caller T.rows j) q (course_acts j r a refresh row.cost)) y ∙ ap (λ q. timed (worker_caller T.rows j) n (course_acts j r q refresh row.cost)) z

abbrev pub IsCons : List Entry → Type 0
IsCons [] = ⊥
IsCons (e ∷ P) = Unit {0}

pub cons_by : (b : Bool) (e : Entry) (c : List Entry) → (b ≡ false → IsCons c) → IsCons (cond b (e ∷ c) c)
cons_by true e c h = tt
cons_by false e c h = h refl

pub taken_course_at : (r : ℕ) (e : Entry) (a : Act) (t : Bool) (c : List Entry) → (t ≡ true → IsCons c) → (is_take_of r a || t) ≡ true → IsCons (cond (serves r a) (e ∷ c) c)
taken_course_at r e (Take w q est) t c ih h = cons_by (q == r) e c (λ n. elim (or_cases _ _ h) [ inl x ↦ absurd (both_ways _ n x) | inr x ↦ ih x ])
taken_course_at r e (Report w q used) t c ih h = cons_by (q == r) e c (λ n. ih h)
taken_course_at r e (Done w q cost) t c ih h = cons_by (q == r) e c (λ n. ih h)
taken_course_at r e (Close) t c ih h = ih h
taken_course_at r e _ t c ih h = ih h

pub taken_course : (P : History) (r : ℕ) → is_taken P r ≡ true → IsCons (course P r)
unfolding is_taken
taken_course [] r h = absurd (false≢true h)
taken_course (e ∷ P) r h = taken_course_at r e e.act (is_taken P r) (course P r) (taken_course P r) h

pub first_onto_cons : (es : List Entry) (X : History) → IsCons X → first_of_all (onto es X) ≡ first_of_all X
first_onto_cons es [] h = absurd h
first_onto_cons es (x ∷ X) h = first_onto es x X

-- ---- requests

pub submits_kept : (P : History) → length (filter (λ e. is_submit e.act) P) ≡ submits P
submits_kept [] = refl
submits_kept (e ∷ P) = by_act e.act refl (submits_kept P)
  where
    by_act : (a : Act) → e.act ≡ a → length (filter (λ e. is_submit e.act) P) ≡ submits P → length (cond (is_submit a) (e ∷ filter (λ e. is_submit e.act) P) (filter (λ e. is_submit e.act) P)) ≡ with_submit a (submits P)
    by_act (Submit q t k d l) is ih = omega (arith, ih)
    by_act (Close) is ih = ih
    by_act _ is ih = ih

pub rows_submitted : (r : ℕ) (rows : List TraceRow) → length (row_submits r rows) ≡ length rows
rows_submitted r [] = refl
rows_submitted r (row ∷ rows) = omega (arith, rows_submitted (suc r) rows)

pub all_submitted : (T : Trace) (O : RunOptions) (H : History) → IsSimulated T O H → submits H ≡ length T.rows
all_submitted T O H s = omega (arith, submits_kept H, ap length s.submitted, length-reverse (row_submits 0 T.rows), rows_submitted 0 T.rows)

pub below_rows : (T : Trace) (O : RunOptions) (es : List Entry) (P : History) (r : ℕ) → IsSimulated T O (onto es P) → r < submits P → r < length T.rows
below_rows T O es P r s l = omega (arith, submits_onto es P, all_submitted T O (onto es P) s)

pub taken_row : (T : Trace) (O : RunOptions) (es : List Entry) (P : History) (r : ℕ) → IsSimulated T O (onto es P) → is_taken P r ≡ true → r < length T.rows
taken_row T O es P r s h =
    let l = legal_front (run_config T O) es P s.legal in
    below_rows T O es P r s (submitted_below (run_config T O) P r l (taken_submitted (run_config T O) P r l h))

-- both serve a request that was taken in the same way
pub same_course : (T : Trace) (O : RunOptions) (es fs : List Entry) (P : History) (r : ℕ) → IsSimulated T O (onto es P) → IsSimulated T O (onto fs P) → is_taken P r ≡ true → course (onto es P) r ≡ course (onto fs P) r
same_course T O es fs P r s t h =
    let low = taken_row T O es P r s h in
    let row = row_at T.rows r in
    let is = row_there T.rows r low in
    let c = taken_course P r h in
    let test : Entry → Bool = λ e. serves r e.act in
    let firsts : first_of_all (course (onto es P) r) ≡ first_of_all (course (onto fs P) r) =
    ap first_of_all (kept_onto test es P) ∙ first_onto_cons (kept test es) (course P r) c ∙ sym (ap first_of_all (kept_onto test fs P) ∙ first_onto_cons (kept test fs) (course P r) c) in
    same_served T O.refresh (onto es P) (onto fs P) r row (s.served r row is) (t.served r row is) firsts
