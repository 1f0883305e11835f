-- The order of events.
use Rattle.std.proofs.Common.{ℕ, ◌<◌, ◌≤◌, ◌≡◌, ◌==◌, ◌⊎◌, Bool, true, false, cond, arith, refl, ap, sym, ◌∙◌, subst, inl, inr, List, length, Option, Some, None, MatchOption, get_or}
use Rattle.std.specs.Prelude.{slice_get}
use Rattle.std.proofs.lemmas.Bool.{cases_eq, cases_lt, eq-eqb, ne_eqb, lt-ltb, le-ltb, leb-false, leb-true, false≢true, cond-true, cond-false}
use Rattle.std.proofs.lemmas.Option.{slice_get_within, slice_get-get_or}
use Rattle.program_model.specs.declared.trace.TraceRow.{TraceRow}
use Rattle.program_model.specs.Simulated.{RankBefore}
use Rattle.trace_runner.specs.declared.agenda.Agenda.{Agenda}
use Rattle.trace_runner.specs.declared.agenda.Event.{Event}
use Rattle.trace_runner.specs.declared.agenda.EventCall.TheVariants as what
use Rattle.trace_runner.specs.declared.staff.Work.{Work}
use Rattle.trace_runner.specs.Staff.{work_at, work_moment, work_rank, IsSmall, NoneWorks, ComesBefore, IsFirstWork, IsFirstIdle}
use Rattle.trace_runner.specs.Agenda.{next_of_work, event_of_work, event_of_row, comes_by, what_rank, ComesBy, ByWorks, ByRows, MayCome, NoneTakes, IsTimed, NothingTimed, IsNext, NothingNext}

-- a worker's next event is a Report or a Done
pub next_is : (i : ℕ) (w : Work) → ((w.due < w.cost) × (next_of_work i w ≡ what.Report i w)) ⊎ ((w.cost ≤ w.due) × (next_of_work i w ≡ what.Done i w))
next_is i w = elim (cases_lt w.due w.cost) [
  | inl l ↦ inl (l, cond-true _ _ _ (lt-ltb _ _ l))
  | inr g ↦ inr (g, cond-false _ _ _ (le-ltb _ _ g))
]

pub report_rank : (i : ℕ) (w : Work) → w.due < w.cost → work_rank i w ≡ (0, i)
report_rank i w l = ap (λ (b : Bool). let p : ℕ × ℕ = (cond b 1 0, i) in p) (ne_eqb w.due w.cost (λ e. absurd (omega arith)))

pub done_rank : (i : ℕ) (w : Work) → w.due ≡ w.cost → work_rank i w ≡ (1, i)
done_rank i w e = ap (λ (b : Bool). let p : ℕ × ℕ = (cond b 1 0, i) in p) (eq-eqb w.due w.cost e)

rank_is : (r i : ℕ) (w : Work) → IsSmall w → what_rank r (next_of_work i w) ≡ work_rank i w
rank_is r i w s = elim (next_is i w) [
  | inl l ↦ ap (what_rank r) l.1 ∙ sym (report_rank i w l.0)
  | inr g ↦ ap (what_rank r) g.1 ∙ sym (done_rank i w (omega (arith, s.due, g.0)))
]

may_work : (a : Agenda) (rows : List TraceRow) (i : ℕ) (w : Work) → IsFirstWork a.staff i w → MayCome a rows (work_moment w) (next_of_work i w)
may_work a rows i w f = elim (next_is i w) [
  | inl l ↦ subst (MayCome a rows (work_moment w)) (sym l.1) (f.serves, f.small, l.0, refl)
  | inr g ↦ subst (MayCome a rows (work_moment w)) (sym g.1) (f.serves, f.small, omega (arith, f.small.due, g.0), refl)
]

-- Reports and Dones come before Submits
work_before_row : (i r : ℕ) (w : Work) → RankBefore (work_rank i w) (2, r)
work_before_row i r w = inl (low (w.due == w.cost))
  where
    low : (b : Bool) → cond b 1 0 < 2
    low true = omega arith
    low false = omega arith

row_moments : (i r : ℕ) (w : Work) (m : ℕ) → work_moment w ≤ m → ComesBefore (work_moment w) (work_rank i w) m (2, r)
row_moments i r w m le = elim (cases_lt (work_moment w) m) [ inl l ↦ inl l | inr g ↦ inr (omega arith, work_before_row i r w) ]

pub one_work : (works : List (Option Work)) (i j : ℕ) (w x : Work) → work_at works i ≡ Some w → work_at works j ≡ Some x → j ≡ i → w ≡ x
one_work works i j w x a b e =
    let both : Some w ≡ Some x = sym a ∙ ap (work_at works) (sym e) ∙ b in cc

pub timed_work : (a : Agenda) (rows : List TraceRow) (i : ℕ) (w : Work) → IsFirstWork a.staff i w → ((row : TraceRow) → slice_get rows a.submitted ≡ Some row → work_moment w ≤ row.moment) → IsTimed a rows (event_of_work i w)
timed_work a rows i w f le =
    let own = rank_is a.submitted i w f.small in
    record {
      may_come = may_work a rows i w f;
      works = λ j x at. elim (cases_eq j i) [
        | inl e ↦
            let same : w ≡ x = one_work a.staff i j w x f.serves at e in
            inl (ap work_moment same, own ∙ ap (work_rank i) same ∙ ap (λ n. work_rank n x) (sym e))
        | inr ne ↦ inr (subst (λ q. ComesBefore (work_moment w) q (work_moment x) (work_rank j x)) (sym own) (f.first j x ne at))
      ];
      requests = λ row at. inr (subst (λ q. ComesBefore (work_moment w) q row.moment (2, a.submitted)) (sym own) (row_moments i a.submitted w row.moment (le row at)));
    }

pub timed_row : (a : Agenda) (rows : List TraceRow) (row : TraceRow) → slice_get rows a.submitted ≡ Some row → ((j : ℕ) (x : Work) → work_at a.staff j ≡ Some x → row.moment < work_moment x) → IsTimed a rows (event_of_row row)
timed_row a rows row at later = record {
  may_come = (at, refl);
  works = λ j x is. inr (inl (later j x is));
  requests = λ other is. let both : Some row ≡ Some other = sym at ∙ is in let same : row ≡ other = cc in inl (ap (λ (r : TraceRow). r.moment) same, refl);
}

-- a moment before the next entry of the first worker is before those of all workers
pub all_later : (works : List (Option Work)) (i m : ℕ) (w : Work) → IsFirstWork works i w → m < work_moment w → (j : ℕ) (x : Work) → work_at works j ≡ Some x → m < work_moment x
all_later works i m w f l j x at = elim (cases_eq j i) [
  | inl e ↦ subst (λ q. m < work_moment q) (one_work works i j w x f.serves at e) l
  | inr ne ↦ by_order (f.first j x ne at)
]
  where
    by_order : ComesBefore (work_moment w) (work_rank i w) (work_moment x) (work_rank j x) → m < work_moment x
    by_order (inl b) = omega arith
    by_order (inr b) = omega (arith, b.0)

pub none_later : (works : List (Option Work)) (m : ℕ) → NoneWorks works → (j : ℕ) (x : Work) → work_at works j ≡ Some x → m < work_moment x
none_later works m none j x at = let n : None ≡ Some x = sym (none j) ∙ at in absurd (cc)

-- a worker takes where nothing comes before
take_first : (a : Agenda) (rows : List TraceRow) (i : ℕ) → IsFirstIdle a.staff i → 1 ≤ a.waiting → ByWorks a.staff a.moment (3, i) → ByRows rows a.submitted a.moment (3, i) → IsNext a rows (record { moment = a.moment; what = what.Take i })
take_first a rows i f some works requests = record {
  timed = record { may_come = (f.is_idle, f.least, some, refl); works = works; requests = requests };
  settled = λ l. absurd (omega arith);
}

pub by_low : (m n : ℕ) (a b : ℕ × ℕ) → ComesBy m a n b → m ≤ n
by_low m n a b (inl e) = omega (arith, e.0)
by_low m n a b (inr (inl l)) = omega arith
by_low m n a b (inr (inr e)) = omega (arith, e.0)

pub take_next : (a : Agenda) (rows : List TraceRow) (i : ℕ) (timed : Option Event) → MatchOption timed (NothingTimed a rows) (IsTimed a rows) → comes_by timed a.moment ≡ false → 1 ≤ a.waiting → IsFirstIdle a.staff i → IsNext a rows (record { moment = a.moment; what = what.Take i })
take_next a rows i None t c some f = take_first a rows i f some
    (λ j x at. absurd (let n : None ≡ Some x = sym (t.works j) ∙ at in cc))
    (λ row at. absurd (omega (arith, t.requests, slice_get_within rows a.submitted row at)))
take_next a rows i (Some e) t c some f =
    let late : a.moment < e.moment = leb-false e.moment a.moment c in
    take_first a rows i f some
    (λ j x at. inr (inl (omega (arith, by_low _ _ _ _ (t.works j x at)))))
    (λ row at. inr (inl (omega (arith, by_low _ _ _ _ (t.requests row at)))))

pub no_take_next : (a : Agenda) (rows : List TraceRow) (timed : Option Event) → MatchOption timed (NothingTimed a rows) (IsTimed a rows) → NoneTakes a → MatchOption timed (NothingNext a rows) (IsNext a rows)
no_take_next a rows None t s = record { timed = t; settled = s }
no_take_next a rows (Some e) t s = record { timed = t; settled = λ l. s }

pub due_next : (a : Agenda) (rows : List TraceRow) (timed : Option Event) → MatchOption timed (NothingTimed a rows) (IsTimed a rows) → comes_by timed a.moment ≡ true → MatchOption timed (NothingNext a rows) (IsNext a rows)
due_next a rows None t c = absurd (false≢true c)
due_next a rows (Some e) t c = record { timed = t; settled = λ l. absurd (omega (arith, leb-true e.moment a.moment c)) }

-- the row that was read
pub read_row : (rows : List TraceRow) (r : ℕ) (row : TraceRow) → r < length rows → ((d : TraceRow) → row ≡ get_or rows r d) → slice_get rows r ≡ Some row
read_row rows r row l at = slice_get-get_or rows r row l ∙ ap Some (sym (at row))

pub past_rows : (rows : List TraceRow) (r : ℕ) (row : TraceRow) {A : Type 0} → length rows ≤ r → slice_get rows r ≡ Some row → A
past_rows rows r row le at = absurd (omega (arith, slice_get_within rows r row at))

pub read_same : (rows : List TraceRow) (r : ℕ) (row other : TraceRow) → slice_get rows r ≡ Some row → slice_get rows r ≡ Some other → row ≡ other
read_same rows r row other a b = let both : Some row ≡ Some other = sym a ∙ b in cc
