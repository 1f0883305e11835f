-- How many requests and changes a legal history has, and that their numbers are in their limits.
use Rattle.std.proofs.Common.{ℕ, ◌+◌, ◌-◌, ◌*◌, ◌<◌, ◌≤◌, ◌≡◌, List, [], ◌∷◌, ◌++◌, length, true, arith, refl, ap, ◌∙◌, All, length-append, sum_by}
use Rattle.std.proofs.lemmas.List.Elements.{All-push, All-set}
use Rattle.std.proofs.lemmas.List.Sums.{sum_by_push, sum_by-set}
use Rattle.std.proofs.lemmas.List.Sorted.{IsNonDecreasingBy-push}
use Rattle.std.specs.List.Sorted.{IsNonDecreasingBy}
use Rattle.fq_model.specs.declared.config.Config.{Config}
use Rattle.fq_model.specs.declared.event.Act.{Act}
use Rattle.fq_model.specs.declared.event.Act.TheVariants.{Submit, Take, Report, Done, Weight, Workers, Withdraw}
use Rattle.fq_model.specs.declared.fluid.FluidRow.{FluidRow}
use Rattle.fq_model.specs.declared.fluid.Change.{Change}
use Rattle.fq_model.specs.declared.fluid.What.TheVariants as changed
use Rattle.fq_model.specs.Limits.{InLimits, HasTextLimits, greatest_weight}
use Rattle.fq_model.specs.History.{History, submits, waiting, running}
use Rattle.fq_model.specs.Time.{last_moment}
use Rattle.fq_model.specs.Rules.{IsLegal, Fits}
use Rattle.fq_model.specs.Fluid.{changes_of, with_change}
use Rattle.fluid_reference.specs.Slots.{IsRowOf, IsChangeOf}
use Rattle.fq_laws.specs.Words.{one_more}
use Rattle.fq_laws.proofs.Rules.Room.{has_room}
use Rattle.fq_laws.proofs.History.Requests.{use_known, request_known}
use Rattle.fq_laws.proofs.History.Numbers.{waiting_submitted, waiting_taken, waiting_withdrawn, running_taken, running_finished}
use Rattle.fq_laws.proofs.History.Counts.{submits_le_length, running_submit, running_report, running_withdraw, waiting_report, waiting_done, running_quiet, waiting_quiet, waiting_none, running_none}
use Rattle.fq_laws.proofs.Limits.{within_text}
use Rattle.lag_report.specs.declared.course.Course.{Course}
use Rattle.lag_report.specs.Courses.{course_at, courses_after, courses_of, rows_after, rows_of, submitted, NamesOneOf}
use Rattle.lag_report.proofs.CoursesAre.{tenant_in, courses_are, names_known, names_submitted}

-- ---- requests

-- each request that is done took three entries, and each that runs has taken two
record Counted (P : History) (rows : List FluidRow) : Type 0 where
  some : waiting P + running P + length rows ≤ submits P
  entries : submits P + running P + 2 * length rows ≤ length P

counted_at : (C : Config) (P : History) (who m : ℕ) (a : Act) (rows : List FluidRow) → InLimits C → IsLegal C P → Fits C P m a → Counted P rows → Counted (one_more who m a P) (rows_after (courses_of P) a rows)
counted_at C P who m (Submit q tenant kind declared label) rows lim l f n =
    let w = waiting_submitted C P who m q tenant kind declared label lim l f in
    let r = running_submit P who m q tenant kind declared label in
    record { some = omega (arith, w, r, n.some); entries = omega (arith, r, n.entries) }
counted_at C P who m (Take w q estimate) rows lim l f n =
    let s = waiting_taken C P who m w q estimate lim l f in
    let r = running_taken C P who m w q estimate lim l f in
    record { some = omega (arith, s, r, n.some); entries = omega (arith, r, n.entries) }
counted_at C P who m (Report w q used) rows lim l f n =
    let s = waiting_report P who m w q used in
    let r = running_report P who m w q used in
    record { some = omega (arith, s, r, n.some); entries = omega (arith, r, n.entries) }
counted_at C P who m (Done w q cost) rows lim l f n =
    let s = waiting_done P who m w q cost in
    let r = running_finished C P who m w q cost lim l f in
    let more = length-append rows (record { tenant = (course_at (courses_of P) q).tenant; submit = (course_at (courses_of P) q).submit; cost = cost } ∷ []) in
    record { some = omega (arith, s, r, more, n.some); entries = omega (arith, r, more, n.entries) }
counted_at C P who m (Withdraw q) rows lim l f n =
    let s = waiting_withdrawn C P who m q lim l f in
    let r = running_withdraw P who m q in
    record { some = omega (arith, s, r, n.some); entries = omega (arith, r, n.entries) }
counted_at C P who m a rows lim l f n =
    let s = waiting_quiet P who m a refl in
    let r = running_quiet P who m a refl in
    record { some = omega (arith, s, r, n.some); entries = omega (arith, r, n.entries) }

counted : (C : Config) (H : History) → InLimits C → IsLegal C H → Counted H (rows_of H)
counted C [] lim l = record { some = omega (arith, waiting_none, running_none); entries = omega (arith, running_none) }
counted C (e ∷ P) lim l = counted_at C P e.who e.moment e.act (rows_of P) lim l.0 l.3 (counted C P lim l.0)

pub submits_few : (C : Config) (H : History) → InLimits C → HasTextLimits C → IsLegal C H → submits H ≤ 4194304
submits_few C H lim text l = omega (arith, submits_le_length H, has_room C H lim l, (within_text C lim text).entries)

pub rows_few : (C : Config) (H : History) → InLimits C → HasTextLimits C → IsLegal C H → length (rows_of H) ≤ 2000000
rows_few C H lim text l = let n = counted C H lim l in omega (arith, n.some, n.entries, has_room C H lim l, (within_text C lim text).entries)

row_in : (C : Config) (P : History) (m : ℕ) (a : Act) (rows : List FluidRow) → IsLegal C P → Fits C P m a → All (IsRowOf (length C.weights)) rows → All (IsRowOf (length C.weights)) (rows_after (courses_of P) a rows)
row_in C P m (Done w q cost) rows l f ih =
    let asked = use_known C P w q cost l f in
    let course = (courses_are C P l).each q (names_known C P m (Done w q cost) l f) in
    let tenant : (course_at (courses_of P) q).tenant ≡ asked.0.tenant = ap (λ c. c.tenant) course ∙ ap tenant_in asked.1 in
    let low : asked.0.tenant < length C.weights = (request_known C P q asked.0 l asked.1).tenant_known in
    All-push (IsRowOf (length C.weights)) rows _ ih (record { tenant = omega (arith, tenant, low); cost = f.in_range })
row_in C P m _ rows l f ih = ih

pub rows_in : (C : Config) (H : History) → IsLegal C H → All (IsRowOf (length C.weights)) (rows_of H)
rows_in C [] l = λ k d b. absurd (omega (arith, b))
rows_in C (e ∷ P) l = row_in C P e.moment e.act (rows_of P) l.0 l.3 (rows_in C P l.0)

-- ---- courses

course_in : (C : Config) (P : History) (m : ℕ) (a : Act) (courses : List Course) → Fits C P m a → NamesOneOf (length courses) a → All (λ c. c.tenant < length C.weights) courses → All (λ c. c.tenant < length C.weights) (courses_after m a courses)
course_in C P m (Submit q tenant kind declared label) courses f named ih = All-push (λ (c : Course). c.tenant < length C.weights) courses (submitted tenant m) ih f.tenant_known
course_in C P m (Take w q estimate) courses f named ih = All-set (λ (c : Course). c.tenant < length C.weights) courses q (record (course_at courses q) { taken = m }) (ih q (submitted 0 0) named) ih
course_in C P m (Done w q cost) courses f named ih = All-set (λ (c : Course). c.tenant < length C.weights) courses q (record (course_at courses q) { ended = m; cost = cost; is_ended = true }) (ih q (submitted 0 0) named) ih
course_in C P m (Withdraw q) courses f named ih = All-set (λ (c : Course). c.tenant < length C.weights) courses q (record (course_at courses q) { is_ended = true }) (ih q (submitted 0 0) named) ih
course_in C P m _ courses f named ih = ih

pub courses_in : (C : Config) (H : History) → IsLegal C H → All (λ c. c.tenant < length C.weights) (courses_of H)
courses_in C [] l = λ k d b. absurd (omega (arith, b))
courses_in C (e ∷ P) l = course_in C P e.moment e.act (courses_of P) l.3 (names_submitted C (e ∷ P) l).1 (courses_in C P l.0)

-- only a Done has a cost
costs_at : (C : Config) (P : History) (m : ℕ) (a : Act) (courses : List Course) (rows : List FluidRow) → Fits C P m a → NamesOneOf (length courses) a → sum_by (λ c. c.cost) courses ≤ length rows * 1000000000 →
    sum_by (λ c. c.cost) (courses_after m a courses) ≤ length (rows_after courses a rows) * 1000000000
costs_at C P m (Submit q tenant kind declared label) courses rows f named ih = omega (arith, ih, sum_by_push (λ (c : Course). c.cost) courses (submitted tenant m))
costs_at C P m (Take w q estimate) courses rows f named ih = omega (arith, ih, sum_by-set (λ (c : Course). c.cost) courses q (record (course_at courses q) { taken = m }) (submitted 0 0) named)
costs_at C P m (Done w q cost) courses rows f named ih = omega (
  arith,
  ih,
  f.in_range,
  sum_by-set (λ (c : Course). c.cost) courses q (record (course_at courses q) { ended = m; cost = cost; is_ended = true }) (submitted 0 0) named,
  length-append rows (record { tenant = (course_at courses q).tenant; submit = (course_at courses q).submit; cost = cost } ∷ []),
)
costs_at C P m (Withdraw q) courses rows f named ih = omega (arith, ih, sum_by-set (λ (c : Course). c.cost) courses q (record (course_at courses q) { is_ended = true }) (submitted 0 0) named)
costs_at C P m _ courses rows f named ih = ih

costs_by_rows : (C : Config) (H : History) → IsLegal C H → sum_by (λ c. c.cost) (courses_of H) ≤ length (rows_of H) * 1000000000
costs_by_rows C [] l = omega arith
costs_by_rows C (e ∷ P) l = costs_at C P e.moment e.act (courses_of P) (rows_of P) l.3 (names_submitted C (e ∷ P) l).1 (costs_by_rows C P l.0)

pub costs_few : (C : Config) (H : History) → InLimits C → HasTextLimits C → IsLegal C H → sum_by (λ c. c.cost) (courses_of H) ≤ 2000000000000000
costs_few C H lim text l = omega (arith, costs_by_rows C H l, rows_few C H lim text l)

-- ---- changes

change_in : (C : Config) (P : History) (m : ℕ) (a : Act) (changes : List Change) → InLimits C → HasTextLimits C → Fits C P m a → All (IsChangeOf (length C.weights)) changes → All (IsChangeOf (length C.weights)) (with_change m a changes)
change_in C P m (Weight tenant weight) changes lim text f ih =
    All-push (IsChangeOf (length C.weights)) changes _ ih (f.tenant_known, (f.weight_in_range.0, omega (arith, f.weight_in_range.1, ap greatest_weight text)))
change_in C P m (Workers count) changes lim text f ih = All-push (IsChangeOf (length C.weights)) changes _ ih (f.count_in_range.0, omega (arith, f.count_in_range.1, (within_text C lim text).workers))
change_in C P m _ changes lim text f ih = ih

pub changes_in : (C : Config) (H : History) → InLimits C → HasTextLimits C → IsLegal C H → All (IsChangeOf (length C.weights)) (changes_of H)
changes_in C [] lim text l = λ k d b. absurd (omega (arith, b))
changes_in C (e ∷ P) lim text l = change_in C P e.moment e.act (changes_of P) lim text l.3 (changes_in C P lim text l.0)

-- changes come in order of time, and none after the last entry
record InTime (last : ℕ) (changes : List Change) : Type 0 where
  low : All (λ (c : Change). c.moment ≤ last) changes
  order : IsNonDecreasingBy (λ (c : Change). c.moment) changes

later : (last m : ℕ) (changes : List Change) → last ≤ m → InTime last changes → InTime m changes
later last m changes h t = record { low = λ k d b. omega (arith, t.low k d b, h); order = t.order }

push_change : (m : ℕ) (changes : List Change) (c : Change) → c.moment ≡ m → InTime m changes → InTime m (changes ++ c ∷ [])
push_change m changes c is t = record {
  low = All-push (λ (c : Change). c.moment ≤ m) changes c t.low (omega (arith, is));
  order = IsNonDecreasingBy-push (λ (c : Change). c.moment) changes c t.order (λ d some. omega (arith, is, t.low (length changes - 1) d (omega (arith, some))));
}

in_time_at : (m : ℕ) (a : Act) (changes : List Change) → InTime m changes → InTime m (with_change m a changes)
in_time_at m (Weight tenant weight) changes t = push_change m changes (record { moment = m; what = changed.Weight tenant weight }) refl t
in_time_at m (Workers count) changes t = push_change m changes (record { moment = m; what = changed.Workers count }) refl t
in_time_at m _ changes t = t

in_time : (C : Config) (H : History) → IsLegal C H → InTime (last_moment H) (changes_of H)
in_time C [] l = record { low = λ k d b. absurd (omega (arith, b)); order = λ i j d h b. absurd (omega (arith, b)) }
in_time C (e ∷ P) l = in_time_at e.moment e.act (changes_of P) (later (last_moment P) e.moment (changes_of P) l.1 (in_time C P l.0))

pub changes_order : (C : Config) (H : History) → IsLegal C H → IsNonDecreasingBy (λ (c : Change). c.moment) (changes_of H)
changes_order C H l = (in_time C H l).order
