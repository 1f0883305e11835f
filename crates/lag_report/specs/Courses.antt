-- The courses of the requests of a history, and its completed requests.
use Rattle.std.specs.Prelude.{ℕ, ◌<◌, ◌==◌, true, false, if◌then◌else◌, List, [], ◌∷◌, ◌++◌, length, slice_index_or, slice_set}
use Rattle.fq_model.specs.declared.event.Act.{Act}
use Rattle.fq_model.specs.declared.event.Act.TheVariants.{Submit, Take, Done, Withdraw}
use Rattle.fq_model.specs.declared.fluid.FluidRow.{FluidRow}
use Rattle.fq_model.specs.History.{History}
use Rattle.lag_report.specs.declared.course.Course.{Course}

-- a request of a tenant that was submitted at m, and no more
abbrev pub submitted : ℕ → ℕ → Course
submitted tenant m = record { tenant = tenant; submit = m; taken = 0; ended = 0; cost = 0; is_ended = false }

-- the course at a place
abbrev pub course_at : List Course → ℕ → Course
course_at courses r = slice_index_or courses r (submitted 0 0)

-- the courses after an act more, at m
abbrev pub courses_after : ℕ → Act → List Course → List Course
courses_after m (Submit request tenant kind declared label) older = older ++ submitted tenant m ∷ []
courses_after m (Take worker request estimate) older =
    slice_set older request (record (course_at older request) { taken = m })
courses_after m (Done worker request cost) older =
    slice_set older request (record (course_at older request) { ended = m; cost = cost; is_ended = true })
courses_after m (Withdraw request) older =
    slice_set older request (record (course_at older request) { is_ended = true })
courses_after m _ older = older

-- the courses of the requests of a history, by number
abbrev pub courses_of : History → List Course
courses_of [] = []
courses_of (e ∷ P) = courses_after e.moment e.act (courses_of P)

-- the completed requests after an act more, where the courses before it are these
abbrev pub rows_after : List Course → Act → List FluidRow → List FluidRow
rows_after courses (Done worker request cost) older =
    let course = course_at courses request in
    older ++ record { tenant = course.tenant; submit = course.submit; cost = cost } ∷ []
rows_after courses _ older = older

-- the completed requests of a history, in the order of their Dones
abbrev pub rows_of : History → List FluidRow
rows_of [] = []
rows_of (e ∷ P) = rows_after (courses_of P) e.act (rows_of P)

-- a request that the act takes, completes or withdraws is one of the first n
abbrev pub NamesOneOf : ℕ → Act → Type 0
NamesOneOf n (Take worker request estimate) = request < n
NamesOneOf n (Done worker request cost) = request < n
NamesOneOf n (Withdraw request) = request < n
NamesOneOf n _ = Unit {0}

-- each request that is taken, done or withdrawn was submitted before
abbrev pub NamesSubmitted : History → Type 0
NamesSubmitted [] = Unit {0}
NamesSubmitted (e ∷ P) = NamesSubmitted P × NamesOneOf (length (courses_of P)) e.act

-- f of a course of tenant t, and 0 of another
abbrev pub own : ℕ → (Course → ℕ) → Course → ℕ
own t f c = if c.tenant == t then f c else 0
