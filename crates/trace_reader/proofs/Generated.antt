-- The trace that is generated is lawful, has few kinds, and ends early.
use Rattle.std.proofs.Common.{ℕ, zero, suc, ◌+◌, ◌*◌, ◌/◌, ◌%◌, ◌<◌, ◌≤◌, ◌≡◌, ◌==◌, max, Bool, true, false, ◌||◌, if◌then◌else◌, List, [], ◌∷◌, ◌++◌, length, get_or, All, Option, Some, None, Ok, is_some, option_map, unwrap_or, bytes_eq, refl, sym, ap, ◌∙◌, subst, arith, length-append}
use Rattle.std.specs.Prelude.{codes}
use Rattle.std.specs.List.{list_any, IsDistinct, last_or}
use Rattle.std.proofs.Math.Numerals.{add-one}
use Rattle.std.proofs.lemmas.Nat.{mul-le}
use Rattle.std.proofs.lemmas.Bool.{eqb-true, false_from_ne_true}
use Rattle.std.proofs.lemmas.Cmp.{nat_list_eq_equiv}
use Rattle.std.proofs.lemmas.List.Elements.{All-push}
use Rattle.std.proofs.lemmas.List.Folds.{list_any-append}
use Rattle.std.proofs.lemmas.List.Quantifiers.{position-Some}
use Rattle.std.proofs.lemmas.Map.Keys.{IsDistinct-from_apart}
use Rattle.std.proofs.lemmas.Map.Made.{length-le_from_is_member}
use Rattle.std.proofs.lemmas.Slice.Eq.{bytes_eq-Decides}
use Rattle.rand_pcg.specs.Lcg.{Lcg}
use Rattle.rand_pcg.specs.Pcg.{pcg32}
use Rattle.vt_fixed.specs.declared.limits.TheConstants.{GREATEST_COST}
use Rattle.fq_model.specs.declared.limits.TheConstants.{TEXT_TENANTS, MOST_KINDS, MOST_ROWS, MOST_ENTRIES}
use Rattle.program_model.specs.declared.trace.TraceRow.{TraceRow}
use Rattle.program_model.specs.GenCommand.{default_run_options}
use Rattle.program_model.specs.Courses.{sum_over, reports_below}
use Rattle.program_model.specs.Generator.{after_draws, draw, generated_tenants, generated_kind, generated_declared, mixed_cost, generated_cost, with_generated, generated_requests, generated_trace}
use Rattle.fq_model.specs.Limits.{IsWithin}
use Rattle.fq_model.specs.Names.{AreNames, number_among, number_by_appearance, with_appearance}
use Rattle.fq_model.specs.Spelling.{is_name}
use Rattle.program_model.specs.Reading.{is_empty}
use Rattle.program_model.specs.Simulated.{needed_entries}
use Rattle.program_model.specs.Trace.{Trace, last_row_moment, with_some_kind}
use Rattle.program_model.specs.TraceGrammar.{trace_of}
use Rattle.program_model.specs.TraceText.{IsLawfulTrace, KindsAppear, HasKindsInOrder, trace_text}
use Rattle.trace_reader.specs.Generating.{HasRoomForOne}
use Rattle.trace_reader.proofs.GeneratedTenants.{are_names, are_weights, as_many, count}
use Rattle.trace_reader.proofs.Lawful.{IsKept, IsFew, with_row-kept, lawful_at_end, no_names}
use Rattle.trace_reader.proofs.ReadBack.{reads_back}

-- ---- kinds

abbrev all_kinds : List (List ℕ)
all_kinds = codes "get" ∷ codes "mix" ∷ codes "scan" ∷ []

-- a property of all three kinds holds of a tenant's kind
by_kind : (P : List ℕ → Type 0) (i : ℕ) → P (codes "get") → P (codes "mix") → P (codes "scan") → P (generated_kind i)
by_kind P i get mix scan = go (i % 4 == 2) (i % 4 == 3)
  where
    go : (a b : Bool) → P (if a then codes "mix" else if b then codes "scan" else codes "get")
    go true b = mix
    go false true = scan
    go false false = get

-- each of these kinds is one of the three
abbrev AreAmong : List (List ℕ) → Type 0
AreAmong kinds = (q : List ℕ) → list_any (bytes_eq q) kinds ≡ true → list_any (bytes_eq q) all_kinds ≡ true

either : (a b : Bool) {P : Type 0} → (a || b) ≡ true → (a ≡ true → P) → (b ≡ true → P) → P
either true b is left right = left refl
either false b is left right = right is

or_false : (a : Bool) → (a || false) ≡ a
or_false true = refl
or_false false = refl

among_push : (kinds : List (List ℕ)) (name : List ℕ) → AreAmong kinds → ((q : List ℕ) → bytes_eq q name ≡ true → list_any (bytes_eq q) all_kinds ≡ true) → AreAmong (kinds ++ name ∷ [])
among_push kinds name among is q there =
    either (list_any (bytes_eq q) kinds) (list_any (bytes_eq q) (name ∷ []))
    (sym (list_any-append (bytes_eq q) kinds (name ∷ [])) ∙ there)
    (among q)
    (λ last. is q (sym (or_false (bytes_eq q name)) ∙ last))

is_second : (a b c : Bool) → b ≡ true → (a || (b || c)) ≡ true
is_second true b c is = refl
is_second false b c is = rw is refl

is_third : (a b c d : Bool) → c ≡ true → (a || (b || (c || d))) ≡ true
is_third true b c d is = refl
is_third false b c d is = is_second b c d is

is_among : (i : ℕ) (q : List ℕ) → bytes_eq q (generated_kind i) ≡ true → list_any (bytes_eq q) all_kinds ≡ true
is_among i q = by_kind (λ name. bytes_eq q name ≡ true → list_any (bytes_eq q) all_kinds ≡ true) i
    (λ is. rw is refl)
    (λ is. is_second (bytes_eq q (codes "get")) (bytes_eq q (codes "mix")) _ is)
    (λ is. is_third (bytes_eq q (codes "get")) (bytes_eq q (codes "mix")) (bytes_eq q (codes "scan")) false is)

among_after : (kinds : List (List ℕ)) (i : ℕ) → AreAmong kinds → AreAmong (with_appearance kinds (generated_kind i))
among_after kinds i among = go (is_some (number_among kinds (generated_kind i)))
  where
    go : (known : Bool) → AreAmong (if known then kinds else kinds ++ generated_kind i ∷ [])
    go true = among
    go false = among_push kinds (generated_kind i) among (is_among i)

distinct : (limit : ℕ) (kinds : List (List ℕ)) → AreNames limit kinds → IsDistinct bytes_eq kinds
distinct limit kinds are = IsDistinct-from_apart bytes_eq kinds (λ i j d before b.
    false_from_ne_true (bytes_eq (get_or kinds i d) (get_or kinds j d)) (λ same.
    are.distinct i j d before b ((bytes_eq-Decides (get_or kinds i d) (get_or kinds j d)).0 same)))

three_at_most : (limit : ℕ) (kinds : List (List ℕ)) → AreNames limit kinds → AreAmong kinds → length kinds ≤ 3
three_at_most limit kinds are among = length-le_from_is_member nat_list_eq_equiv kinds all_kinds (distinct limit kinds are) among

one_at_most : (kinds : List (List ℕ)) (name : List ℕ) → length (with_appearance kinds name) ≤ length kinds + 1
one_at_most kinds name = go (is_some (number_among kinds name))
  where
    go : (known : Bool) → length (if known then kinds else kinds ++ name ∷ []) ≤ length kinds + 1
    go true = omega arith
    go false = omega (arith, length-append kinds (name ∷ []))

pub kind_spelled : (i : ℕ) → is_name (generated_kind i) ≡ true
kind_spelled i = by_kind (λ name. is_name name ≡ true) i refl refl refl

-- the number of a kind is that of one of the kinds so far, or the next one
kinds_more : (kinds : List (List ℕ)) (name : List ℕ)
    → (number_by_appearance kinds name ≤ length kinds) × (length (with_appearance kinds name) ≡ max (length kinds) (number_by_appearance kinds name + 1))
kinds_more kinds name = go (number_among kinds name) refl
  where
    go : (o : Option ℕ) → number_among kinds name ≡ o
        → (unwrap_or o (length kinds) ≤ length kinds) × (length (if is_some o then kinds else kinds ++ name ∷ []) ≡ max (length kinds) (unwrap_or o (length kinds) + 1))
    go None is = (omega arith, omega (arith, length-append kinds (name ∷ [])))
    go (Some k) is =
        let below : k < length kinds = (position-Some (bytes_eq name) kinds k [] is).0 in
        (omega arith, omega arith)

appear-push : (seen kinds : ℕ) (rows : List TraceRow) (row : TraceRow) → KindsAppear seen rows kinds → row.kind ≤ kinds
    → KindsAppear seen (rows ++ row ∷ []) (max kinds (row.kind + 1))
appear-push seen kinds [] row same next = (omega (arith, same), ap (λ k. max k (row.kind + 1)) same)
appear-push seen kinds (r ∷ rows) row is next = (is.0, appear-push (max seen (r.kind + 1)) kinds rows row is.1 next)

in_order_at_end : (tenants : List (List ℕ)) (weights : List ℕ) (kinds : List (List ℕ)) (rows : List TraceRow) → KindsAppear 0 rows (length kinds)
    → HasKindsInOrder (with_some_kind (record { tenants = tenants; weights = weights; kinds = kinds; rows = rows }))
in_order_at_end tenants weights kinds [] appear = refl
in_order_at_end tenants weights kinds (row ∷ rows) appear =
    let some : is_empty (row ∷ rows) ≡ false = false_from_ne_true (is_empty (row ∷ rows)) (λ none. omega (arith, eqb-true (length (row ∷ rows)) 0 none)) in
    rw some appear

-- ---- numbers

declared_within : (i : ℕ) → IsWithin 1 GREATEST_COST (generated_declared i)
declared_within i = go (i % 4 == 2) (i % 4 == 3)
  where
    go : (a b : Bool) → IsWithin 1 GREATEST_COST (if a then 1000 else if b then 50000 else 500)
    go true b = (omega arith, omega arith)
    go false true = (omega arith, omega arith)
    go false false = (omega arith, omega arith)

abbrev IsCost : ℕ → Type 0
IsCost cost = (1 ≤ cost) × (cost < 100000)

mixed-cost : (c : ℕ) → IsCost (mixed_cost c)
mixed-cost c = go (c % 10 == 0)
  where
    go : (a : Bool) → IsCost (if a then 20000 + c / 10 % 30000 else 200 + c % 1800)
    go true = (omega arith, omega arith)
    go false = (omega arith, omega arith)

cost_within : (i c : ℕ) → IsCost (generated_cost i c)
cost_within i c = go (i % 4 == 2) (i % 4 == 3)
  where
    go : (a b : Bool) → IsCost (if a then mixed_cost c else if b then 10000 + c % 90000 else 100 + c % 900)
    go true b = mixed-cost c
    go false true = (omega arith, omega arith)
    go false false = (omega arith, omega arith)

-- ---- request by request

last-push : {A : Type 0} (o : Option A) (xs : List A) (x : A) → last_or o (xs ++ x ∷ []) ≡ Some x
last-push o [] x = refl
last-push o (y ∷ ys) x = last-push (Some y) ys x

-- the properties of a generated trace of n tenants that has j requests
record IsGenerated (n j : ℕ) (t : Trace) : Type 0 where
  kept : IsKept t
  among : AreAmong t.kinds
  appear : KindsAppear 0 t.rows (length t.kinds)
  tenants : length t.tenants ≡ n
  rows : length t.rows ≡ j
  moment : last_row_moment t.rows ≤ 199 * j
  costs : All (λ row. row.cost < 100000) t.rows

none_generated : (n : ℕ) → n ≤ TEXT_TENANTS → IsGenerated n 0 (generated_tenants n)
none_generated n few = record {
  kept = record {
    tenants = are_names n few;
    kinds = no_names MOST_KINDS;
    pairs = omega arith;
    weighed = as_many n;
    weights = are_weights n;
    few = omega arith;
    rows = λ k d b. absurd (omega arith);
    in_order = λ i j d a b. absurd (omega arith);
  };
  among = λ q there. absurd (cc);
  appear = refl;
  tenants = count n;
  rows = refl;
  moment = omega arith;
  costs = λ k d b. absurd (omega arith);
}

one_generated : (n j : ℕ) (t : Trace) (a b c : ℕ) → 1 ≤ n → n ≤ TEXT_TENANTS → j < MOST_ROWS → IsGenerated n j t → IsGenerated n (suc j) (with_generated n j t a b c)
one_generated n j t a b c some few room is =
    let tenant = b % n in
    let kind = generated_kind tenant in
    let u = with_generated n j t a b c in
    let row : TraceRow = record { moment = last_row_moment t.rows + a % 200; submitter = j % 4; tenant = tenant; kind = number_by_appearance t.kinds kind; declared = generated_declared tenant; cost = generated_cost tenant c } in
    let cost = cost_within tenant c in
    let more = kinds_more t.kinds kind in
    let kinds : length u.kinds ≤ 4 = omega (arith, one_at_most t.kinds kind, three_at_most MOST_KINDS t.kinds is.kept.kinds is.among) in
    let rows : length u.rows ≡ suc j = omega (arith, is.rows, length-append t.rows (row ∷ [])) in
    let last : last_row_moment u.rows ≡ row.moment = ap (λ o. unwrap_or (option_map (λ r. r.moment) o) 0) (last-push None t.rows row) in
    let is_few : IsFew u u = record {
      tenants = is.kept.tenants.few;
      kinds = omega (arith, kinds);
      rows = omega (arith, rows);
      pairs = omega (arith, mul-le (length t.tenants) (length u.kinds) 4096 4 (omega (arith, is.kept.tenants.few)) kinds);
      same = refl;
    } in
    record {
      kept = with_row-kept t u row.moment row.submitter tenant kind row.declared row.cost is.kept is_few
          (omega (arith, is.moment), omega arith) (omega arith) (omega (arith, is.tenants)) (kind_spelled tenant)
          (declared_within tenant) (cost.0, omega (arith, cost.1));
      among = among_after t.kinds tenant is.among;
      appear = rw more.1 (appear-push 0 (length t.kinds) t.rows row is.appear more.0);
      tenants = is.tenants;
      rows = rows;
      moment = omega (arith, last, is.moment);
      costs = All-push (λ r. r.cost < 100000) t.rows row is.costs cost.1;
    }

is_generated : (seed n j : ℕ) → 1 ≤ n → n ≤ TEXT_TENANTS → j ≤ MOST_ROWS → IsGenerated n j (generated_requests seed n j)
unfolding generated_requests
is_generated seed n zero some few room = none_generated n few
is_generated seed n (suc j) some few room =
    one_generated n j (generated_requests seed n j) (draw seed (3 * j)) (draw seed (3 * j + 1)) (draw seed (3 * j + 2)) some few (omega arith)
    (is_generated seed n j some few (omega arith))

-- ---- consequences

pub has_room : (seed n j : ℕ) (t : Trace) → t ≡ generated_requests seed n j → 1 ≤ n → n ≤ TEXT_TENANTS → j ≤ MOST_ROWS → HasRoomForOne t
has_room seed n j t same some few room = subst HasRoomForOne (sym same) (go (is_generated seed n j some few room))
  where
    go : {u : Trace} → IsGenerated n j u → HasRoomForOne u
    go {u} is = record {
      tenants = omega (arith, is.tenants);
      kinds = omega (arith, three_at_most MOST_KINDS u.kinds is.kept.kinds is.among);
      moment = omega (arith, is.moment);
    }

pub as_many_as_asked : (seed n j : ℕ) → 1 ≤ n → n ≤ TEXT_TENANTS → j ≤ MOST_ROWS → length (generated_requests seed n j).tenants ≡ n
as_many_as_asked seed n j some few room = (is_generated seed n j some few room).tenants

pub generated_lawful : (seed n j : ℕ) → 1 ≤ n → n ≤ TEXT_TENANTS → j ≤ MOST_ROWS → IsLawfulTrace (generated_trace seed n j)
unfolding generated_trace
generated_lawful seed n j some few room =
    let is = is_generated seed n j some few room in
    let t = generated_requests seed n j in
    lawful_at_end t (is_empty t.rows) refl (false_from_ne_true (is_empty t.tenants) (λ none. omega (arith, is.tenants, eqb-true (length t.tenants) 0 none))) is.kept

in_order : (seed n j : ℕ) → 1 ≤ n → n ≤ TEXT_TENANTS → j ≤ MOST_ROWS → HasKindsInOrder (generated_trace seed n j)
unfolding generated_trace
in_order seed n j some few room =
    let t = generated_requests seed n j in
    in_order_at_end t.tenants t.weights t.kinds t.rows (is_generated seed n j some few room).appear

pub generated_read : (seed n j : ℕ) → 1 ≤ n → n ≤ TEXT_TENANTS → j ≤ MOST_ROWS → trace_of (trace_text (generated_trace seed n j)) ≡ Ok (generated_trace seed n j)
generated_read seed n j some few room = reads_back (generated_trace seed n j) (generated_lawful seed n j some few room) (in_order seed n j some few room)

same_rows : (t : Trace) → (with_some_kind t).rows ≡ t.rows
same_rows t = go (is_empty t.rows)
  where
    go : (none : Bool) → (if none then record t { kinds = codes "-" ∷ [] } else t).rows ≡ t.rows
    go true = refl
    go false = refl

reports-few : (cost : ℕ) → cost < 100000 → reports_below 10000 cost ≤ 9
unfolding reports_below
reports-few cost small = omega arith

all_reports-few : (rows : List TraceRow) → All (λ row. row.cost < 100000) rows → sum_over (λ row. reports_below 10000 row.cost) rows ≤ 9 * length rows
all_reports-few [] costs = omega arith
all_reports-few (row ∷ rows) costs = omega (arith, reports-few row.cost (costs 0 row (omega arith)), all_reports-few rows (λ k d b. costs (suc k) d (omega arith)))

pub generated_short : (seed n j : ℕ) → 1 ≤ n → n ≤ TEXT_TENANTS → j ≤ MOST_ROWS → needed_entries (generated_trace seed n j).rows default_run_options.refresh ≤ MOST_ENTRIES
unfolding generated_trace
generated_short seed n j some few room =
    let is = is_generated seed n j some few room in
    let t = generated_requests seed n j in
    rw (same_rows t) (omega (arith, is.rows, all_reports-few t.rows is.costs))

-- ---- one turn of the loop

-- a word that is drawn next, and the state after it
drawn : (seed k word : ℕ) (old new : Lcg) → old ≡ after_draws seed k → (word, new) ≡ pcg32 old → (word ≡ draw seed k) × (new ≡ after_draws seed (k + 1))
unfolding draw after_draws
drawn seed k word old new same gives =
    (ap (λ p. p.0) gives ∙ ap (λ g. (pcg32 g).0) same, rw (add-one) (ap (λ p. p.1) gives ∙ ap (λ g. (pcg32 g).1) same))

-- the three numbers of request j
pub three_drawn : (seed j a b c : ℕ) (g0 g1 g2 g3 : Lcg) → g0 ≡ after_draws seed (3 * j) → (a, g1) ≡ pcg32 g0 → (b, g2) ≡ pcg32 g1 → (c, g3) ≡ pcg32 g2
    → (a ≡ draw seed (3 * j)) × (b ≡ draw seed (3 * j + 1)) × (c ≡ draw seed (3 * j + 2)) × (g3 ≡ after_draws seed (3 * (j + 1)))
three_drawn seed j a b c g0 g1 g2 g3 is first second third =
    let one = drawn seed (3 * j) a g0 g1 is first in
    let two = drawn seed (3 * j + 1) b g1 g2 one.1 second in
    let three = drawn seed (3 * j + 2) c g2 g3 (subst (λ k. g2 ≡ after_draws seed k) (omega arith) two.1) third in
    (one.0, two.0, three.0, subst (λ k. g3 ≡ after_draws seed k) (omega arith) three.1)

-- the row that is added, part by part
pub row_added : (t : Trace) (many j a b c moment kind declared cost : ℕ) (kinds : List (List ℕ)) (rows : List TraceRow) → many ≡ length t.tenants → moment ≡ last_row_moment t.rows
    → kind ≡ number_by_appearance t.kinds (generated_kind (b % many)) → kinds ≡ with_appearance t.kinds (generated_kind (b % many))
    → declared ≡ generated_declared (b % many) → cost ≡ generated_cost (b % many) c
    → rows ≡ t.rows ++ record { moment = moment + a % 200; submitter = j % 4; tenant = b % many; kind = kind; declared = declared; cost = cost } ∷ []
    → record t { kinds = kinds; rows = rows } ≡ with_generated (length t.tenants) j t a b c
row_added t many j a b c moment kind declared cost kinds rows same_many same_moment same_kind same_kinds same_declared same_cost added =
    rw (added, same_kinds, same_kind, same_declared, same_cost, same_moment, same_many) refl

pub request_more : (seed n j : ℕ) (t u : Trace) (a b c : ℕ) → t ≡ generated_requests seed n j → length t.tenants ≡ n
    → a ≡ draw seed (3 * j) → b ≡ draw seed (3 * j + 1) → c ≡ draw seed (3 * j + 2) → u ≡ with_generated (length t.tenants) j t a b c
    → u ≡ generated_requests seed n (j + 1)
unfolding generated_requests
request_more seed n j t u a b c same many is_a is_b is_c more =
    subst (λ k. u ≡ generated_requests seed n k) (sym (add-one j)) (more ∙ rw (many, same, is_a, is_b, is_c) refl)
