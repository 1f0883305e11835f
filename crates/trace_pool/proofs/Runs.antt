-- The acts of a worker, as its runs make them.
use Rattle.std.proofs.Common.{◌≡◌, ◌<◌, ◌≤◌, ◌+◌, ◌||◌, ◌⊎◌, ◌==◌, ℕ, Bool, true, false, cond, List, [], ◌∷◌, length, refl, sym, ◌∙◌, arith, inl, inr}
use Rattle.std.proofs.lemmas.Bool.{cases_Bool, false≢true, or_left, or_right, or_cases}
use Rattle.fq_model.specs.declared.config.Config.{Config}
use Rattle.fq_model.specs.declared.event.Act.{Act}
use Rattle.fq_model.specs.declared.event.Act.TheVariants.{Take, Report, Done}
use Rattle.fq_model.specs.declared.event.Entry.{Entry}
use Rattle.fq_model.specs.History.{history_of, is_take_of, is_done_of}
use Rattle.fq_model.specs.Rules.{needed_room}
use Rattle.history_lock.specs.Histories.{IsPrefix}
use Rattle.worker_gate.specs.Running.{Use, JobRun, with_uses, with_runs, AreKeptWhereRoom, LackedRoom}
use Rattle.trace_pool.proofs.Sums.{act_sum, any_act, take_weight, report_weight}

-- ---- acts that a worker doesn't do

-- the weight of each act of worker i is 0
pub record MakesNothing (f : Act → ℕ) (i : ℕ) : Type 0 where
  pub takes : (r estimate : ℕ) → f (Take i r estimate) ≡ 0
  pub reports : (r used : ℕ) → f (Report i r used) ≡ 0
  pub dones : (r cost : ℕ) → f (Done i r cost) ≡ 0

uses_nothing : (f : Act → ℕ) (i r : ℕ) (uses : List Use) (older : List Act) → MakesNothing f i → act_sum f (with_uses i r uses older) ≡ act_sum f older
uses_nothing f i r [] older h = refl
uses_nothing f i r (u ∷ uses) older h = elim (cases_Bool u.is_kept) [
  | inl e ↦ rw e (omega (arith, h.reports r u.used, uses_nothing f i r uses older h))
  | inr e ↦ rw e (uses_nothing f i r uses older h)
]

pub runs_nothing : (f : Act → ℕ) (i : ℕ) (runs : List JobRun) → MakesNothing f i → act_sum f (with_runs i runs []) ≡ 0
runs_nothing f i [] h = refl
runs_nothing f i (run ∷ runs) h =
    omega (arith, h.dones run.request run.cost, uses_nothing f i run.request run.uses (Take i run.request run.estimate ∷ with_runs i runs []) h, h.takes run.request run.estimate, runs_nothing f i runs h)

-- 1 where the test is true
abbrev pub tally : (Act → Bool) → Act → ℕ
tally test a = cond (test a) 1 0

pub tally_none : (test : Act → Bool) (list : List Act) → act_sum (tally test) list ≡ 0 → any_act test list ≡ false
tally_none test [] h = refl
tally_none test (a ∷ more) h = elim (cases_Bool (test a)) [
  | inl e ↦ (let k : cond true 1 0 + act_sum (tally test) more ≡ 0 = rw e at h in absurd (omega (arith, k)))
  | inr e ↦ rw e (tally_none test more (omega (arith, h)))
]

-- ---- a taken request is done

uses_has : (test : Act → Bool) (i r : ℕ) (uses : List Use) (older : List Act) → any_act test older ≡ true → any_act test (with_uses i r uses older) ≡ true
uses_has test i r [] older h = h
uses_has test i r (u ∷ uses) older h = elim (cases_Bool u.is_kept) [
  | inl e ↦ rw e (or_right (test (Report i r u.used)) (any_act test (with_uses i r uses older)) (uses_has test i r uses older h))
  | inr e ↦ rw e (uses_has test i r uses older h)
]

uses_take : (q i r : ℕ) (uses : List Use) (older : List Act) → any_act (is_take_of q) (with_uses i r uses older) ≡ any_act (is_take_of q) older
uses_take q i r [] older = refl
uses_take q i r (u ∷ uses) older = elim (cases_Bool u.is_kept) [
  | inl e ↦ rw e (uses_take q i r uses older)
  | inr e ↦ rw e (uses_take q i r uses older)
]

pub taken_done : (q i : ℕ) (runs : List JobRun) → any_act (is_take_of q) (with_runs i runs []) ≡ true → any_act (is_done_of q) (with_runs i runs []) ≡ true
taken_done q i [] h = absurd (false≢true h)
taken_done q i (run ∷ runs) h =
    let older : List Act = with_runs i runs [] in
    let k : ((run.request == q) || any_act (is_take_of q) older) ≡ true = sym (uses_take q i run.request run.uses (Take i run.request run.estimate ∷ older)) ∙ h in
    elim (or_cases (run.request == q) (any_act (is_take_of q) older) k) [
      | inl now ↦ or_left (run.request == q) (any_act (is_done_of q) (with_uses i run.request run.uses (Take i run.request run.estimate ∷ older))) now
      | inr was ↦ or_right (run.request == q) (any_act (is_done_of q) (with_uses i run.request run.uses (Take i run.request run.estimate ∷ older))) (uses_has (is_done_of q) i run.request run.uses (Take i run.request run.estimate ∷ older) (taken_done q i runs was))
    ]

-- ---- uses that are kept

abbrev pub AreKept : List Use → Type 0
AreKept [] = Unit {0}
AreKept (u ∷ uses) = (u.is_kept ≡ true) × AreKept uses

abbrev pub AllKept : List JobRun → Type 0
AllKept [] = Unit {0}
AllKept (run ∷ runs) = AreKept run.uses × AllKept runs

abbrev pub AllWhereRoom : Config → ℕ → ℕ → List Entry → List JobRun → Type 0
AllWhereRoom C number i seen [] = Unit {0}
AllWhereRoom C number i seen (run ∷ runs) =
    AreKeptWhereRoom C number i run.request seen (Take i run.request run.estimate ∷ with_runs i runs []) run.uses × AllWhereRoom C number i seen runs

abbrev kept : List Use → ℕ
kept [] = 0
kept (u ∷ uses) = cond u.is_kept 1 0 + kept uses

kept_low : (uses : List Use) → kept uses ≤ length uses
kept_low [] = omega arith
kept_low (u ∷ uses) = elim (cases_Bool u.is_kept) [
  | inl e ↦ rw e (omega (arith, kept_low uses))
  | inr e ↦ rw e (omega (arith, kept_low uses))
]

uses_reports : (i r : ℕ) (uses : List Use) (older : List Act) → act_sum report_weight (with_uses i r uses older) ≡ kept uses + act_sum report_weight older
uses_reports i r [] older = omega arith
uses_reports i r (u ∷ uses) older = elim (cases_Bool u.is_kept) [
  | inl e ↦ rw e (omega (arith, uses_reports i r uses older))
  | inr e ↦ rw e (omega (arith, uses_reports i r uses older))
]

uses_takes : (h : ℕ → ℕ) (i r : ℕ) (uses : List Use) (older : List Act) → act_sum (take_weight h) (with_uses i r uses older) ≡ act_sum (take_weight h) older
uses_takes h i r [] older = refl
uses_takes h i r (u ∷ uses) older = elim (cases_Bool u.is_kept) [
  | inl e ↦ rw e (omega (arith, uses_takes h i r uses older))
  | inr e ↦ rw e (uses_takes h i r uses older)
]

-- at some prefix of the seen history there was no room for a Report
abbrev pub WasFull : Config → List Entry → Type 0
WasFull C seen = (P : List Entry) × IsPrefix P seen × (C.entries < needed_room (history_of P) 2)

was_full : (C : Config) (number : ℕ) (seen : List Entry) (made : List Act) → LackedRoom C number seen made → WasFull C seen
was_full C number seen made (P, begins, at, room) = (P, begins, room)

-- the uses are kept, or there was no room, and fewer are kept than there are
abbrev KeptOrFull : Config → List Entry → List Use → Type 0
KeptOrFull C seen uses = AreKept uses ⊎ (WasFull C seen × (kept uses < length uses))

kept_or_full : (C : Config) (number i r : ℕ) (seen : List Entry) (older : List Act) (uses : List Use) → AreKeptWhereRoom C number i r seen older uses → KeptOrFull C seen uses
kept_or_full C number i r seen older [] h = inl tt
kept_or_full C number i r seen older (u ∷ uses) h = elim (cases_Bool u.is_kept) [
  | inl e ↦ elim (kept_or_full C number i r seen older uses h.1) [
    | inl k ↦ inl (e, k)
    | inr k ↦ (let less : kept (u ∷ uses) < length (u ∷ uses) = (let l : kept uses < length uses = k.1 in rw e (omega (arith, l))) in inr (k.0, less))
  ]
  | inr e ↦ (let less : kept (u ∷ uses) < length (u ∷ uses) = rw e (omega (arith, kept_low uses)) in inr (was_full C number seen (with_uses i r uses older) (h.0 e), less))
]

-- each run names no more uses than its request weighs
abbrev pub FewUses : (ℕ → ℕ) → List JobRun → Type 0
FewUses h [] = Unit {0}
FewUses h (run ∷ runs) = (length run.uses ≤ h run.request) × FewUses h runs

abbrev pub runs_reports : ℕ → List JobRun → ℕ
runs_reports i runs = act_sum report_weight (with_runs i runs [])

abbrev pub runs_takes : (ℕ → ℕ) → ℕ → List JobRun → ℕ
runs_takes h i runs = act_sum (take_weight h) (with_runs i runs [])

reports_at : (i : ℕ) (run : JobRun) (runs : List JobRun) → runs_reports i (run ∷ runs) ≡ kept run.uses + runs_reports i runs
reports_at i run runs = omega (arith, uses_reports i run.request run.uses (Take i run.request run.estimate ∷ with_runs i runs []))

takes_at : (h : ℕ → ℕ) (i : ℕ) (run : JobRun) (runs : List JobRun) → runs_takes h i (run ∷ runs) ≡ h run.request + runs_takes h i runs
takes_at h i run runs = omega (arith, uses_takes h i run.request run.uses (Take i run.request run.estimate ∷ with_runs i runs []))

-- a worker's Reports are no more than the weight of the requests that it takes
pub reports_low : (h : ℕ → ℕ) (i : ℕ) (runs : List JobRun) → FewUses h runs → runs_reports i runs ≤ runs_takes h i runs
reports_low h i [] few = omega arith
reports_low h i (run ∷ runs) few = omega (arith, reports_at i run runs, takes_at h i run runs, kept_low run.uses, few.0, reports_low h i runs few.1)

-- and where a use is not kept, they are fewer
pub all_kept_or_full : (C : Config) (number : ℕ) (seen : List Entry) (h : ℕ → ℕ) (i : ℕ) (runs : List JobRun) → FewUses h runs → AllWhereRoom C number i seen runs → AllKept runs ⊎ (WasFull C seen × (runs_reports i runs < runs_takes h i runs))
all_kept_or_full C number seen h i [] few k = inl tt
all_kept_or_full C number seen h i (run ∷ runs) few k = elim (kept_or_full C number i run.request seen (Take i run.request run.estimate ∷ with_runs i runs []) run.uses k.0) [
  | inl all ↦ elim (all_kept_or_full C number seen h i runs few.1 k.1) [
    | inl more ↦ inl (all, more)
    | inr lacks ↦ (let less : runs_reports i (run ∷ runs) < runs_takes h i (run ∷ runs) = omega (arith, lacks.1, reports_at i run runs, takes_at h i run runs, kept_low run.uses, few.0) in inr (lacks.0, less))
  ]
  | inr lacks ↦ (let less : runs_reports i (run ∷ runs) < runs_takes h i (run ∷ runs) = omega (arith, lacks.1, reports_at i run runs, takes_at h i run runs, few.0, reports_low h i runs few.1) in inr (lacks.0, less))
]
