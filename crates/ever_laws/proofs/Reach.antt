-- The cap is not far above the ground of g, even with M for each running request of f.
use Rattle.std.proofs.Common.{ℕ, ◌+◌, ◌-◌, ◌*◌, ◌/◌, ◌≤◌, ◌≡◌, ◌≢◌, ◌⊎◌, refl, sym, arith, inl, inr, [], ◌∷◌, Option, Some, None, ℤ, pos, ◌≤ℤ◌}
use Rattle.std.specs.Prelude.{◌-ℤ◌, ◌+ℤ◌}
use Rattle.std.proofs.lemmas.Int.{ints}
use Rattle.std.proofs.lemmas.Nat.{mul-le}
use Rattle.std.proofs.lemmas.Bool.{cases_lt}
use Rattle.fq_model.specs.Ever.{greatest_part, ever_bound}
use Rattle.fq_model.specs.declared.config.Config.{Config}
use Rattle.fq_model.specs.declared.event.Entry.{Entry}
use Rattle.fq_model.specs.History.{History, head}
use Rattle.fq_model.specs.Lead.{may_fall, start_now}
use Rattle.fq_model.specs.Pace.{pace}
use Rattle.gap_laws.proofs.WorstCase.{nothing}
use Rattle.ever_laws.specs.Words.{IsPacedWithin, time_now, running_length, ground}
use Rattle.ever_laws.proofs.Caps.{AreNear, are_near}
use Rattle.ever_laws.proofs.Grounds.{runs_within, ground_low, ground_rises}
use Rattle.ever_laws.proofs.Near.{cap_nil, cap_near, least_below, away_low, finish_near}
use Rattle.ever_laws.proofs.Running.{counted, count_low, none_run}
use Rattle.ever_laws.proofs.Takes.{Taken, change, cap_change, within_older}

-- with M for each request of f that runs, less a step
abbrev pub IsInReach : Config → History → ℕ → ℕ → ℕ → Type 0
IsInReach C P f g M =
    pos ((pace C P).reached + running_length M C P f) ≤ℤ (ground M C P g +ℤ (ever_bound C M +ℤ pos (running_length 1 C P f)))

-- ---- where nothing is taken of f

-- (a and b requests of f run, before and after)
fewer : (a b M : ℕ) → b ≤ a → 1 ≤ M → b * M + a ≤ a * M + b
fewer a b M less some = by_gap (a - b) (omega (arith, less))
  where
    by_gap : (d : ℕ) → a ≡ b + d → b * M + a ≤ a * M + b
    by_gap d is = let k : d * 1 ≤ d * M = mul-le d 1 d M (omega arith) some in rw is (omega (arith, k))

still : (s s2 k k2 a b : ℕ) (z ground ground2 : ℤ) → pos (s + k) ≤ℤ (ground +ℤ (z +ℤ pos a)) → s2 ≡ s → k2 + a ≤ k + b → ground ≤ℤ ground2 → pos (s2 + k2) ≤ℤ (ground2 +ℤ (z +ℤ pos b))
still s s2 k k2 a b z ground ground2 before same less rises = omega (arith, ints, before, same, less, rises)

-- (the cap is raised to the finish f of another one's request, while l of g and k of f run)
other_raised : (s2 f k k2 l b n M part : ℕ) (ground : ℤ) → s2 ≡ f → pos f ≤ℤ (ground +ℤ pos (l + M + part)) → k2 ≤ k → k + l + M ≤ n * M → 1 ≤ M → pos (s2 + k2) ≤ℤ (ground +ℤ ((pos ((n + n / 2 + 1) * M + part) -ℤ pos 1) +ℤ pos b))
other_raised s2 f k k2 l b n M part ground is near less free some = omega (arith, ints, is, near, less, free, some)

module _ (C : Config) (P : History) (e : Entry) (f g M : ℕ) (ne : f ≢ g) (is : IsPacedWithin C (e ∷ P) M) (before : IsInReach C P f g M) (runs : (N : ℕ) → running_length N C (e ∷ P) f ≤ running_length N C P f) where
  not_raised : (pace C (e ∷ P)).reached ≡ (pace C P).reached → IsInReach C (e ∷ P) f g M
  not_raised same = still (pace C P).reached (pace C (e ∷ P)).reached (running_length M C P f) (running_length M C (e ∷ P) f) (running_length 1 C P f) (running_length 1 C (e ∷ P) f) (ever_bound C M) _ _ before same
      (omega (arith, fewer (running_length 1 C P f) (running_length 1 C (e ∷ P) f) M (runs 1) is.lengths.some, counted C P f M, counted C (e ∷ P) f M)) (ground_rises C P e g M is)

  untaken : IsInReach C (e ∷ P) f g M
  untaken = elim (cap_change C P e M is) [
    | inl same ↦ not_raised same
    | inr x ↦ elim (cases_lt (pace C P).reached (start_now C P x.0 + x.1.len)) [
      | inl more ↦ other_raised (pace C (e ∷ P)).reached (start_now C P x.0 + x.1.len) (running_length M C P f) (running_length M C (e ∷ P) f) (running_length M C P g) (running_length 1 C (e ∷ P) f) C.workers M (greatest_part C M) _
          (omega (arith, x.1.cap_is, more)) (finish_near C P e g x.0 M is x.1) (runs M) (x.1.free f g M ne) is.lengths.some
      | inr less ↦ not_raised (omega (arith, x.1.cap_is, less))
    ]
  ]

-- ---- where a request of f is taken

-- (the cap is raised to its finish, or g does not wait)
own_raised : (s2 k k2 l b a n M part : ℕ) (ground : ℤ) → pos s2 ≤ℤ (ground +ℤ pos (l + M + part)) → k2 ≡ k + M → b ≡ a + 1 → k + l + M ≤ n * M → pos (s2 + k2) ≤ℤ (ground +ℤ ((pos ((n + n / 2 + 1) * M + part) -ℤ pos 1) +ℤ pos b))
own_raised s2 k k2 l b a n M part ground near more one free = omega (arith, ints, near, more, one, free)

-- one of two numbers of requests is low: with a + 1 of f and h of g that run at most
one_is_low : (a h x y n : ℕ) → a + h + 1 ≤ n → x + y + 1 ≤ n → (h + x + 2 + (a + 1) ≤ n + n / 2 + 1) ⊎ (y + 1 + (a + 1) ≤ n + n / 2 + 1)
one_is_low a h x y n now then = elim (cases_lt (n + n / 2 + 1) (h + x + 2 + (a + 1))) [
  | inl high ↦ inr (omega (arith, high, now, then))
  | inr low ↦ inl (omega (arith, low))
]

-- (starts of f and g, and their possible falls, before; x and y requests below the cap)
by_f : (s xf df xg dg a h x l k2 n M part : ℕ) (ground : ℤ) → pos s ≤ℤ ((pos xf -ℤ pos df) +ℤ pos ((x + 1) * M + part)) → a ≤ df → xf + 1 ≤ xg + M → dg ≤ l → l ≡ h * M → k2 ≡ (a + 1) * M → h + x + 2 + (a + 1) ≤ n + n / 2 + 1 → (pos xg -ℤ pos dg) ≤ℤ ground → pos (s + k2) ≤ℤ (ground +ℤ ((pos ((n + n / 2 + 1) * M + part) -ℤ pos 1) +ℤ pos (a + 1)))
by_f s xf df xg dg a h x l k2 n M part ground near some ahead falls runs more low least =
    let k : (h + x + 2 + (a + 1)) * M ≤ (n + n / 2 + 1) * M = mul-le (h + x + 2 + (a + 1)) M (n + n / 2 + 1) M low (omega arith) in
    omega (arith, ints, near, some, ahead, falls, runs, more, k, least)

by_g : (s xg dg a y k2 n M part : ℕ) (ground : ℤ) → pos s ≤ℤ ((pos xg -ℤ pos dg) +ℤ pos ((y + 1) * M + part)) → k2 ≡ (a + 1) * M → y + 1 + (a + 1) ≤ n + n / 2 + 1 → (pos xg -ℤ pos dg) ≤ℤ ground → pos (s + k2) ≤ℤ (ground +ℤ ((pos ((n + n / 2 + 1) * M + part) -ℤ pos 1) +ℤ pos (a + 1)))
by_g s xg dg a y k2 n M part ground near more low least =
    let k : (y + 1 + (a + 1)) * M ≤ (n + n / 2 + 1) * M = mul-le (y + 1 + (a + 1)) M (n + n / 2 + 1) M low (omega arith) in
    omega (arith, ints, near, more, k, least)

module _ (C : Config) (P : History) (e : Entry) (f g M : ℕ) (ne : f ≢ g) (is : IsPacedWithin C (e ∷ P) M) (before : IsInReach C P f g M) (n : Taken C P (e ∷ P) f M) where
  -- the cap is near the ground of g by the running length of g
  near_enough : pos (pace C (e ∷ P)).reached ≤ℤ (ground M C (e ∷ P) g +ℤ pos (running_length M C P g + M + greatest_part C M)) → IsInReach C (e ∷ P) f g M
  near_enough near = own_raised (pace C (e ∷ P)).reached (running_length M C P f) (running_length M C (e ∷ P) f) (running_length M C P g) (running_length 1 C (e ∷ P) f) (running_length 1 C P f) C.workers M (greatest_part C M) _ near (n.runs_is M) (n.runs_is 1) (n.free f g M ne)

  -- g waits, and the cap stays
  among : (r : ℕ) → head P g ≡ Some r → (pace C (e ∷ P)).reached ≡ (pace C P).reached → IsInReach C (e ∷ P) f g M
  among r some same =
      let older : IsPacedWithin C P M = within_older C P e M is in
      let near : AreNear C P f g M = are_near C P f g M ne older in
      let near_f : pos (pace C P).reached ≤ℤ ((pos (start_now C P f) -ℤ pos (may_fall nothing C P f)) +ℤ pos ((near.of_f + 1) * M + greatest_part C M)) = rw n.some at near.near_f in
      let near_g : pos (pace C P).reached ≤ℤ ((pos (start_now C P g) -ℤ pos (may_fall nothing C P g)) +ℤ pos ((near.of_g + 1) * M + greatest_part C M)) = rw some at near.near_g in
      let more : running_length M C (e ∷ P) f ≡ (running_length 1 C P f + 1) * M = rw (n.runs_is 1) at (counted C (e ∷ P) f M) in
      let low : (pos (start_now C P g) -ℤ pos (may_fall nothing C P g)) ≤ℤ ground M C (e ∷ P) g = least_below C P e g M is in
      rw (same, n.runs_is 1) (elim (one_is_low (running_length 1 C P f) (running_length 1 C P g) near.of_f near.of_g C.workers (omega (arith, n.free f g 1 ne)) near.few) [
        | inl few ↦ by_f (pace C P).reached (start_now C P f) (may_fall nothing C P f) (start_now C P g) (may_fall nothing C P g) (running_length 1 C P f) (running_length 1 C P g) near.of_f (running_length M C P g) (running_length M C (e ∷ P) f) C.workers M (greatest_part C M) _
            near_f (count_low C P f is.limits is.legal.0) (n.start_low g r (λ h. ne (sym h)) some) (omega (arith, (runs_within C P g M older).parts)) (counted C P g M) more few low
        | inr few ↦ by_g (pace C P).reached (start_now C P g) (may_fall nothing C P g) (running_length 1 C P f) near.of_g (running_length M C (e ∷ P) f) C.workers M (greatest_part C M) _ near_g more few low
      ])

  not_raised_by_f : (pace C (e ∷ P)).reached ≡ (pace C P).reached → IsInReach C (e ∷ P) f g M
  not_raised_by_f same = by_head (head P g) refl
    where
      away : (s v part M l : ℕ) (ground : ℤ) → s ≤ v + part + M → (pos v -ℤ pos l) ≤ℤ ground → pos s ≤ℤ (ground +ℤ pos (l + M + part))
      away s v part M l ground near low = omega (arith, ints, near, low)

      by_head : (o : Option ℕ) → head P g ≡ o → IsInReach C (e ∷ P) f g M
      by_head None none = near_enough (away (pace C (e ∷ P)).reached (time_now C (e ∷ P)) (greatest_part C M) M (running_length M C P g) _ (cap_near C (e ∷ P) M is) (away_low C P e g M is none))
      by_head (Some r) some = among r some same

  own_taken : IsInReach C (e ∷ P) f g M
  own_taken = elim (cases_lt (pace C P).reached (start_now C P f + n.len)) [
    | inl more ↦ near_enough (let raised : (pace C (e ∷ P)).reached ≡ start_now C P f + n.len = omega (arith, n.cap_is, more) in rw raised (finish_near C P e g f M is n))
    | inr less ↦ not_raised_by_f (omega (arith, n.cap_is, less))
  ]

-- ---- along a history

at_first : (s k b x d n M part : ℕ) (ground : ℤ) → s ≡ 0 → k ≡ 0 → d ≡ 0 → 1 ≤ M → (pos x -ℤ pos d) ≤ℤ ground → pos (s + k) ≤ℤ (ground +ℤ ((pos ((n + n / 2 + 1) * M + part) -ℤ pos 1) +ℤ pos b))
at_first s k b x d n M part ground none runs falls some low = omega (arith, ints, none, runs, falls, some, low)

pub in_reach : (C : Config) (H : History) (f g M : ℕ) → f ≢ g → IsPacedWithin C H M → IsInReach C H f g M
in_reach C [] f g M ne is = at_first (pace C []).reached (running_length M C [] f) (running_length 1 C [] f) (start_now C [] g) (may_fall nothing C [] g) C.workers M (greatest_part C M) _ (cap_nil C) (none_run C f M) (let within = runs_within C [] g M is in omega (arith, within.parts, none_run C g M)) is.lengths.some (ground_low (head [] g) _ _)
in_reach C (e ∷ P) f g M ne is =
    let before : IsInReach C P f g M = in_reach C P f g M ne (within_older C P e M is) in
    elim (change C P e f M is) [
      | inl s ↦ untaken C P e f g M ne is before s.runs
      | inr x ↦ elim x [
        | inl c ↦ untaken C P e f g M ne is before (λ N. omega (arith, c.runs_is N))
        | inr n ↦ own_taken C P e f g M ne is before n
      ]
    ]
