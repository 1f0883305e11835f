-- The ways from the leaves to the root.
use Rattle.std.proofs.Common.{◌≡◌, ◌≢◌, ℕ, zero, suc, ◌+◌, ◌-◌, ◌*◌, ◌/◌, ◌<◌, ◌≤◌, arith, refl, sym, ap, ◌∙◌, inl, inr, ◌⊎◌}
use Rattle.std.proofs.lemmas.Bool.{cases_eq, cases_lt}
use Rattle.winner_tree.specs.Winners.{above, Reaches}

-- the last step of a way
pub above_last : (levels item : ℕ) → above (suc levels) item ≡ above levels item / 2
above_last zero item = refl
above_last (suc levels) item = above_last levels (item / 2)

pub above_le : (levels item : ℕ) → above levels item ≤ item
above_le zero item = omega arith
above_le (suc levels) item = omega (arith, above_le levels (item / 2))

pub above_none : (levels : ℕ) → above levels 0 ≡ 0
above_none levels = omega (arith, above_le levels 0)

-- a way stands still only where it takes no step
pub above_split : (levels more item : ℕ) → above (levels + more) item ≡ above more (above levels item)
above_split zero more item = let e : 0 + more ≡ more = omega arith in ap (λ n. above n item) e
above_split (suc levels) more item =
    let e : suc levels + more ≡ suc (levels + more) = omega arith in
    ap (λ n. above n item) e ∙ above_split levels more (item / 2)

pub reaches_self : (item : ℕ) → Reaches item item
reaches_self item = (0, refl)

pub reaches_le : (item higher : ℕ) → Reaches item higher → higher ≤ item
reaches_le item higher r = omega (arith, above_le r.0 item, r.1)

-- a step more
pub reaches_up : (item higher : ℕ) → Reaches item higher → Reaches item (higher / 2)
reaches_up item higher r = (suc r.0, above_last r.0 item ∙ ap (λ n. n / 2) r.1)

pub reaches_half : (item higher child : ℕ) → child / 2 ≡ higher → Reaches item child → Reaches item higher
reaches_half item higher child e r = (suc r.0, above_last r.0 item ∙ ap (λ n. n / 2) r.1 ∙ e)

pub reaches_goes_on : (item higher top : ℕ) → Reaches item higher → Reaches higher top → Reaches item top
reaches_goes_on item higher top r s = (r.0 + s.0, above_split r.0 s.0 item ∙ ap (above s.0) r.1 ∙ s.1)

-- the first step of a way that takes one
pub reaches_rest : (item higher : ℕ) → item ≢ higher → Reaches item higher → Reaches (item / 2) higher
reaches_rest item higher ne (zero, e) = absurd (ne e)
reaches_rest item higher ne (suc levels, e) = (levels, e)

-- an item that reaches a higher item from below comes by one of the two items below that item
pub reaches_by : (item higher : ℕ) → higher < item → Reaches item higher → Reaches item (2 * higher) ⊎ Reaches item (2 * higher + 1)
reaches_by item higher lt (zero, e) = absurd (omega arith)
reaches_by item higher lt (suc levels, e) =
    let half : above levels item / 2 ≡ higher = sym (above_last levels item) ∙ e in
    elim (cases_eq (above levels item) (2 * higher)) [
      | inl even ↦ inl (levels, even)
      | inr odd ↦ inr (levels, omega arith)
    ]

-- and by one of them alone
pub reaches_one : (item higher : ℕ) → 1 ≤ higher → Reaches item (2 * higher) → Reaches item (2 * higher + 1) → ⊥
reaches_one item higher low l r = elim (cases_lt l.0 r.0) [
  | inl lt ↦
      let e : l.0 + (r.0 - l.0) ≡ r.0 = omega arith in
      let same : above (r.0 - l.0) (2 * higher) ≡ 2 * higher + 1 = sym (ap (above (r.0 - l.0)) l.1) ∙ sym (above_split l.0 (r.0 - l.0) item) ∙ ap (λ n. above n item) e ∙ r.1 in
      omega (arith, above_le (r.0 - l.0) (2 * higher))
  | inr le ↦
      let e : r.0 + (l.0 - r.0) ≡ l.0 = omega arith in
      let same : above (l.0 - r.0) (2 * higher + 1) ≡ 2 * higher = sym (ap (above (l.0 - r.0)) r.1) ∙ sym (above_split r.0 (l.0 - r.0) item) ∙ ap (λ n. above n item) e ∙ l.1 in
      not_below higher (l.0 - r.0) low same
]
  where
    not_below : (higher levels : ℕ) → 1 ≤ higher → above levels (2 * higher + 1) ≡ 2 * higher → ⊥
    not_below higher zero low e = omega arith
    not_below higher (suc levels) low e = omega (arith, above_le levels ((2 * higher + 1) / 2))

-- every item above 0 reaches the root
pub reaches_root : (fuel item : ℕ) → item ≤ fuel → 1 ≤ item → Reaches item 1
reaches_root zero item h low = absurd (omega arith)
reaches_root (suc fuel) item h low = elim (cases_eq item 1) [
  | inl e ↦ (0, e)
  | inr ne ↦ let r : Reaches (item / 2) 1 = reaches_root fuel (item / 2) (omega arith) (omega arith) in (suc r.0, r.1)
]

-- of two items of the lower half none stands above the other
pub reaches_leaf : (width leaf other : ℕ) → leaf < width → Reaches (width + leaf) (width + other) → leaf ≡ other
reaches_leaf width leaf other lt (zero, e) = omega arith
reaches_leaf width leaf other lt (suc levels, e) = absurd (omega (arith, above_le levels ((width + leaf) / 2)))

pub reaches_cases : (fuel item higher : ℕ) → item ≤ fuel → 1 ≤ higher → Reaches item higher ⊎ (Reaches item higher → ⊥)
reaches_cases zero item higher h low = inr (λ r. omega (arith, reaches_le item higher r))
reaches_cases (suc fuel) item higher h low = elim (cases_eq item higher) [
  | inl e ↦ inl (0, e)
  | inr ne ↦ elim (cases_eq item 0) [
    | inl z ↦ inr (λ r. omega (arith, reaches_le item higher r))
    | inr nz ↦ elim (reaches_cases fuel (item / 2) higher (omega arith) low) [
      | inl r ↦ inl (suc r.0, r.1)
      | inr never ↦ inr (λ r. never (reaches_rest item higher ne r))
    ]
  ]
]
