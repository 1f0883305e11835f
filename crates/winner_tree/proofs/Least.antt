-- The first of the leaves under an item.
use Rattle.std.proofs.Common.{◌≡◌, ◌≢◌, ℕ, zero, suc, ◌+◌, ◌*◌, ◌/◌, ◌<◌, ◌≤◌, List, Option, None, Some, length, get_or, is_some, cond, arith, refl, sym, ap, ◌∙◌, subst, inl, inr, ◌⊎◌}
use Rattle.std.proofs.lemmas.Bool.{cases_eq, cases_lt}
use Rattle.std.proofs.lemmas.List.{get_or_past, get_or_read}
use Rattle.std.proofs.lemmas.Nat.{pow_pos}
use Rattle.std.specs.Int.{IsNextPowerOfTwo}
use Rattle.winner_tree.specs.declared.key.Key.{Key}
use Rattle.winner_tree.specs.Order.{Precedes, key_of, HasKey, HasNoKey, IsAhead, IsFirst}
use Rattle.winner_tree.specs.Winners.{name_at, Reaches, IsLesser, AreNeighbours, AreWinners, LeadsUnder, IsLeastUnder, Keeps}
use Rattle.winner_tree.proofs.Orders.{one_comes_first, not_both_come_first, order_goes_on, some_is}
use Rattle.winner_tree.proofs.Paths.{reaches_self, reaches_half, reaches_by, reaches_one, reaches_root, reaches_leaf}

pub none_or_key : (o : Option Key) → (o ≡ None) ⊎ ((key : Key) × (o ≡ Some key))
none_or_key None = inl refl
none_or_key (Some key) = inr (key, refl)

pub none_not_some : {A : Type 0} (o : Option A) (x : A) → o ≡ None → o ≡ Some x → ⊥
none_not_some o x p q = cc

-- only leaves of the map have keys
pub key_within : (map : List (Option Key)) (leaf : ℕ) (key : Key) → HasKey map leaf key → leaf < length map
key_within map leaf key h = elim (cases_lt leaf (length map)) [
  | inl lt ↦ lt
  | inr le ↦ absurd (none_not_some (key_of map leaf) key (get_or_past map leaf None le) h)
]

-- two keys of one leaf are one
pub one_key : (map : List (Option Key)) (leaf : ℕ) (x y : Key) → HasKey map leaf x → HasKey map leaf y → x ≡ y
one_key map leaf x y p q = some_is x y (sym p ∙ q)

-- a leader with one of two keys that are one
lead_from : (map : List (Option Key)) (l r t : ℕ) (other : Key) → IsAhead map l r → HasKey map r other → (z : Key) → Precedes other r z t → (a : Key) → HasKey map l a → Precedes a l z t
lead_from map l r t other ahead h z p a has =
    let e : ahead.other ≡ other = one_key map r ahead.other other ahead.other_has h in
    let f : ahead.key ≡ a = one_key map l ahead.key a ahead.has has in
    order_goes_on a other z l r t (subst (λ v. Precedes v l other r) f (subst (λ v. Precedes ahead.key l v r) e ahead.before)) p

-- the leaves under an item are those under the two items below it
module _ (map : List (Option Key)) (width item : ℕ) (low : 1 ≤ item) (inner : item < width) where
  left_up : (leaf : ℕ) → Reaches (width + leaf) (2 * item) → Reaches (width + leaf) item
  left_up leaf r = reaches_half (width + leaf) item (2 * item) (omega arith) r

  right_up : (leaf : ℕ) → Reaches (width + leaf) (2 * item + 1) → Reaches (width + leaf) item
  right_up leaf r = reaches_half (width + leaf) item (2 * item + 1) (omega arith) r

  by_two : (leaf : ℕ) → Reaches (width + leaf) item → Reaches (width + leaf) (2 * item) ⊎ Reaches (width + leaf) (2 * item + 1)
  by_two leaf r = reaches_by (width + leaf) item (omega arith) r

  -- the two below an item name leaves that differ
  pub least_apart : (left right : Option ℕ) → IsLeastUnder map width (2 * item) left → IsLeastUnder map width (2 * item + 1) right → (l : ℕ) → left ≡ Some l → right ≡ Some l → ⊥
  least_apart None right a b l p q = cc
  least_apart (Some x) None a b l p q = cc
  least_apart (Some x) (Some y) a b l p q =
      let e : x ≡ y = cc in
      reaches_one (width + x) item low a.under (subst (λ v. Reaches (width + v) (2 * item + 1)) (sym e) b.under)

  -- the lesser of the two below is the first under the item
  left_leads : (l : ℕ) → LeadsUnder map width (2 * item) l → ((r : ℕ) (other : Key) → r ≢ l → HasKey map r other → Reaches (width + r) (2 * item + 1) → (key : Key) → HasKey map l key → Precedes key l other r) → LeadsUnder map width item l
  left_leads l a h = record {
    key = a.key;
    has = a.has;
    under = left_up l a.under;
    before = λ u other ne has r. elim (by_two u r) [ inl s ↦ a.before u other ne has s | inr s ↦ h u other ne has s a.key a.has ];
  }

  right_leads : (r : ℕ) → LeadsUnder map width (2 * item + 1) r → ((l : ℕ) (other : Key) → l ≢ r → HasKey map l other → Reaches (width + l) (2 * item) → (key : Key) → HasKey map r key → Precedes key r other l) → LeadsUnder map width item r
  right_leads r b h = record {
    key = b.key;
    has = b.has;
    under = right_up r b.under;
    before = λ u other ne has s. elim (by_two u s) [ inl t ↦ h u other ne has t b.key b.has | inr t ↦ b.before u other ne has t ];
  }

  -- a leaf ahead of the leader of a side comes before each leaf of that side
  ahead_of_all : (side l r : ℕ) → LeadsUnder map width side r → IsAhead map l r → (u : ℕ) (other : Key) → HasKey map u other → Reaches (width + u) side → (key : Key) → HasKey map l key → Precedes key l other u
  ahead_of_all side l r b ahead u other has s key found = elim (cases_eq u r) [
    | inl e ↦
        let g : HasKey map r other = subst (λ v. HasKey map v other) e has in
        let k : ahead.key ≡ key = one_key map l ahead.key key ahead.has found in
        let o : ahead.other ≡ other = one_key map r ahead.other other ahead.other_has g in
        subst (λ v. Precedes key l other v) (sym e) (subst (λ v. Precedes v l other r) k (subst (λ v. Precedes ahead.key l v r) o ahead.before))
    | inr ne ↦ lead_from map l r u b.key ahead b.has other (b.before u other ne has s) key found
  ]

  pub lesser_least : (left right winner : Option ℕ) → IsLeastUnder map width (2 * item) left → IsLeastUnder map width (2 * item + 1) right → IsLesser map left right winner → IsLeastUnder map width item winner
  lesser_least None None winner a b h = subst (IsLeastUnder map width item) (sym h) (λ leaf r. elim (by_two leaf r) [ inl s ↦ a leaf s | inr s ↦ b leaf s ])
  lesser_least None (Some r) winner a b h = subst (IsLeastUnder map width item) (sym h) (right_leads r b (λ u other ne has s. absurd (none_not_some (key_of map u) other (a u s) has)))
  lesser_least (Some l) None winner a b h = subst (IsLeastUnder map width item) (sym h) (left_leads l a (λ u other ne has s. absurd (none_not_some (key_of map u) other (b u s) has)))
  lesser_least (Some l) (Some r) winner a b (inl h) = subst (IsLeastUnder map width item) (sym h.0) (left_leads l a (λ u other ne has s. ahead_of_all (2 * item + 1) l r b h.1 u other has s))
  lesser_least (Some l) (Some r) winner a b (inr h) = subst (IsLeastUnder map width item) (sym h.0) (right_leads r b (λ u other ne has s. ahead_of_all (2 * item) r l a h.1 u other has s))

-- it is the same who is named first
lesser_turned : (map : List (Option Key)) (one other winner : Option ℕ) → IsLesser map one other winner → IsLesser map other one winner
lesser_turned map None None winner h = h
lesser_turned map None (Some r) winner h = h
lesser_turned map (Some l) None winner h = h
lesser_turned map (Some l) (Some r) winner (inl h) = inr h
lesser_turned map (Some l) (Some r) winner (inr h) = inl h

-- of two neighbours one is the left item below their item, and the other the right item
sides : (child other : ℕ) → AreNeighbours child other → ((child ≡ 2 * (child / 2)) × (other ≡ 2 * (child / 2) + 1)) ⊎ ((child ≡ 2 * (child / 2) + 1) × (other ≡ 2 * (child / 2)))
sides child other beside = elim (cases_eq child (2 * (child / 2))) [
  | inl even ↦ inl (even, omega (arith, beside.0, beside.1))
  | inr odd ↦ inr (omega arith, omega (arith, beside.0, beside.1))
]

module _ (map : List (Option Key)) (width child beside : ℕ) (low : 1 ≤ child / 2) (inner : child / 2 < width) (are : AreNeighbours child beside) where
  -- two neighbours name leaves that differ
  pub neighbours_apart : (one other : Option ℕ) → IsLeastUnder map width child one → IsLeastUnder map width beside other → (l : ℕ) → one ≡ Some l → other ≡ Some l → ⊥
  neighbours_apart one other a b l p q = elim (sides child beside are) [
    | inl s ↦ least_apart map width (child / 2) low inner one other (subst (λ v. IsLeastUnder map width v one) s.0 a) (subst (λ v. IsLeastUnder map width v other) s.1 b) l p q
    | inr s ↦ least_apart map width (child / 2) low inner other one (subst (λ v. IsLeastUnder map width v other) s.1 b) (subst (λ v. IsLeastUnder map width v one) s.0 a) l q p
  ]

  -- the lesser of two neighbours is the first under the item above them
  pub lesser_above : (one other winner : Option ℕ) → IsLeastUnder map width child one → IsLeastUnder map width beside other → IsLesser map one other winner → IsLeastUnder map width (child / 2) winner
  lesser_above one other winner a b h = elim (sides child beside are) [
    | inl s ↦ lesser_least map width (child / 2) low inner one other winner (subst (λ v. IsLeastUnder map width v one) s.0 a) (subst (λ v. IsLeastUnder map width v other) s.1 b) h
    | inr s ↦ lesser_least map width (child / 2) low inner other one winner (subst (λ v. IsLeastUnder map width v other) s.1 b) (subst (λ v. IsLeastUnder map width v one) s.0 a) (lesser_turned map one other winner h)
  ]

-- an item names at most one leaf
pub least_is_unique : (map : List (Option Key)) (width item : ℕ) (a b : Option ℕ) → IsLeastUnder map width item a → IsLeastUnder map width item b → a ≡ b
least_is_unique map width item None None p q = refl
least_is_unique map width item None (Some y) p q = absurd (none_not_some (key_of map y) q.key (p y q.under) q.has)
least_is_unique map width item (Some x) None p q = absurd (none_not_some (key_of map x) p.key (q x p.under) p.has)
least_is_unique map width item (Some x) (Some y) p q = elim (cases_eq x y) [
  | inl e ↦ ap Some e
  | inr ne ↦ absurd (not_both_come_first p.key q.key x y (p.before y q.key (λ e. ne (sym e)) q.has q.under) (q.before x p.key ne p.has p.under))
]

-- the invariant of a tree, read at an item
module _ (map : List (Option Key)) (width item : ℕ) (low : 1 ≤ item) (inner : item < width) where
  lesser_of : (left right : Option ℕ) → IsLeastUnder map width (2 * item) left → IsLeastUnder map width (2 * item + 1) right → (winner : Option ℕ) × IsLesser map left right winner
  lesser_of None right a b = (right, refl)
  lesser_of (Some l) None a b = (Some l, refl)
  lesser_of (Some l) (Some r) a b = elim (one_comes_first a.key b.key l r) [
    | inl e ↦ absurd (least_apart map width item low inner (Some l) (Some r) a b l refl (ap Some (sym e)))
    | inr o ↦ elim o [
      | inl p ↦ (Some l, inl (refl, record { key = a.key; other = b.key; has = a.has; other_has = b.has; before = p }))
      | inr p ↦ (Some r, inr (refl, record { key = b.key; other = a.key; has = b.has; other_has = a.has; before = p }))
    ]
  ]

  pub least_lesser : (left right winner : Option ℕ) → IsLeastUnder map width (2 * item) left → IsLeastUnder map width (2 * item + 1) right → IsLeastUnder map width item winner → IsLesser map left right winner
  least_lesser left right winner a b h =
      let found : (w : Option ℕ) × IsLesser map left right w = lesser_of left right a b in
      let same : found.0 ≡ winner = least_is_unique map width item found.0 winner (lesser_least map width item low inner left right found.0 a b found.1) h in
      subst (IsLesser map left right) same found.1

-- the name of a leaf stands where the leaf has a key
name_of_leaf : (map : List (Option Key)) (width leaf : ℕ) (name : Option ℕ) → leaf < width → length map ≤ width → IsLeastUnder map width (width + leaf) name → name ≡ cond (is_some (key_of map leaf)) (Some leaf) None
name_of_leaf map width leaf None lt le h = let e : key_of map leaf ≡ None = h leaf (reaches_self (width + leaf)) in rw e refl
name_of_leaf map width leaf (Some x) lt le h =
    let same : x ≡ leaf = reaches_leaf width x leaf (omega (arith, key_within map x h.key h.has)) h.under in
    let has : key_of map leaf ≡ Some h.key = subst (λ v. HasKey map v h.key) same h.has in
    rw has (ap Some same)

-- the items of a tree with its invariant are as they are promised to be
pub winners_from_keeps : (map : List (Option Key)) (winners : List (Option ℕ)) → Keeps map winners → AreWinners map winners
winners_from_keeps map winners k = record {
  width = k.width;
  rounded = k.rounded;
  size = k.size;
  unused = k.unused;
  leaves = λ leaf lt. name_of_leaf map k.width leaf (name_at winners (k.width + leaf)) lt k.rounded.1 (k.least (k.width + leaf) (omega arith) (omega arith));
  nodes = λ item low inner. least_lesser map k.width item low inner (name_at winners (2 * item)) (name_at winners (2 * item + 1)) (name_at winners item) (k.least (2 * item) (omega arith) (omega arith)) (k.least (2 * item + 1) (omega arith) (omega arith)) (k.least item low (omega arith));
}

-- there is a root
pub width_low : (leaves width : ℕ) → IsNextPowerOfTwo leaves width → 1 ≤ width
width_low leaves zero h = absurd (omega (arith, pow_pos h.0.0, h.0.1))
width_low leaves (suc width) h = omega arith

root_of_leaf : (width leaf : ℕ) → 1 ≤ width → Reaches (width + leaf) 1
root_of_leaf width leaf low = reaches_root (width + leaf) (width + leaf) (omega arith) (omega arith)

pub root_least : (map : List (Option Key)) (winners : List (Option ℕ)) (k : Keeps map winners) → IsLeastUnder map k.width 1 (name_at winners 1)
root_least map winners k = let low : 1 ≤ k.width = width_low (length map) k.width k.rounded in k.least 1 (omega arith) (omega arith)

pub root_none : (map : List (Option Key)) (winners : List (Option ℕ)) → Keeps map winners → name_at winners 1 ≡ None → HasNoKey map
root_none map winners k e leaf =
    let none : IsLeastUnder map k.width 1 None = subst (IsLeastUnder map k.width 1) e (root_least map winners k) in
    none leaf (root_of_leaf k.width leaf (width_low (length map) k.width k.rounded))

pub root_leads : (map : List (Option Key)) (winners : List (Option ℕ)) (k : Keeps map winners) (leaf : ℕ) → name_at winners 1 ≡ Some leaf → LeadsUnder map k.width 1 leaf
root_leads map winners k leaf e = subst (IsLeastUnder map k.width 1) e (root_least map winners k)

pub root_within : (map : List (Option Key)) (winners : List (Option ℕ)) → Keeps map winners → (leaf : ℕ) → name_at winners 1 ≡ Some leaf → leaf < length map
root_within map winners k leaf e = let h : LeadsUnder map k.width 1 leaf = root_leads map winners k leaf e in key_within map leaf h.key h.has

pub root_has_key : (map : List (Option Key)) (winners : List (Option ℕ)) → Keeps map winners → (leaf : ℕ) → name_at winners 1 ≡ Some leaf → key_of map leaf ≡ None → ⊥
root_has_key map winners k leaf e none = let h : LeadsUnder map k.width 1 leaf = root_leads map winners k leaf e in none_not_some (key_of map leaf) h.key none h.has

pub root_first : (map : List (Option Key)) (winners : List (Option ℕ)) → Keeps map winners → (leaf : ℕ) (key : Key) → name_at winners 1 ≡ Some leaf → HasKey map leaf key → IsFirst map leaf key
root_first map winners k leaf key e has =
    let h : LeadsUnder map k.width 1 leaf = root_leads map winners k leaf e in
    let same : h.key ≡ key = one_key map leaf h.key key h.has has in
    record {
      found = has;
      before = λ u other ne found. subst (λ v. Precedes v leaf other u) same (h.before u other ne found (root_of_leaf k.width u (width_low (length map) k.width k.rounded)));
    }

-- the result of a read at the root
pub root_read : (map : List (Option Key)) (winners : List (Option ℕ)) → Keeps map winners → (name found : Option ℕ) → name ≡ get_or winners 1 name → name ≡ found → name_at winners 1 ≡ found
root_read map winners k name found e is = sym (get_or_read winners 1 name (omega (arith, k.size, width_low (length map) k.width k.rounded)) e None) ∙ is

pub key_read : (map : List (Option Key)) (leaf : ℕ) (read found : Option Key) → leaf < length map → read ≡ get_or map leaf read → read ≡ found → key_of map leaf ≡ found
key_read map leaf read found lt e is = sym (get_or_read map leaf read lt e None) ∙ is
