-- The way from a leaf whose key has changed.
use Rattle.std.proofs.Common.{◌≡◌, ◌≢◌, ℕ, suc, ◌+◌, ◌*◌, ◌/◌, ◌<◌, ◌≤◌, List, Option, None, Some, length, set, is_some, IfSome, IsSome, cond, arith, refl, sym, ap, ◌∙◌, subst, inl, inr}
use Rattle.std.proofs.lemmas.Bool.{cases_eq}
use Rattle.std.proofs.lemmas.List.{get_or-set_same, get_or-set_other, length-set}
use Rattle.std.specs.Int.{IsNextPowerOfTwo}
use Rattle.winner_tree.specs.declared.key.Key.{Key}
use Rattle.winner_tree.specs.Order.{Precedes, key_of, HasKey}
use Rattle.winner_tree.specs.Winners.{name_at, Reaches, IsLesser, AreNeighbours, LeadsUnder, IsLeastUnder, Keeps}
use Rattle.winner_tree.proofs.Orders.{order_goes_on, not_both_come_first}
use Rattle.winner_tree.proofs.Paths.{reaches_self, reaches_le, reaches_up, reaches_rest, reaches_goes_on, reaches_leaf, reaches_cases}
use Rattle.winner_tree.proofs.Least.{none_or_key, none_not_some, key_within, one_key, lesser_above, neighbours_apart, width_low}

-- On the way from a leaf whose key has changed: the name is right for the item at which it stands. The items on the
-- rest of the way are right for the old keys, and all others for the new ones.
pub record IsOnWay (old map : List (Option Key)) (winners : List (Option ℕ)) (leaf item : ℕ) (name : Option ℕ) : Type 0 where
  pub width : ℕ
  pub rounded : IsNextPowerOfTwo (length map) width
  pub size : length winners ≡ 2 * width
  pub unused : name_at winners 0 ≡ None
  pub low : 1 ≤ item
  pub high : item < 2 * width
  pub under : Reaches (width + leaf) item
  pub next : IsLeastUnder map width item name
  pub fresh : (k : ℕ) → 1 ≤ k → k < 2 * width → (Reaches item k → ⊥) → IsLeastUnder map width k (name_at winners k)
  pub stale : (k : ℕ) → 1 ≤ k → k < 2 * width → Reaches item k → IsLeastUnder old width k (name_at winners k)

-- a write at one item leaves the others
name_other : (winners : List (Option ℕ)) (item k : ℕ) (name : Option ℕ) → k ≢ item → name_at (set winners item name) k ≡ name_at winners k
name_other winners item k name ne = get_or-set_other winners item k name None ne

name_same : (winners : List (Option ℕ)) (item : ℕ) (name : Option ℕ) → item < length winners → name_at (set winners item name) item ≡ name
name_same winners item name lt = get_or-set_same winners item name None lt

-- maps that agree but at one leaf
module _ (old map : List (Option Key)) (width leaf : ℕ) (agree : (u : ℕ) → u ≢ leaf → key_of map u ≡ key_of old u) where
  leads_apart : (item u : ℕ) → (Reaches (width + leaf) item → ⊥) → LeadsUnder old width item u → LeadsUnder map width item u
  leads_apart item u never h =
      let other_leaf : (v : ℕ) → Reaches (width + v) item → v ≢ leaf = λ v r e. never (subst (λ x. Reaches (width + x) item) e r) in
      record {
        key = h.key;
        has = agree u (other_leaf u h.under) ∙ h.has;
        under = h.under;
        before = λ v other ne has r. h.before v other ne (sym (agree v (other_leaf v r)) ∙ has) r;
      }

  -- an item under which the leaf does not stand
  pub least_apart_from : (item : ℕ) (name : Option ℕ) → (Reaches (width + leaf) item → ⊥) → IsLeastUnder old width item name → IsLeastUnder map width item name
  least_apart_from item None never h = λ v r. agree v (λ e. never (subst (λ x. Reaches (width + x) item) e r)) ∙ h v r
  least_apart_from item (Some u) never h = leads_apart item u never h

  -- An item on the way whose name stays, and is not the leaf. The items above it were right before, and are right now.
  module _ (item higher : ℕ) (under : Reaches (width + leaf) item) (up : Reaches item higher) where
    none_stays : IsLeastUnder map width item None → IsLeastUnder old width higher None → IsLeastUnder map width higher None
    none_stays now h v r = elim (cases_eq v leaf) [ inl e ↦ ap (key_of map) e ∙ now leaf under | inr ne ↦ agree v ne ∙ h v r ]

    -- a leader of the item above that is not the leaf, where it still comes before the leaf
    leader_stays : (y : ℕ) (h : LeadsUnder old width higher y) → y ≢ leaf → ((other : Key) → HasKey map leaf other → Precedes h.key y other leaf) → LeadsUnder map width higher y
    leader_stays y h differ after_leaf = record {
      key = h.key;
      has = agree y differ ∙ h.has;
      under = h.under;
      before = λ v other away found r. elim (cases_eq v leaf) [
        | inl e ↦ subst (λ x. Precedes h.key y other x) (sym e) (after_leaf other (subst (λ x. HasKey map x other) e found))
        | inr apart ↦ h.before v other away (sym (agree v apart) ∙ found) r
      ];
    }

    leader_over_none : IsLeastUnder old width item None → IsLeastUnder map width item None → (y : ℕ) → LeadsUnder old width higher y → LeadsUnder map width higher y
    leader_over_none before now y h =
        leader_stays y h
        (λ e. none_not_some (key_of old leaf) h.key (before leaf under) (subst (λ v. HasKey old v h.key) e h.has))
        (λ other found. absurd (none_not_some (key_of map leaf) other (now leaf under) found))

    not_the_leaf : (w : ℕ) → w ≢ leaf → LeadsUnder old width item w → (y : ℕ) → LeadsUnder old width higher y → y ≢ leaf
    not_the_leaf w ne before y h e =
        let has : HasKey old leaf h.key = subst (λ v. HasKey old v h.key) e h.has in
        let p : Precedes h.key y before.key w = h.before w before.key (λ f. ne (f ∙ e)) before.has (reaches_goes_on (width + w) item higher before.under up) in
        let q : Precedes before.key w h.key leaf = before.before leaf h.key (λ f. ne (sym f)) has under in
        not_both_come_first h.key before.key y w p (subst (λ v. Precedes before.key w h.key v) (sym e) q)

    leader_over_some : (w : ℕ) → w ≢ leaf → LeadsUnder old width item w → LeadsUnder map width item w → (y : ℕ) → LeadsUnder old width higher y → LeadsUnder map width higher y
    leader_over_some w ne before now y h =
        let differ : y ≢ leaf = not_the_leaf w ne before y h in
        leader_stays y h differ
        (λ other found.
        let p : Precedes now.key w other leaf = now.before leaf other (λ f. ne (sym f)) found under in
        elim (cases_eq w y) [
          | inl e ↦
              let same : now.key ≡ h.key = one_key map y now.key h.key (subst (λ v. HasKey map v now.key) e now.has) (agree y differ ∙ h.has) in
              subst (λ v. Precedes v y other leaf) same (subst (λ v. Precedes now.key v other leaf) e p)
          | inr apart ↦
              let q : Precedes h.key y now.key w = h.before w now.key apart (sym (agree w ne) ∙ now.has) (reaches_goes_on (width + w) item higher now.under up) in
              order_goes_on h.key now.key other y w leaf q p
        ])

    pub least_stays : (name top : Option ℕ) → name ≢ Some leaf → IsLeastUnder old width item name → IsLeastUnder map width item name → IsLeastUnder old width higher top → IsLeastUnder map width higher top
    least_stays None None ne before now h = none_stays now h
    least_stays None (Some y) ne before now h = leader_over_none before now y h
    least_stays (Some w) None ne before now h = absurd (none_not_some (key_of old w) before.key (h w (reaches_goes_on (width + w) item higher before.under up)) before.has)
    least_stays (Some w) (Some y) ne before now h = leader_over_some w (λ e. ne (ap Some e)) before now y h

pub agrees_but : (old map : List (Option Key)) (leaf : ℕ) (key : Option Key) → map ≡ set old leaf key → (u : ℕ) → u ≢ leaf → key_of map u ≡ key_of old u
agrees_but old map leaf key e u ne = ap (λ (m : List (Option Key)). key_of m u) e ∙ get_or-set_other old leaf u key None ne

least_has_key : (map : List (Option Key)) (width item : ℕ) (name : Option ℕ) → IsLeastUnder map width item name → IfSome name (λ l. IsSome (key_of map l))
least_has_key map width item None h = tt
least_has_key map width item (Some l) h = rw h.has refl

-- the name stands: all is right
pub way_stands : (old map : List (Option Key)) (winners : List (Option ℕ)) (leaf item : ℕ) (name : Option ℕ) → ((u : ℕ) → u ≢ leaf → key_of map u ≡ key_of old u) → IsOnWay old map winners leaf item name → name_at winners item ≡ name → name ≢ Some leaf → Keeps map winners
way_stands old map winners leaf item name agree h stands ne = record {
  width = h.width;
  rounded = h.rounded;
  size = h.size;
  unused = h.unused;
  least = λ k low high. elim (reaches_cases item item k (omega arith) low) [
    | inl up ↦ stays k up (h.stale k low high up)
    | inr never ↦ h.fresh k low high never
  ];
}
  where
    item_before : IsLeastUnder old h.width item name
    item_before = subst (IsLeastUnder old h.width item) stands (h.stale item h.low h.high (reaches_self item))

    stays : (k : ℕ) → Reaches item k → IsLeastUnder old h.width k (name_at winners k) → IsLeastUnder map h.width k (name_at winners k)
    stays k up before = least_stays old map h.width leaf agree item k h.under up name (name_at winners k) ne item_before h.next before

-- the write at an item
module _ (old map : List (Option Key)) (winners : List (Option ℕ)) (leaf item : ℕ) (name : Option ℕ) (h : IsOnWay old map winners leaf item name) where
  written_fresh : (k : ℕ) → 1 ≤ k → k < 2 * h.width → (Reaches (item / 2) k → ⊥) → IsLeastUnder map h.width k (name_at (set winners item name) k)
  written_fresh k low high never = elim (cases_eq k item) [
    | inl e ↦ subst (λ v. IsLeastUnder map h.width v (name_at (set winners item name) v)) (sym e) (subst (IsLeastUnder map h.width item) (sym (name_same winners item name (omega (arith, h.size, h.high)))) h.next)
    | inr ne ↦ subst (IsLeastUnder map h.width k) (sym (name_other winners item k name ne)) (h.fresh k low high (λ r. never (reaches_rest item k (λ e. ne (sym e)) r)))
  ]

  written_unused : name_at (set winners item name) 0 ≡ None
  written_unused = name_other winners item 0 name (λ e. omega (arith, h.low, e)) ∙ h.unused

  written_size : length (set winners item name) ≡ 2 * h.width
  written_size = length-set winners item name ∙ h.size

  -- at the root all is right
  pub way_ends : item ≡ 1 → Keeps map (set winners item name)
  way_ends e = record {
    width = h.width;
    rounded = h.rounded;
    size = written_size;
    unused = written_unused;
    least = λ k low high. written_fresh k low high (λ r. omega (arith, reaches_le (item / 2) k r));
  }

  -- where a match follows, between the name and that of the item's neighbour
  module _ (ne : item ≢ 1) (beside : ℕ) (are : AreNeighbours item beside) where
    half_low : 1 ≤ item / 2
    half_low = omega (arith, h.low, ne)

    half_high : item / 2 < h.width
    half_high = omega (arith, h.high)

    pub beside_high : beside < length (set winners item name)
    beside_high = omega (arith, written_size, half_high, are.0)

    beside_fresh : IsLeastUnder map h.width beside (name_at (set winners item name) beside)
    beside_fresh = written_fresh beside (omega (arith, half_low, are.0)) (omega (arith, half_high, are.0)) (λ r. omega (arith, half_low, are.0, reaches_le (item / 2) beside r))

    -- the two can play: they have keys, and differ
    pub name_has_key : IfSome name (λ l. IsSome (key_of map l))
    name_has_key = least_has_key map h.width item name h.next

    pub beside_has_key : IfSome (name_at (set winners item name) beside) (λ l. IsSome (key_of map l))
    beside_has_key = least_has_key map h.width beside (name_at (set winners item name) beside) beside_fresh

    pub names_differ : (l : ℕ) → name ≡ Some l → name_at (set winners item name) beside ≢ Some l
    names_differ = neighbours_apart map h.width item beside half_low half_high are name (name_at (set winners item name) beside) h.next beside_fresh

    -- one match further
    pub way_goes_on : (winner : Option ℕ) → IsLesser map name (name_at (set winners item name) beside) winner → IsOnWay old map (set winners item name) leaf (item / 2) winner
    way_goes_on winner lesser = record {
      width = h.width;
      rounded = h.rounded;
      size = written_size;
      unused = written_unused;
      low = half_low;
      high = omega (arith, h.high);
      under = reaches_up (h.width + leaf) item h.under;
      next = lesser_above map h.width item beside half_low half_high are name (name_at (set winners item name) beside) winner h.next beside_fresh lesser;
      fresh = written_fresh;
      stale = λ k low high r. subst (IsLeastUnder old h.width k) (sym (name_other winners item k name (λ e. omega (arith, half_low, e, reaches_le (item / 2) k r)))) (h.stale k low high (suc r.0, r.1));
    }

-- where the way begins
module _ (map : List (Option Key)) (width leaf : ℕ) (enough : length map ≤ width) where
  alone : (u : ℕ) (key : Key) → HasKey map u key → Reaches (width + u) (width + leaf) → u ≡ leaf
  alone u key has r = reaches_leaf width u leaf (omega (arith, key_within map u key has)) r

  leaf_least : (key : Option Key) → key_of map leaf ≡ key → IsLeastUnder map width (width + leaf) (cond (is_some key) (Some leaf) None)
  leaf_least None e = λ u r. elim (none_or_key (key_of map u)) [
    | inl none ↦ none
    | inr found ↦ absurd (none_not_some (key_of map leaf) found.0 e (subst (λ v. HasKey map v found.0) (alone u found.0 found.1 r) found.1))
  ]
  leaf_least (Some key) e = record {
    key = key;
    has = e;
    under = reaches_self (width + leaf);
    before = λ u other ne has r. absurd (ne (alone u other has r));
  }

pub way_begins : (old map : List (Option Key)) (winners : List (Option ℕ)) (leaf : ℕ) (key : Option Key) → Keeps old winners → leaf < length old → map ≡ set old leaf key → IsOnWay old map winners leaf (length winners / 2 + leaf) (cond (is_some key) (Some leaf) None)
way_begins old map winners leaf key k lt e = subst (λ v. IsOnWay old map winners leaf v (cond (is_some key) (Some leaf) None)) item_is (record {
  width = k.width;
  rounded = subst (λ n. IsNextPowerOfTwo n k.width) (sym same_length) k.rounded;
  size = k.size;
  unused = k.unused;
  low = omega (arith, width_low (length old) k.width k.rounded);
  high = omega (arith, k.rounded.1, lt);
  under = reaches_self (k.width + leaf);
  next = leaf_least map k.width leaf (omega (arith, k.rounded.1, same_length)) key (ap (λ (m : List (Option Key)). key_of m leaf) e ∙ get_or-set_same old leaf key None lt);
  fresh = λ item low high never. least_apart_from old map k.width leaf (agrees_but old map leaf key e) item (name_at winners item) never (k.least item low high);
  stale = λ item low high r. k.least item low high;
})
  where
    same_length : length map ≡ length old
    same_length = ap length e ∙ length-set old leaf key

    item_is : k.width + leaf ≡ length winners / 2 + leaf
    item_is = omega (arith, k.size)
