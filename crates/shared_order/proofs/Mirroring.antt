-- An order and its table with one head more or one less.
use Rattle.std.proofs.Common.{ℕ, zero, suc, ◌+◌, ◌<◌, ◌≤◌, ◌≡◌, ◌≢◌, ◌⊎◌, inl, inr, arith, refl, sym, ◌∙◌, ap, subst, cond, List, [], ◌∷◌, ◌++◌, length, slice_get, slice_set, slice_index_or, get_or, replicate, length-append, length-set, Option, Some, None, is_some, IfSome, MatchOption, ℤ, pos, ◌+ℤ◌, ◌-ℤ◌, ◌≤ℤ◌}
use Rattle.std.specs.List.{All, AllPairs, Contains, count_by}
use Rattle.std.proofs.lemmas.Int.{ints}
use Rattle.std.proofs.lemmas.Bool.{cases_eq}
use Rattle.std.proofs.lemmas.List.{length-replicate, set-set, set-get_or, get_or-set_same}
use Rattle.std.proofs.lemmas.List.Kept.{AllPairs-cons}
use Rattle.std.proofs.lemmas.List.Elements.{All-nil, All-cons, All-append, All-head, All-tail, Contains-append_left, Contains-append_right, Contains-append_cases}
use Rattle.std.proofs.lemmas.List.Sums.{sum_by-set, count_by-le-length, sum_by-cons}
use Rattle.vt_fixed.specs.declared.limits.TheConstants.{GREATEST_LENGTH}
use Rattle.tag_rules.specs.Keys.{IsInRange}
use Rattle.fq_model.specs.Keys.{HeadKeys}
use Rattle.tag_rules.specs.Tables.{Table, Has, IsNewTo, RequestsDiffer}
use Rattle.shared_order.specs.Heads.{HeadView, head_of, Gains}
use Rattle.shared_order.specs.Blocks.{OrderView}
use Rattle.shared_order.specs.Mirrors.{keys_of, Mirrors, KeepsChooser}
use Rattle.shared_order.proofs.Pieces.{all_front, all_back, all_middle, holds_middle}

-- ---- tables

get_set_same : {X : Type 0} (xs : List X) (i : ℕ) (v : X) → i < length xs → slice_get (slice_set xs i v) i ≡ Some v
get_set_same [] i v h = absurd (omega (arith, h))
get_set_same (x ∷ xs) zero v h = refl
get_set_same (x ∷ xs) (suc i) v h = get_set_same xs i v (omega (arith, h))

get_set_other : {X : Type 0} (xs : List X) (i j : ℕ) (v : X) → j ≢ i → slice_get (slice_set xs i v) j ≡ slice_get xs j
get_set_other [] i j v h = refl
get_set_other (x ∷ xs) zero zero v h = absurd (h refl)
get_set_other (x ∷ xs) zero (suc j) v h = refl
get_set_other (x ∷ xs) (suc i) zero v h = refl
get_set_other (x ∷ xs) (suc i) (suc j) v h = get_set_other xs i j v (λ e. h (ap suc e))

get_here : {X : Type 0} (xs : List X) (i : ℕ) (x d : X) → i < length xs → x ≡ slice_index_or xs i d → slice_get xs i ≡ Some x
get_here [] i x d h is = absurd (omega (arith, h))
get_here (y ∷ ys) zero x d h is = ap (λ v. Some v) (sym is)
get_here (y ∷ ys) (suc i) x d h is = get_here ys i x d (omega (arith, h)) is

get_replicate : {X : Type 0} (n i : ℕ) (v x : X) → slice_get (replicate n v) i ≡ Some x → v ≡ x
get_replicate zero i v x h = absurd (let e : None ≡ Some x = h in cc)
get_replicate (suc n) zero v x h = let e : Some v ≡ Some x = h in cc
get_replicate (suc n) (suc i) v x h = get_replicate n i v x h

-- the keys of t in a table into which they were written
pub has_same : (table : Table) (t : ℕ) (keys : Option HeadKeys) (k : HeadKeys) → t < length table → Has (slice_set table t keys) t k → keys ≡ Some k
has_same table t keys k within has = let e : Some keys ≡ Some (Some k) = sym (get_set_same table t keys within) ∙ has in cc

pub has_other : (table : Table) (t u : ℕ) (keys : Option HeadKeys) (k : HeadKeys) → u ≢ t → Has (slice_set table t keys) u k → Has table u k
has_other table t u keys k ne has = sym (get_set_other table t u keys ne) ∙ has

other_has : (table : Table) (t u : ℕ) (keys : Option HeadKeys) (k : HeadKeys) → u ≢ t → Has table u k → Has (slice_set table t keys) u k
other_has table t u keys k ne has = get_set_other table t u keys ne ∙ has

-- keys of a new request go in
pub differ_set : (table : Table) (t : ℕ) (keys : Option HeadKeys) → t < length table → RequestsDiffer table → IfSome keys (IsNewTo table t) → RequestsDiffer (slice_set table t keys)
differ_set table t keys within differ new = λ a k has_a. λ b l ne has_b. elim (cases_eq a t) [
  | inl at_a ↦ elim (cases_eq b t) [
    | inl at_b ↦ absurd (ne (at_b ∙ sym at_a))
    | inr off_b ↦ (let is : keys ≡ Some k = has_same table t keys k within (subst (λ u. Has (slice_set table t keys) u k) at_a has_a) in
        subst (λ o. IfSome o (IsNewTo table t)) is new b l off_b (has_other table t b keys l off_b has_b))
  ]
  | inr off_a ↦ elim (cases_eq b t) [
    | inl at_b ↦ (let is : keys ≡ Some l = has_same table t keys l within (subst (λ u. Has (slice_set table t keys) u l) at_b has_b) in
        λ e. subst (λ o. IfSome o (IsNewTo table t)) is new a k off_a (has_other table t a keys k off_a has_a) (sym e))
    | inr off_b ↦ differ a k (has_other table t a keys k off_a has_a) b l ne (has_other table t b keys l off_b has_b)
  ]
]

-- ---- keys and heads

keys_back : (t : ℕ) (k : HeadKeys) → keys_of (head_of t k) ≡ k
keys_back t k = let start : ((k.start +ℤ k.len) -ℤ k.len) ≡ k.start = omega (arith, ints) in ap (λ (s : ℤ). record { start = s; len = k.len; request = k.request }) start

-- ---- pairs

abbrev Apart : HeadView → HeadView → Type 0
Apart a b = a.tenant ≢ b.tenant

pairs_head : (x : HeadView) (xs : List HeadView) → AllPairs Apart (x ∷ xs) → All (Apart x) xs
pairs_head x xs h = λ k d within. h 0 (suc k) d (omega arith) (omega (arith, within))

pairs_tail : (x : HeadView) (xs : List HeadView) → AllPairs Apart (x ∷ xs) → AllPairs Apart xs
pairs_tail x xs h = λ i j d lt within. h (suc i) (suc j) d (omega (arith, lt)) (omega (arith, within))

-- one head less
pairs_without : (front : List HeadView) (h : HeadView) (back : List HeadView) → AllPairs Apart (front ++ h ∷ back) → AllPairs Apart (front ++ back) × All (Apart h) (front ++ back)
pairs_without [] h back p = (pairs_tail h back p, pairs_head h back p)
pairs_without (x ∷ front) h back p =
    let rest = pairs_without front h back (pairs_tail x (front ++ h ∷ back) p) in
    let of_x : All (Apart x) (front ++ h ∷ back) = pairs_head x (front ++ h ∷ back) p in
    let of_h : All (Apart x) (h ∷ back) = all_back (Apart x) front (h ∷ back) of_x in (
      AllPairs-cons Apart x (front ++ back) (All-append (Apart x) front back (all_front (Apart x) front (h ∷ back) of_x) (All-tail (Apart x) h back of_h)) rest.0,
      All-cons (Apart h) x (front ++ back) (λ e. All-head (Apart x) h back of_h (sym e)) rest.1,
    )

-- one head more
pairs_with : (front : List HeadView) (h : HeadView) (back : List HeadView) → AllPairs Apart (front ++ back) → All (Apart h) (front ++ back) → AllPairs Apart (front ++ h ∷ back)
pairs_with [] h back p a = AllPairs-cons Apart h back a p
pairs_with (x ∷ front) h back p a =
    let of_x : All (Apart x) (front ++ back) = pairs_head x (front ++ back) p in
    let to_h : Apart x h = λ e. All-head (Apart h) x (front ++ back) a (sym e) in
    AllPairs-cons Apart x (front ++ h ∷ back) (all_middle (Apart x) front h back (all_front (Apart x) front back of_x) to_h (all_back (Apart x) front back of_x)) (pairs_with front h back (pairs_tail x (front ++ back) p) (All-tail (Apart h) x (front ++ back) a))

-- a head among front, h and back
pub among : (front : List HeadView) (h : HeadView) (back : List HeadView) (x : HeadView) → Contains (front ++ h ∷ back) x → Contains (front ++ back) x ⊎ (h ≡ x)
among front h back x has = elim (Contains-append_cases front (h ∷ back) x has) [
  | inl f ↦ inl (Contains-append_left front back x f)
  | inr b ↦ elim (Contains-append_cases (h ∷ []) back x b) [
    | inl one ↦ inr (only h x one)
    | inr last ↦ inl (Contains-append_right front back x last)
  ]
]
  where
    only : (h x : HeadView) → Contains (h ∷ []) x → h ≡ x
    only h x (zero, within, is) = is
    only h x (suc k, within, is) = absurd (omega (arith, within))

still : (front : List HeadView) (h : HeadView) (back : List HeadView) (x : HeadView) → Contains (front ++ back) x → Contains (front ++ h ∷ back) x
still front h back x has = elim (Contains-append_cases front back x has) [
  | inl f ↦ Contains-append_left front (h ∷ back) x f
  | inr b ↦ Contains-append_right front (h ∷ back) x (Contains-append_right (h ∷ []) back x b)
]

-- ---- counts

one_more : (front : List HeadView) (h : HeadView) (back : List HeadView) → length (front ++ h ∷ back) ≡ length (front ++ back) + 1
one_more front h back = omega (arith, length-append front (h ∷ back), length-append front back)

count_set : (table : Table) (t : ℕ) (older newer : Option HeadKeys) → t < length table → older ≡ slice_index_or table t older → count_by is_some (slice_set table t newer) + cond (is_some older) 1 0 ≡ count_by is_some table + cond (is_some newer) 1 0
count_set table t older newer within is = subst (λ (o : Option HeadKeys). count_by is_some (slice_set table t newer) + cond (is_some o) 1 0 ≡ count_by is_some table + cond (is_some newer) 1 0) (sym is) (sum_by-set (λ (o : Option HeadKeys). cond (is_some o) 1 0) table t newer older within)

-- a table in which a tenant has none has fewer keys than tenants
count_less : (table : Table) (t : ℕ) (k : HeadKeys) → t < length table → slice_index_or table t None ≡ None → count_by is_some table < length table
count_less table t k within none =
    let more : count_by is_some (slice_set table t (Some k)) + 0 ≡ count_by is_some table + 1 = count_set table t None (Some k) within (sym none) in
    omega (arith, more, count_by-le-length is_some (slice_set table t (Some k)), length-set table t (Some k))

-- ---- a head less

none_there : (table : Table) (t : ℕ) → t < length table → slice_index_or (slice_set table t None) t None ≡ None
none_there table t within = get_or-set_same table t None None within

out_none : (table : Table) (heads : List HeadView) (t : ℕ) → Mirrors table heads → t < length table → None ≡ slice_index_or table t None → Mirrors (slice_set table t None) heads
out_none table heads t m within is = let same : slice_set table t None ≡ table = ap (slice_set table t) is ∙ set-get_or table t None in subst (λ (x : Table). Mirrors x heads) (sym same) m

out_some : (table : Table) (heads new : List HeadView) (t : ℕ) (k : HeadKeys) → Mirrors table heads → t < length table → Some k ≡ slice_index_or table t (Some k) → Gains new (head_of t k) heads → Mirrors (slice_set table t None) new
out_some table heads new t k m within is g =
    let h : HeadView = head_of t k in
    let after : Table = slice_set table t None in
    let apart_all : AllPairs Apart (g.front ++ h ∷ g.back) = subst (AllPairs Apart) g.after m.apart in
    let without = pairs_without g.front h g.back apart_all in
    let Known : HeadView → Type 0 = λ (x : HeadView). Has table x.tenant (keys_of x) in
    let known_all : All Known (g.front ++ h ∷ g.back) = subst (All Known) g.after m.known in
    let known : All Known (g.front ++ g.back) = fewer Known g.front h g.back known_all in
    let InRange : HeadView → Type 0 = λ (x : HeadView). (pos 0 ≤ℤ x.len) × (x.len ≤ℤ GREATEST_LENGTH) in
    let range_all : All InRange (g.front ++ h ∷ g.back) = subst (All InRange) g.after m.in_range in
    let less : count_by is_some after + 1 ≡ count_by is_some table + 0 = count_set table t (Some k) None within is in
    record {
      known = subst (All (λ (x : HeadView). Has after x.tenant (keys_of x))) (sym g.before) (λ i d inside. other_has table t (get_or (g.front ++ g.back) i d).tenant None (keys_of (get_or (g.front ++ g.back) i d)) (λ e. without.1 i d inside (sym e)) (known i d inside));
      held = λ u l has. subst (λ (xs : List HeadView). Contains xs (head_of u l)) (sym g.before) (elim (cases_eq u t) [
        | inl e ↦ absurd (let none : None ≡ Some l = has_same table t None l within (subst (λ v. Has after v l) e has) in cc)
        | inr ne ↦ elim (among g.front h g.back (head_of u l) (subst (λ (xs : List HeadView). Contains xs (head_of u l)) g.after (m.held u l (has_other table t u None l ne has)))) [
          | inl there ↦ there
          | inr e ↦ absurd (ne (sym (ap (λ (x : HeadView). x.tenant) e)))
        ]
      ]);
      apart = subst (AllPairs Apart) (sym g.before) without.0;
      counted = omega (arith, m.counted, less, ap length g.after, ap length g.before, one_more g.front h g.back);
      in_range = subst (All InRange) (sym g.before) (fewer InRange g.front h g.back range_all);
    }
  where
    fewer : (P : HeadView → Type 0) (front : List HeadView) (h : HeadView) (back : List HeadView) → All P (front ++ h ∷ back) → All P (front ++ back)
    fewer P front h back a = All-append P front back (all_front P front (h ∷ back) a) (All-tail P h back (all_back P front (h ∷ back) a))

-- the head of a tenant that had these keys is out
pub taken_out : (table : Table) (heads new : List HeadView) (t : ℕ) (older : Option HeadKeys) → Mirrors table heads → t < length table → older ≡ slice_index_or table t older → MatchOption older (new ≡ heads) (λ k. Gains new (head_of t k) heads) → Mirrors (slice_set table t None) new
taken_out table heads new t None m within is e = subst (Mirrors (slice_set table t None)) (sym e) (out_none table heads t m within is)
taken_out table heads new t (Some k) m within is g = out_some table heads new t k m within is g

-- there is room for a head of the tenant now
pub has_room : (table : Table) (heads : List HeadView) (t : ℕ) (keys : Option HeadKeys) (room : ℕ) → Mirrors (slice_set table t None) heads → t < length table → length table ≤ room → IfSome keys (λ k. length heads < room)
has_room table heads t None room m within enough = tt
has_room table heads t (Some k) room m within enough =
    let less = count_less (slice_set table t None) t k (omega (arith, within, length-set table t None)) (none_there table t within) in
    omega (arith, m.counted, less, length-set table t None, enough)

-- and the requests of the others are not its own
pub new_to_heads : (table : Table) (heads : List HeadView) (t : ℕ) (keys : Option HeadKeys) → Mirrors (slice_set table t None) heads → t < length table → IfSome keys (IsNewTo table t) → IfSome keys (λ k. All (λ (h : HeadView). h.request ≢ k.request) heads)
new_to_heads table heads t None m within new = tt
new_to_heads table heads t (Some k) m within new = λ i d inside e.
    let h : HeadView = get_or heads i d in
    let has : Has (slice_set table t None) h.tenant (keys_of h) = m.known i d inside in
    elim (cases_eq h.tenant t) [
      | inl at_t ↦ absurd (let none : None ≡ Some (keys_of h) = has_same table t None (keys_of h) within (subst (λ v. Has (slice_set table t None) v (keys_of h)) at_t has) in cc)
      | inr ne ↦ absurd (new h.tenant (keys_of h) ne (has_other table t h.tenant None (keys_of h) ne has) (sym e))
    ]

-- ---- a head more

in_some : (table : Table) (heads new : List HeadView) (t : ℕ) (k : HeadKeys) → Mirrors (slice_set table t None) heads → t < length table → IsInRange k.start k.len → Gains heads (head_of t k) new → Mirrors (slice_set table t (Some k)) new
in_some table heads new t k m within r g =
    let h : HeadView = head_of t k in
    let before : Table = slice_set table t None in
    let after : Table = slice_set table t (Some k) in
    let again : slice_set before t (Some k) ≡ after = set-set table t None (Some k) in
    let inside_before : t < length before = omega (arith, within, length-set table t None) in
    let others : All (Apart h) heads = λ i d inside e. absurd (let none : None ≡ Some (keys_of (get_or heads i d)) = has_same table t None (keys_of (get_or heads i d)) within (subst (λ v. Has before v (keys_of (get_or heads i d))) (sym e) (m.known i d inside)) in cc) in
    let Known : HeadView → Type 0 = λ (x : HeadView). Has after x.tenant (keys_of x) in
    let known_others : All Known heads = λ i d inside. subst (λ (x : Table). Has x (get_or heads i d).tenant (keys_of (get_or heads i d))) again (other_has before t (get_or heads i d).tenant (Some k) (keys_of (get_or heads i d)) (λ e. others i d inside (sym e)) (m.known i d inside)) in
    let known_h : Known h = get_set_same table t (Some k) within ∙ ap (λ (l : HeadKeys). Some (Some l)) (sym (keys_back t k)) in
    let InRange : HeadView → Type 0 = λ (x : HeadView). (pos 0 ≤ℤ x.len) × (x.len ≤ℤ GREATEST_LENGTH) in
    let more : count_by is_some (slice_set before t (Some k)) + 0 ≡ count_by is_some before + 1 = count_set before t None (Some k) inside_before (sym (none_there table t within)) in
    record {
      known = subst (All Known) (sym g.after) (one_in Known g.front h g.back (subst (All Known) g.before known_others) known_h);
      held = λ u l has. subst (λ (xs : List HeadView). Contains xs (head_of u l)) (sym g.after) (elim (cases_eq u t) [
        | inl e ↦ (let is : Some k ≡ Some l = has_same table t (Some k) l within (subst (λ v. Has after v l) e has) in
            let same : k ≡ l = cc in
            subst (λ (x : HeadView). Contains (g.front ++ h ∷ g.back) x) (ap (head_of t) same ∙ ap (λ v. head_of v l) (sym e)) (holds_middle g.front h g.back))
        | inr ne ↦ still g.front h g.back (head_of u l) (subst (λ (xs : List HeadView). Contains xs (head_of u l)) g.before (m.held u l (other_has table t u None l ne (has_other table t u (Some k) l ne has))))
      ]);
      apart = subst (AllPairs Apart) (sym g.after) (pairs_with g.front h g.back (subst (AllPairs Apart) g.before m.apart) (subst (All (Apart h)) g.before others));
      counted = omega (arith, m.counted, more, ap (count_by is_some) again, ap length g.after, ap length g.before, one_more g.front h g.back);
      in_range = subst (All InRange) (sym g.after) (one_in InRange g.front h g.back (subst (All InRange) g.before m.in_range) (r.len_low, r.len_high));
    }
  where
    one_in : (P : HeadView → Type 0) (front : List HeadView) (h : HeadView) (back : List HeadView) → All P (front ++ back) → P h → All P (front ++ h ∷ back)
    one_in P front h back a p = all_middle P front h back (all_front P front back a) p (all_back P front back a)

-- the head of a tenant that has these keys is in
pub taken_in : (table : Table) (heads new : List HeadView) (t : ℕ) (keys : Option HeadKeys) → Mirrors (slice_set table t None) heads → t < length table → IfSome keys (λ k. IsInRange k.start k.len) → MatchOption keys (new ≡ heads) (λ k. Gains heads (head_of t k) new) → Mirrors (slice_set table t keys) new
taken_in table heads new t None m within r e = subst (Mirrors (slice_set table t None)) (sym e) m
taken_in table heads new t (Some k) m within r g = in_some table heads new t k m within r g

-- ---- at the opening

abbrev opened_table : ℕ → Table
opened_table n = replicate n None

count_none : (n : ℕ) → count_by is_some (opened_table n) ≡ 0
count_none zero = refl
count_none (suc n) = sum_by-cons (λ (o : Option HeadKeys). cond (is_some o) 1 0) None (opened_table n) ∙ omega (arith, count_none n)

no_keys : (n t : ℕ) (k : HeadKeys) → ¬ Has (replicate n None) t k
no_keys n t k has = let e : None ≡ Some k = get_replicate n t None (Some k) has in cc

opened_differ : (n : ℕ) → RequestsDiffer (replicate n None)
opened_differ n = λ t k has. absurd (no_keys n t k has)

opened_mirrors : (n : ℕ) → Mirrors (replicate n None) []
opened_mirrors n = record {
  known = All-nil (λ (h : HeadView). Has (replicate n None) h.tenant (keys_of h));
  held = λ t k has. absurd (no_keys n t k has);
  apart = λ i j d lt within. absurd (omega (arith, within));
  counted = sym (count_none n);
  in_range = All-nil (λ (h : HeadView). (pos 0 ≤ℤ h.len) × (h.len ≤ℤ GREATEST_LENGTH));
}

pub opened_keeps : (n : ℕ) (table : Table) (order : OrderView) → table ≡ replicate n None → order.heads ≡ [] → n ≤ order.room → KeepsChooser table order (pos 0)
opened_keeps n table order is_table no_heads room = subst (λ (t : Table). KeepsChooser t order (pos 0)) (sym is_table) (record {
  differ = opened_differ n;
  mirrors = subst (Mirrors (opened_table n)) (sym no_heads) (opened_mirrors n);
  room = simp length-replicate room;
  begun = omega (arith, ints);
})

-- the chooser's invariant at a later virtual time
pub begun_at : (table : Table) (order : OrderView) (older newer v : ℤ) → KeepsChooser table order older → older ≤ℤ v → newer ≡ v → KeepsChooser table order newer
begun_at table order older newer v k later is = record { differ = k.differ; mirrors = k.mirrors; room = k.room; begun = rw is (omega (arith, ints, k.begun, later)) }

-- the head of a tenant that has keys stands in the order
pub held_by : (table : Table) (heads : List HeadView) (t : ℕ) (older : Option HeadKeys) → Mirrors table heads → t < length table → older ≡ slice_index_or table t older → IfSome older (λ k. Contains heads (head_of t k))
held_by table heads t None m within is = tt
held_by table heads t (Some k) m within is = m.held t k (get_here table t (Some k) (Some k) within is)
