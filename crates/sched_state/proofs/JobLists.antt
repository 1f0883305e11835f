-- The jobs in lists of items: one more, one fewer, and where one is.
use Rattle.std.proofs.Common.{ℕ, zero, suc, ◌<◌, ◌≡◌, ◌≢◌, arith, refl, ap, sym, ◌∙◌, List, [], ◌∷◌, ◌++◌, length, drop, subst, Option, Some, None, inl, inr, ◌⊎◌, get_or, set, slice_get}
use Rattle.std.specs.List.{AllByRecursion}
use Rattle.std.specs.Ordering.{nat_cmp}
use Rattle.std.specs.FinMap as map
use Rattle.std.proofs.lemmas.Bool.{cases_eq, eq-eqb, ne_eqb}
use Rattle.std.proofs.lemmas.List.{append_assoc}
use Rattle.waiting_lists.specs.declared.item.Item.{Item}
use Rattle.sched_state.specs.Lists.{JobMap, all_items, jobs_of, jobs_in}
use Rattle.sched_state.proofs.JobMaps.{found_with, either_order, same_out, still_none}

module _ {J : Type 0} where
  -- ---- lists of lists

  -- the items before and after those of list t
  record Around (all : List (List (Item J))) (t : ℕ) : Type 0 where
    before : List (Item J)
    behind : List (Item J)
    now : all_items all ≡ before ++ (get_or all t [] ++ behind)
    with : (items : List (Item J)) → all_items (set all t items) ≡ before ++ (items ++ behind)

  around : (all : List (List (Item J))) (t : ℕ) → t < length all → Around all t
  around [] t b = absurd (omega (arith, b))
  around (items ∷ more) zero b = record { before = []; behind = all_items more; now = refl; with = λ new. refl }
  around (items ∷ more) (suc t) b =
      let r : Around more t = around more t (omega (arith, b)) in
      record {
        before = items ++ r.before;
        behind = r.behind;
        now = ap (λ (x : List (Item J)). items ++ x) r.now ∙ sym (append_assoc items r.before (get_or more t [] ++ r.behind));
        with = λ new. ap (λ (x : List (Item J)). items ++ x) (r.with new) ∙ sym (append_assoc items r.before (new ++ r.behind));
      }

  -- an item of a list
  abbrev pub Among : Item J → List (Item J) → Type 0
  Among i [] = ⊥
  Among i (x ∷ xs) = (i ≡ x) ⊎ Among i xs

  among_left : (i : Item J) (xs ys : List (Item J)) → Among i xs → Among i (xs ++ ys)
  among_left i [] ys h = absurd h
  among_left i (x ∷ xs) ys (inl e) = inl e
  among_left i (x ∷ xs) ys (inr h) = inr (among_left i xs ys h)

  pub among_right : (i : Item J) (xs ys : List (Item J)) → Among i ys → Among i (xs ++ ys)
  among_right i [] ys h = h
  among_right i (x ∷ xs) ys h = inr (among_right i xs ys h)

  among_either : (i : Item J) (xs ys : List (Item J)) → Among i (xs ++ ys) → Among i xs ⊎ Among i ys
  among_either i [] ys h = inr h
  among_either i (x ∷ xs) ys (inl e) = inl (inl e)
  among_either i (x ∷ xs) ys (inr h) = elim (among_either i xs ys h) [ inl k ↦ inl (inr k) | inr k ↦ inr k ]

  -- the item at a place
  pub among_at : (items : List (Item J)) (k : ℕ) (i : Item J) → k < length items → get_or items k i ≡ i → Among i items
  among_at [] k i b e = absurd (omega (arith, b))
  among_at (x ∷ xs) zero i b e = inl (sym e)
  among_at (x ∷ xs) (suc k) i b e = inr (among_at xs k i (omega (arith, b)) e)

  -- a property of each item holds of one among them
  pub each_among : (P : Item J → Type 0) (items : List (Item J)) (i : Item J) → AllByRecursion P items → Among i items → P i
  each_among P [] i h a = absurd a
  each_among P (x ∷ xs) i h (inl e) = subst P (sym e) h.0
  each_among P (x ∷ xs) i h (inr a) = each_among P xs i h.1 a

  -- an item of all lists is in some list
  pub list_of_one : (i : Item J) (all : List (List (Item J))) → Among i (all_items all) → (t : ℕ) × (t < length all) × Among i (get_or all t [])
  list_of_one i [] h = absurd h
  list_of_one i (items ∷ more) h = elim (among_either i items (all_items more) h) [
    | inl k ↦ (0, omega arith, k)
    | inr k ↦ (let x = list_of_one i more k in (suc x.0, omega (arith, x.1), x.2))
  ]

  -- and an item of one list is in all
  pub one_of_all : (i : Item J) (all : List (List (Item J))) (t : ℕ) → t < length all → Among i (get_or all t []) → Among i (all_items all)
  one_of_all i all t b h =
      let r : Around all t = around all t b in
      subst (Among i) (sym r.now) (among_right i r.before (get_or all t [] ++ r.behind) (among_left i (get_or all t []) r.behind h))

  -- ---- jobs

  -- a job that is found is the job of an item
  pub found_among : (items : List (Item J)) (q : ℕ) (job : J) → map.get (jobs_of items) q ≡ Some job → (i : Item J) × Among i items × (i.request ≡ q) × (i.job ≡ job)
  found_among [] q job h = let e : ◌≡◌ {A = Option J} None (Some job) = sym (map.get-empty nat_cmp q) ∙ h in absurd (cc)
  found_among (x ∷ xs) q job h = elim (cases_eq q x.request) [
    | inl e ↦ (
        let k : Some x.job ≡ Some job = (let s = found_with (jobs_of xs) x.request x.job q in rw (eq-eqb q x.request e) at (sym s ∙ h)) in
        (x, inl refl, sym e, cc)
        )
    | inr ne ↦ (
        let k : map.get (jobs_of xs) q ≡ Some job = (let s = found_with (jobs_of xs) x.request x.job q in rw (ne_eqb q x.request ne) at (sym s ∙ h)) in
        let r = found_among xs q job k in
        (r.0, inr r.1, r.2, r.3)
        )
  ]

  -- where none is found no item is of the request
  pub none_among : (items : List (Item J)) (q : ℕ) (i : Item J) → map.get (jobs_of items) q ≡ None → Among i items → i.request ≢ q
  none_among [] q i h a = absurd a
  none_among (x ∷ xs) q i h (inl e) = λ same. (still_none (jobs_of xs) x.request x.job q h).0 (sym same ∙ ap (λ z. z.request) e)
  none_among (x ∷ xs) q i h (inr a) = none_among xs q i (still_none (jobs_of xs) x.request x.job q h).1 a

  -- an item more, among the others
  jobs_more : (xs ys : List (Item J)) (i : Item J) → map.get (jobs_of (xs ++ ys)) i.request ≡ None → jobs_of (xs ++ i ∷ ys) ≡ map.insert (jobs_of (xs ++ ys)) i.request i.job
  jobs_more [] ys i h = refl
  jobs_more (x ∷ xs) ys i h =
      let n : (i.request ≢ x.request) × (map.get (jobs_of (xs ++ ys)) i.request ≡ None) = still_none (jobs_of (xs ++ ys)) x.request x.job i.request h in
      ap (λ m. map.insert m x.request x.job) (jobs_more xs ys i n.1) ∙ either_order (jobs_of (xs ++ ys)) i.request x.request i.job x.job n.0

  -- an item more at the end of a list
  pub jobs_push : (all : List (List (Item J))) (t : ℕ) (i : Item J) → t < length all → map.get (jobs_in all) i.request ≡ None → jobs_in (set all t (get_or all t [] ++ i ∷ [])) ≡ map.insert (jobs_in all) i.request i.job
  jobs_push all t i b none =
      let r : Around all t = around all t b in
      let items : List (Item J) = get_or all t [] in
      let old : all_items all ≡ (r.before ++ items) ++ r.behind = r.now ∙ sym (append_assoc r.before items r.behind) in
      let new : all_items (set all t (items ++ i ∷ [])) ≡ (r.before ++ items) ++ i ∷ r.behind = r.with (items ++ i ∷ []) ∙ (ap (λ (x : List (Item J)). r.before ++ x) (append_assoc items (i ∷ []) r.behind) ∙ sym (append_assoc r.before items (i ∷ r.behind))) in
      ap (λ x. jobs_of x) new ∙ (jobs_more (r.before ++ items) r.behind i (ap (λ x. map.get (jobs_of x) i.request) (sym old) ∙ none) ∙ ap (λ x. map.insert (jobs_of x) i.request i.job) (sym old))

  -- where an item is off list t, of which this is left: its job is found, and is gone
  pub record IsOut (all : List (List (Item J))) (t : ℕ) (i : Item J) (left : List (Item J)) : Type 0 where
    pub found : map.get (jobs_in all) i.request ≡ Some i.job
    pub gone : jobs_in (set all t left) ≡ map.remove (jobs_in all) i.request

  pub jobs_out : (all : List (List (Item J))) (t : ℕ) (i : Item J) (front rest : List (Item J)) → t < length all → get_or all t [] ≡ front ++ i ∷ rest → map.get (jobs_in (set all t (front ++ rest))) i.request ≡ None → IsOut all t i (front ++ rest)
  jobs_out all t i front rest b was none =
      let r : Around all t = around all t b in
      let old : all_items all ≡ (r.before ++ front) ++ i ∷ (rest ++ r.behind) = r.now ∙ (ap (λ (x : List (Item J)). r.before ++ (x ++ r.behind)) was ∙ (ap (λ (x : List (Item J)). r.before ++ x) (append_assoc front (i ∷ rest) r.behind) ∙ sym (append_assoc r.before front (i ∷ (rest ++ r.behind))))) in
      let new : all_items (set all t (front ++ rest)) ≡ (r.before ++ front) ++ (rest ++ r.behind) = r.with (front ++ rest) ∙ (ap (λ (x : List (Item J)). r.before ++ x) (append_assoc front rest r.behind) ∙ sym (append_assoc r.before front (rest ++ r.behind))) in
      let m : JobMap J = jobs_in (set all t (front ++ rest)) in
      let more : jobs_in all ≡ map.insert m i.request i.job = ap (λ x. jobs_of x) old ∙ (jobs_more (r.before ++ front) (rest ++ r.behind) i (ap (λ x. map.get (jobs_of x) i.request) (sym new) ∙ none) ∙ ap (λ x. map.insert (jobs_of x) i.request i.job) (sym new)) in
      record {
        found = ap (λ n. map.get n i.request) more ∙ (found_with m i.request i.job i.request ∙ rw (eq-eqb i.request i.request refl) refl);
        gone = same_out m i.request i.job none ∙ ap (λ n. map.remove n i.request) (sym more);
      }

  first_of_list : (items : List (Item J)) (i : Item J) → slice_get items 0 ≡ Some i → items ≡ i ∷ drop 1 items
  first_of_list [] i h = absurd (cc)
  first_of_list (x ∷ xs) i h = let e : x ≡ i = cc in ap (λ (y : Item J). y ∷ xs) e

  -- an item that is the first of list t: its job is found, and is gone
  pub jobs_pop : (all : List (List (Item J))) (t : ℕ) (i : Item J) → t < length all → slice_get (get_or all t []) 0 ≡ Some i → map.get (jobs_in (set all t (drop 1 (get_or all t [])))) i.request ≡ None → IsOut all t i (drop 1 (get_or all t []))
  jobs_pop all t i b top none = jobs_out all t i [] (drop 1 (get_or all t [])) b (first_of_list (get_or all t []) i top) none
