-- Numbers that are linked in order.
use Rattle.std.proofs.Common.{◌≡◌, ◌≢◌, ℕ, ◌<◌, ◌≤◌, List, [], ◌∷◌, ◌++◌, Option, Some, None, length, arith, refl, sym, ap, ◌∙◌, subst, inl, inr, ◌⊎◌}
use Rattle.waiting_lists.specs.Linked.{StandsIn, first_in, last_behind, AreChained, AreChainedBack}

pub some_is : {A : Type 0} (x y : A) → Some x ≡ Some y → x ≡ y
some_is x y e = cc

pub none_not_some : {A : Type 0} (o : Option A) (x : A) → o ≡ None → o ≡ Some x → ⊥
none_not_some o x p q = cc

-- numbers among others
pub stands_push : (i x : ℕ) (xs : List ℕ) → StandsIn i (xs ++ x ∷ []) → StandsIn i xs ⊎ (i ≡ x)
stands_push i x [] (inl e) = inr e
stands_push i x [] (inr h) = absurd h
stands_push i x (y ∷ ys) (inl e) = inl (inl e)
stands_push i x (y ∷ ys) (inr h) = elim (stands_push i x ys h) [ inl s ↦ inl (inr s) | inr e ↦ inr e ]

pub stands_left : (i : ℕ) (xs more : List ℕ) → StandsIn i xs → StandsIn i (xs ++ more)
stands_left i [] more h = absurd h
stands_left i (y ∷ ys) more (inl e) = inl e
stands_left i (y ∷ ys) more (inr h) = inr (stands_left i ys more h)

pub stands_right : (i : ℕ) (xs more : List ℕ) → StandsIn i more → StandsIn i (xs ++ more)
stands_right i [] more h = h
stands_right i (y ∷ ys) more h = inr (stands_right i ys more h)

pub stands_within : (i x : ℕ) (front rest : List ℕ) → StandsIn i (front ++ rest) → StandsIn i (front ++ x ∷ rest)
stands_within i x [] rest h = inr h
stands_within i x (y ∷ ys) rest (inl e) = inl e
stands_within i x (y ∷ ys) rest (inr h) = inr (stands_within i x ys rest h)

pub stands_beside : (i x : ℕ) (front rest : List ℕ) → StandsIn i (front ++ x ∷ rest) → i ≢ x → StandsIn i (front ++ rest)
stands_beside i x [] rest (inl e) ne = absurd (ne e)
stands_beside i x [] rest (inr h) ne = h
stands_beside i x (y ∷ ys) rest (inl e) ne = inl e
stands_beside i x (y ∷ ys) rest (inr h) ne = inr (stands_beside i x ys rest h ne)

pub stands_at : (i : ℕ) (ns : List ℕ) → StandsIn i ns → (front : List ℕ) × ((rest : List ℕ) × (ns ≡ front ++ i ∷ rest))
stands_at i [] h = absurd h
stands_at i (n ∷ ns) (inl e) = ([], (ns, ap (λ v. v ∷ ns) (sym e)))
stands_at i (n ∷ ns) (inr h) =
    let found : (front : List ℕ) × ((rest : List ℕ) × (ns ≡ front ++ i ∷ rest)) = stands_at i ns h in
    (n ∷ found.0, (found.1.0, ap (λ v. n ∷ v) found.1.1))

-- the last of several numbers
pub last_pushed : (x : Option ℕ) (front : List ℕ) (l : ℕ) → last_behind x (front ++ l ∷ []) ≡ Some l
last_pushed x [] l = refl
last_pushed x (y ∷ ys) l = last_pushed (Some y) ys l

pub last_split : (x : ℕ) (ns : List ℕ) (l : ℕ) → last_behind (Some x) ns ≡ Some l → (front : List ℕ) × (x ∷ ns ≡ front ++ l ∷ [])
last_split x [] l e = ([], ap (λ v. v ∷ []) (some_is x l e))
last_split x (y ∷ ys) l e =
    let found : (front : List ℕ) × (y ∷ ys ≡ front ++ l ∷ []) = last_split y ys l e in
    (x ∷ found.0, ap (λ v. x ∷ v) found.1)

pub last_is : (ns : List ℕ) (l : ℕ) → last_behind None ns ≡ Some l → (front : List ℕ) × (ns ≡ front ++ l ∷ [])
last_is [] l e = absurd (none_not_some None l refl e)
last_is (x ∷ xs) l e = last_split x xs l e

pub none_last : (ns : List ℕ) (x : ℕ) → last_behind (Some x) ns ≡ None → ⊥
none_last [] x e = none_not_some (Some x) x e refl
none_last (y ∷ ys) x e = none_last ys y e

pub no_last : (ns : List ℕ) → last_behind None ns ≡ None → ns ≡ []
no_last [] e = refl
no_last (x ∷ xs) e = absurd (none_last xs x e)

pub first_stands : (ns : List ℕ) (i : ℕ) → first_in ns ≡ Some i → StandsIn i ns
first_stands [] i e = absurd (none_not_some None i refl e)
first_stands (x ∷ xs) i e = inl (sym (some_is x i e))

pub last_stands : (ns : List ℕ) (l : ℕ) → last_behind None ns ≡ Some l → StandsIn l ns
last_stands ns l e =
    let found : (front : List ℕ) × (ns ≡ front ++ l ∷ []) = last_is ns l e in
    subst (StandsIn l) (sym found.1) (stands_right l found.0 (l ∷ []) (inl refl))

module _ (next : ℕ → Option ℕ) (bound : ℕ) where
  pub first_is : (at : Option ℕ) (ns : List ℕ) → AreChained next bound at ns → at ≡ first_in ns
  first_is at [] p = p
  first_is at (n ∷ ns) p = p.0

  -- from one number leads one chain
  pub linked_one : (at : Option ℕ) (ns ms : List ℕ) → AreChained next bound at ns → AreChained next bound at ms → ns ≡ ms
  linked_one at [] [] p q = refl
  linked_one at [] (m ∷ ms) p q = absurd (none_not_some at m p q.0)
  linked_one at (n ∷ ns) [] p q = absurd (none_not_some at n q p.0)
  linked_one at (n ∷ ns) (m ∷ ms) p q =
      let e : n ≡ m = some_is n m (sym p.0 ∙ q.0) in
      let rest : ns ≡ ms = linked_one (next n) ns ms p.2 (subst (λ v. AreChained next bound (next v) ms) (sym e) q.2) in
      subst (λ v. n ∷ ns ≡ v ∷ ms) e (ap (λ v. n ∷ v) rest)

  -- the chain from one of the numbers of a chain
  pub linked_within : (at : Option ℕ) (ns : List ℕ) (i : ℕ) → AreChained next bound at ns → StandsIn i ns → (rest : List ℕ) × (length rest < length ns) × AreChained next bound (Some i) (i ∷ rest)
  linked_within at [] i p h = absurd h
  linked_within at (n ∷ ns) i p (inl e) = (ns, omega arith, (refl, subst (λ v. v < bound) (sym e) p.1, subst (λ v. AreChained next bound (next v) ns) (sym e) p.2))
  linked_within at (n ∷ ns) i p (inr h) =
      let found : (rest : List ℕ) × (length rest < length ns) × AreChained next bound (Some i) (i ∷ rest) = linked_within (next n) ns i p.2 h in
      (found.0, omega (arith, found.1), found.2)

  pub linked_bound : (at : Option ℕ) (ns : List ℕ) (i : ℕ) → AreChained next bound at ns → StandsIn i ns → i < bound
  linked_bound at ns i p h =
      let found : (rest : List ℕ) × (length rest < length ns) × AreChained next bound (Some i) (i ∷ rest) = linked_within at ns i p h in found.2.1

  -- the first number of a chain is in it once
  pub first_once : (at : Option ℕ) (i : ℕ) (is : List ℕ) → AreChained next bound at (i ∷ is) → StandsIn i is → ⊥
  first_once at i is p h =
      let found : (rest : List ℕ) × (length rest < length is) × AreChained next bound (Some i) (i ∷ rest) = linked_within (next i) is i p.2 h in
      let same : i ∷ is ≡ i ∷ found.0 = linked_one (Some i) (i ∷ is) (i ∷ found.0) (refl, p.1, p.2) found.2 in
      let lengths : length (i ∷ is) ≡ length (i ∷ found.0) = ap length same in
      omega (arith, lengths, found.1)

  -- and so does each other
  pub once : (at : Option ℕ) (front : List ℕ) (i : ℕ) (rest : List ℕ) → AreChained next bound at (front ++ i ∷ rest) → StandsIn i (front ++ rest) → ⊥
  once at [] i rest p h = first_once at i rest p h
  once at (x ∷ xs) i rest p (inl e) = first_once at x (xs ++ i ∷ rest) p (subst (λ v. StandsIn v (xs ++ i ∷ rest)) e (stands_right i xs (i ∷ rest) (inl refl)))
  once at (x ∷ xs) i rest p (inr h) = once (next x) xs i rest p.2 h

  -- the chain from one of its numbers on
  pub linked_from : (at : Option ℕ) (front : List ℕ) (i : ℕ) (rest : List ℕ) → AreChained next bound at (front ++ i ∷ rest) → (i < bound) × AreChained next bound (next i) rest
  linked_from at [] i rest p = (p.1, p.2)
  linked_from at (x ∷ xs) i rest p = linked_from (next x) xs i rest p.2

  -- where a link of a chain leads
  pub next_behind : (at : Option ℕ) (n : ℕ) (ns : List ℕ) (i j : ℕ) → AreChained next bound at (n ∷ ns) → StandsIn i (n ∷ ns) → next i ≡ Some j → StandsIn j ns
  next_behind at n [] i j p (inl f) e = absurd (none_not_some (next n) j p.2 (ap next (sym f) ∙ e))
  next_behind at n (m ∷ ms) i j p (inl f) e = inl (some_is j m (sym e ∙ ap next f ∙ p.2.0))
  next_behind at n [] i j p (inr h) e = absurd h
  next_behind at n (m ∷ ms) i j p (inr h) e = inr (next_behind (next n) m ms i j p.2 h e)

  pub next_stands : (at : Option ℕ) (ns : List ℕ) (i j : ℕ) → AreChained next bound at ns → StandsIn i ns → next i ≡ Some j → StandsIn j ns
  next_stands at [] i j p h e = absurd h
  next_stands at (n ∷ ns) i j p h e = inr (next_behind at n ns i j p h e)

  -- one number leads there at most
  same_next : (at : Option ℕ) (n : ℕ) (ns : List ℕ) (j s : ℕ) → AreChained next bound at (n ∷ ns) → StandsIn j ns → next n ≡ Some s → next j ≡ Some s → ⊥
  same_next at n [] j s p h e f = h
  same_next at n (m ∷ ms) j s p h e f = first_once (next n) m ms p.2 (subst (λ v. StandsIn v ms) (some_is s m (sym e ∙ p.2.0)) (next_behind (next n) m ms j s p.2 h f))

  pub one_leads : (at : Option ℕ) (ns : List ℕ) (i j s : ℕ) → AreChained next bound at ns → StandsIn i ns → StandsIn j ns → next i ≡ Some s → next j ≡ Some s → i ≡ j
  one_leads at [] i j s p h g e f = absurd h
  one_leads at (n ∷ ns) i j s p (inl h) (inl g) e f = h ∙ sym g
  one_leads at (n ∷ ns) i j s p (inl h) (inr g) e f = absurd (same_next at n ns j s p g (ap next (sym h) ∙ e) f)
  one_leads at (n ∷ ns) i j s p (inr h) (inl g) e f = absurd (same_next at n ns i s p h (ap next (sym g) ∙ f) e)
  one_leads at (n ∷ ns) i j s p (inr h) (inr g) e f = one_leads (next n) ns i j s p.2 h g e f

  -- a number to which none leads is the first
  pub first_if : (at : Option ℕ) (ns : List ℕ) (s : ℕ) → AreChained next bound at ns → StandsIn s ns → ((i : ℕ) → StandsIn i ns → next i ≢ Some s) → at ≡ Some s
  first_if at [] s p h none = absurd h
  first_if at (n ∷ ns) s p (inl e) none = p.0 ∙ ap Some (sym e)
  first_if at (n ∷ ns) s p (inr h) none = absurd (none n (inl refl) (first_if (next n) ns s p.2 h (λ i g. none i (inr g))))

  -- a link leads to one number, which is linked back to it
  pub next_back : (before : ℕ → Option ℕ) (at from : Option ℕ) (ns : List ℕ) (i j : ℕ) → AreChained next bound at ns → AreChainedBack before from ns → StandsIn i ns → next i ≡ Some j → before j ≡ Some i
  next_back before at from [] i j p b h e = absurd h
  next_back before at from (n ∷ []) i j p b (inl f) e = absurd (none_not_some (next n) j p.2 (ap next (sym f) ∙ e))
  next_back before at from (n ∷ m ∷ ms) i j p b (inl f) e = ap before (some_is j m (sym e ∙ ap next f ∙ p.2.0)) ∙ b.1.0 ∙ ap Some (sym f)
  next_back before at from (n ∷ ns) i j p b (inr h) e = next_back before (next n) (Some n) ns i j p.2 b.1 h e

  -- the links back from a number of a chain
  back_behind : (before : ℕ → Option ℕ) (at : Option ℕ) (n : ℕ) (ns : List ℕ) (i j : ℕ) → AreChained next bound at (n ∷ ns) → AreChainedBack before (Some n) ns → StandsIn j ns → before j ≡ Some i → StandsIn i (n ∷ ns) × (next i ≡ Some j)
  back_behind before at n [] i j p b h e = absurd h
  back_behind before at n (m ∷ ms) i j p b (inl f) e =
      let is : i ≡ n = some_is i n (sym e ∙ ap before f ∙ b.0) in
      (inl is, ap next is ∙ p.2.0 ∙ ap Some (sym f))
  back_behind before at n (m ∷ ms) i j p b (inr h) e =
      let found : StandsIn i (m ∷ ms) × (next i ≡ Some j) = back_behind before (next n) m ms i j p.2 b.1 h e in
      (inr found.0, found.1)

  pub back_next : (before : ℕ → Option ℕ) (at : Option ℕ) (ns : List ℕ) (i j : ℕ) → AreChained next bound at ns → AreChainedBack before None ns → StandsIn j ns → before j ≡ Some i → StandsIn i ns × (next i ≡ Some j)
  back_next before at [] i j p b h e = absurd h
  back_next before at (n ∷ ns) i j p b (inl f) e = absurd (none_not_some (before n) i b.0 (ap before (sym f) ∙ e))
  back_next before at (n ∷ ns) i j p b (inr h) e = back_behind before at n ns i j p b.1 h e

-- a chain stays where its links stay
pub linked_stays : (next now : ℕ → Option ℕ) (bound more : ℕ) (at : Option ℕ) (ns : List ℕ) → bound ≤ more → ((i : ℕ) → StandsIn i ns → now i ≡ next i) → AreChained next bound at ns → AreChained now more at ns
linked_stays next now bound more at [] size same p = p
linked_stays next now bound more at (n ∷ ns) size same p =
    let rest : AreChained now more (next n) ns = linked_stays next now bound more (next n) ns size (λ i h. same i (inr h)) p.2 in
    (p.0, omega (arith, size, p.1), subst (λ v. AreChained now more v ns) (sym (same n (inl refl))) rest)

pub back_stays : (before now : ℕ → Option ℕ) (from : Option ℕ) (ns : List ℕ) → ((i : ℕ) → StandsIn i ns → now i ≡ before i) → AreChainedBack before from ns → AreChainedBack now from ns
back_stays before now from [] same b = tt
back_stays before now from (n ∷ ns) same b = (same n (inl refl) ∙ b.0, back_stays before now (Some n) ns (λ i h. same i (inr h)) b.1)

-- a number behind the last
pub linked_push : (next now : ℕ → Option ℕ) (bound : ℕ) (at : Option ℕ) (front : List ℕ) (l s : ℕ) → ((i : ℕ) → StandsIn i front → now i ≡ next i) → now l ≡ Some s → now s ≡ None → s < bound → AreChained next bound at (front ++ l ∷ []) → AreChained now bound at ((front ++ l ∷ []) ++ s ∷ [])
linked_push next now bound at [] l s same to_new to_none within p = (p.0, p.1, (to_new, within, to_none))
linked_push next now bound at (n ∷ ns) l s same to_new to_none within p =
    let rest : AreChained now bound (next n) ((ns ++ l ∷ []) ++ s ∷ []) = linked_push next now bound (next n) ns l s (λ i h. same i (inr h)) to_new to_none within p.2 in
    (p.0, p.1, subst (λ v. AreChained now bound v ((ns ++ l ∷ []) ++ s ∷ [])) (sym (same n (inl refl))) rest)

pub back_push : (before now : ℕ → Option ℕ) (from : Option ℕ) (ns : List ℕ) (s : ℕ) → ((i : ℕ) → StandsIn i ns → now i ≡ before i) → now s ≡ last_behind from ns → AreChainedBack before from ns → AreChainedBack now from (ns ++ s ∷ [])
back_push before now from [] s same to b = (to, tt)
back_push before now from (n ∷ ns) s same to b = (same n (inl refl) ∙ b.0, back_push before now (Some n) ns s (λ i h. same i (inr h)) to b.1)
