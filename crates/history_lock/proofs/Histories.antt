-- Prefixes of histories, and the entries of one caller.
use Rattle.std.proofs.Common.{◌≡◌, ◌≢◌, ℕ, ◌+◌, ◌-◌, ◌≤◌, Bool, true, false, List, [], ◌∷◌, ◌++◌, length, sym, refl, ap, ◌∙◌, inl, inr, arith, length-append, append_assoc, append-nil, ne_eqb, eqb, filter}
use Rattle.std.proofs.lemmas.List.Elements.{filter-append}
use Rattle.fq_model.specs.declared.event.Entry.{Entry}
use Rattle.fq_model.specs.Outcome.{own_entries}
use Rattle.history_lock.specs.Histories.{IsPrefix, Grows, Gains, longer}

abbrev pub own : ℕ → List Entry → List Entry
own who P = own_entries P who

pub own_same : (who p : ℕ) (xs ys : List Entry) → Grows who xs ys → who ≢ p → own p ys ≡ own p xs
own_same who p xs ys (inl e) n = ap (own p) e
own_same who p xs ys (inr (e, is, by)) n =
    ap (own p) is ∙ (filter-append (λ (x : Entry). eqb x.who p) xs (e ∷ []) ∙ (let no : eqb e.who p ≡ false = ne_eqb e.who p (λ h. n (sym by ∙ h)) in
    ap (λ (b : Bool). own p xs ++ Rattle.std.proofs.Common.cond b (e ∷ []) []) no ∙ append-nil (own p xs)))

pub starts_more : (who : ℕ) (xs ys seen : List Entry) → Grows who xs ys → IsPrefix seen xs → IsPrefix seen ys
starts_more who xs ys seen (inl e) s = (s.0, e ∙ s.1)
starts_more who xs ys seen (inr (e, is, by)) s = (s.0 ++ e ∷ [], is ∙ (ap (λ (l : List Entry). l ++ e ∷ []) s.1 ∙ append_assoc seen s.0 (e ∷ [])))

module _ {A : Type 0} where
  nil_left : (xs ys : List A) → xs ++ ys ≡ [] → xs ≡ []
  nil_left [] ys e = refl
  nil_left (x ∷ xs) ys e = let n : length (x ∷ xs ++ ys) ≡ 0 = ap length e in absurd (omega arith)

  abbrev head_or : A → List A → A
  head_or d [] = d
  head_or d (x ∷ xs) = x

  abbrev tail_of : List A → List A
  tail_of [] = []
  tail_of (x ∷ xs) = xs

  -- of two beginnings of one list the shorter begins the longer
  begins : (log a b r q : List A) → log ≡ a ++ r → log ≡ b ++ q → length a ≤ length b → (z : List A) × (b ≡ a ++ z)
  begins log [] b r q e f le = (b, refl)
  begins log (x ∷ xs) [] r q e f le = absurd (omega arith)
  begins log (x ∷ xs) (y ∷ ys) r q e f le =
      let t = begins (tail_of log) xs ys r q (ap tail_of e) (ap tail_of f) (omega arith) in
      (t.0, λ i. ap (head_or x) (sym f ∙ e) i ∷ t.1 i)

-- a prefix of a prefix
pub prefix_through : (a b c : List Entry) → IsPrefix a b → IsPrefix b c → IsPrefix a c
prefix_through a b c s t = (s.0 ++ t.0, t.1 ∙ (ap (λ (l : List Entry). l ++ t.0) s.1 ∙ append_assoc a s.0 t.0))

pub none_before : (n : ℕ) (log seen : List Entry) → IsPrefix seen log → own n log ≡ [] → own n seen ≡ []
none_before n log seen s none_is = nil_left (own n seen) (own n s.0) (sym (filter-append (λ (x : Entry). eqb x.who n) seen s.0) ∙ (sym (ap (own n) s.1) ∙ none_is))

module _ (log a b : List Entry) where
  by_length : (P : List Entry → Type 0) → (length a ≤ length b → P b) → (length b ≤ length a → P a) → P (longer a b)
  by_length P yes_is no_is = go (Rattle.std.proofs.Common.leb (length a) (length b)) refl
    where
      go : (t : Bool) → Rattle.std.proofs.Common.leb (length a) (length b) ≡ t → P (Rattle.std.proofs.Common.if◌then◌else◌ t b a)
      go true e = yes_is (Rattle.std.proofs.lemmas.Bool.leb-true (length a) (length b) e)
      go false e = let l = Rattle.std.proofs.lemmas.Bool.leb-false (length a) (length b) e in no_is (omega arith)

pub longer_sees : (log a b : List Entry) → IsPrefix a log → IsPrefix b log → IsPrefix (longer a b) log
longer_sees log a b s t = by_length log a b (λ x. IsPrefix x log) (λ _. t) (λ _. s)

pub longer_both : (log a b : List Entry) → IsPrefix a log → IsPrefix b log → IsPrefix a (longer a b) × IsPrefix b (longer a b)
longer_both log a b s t = by_length log a b (λ x. IsPrefix a x × IsPrefix b x)
    (λ le. (begins log a b s.0 t.0 s.1 t.1 le, ([], sym (append-nil b)))) (λ le. (([], sym (append-nil a)), begins log b a t.0 s.0 t.1 s.1 le))

-- between two lists with the same entries of one caller
own_between : (n : ℕ) (log a b m : List Entry) → IsPrefix b log → IsPrefix a b → own n a ≡ m → own n log ≡ m → own n b ≡ m
own_between n log a b m s t low high =
    let test : Entry → Bool = λ x. eqb x.who n in
    let p : own n b ≡ own n a ++ own n t.0 = ap (own n) t.1 ∙ filter-append test a t.0 in
    let q : own n log ≡ own n b ++ own n s.0 = ap (own n) s.1 ∙ filter-append test b s.0 in
    let x : length (own n b) ≡ length (own n a) + length (own n t.0) = ap length p ∙ length-append (own n a) (own n t.0) in
    let y : length (own n log) ≡ length (own n b) + length (own n s.0) = ap length q ∙ length-append (own n b) (own n s.0) in
    let z : length (own n a) ≡ length (own n log) = ap length (low ∙ sym high) in
    let e : own n t.0 ≡ [] = Rattle.std.proofs.lemmas.List.nil_from_length (own n t.0) (omega arith) in
    p ∙ (ap (λ (l : List Entry). own n a ++ l) e ∙ (append-nil (own n a) ∙ low))

pub own_longer : (n : ℕ) (log a b m : List Entry) → IsPrefix a log → IsPrefix b log → own n a ≡ m → own n log ≡ m → own n (longer a b) ≡ m
own_longer n log a b m s t low high = by_length log a b (λ x. own n x ≡ m) (λ le. own_between n log a b m t (begins log a b s.0 t.0 s.1 t.1 le) low high) (λ _. low)

pub gains_own : (who : ℕ) (P P2 mine : List Entry) → own_entries P who ≡ mine → Grows who P P2 → Gains who P P2 mine (own_entries P2 who)
gains_own who P P2 mine is (inl e) = inl (e, ap (own who) e ∙ is)
gains_own who P P2 mine is (inr (e, added, by)) = inr (
  e,
  added,
  ap (own who) added ∙ (filter-append (λ (x : Entry). eqb x.who who) P (e ∷ []) ∙ (let yes : eqb e.who who ≡ true = Rattle.std.proofs.Common.eq-eqb e.who who by in
      ap (λ (b : Bool). own who P ++ Rattle.std.proofs.Common.cond b (e ∷ []) []) yes ∙ ap (λ (l : List Entry). l ++ e ∷ []) is)),
  by,
)
