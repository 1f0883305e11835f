-- The explanations of a request of legal entries have one text.
use Rattle.std.proofs.Common.{ℕ, ◌≡◌, ◌∙◌, refl, sym, ap, subst, Bool, true, false, ◌||◌, List, [], ◌∷◌, ◌++◌, Some, None, pos, inl, inr}
use Rattle.std.proofs.lemmas.Bool.{false≢true, eq-eqb}
use Rattle.fq_model.specs.declared.config.Config.{Config}
use Rattle.fq_model.specs.declared.event.Act.TheVariants.{Take}
use Rattle.fq_model.specs.declared.event.Entry.{Entry}
use Rattle.fq_model.specs.History.{History, history_of, is_taken, is_take_of}
use Rattle.fq_model.specs.Keys.{HeadKeys, Turn, turn_at}
use Rattle.fq_model.specs.Rules.{IsLegal}
use Rattle.fq_model.specs.Pace.{virtual_time}
use Rattle.fq_laws.proofs.History.Once.{taken_new}
use Rattle.program_model.specs.declared.explained.Explained.{Explained}
use Rattle.program_model.specs.declared.explained.ExplainRow.{ExplainRow}
use Rattle.program_model.specs.Explanations.{IsRow, AreRows, heads_at, IsExplained}
use Rattle.program_model.specs.VerdictTexts.{row_line, rows_text, taken_line, explanation_text}
use Rattle.journal_check.specs.Laws.{OneExplanation}
use Rattle.journal_check.proofs.OneVerdict.{parted, history_among, legal_among}

-- ---- a request is taken once

or_true : (a b : Bool) → b ≡ true → (a || b) ≡ true
or_true true b is = refl
or_true false b is = is

or_first : (a b : Bool) → a ≡ true → (a || b) ≡ true
or_first true b is = refl
or_first false b is = absurd (false≢true is)

taken_here : (e : Entry) (P : History) (r : ℕ) → is_take_of r e.act ≡ true → is_taken (e ∷ P) r ≡ true
unfolding is_taken
taken_here e P r is = or_first (is_take_of r e.act) _ is

taken_later : (newer P : History) (r : ℕ) → is_taken P r ≡ true → is_taken (newer ++ P) r ≡ true
unfolding is_taken
taken_later [] P r is = is
taken_later (e ∷ newer) P r is = or_true (is_take_of r e.act) _ (taken_later newer P r is)

-- a request that one of the entries takes is taken after all of them
taken_among : (xs zs : List Entry) (x : Entry) (r : ℕ) → is_take_of r x.act ≡ true → is_taken (history_of (xs ++ x ∷ zs)) r ≡ true
taken_among xs zs x r is = rw (history_among xs zs x) (taken_later (history_of zs) (x ∷ history_of xs) r (taken_here x (history_of xs) r is))

-- so it is not taken once more
taken_twice : (C : Config) (xs ys zs : List Entry) (x y : Entry) (r : ℕ) → is_take_of r x.act ≡ true → is_take_of r y.act ≡ true → ys ≡ xs ++ x ∷ zs → IsLegal C (y ∷ history_of ys) → ⊥
taken_twice C xs ys zs x y r first again split legal =
    let there : is_taken (history_of ys) r ≡ true = rw split (taken_among xs zs x r first) in
    false≢true (sym (taken_new C (history_of ys) y r legal again) ∙ there)

-- ---- rows for equal heads have equal texts

eligible_same : (a b : Bool) → (a ≡ true → b ≡ true) → (b ≡ true → a ≡ true) → a ≡ b
eligible_same true true to back = refl
eligible_same true false to back = sym (to refl)
eligible_same false true to back = back refl
eligible_same false false to back = refl

line_same : (names : List (List ℕ)) (at : Turn) (tenant : ℕ) (k : HeadKeys) (row other : ExplainRow) → IsRow at tenant k row → IsRow at tenant k other → row_line names row ≡ row_line names other
line_same names at tenant k row other a b =
    let eligible : row.eligible ≡ other.eligible = eligible_same row.eligible other.eligible (λ is. b.eligible_is.1 (a.eligible_is.0 is)) (λ is. a.eligible_is.1 (b.eligible_is.0 is)) in
    rw (a.tenant_is, a.head_is, a.start_is, a.finish_is, a.key_is, b.tenant_is, b.head_is, b.start_is, b.finish_is, b.key_is, eligible) refl

rows_same : (names : List (List ℕ)) (at : Turn) (heads : List (ℕ × HeadKeys)) (rows others : List ExplainRow) → AreRows at heads rows → AreRows at heads others → rows_text names rows ≡ rows_text names others
rows_same names at [] [] [] a b = refl
rows_same names at [] [] (row ∷ rows) a b = absurd b
rows_same names at [] (row ∷ rows) others a b = absurd a
rows_same names at (head ∷ heads) [] others a b = absurd a
rows_same names at (head ∷ heads) (row ∷ rows) [] a b = absurd b
rows_same names at (head ∷ heads) (row ∷ rows) (other ∷ others) a b =
    ap (λ line. line ++ rows_text names rows) (line_same names at head.0 head.1 row other a.0 b.0)
    ∙ ap (λ rest. row_line names other ++ rest) (rows_same names at heads rows others a.1 b.1)

-- ---- explanations

module _ (C : Config) (entries : List Entry) (names : List (List ℕ)) (request : ℕ) where
  -- the Take
  abbrev take_in : (x : Explained) → IsExplained C entries request x → Entry
  take_in x a = record { who = a.who; moment = x.moment; act = Take x.worker request a.estimate }

  takes : (x : Explained) (a : IsExplained C entries request x) → is_take_of request (take_in x a).act ≡ true
  takes x a = eq-eqb request request refl

  take_legal : (x : Explained) (a : IsExplained C entries request x) → IsLegal C (history_of entries) → IsLegal C (take_in x a ∷ history_of a.before)
  take_legal x a legal = legal_among C a.before a.after (take_in x a) (subst (λ (l : List Entry). IsLegal C (history_of l)) a.split legal)

  split_in : (x : Explained) (a : IsExplained C entries request x) → entries ≡ a.before ++ take_in x a ∷ a.after
  split_in x a = a.split

  same_take : (x y : Explained) (a : IsExplained C entries request x) (b : IsExplained C entries request y) → a.before ≡ b.before → x.worker ≡ y.worker → x.moment ≡ y.moment
      → explanation_text names request (Some x) ≡ explanation_text names request (Some y)
  same_take x y a b before worker moment =
      let rows : AreRows (turn_at C (history_of b.before) y.moment y.worker) (heads_at C (history_of b.before) y.moment) x.rows.items =
      subst (λ (w : ℕ). AreRows (turn_at C (history_of b.before) y.moment w) (heads_at C (history_of b.before) y.moment) x.rows.items) worker
      (subst (λ (m : ℕ). AreRows (turn_at C (history_of b.before) m x.worker) (heads_at C (history_of b.before) m) x.rows.items) moment
      (subst (λ (l : List Entry). AreRows (turn_at C (history_of l) x.moment x.worker) (heads_at C (history_of l) x.moment) x.rows.items) before a.rows_are)) in
      let vtime : x.vtime ≡ y.vtime =
      a.vtime_is
      ∙ (ap (λ (l : List Entry). pos (virtual_time C (history_of l) x.moment)) before
      ∙ (ap (λ (m : ℕ). pos (virtual_time C (history_of b.before) m)) moment ∙ sym b.vtime_is)) in
      let line : taken_line request x ≡ taken_line request y = rw (worker, moment, vtime) refl in
      ap (λ l. l ++ rows_text names x.rows.items) line
      ∙ ap (λ rest. taken_line request y ++ rest) (rows_same names (turn_at C (history_of b.before) y.moment y.worker) (heads_at C (history_of b.before) y.moment) x.rows.items y.rows.items rows b.rows_are)

  one_explained : (x y : Explained) (a : IsExplained C entries request x) (b : IsExplained C entries request y) → IsLegal C (history_of entries) → explanation_text names request (Some x) ≡ explanation_text names request (Some y)
  one_explained x y a b legal = elim (parted a.before b.before a.after b.after (take_in x a) (take_in y b) (sym (split_in x a) ∙ split_in y b)) [
    | inl s ↦ (
        let act : Take x.worker request a.estimate ≡ Take y.worker request b.estimate = act_same s.given in
        let worker : x.worker ≡ y.worker = cc in
        same_take x y a b s.before worker (moment_same s.given))
    | inr (inl p) ↦ absurd (taken_twice C a.before b.before p.0 (take_in x a) (take_in y b) request (takes x a) (takes y b) p.1 (take_legal y b legal))
    | inr (inr p) ↦ absurd (taken_twice C b.before a.before p.0 (take_in y b) (take_in x a) request (takes y b) (takes x a) p.1 (take_legal x a legal))
  ]
    where
      act_same : take_in x a ≡ take_in y b → Take x.worker request a.estimate ≡ Take y.worker request b.estimate
      act_same is = ap (λ (e : Entry). e.act) is

      moment_same : take_in x a ≡ take_in y b → x.moment ≡ y.moment
      moment_same is = ap (λ (e : Entry). e.moment) is

  is_taken_in : (x : Explained) → IsExplained C entries request x → is_taken (history_of entries) request ≡ true
  is_taken_in x a = rw (split_in x a) (taken_among a.before a.after (take_in x a) request (takes x a))

pub one_explanation : OneExplanation
one_explanation C entries names request None None legal a b = refl
one_explanation C entries names request None (Some y) legal a b = absurd (false≢true (sym a ∙ is_taken_in C entries names request y b))
one_explanation C entries names request (Some x) None legal a b = absurd (false≢true (sym b ∙ is_taken_in C entries names request x a))
one_explanation C entries names request (Some x) (Some y) legal a b = one_explained C entries names request x y a b legal
