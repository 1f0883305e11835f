-- The rows of the first pairs, and one more.
use Rattle.std.proofs.Common.{ℕ, zero, suc, ◌+◌, ◌*◌, ◌<◌, ◌≡◌, refl, sym, ap, ◌∙◌, subst, arith, List, [], ◌∷◌, ◌++◌, length, take, get_or, All, Some, slice_get}
use Rattle.std.specs.Prelude.{IsSomeAnd, IsOkAnd, IsErrAnd, IfErr, Result, Ok, Err}
use Rattle.std.specs.List.{AllZip}
use Rattle.std.proofs.lemmas.List.{take_more, length_push}
use Rattle.std.proofs.lemmas.List.Elements.{All-append, All-cons, All-nil}
use Rattle.std.proofs.lemmas.Option.{get_or_from_slice_get, slice_get_within}
use Rattle.std.proofs.lemmas.Slice.Zip.{all_zipped_more}
use Rattle.fq_model.specs.declared.config.Estimator.{Estimator}
use Rattle.fq_model.specs.declared.config.Policy.{Policy}
use Rattle.fq_model.specs.declared.config.Policy.TheVariants.{Wfq, Wf2q, Msf2q, TwoDfq}
use Rattle.program_model.specs.declared.compare.CompareOptions.{CompareOptions}
use Rattle.program_model.specs.declared.compare.CompareRow.{CompareRow}
use Rattle.program_model.specs.Compare.{all_pairs, IsCompared}
use Rattle.program_model.specs.CompareCommand.{IsShort, IsLong, IsFirstLong, AreAllRows}
use Rattle.program_model.specs.Trace.{Trace}
use Rattle.compare_all.specs.declared.fault.CompareFault.{CompareFault}
use Rattle.compare_all.specs.declared.fault.CompareFault.TheVariants as faults
use Rattle.compare_all.specs.declared.rows.RowFault.{RowFault}
use Rattle.compare_all.specs.Reasons.{IsReason}
use Rattle.compare_all.specs.Rows.{AreFirstRows, ComesAt, IsMade, IsFaultAt}

-- one item more
take_one : {X : Type 0} (xs : List X) (k : ℕ) (x : X) → slice_get xs k ≡ Some x → take (k + 1) xs ≡ take k xs ++ x ∷ []
take_one xs k x at = take_more xs k x (slice_get_within xs k x at) ∙ ap (λ y. take k xs ++ y ∷ []) (get_or_from_slice_get xs k x x at)

-- a relation of the elements at each place holds at this place
pub at_place : {A B : Type 0} (R : A → B → Type 0) (xs : List A) (ys : List B) (k : ℕ) (d : A) (e : B) → AllZip R xs ys → k < length ys → R (get_or xs k d) (get_or ys k e)
at_place R [] [] k d e h l = absurd (omega (arith, l))
at_place R [] (y ∷ ys) k d e h l = absurd h
at_place R (x ∷ xs) [] k d e h l = absurd h
at_place R (x ∷ xs) (y ∷ ys) zero d e h l = h.0
at_place R (x ∷ xs) (y ∷ ys) (suc k) d e h l = at_place R xs ys k d e h.1 (omega (arith, l))

module _ (T : Trace) (o : CompareOptions) where
  pub no_rows : AreFirstRows T o []
  no_rows = record { short = All-nil (IsShort T o); compared = tt }

  pub one_more : (rows : List CompareRow) (pair : Policy × Estimator) (row : CompareRow) → slice_get all_pairs (length rows) ≡ Some pair → IsShort T o pair → IsCompared T o pair row → AreFirstRows T o rows → AreFirstRows T o (rows ++ row ∷ [])
  one_more rows pair row at short is first =
      let taken : take (length (rows ++ row ∷ [])) all_pairs ≡ take (length rows) all_pairs ++ pair ∷ [] =
      ap (λ n. take n all_pairs) (length_push rows row) ∙ take_one all_pairs (length rows) pair at in
      record {
        short = subst (All (IsShort T o)) (sym taken) (All-append (IsShort T o) (take (length rows) all_pairs) (pair ∷ []) first.short (All-cons (IsShort T o) pair [] short (All-nil (IsShort T o))));
        compared = subst (λ pairs. AllZip (IsCompared T o) pairs (rows ++ row ∷ [])) (sym taken) (all_zipped_more (IsCompared T o) (take (length rows) all_pairs) rows pair row first.compared is);
      }

  pub all_rows : (rows : List CompareRow) → length rows ≡ 12 → AreFirstRows T o rows → AreAllRows T o rows
  all_rows rows long first = record {
    short = subst (λ n. All (IsShort T o) (take n all_pairs)) long first.short;
    compared = subst (λ n. AllZip (IsCompared T o) (take n all_pairs) rows) long first.compared;
  }

  pub first_long : (rows : List CompareRow) (pair : Policy × Estimator) (cells : ℕ) → slice_get all_pairs (length rows) ≡ Some pair → IsLong T o cells pair → AreFirstRows T o rows → IsFirstLong T o (length rows) cells
  first_long rows pair cells at long first = record {
    earlier = first.short;
    long = subst (λ x. IsSomeAnd x (IsLong T o cells)) (sym at) long;
  }

  -- the result for the next pair is one row more, or the reason why there are no more
  pub next_rows : (rows more : List CompareRow) (pair : Policy × Estimator) (made : Result CompareRow RowFault) → slice_get all_pairs (length rows) ≡ Some pair → IsMade T o pair made → IsOkAnd made (λ row. more ≡ rows ++ row ∷ []) → AreFirstRows T o rows → AreFirstRows T o more
  next_rows rows more pair (Ok row) at x added first = subst (AreFirstRows T o) (sym added) (one_more rows pair row at x.0 x.1 first)
  next_rows rows more pair (Err fault) at x added first = absurd added

  pub next_reason : (rows : List CompareRow) (pair : Policy × Estimator) (made : Result CompareRow RowFault) (fault : CompareFault) → slice_get all_pairs (length rows) ≡ Some pair → IsMade T o pair made → IsFaultAt (length rows) made fault → AreFirstRows T o rows → IsReason T o fault
  next_reason rows pair made (faults.TooManyEntries needed) at x told first = absurd told
  next_reason rows pair made (faults.TooLong row cells) at x told first =
      subst (λ n. IsFirstLong T o n cells) (sym told.0) (first_long rows pair cells at (subst (IsMade T o pair) told.1 x) first)
  next_reason rows pair made faults.NoMemory at x told first = tt

  pub told_reason : {X : Type 0} (r : Result X CompareFault) (fault : CompareFault) → IsErrAnd r (λ f. f ≡ fault) → IsReason T o fault → IfErr r (IsReason T o)
  told_reason (Ok x) fault told is = tt
  told_reason (Err f) fault told is = subst (IsReason T o) (sym told) is

-- one row more
pub one_longer : (rows more : List CompareRow) (made : Result CompareRow RowFault) → IsOkAnd made (λ row. more ≡ rows ++ row ∷ []) → length more ≡ length rows + 1
one_longer rows more (Ok row) added = ap length added ∙ length_push rows row
one_longer rows more (Err fault) added = absurd added

three : (P : ℕ → Type 0) → P 0 → P 1 → P 2 → (k : ℕ) → k < 3 → P k
three P a b c zero l = a
three P a b c (suc zero) l = b
three P a b c (suc (suc zero)) l = c
three P a b c (suc (suc (suc k))) l = absurd (omega (arith, l))

-- the policies, in the order in which the code takes them
abbrev pub compared : List Policy
compared = Wfq ∷ Wf2q ∷ Msf2q ∷ TwoDfq ∷ []

-- a policy's pairs come behind three of each before it
pub policy_comes : (k : ℕ) → k < 4 → ComesAt (3 * k) (get_or compared k Wfq)
policy_comes zero l = three _ refl refl refl
policy_comes (suc zero) l = three _ refl refl refl
policy_comes (suc (suc zero)) l = three _ refl refl refl
policy_comes (suc (suc (suc zero))) l = three _ refl refl refl
policy_comes (suc (suc (suc (suc k)))) l = absurd (omega (arith, l))
