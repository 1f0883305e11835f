-- The names that a table shows, and one name more.
use Rattle.std.proofs.Common.{ℕ, suc, ◌+◌, ◌<◌, ◌≤◌, ◌≡◌, ◌≢◌, Bool, true, false, not, cond, List, [], ◌∷◌, ◌++◌, length, get_or, position, Some, None, String, Global, string_bytes, bytes_eq, IsTrue, Contains, slice_get, option_map, refl, sym, ap, ◌∙◌, arith, length-append, inl, inr}
use Rattle.std.specs.List.{position_or_len, list_any}
use Rattle.std.specs.Map.{keys_of, lookup}
use Rattle.std.proofs.lemmas.Bool.{cases_lt, lt-ltb, false≢true, false_from_ne_true}
use Rattle.std.proofs.lemmas.List.Elements.{All-push}
use Rattle.std.proofs.lemmas.List.Quantifiers.{position-Some, all_pairs_push}
use Rattle.std.proofs.lemmas.List.Sums.{prefix_len_passes, position_or_len_is}
use Rattle.std.proofs.lemmas.Option.{slice_get-get_or, slice_get-map, get_or_from_slice_get, none-some}
use Rattle.std.proofs.lemmas.Slice.Eq.{bytes_eq-Decides}
use Rattle.fq_model.specs.Limits.{IsTextWeight}
use Rattle.fq_model.specs.Spelling.{is_name}
use Rattle.tenant_table.specs.Names.{names_of, weights_of, number_among, AreNames, AreTenants}
use Rattle.tenant_table.specs.Rows.{tenants_of, kinds_of}

-- ---- the names and weights that a table shows

pub names_of_rows : (rows : List (String Global × ℕ)) → names_of (tenants_of rows) ≡ kinds_of (keys_of rows)
names_of_rows [] = refl
names_of_rows (row ∷ rows) = ap (λ l. string_bytes row.0 ∷ l) (names_of_rows rows)

pub length_rows : (rows : List (String Global × ℕ)) → length (tenants_of rows) ≡ length rows
length_rows [] = refl
length_rows (row ∷ rows) = ap suc (length_rows rows)

pub length_names : (tenants : List (List ℕ × ℕ)) → length (names_of tenants) ≡ length tenants
length_names [] = refl
length_names (t ∷ ts) = ap suc (length_names ts)

pub length_weights : (tenants : List (List ℕ × ℕ)) → length (weights_of tenants) ≡ length tenants
length_weights [] = refl
length_weights (t ∷ ts) = ap suc (length_weights ts)

pub length_kinds : (keys : List (String Global)) → length (kinds_of keys) ≡ length keys
length_kinds [] = refl
length_kinds (k ∷ ks) = ap suc (length_kinds ks)

place_kinds : (name : List ℕ) (keys : List (String Global)) → position_or_len (bytes_eq name) (kinds_of keys) ≡ position_or_len (λ k. bytes_eq name (string_bytes k)) keys
place_kinds name [] = refl
place_kinds name (k ∷ ks) = ap (λ n. cond (not (bytes_eq name (string_bytes k))) (1 + n) 0) (place_kinds name ks)

-- the number of a name is the place of its key
pub number_kinds : (name : List ℕ) (keys : List (String Global)) → number_among (kinds_of keys) name ≡ position (λ k. bytes_eq name (string_bytes k)) keys
number_kinds name keys = rw (place_kinds name keys, length_kinds keys) refl

pub number_rows : (name : List ℕ) (rows : List (String Global × ℕ)) → number_among (names_of (tenants_of rows)) name ≡ position (λ k. bytes_eq name (string_bytes k)) (keys_of rows)
number_rows name rows = ap (λ l. number_among l name) (names_of_rows rows) ∙ number_kinds name (keys_of rows)

-- ---- names that differ

none_past : {X : Type 0} (test : X → Bool) (xs : List X) → position test xs ≡ None → length xs ≤ position_or_len test xs
none_past test xs none = elim (cases_lt (position_or_len test xs) (length xs)) [
  | inl below ↦ absurd (none-some (position_or_len test xs) (sym none ∙ ap (λ b. cond b (Some (position_or_len test xs)) None) (lt-ltb _ _ below)))
  | inr past ↦ past
]

-- where no place passes the test, each element fails it
none_passes : {X : Type 0} (test : X → Bool) (xs : List X) → position test xs ≡ None → (k : ℕ) (d : X) → k < length xs → test (get_or xs k d) ≡ false
none_passes test xs none = λ k d b.
    let past = none_past test xs none in
    not_true _ (prefix_len_passes (λ x. not (test x)) xs k d (omega arith))
  where
    not_true : (b : Bool) → not b ≡ true → b ≡ false
    not_true true h = absurd (false≢true h)
    not_true false h = refl

-- a name without a number differs from each
pub differs : (names : List (List ℕ)) (name : List ℕ) → number_among names name ≡ None → (k : ℕ) (d : List ℕ) → k < length names → name ≢ get_or names k d
differs names name none = λ k d b same. false≢true (sym (none_passes (bytes_eq name) names none k d b) ∙ (bytes_eq-Decides name (get_or names k d)).1 same)

pub absent : (names : List (List ℕ)) (name : List ℕ) → number_among names name ≡ None → ¬ Contains names name
absent names name none = λ w. differs names name none w.0 name w.1 (sym w.2)

-- the name with a number stands there
pub found : (names : List (List ℕ)) (name : List ℕ) (t : ℕ) → number_among names name ≡ Some t → slice_get names t ≡ Some name
found names name t some =
    let p = position-Some (bytes_eq name) names t [] some in
    slice_get-get_or names t [] p.0 ∙ ap Some (sym ((bytes_eq-Decides name (get_or names t [])).0 p.1))

-- each number is found by its name
pub finds : (limit : ℕ) (names : List (List ℕ)) (t : ℕ) → AreNames limit names → t < length names → number_among names (get_or names t []) ≡ Some t
finds limit names t are b =
    let name = get_or names t [] in
    let place : position_or_len (bytes_eq name) names ≡ t = position_or_len_is (bytes_eq name) names t [] (omega arith)
    (λ k h. ne_bytes name (get_or names k []) (λ e. are.distinct k t [] h b (sym e)))
    (λ _. (bytes_eq-Decides name name).1 refl) in
    rw (place, lt-ltb t (length names) b) refl
  where
    ne_bytes : (x y : List ℕ) → x ≢ y → bytes_eq x y ≡ false
    ne_bytes x y ne = false_from_ne_true (bytes_eq x y) (λ e. ne ((bytes_eq-Decides x y).0 e))

-- ---- one name more

pub names_push : (limit : ℕ) (names : List (List ℕ)) (name : List ℕ) → AreNames limit names → is_name name ≡ true → number_among names name ≡ None → length names < limit → AreNames limit (names ++ name ∷ [])
names_push limit names name are spelled none room = record {
  few = omega (arith, length-append names (name ∷ []));
  spelled = All-push (λ n. IsTrue (is_name n)) names name are.spelled spelled;
  distinct = all_pairs_push (λ a b. a ≢ b) names name are.distinct (λ k d b e. differs names name none k d b (sym e));
}

names_of_push : (ts : List (List ℕ × ℕ)) (t : List ℕ × ℕ) → names_of (ts ++ t ∷ []) ≡ names_of ts ++ t.0 ∷ []
names_of_push [] t = refl
names_of_push (u ∷ us) t = ap (λ l. u.0 ∷ l) (names_of_push us t)

weights_of_push : (ts : List (List ℕ × ℕ)) (t : List ℕ × ℕ) → weights_of (ts ++ t ∷ []) ≡ weights_of ts ++ t.1 ∷ []
weights_of_push [] t = refl
weights_of_push (u ∷ us) t = ap (λ l. u.1 ∷ l) (weights_of_push us t)

pub tenants_push : (ts : List (List ℕ × ℕ)) (name : List ℕ) (weight : ℕ) → AreTenants ts → is_name name ≡ true → IsTextWeight weight → number_among (names_of ts) name ≡ None → length ts < 4096 → AreTenants (ts ++ (name, weight) ∷ [])
tenants_push ts name weight are spelled weighs none room = record {
  names = rw (names_of_push ts (name, weight)) (names_push 4096 (names_of ts) name are.names spelled none (omega (arith, length_names ts)));
  weights = rw (weights_of_push ts (name, weight)) (All-push IsTextWeight (weights_of ts) weight are.weights weighs);
}

-- a row more shows its name and weight last
pub rows_push : (rows : List (String Global × ℕ)) (key : String Global) (weight : ℕ) → tenants_of (rows ++ (key, weight) ∷ []) ≡ tenants_of rows ++ (string_bytes key, weight) ∷ []
rows_push [] key weight = refl
rows_push (row ∷ rows) key weight = ap (λ l. (string_bytes row.0, row.1) ∷ l) (rows_push rows key weight)

pub keys_push : (keys : List (String Global)) (key : String Global) → kinds_of (keys ++ key ∷ []) ≡ kinds_of keys ++ string_bytes key ∷ []
keys_push [] key = refl
keys_push (k ∷ ks) key = ap (λ l. string_bytes k ∷ l) (keys_push ks key)

-- ---- look-ups of a new name

lookup_fails : {X : Type 0} (test : String Global → Bool) (rows : List (String Global × X)) → ((k : ℕ) (d : String Global) → k < length (keys_of rows) → test (get_or (keys_of rows) k d) ≡ false) → lookup test rows ≡ None
lookup_fails test [] fails = refl
lookup_fails test (row ∷ rows) fails = rw (fails 0 row.0 (omega arith)) (lookup_fails test rows (λ k d b. fails (suc k) d (omega arith)))

any_fails : (test : String Global → Bool) (keys : List (String Global)) → ((k : ℕ) (d : String Global) → k < length keys → test (get_or keys k d) ≡ false) → list_any test keys ≡ false
any_fails test [] fails = refl
any_fails test (key ∷ keys) fails = rw (fails 0 key (omega arith)) (any_fails test keys (λ k d b. fails (suc k) d (omega arith)))

pub no_row : (name : List ℕ) (rows : List (String Global × ℕ)) → number_among (names_of (tenants_of rows)) name ≡ None → lookup (λ k. bytes_eq name (string_bytes k)) rows ≡ None
no_row name rows none = lookup_fails (λ k. bytes_eq name (string_bytes k)) rows (none_passes (λ k. bytes_eq name (string_bytes k)) (keys_of rows) (sym (number_rows name rows) ∙ none))

pub no_key : (name : List ℕ) (keys : List (String Global)) → number_among (kinds_of keys) name ≡ None → list_any (λ k. bytes_eq name (string_bytes k)) keys ≡ false
no_key name keys none = any_fails (λ k. bytes_eq name (string_bytes k)) keys (none_passes (λ k. bytes_eq name (string_bytes k)) keys (sym (number_kinds name keys) ∙ none))

-- ---- a row by its place

-- a row that is read by its number
pub row_at : (rows : List (String Global × ℕ)) (t : ℕ) (row : String Global × ℕ) → t < length (tenants_of rows) → row ≡ get_or rows t row → slice_get rows t ≡ Some row
row_at rows t row below read = slice_get-get_or rows t row (rw (length_rows rows) at below) ∙ ap Some (sym read)

pub name_at : (rows : List (String Global × ℕ)) (t : ℕ) (row : String Global × ℕ) → slice_get rows t ≡ Some row → slice_get (names_of (tenants_of rows)) t ≡ Some (string_bytes row.0)
name_at rows t row at = slice_get-map (λ (u : List ℕ × ℕ). u.0) (tenants_of rows) t ∙ (ap (option_map (λ (u : List ℕ × ℕ). u.0)) (slice_get-map (λ (r : String Global × ℕ). (string_bytes r.0, r.1)) rows t) ∙ ap (λ o. option_map (λ (u : List ℕ × ℕ). u.0) (option_map (λ (r : String Global × ℕ). (string_bytes r.0, r.1)) o)) at)

pub weight_at : (rows : List (String Global × ℕ)) (t : ℕ) (row : String Global × ℕ) → slice_get rows t ≡ Some row → get_or (weights_of (tenants_of rows)) t 0 ≡ row.1
weight_at rows t row at = get_or_from_slice_get (weights_of (tenants_of rows)) t row.1 0 (slice_get-map (λ (u : List ℕ × ℕ). u.1) (tenants_of rows) t ∙ (ap (option_map (λ (u : List ℕ × ℕ). u.1)) (slice_get-map (λ (r : String Global × ℕ). (string_bytes r.0, r.1)) rows t) ∙ ap (λ o. option_map (λ (u : List ℕ × ℕ). u.1) (option_map (λ (r : String Global × ℕ). (string_bytes r.0, r.1)) o)) at))
