-- The tenants of a generated trace.
use Rattle.std.proofs.Common.{ℕ, suc, ◌+◌, ◌<◌, ◌≤◌, ◌≡◌, List, [], ◌∷◌, ◌++◌, length, get_or, map, All, None, true, sym, ap, ◌∙◌, arith}
use Rattle.std.specs.Fmt.{decimal}
use Rattle.std.specs.List.{range_with_len}
use Rattle.std.proofs.lemmas.Bool.{le-leb}
use Rattle.std.proofs.lemmas.List.{length-map, map-append}
use Rattle.std.proofs.lemmas.Fmt.{decimal_injective, length-decimal-le}
use Rattle.std.proofs.lemmas.List.FromFn.{get_or-map-range_with_len, length-map-range_with_len, map-range_with_len_more}
use Rattle.fq_model.specs.declared.limits.TheConstants.{TEXT_TENANTS}
use Rattle.program_model.specs.Generator.{generated_name, generated_weight}
use Rattle.fq_model.specs.Limits.{IsTextWeight}
use Rattle.fq_model.specs.Names.{AreNames, number_among}
use Rattle.fq_model.specs.Spelling.{is_name}
use Rattle.tenant_table.specs.Names.{names_of, weights_of}
use Rattle.trace_reader.proofs.Plain.{decimal-plain}
use Rattle.trace_reader.proofs.ReadBack.{none_among}

-- the names of the first n tenants
abbrev pub first_names : ℕ → List (List ℕ)
first_names n = map generated_name (range_with_len 0 n)

-- and their weights
abbrev pub first_weights : ℕ → List ℕ
first_weights n = map generated_weight (range_with_len 0 n)

pub name_spelled : (t : ℕ) → t ≤ 4096 → is_name (generated_name t) ≡ true
name_spelled t few =
    let short : length (decimal t) ≤ 4 = length-decimal-le 4 t (omega arith) (omega arith) (omega arith) in
    rw (le-leb 1 (suc (length (decimal t))) (omega arith), le-leb (suc (length (decimal t))) 64 (omega arith)) (decimal-plain t (omega arith))

name_injective : (s t : ℕ) → s ≤ 4096 → t ≤ 4096 → generated_name s ≡ generated_name t → s ≡ t
name_injective s t few_s few_t same =
    let digits : decimal s ≡ decimal t = cc in
    decimal_injective s t (omega arith) (omega arith) digits

name_at : (n t : ℕ) (d : List ℕ) → t < n → get_or (first_names n) t d ≡ generated_name t
name_at n t d below = get_or-map-range_with_len generated_name 0 n t t d below (omega arith)

pub count : (n : ℕ) → length (first_names n) ≡ n
count n = length-map-range_with_len generated_name 0 n

pub name_absent : (t : ℕ) → t ≤ 4096 → number_among (first_names t) (generated_name t) ≡ None
name_absent t few = none_among (first_names t) (generated_name t) (λ k b same.
    let below : k < t = omega (arith, b, count t) in
    let equal : k ≡ t = name_injective k t (omega arith) few (sym (name_at t k [] below) ∙ same) in
    omega (arith, equal, below))

pub are_names : (n : ℕ) → n ≤ TEXT_TENANTS → AreNames TEXT_TENANTS (first_names n)
are_names n few = record {
  few = omega (arith, count n);
  spelled = λ k d b. rw (name_at n k d (omega (arith, b, count n))) (name_spelled k (omega (arith, b, count n)));
  distinct = λ i j d before b same.
      let below : j < n = omega (arith, b, count n) in
      let equal : i ≡ j = name_injective i j (omega arith) (omega arith) (sym (name_at n i d (omega arith)) ∙ (same ∙ name_at n j d below)) in
      omega (arith, equal, before);
}

pub are_weights : (n : ℕ) → All IsTextWeight (first_weights n)
are_weights n = λ k d b.
    rw (get_or-map-range_with_len generated_weight 0 n k k d (omega (arith, b, length-map-range_with_len generated_weight 0 n)) (omega arith)) (omega arith, omega arith)

pub as_many : (n : ℕ) → length (first_weights n) ≡ length (first_names n)
as_many n = length-map-range_with_len generated_weight 0 n ∙ sym (count n)

-- a table of just these tenants
pub as_many_tenants : (tenants : List (List ℕ × ℕ)) (n : ℕ) → names_of tenants ≡ first_names n → length tenants ≡ n
as_many_tenants tenants n names = sym (length-map tenants (λ t. t.0)) ∙ (ap length names ∙ count n)

-- one tenant more
pub names_more : (tenants more : List (List ℕ × ℕ)) (n : ℕ) (name : List ℕ) (weight : ℕ) → names_of tenants ≡ first_names n → name ≡ generated_name n
    → more ≡ tenants ++ (name, weight) ∷ [] → names_of more ≡ first_names (n + 1)
names_more tenants more n name weight names same added =
    ap names_of added ∙ (map-append (λ t. t.0) tenants ((name, weight) ∷ []) ∙ rw (names, same) (sym (map-range_with_len_more generated_name 0 n n (omega arith))))

pub weights_more : (tenants more : List (List ℕ × ℕ)) (n : ℕ) (name : List ℕ) (weight : ℕ) → weights_of tenants ≡ first_weights n → weight ≡ generated_weight n
    → more ≡ tenants ++ (name, weight) ∷ [] → weights_of more ≡ first_weights (n + 1)
weights_more tenants more n name weight weights same added =
    ap weights_of added ∙ (map-append (λ t. t.1) tenants ((name, weight) ∷ []) ∙ rw (weights, same) (sym (map-range_with_len_more generated_weight 0 n n (omega arith))))
