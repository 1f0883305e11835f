-- Names of tenants or of kinds, numbered from 0 in their order.
use Rattle.std.specs.Prelude.{ℕ, ◌≢◌, ◌≤◌, IsTrue, if◌then◌else◌, List, [], ◌∷◌, ◌++◌, length, position, All, AllPairs, Option, is_some, unwrap_or, bytes_eq}
use Rattle.fq_model.specs.Spelling.{is_name}

-- the number that has a name, if one has it
abbrev pub number_among : List (List ℕ) → List ℕ → Option ℕ
number_among names name = position (bytes_eq name) names

-- at most `limit` texts, each of them a name, and no two alike
pub record AreNames (limit : ℕ) (names : List (List ℕ)) : Type 0 where
  pub few : length names ≤ limit
  pub spelled : All (λ name. IsTrue (is_name name)) names
  pub distinct : AllPairs ◌≢◌ names

-- the number that a name has, or that it gets where it is new
abbrev pub number_by_appearance : List (List ℕ) → List ℕ → ℕ
number_by_appearance names name = unwrap_or (number_among names name) (length names)

-- the names, and a new one at their end
abbrev pub with_appearance : List (List ℕ) → List ℕ → List (List ℕ)
with_appearance names name = if is_some (number_among names name) then names else names ++ name ∷ []
