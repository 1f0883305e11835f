-- Names that a command holds: texts of at most 64 bytes, each in 64 bytes.
use Rattle.std.specs.Prelude.{ℕ, ◌-◌, ◌≡◌, IsTrue, List, ◌++◌, length, take, replicate}
use Rattle.fq_model.specs.Spelling.{is_name}

-- 64 bytes that begin with a text, and are 0 above it
abbrev pub padded : List ℕ → List ℕ
padded text = text ++ replicate (64 - length text) 0

-- the first `len` of these bytes are a name, and the others are 0
pub record HoldsName (bytes : List ℕ) (len : ℕ) : Type 0 where
  pub whole : len ≡ length (take len bytes)
  pub rest : bytes ≡ padded (take len bytes)
  pub spelled : IsTrue (is_name (take len bytes))
