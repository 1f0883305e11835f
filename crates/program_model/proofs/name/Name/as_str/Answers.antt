use Rattle.std.proofs.Common.{Result, Ok, Err, IsOk, MatchResult, refl}
use Rattle.std.proofs.lemmas.Str.{IsUtf8-from_ascii}
use Rattle.std.specs.Str.{IsUtf8}
use Rattle.program_model.proofs.Names.{name_ascii}
use Rattle.program_model.proofs.name.Name.as_str.Goals as goal

-- a text of UTF-8 is read
is_read : {A E : Type 0} (U : Type 0) (P : A → Type 0) (Q : E → Type 0) (r : Result A E) → U → MatchResult r P (λ e. ¬ U × Q e) → IsOk r
is_read U P Q (Ok text) is_text h = refl
is_read U P Q (Err fault) is_text h = absurd (h.0 is_text)

-- the bytes of a name are ASCII
pub unwrap-requires : goal.unwrap-requires
unwrap-requires c = is_read _ _ _ c.from_utf8.result (IsUtf8-from_ascii _ (name_ascii _ c.self.invariant.spelled)) c.from_utf8.ensures.cases
