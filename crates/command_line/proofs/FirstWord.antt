-- The row of a table whose command the first word is.
use Rattle.std.proofs.Common.{ℕ, ◌≡◌, ◌≢◌, false, List, [], ◌∷◌, map, length, find, None, String, Global, string_bytes, bytes_eq, refl, sym, ap, ◌∙◌, arith}
use Rattle.std.specs.Option.{option_and_then}
use Rattle.std.proofs.lemmas.Bool.{false_from_ne_true}
use Rattle.std.proofs.lemmas.Slice.Eq.{bytes_eq-Decides}
use Rattle.program_model.specs.Options.{CommandRow, command_by, command_of}

-- no words are no command
pub command_none : {C : Type 0} (table : List (CommandRow C)) (words : List (String Global)) → length words ≡ 0 → command_of table (map string_bytes words) ≡ None
unfolding command_of
command_none table [] e = refl
command_none table (word ∷ words) e = absurd (omega arith)

-- the first word names the row
pub command_first : {C : Type 0} (table : List (CommandRow C)) (words : List (String Global)) (word : String Global) (rest : List (String Global)) → words ≡ word ∷ rest → command_of table (map string_bytes words) ≡ option_and_then (command_by (map string_bytes rest)) (find (λ row. bytes_eq row.word (string_bytes word)) table)
unfolding command_of
command_first table words word rest e = ap (λ w. command_of table (map string_bytes w)) e

-- the first word is spelled so
pub command_named : {C : Type 0} (table : List (CommandRow C)) (words : List (String Global)) (word : String Global) (rest : List (String Global)) (name : List ℕ) → words ≡ word ∷ rest → string_bytes word ≡ name → command_of table (map string_bytes words) ≡ option_and_then (command_by (map string_bytes rest)) (find (λ row. bytes_eq row.word name) table)
command_named table words word rest name e named = command_first table words word rest e ∙ ap (λ w. option_and_then (command_by (map string_bytes rest)) (find (λ row. bytes_eq row.word w) table)) named

pub other_word : (x y : List ℕ) → x ≢ y → bytes_eq y x ≡ false
other_word x y ne = false_from_ne_true (bytes_eq y x) (λ e. ne (sym ((bytes_eq-Decides y x).0 e)))
