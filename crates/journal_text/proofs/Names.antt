-- The words for policies and estimators are texts, and are parsed as the definitions read them.
use Rattle.std.proofs.Common.{ℕ, zero, suc, ◌+◌, ◌<◌, ◌≡◌, ◌==◌, ◌&&◌, ◌||◌, ◌⊎◌, inl, inr, ◌∙◌, nat_lt, nat_le, cond, Bool, true, false, List, [], ◌∷◌, length, Option, Some, None, is_some, Result, Ok, Err, refl, subst, sym, arith}
use Rattle.std.specs.Prelude.{codes, ok_or}
use Rattle.std.specs.Result.{result_ok}
use Rattle.std.specs.Str.{IsAscii, IsUtf8, bytes_eq}
use Rattle.std.proofs.lemmas.Str.{IsUtf8-from_ascii}
use Rattle.std.specs.List.{list_any, list_all, position_or_len}
use Rattle.std.proofs.lemmas.Bool.{ltb-true, ltb-false, lt-ltb, leb-true, eqb-true, false≢true}
use Rattle.std.proofs.lemmas.Slice.Eq.{bytes_eq-Decides}
use Rattle.fq_model.specs.Spelling.{is_digit, is_name_byte, is_name, policy_of, estimator_of}
use Rattle.fq_model.specs.Names.{number_among}
use Rattle.program_model.specs.Document.{new_among}
use Rattle.program_model.specs.declared.fault.ScriptKind.TheVariants.{Twice}

-- an option through a result
pub named : {A E : Type 0} (o : Option A) (e : E) (r : Result A E) → r ≡ ok_or o e → result_ok r ≡ o
named None e r is = rw is refl
named (Some x) e r is = rw is refl

unlike : (bs word : List ℕ) → ¬ IsUtf8 bs → IsUtf8 word → bytes_eq bs word ≡ false
unlike bs word bad good = go (bytes_eq bs word) refl
  where
    go : (t : Bool) → bytes_eq bs word ≡ t → t ≡ false
    go false e = refl
    go true e = absurd (bad (subst IsUtf8 (sym ((bytes_eq-Decides bs word).0 e)) good))

abbrev all_ascii : List ℕ → Bool
all_ascii [] = true
all_ascii (b ∷ bs) = nat_lt b 128 && all_ascii bs

split : (a b : Bool) → (a && b) ≡ true → (a ≡ true) × (b ≡ true)
split true b h = (refl, h)
split false b h = absurd (cc)

is_ascii : (bs : List ℕ) → all_ascii bs ≡ true → IsAscii bs
is_ascii [] is i = omega arith
is_ascii (b ∷ bs) is zero = ltb-true b 128 (split (nat_lt b 128) (all_ascii bs) is).0
is_ascii (b ∷ bs) is (suc i) = is_ascii bs (split (nat_lt b 128) (all_ascii bs) is).1 i

-- a text of ASCII bytes is none of those that are no text
no_word : (bs word : List ℕ) → ¬ IsUtf8 bs → all_ascii word ≡ true → bytes_eq bs word ≡ false
no_word bs word bad is = unlike bs word bad (IsUtf8-from_ascii word (is_ascii word is))

pub no_policy : (bs : List ℕ) → ¬ IsUtf8 bs → None ≡ policy_of bs
no_policy bs bad =
    rw (no_word bs (codes "wfq") bad refl, no_word bs (codes "wf2q") bad refl, no_word bs (codes "msf2q") bad refl, no_word bs (codes "2dfq") bad refl, no_word bs (codes "2dfq+") bad refl) refl

pub no_estimator : (bs : List ℕ) → ¬ IsUtf8 bs → None ≡ estimator_of bs
no_estimator bs bad =
    rw (no_word bs (codes "declared") bad refl, no_word bs (codes "recent") bad refl, no_word bs (codes "pessimistic") bad refl) refl

either : (a b : Bool) → (a || b) ≡ true → (a ≡ true) ⊎ (b ≡ true)
either true b h = inl refl
either false b h = inr h

between : (low high b : ℕ) → high < 128 → (nat_le low b && nat_le b high) ≡ true → b < 128
between low high b small h = omega (arith, small, leb-true b high (split (nat_le low b) (nat_le b high) h).1)

byte_is_ascii : (b : ℕ) → is_name_byte b ≡ true → b < 128
byte_is_ascii b h =
    elim (either (is_digit b) _ h) [
      | inl digit ↦ between 48 57 b (omega arith) digit
      | inr h ↦ elim (either (nat_le 65 b && nat_le b 90) _ h) [
        | inl upper ↦ between 65 90 b (omega arith) upper
        | inr h ↦ elim (either (nat_le 97 b && nat_le b 122) _ h) [
          | inl lower ↦ between 97 122 b (omega arith) lower
          | inr h ↦ elim (either (b == 95) _ h) [
            | inl e ↦ omega (arith, eqb-true b 95 e)
            | inr h ↦ elim (either (b == 45) _ h) [
              | inl e ↦ omega (arith, eqb-true b 45 e)
              | inr e ↦ omega (arith, eqb-true b 46 e)
            ]
          ]
        ]
      ]
    ]

bytes_are_ascii : (bs : List ℕ) → list_all is_name_byte bs ≡ true → IsAscii bs
bytes_are_ascii [] h i = omega arith
bytes_are_ascii (b ∷ bs) h zero = byte_is_ascii b (split (is_name_byte b) (list_all is_name_byte bs) h).0
bytes_are_ascii (b ∷ bs) h (suc i) = bytes_are_ascii bs (split (is_name_byte b) (list_all is_name_byte bs) h).1 i

-- bytes that are no text are no name
pub no_name : (bs : List ℕ) → ¬ IsUtf8 bs → is_name bs ≡ false
no_name bs bad = go (is_name bs) refl
  where
    go : (t : Bool) → is_name bs ≡ t → t ≡ false
    go false e = refl
    go true e = absurd (bad (IsUtf8-from_ascii bs (bytes_are_ascii bs (split (nat_le (length bs) 64) _ (split (nat_le 1 (length bs)) _ e).1).1)))

same_bytes : (a b : List ℕ) → bytes_eq a b ≡ bytes_eq b a
same_bytes a b = go (bytes_eq a b) (bytes_eq b a) refl refl
  where
    go : (s t : Bool) → bytes_eq a b ≡ s → bytes_eq b a ≡ t → s ≡ t
    go true true e f = refl
    go false false e f = refl
    go true false e f = absurd (false≢true (sym f ∙ (bytes_eq-Decides b a).1 (sym ((bytes_eq-Decides a b).0 e))))
    go false true e f = absurd (false≢true (sym e ∙ (bytes_eq-Decides a b).1 (sym ((bytes_eq-Decides b a).0 f))))

one_more : (a b : ℕ) → nat_lt a b ≡ nat_lt (1 + a) (suc b)
one_more a b = go (nat_lt a b) (nat_lt (1 + a) (suc b)) refl refl
  where
    go : (s t : Bool) → nat_lt a b ≡ s → nat_lt (1 + a) (suc b) ≡ t → s ≡ t
    go true true e f = refl
    go false false e f = refl
    go true false e f = absurd (omega (arith, ltb-true a b e, ltb-false (1 + a) (suc b) f))
    go false true e f = absurd (omega (arith, ltb-false a b e, ltb-true (1 + a) (suc b) f))

any_is_place : (names : List (List ℕ)) (name : List ℕ) → list_any (λ other. bytes_eq other name) names ≡ nat_lt (position_or_len (bytes_eq name) names) (length names)
any_is_place [] name = refl
any_is_place (other ∷ names) name = more (bytes_eq name other) refl (any_is_place names name)
  where
    more : (t : Bool) → bytes_eq name other ≡ t → list_any (λ o. bytes_eq o name) names ≡ nat_lt (position_or_len (bytes_eq name) names) (length names)
        → list_any (λ o. bytes_eq o name) (other ∷ names) ≡ nat_lt (position_or_len (bytes_eq name) (other ∷ names)) (length (other ∷ names))
    more true e rest = rw (same_bytes other name, e) (sym (lt-ltb 0 (suc (length names)) (omega arith)))
    more false e rest = rw (same_bytes other name, e) (rest ∙ one_more (position_or_len (bytes_eq name) names) (length names))

is_some_cond : (t : Bool) (n : ℕ) → is_some (cond t (Some n) None) ≡ t
is_some_cond true n = refl
is_some_cond false n = refl

-- one of the names is this exactly where it has a number
told : (names : List (List ℕ)) (name : List ℕ) → list_any (λ other. bytes_eq other name) names ≡ is_some (number_among names name)
told names name = any_is_place names name ∙ sym (is_some_cond _ (position_or_len (bytes_eq name) names))

pub told_twice : (names : List (List ℕ)) (name : List ℕ) (t : ℕ) → number_among names name ≡ Some t → new_among names name ≡ Err Twice
told_twice names name t is = rw (told names name, is) refl

pub told_first : (names : List (List ℕ)) (name : List ℕ) → number_among names name ≡ None → new_among names name ≡ Ok name
told_first names name is = rw (told names name, is) refl
