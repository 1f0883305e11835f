-- The bytes of a name are ASCII, and one that is written over 64 bytes of 0 is held in them.
use Rattle.std.proofs.Common.{ℕ, zero, suc, ◌<◌, ◌≤◌, ◌≡◌, ◌==◌, ◌&&◌, ◌||◌, ◌⊎◌, inl, inr, nat_le, Bool, true, false, List, [], ◌∷◌, ◌++◌, length, take, drop, replicate, refl, sym, ap, ◌∙◌, arith}
use Rattle.std.specs.Str.{IsAscii}
use Rattle.std.specs.List.{list_all}
use Rattle.std.proofs.lemmas.List.{drop-replicate}
use Rattle.std.proofs.Math.Seq.{take-append_seam}
use Rattle.std.proofs.lemmas.Bool.{le-leb, leb-true, eqb-true}
use Rattle.fq_model.specs.Spelling.{is_digit, is_name_byte, is_name}
use Rattle.program_model.specs.Names.{padded, HoldsName}

split : (a b : Bool) → (a && b) ≡ true → (a ≡ true) × (b ≡ true)
split true b h = (refl, h)
split false b h = absurd (cc)

either : (a b : Bool) → (a || b) ≡ true → (a ≡ true) ⊎ (b ≡ true)
either true b h = inl refl
either false b h = inr h

between : (low high b : ℕ) → high < 128 → (nat_le low b && nat_le b high) ≡ true → b < 128
between low high b small h = omega (arith, small, leb-true b high (split (nat_le low b) (nat_le b high) h).1)

byte_is_ascii : (b : ℕ) → is_name_byte b ≡ true → b < 128
byte_is_ascii b h =
    elim (either (is_digit b) _ h) [
      | inl digit ↦ between 48 57 b (omega arith) digit
      | inr h ↦ elim (either (nat_le 65 b && nat_le b 90) _ h) [
        | inl upper ↦ between 65 90 b (omega arith) upper
        | inr h ↦ elim (either (nat_le 97 b && nat_le b 122) _ h) [
          | inl lower ↦ between 97 122 b (omega arith) lower
          | inr h ↦ elim (either (b == 95) _ h) [
            | inl e ↦ omega (arith, eqb-true b 95 e)
            | inr h ↦ elim (either (b == 45) _ h) [
              | inl e ↦ omega (arith, eqb-true b 45 e)
              | inr e ↦ omega (arith, eqb-true b 46 e)
            ]
          ]
        ]
      ]
    ]

bytes_are_ascii : (bs : List ℕ) → list_all is_name_byte bs ≡ true → IsAscii bs
bytes_are_ascii [] h i = omega arith
bytes_are_ascii (b ∷ bs) h zero = byte_is_ascii b (split (is_name_byte b) (list_all is_name_byte bs) h).0
bytes_are_ascii (b ∷ bs) h (suc i) = bytes_are_ascii bs (split (is_name_byte b) (list_all is_name_byte bs) h).1 i

pub name_ascii : (bs : List ℕ) → is_name bs ≡ true → IsAscii bs
name_ascii bs h = bytes_are_ascii bs (split (nat_le (length bs) 64) _ (split (nat_le 1 (length bs)) _ h).1).1

-- a name that is written over 64 bytes of 0 is held in them
pub held_in : (front text : List ℕ) → front ≡ text → is_name text ≡ true → HoldsName (front ++ drop (length text) (replicate 64 0)) (length text)
held_in front text same is =
    let seam : take (length text) (front ++ drop (length text) (replicate 64 0)) ≡ text = ap (λ l. take (length text) (l ++ drop (length text) (replicate 64 0))) same ∙ take-append_seam text _ in
    record {
      whole = sym (ap length seam);
      rest = ap (λ l. l ++ drop (length text) (replicate 64 0)) same ∙ (ap (λ l. text ++ l) (drop-replicate (length text) 64 0) ∙ sym (ap padded seam));
      spelled = ap is_name seam ∙ is;
    }
