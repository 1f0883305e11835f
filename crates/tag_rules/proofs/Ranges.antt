-- The invariant of accounts after a write.
use Rattle.std.proofs.Common.{ℕ, arith, ◌<◌, ◌≡◌, refl, sym, ◌∙◌, List, length, slice_set, get_or, slice_index_or, ℤ, pos, length-set}
use Rattle.std.proofs.lemmas.List.Elements.{All-set}
use Rattle.std.proofs.lemmas.Option.{slice_get_read, get_or_from_slice_get}
use Rattle.tag_rules.specs.Accounts.{IsCharge, IsBase, IsSound}

-- a number that was read
pub read : (numbers : List ℤ) (t : ℕ) (x : ℤ) → t < length numbers → x ≡ get_or numbers t x → slice_index_or numbers t (pos 0) ≡ x
read numbers t x known is = get_or_from_slice_get numbers t x (pos 0) (slice_get_read numbers _ t x refl known is)

-- a base and a charge that were read, and their ranges
pub record Seen (charges bases : List ℤ) (t : ℕ) (base charge : ℤ) : Type 0 where
  pub base_is : slice_index_or bases t (pos 0) ≡ base
  pub charge_is : slice_index_or charges t (pos 0) ≡ charge
  pub base_in : IsBase base
  pub charge_in : IsCharge charge

pub seen : (charges bases : List ℤ) (t : ℕ) (base charge : ℤ) → IsSound (record { charges = charges; bases = bases }) → t < length charges → base ≡ get_or bases t base → charge ≡ get_or charges t charge → Seen charges bases t base charge
seen charges bases t base charge is known base_read charge_read =
    let paired : t < length bases = omega (arith, known, is.paired) in
    let base_is = read bases t base paired base_read in
    let charge_is = read charges t charge known charge_read in
    record {
      base_is = base_is;
      charge_is = charge_is;
      base_in = rw (← base_is) (is.bases_in_range t (pos 0) paired);
      charge_in = rw (← charge_is) (is.charges_in_range t (pos 0) known);
    }

pub sound_charge : (charges bases : List ℤ) (t : ℕ) (x : ℤ) → IsCharge x → IsSound (record { charges = charges; bases = bases }) → IsSound (record { charges = slice_set charges t x; bases = bases })
sound_charge charges bases t x new is = record {
  paired = is.paired ∙ sym (length-set charges t x);
  charges_in_range = All-set IsCharge charges t x new is.charges_in_range;
  bases_in_range = is.bases_in_range;
}

pub sound_base : (charges bases : List ℤ) (t : ℕ) (x : ℤ) → IsBase x → IsSound (record { charges = charges; bases = bases }) → IsSound (record { charges = charges; bases = slice_set bases t x })
sound_base charges bases t x new is = record {
  paired = length-set bases t x ∙ is.paired;
  charges_in_range = is.charges_in_range;
  bases_in_range = All-set IsBase bases t x new is.bases_in_range;
}
