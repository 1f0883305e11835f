-- The answer to adding a name, and the weights that are read one by one.
use Rattle.std.proofs.Common.{ℕ, ◌+◌, ◌<◌, ◌≤◌, ◌≡◌, true, false, Option, List, [], ◌∷◌, ◌++◌, length, take, Some, None, refl, sym, ap, ◌∙◌, subst, arith, Result, Ok, Err}
use Rattle.std.specs.Prelude.{slice_index}
use Rattle.std.specs.Result.{IsErr, IsErrAnd}
use Rattle.std.proofs.lemmas.Bool.{le-leb, lt-leb}
use Rattle.std.proofs.lemmas.List.{take_more}
use Rattle.fq_model.specs.Limits.{IsTextWeight, is_outside}
use Rattle.fq_model.specs.Spelling.{is_name}
use Rattle.tenant_table.specs.declared.fault.NameFault.{NameFault}
use Rattle.tenant_table.specs.declared.fault.NameFault.TheVariants.{Word, Twice, TooMany, NoMemory}
use Rattle.tenant_table.specs.Names.{names_of, weights_of, number_among, kind_refusal, tenant_refusal, IsReason, IsAnswer}
use Rattle.tenant_table.proofs.Tables.{length_weights}

-- ---- a kind

pub kind_word : (kinds : List (List ℕ)) (name : List ℕ) → is_name name ≡ false → kind_refusal kinds name ≡ Some Word
kind_word kinds name word = rw word refl

pub kind_twice : (kinds : List (List ℕ)) (name : List ℕ) (k : ℕ) → is_name name ≡ true → number_among kinds name ≡ Some k → kind_refusal kinds name ≡ Some (Twice k)
kind_twice kinds name k spelled among = rw (spelled, among) refl

pub kind_full : (kinds : List (List ℕ)) (name : List ℕ) → is_name name ≡ true → number_among kinds name ≡ None → 64 ≤ length kinds → kind_refusal kinds name ≡ Some (TooMany 64)
kind_full kinds name spelled none full = rw (spelled, none, le-leb 64 (length kinds) full) refl

pub kind_new : (kinds : List (List ℕ)) (name : List ℕ) → is_name name ≡ true → number_among kinds name ≡ None → length kinds < 64 → kind_refusal kinds name ≡ None
kind_new kinds name spelled none room = rw (spelled, none, lt-leb 64 (length kinds) room) refl

-- ---- a tenant

weighs : (weight : ℕ) → IsTextWeight weight → is_outside 1 1000 weight ≡ false
weighs weight is = grind arith

pub tenant_word : (tenants : List (List ℕ × ℕ)) (name : List ℕ) (weight : ℕ) → is_name name ≡ false → tenant_refusal tenants name weight ≡ Some Word
tenant_word tenants name weight word = rw word refl

pub tenant_twice : (tenants : List (List ℕ × ℕ)) (name : List ℕ) (weight t : ℕ) → is_name name ≡ true → IsTextWeight weight → number_among (names_of tenants) name ≡ Some t → tenant_refusal tenants name weight ≡ Some (Twice t)
tenant_twice tenants name weight t spelled is among = rw (spelled, weighs weight is, among) refl

pub tenant_full : (tenants : List (List ℕ × ℕ)) (name : List ℕ) (weight : ℕ) → is_name name ≡ true → IsTextWeight weight → number_among (names_of tenants) name ≡ None → 4096 ≤ length tenants → tenant_refusal tenants name weight ≡ Some (TooMany 4096)
tenant_full tenants name weight spelled is none full = rw (spelled, weighs weight is, none, le-leb 4096 (length tenants) full) refl

pub tenant_new : (tenants : List (List ℕ × ℕ)) (name : List ℕ) (weight : ℕ) → is_name name ≡ true → IsTextWeight weight → number_among (names_of tenants) name ≡ None → length tenants < 4096 → tenant_refusal tenants name weight ≡ None
tenant_new tenants name weight spelled is none room = rw (spelled, weighs weight is, none, lt-leb 4096 (length tenants) room) refl

-- ---- either

-- where nothing speaks against it and no number is given, memory ran out
pub no_memory : (result : Result ℕ NameFault) (number : ℕ) (refusal : Option NameFault) → IsErr result × IsErrAnd result (λ fault. fault ≡ NoMemory) → refusal ≡ None → IsAnswer result number refusal
no_memory (Ok n) number refusal is none = absurd is.1
no_memory (Err fault) number refusal is none = subst (λ f. IsReason f refusal) (sym is.1) none

-- ---- the weights

pub weights_more : (tenants : List (List ℕ × ℕ)) (t weight : ℕ) (before after : List ℕ) → t < length tenants → before ≡ take t (weights_of tenants) → weight ≡ slice_index (weights_of tenants) t → after ≡ before ++ weight ∷ [] → after ≡ take (t + 1) (weights_of tenants)
weights_more tenants t weight before after below so_far is pushed =
    pushed ∙ (ap (λ l. l ++ weight ∷ []) so_far ∙ (ap (λ w. take t (weights_of tenants) ++ w ∷ []) is ∙ sym (take_more (weights_of tenants) t 0 (rw (length_weights tenants) below))))
