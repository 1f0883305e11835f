-- Lists that have just been opened.
use Rattle.std.proofs.Common.{◌≡◌, ℕ, zero, suc, ◌<◌, ◌≤◌, List, [], ◌∷◌, Option, None, length, get_or, replicate, arith, refl, sym, ap, ◌∙◌, subst}
use Rattle.std.proofs.lemmas.Bool.{false≢true}
use Rattle.std.proofs.lemmas.List.{get_or-replicate, length-replicate}
use Rattle.std.proofs.lemmas.List.Folds.{sum_by-replicate}
use Rattle.waiting_lists.specs.declared.item.Item.{Item}
use Rattle.waiting_lists.specs.declared.links.Slot.{Slot}
use Rattle.waiting_lists.specs.declared.links.Ends.{Ends}
use Rattle.waiting_lists.specs.Linked.{lists_of, count_of, AreListOf}
use Rattle.waiting_lists.specs.Kept.{KeepsCount}
use Rattle.waiting_lists.proofs.Chains.{none_not_some}
use Rattle.waiting_lists.proofs.Counts.{whole}

ends_none : (tenants t : ℕ) → t < tenants → get_or {A = Option Ends} (replicate tenants None) t None ≡ None
ends_none tenants t lt = get_or-replicate {A = Option Ends} tenants t None None lt

lists_of_none : (J : Type 0) (tenants : ℕ) → lists_of {J = J} [] (replicate tenants None) ≡ replicate tenants []
lists_of_none J zero = refl
lists_of_none J (suc tenants) = ap (λ (ls : List (List (Item J))). [] ∷ ls) (lists_of_none J tenants)

count_none : (J : Type 0) (tenants : ℕ) → count_of (lists_of {J = J} [] (replicate tenants None)) ≡ 0
count_none J tenants = ap (λ (ls : List (List (Item J))). count_of ls) (lists_of_none J tenants) ∙ sum_by-replicate (λ (l : List (Item J)). length l) tenants [] ∙ omega arith

module _ {J : Type 0} where
  pub opened_keeps : (slots : List (Slot J)) (tenants room capacity count : ℕ) (cells : List (Option ℕ)) (ends : List (Option Ends)) → slots ≡ [] → cells ≡ replicate count None → 0 < count → ends ≡ replicate tenants None → room ≤ capacity → KeepsCount slots cells ends None 0 room capacity
  opened_keeps slots tenants room capacity count cells ends no_slots no_first some all_none reserved = rw (no_slots, no_first, all_none) (record {
    kept = record {
      links = record {
        owner = λ i. tenants;
        numbers = λ t. [];
        owned = λ t i le stands. absurd stands;
        listed = λ t lt. subst (λ o. AreListOf {J = J} [] o []) (sym (ends_none tenants t (omega (arith, lt, length-replicate {A = Option Ends} tenants None)))) (record { linked = refl; back = tt; occupied = λ i s. absurd s; last = refl });
        all_listed = λ i some. absurd (false≢true some);
        spare = refl;
        short = λ t lt. omega arith;
        total = omega (arith, count_none J tenants);
      };
      index = record {
        chains = λ c. [];
        chained = λ c lt. get_or-replicate {A = Option ℕ} count c None None (omega (arith, lt, length-replicate {A = Option ℕ} count None));
        filed = λ i n e. absurd (none_not_some None n refl e);
        held = λ c i lt stands. absurd stands;
      };
      some = omega (arith, some, length-replicate {A = Option ℕ} count None);
    };
    counted = sym (count_none J tenants);
    within = omega arith;
    reserved = reserved;
  })

  pub opened_whole : (slots : List (Slot J)) (tenants room : ℕ) (ends : List (Option Ends)) → slots ≡ [] → ends ≡ replicate tenants None → whole slots ends room ≡ record { lists = replicate tenants []; slots = room }
  opened_whole slots tenants room ends no_slots all_none = rw (no_slots, all_none) (ap (λ (l : List (List (Item J))). record { lists = l; slots = room }) (lists_of_none J tenants))
