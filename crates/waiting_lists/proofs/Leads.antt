-- A slot whose link was led elsewhere.
use Rattle.std.proofs.Common.{◌≡◌, ℕ, ◌<◌, List, Option, Some, None, length, set, IfSome, refl, sym, ap, ◌∙◌, subst, inl, inr}
use Rattle.std.proofs.lemmas.Bool.{cases_eq}
use Rattle.std.proofs.lemmas.List.{length-set}
use Rattle.waiting_lists.specs.declared.links.Slot.{Slot}
use Rattle.waiting_lists.specs.Linked.{slot_at, Leads, LeadsBack}
use Rattle.waiting_lists.proofs.Chains.{none_not_some, some_is}
use Rattle.waiting_lists.proofs.Slots.{slot_at_same, slot_at_other}

module _ {J : Type 0} where
  -- one slot was written, and none where there is none
  pub record IsWritten (slots : List (Slot J)) (slot : Option ℕ) (after : List (Slot J)) : Type 0 where
    pub size : length after ≡ length slots
    pub other : (i : ℕ) → (slot ≡ Some i → ⊥) → slot_at after i ≡ slot_at slots i

  -- the link of the slot leads there, and all else is as before
  pub record IsLed (slots : List (Slot J)) (slot next : Option ℕ) (after : List (Slot J)) : Type 0 where
    pub written : IsWritten slots slot after
    pub at : (i : ℕ) → slot ≡ Some i → (slot_at after i).next ≡ next
    pub items : (i : ℕ) → (slot_at after i).item ≡ (slot_at slots i).item
    pub tenants : (i : ℕ) → (slot_at after i).tenant ≡ (slot_at slots i).tenant
    pub befores : (i : ℕ) → (slot_at after i).before ≡ (slot_at slots i).before
    pub cells : (i : ℕ) → (slot_at after i).next_in_cell ≡ (slot_at slots i).next_in_cell

  pub record IsLedBack (slots : List (Slot J)) (slot before : Option ℕ) (after : List (Slot J)) : Type 0 where
    pub written : IsWritten slots slot after
    pub at : (i : ℕ) → slot ≡ Some i → (slot_at after i).before ≡ before
    pub items : (i : ℕ) → (slot_at after i).item ≡ (slot_at slots i).item
    pub tenants : (i : ℕ) → (slot_at after i).tenant ≡ (slot_at slots i).tenant
    pub nexts : (i : ℕ) → (slot_at after i).next ≡ (slot_at slots i).next
    pub cells : (i : ℕ) → (slot_at after i).next_in_cell ≡ (slot_at slots i).next_in_cell

  module _ (slots : List (Slot J)) (p : ℕ) (s : Slot J) (lt : p < length slots) where
    pub written_one : IsWritten slots (Some p) (set slots p s)
    written_one = record {
      size = length-set slots p s;
      other = λ i ne. slot_at_other slots p i s (λ e. ne (ap Some (sym e)));
    }

    pub kept_by : {X : Type 0} (f : Slot J → X) → f s ≡ f (slot_at slots p) → (i : ℕ) → f (slot_at (set slots p s) i) ≡ f (slot_at slots i)
    kept_by f same i = elim (cases_eq i p) [
      | inl e ↦ ap (λ v. f (slot_at (set slots p s) v)) e ∙ ap f (slot_at_same slots p s lt) ∙ same ∙ ap (λ v. f (slot_at slots v)) (sym e)
      | inr ne ↦ ap f (slot_at_other slots p i s ne)
    ]

    pub read_at : {X : Type 0} (f : Slot J → X) (i : ℕ) → Some p ≡ Some i → f (slot_at (set slots p s) i) ≡ f s
    read_at f i e = ap (λ v. f (slot_at (set slots p s) v)) (sym (some_is p i e)) ∙ ap f (slot_at_same slots p s lt)

  pub led : (slots : List (Slot J)) (slot next : Option ℕ) (after : List (Slot J)) → IfSome slot (λ i. i < length slots) → Leads slots slot next after → IsLed slots slot next after
  led slots None next after lt e = subst (IsLed slots None next) (sym e) (record {
    written = record { size = refl; other = λ i ne. refl };
    at = λ i none. absurd (none_not_some None i refl none);
    items = λ i. refl;
    tenants = λ i. refl;
    befores = λ i. refl;
    cells = λ i. refl;
  })
  led slots (Some p) next after lt e =
      let s : Slot J = record (slot_at slots p) { next = next } in
      subst (IsLed slots (Some p) next) (sym e) (record {
        written = written_one slots p s lt;
        at = read_at slots p s lt (λ (s : Slot J). s.next);
        items = kept_by slots p s lt (λ (s : Slot J). s.item) refl;
        tenants = kept_by slots p s lt (λ (s : Slot J). s.tenant) refl;
        befores = kept_by slots p s lt (λ (s : Slot J). s.before) refl;
        cells = kept_by slots p s lt (λ (s : Slot J). s.next_in_cell) refl;
      })

  pub led_back : (slots : List (Slot J)) (slot before : Option ℕ) (after : List (Slot J)) → IfSome slot (λ i. i < length slots) → LeadsBack slots slot before after → IsLedBack slots slot before after
  led_back slots None before after lt e = subst (IsLedBack slots None before) (sym e) (record {
    written = record { size = refl; other = λ i ne. refl };
    at = λ i none. absurd (none_not_some None i refl none);
    items = λ i. refl;
    tenants = λ i. refl;
    nexts = λ i. refl;
    cells = λ i. refl;
  })
  led_back slots (Some p) before after lt e =
      let s : Slot J = record (slot_at slots p) { before = before } in
      subst (IsLedBack slots (Some p) before) (sym e) (record {
        written = written_one slots p s lt;
        at = read_at slots p s lt (λ (s : Slot J). s.before);
        items = kept_by slots p s lt (λ (s : Slot J). s.item) refl;
        tenants = kept_by slots p s lt (λ (s : Slot J). s.tenant) refl;
        nexts = kept_by slots p s lt (λ (s : Slot J). s.next) refl;
        cells = kept_by slots p s lt (λ (s : Slot J). s.next_in_cell) refl;
      })
