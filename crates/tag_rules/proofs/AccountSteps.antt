-- The accounts of a history at one entry more.
use Rattle.std.proofs.Common.{ℕ, ◌-◌, ◌<◌, ◌≡◌, ◌≢◌, max, true, false, arith, refl, ap, sym, subst, ◌∙◌, inl, inr, ◌⊎◌, ◌∷◌, [], List, length, slice_set, None, Some, ℤ, pos, ◌+ℤ◌, ◌-ℤ◌, length-set, get_or-set_same, get_or-set_other}
use Rattle.std.specs.Int.{int_max}
use Rattle.std.proofs.lemmas.Bool.{cases_eq}
use Rattle.std.proofs.lemmas.Int.{ints, clamps}
use Rattle.std.proofs.lemmas.List.{get_or-replicate, length-replicate}
use Rattle.fq_model.specs.declared.config.Config.{Config}
use Rattle.fq_model.specs.declared.event.Act.{Act}
use Rattle.fq_model.specs.declared.event.Act.TheVariants.{Submit, Withdraw}
use Rattle.fq_model.specs.declared.event.Entry.{Entry}
use Rattle.fq_model.specs.Limits.{InLimits}
use Rattle.fq_model.specs.History.{is_submit, History, head}
use Rattle.fq_model.specs.Pace.{virtual_time, tag_base}
use Rattle.fq_model.specs.Charge.{virtual_charge}
use Rattle.fq_model.specs.Keys.{tag}
use Rattle.fq_model.specs.Rules.{IsLegal}
use Rattle.fq_laws.specs.Words.{one_more, is_quiet}
use Rattle.fq_laws.proofs.Charge.Tenants.{virtual_charge_nil, virtual_charge_submit, virtual_charge_withdraw, virtual_charge_quiet}
use Rattle.fq_laws.proofs.Keys.Pace.{base_nil, base_step}
use Rattle.fq_laws.proofs.Keys.Tags.{base_submit, base_submit_waiting, base_submit_other, base_quiet, tag_is}
use Rattle.fq_laws.proofs.Charge.Limits.{virtual_charge_within}
use Rattle.tag_rules.specs.Accounts.{AccountsView, at_first, charge_of, base_of, raised, charged, IsCharge, AccountsAre}

-- new accounts are those of the empty history
pub accounts_nil : (C : Config) → AccountsAre C [] (at_first (length C.weights))
accounts_nil C = record {
  charges_sized = length-replicate (length C.weights) (pos 0);
  bases_sized = length-replicate (length C.weights) (pos 0);
  charges_are = λ t known. get_or-replicate (length C.weights) t (pos 0) (pos 0) known ∙ ap pos (sym (virtual_charge_nil C t));
  bases_are = λ t known. get_or-replicate (length C.weights) t (pos 0) (pos 0) known ∙ ap pos (sym (base_nil C t));
}

-- ---- a Submit

-- one tenant's number is written, and those of the others stay
written : (C : Config) (t : ℕ) (numbers : List ℤ) (new : ℤ) (before after_it : ℕ → ℕ) → length numbers ≡ length C.weights → t < length C.weights → new ≡ pos (after_it t) → ((u : ℕ) → u ≢ t → after_it u ≡ before u) → ((u : ℕ) → u < length C.weights → charge_of (record { charges = numbers; bases = [] }) u ≡ pos (before u)) → (u : ℕ) → u < length C.weights → charge_of (record { charges = slice_set numbers t new; bases = [] }) u ≡ pos (after_it u)
written C t numbers new before after_it sized known own others are u b = elim (cases_eq u t) [
  | inl same ↦ rw (same, get_or-set_same numbers t new (pos 0) (omega (arith, sized, known))) own
  | inr other ↦ rw (get_or-set_other numbers t u new (pos 0) other) (are u b ∙ ap pos (sym (others u other)))
]

-- the greater of two bases
greater : (base charge time : ℤ) (b v c : ℕ) → base ≡ pos b → time ≡ pos v → charge ≡ pos c → int_max base (time -ℤ charge) ≡ pos (max (v - c) b)
greater base charge time b v c p q r = rw (p, q, r) (omega (arith, ints, clamps))

-- a Submit that finds none of its tenant's requests waiting raises the tag of its tenant to virtual time
pub accounts_raise : (C : Config) (P : History) (a : AccountsView) (who m r t k d x : ℕ) → InLimits C → IsLegal C (one_more who m (Submit r t k d x) P) → head P t ≡ None → AccountsAre C P a → AccountsAre C (one_more who m (Submit r t k d x) P) (raised a t (pos (virtual_time C P m)))
accounts_raise C P a who m r t k d x lim l none is = record {
  charges_sized = is.charges_sized;
  bases_sized = length-set a.bases t _ ∙ is.bases_sized;
  charges_are = λ u b. is.charges_are u b ∙ ap pos (sym (virtual_charge_submit C P who m u r t k d x l.0 l.3.numbered));
  bases_are = written C t a.bases _ (tag_base C P) (tag_base C (one_more who m (Submit r t k d x) P)) is.bases_sized l.3.tenant_known
      (greater (base_of a t) (charge_of a t) (pos (virtual_time C P m)) (tag_base C P t) (virtual_time C P m) (virtual_charge C P t) (is.bases_are t l.3.tenant_known) refl (is.charges_are t l.3.tenant_known) ∙ ap pos (sym (base_submit C P who m r t k d x none)))
      (λ u other. base_submit_other C P who m u r t k d x (λ e. other (sym e)))
      is.bases_are;
}

-- a Submit that finds one waiting leaves the accounts
pub accounts_leave : (C : Config) (P : History) (a : AccountsView) (who m r t k d x first : ℕ) → InLimits C → IsLegal C (one_more who m (Submit r t k d x) P) → head P t ≡ Some first → AccountsAre C P a → AccountsAre C (one_more who m (Submit r t k d x) P) a
accounts_leave C P a who m r t k d x first lim l some is = record {
  charges_sized = is.charges_sized;
  bases_sized = is.bases_sized;
  charges_are = λ u b. is.charges_are u b ∙ ap pos (sym (virtual_charge_submit C P who m u r t k d x l.0 l.3.numbered));
  bases_are = λ u b. is.bases_are u b ∙ ap pos (sym (kept u (cases_eq t u)));
}
  where
    kept : (u : ℕ) → ((t ≡ u) ⊎ (t ≢ u)) → tag_base C (one_more who m (Submit r t k d x) P) u ≡ tag_base C P u
    kept u (inl same) = subst (λ s. tag_base C (one_more who m (Submit r t k d x) P) s ≡ tag_base C P s) same (base_submit_waiting C P who m t r t k d x first some)
    kept u (inr other) = base_submit_other C P who m u r t k d x other

-- ---- the other acts

base_left_at : (C : Config) (P : History) (who m t : ℕ) (a : Act) → is_submit a ≡ false → tag_base C (one_more who m a P) t ≡ tag_base C P t
base_left_at C P who m t (Submit request tenant kind declared label) h = absurd (cc)
base_left_at C P who m t a h = base_step C P (record { who = who; moment = m; act = a }) t

-- an entry that is no Submit, and that changes the virtual charge of one tenant alone, charges that tenant the change
pub accounts_charge : (C : Config) (P : History) (a : AccountsView) (e : Entry) (t : ℕ) (delta : ℤ) → is_submit e.act ≡ false → t < length C.weights → pos (virtual_charge C P t) +ℤ delta ≡ pos (virtual_charge C (e ∷ P) t) → ((u : ℕ) → u ≢ t → virtual_charge C (e ∷ P) u ≡ virtual_charge C P u) → AccountsAre C P a → AccountsAre C (e ∷ P) (charged a t delta)
accounts_charge C P a e t delta no_submit known own others is = record {
  charges_sized = length-set a.charges t _ ∙ is.charges_sized;
  bases_sized = is.bases_sized;
  charges_are = written C t a.charges _ (virtual_charge C P) (virtual_charge C (e ∷ P)) is.charges_sized known (ap (λ c. c +ℤ delta) (is.charges_are t known) ∙ own) others is.charges_are;
  bases_are = λ u b. is.bases_are u b ∙ ap pos (sym (base_left_at C P e.who e.moment u e.act no_submit));
}

-- and the charge that it leaves is in its limits
pub may_charge : (C : Config) (P : History) (a : AccountsView) (e : Entry) (t : ℕ) (delta : ℤ) → InLimits C → IsLegal C (e ∷ P) → t < length C.weights → pos (virtual_charge C P t) +ℤ delta ≡ pos (virtual_charge C (e ∷ P) t) → AccountsAre C P a → IsCharge (charge_of a t +ℤ delta)
may_charge C P a e t delta lim l known own is =
    let low = virtual_charge_within C (e ∷ P) t lim l in
    let is_now = is.charges_are t known in
    (omega (arith, ints, own, is_now), omega (arith, ints, own, is_now, low))

-- a Withdraw leaves the accounts: its request was not charged
pub accounts_withdraw : (C : Config) (P : History) (a : AccountsView) (who m r : ℕ) → AccountsAre C P a → AccountsAre C (one_more who m (Withdraw r) P) a
accounts_withdraw C P a who m r is = record {
  charges_sized = is.charges_sized;
  bases_sized = is.bases_sized;
  charges_are = λ u b. is.charges_are u b ∙ ap pos (sym (virtual_charge_withdraw C P who m u r));
  bases_are = λ u b. is.bases_are u b ∙ ap pos (sym (base_left_at C P who m u (Withdraw r) refl));
}

-- an act that touches no request leaves the accounts
pub accounts_quiet : (C : Config) (P : History) (a : AccountsView) (who m : ℕ) (act : Act) → is_quiet act ≡ true → AccountsAre C P a → AccountsAre C (one_more who m act P) a
accounts_quiet C P a who m act quiet is = record {
  charges_sized = is.charges_sized;
  bases_sized = is.bases_sized;
  charges_are = λ u b. is.charges_are u b ∙ ap pos (sym (virtual_charge_quiet C P who m u act quiet));
  bases_are = λ u b. is.bases_are u b ∙ ap pos (sym (base_quiet C P who m u act quiet));
}

-- the tag of a tenant is its charge and its base
pub tag_is_sum : (C : Config) (P : History) (a : AccountsView) (t : ℕ) → t < length C.weights → AccountsAre C P a → charge_of a t +ℤ base_of a t ≡ pos (tag C P t)
tag_is_sum C P a t known is = rw (is.charges_are t known, is.bases_are t known) (omega (arith, ints, tag_is C P t))
