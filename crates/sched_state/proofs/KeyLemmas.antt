-- The keys of heads in a chooser.
use Rattle.std.proofs.Common.{ℕ, ◌<◌, ◌≤◌, ◌≡◌, ◌≢◌, false, arith, refl, sym, ap, subst, ◌∙◌, inl, inr, [], ◌∷◌, length, slice_set, length-set, get_or-set_same, get_or-set_other, Option, Some, None, ℤ, pos, ◌≤ℤ◌, IfSome}
use Rattle.std.specs.Prelude.{slice_get, replicate}
use lib.ListN.{get_or}
use Rattle.std.proofs.lemmas.Bool.{cases_eq, false≢true}
use Rattle.std.proofs.lemmas.Int.{ints}
use Rattle.std.proofs.lemmas.List.{get_or-replicate, length-replicate}
use Rattle.std.proofs.lemmas.Option.{slice_get-get_or, slice_get_within, get_or_from_slice_get}
use Rattle.fq_model.specs.declared.config.Config.{Config}
use Rattle.fq_model.specs.declared.event.Entry.{Entry}
use Rattle.fq_model.specs.Limits.{InLimits}
use Rattle.fq_model.specs.History.{History, head, waiting, pool_at}
use Rattle.fq_model.specs.Time.{last_moment}
use Rattle.fq_model.specs.Pace.{virtual_time}
use Rattle.fq_model.specs.Keys.{HeadKeys, Turn, turn_at, keys_at, IsChoice, HasKeys, IsChoiceAt}
use Rattle.fq_model.specs.Rules.{IsLegal}
use Rattle.fq_laws.specs.Words.{concerns}
use Rattle.fq_laws.proofs.Keys.Pace.{virtual_time_rises, entry_rises}
use Rattle.fq_laws.proofs.Keys.Choices.{keys_differ, keys_tenant_known, head_has_keys, no_head_no_keys}
use Rattle.fq_laws.proofs.Keys.Others.{keys_still, keys_unconcerned}
use Rattle.fq_laws.proofs.History.Heads.{heads_none_waiting, waits_none, waits_none_head}
use Rattle.tag_rules.specs.Tables.{Setting, Table, Has, NoneHas, IsNewTo, turn_of, IsTableChoice, ChooserView, setting_at, opened, with_keys}
use Rattle.sched_state.specs.Keys.{HasKeysOf, ChooserIs, ChooserIsBut}

-- ---- places of a table

place_known : (table : Table) (t : ℕ) (v : Option HeadKeys) → t < length table → get_or table t None ≡ v → slice_get table t ≡ Some v
place_known table t v b e = slice_get-get_or table t None b ∙ ap Some e

place_set : (table : Table) (t : ℕ) (v : Option HeadKeys) → t < length table → slice_get (slice_set table t v) t ≡ Some v
place_set table t v b = place_known (slice_set table t v) t v (omega (arith, length-set table t v, b)) (get_or-set_same table t v None b)

place_other : (table : Table) (t u : ℕ) (v w : Option HeadKeys) → u ≢ t → slice_get table u ≡ Some w → slice_get (slice_set table t v) u ≡ Some w
place_other table t u v w ne is =
    let b : u < length table = slice_get_within table u w is in
    place_known (slice_set table t v) u w (omega (arith, length-set table t v, b)) (get_or-set_other table t u v None ne ∙ get_or_from_slice_get table u w None is)

-- ---- at first, and at an entry

no_keys : (C : Config) (t : ℕ) → keys_at C [] 0 t ≡ None
no_keys C t = no_head_no_keys C [] 0 t (waits_none_head [] t (λ r w. false≢true (sym (waits_none t r) ∙ w)))

pub chooser_nil : (C : Config) (x : ChooserView) → x ≡ opened C → ChooserIs C [] x
unfolding pool_at
chooser_nil C x e = rw e (record {
  setting_is = refl;
  sized = length-replicate {A = Option HeadKeys} (length C.weights) None;
  keys_are = λ t b known. place_known (replicate {A = Option HeadKeys} (length C.weights) None) t (keys_at C [] 0 t) (omega (arith, length-replicate {A = Option HeadKeys} (length C.weights) None, b)) (get_or-replicate {A = Option HeadKeys} (length C.weights) t None None b ∙ sym (no_keys C t));
  latest_low = omega (arith, ints);
})

-- an entry that is no Workers leaves the setting
pub setting_stays : (C : Config) (P : History) (e : Entry) (x : ChooserView) → pool_at C (e ∷ P) ≡ pool_at C P → ChooserIs C P x → x.setting ≡ setting_at C (pool_at C (e ∷ P))
setting_stays C P e x same is = is.setting_is ∙ ap (setting_at C) (sym same)

-- an entry leaves the keys of each tenant that it does not concern
pub keys_of_others : (C : Config) (P : History) (e : Entry) (x y : ChooserView) (Tenants : ℕ → Type 0) → InLimits C → IsLegal C (e ∷ P) → ((u : ℕ) → Tenants u → concerns P u e.act ≡ false) → ChooserIs C P x → y.setting ≡ setting_at C (pool_at C (e ∷ P)) → y.table ≡ x.table → y.latest ≤ℤ pos (virtual_time C P e.moment) → HasKeysOf C (e ∷ P) Tenants y
keys_of_others C P e x y Tenants lim l others is s t late = record {
  setting_is = s;
  sized = ap length t ∙ is.sized;
  keys_are = λ u b among. ap (λ z. slice_get z u) t ∙ (is.keys_are u b tt ∙ ap Some (sym (keys_unconcerned C P e e.moment (last_moment P) u lim l (others u among))));
  latest_low = (let up = entry_rises C P e in omega (arith, ints, late, up));
}

-- the chooser was asked for no later time
pub latest_at : (C : Config) (P : History) (m : ℕ) (x : ChooserView) → last_moment P ≤ m → ChooserIs C P x → x.latest ≤ℤ pos (virtual_time C P m)
latest_at C P m x later is = let up = virtual_time_rises C P (last_moment P) m later in omega (arith, ints, is.latest_low)

-- ---- the keys that are set

module _ (C : Config) (P : History) (t : ℕ) (x : ChooserView) (keys : Option HeadKeys) (l : IsLegal C P) (known : t < length C.weights) (is : ChooserIsBut t C P x) (e : keys ≡ keys_at C P (last_moment P) t) where
  other_keys : (u : ℕ) (k : HeadKeys) → u ≢ t → Has x.table u k → keys_at C P (last_moment P) u ≡ Some k
  other_keys u k ne has =
      let b : u < length x.table = slice_get_within x.table u (Some k) has in
      let both : Some (keys_at C P (last_moment P) u) ≡ Some (Some k) = sym (is.keys_are u (omega (arith, is.sized, b)) ne) ∙ has in
      cc

  -- are of a new request
  pub keys_are_new : IfSome keys (IsNewTo x.table t)
  keys_are_new = go keys e
    where
      go : (o : Option HeadKeys) → o ≡ keys_at C P (last_moment P) t → IfSome o (IsNewTo x.table t)
      go None is = tt
      go (Some k) is = λ u l ne has. keys_differ C P (last_moment P) t u k l (λ s. ne (sym s)) (sym is) (other_keys u l ne has)

  -- and complete the chooser
  pub keys_set : ChooserIs C P (with_keys x t keys)
  keys_set = record {
    setting_is = is.setting_is;
    sized = length-set x.table t keys ∙ is.sized;
    keys_are = λ u b among. elim (cases_eq u t) [
      | inl same ↦ subst (λ z. slice_get (slice_set x.table t keys) z ≡ Some (keys_at C P (last_moment P) z)) (sym same) (place_set x.table t keys (omega (arith, is.sized, known)) ∙ ap Some e)
      | inr other ↦ place_other x.table t u keys (keys_at C P (last_moment P) u) other (is.keys_are u b other)
    ];
    latest_low = is.latest_low;
  }

-- ---- the choice

choice_over : (at : Turn) (H K : ℕ → HeadKeys → Type 0) (t : ℕ) (k : HeadKeys) → ((u : ℕ) (l : HeadKeys) → H u l → K u l) → ((u : ℕ) (l : HeadKeys) → K u l → H u l) → IsChoice at H t k → IsChoice at K t k
choice_over at H K t k there back (inl a) = inl (record { has = there t k a.has; passes = a.passes; first = λ u l ne has p. a.first u l ne (back u l has) p })
choice_over at H K t k there back (inr a) = inr (λ u l has. a.0 u l (back u l has), record { has = there t k a.1.has; passes = a.1.passes; first = λ u l ne has p. a.1.first u l ne (back u l has) p })

module _ (C : Config) (P : History) (m : ℕ) (x : ChooserView) (l : IsLegal C P) (is : ChooserIs C P x) where
  pub has_keys : (t : ℕ) (k : HeadKeys) → Has x.table t k → HasKeys C P m t k
  has_keys t k has =
      let b : t < length x.table = slice_get_within x.table t (Some k) has in
      let e : Some (keys_at C P (last_moment P) t) ≡ Some (Some k) = sym (is.keys_are t (omega (arith, is.sized, b)) tt) ∙ has in
      let now : keys_at C P (last_moment P) t ≡ Some k = cc in
      keys_still C P m (last_moment P) t l ∙ now

  pub keys_have : (t : ℕ) (k : HeadKeys) → HasKeys C P m t k → Has x.table t k
  keys_have t k at = is.keys_are t (keys_tenant_known C P m t k l at) tt ∙ ap Some (keys_still C P (last_moment P) m t l ∙ at)

  -- a worker that is known is one of the setting
  pub worker_in : (i : ℕ) → i < pool_at C P → i < x.setting.workers
  worker_in i known = subst (λ (s : Setting). i < s.workers) (sym is.setting_is) known

  pub same_turn : (i : ℕ) (v : ℤ) → v ≡ pos (virtual_time C P m) → turn_of x.setting i v ≡ turn_at C P m i
  same_turn i v e = rw (is.setting_is, e) refl

  -- the choice over the table is the choice of the history
  pub choice_of : (i t : ℕ) (v : ℤ) (k : HeadKeys) → v ≡ pos (virtual_time C P m) → IsChoice (turn_of x.setting i v) (Has x.table) t k → IsChoiceAt C P m i t k
  choice_of i t v k at chosen =
      subst (λ turn. IsChoice turn (HasKeys C P m) t k) (same_turn i v at) (choice_over (turn_of x.setting i v) (Has x.table) (HasKeys C P m) t k has_keys keys_have chosen)

  pub choice_is : (i t : ℕ) (v : ℤ) → v ≡ pos (virtual_time C P m) → IsTableChoice x.setting x.table i v t → (k : HeadKeys) × IsChoiceAt C P m i t k
  choice_is i t v at chosen = (chosen.0, choice_of i t v chosen.0 at chosen.1)

  -- where no tenant has keys nothing waits
  pub nothing_waits : NoneHas x.table → waiting P ≡ 0
  nothing_waits none = heads_none_waiting C P l (λ t h. go t (head P t) refl)
    where
      go : (t : ℕ) (o : Option ℕ) → head P t ≡ o → head P t ≡ None
      go t None e = e
      go t (Some r) e = let k = head_has_keys C P m t r e in absurd (none t k.0 (keys_have t k.0 k.1))
