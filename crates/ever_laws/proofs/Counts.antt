-- How often a tenant is taken while the head of another waits, and its gain while both wait.
use Rattle.std.proofs.Common.{ℕ, ◌+◌, ◌*◌, ◌/◌, ◌≤◌, ◌≡◌, ◌≢◌, ◌∙◌, true, refl, sym, ap, subst, arith, inl, inr, ◌⊎◌, [], ◌∷◌, ◌++◌, Option, Some, None, ℤ, pos, ◌≤ℤ◌, append_assoc}
use Rattle.std.specs.Prelude.{◌-ℤ◌, ◌+ℤ◌}
use Rattle.std.specs.Int.{int_max}
use Rattle.std.proofs.lemmas.Int.{ints, clamps}
use Rattle.std.proofs.lemmas.Bool.{cases_Bool}
use Rattle.fq_model.specs.Ever.{greatest_part, ever_bound}
use Rattle.fq_model.specs.declared.config.Config.{Config}
use Rattle.fq_model.specs.declared.event.Act.{Act}
use Rattle.fq_model.specs.declared.event.Act.TheVariants.{Take}
use Rattle.fq_model.specs.declared.event.Entry.{Entry}
use Rattle.fq_model.specs.History.{History, request_at, is_of_tenant, head}
use Rattle.fq_model.specs.Charge.{virtual_charge}
use Rattle.fq_model.specs.Lead.{may_rise, start_now, takes_of}
use Rattle.fq_model.specs.Pace.{tag_base}
use Rattle.fq_model.specs.Rules.{IsLegal}
use Rattle.fq_laws.specs.Words.{one_more, is_take}
use Rattle.fq_laws.proofs.Keys.Tags.{base_rises}
use Rattle.gap_laws.specs.Laws.{worst_lead}
use Rattle.gap_laws.specs.Words.{IsPrefix, WaitsFrom, AreNoShorter, takes_after, AreNoLonger}
use Rattle.gap_laws.proofs.Runs.{prefix_of_prefix}
use Rattle.gap_laws.proofs.WorstCase.{longest}
use Rattle.gap_laws.proofs.Takes.{its_head, taken_before, takes_fewer}
use Rattle.ever_laws.specs.Laws.{TakesAreBounded}
use Rattle.ever_laws.specs.Words.{IsPacedWithin}
use Rattle.ever_laws.proofs.Bound.{lead_bounded}
use Rattle.ever_laws.proofs.Entries.{raises_of, stays, comes, starts_at}
use Rattle.ever_laws.proofs.Takes.{within_older}

-- ---- the premises of a history hold of its prefixes

is_take_at : (t : ℕ) (P : History) (a : Act) (i : ℕ) → takes_of t P a ≡ Some i → is_take a ≡ true
is_take_at t P (Take w q c) i some = refl
is_take_at t P _ i some = absurd (cc)

pub no_longer : (C : Config) (H : History) (f g M : ℕ) → IsPacedWithin C H M → AreNoLonger C H f g M
no_longer C H f g M is = record {
  of_f = is.lengths.requests f;
  of_g = is.lengths.requests g;
  heads = λ e Q i inner shared takes. (is.lengths.heads e Q f inner (is_take_at f Q e.act i takes), is.lengths.heads e Q g inner (is_take_at f Q e.act i takes));
}

pub within_earlier : (C : Config) (newer S : History) (M : ℕ) → IsPacedWithin C (newer ++ S) M → IsPacedWithin C S M
within_earlier C [] S M is = is
within_earlier C (e ∷ newer) S M is = within_earlier C newer S M (within_older C (newer ++ S) e M is)

-- ---- where f waits at S

fewer_takes : (takes worst bound : ℤ) (c M : ℕ) → (takes +ℤ pos 1) ≤ℤ (pos c +ℤ int_max (pos 1) (worst +ℤ pos M)) → worst ≤ℤ bound → pos 1 ≤ℤ (bound +ℤ pos M) → takes ≤ℤ ((pos c +ℤ (bound +ℤ pos M)) -ℤ pos 1)
fewer_takes takes worst bound c M few low some = omega (arith, ints, clamps, few, low, some)

some_bound : (n M part : ℕ) → 1 ≤ M → pos 1 ≤ℤ ((pos ((n + n / 2 + 1) * M + part) -ℤ pos 1) +ℤ pos M)
some_bound n M part some = omega (arith, ints, some)

takes_waiting : (C : Config) (newer S : History) (f g r q M c : ℕ) → f ≢ g → IsPacedWithin C (newer ++ S) M → AreNoShorter C S (newer ++ S) f c → WaitsFrom S (newer ++ S) g r → head S f ≡ Some q → pos (takes_after f newer S * c) ≤ℤ ((pos c +ℤ (ever_bound C M +ℤ pos M)) -ℤ pos 1)
takes_waiting C newer S f g r q M c ne is short waits some =
    fewer_takes (pos (takes_after f newer S * c)) (worst_lead M C S g f) (ever_bound C M) c M
    (takes_fewer C newer S f g r M c ne is.limits is.legal (no_longer C (newer ++ S) f g M is) short waits)
    (lead_bounded C S g f q M (λ e. ne (sym e)) (within_earlier C newer S M is) some)
    (some_bound C.workers M (greatest_part C M) is.lengths.some)

-- ---- where it comes later

-- a request of f is taken only where f waits
none_taken : (C : Config) (P : History) (who m f : ℕ) (a : Act) → IsLegal C (one_more who m a P) → head P f ≡ None → takes_of f P a ≡ None
none_taken C P who m f (Take w q c) l none = elim (cases_Bool (is_of_tenant f (request_at P q))) [
  | inl own ↦ absurd (let some : head P f ≡ Some q = its_head C P m w q c f l.3 own in cc)
  | inr other ↦ rw other refl
]
none_taken C P who m f a l none = refl

-- so its virtual charge, with the possible rise of its running requests, does not rise
unraised : (v v2 b b2 x x2 u u2 : ℕ) → x ≡ v + b → x2 ≡ v2 + b2 → b ≤ b2 → x2 + u2 ≤ x + u → v2 + u2 ≤ v + u
unraised v v2 b b2 x x2 u u2 old new bases most = omega (arith, old, new, bases, most)

charge_falls : (C : Config) (P : History) (e : Entry) (f M : ℕ) → IsPacedWithin C (e ∷ P) M → takes_of f P e.act ≡ None → virtual_charge C (e ∷ P) f + may_rise (longest M) C (e ∷ P) f ≤ virtual_charge C P f + may_rise (longest M) C P f
charge_falls C P e f M is none = elim (cases_Bool (raises_of P f e.act)) [
  | inl raises ↦ (let c = comes C P e f M is raises in omega (arith, c.charge_is, c.rise_is))
  | inr off ↦ unraised (virtual_charge C P f) (virtual_charge C (e ∷ P) f) (tag_base C P f) (tag_base C (e ∷ P) f) (start_now C P f) (start_now C (e ∷ P) f) (may_rise (longest M) C P f) (may_rise (longest M) C (e ∷ P) f) (starts_at C P f is.policy) (starts_at C (e ∷ P) f is.policy) (base_rises C P e f) (stays C P e f M is off none).most_is
]

-- it was charged no more at P than at S
abbrev pub IsUncharged : Config → History → History → ℕ → ℕ → Type 0
IsUncharged C S P f M = virtual_charge C P f + may_rise (longest M) C P f ≤ virtual_charge C S f + may_rise (longest M) C S f

-- the first of the newer entries take no request of f, and then f waits
pub record Waits (C : Config) (newer S : History) (f M : ℕ) : Type 0 where
  pub later : History
  pub mid : History
  pub split : newer ≡ later ++ mid
  pub request : ℕ
  pub some : head (mid ++ S) f ≡ Some request
  pub same : takes_after f newer S ≡ takes_after f later (mid ++ S)
  pub uncharged : IsUncharged C S (mid ++ S) f M

-- or all of them take no request of f
pub record WaitsNot (C : Config) (newer S : History) (f M : ℕ) : Type 0 where
  pub none : head (newer ++ S) f ≡ None
  pub untaken : takes_after f newer S ≡ 0
  pub uncharged : IsUncharged C S (newer ++ S) f M

by_head : (C : Config) (newer S : History) (f M : ℕ) (o : Option ℕ) → head (newer ++ S) f ≡ o → takes_after f newer S ≡ 0 → IsUncharged C S (newer ++ S) f M → Waits C newer S f M ⊎ WaitsNot C newer S f M
by_head C newer S f M None none untaken uncharged = inr (record { none = none; untaken = untaken; uncharged = uncharged })
by_head C newer S f M (Some q) some untaken uncharged = inl (record { later = []; mid = newer; split = refl; request = q; some = some; same = untaken; uncharged = uncharged })

one_later : (newer later mid S : History) (e : Entry) (f : ℕ) → newer ≡ later ++ mid → takes_after f newer S ≡ takes_after f later (mid ++ S) → takes_after f (e ∷ newer) S ≡ takes_after f (e ∷ later) (mid ++ S)
one_later newer later mid S e f split same =
    let at : newer ++ S ≡ later ++ (mid ++ S) = ap (λ (P : History). P ++ S) split ∙ append_assoc later mid S in
    rw (at, same) refl

pub waits_or_not : (C : Config) (newer S : History) (f M : ℕ) → IsPacedWithin C (newer ++ S) M → Waits C newer S f M ⊎ WaitsNot C newer S f M
waits_or_not C [] S f M is = by_head C [] S f M (head S f) refl refl (omega arith)
waits_or_not C (e ∷ newer) S f M is = elim (waits_or_not C newer S f M (within_older C (newer ++ S) e M is)) [
  | inl w ↦ inl (record { later = e ∷ w.later; mid = w.mid; split = ap (λ (P : History). e ∷ P) w.split; request = w.request; some = w.some; same = one_later newer w.later w.mid S e f w.split w.same; uncharged = w.uncharged })
  | inr n ↦
      let none : takes_of f (newer ++ S) e.act ≡ None = none_taken C (newer ++ S) e.who e.moment f e.act is.legal n.none in
      by_head C (e ∷ newer) S f M (head (e ∷ newer ++ S) f) refl (rw none (omega (arith, n.untaken))) (omega (arith, charge_falls C (newer ++ S) e f M is none, n.uncharged))
]

none_bounded : (bound : ℤ) (n c M : ℕ) → n ≡ 0 → pos 1 ≤ℤ (bound +ℤ pos M) → pos (n * c) ≤ℤ ((pos c +ℤ (bound +ℤ pos M)) -ℤ pos 1)
none_bounded bound n c M none some = rw none (omega (arith, ints, some))

pub takes_bounded : TakesAreBounded
takes_bounded C newer S f g r M c ne is short waits = elim (waits_or_not C newer S f M is) [
  | inr n ↦ none_bounded (ever_bound C M) (takes_after f newer S) c M n.untaken (some_bound C.workers M (greatest_part C M) is.lengths.some)
  | inl w ↦
      let all : newer ++ S ≡ w.later ++ (w.mid ++ S) = ap (λ (P : History). P ++ S) w.split ∙ append_assoc w.later w.mid S in
      let from : IsPrefix S (w.mid ++ S) = (w.mid, refl) in
      rw w.same (takes_waiting C w.later (w.mid ++ S) f g r w.request M c ne (subst (λ H. IsPacedWithin C H M) all is)
      (λ Q q inner taken new. short Q q (subst (IsPrefix Q) (sym all) inner) taken (taken_before w.mid S q new))
      (λ Q inner over. waits Q (subst (IsPrefix Q) (sym all) inner) (prefix_of_prefix S (w.mid ++ S) Q from over)) w.some)
]
