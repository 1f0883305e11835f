-- Which request an entry shows not to be as declared.
use Rattle.std.proofs.Common.{ℕ, ◌<◌, ◌≤◌, ◌^◌, ◌≡◌, ◌≢◌, ◌⊎◌, ◌∙◌, min, Bool, true, false, not, ◌&&◌, nat_eq, nat_le, refl, ap, sym, subst, arith, inl, inr, List, [], ◌∷◌, Option, Some, None, length}
use Rattle.std.specs.Prelude.{option_map, if◌then◌else◌}
use Rattle.std.proofs.lemmas.Bool.{cases_eq, cases_lt, eq-eqb, ne_eqb, le-leb, lt-leb, lt-ltb, le-ltb}
use Rattle.std.proofs.lemmas.Option.{get_or_from_slice_get, slice_get_within}
use Rattle.fq_model.specs.declared.config.Config.{Config}
use Rattle.fq_model.specs.declared.config.Estimator.{Estimator}
use Rattle.fq_model.specs.declared.config.Estimator.TheVariants.{Declared, Recent, Pessimistic}
use Rattle.fq_model.specs.declared.event.Act.{Act}
use Rattle.fq_model.specs.declared.event.Act.TheVariants.{Submit, Report, Done}
use Rattle.fq_model.specs.declared.event.Entry.{Entry}
use Rattle.fq_model.specs.Limits.{InLimits}
use Rattle.fq_model.specs.History.{History, Request, request_at, request_in, request_bound, last_use, use_in, submits}
use Rattle.fq_model.specs.Charge.{final_cost, cost_in}
use Rattle.fq_model.specs.Gap.{is_declared, is_cost_declared, is_as_asked, is_as_declared, not_declared}
use Rattle.fq_model.specs.Rules.{IsLegal, Fits, FitsUse}
use Rattle.fq_model.specs.Sums.{least_below}
use Rattle.fq_laws.specs.Words.{one_more}
use Rattle.fq_laws.proofs.Sums.{IsLeast, least_is, least_by, least_same}
use Rattle.fq_laws.proofs.History.Numbers.{use_small}
use Rattle.fq_laws.proofs.History.Requests.{fresh, fresh_untaken, fresh_undone, use_known, use_undone}
use Rattle.fq_laws.proofs.Charge.Requests.{unused, cost_none}
use Rattle.tag_gap.specs.declared.asked.Asked.{Asked}
use Rattle.tag_gap.specs.Asked.{asked_of, AreAsked}
use Rattle.tag_gap.proofs.AskedLemmas.{Knows}
use Rattle.tag_gap.specs.Strays.{IsKnown, declared_of, stray, lesser}

-- ---- the least, where one number more passes

-- one number more passes
record OneMore (p q : ℕ → Bool) (s : ℕ) : Type 0 where
  own : q s ≡ true
  others : (r : ℕ) → r ≢ s → q r ≡ p r

lesser_passes : (p q : ℕ → Bool) (m s : ℕ) → p m ≡ true → OneMore p q s → q (min m s) ≡ true
lesser_passes p q m s h o = elim (cases_lt m s) [
  | inl b ↦ (let e : min m s ≡ m = omega arith in rw e (o.others m (λ x. omega arith) ∙ h))
  | inr b ↦ (let e : min m s ≡ s = omega arith in rw e o.own)
]

least_of_more : (p q : ℕ → Bool) (n s : ℕ) (o : Option ℕ) → s < n → IsLeast p n o → OneMore p q s → IsLeast q n (lesser o (Some s))
least_of_more p q n s None b h o = (o.own, b, λ r c. o.others r (λ x. omega arith) ∙ h r (omega arith))
least_of_more p q n s (Some m) b h o = (
  lesser_passes p q m s h.0 o,
  omega (arith, h.1),
  λ r c. o.others r (λ x. omega arith) ∙ h.2 r (omega arith),
)

least_more : (p q : ℕ → Bool) (n s : ℕ) → s < n → OneMore p q s → least_below q n ≡ lesser (least_below p n) (Some s)
least_more p q n s b o = least_by q n _ (least_of_more p q n s (least_below p n) b (least_is p n) o)

lesser_none : (o : Option ℕ) → lesser o None ≡ o
lesser_none None = refl
lesser_none (Some x) = refl

-- ---- the request that one entry shows not to be as declared

-- the requests that are not as declared, as a test
abbrev is_stray : Config → History → ℕ → Bool
is_stray C P r = not (is_as_declared C P r)

-- whether a request is as declared, by its use, its cost and its Submit
abbrev as_asked : Estimator → ℕ → Option ℕ → Option Request → Bool
as_asked estimator used cost None = true
as_asked estimator used cost (Some q) = is_declared estimator && (nat_le used q.declared && is_cost_declared q.declared cost)

asked_is : (C : Config) (P : History) (r : ℕ) (o : Option Request) → is_as_asked C P r o ≡ as_asked C.estimate (last_use P r) (final_cost P r) o
asked_is C P r None = refl
asked_is C P r (Some q) = refl

declared_is : (C : Config) (P : History) (r used : ℕ) (cost : Option ℕ) (o : Option Request) → last_use P r ≡ used → final_cost P r ≡ cost → request_at P r ≡ o → is_as_declared C P r ≡ as_asked C.estimate used cost o
unfolding is_as_declared
declared_is C P r used cost o uses costs was = rw (was, asked_is C P r o, uses, costs) refl

-- an entry that neither submits r nor uses it nor ends it
declared_same : (C : Config) (P : History) (e : Entry) (r : ℕ) → request_in r e.act (request_at P r) ≡ request_at P r → use_in r e.act ≡ 0 → cost_in r e.act (final_cost P r) ≡ final_cost P r → is_stray C (e ∷ P) r ≡ is_stray C P r
declared_same C P e r was uses costs = ap not (declared_is C (e ∷ P) r (last_use P r) (final_cost P r) (request_at P r) (omega (arith, uses)) costs was ∙ sym (declared_is C P r _ _ _ refl refl refl))

-- the entry shows this request not to be as declared, or none
abbrev Shows : Config → History → Entry → Option ℕ → Type 0
Shows C P e None = (r : ℕ) → is_stray C (e ∷ P) r ≡ is_stray C P r
Shows C P e (Some s) = OneMore (is_stray C P) (is_stray C (e ∷ P)) s × (s < 2 ^ 32)

submit_shows : (C : Config) (P : History) (who m q u kind declared label : ℕ) → C.estimate ≡ Declared → IsLegal C P → q ≡ submits P → Shows C P (record { who = who; moment = m; act = Submit q u kind declared label }) None
submit_shows C P who m q u kind declared label is l number = λ r. elim (cases_eq q r) [
  | inr ne ↦ declared_same C P _ r (rw (ne_eqb q r ne) refl) refl refl
  | inl e ↦
      let late : submits P ≤ r = omega (arith, e, number) in
      let used : last_use P r ≡ 0 = unused C P r l (fresh_untaken C P r l late) in
      let cost : final_cost P r ≡ None = cost_none P r (fresh_undone C P r l late) in
      let what : Request = record { tenant = u; kind = kind; declared = declared; label = label } in
      let low : nat_le 0 declared ≡ true = le-leb 0 declared (omega arith) in
      let kept : as_asked C.estimate 0 None (Some what) ≡ true = rw (is, low) refl in
      let after_it = declared_is C (one_more who m (Submit q u kind declared label) P) r 0 None (Some what) (omega (arith, used)) cost (rw (eq-eqb q r e) refl) in
      let before = declared_is C P r 0 None None used cost (fresh C P r l late) in
      ap not (after_it ∙ (kept ∙ sym before))
]

-- the facts about a request that is used
record Used (C : Config) (P : History) (asked : List Asked) (r used : ℕ) : Type 0 where
  what : Request
  was : request_at P r ≡ Some what
  declared_is_kept : declared_of asked r ≡ what.declared
  no_cost : final_cost P r ≡ None
  rising : last_use P r ≤ used
  small : r < 2 ^ 32

used_is : (C : Config) (P : History) (asked : List Asked) (w r used : ℕ) → InLimits C → IsLegal C P → FitsUse P w r used → Knows P asked → Used C P asked r used
used_is C P asked w r used lim l f knows =
    let x = use_known C P w r used l f in
    record {
      what = x.0;
      was = x.1;
      declared_is_kept = ap (λ (a : Asked). a.declared) (get_or_from_slice_get asked r (asked_of x.0) _ (knows r x.0 x.1));
      no_cost = cost_none P r (use_undone P w r used f);
      rising = f.rising;
      small = use_small C P w r used lim l f;
    }

-- a request without a cost is as declared where its use is at most its declared cost
uncosted : (C : Config) (H : History) (r used : ℕ) (q : Request) (b : Bool) → C.estimate ≡ Declared → request_at H r ≡ Some q → final_cost H r ≡ None → last_use H r ≡ used → nat_le used q.declared ≡ b → is_stray C H r ≡ not b
uncosted C H r used q b is was cost uses low =
    let decided : as_asked C.estimate used None (Some q) ≡ b = rw (is, low) (keeps b) in
    ap not (declared_is C H r used None (Some q) uses cost was ∙ decided)
  where
    keeps : (b : Bool) → (true && (b && true)) ≡ b
    keeps true = refl
    keeps false = refl

report_shows : (C : Config) (P : History) (asked : List Asked) (who m w r used : ℕ) → C.estimate ≡ Declared → Used C P asked r used → Shows C P (record { who = who; moment = m; act = Report w r used }) (stray asked (Report w r used))
report_shows C P asked who m w r used is x =
    let uses : last_use (one_more who m (Report w r used) P) r ≡ used = rw (eq-eqb r r refl) (omega (arith, x.rising)) in
    elim (cases_lt x.what.declared used) [
      | inl more ↦ rw (x.declared_is_kept, lt-ltb x.what.declared used more) (
        record {
          own = uncosted C (one_more who m (Report w r used) P) r used x.what false is x.was x.no_cost uses (lt-leb used x.what.declared more);
          others = λ s ne. other s (λ e. ne (sym e));
        },
        x.small,
      )
      | inr within ↦ rw (x.declared_is_kept, le-ltb x.what.declared used within) (λ s. elim (cases_eq r s) [
        | inr ne ↦ other s ne
        | inl e ↦ subst (λ s. is_stray C (one_more who m (Report w r used) P) s ≡ is_stray C P s) e (
            uncosted C (one_more who m (Report w r used) P) r used x.what true is x.was x.no_cost uses (le-leb used x.what.declared within)
            ∙ sym (uncosted C P r (last_use P r) x.what true is x.was x.no_cost refl (le-leb (last_use P r) x.what.declared (omega (arith, x.rising))))
            )
      ])
    ]
  where
    other : (s : ℕ) → r ≢ s → is_stray C (one_more who m (Report w r used) P) s ≡ is_stray C P s
    other s ne = declared_same C P (record { who = who; moment = m; act = Report w r used }) s refl (rw (ne_eqb r s ne) refl) refl

-- a request with a cost is not as declared where that is another
costed : (C : Config) (H : History) (r cost : ℕ) (q : Request) → request_at H r ≡ Some q → final_cost H r ≡ Some cost → cost ≢ q.declared → is_stray C H r ≡ true
costed C H r cost q was costs ne =
    let is = declared_is C H r (last_use H r) (Some cost) (Some q) refl costs was in
    let out : as_asked C.estimate (last_use H r) (Some cost) (Some q) ≡ false = rw (ne_eqb cost q.declared ne) (none (is_declared C.estimate) (nat_le (last_use H r) q.declared)) in
    ap not (is ∙ out)
  where
    none : (a b : Bool) → (a && (b && false)) ≡ false
    none true true = refl
    none true false = refl
    none false b = refl

done_shows : (C : Config) (P : History) (asked : List Asked) (who m w r cost : ℕ) → C.estimate ≡ Declared → Used C P asked r cost → Shows C P (record { who = who; moment = m; act = Done w r cost }) (stray asked (Done w r cost))
done_shows C P asked who m w r cost is x =
    let costs : final_cost (one_more who m (Done w r cost) P) r ≡ Some cost = rw (eq-eqb r r refl) refl in
    elim (cases_eq cost x.what.declared) [
      | inr ne ↦ rw (x.declared_is_kept, ne_eqb cost x.what.declared ne) (
        record {
          own = costed C (one_more who m (Done w r cost) P) r cost x.what x.was costs ne;
          others = λ s ne. other s (λ e. ne (sym e));
        },
        x.small,
      )
      | inl same ↦ rw (x.declared_is_kept, eq-eqb cost x.what.declared same) (λ s. elim (cases_eq r s) [
        | inr ne ↦ other s ne
        | inl e ↦ (
            let kept : as_asked C.estimate (last_use P r) (Some cost) (Some x.what) ≡ as_asked C.estimate (last_use P r) None (Some x.what) = rw (eq-eqb cost x.what.declared same) refl in
            let after_it = declared_is C (one_more who m (Done w r cost) P) r (last_use P r) (Some cost) (Some x.what) (omega arith) costs x.was in
            let before = declared_is C P r (last_use P r) None (Some x.what) refl x.no_cost x.was in
            subst (λ s. is_stray C (one_more who m (Done w r cost) P) s ≡ is_stray C P s) e (ap not (after_it ∙ (kept ∙ sym before)))
            )
      ])
    ]
  where
    other : (s : ℕ) → r ≢ s → is_stray C (one_more who m (Done w r cost) P) s ≡ is_stray C P s
    other s ne = declared_same C P (record { who = who; moment = m; act = Done w r cost }) s refl refl (rw (ne_eqb r s ne) refl)

shows_at : (C : Config) (P : History) (asked : List Asked) (who m : ℕ) (a : Act) → C.estimate ≡ Declared → InLimits C → IsLegal C (one_more who m a P) → Knows P asked → Shows C P (record { who = who; moment = m; act = a }) (stray asked a)
shows_at C P asked who m (Submit request tenant kind declared label) is lim l knows = submit_shows C P who m request tenant kind declared label is l.0 l.3.numbered
shows_at C P asked who m (Report worker request used) is lim l knows = report_shows C P asked who m worker request used is (used_is C P asked worker request used lim l.0 l.3.0 knows)
shows_at C P asked who m (Done worker request cost) is lim l knows = done_shows C P asked who m worker request cost is (used_is C P asked worker request cost lim l.0 l.3 knows)
shows_at C P asked who m a is lim l knows = λ r. declared_same C P (record { who = who; moment = m; act = a }) r refl refl refl

-- ---- the least

shown : (C : Config) (P : History) (e : Entry) (o : Option ℕ) → Shows C P e o → not_declared C (e ∷ P) ≡ lesser (not_declared C P) o
unfolding not_declared request_bound
shown C P e None h = least_same _ _ (2 ^ 32) h ∙ sym (lesser_none (least_below (is_stray C P) (2 ^ 32)))
shown C P e (Some s) h = least_more _ _ (2 ^ 32) s h.1 h.0

-- one entry on, the least is the lesser of the least before and the request that the entry shows
pub stray_next : (C : Config) (P : History) (e : Entry) (asked : List Asked) → C.estimate ≡ Declared → InLimits C → IsLegal C (e ∷ P) → Knows P asked → not_declared C (e ∷ P) ≡ lesser (not_declared C P) (stray asked e.act)
stray_next C P e asked is lim l knows = shown C P e (stray asked e.act) (shows_at C P asked e.who e.moment e.act is lim l knows)

pub stray_nil : (C : Config) → not_declared C [] ≡ None
unfolding not_declared request_bound is_as_declared
stray_nil C = least_by (λ r. not (is_as_declared C [] r)) (2 ^ 32) None (λ r b. refl)

-- an entry reports or ends one of the requests
known_at : (P : History) (asked : List Asked) (C : Config) (m : ℕ) (a : Act) → IsLegal C P → Fits C P m a → Knows P asked → IsKnown a (length asked)
known_at P asked C m (Report worker request used) l f knows = let x = use_known C P worker request used l f.0 in slice_get_within asked request _ (knows request x.0 x.1)
known_at P asked C m (Done worker request cost) l f knows = let x = use_known C P worker request cost l f in slice_get_within asked request _ (knows request x.0 x.1)
known_at P asked C m a l f knows = tt

pub stray_known : (C : Config) (P : History) (e : Entry) (asked : List Asked) → IsLegal C (e ∷ P) → Knows P asked → IsKnown e.act (length asked)
stray_known C P e asked l knows = known_at P asked C e.moment e.act l.0 l.3 knows

-- ---- where estimates are not the declared numbers

-- then each request is not as declared: the first, if there is one, is the least
undeclared : (estimator : Estimator) → (estimator ≡ Declared → ⊥) → is_declared estimator ≡ false
undeclared Declared other = absurd (other refl)
undeclared estimator other = refl

nothing_asked : (o : Option Request) → None ≡ option_map asked_of o → o ≡ None
nothing_asked None h = refl
nothing_asked (Some q) h = absurd (cc)

something_asked : (a : Asked) (o : Option Request) → Some a ≡ option_map asked_of o → (q : Request) × (o ≡ Some q)
something_asked a None h = absurd (cc)
something_asked a (Some q) h = (q, refl)

pub stray_first : (C : Config) (H : History) (asked : List Asked) → (C.estimate ≡ Declared → ⊥) → AreAsked H asked → not_declared C H ≡ (if nat_eq (length asked) 0 then None else Some 0)
unfolding not_declared request_bound
stray_first C H [] other are = least_by (is_stray C H) (2 ^ 32) None (λ r b. ap not (declared_is C H r _ _ None refl refl (nothing_asked (request_at H r) (are r))))
stray_first C H (a ∷ asked) other are =
    let q = something_asked a (request_at H 0) (are 0) in
    let is : is_as_declared C H 0 ≡ as_asked C.estimate (last_use H 0) (final_cost H 0) (Some q.0) = declared_is C H 0 _ _ (Some q.0) refl refl q.1 in
    let out : as_asked C.estimate (last_use H 0) (final_cost H 0) (Some q.0) ≡ false = rw (undeclared C.estimate other) refl in
    rw (ne_eqb (length (a ∷ asked)) 0 (λ e. omega arith)) (least_by (is_stray C H) (2 ^ 32) (Some 0) (ap not (is ∙ out), omega arith, λ r b. absurd (omega arith)))

-- an estimator is the declared one, or another
pub another : (x y : Estimator) → x ≡ y → (x ≡ Recent) ⊎ (x ≡ Pessimistic) → y ≡ Declared → ⊥
another x y same (inl e) h = absurd (cc)
another x y same (inr e) h = absurd (cc)
