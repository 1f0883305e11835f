-- The greatest and least lengths of requests, with one entry more.
use Rattle.std.proofs.Common.{ℕ, ◌<◌, ◌≤◌, ◌≡◌, ◌≢◌, ◌∙◌, max, min, cond, Bool, true, false, not, refl, sym, ap, subst, arith, inl, inr, List, [], ◌∷◌, length, replicate, Option, Some, None, length-set, get_or-set_same, get_or-set_other}
use Rattle.std.specs.Prelude.{slice_index, IfSome}
use Rattle.std.proofs.lemmas.Bool.{cases_Bool, cases_eq, eq-eqb, ne_eqb}
use Rattle.std.proofs.lemmas.List.{get_or-replicate, length-replicate}
use Rattle.fq_model.specs.declared.config.Config.{Config}
use Rattle.fq_model.specs.declared.event.Entry.{Entry}
use Rattle.fq_model.specs.History.{History}
use Rattle.fq_model.specs.Charge.{is_taken_of, charged}
use Rattle.fq_model.specs.Lead.{longest_of, shortest_of}
use Rattle.fq_laws.proofs.Charge.Tenants.{charged_untaken}
use Rattle.fq_laws.proofs.History.Requests.{untaken_nil}
use Rattle.tag_lead.specs.declared.spans.MeasuredLength.{MeasuredLength}
use Rattle.tag_lead.specs.Spans.{longest_with, lesser, shortest_with, LongestAre, ShortestAre}
use Rattle.tag_lead.proofs.LengthLemmas.{Measures, MeasuresIf}

-- ---- a request that the entry leaves

longest_reaches : (C : Config) (P : History) (t r : ℕ) → charged C P t r ≤ longest_of C P t r
unfolding longest_of
longest_reaches C [] t r = omega (arith, charged_untaken C [] t r (untaken_nil r))
longest_reaches C (e ∷ P) t r = omega arith

pub longest_stays : (C : Config) (P : History) (e : Entry) (t r : ℕ) → charged C (e ∷ P) t r ≡ charged C P t r → longest_of C (e ∷ P) t r ≡ longest_of C P t r
unfolding longest_of
longest_stays C P e t r same = omega (arith, same, longest_reaches C P t r)

least_of : (taken : Bool) (x y : ℕ) → cond taken (min x y) x ≤ x
least_of true x y = omega arith
least_of false x y = omega arith

shortest_reaches : (C : Config) (P : History) (t r : ℕ) → shortest_of C P t r ≤ charged C P t r
unfolding shortest_of
shortest_reaches C [] t r = omega arith
shortest_reaches C (e ∷ P) t r = least_of (is_taken_of P t r) (charged C (e ∷ P) t r) (shortest_of C P t r)

untaken_charge : (C : Config) (P : History) (t r : ℕ) → is_taken_of P t r ≡ false → charged C P t r ≡ 0
untaken_charge C P t r h = rw h refl

shortest_stays : (C : Config) (P : History) (e : Entry) (t r : ℕ) → charged C (e ∷ P) t r ≡ charged C P t r → shortest_of C (e ∷ P) t r ≡ shortest_of C P t r
unfolding shortest_of
shortest_stays C P e t r same = elim (cases_Bool (is_taken_of P t r)) [
  | inl h ↦ rw h (omega (arith, same, shortest_reaches C P t r))
  | inr h ↦ rw h (omega (arith, same, shortest_reaches C P t r, untaken_charge C P t r h))
]

shortest_next : (C : Config) (P : History) (e : Entry) (t r : ℕ) (first : Bool) (n : ℕ) → is_taken_of P t r ≡ not first → charged C (e ∷ P) t r ≡ n → shortest_of C (e ∷ P) t r ≡ cond first n (min (shortest_of C P t r) n)
unfolding shortest_of
shortest_next C P e t r true n taken now = rw taken now
shortest_next C P e t r false n taken now = rw taken (omega (arith, now))

-- ---- the lists

raised : (C : Config) (P : History) (e : Entry) (t r x len : ℕ) → x ≡ longest_of C P t r → charged C (e ∷ P) t r ≡ len → max x len ≡ longest_of C (e ∷ P) t r
unfolding longest_of
raised C P e t r x len before now = omega (arith, before, now)

module _ (C : Config) (P : History) (e : Entry) (t n : ℕ) (all : length (e ∷ P) ≤ n) where
  -- a request of another tenant
  left : (x : MeasuredLength) → Measures C P (e ∷ P) x → x.tenant ≢ t → (r : ℕ) → charged C (e ∷ P) t r ≡ charged C P t r
  left x measures ne r = elim (cases_eq r x.request) [
    | inr other ↦ measures.others t r other
    | inl own ↦ rw own (measures.foreign t (λ s. ne (sym s)))
  ]

  pub longest_on : (xs : List ℕ) (o : Option MeasuredLength) → LongestAre C P t n xs → MeasuresIf C P (e ∷ P) o → LongestAre C (e ∷ P) t n (longest_with xs t o)
  longest_on xs None is measures = record { sized = is.sized; each = λ r b. is.each r b ∙ sym (longest_stays C P e t r (measures t r)) }
  longest_on xs (Some x) is measures = elim (cases_eq x.tenant t) [
    | inr ne ↦ rw (ne_eqb x.tenant t ne) (record { sized = is.sized; each = λ r b. is.each r b ∙ sym (longest_stays C P e t r (left x measures ne r)) })
    | inl same ↦
        let within : x.request < n = omega (arith, measures.within, all) in
        let now : charged C (e ∷ P) t x.request ≡ x.len = subst (λ (u : ℕ). charged C (e ∷ P) u x.request ≡ x.len) same measures.own in
        rw (eq-eqb x.tenant t same) (record {
          sized = length-set xs x.request _ ∙ is.sized;
          each = λ r b. elim (cases_eq r x.request) [
            | inr ne ↦ rw (get_or-set_other xs x.request r (max (slice_index xs x.request) x.len) 0 ne) (is.each r b ∙ sym (longest_stays C P e t r (measures.others t r ne)))
            | inl own ↦ rw (own, get_or-set_same xs x.request (max (slice_index xs x.request) x.len) 0 (omega (arith, is.sized, within))) (raised C P e t x.request (slice_index xs x.request) x.len (is.each x.request within) now)
          ];
        })
  ]

  pub shortest_on : (xs : List ℕ) (o : Option MeasuredLength) → ShortestAre C P t n xs → MeasuresIf C P (e ∷ P) o → ShortestAre C (e ∷ P) t n (shortest_with xs t o)
  shortest_on xs None is measures = record { sized = is.sized; each = λ r b. is.each r b ∙ sym (shortest_stays C P e t r (measures t r)) }
  shortest_on xs (Some x) is measures = elim (cases_eq x.tenant t) [
    | inr ne ↦ rw (ne_eqb x.tenant t ne) (record { sized = is.sized; each = λ r b. is.each r b ∙ sym (shortest_stays C P e t r (left x measures ne r)) })
    | inl same ↦
        let within : x.request < n = omega (arith, measures.within, all) in
        let now : charged C (e ∷ P) t x.request ≡ x.len = subst (λ (u : ℕ). charged C (e ∷ P) u x.request ≡ x.len) same measures.own in
        let first : is_taken_of P t x.request ≡ not x.taken = subst (λ (u : ℕ). is_taken_of P u x.request ≡ not x.taken) same measures.first in
        rw (eq-eqb x.tenant t same) (record {
          sized = length-set xs x.request _ ∙ is.sized;
          each = λ r b. elim (cases_eq r x.request) [
            | inr ne ↦ rw (get_or-set_other xs x.request r (lesser x (slice_index xs x.request)) 0 ne) (is.each r b ∙ sym (shortest_stays C P e t r (measures.others t r ne)))
            | inl own ↦ rw (own, get_or-set_same xs x.request (lesser x (slice_index xs x.request)) 0 (omega (arith, is.sized, within))) (ap (lesser x) (is.each x.request within) ∙ sym (shortest_next C P e t x.request x.taken x.len first now))
          ];
        })
  ]

pub longest_nil : (C : Config) (t n : ℕ) (xs : List ℕ) → xs ≡ replicate n 0 → LongestAre C [] t n xs
unfolding longest_of
longest_nil C t n xs is = rw is (record { sized = length-replicate n 0; each = λ r b. get_or-replicate n r 0 0 b })

pub shortest_nil : (C : Config) (t n : ℕ) (xs : List ℕ) → xs ≡ replicate n 0 → ShortestAre C [] t n xs
unfolding shortest_of
shortest_nil C t n xs is = rw is (record { sized = length-replicate n 0; each = λ r b. get_or-replicate n r 0 0 b })

-- the request of the measured length is in the lists
pub length_within : (C : Config) (P : History) (e : Entry) (n : ℕ) (o : Option MeasuredLength) → length (e ∷ P) ≤ n → MeasuresIf C P (e ∷ P) o → IfSome o (λ x. x.request < n)
length_within C P e n None all measures = tt
length_within C P e n (Some x) all measures = omega (arith, measures.within, all)
