-- The tenants and the declared costs of requests, by request number.
use Rattle.std.proofs.Common.{ℕ, zero, suc, ◌≡◌, ◌≢◌, ◌∙◌, ap, refl, subst, arith, inl, inr, List, [], ◌∷◌, ◌++◌, length, drop, Option, Some, None, length-append}
use Rattle.std.specs.Prelude.{slice_get, option_map, filter_map, reverse}
use Rattle.std.proofs.lemmas.Bool.{cases_eq, eq-eqb, ne_eqb}
use Rattle.std.proofs.lemmas.List.{reverse-append, reverse-reverse, append-nil}
use Rattle.std.proofs.lemmas.List.Elements.{filter_map-append}
use Rattle.fq_model.specs.declared.config.Config.{Config}
use Rattle.fq_model.specs.declared.event.Act.{Act}
use Rattle.fq_model.specs.declared.event.Act.TheVariants.{Submit}
use Rattle.fq_model.specs.declared.event.Entry.{Entry}
use Rattle.fq_model.specs.History.{History, Request, request_at, request_in, submits, with_submit, history_of}
use Rattle.fq_model.specs.Rules.{IsLegal, Fits}
use Rattle.fq_laws.proofs.History.Requests.{asked_stays}
use Rattle.tag_gap.specs.declared.asked.Asked.{Asked}
use Rattle.tag_difference.proofs.Prefixes.{first_entries, split_at}
use Rattle.tag_gap.specs.Asked.{submitted, asked_of, AreAsked}

-- ---- a list with one item more at its end

at_end : {X : Type 0} (xs : List X) (x : X) (i : ℕ) → i ≡ length xs → slice_get (xs ++ x ∷ []) i ≡ Some x
at_end [] x i e = rw e refl
at_end (y ∷ xs) x zero e = absurd (omega arith)
at_end (y ∷ xs) x (suc i) e = at_end xs x i (omega arith)

not_at_end : {X : Type 0} (xs : List X) (x : X) (i : ℕ) → i ≢ length xs → slice_get (xs ++ x ∷ []) i ≡ slice_get xs i
not_at_end [] x zero ne = absurd (ne refl)
not_at_end [] x (suc i) ne = refl
not_at_end (y ∷ xs) x zero ne = refl
not_at_end (y ∷ xs) x (suc i) ne = not_at_end xs x i (λ e. ne (omega arith))

-- ---- the requests of a history

-- the tenants and the declared costs of all requests of a history, as many as its Submits
record Collected (P : History) (asked : List Asked) : Type 0 where
  len : length asked ≡ submits P
  are : AreAsked P asked

abbrev with_submitted : List Asked → Option Asked → List Asked
with_submitted asked None = asked
with_submitted asked (Some x) = asked ++ x ∷ []

collected_at : (C : Config) (P : History) (m : ℕ) (a : Act) (asked : List Asked) (r : ℕ) → Fits C P m a → Collected P asked → slice_get (with_submitted asked (submitted a)) r ≡ option_map asked_of (request_in r a (request_at P r))
collected_at C P m (Submit request tenant kind declared label) asked r f c = elim (cases_eq r (length asked)) [
  | inl e ↦ rw (eq-eqb request r (omega (arith, e, f.numbered, c.len))) (at_end asked _ r e)
  | inr ne ↦ rw (ne_eqb request r (λ e. ne (omega (arith, e, f.numbered, c.len)))) (not_at_end asked _ r ne ∙ c.are r)
]
collected_at C P m a asked r f c = c.are r

collected_len : (P : History) (a : Act) (asked : List Asked) → length asked ≡ submits P → length (with_submitted asked (submitted a)) ≡ with_submit a (submits P)
collected_len P (Submit request tenant kind declared label) asked e = omega (arith, length-append asked (record { tenant = tenant; declared = declared } ∷ []))
collected_len P a asked e = e

-- the tenants and the declared costs in the Submits, in order of time
abbrev in_order : History → List Asked
in_order P = filter_map (λ (e : Entry). submitted e.act) (reverse P)

in_order_next : (e : Entry) (P : History) (o : Option Asked) → submitted e.act ≡ o → in_order (e ∷ P) ≡ with_submitted (in_order P) o
in_order_next e P None is = rw (reverse-append (e ∷ []) P, filter_map-append (λ (e : Entry). submitted e.act) (reverse P) (e ∷ []), is, append-nil) refl
in_order_next e P (Some x) is = rw (reverse-append (e ∷ []) P, filter_map-append (λ (e : Entry). submitted e.act) (reverse P) (e ∷ []), is) refl

collected : (C : Config) (P : History) → IsLegal C P → Collected P (in_order P)
collected C [] l = record { len = refl; are = λ r. refl }
collected C (e ∷ P) l =
    let older : Collected P (in_order P) = collected C P l.0 in
    let next : in_order (e ∷ P) ≡ with_submitted (in_order P) (submitted e.act) = in_order_next e P (submitted e.act) refl in
    record {
      len = ap length next ∙ collected_len P e.act (in_order P) older.len;
      are = λ r. ap (λ (xs : List Asked). slice_get xs r) next ∙ collected_at C P e.moment e.act (in_order P) r l.3 older;
    }

pub asked_in_order : (C : Config) (past : List Entry) → IsLegal C (history_of past) → AreAsked (history_of past) (filter_map (λ (e : Entry). submitted e.act) past)
asked_in_order C past l = subst (λ (xs : List Entry). AreAsked (history_of past) (filter_map (λ (e : Entry). submitted e.act) xs)) (reverse-reverse past) (collected C (history_of past) l).are

-- ---- the requests of an earlier history

pub asked_later : (C : Config) (newer P : History) (r : ℕ) (q : Request) → IsLegal C (newer ++ P) → request_at P r ≡ Some q → request_at (newer ++ P) r ≡ Some q
asked_later C [] P r q l was = was
asked_later C (e ∷ newer) P r q l was = asked_stays C (newer ++ P) e r q l (asked_later C newer P r q l.0 was)

-- the tenant and the declared cost of each request of the history are known
abbrev pub Knows : History → List Asked → Type 0
Knows P asked = (r : ℕ) (q : Request) → request_at P r ≡ Some q → slice_get asked r ≡ Some (asked_of q)

known_earlier : (C : Config) (newer P : History) (asked : List Asked) → IsLegal C (newer ++ P) → AreAsked (newer ++ P) asked → Knows P asked
known_earlier C newer P asked l are r q was = are r ∙ ap (option_map asked_of) (asked_later C newer P r q l was)

-- so are those of each request of the first entries
pub known_first : (C : Config) (past : List Entry) (i : ℕ) (asked : List Asked) → IsLegal C (history_of past) → AreAsked (history_of past) asked → Knows (first_entries past i) asked
known_first C past i asked l are = known_earlier C (history_of (drop i past)) (first_entries past i) asked (subst (IsLegal C) (split_at past i) l) (subst (λ (H : History). AreAsked H asked) (split_at past i) are)
