-- The first worker with a request, and the first idle worker, by the trees of the workers.
use Rattle.std.proofs.Common.{ℕ, zero, suc, ◌<◌, ◌≤◌, ◌≡◌, arith, refl, ap, sym, ◌∙◌, subst, inl, inr, List, [], ◌∷◌, length, map, Option, Some, None, get_or, set, replicate, pos, get_or-set_same, get_or-set_other, IfSome}
use Rattle.std.proofs.lemmas.Bool.{cases_eq, cases_lt}
use Rattle.std.proofs.lemmas.Int.{ints}
use Rattle.std.proofs.lemmas.List.{map-set, get_or_past, get_or-replicate, length-replicate, length-map, ext_get_or}
use Rattle.winner_tree.specs.declared.key.Key.{Key}
use Rattle.winner_tree.specs.Order.{Precedes, key_of, HasNoKey, IsFirst}
use Rattle.trace_runner.specs.declared.staff.Work.{Work}
use Rattle.trace_runner.specs.Staff.{work_at, work_moment, work_key, busy_key, idle_key, IsSmall, NoneWorks, IsIdle, NoneIdle, ComesBefore, IsFirstWork, IsFirstIdle, KeepsStaff}

busy_at : (works : List (Option Work)) (i : ℕ) → get_or (map busy_key works) i None ≡ busy_key (get_or works i None)
busy_at [] i = refl
busy_at (w ∷ ws) zero = refl
busy_at (w ∷ ws) (suc i) = busy_at ws i

idle_at : (works : List (Option Work)) (i : ℕ) → i < length works → get_or (map idle_key works) i None ≡ idle_key (get_or works i None)
idle_at [] i l = absurd (omega arith)
idle_at (w ∷ ws) zero l = refl
idle_at (w ∷ ws) (suc i) l = idle_at ws i (omega arith)

busy_some : (o : Option Work) (k : Key) → busy_key o ≡ Some k → (w : Work) × (o ≡ Some w) × (k ≡ work_key w)
busy_some None k e = absurd (cc)
busy_some (Some w) k e = (w, refl, cc)

busy_none : (o : Option Work) → busy_key o ≡ None → o ≡ None
busy_none None e = refl
busy_none (Some w) e = absurd (cc)

abbrev pub no_key : Key
no_key = record { a = pos 0; b = pos 0; c = 0 }

idle_some : (o : Option Work) (k : Key) → idle_key o ≡ Some k → (o ≡ None) × (k ≡ no_key)
idle_some None k e = (refl, cc)
idle_some (Some w) k e = absurd (cc)

pos_same : (m n : ℕ) → pos m ≡ pos n → m ≡ n
pos_same m n e = cc

by_keys : (m n c d i j : ℕ) → Precedes (record { a = pos m; b = pos c; c = 0 }) i (record { a = pos n; b = pos d; c = 0 }) j → ComesBefore m (c, i) n (d, j)
by_keys m n c d i j (inl (inl l)) = inl (omega (arith, ints, l))
by_keys m n c d i j (inl (inr (e, inl l))) = inr (pos_same m n e, inl (omega (arith, ints, l)))
by_keys m n c d i j (inl (inr (e, inr (f, l)))) = absurd (omega (arith, l))
by_keys m n c d i j (inr (e, l)) = inr (pos_same m n (ap (λ (k : Key). k.a) e), inr (pos_same c d (ap (λ (k : Key). k.b) e), l))

pub busy_key_is : (works : List (Option Work)) (busy idle : List (Option Key)) (i : ℕ) → KeepsStaff works busy idle → key_of busy i ≡ busy_key (work_at works i)
busy_key_is works busy idle i k = ap (λ ks. get_or ks i None) k.busy_is ∙ busy_at works i

pub first_work_is : (works : List (Option Work)) (busy idle : List (Option Key)) (i : ℕ) (key : Key) (w : Work) → KeepsStaff works busy idle → IsFirst busy i key → work_at works i ≡ Some w → IsFirstWork works i w
first_work_is works busy idle i key w k f is = record {
  serves = is;
  small = k.small i w is;
  first = λ j x ne at.
      let own : Some key ≡ busy_key (Some w) = sym f.found ∙ busy_key_is works busy idle i k ∙ ap busy_key is in
      let same : key ≡ work_key w = cc in
      let other : key_of busy j ≡ Some (work_key x) = busy_key_is works busy idle j k ∙ ap busy_key at in
      by_keys (work_moment w) (work_moment x) _ _ i j (subst (λ q. Precedes q i (work_key x) j) same (f.before j (work_key x) ne other));
}

pub first_work_some : (works : List (Option Work)) (busy idle : List (Option Key)) (i : ℕ) (key : Key) → KeepsStaff works busy idle → IsFirst busy i key → (w : Work) × (work_at works i ≡ Some w)
first_work_some works busy idle i key k f = let s = busy_some (work_at works i) key (sym (busy_key_is works busy idle i k) ∙ f.found) in (s.0, s.1)

pub none_works : (works : List (Option Work)) (busy idle : List (Option Key)) → KeepsStaff works busy idle → HasNoKey busy → NoneWorks works
none_works works busy idle k h = λ i. busy_none (work_at works i) (sym (busy_key_is works busy idle i k) ∙ h i)

idle_key_is : (works : List (Option Work)) (busy idle : List (Option Key)) (i : ℕ) → KeepsStaff works busy idle → i < length works → key_of idle i ≡ idle_key (work_at works i)
idle_key_is works busy idle i k l = ap (λ ks. get_or ks i None) k.idle_is ∙ idle_at works i l

has_within : (keys : List (Option Key)) (i : ℕ) (key : Key) → key_of keys i ≡ Some key → i < length keys
has_within keys i key e = elim (cases_lt i (length keys)) [
  | inl l ↦ l
  | inr g ↦ let n : None ≡ Some key = sym (get_or_past keys i None g) ∙ e in absurd (cc)
]

idle_length : (works : List (Option Work)) (busy idle : List (Option Key)) → KeepsStaff works busy idle → length idle ≡ length works
idle_length works busy idle k = ap length k.idle_is ∙ length-map works idle_key

pub first_idle_is : (works : List (Option Work)) (busy idle : List (Option Key)) (i : ℕ) (key : Key) → KeepsStaff works busy idle → IsFirst idle i key → IsFirstIdle works i
first_idle_is works busy idle i key k f = record { is_idle = here; least = least }
  where
    known : i < length works
    known = omega (arith, has_within idle i key f.found, idle_length works busy idle k)

    own : (work_at works i ≡ None) × (key ≡ no_key)
    own = idle_some (work_at works i) key (sym (idle_key_is works busy idle i k known) ∙ f.found)

    here : IsIdle works i
    here = record { known = known; idle = own.0 }

    none_before : (j : ℕ) → Precedes key i no_key j → i ≤ j
    none_before j p = lower j (by_keys 0 0 0 0 i j (subst (λ q. Precedes q i no_key j) own.1 p))
      where
        lower : (j : ℕ) → ComesBefore 0 (0, i) 0 (0, j) → i ≤ j
        lower j h = grind arith

    least : (j : ℕ) → IsIdle works j → i ≤ j
    least j d = elim (cases_eq j i) [
      | inl e ↦ omega arith
      | inr ne ↦ none_before j (f.before j no_key ne (idle_key_is works busy idle j k d.known ∙ ap idle_key d.idle))
    ]

pub none_idle : (works : List (Option Work)) (busy idle : List (Option Key)) → KeepsStaff works busy idle → HasNoKey idle → NoneIdle works
none_idle works busy idle k h = λ i d. let n : None ≡ Some no_key = sym (h i) ∙ idle_key_is works busy idle i k d.known ∙ ap idle_key d.idle in absurd (cc)

some_small : (o : Option Work) (w : Work) → IfSome o IsSmall → o ≡ Some w → IsSmall w
some_small None w h e = absurd (cc)
some_small (Some v) w h e = let s : v ≡ w = cc in subst IsSmall s h

pub set_staff : (works : List (Option Work)) (busy idle : List (Option Key)) (i : ℕ) (work : Option Work) → KeepsStaff works busy idle → i < length works → IfSome work IsSmall → KeepsStaff (set works i work) (set busy i (busy_key work)) (set idle i (idle_key work))
set_staff works busy idle i work k l small = record {
  busy_is = ap (λ ks. set ks i (busy_key work)) k.busy_is ∙ sym (map-set busy_key works i work);
  idle_is = ap (λ ks. set ks i (idle_key work)) k.idle_is ∙ sym (map-set idle_key works i work);
  small = λ j w e. elim (cases_eq j i) [
    | inl same ↦ some_small work w small (sym (get_or-set_same works i work None l) ∙ ap (λ n. get_or (set works i work) n None) (sym same) ∙ e)
    | inr ne ↦ k.small j w (sym (get_or-set_other works i j work None ne) ∙ e)
  ];
}

map_none : (n : ℕ) → map busy_key (replicate n None) ≡ replicate n None
map_none zero = refl
map_none (suc n) = ap (λ ks. None ∷ ks) (map_none n)

map_idle : (n : ℕ) → map idle_key (replicate n None) ≡ replicate n (Some no_key)
map_idle zero = refl
map_idle (suc n) = ap (λ ks. Some no_key ∷ ks) (map_idle n)

replicate_at : (n i : ℕ) → ◌≡◌ {A = Option Work} (get_or (replicate n None) i None) None
replicate_at zero i = refl
replicate_at (suc n) zero = refl
replicate_at (suc n) (suc i) = replicate_at n i

pub opened_staff : (n : ℕ) (idle : List (Option Key)) → idle ≡ replicate n (Some no_key) → KeepsStaff (replicate n None) (replicate n None) idle
opened_staff n idle is = record {
  busy_is = sym (map_none n);
  idle_is = is ∙ sym (map_idle n);
  small = λ i w e. let n : None ≡ Some w = sym (replicate_at n i) ∙ e in absurd (cc);
}

pub first_work_known : (works : List (Option Work)) (busy idle : List (Option Key)) (i : ℕ) (key : Key) → KeepsStaff works busy idle → IsFirst busy i key → i < length works
first_work_known works busy idle i key k f = omega (arith, has_within busy i key f.found, ap length k.busy_is, length-map works busy_key)

pub all_idle : (n : ℕ) (idle : List (Option Key)) → length idle ≡ n → ((j : ℕ) → j < n → get_or idle j None ≡ Some no_key) → idle ≡ replicate n (Some no_key)
all_idle n idle len at = ext_get_or None idle (replicate n (Some no_key)) (len ∙ sym (length-replicate n (Some no_key))) (λ j l. at j (omega arith) ∙ sym (get_or-replicate n j (Some no_key) None (omega arith)))
