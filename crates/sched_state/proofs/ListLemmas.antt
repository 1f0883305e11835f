-- The lists of a history at one entry more, and the jobs in them.
use Rattle.std.proofs.Common.{ℕ, zero, suc, ◌+◌, ◌<◌, ◌≡◌, ◌≢◌, ◌==◌, true, false, arith, refl, ap, sym, ◌∙◌, List, [], ◌∷◌, ◌++◌, length, drop, subst, Option, Some, None, inl, inr, get_or, set, slice_get, replicate, length-set, get_or-set_same, get_or-set_other}
use Rattle.std.specs.Prelude.{option_map, is_none, not, filter, Result, Ok, Err, OnOk, OnErr, is_ok, IfSome, IfNone, IsSome}
use Rattle.std.specs.FinMap as map
use Rattle.std.proofs.lemmas.Bool.{false≢true, both_ways, cases_eq, cases_Bool, eq-eqb, ne_eqb, and_from, and_parts, and_right, false_from_ne_true}
use Rattle.std.proofs.lemmas.List.{get_or-replicate, length-replicate, length_push, length-append}
use Rattle.std.proofs.lemmas.List.Elements.{recursion_from_All}
use Rattle.std.proofs.lemmas.List.Sums.{sum_by-set}
use Rattle.std.proofs.lemmas.List.Folds.{sum_by-replicate}
use Rattle.fq_model.specs.declared.config.Config.{Config}
use Rattle.fq_model.specs.declared.event.Entry.{Entry}
use Rattle.fq_model.specs.declared.event.Act.TheVariants.{Submit, Take, Report, Done, Withdraw}
use Rattle.fq_model.specs.declared.event.Act.{Act}
use Rattle.fq_model.specs.Limits.{InLimits}
use Rattle.fq_model.specs.History.{History, Request, request_at, is_of_tenant, is_removal_of, is_removed, is_submitted, is_waiting, waits_for, WaitsFor, queue, queue_after, waiting, head, submits}
use Rattle.fq_model.specs.Rules.{IsLegal, FitsSubmit}
use Rattle.fq_laws.specs.Words.{first, Member, Ascends, one_more, is_quiet}
use Rattle.fq_laws.proofs.Rules.Takes.{of_waits, take_head, TakesHead}
use Rattle.fq_laws.proofs.History.Asked.{waits_submitted, is_of_asked, submitted_known, of_own, of_other}
use Rattle.fq_laws.proofs.History.Counts.{waiting_report, waiting_done, waiting_quiet, waiting_none}
use Rattle.fq_laws.proofs.History.Numbers.{waiting_submitted, waiting_taken, waiting_withdrawn}
use Rattle.fq_laws.proofs.History.Requests.{asked_stays, fresh_unsubmitted, request_known}
use Rattle.fq_laws.proofs.History.Queues.{queue_law, head_is_first}
use Rattle.waiting_lists.specs.declared.item.Item.{Item}
use Rattle.waiting_lists.specs.Lists as lists
use Rattle.sched_state.specs.Lists.{all_items, jobs_of, jobs_in, IsItemOf, AreItemsOf, ListsAre, waiting_label, HoldsWaiting}
use Rattle.sched_state.proofs.JobLists.{Among, among_right, among_at, each_among, list_of_one, one_of_all, found_among, none_among, jobs_push, jobs_out, jobs_pop}

module _ {J : Type 0} (label : J → ℕ) where
  -- ---- items of requests

  items_stay : (C : Config) (P : History) (e : Entry) (t : ℕ) (items : List (Item J)) (rs : List ℕ) → IsLegal C (e ∷ P) → AreItemsOf label P t items rs → AreItemsOf label (e ∷ P) t items rs
  items_stay C P e t [] [] l h = tt
  items_stay C P e t (i ∷ is) (r ∷ rs) l h = (record { number = h.0.number; asked = asked_stays C P e r _ l h.0.asked }, items_stay C P e t is rs l h.1)
  items_stay C P e t [] (r ∷ rs) l h = absurd h
  items_stay C P e t (i ∷ is) [] l h = absurd h

  items_end : (P : History) (t r : ℕ) (i : Item J) (items : List (Item J)) (rs : List ℕ) → AreItemsOf label P t items rs → IsItemOf label P t r i → AreItemsOf label P t (items ++ i ∷ []) (rs ++ r ∷ [])
  items_end P t r i [] [] h new = (new, tt)
  items_end P t r i (x ∷ xs) (s ∷ ss) h new = (h.0, items_end P t r i xs ss h.1 new)
  items_end P t r i [] (s ∷ ss) h new = absurd h
  items_end P t r i (x ∷ xs) [] h new = absurd h

  items_drop : (P : History) (t : ℕ) (items : List (Item J)) (rs : List ℕ) → AreItemsOf label P t items rs → AreItemsOf label P t (drop 1 items) (drop 1 rs)
  items_drop P t [] [] h = tt
  items_drop P t (x ∷ xs) (s ∷ ss) h = h.1
  items_drop P t [] (s ∷ ss) h = absurd h
  items_drop P t (x ∷ xs) [] h = absurd h

  -- an item is of a request of the list
  item_request : (P : History) (t : ℕ) (i : Item J) (items : List (Item J)) (rs : List ℕ) → AreItemsOf label P t items rs → Among i items → (r : ℕ) × Member r rs × IsItemOf label P t r i
  item_request P t i [] [] h a = absurd a
  item_request P t i (x ∷ xs) (s ∷ ss) h (inl e) = (s, inl refl, subst (IsItemOf label P t s) (sym e) h.0)
  item_request P t i (x ∷ xs) (s ∷ ss) h (inr a) = let k = item_request P t i xs ss h.1 a in (k.0, inr k.1, k.2)
  item_request P t i [] (s ∷ ss) h a = absurd h
  item_request P t i (x ∷ xs) [] h a = absurd h

  -- and each request of the list has an item
  request_item : (P : History) (t r : ℕ) (items : List (Item J)) (rs : List ℕ) → AreItemsOf label P t items rs → Member r rs → (i : Item J) × Among i items × IsItemOf label P t r i
  request_item P t r [] [] h a = absurd a
  request_item P t r (x ∷ xs) (s ∷ ss) h (inl e) = (x, inl refl, subst (λ z. IsItemOf label P t z x) (sym e) h.0)
  request_item P t r (x ∷ xs) (s ∷ ss) h (inr a) = let k = request_item P t r xs ss h.1 a in (k.0, inr k.1, k.2)
  request_item P t r [] (s ∷ ss) h a = absurd h
  request_item P t r (x ∷ xs) [] h a = absurd h

  -- the list without an item has the requests without the item's
  none_left_out : (r : ℕ) (rs : List ℕ) → ((s : ℕ) → Member s rs → s ≢ r) → filter (λ s. not (s == r)) rs ≡ rs
  none_left_out r [] others = refl
  none_left_out r (s ∷ ss) others = rw (ne_eqb s r (others s (inl refl))) (ap (λ xs. s ∷ xs) (none_left_out r ss (λ x m. others x (inr m))))

  items_without : (P : History) (t r : ℕ) (i : Item J) (front rest : List (Item J)) (rs : List ℕ) → Ascends rs → i.request ≡ r → AreItemsOf label P t (front ++ i ∷ rest) rs → AreItemsOf label P t (front ++ rest) (filter (λ s. not (s == r)) rs)
  items_without P t r i [] rest [] up is h = absurd h
  items_without P t r i [] rest (s ∷ ss) up is h =
      let same : s ≡ r = sym h.0.number ∙ is in
      let later : (x : ℕ) → Member x ss → x ≢ r = λ x m e. (let b : s < x = up.0 x m in omega (arith, b, same, e)) in
      rw (eq-eqb s r same, none_left_out r ss later) h.1
  items_without P t r i (x ∷ xs) rest [] up is h = absurd h
  items_without P t r i (x ∷ xs) rest (s ∷ ss) up is h =
      let k = item_request P t i (xs ++ i ∷ rest) ss h.1 (among_right i xs (i ∷ rest) (inl refl)) in
      let earlier : s < k.0 = up.0 k.0 k.1 in
      let other : s ≢ r = λ e. omega (arith, earlier, e, k.2.number, is) in
      rw (ne_eqb s r other) (h.0, items_without P t r i xs rest ss up.1 is h.1)

  -- ---- the first item of a list

  top_of : (P : History) (t : ℕ) (i : Item J) (items : List (Item J)) (rs : List ℕ) → AreItemsOf label P t items rs → slice_get items 0 ≡ Some i → (first rs ≡ Some i.request) × IsItemOf label P t i.request i
  top_of P t i [] rs h e = absurd (cc)
  top_of P t i (x ∷ xs) [] h e = absurd h
  top_of P t i (x ∷ xs) (s ∷ ss) h e =
      let same : x ≡ i = cc in
      let one : IsItemOf label P t s i = subst (IsItemOf label P t s) same h.0 in
      (ap (λ z. Some z) (sym one.number), subst (λ z. IsItemOf label P t z i) (sym one.number) one)

  no_top : (P : History) (t : ℕ) (items : List (Item J)) (rs : List ℕ) → AreItemsOf label P t items rs → slice_get items 0 ≡ None → first rs ≡ None
  no_top P t [] [] h e = refl
  no_top P t [] (s ∷ ss) h e = absurd h
  no_top P t (x ∷ xs) rs h e = absurd (cc)

  -- it is the tenant's head
  pub item_head : (C : Config) (P : History) (t : ℕ) (i : Item J) (w : lists.ListsView J) → InLimits C → IsLegal C P → t < length C.weights → ListsAre label C P w → slice_get (lists.list_of w t) 0 ≡ Some i → (head P t ≡ Some i.request) × IsItemOf label P t i.request i
  item_head C P t i w lim l known h e = let x = top_of P t i (lists.list_of w t) (queue P t) (h.items t known) e in (head_is_first C P t lim l ∙ x.0, x.1)

  -- where there is none the tenant has no head
  pub no_item_head : (C : Config) (P : History) (t : ℕ) (w : lists.ListsView J) → InLimits C → IsLegal C P → t < length C.weights → ListsAre label C P w → slice_get (lists.list_of w t) 0 ≡ None → head P t ≡ None
  no_item_head C P t w lim l known h e = head_is_first C P t lim l ∙ no_top P t (lists.list_of w t) (queue P t) (h.items t known) e

  -- the list is empty exactly where the tenant has no head
  pub first_is : (C : Config) (P : History) (t : ℕ) (w : lists.ListsView J) → InLimits C → IsLegal C P → t < length C.weights → ListsAre label C P w → is_none (slice_get (lists.list_of w t) 0) ≡ is_none (head P t)
  first_is C P t w lim l known h = go (slice_get (lists.list_of w t) 0) refl
    where
      go : (o : Option (Item J)) → slice_get (lists.list_of w t) 0 ≡ o → is_none (slice_get (lists.list_of w t) 0) ≡ is_none (head P t)
      go None e = rw (e, no_item_head C P t w lim l known h e) refl
      go (Some i) e = rw (e, (item_head C P t i w lim l known h e).0) refl

  -- ---- opening

  pub lists_nil : (C : Config) (w : lists.ListsView J) → w ≡ record { lists = replicate (length C.weights) []; slots = C.requests } → ListsAre label C [] w
  lists_nil C w e = subst (ListsAre label C []) (sym e) (record {
    tenants = length-replicate (length C.weights) [];
    slots = refl;
    items = λ t b. rw (get_or-replicate {A = List (Item J)} (length C.weights) t [] [] b) tt;
    counted = sum_by-replicate (λ (x : List (Item J)). length x) (length C.weights) [] ∙ (omega arith ∙ sym waiting_none);
  })

  -- ---- one entry more

  count_set : (all : List (List (Item J))) (t : ℕ) (items : List (Item J)) → t < length all → lists.waiting (record { lists = set all t items; slots = 0 }) + length (get_or all t []) ≡ lists.waiting (record { lists = all; slots = 0 }) + length items
  count_set all t items b = sum_by-set (λ (x : List (Item J)). length x) all t items [] b

  -- a Submit
  pub lists_submit : (C : Config) (P : History) (who m t : ℕ) (i : Item J) (w : lists.ListsView J) → InLimits C → IsLegal C (one_more who m (Submit i.request t i.kind i.declared (label i.job)) P) → ListsAre label C P w → ListsAre label C (one_more who m (Submit i.request t i.kind i.declared (label i.job)) P) (lists.with_list w t (lists.list_of w t ++ i ∷ []))
  lists_submit C P who m t i w lim l h =
      let e : Entry = record { who = who; moment = m; act = Submit i.request t i.kind i.declared (label i.job) } in
      let f : FitsSubmit C P i.request t i.kind i.declared = l.3 in
      let known : t < length w.lists = omega (arith, f.tenant_known, h.tenants) in
      let items : List (Item J) = lists.list_of w t in
      let new : IsItemOf label (e ∷ P) t i.request i = record { number = refl; asked = rw (eq-eqb i.request i.request refl) refl } in
      record {
        tenants = length-set w.lists t (items ++ i ∷ []) ∙ h.tenants;
        slots = h.slots;
        items = λ u b. elim (cases_eq t u) [
          | inl same ↦ rw (← same, eq-eqb t t refl, get_or-set_same w.lists t (items ++ i ∷ []) [] known) (items_end (e ∷ P) t i.request i items (queue P t) (items_stay C P e t items (queue P t) l (h.items t f.tenant_known)) new)
          | inr other ↦ rw (ne_eqb t u other, get_or-set_other w.lists t u (items ++ i ∷ []) [] (λ x. other (sym x))) (items_stay C P e u (lists.list_of w u) (queue P u) l (h.items u b))
        ];
        counted = omega (arith, h.counted, count_set w.lists t (items ++ i ∷ []) known, length_push items i, waiting_submitted C P who m i.request t i.kind i.declared (label i.job) lim l.0 f);
      }

  length_drop : (items : List (Item J)) (rs : List ℕ) (P : History) (t r : ℕ) → AreItemsOf label P t items rs → first rs ≡ Some r → length (drop 1 items) + 1 ≡ length items
  length_drop [] [] P t r h e = absurd (cc)
  length_drop [] (s ∷ ss) P t r h e = absurd h
  length_drop (x ∷ xs) rs P t r h e = omega arith

  -- a Take of a request of tenant t
  pub lists_take : (C : Config) (P : History) (who m worker r estimate t : ℕ) (w : lists.ListsView J) → InLimits C → IsLegal C (one_more who m (Take worker r estimate) P) → is_of_tenant t (request_at P r) ≡ true → t < length C.weights → ListsAre label C P w → ListsAre label C (one_more who m (Take worker r estimate) P) (lists.with_list w t (drop 1 (lists.list_of w t)))
  lists_take C P who m worker r estimate t w lim l own known h =
      let e : Entry = record { who = who; moment = m; act = Take worker r estimate } in
      let x : TakesHead C P r = take_head C P m worker r estimate l.3 in
      let o = is_of_asked t (request_at P r) own in
      let same_tenant : x.what.tenant ≡ t = (let k : Some x.what ≡ Some o.0 = sym x.was_asked ∙ o.1 in cc) in
      let is_head : head P t ≡ Some r = rw same_tenant at x.is_head in
      let in_list : t < length w.lists = omega (arith, known, h.tenants) in
      let items : List (Item J) = lists.list_of w t in
      let top : first (queue P t) ≡ Some r = sym (head_is_first C P t lim l.0) ∙ is_head in
      record {
        tenants = length-set w.lists t (drop 1 items) ∙ h.tenants;
        slots = h.slots;
        items = λ u b. elim (cases_eq t u) [
          | inl same ↦ rw (← same, own, get_or-set_same w.lists t (drop 1 items) [] in_list) (items_drop (e ∷ P) t items (queue P t) (items_stay C P e t items (queue P t) l (h.items t known)))
          | inr other ↦ rw (of_other P u r x.what x.was_asked (λ z. other (sym same_tenant ∙ z)), get_or-set_other w.lists t u (drop 1 items) [] (λ z. other (sym z))) (items_stay C P e u (lists.list_of w u) (queue P u) l (h.items u b))
        ];
        counted = omega (arith, h.counted, count_set w.lists t (drop 1 items) in_list, length_drop items (queue P t) P t r (h.items t known) top, waiting_taken C P who m worker r estimate lim l.0 l.3);
      }

  -- the request of an item that is taken off a list
  pub removed_asked : (C : Config) (P : History) (r t : ℕ) (i : Item J) (w new : lists.ListsView J) → ListsAre label C P w → lists.IsRemoved w r t i new → request_at P r ≡ Some (record { tenant = t; kind = i.kind; declared = i.declared; label = label i.job })
  removed_asked C P r t i w new h x =
      let listed : Among i (lists.list_of w t) = rw x.was (among_right i x.front (i ∷ x.rest) (inl refl)) in
      let one = item_request P t i (lists.list_of w t) (queue P t) (h.items t (omega (arith, x.known, h.tenants))) listed in
      ap (request_at P) (sym x.number ∙ one.2.number) ∙ one.2.asked

  -- a Withdraw of the request of such an item
  lists_withdraw : (C : Config) (P : History) (who m r t : ℕ) (i : Item J) (w new : lists.ListsView J) → InLimits C → IsLegal C (one_more who m (Withdraw r) P) → ListsAre label C P w → (x : lists.IsRemoved w r t i new) → ListsAre label C (one_more who m (Withdraw r) P) (lists.with_list w t (x.front ++ x.rest))
  lists_withdraw C P who m r t i w new lim l h x =
      let e : Entry = record { who = who; moment = m; act = Withdraw r } in
      let known : t < length C.weights = omega (arith, x.known, h.tenants) in
      let left : List (Item J) = x.front ++ x.rest in
      let asked = removed_asked C P r t i w new h x in
      let listed : AreItemsOf label P t (x.front ++ i ∷ x.rest) (queue P t) = subst (λ items. AreItemsOf label P t items (queue P t)) x.was (h.items t known) in
      let shorter : length (lists.list_of w t) ≡ length (x.front ++ i ∷ x.rest) = ap (λ (items : List (Item J)). length items) x.was in
      record {
        tenants = length-set w.lists t left ∙ h.tenants;
        slots = h.slots;
        items = λ u b. elim (cases_eq t u) [
          | inl same ↦ rw (← same, of_own P t r _ asked refl, get_or-set_same w.lists t left [] x.known) (items_without (e ∷ P) t r i x.front x.rest (queue P t) (queue_law C P t lim l.0).ascends x.number (items_stay C P e t (x.front ++ i ∷ x.rest) (queue P t) l listed))
          | inr other ↦ rw (of_other P u r _ asked other, get_or-set_other w.lists t u left [] (λ z. other (sym z))) (items_stay C P e u (lists.list_of w u) (queue P u) l (h.items u b))
        ];
        counted = omega (arith, h.counted, count_set w.lists t left x.known, shorter, length-append x.front (i ∷ x.rest), length-append x.front x.rest, waiting_withdrawn C P who m r lim l.0 l.3);
      }

  -- an act that neither submits nor removes
  queues_same : (C : Config) (P : History) (e : Entry) (w : lists.ListsView J) → IsLegal C (e ∷ P) → ((t : ℕ) → queue (e ∷ P) t ≡ queue P t) → waiting (e ∷ P) ≡ waiting P → ListsAre label C P w → ListsAre label C (e ∷ P) w
  queues_same C P e w l same count h = record {
    tenants = h.tenants;
    slots = h.slots;
    items = λ t b. subst (AreItemsOf label (e ∷ P) t (lists.list_of w t)) (sym (same t)) (items_stay C P e t (lists.list_of w t) (queue P t) l (h.items t b));
    counted = h.counted ∙ sym count;
  }

  pub lists_report : (C : Config) (P : History) (who m worker r used : ℕ) (w : lists.ListsView J) → IsLegal C (one_more who m (Report worker r used) P) → ListsAre label C P w → ListsAre label C (one_more who m (Report worker r used) P) w
  lists_report C P who m worker r used w l h = queues_same C P _ w l (λ t. refl) (waiting_report P who m worker r used) h

  pub lists_done : (C : Config) (P : History) (who m worker r cost : ℕ) (w : lists.ListsView J) → IsLegal C (one_more who m (Done worker r cost) P) → ListsAre label C P w → ListsAre label C (one_more who m (Done worker r cost) P) w
  lists_done C P who m worker r cost w l h = queues_same C P _ w l (λ t. refl) (waiting_done P who m worker r cost) h

  queue_quiet : (P : History) (t : ℕ) (a : Act) (older : List ℕ) → is_quiet a ≡ true → queue_after P t a older ≡ older
  queue_quiet P t (Submit request tenant kind declared label) older q = absurd (false≢true q)
  queue_quiet P t (Take worker request estimate) older q = absurd (false≢true q)
  queue_quiet P t (Withdraw request) older q = absurd (false≢true q)
  queue_quiet P t _ older q = refl

  -- an act that touches no request
  pub lists_quiet : (C : Config) (P : History) (who m : ℕ) (a : Act) (w : lists.ListsView J) → is_quiet a ≡ true → IsLegal C (one_more who m a P) → ListsAre label C P w → ListsAre label C (one_more who m a P) w
  lists_quiet C P who m a w q l h = queues_same C P _ w l (λ t. queue_quiet P t a (queue P t) q) (waiting_quiet P who m a q) h

  -- ---- the jobs that wait

  label_waits : (P : History) (q : ℕ) (a : Request) → is_waiting P q ≡ true → request_at P q ≡ Some a → waiting_label P q ≡ Some a.label
  label_waits P q a waits known = rw (waits, known) refl

  label_rests : (P : History) (q : ℕ) → is_waiting P q ≡ false → waiting_label P q ≡ None
  label_rests P q rests = rw rests refl

  waits_of : (P : History) (t q : ℕ) → is_of_tenant t (request_at P q) ≡ true → is_waiting P q ≡ true → WaitsFor P t q
  unfolding waits_for is_waiting
  waits_of P t q own waits = and_from _ _ own (and_parts _ _ waits).1

  -- the request of an item in a list waits
  item_waits : (C : Config) (P : History) (w : lists.ListsView J) (t q : ℕ) (i : Item J) → InLimits C → IsLegal C P → ListsAre label C P w → t < length w.lists → Among i (lists.list_of w t) → i.request ≡ q → is_waiting P q ≡ true × IsItemOf label P t q i
  item_waits C P w t q i lim l h known listed is =
      let z = item_request P t i (lists.list_of w t) (queue P t) (h.items t (omega (arith, known, h.tenants))) listed in
      let number : z.0 ≡ q = sym z.2.number ∙ is in
      let waits : WaitsFor P t z.0 = ((queue_law C P t lim l).waits z.0).0 z.1 in
      (subst (λ r. is_waiting P r ≡ true) number (of_waits P t z.0 waits), subst (λ r. IsItemOf label P t r i) number z.2)

  -- and a request that waits is in a list
  record IsListed (w : lists.ListsView J) (q : ℕ) : Type 0 where
    tenant : ℕ
    known : tenant < length w.lists
    item : Item J
    listed : Among item (lists.list_of w tenant)
    number : item.request ≡ q

  waits_listed : (C : Config) (P : History) (w : lists.ListsView J) (q : ℕ) → InLimits C → IsLegal C P → ListsAre label C P w → is_waiting P q ≡ true → IsListed w q
  waits_listed C P w q lim l h waits =
      let a = submitted_known P q (waits_submitted P q waits) in
      let known = request_known C P q a.0 l a.1 in
      let t : ℕ = a.0.tenant in
      let member : Member q (queue P t) = ((queue_law C P t lim l).waits q).1 (waits_of P t q (of_own P t q a.0 a.1 refl) waits) in
      let i = request_item P t q (lists.list_of w t) (queue P t) (h.items t known.tenant_known) member in
      record { tenant = t; known = omega (arith, known.tenant_known, h.tenants); item = i.0; listed = i.1; number = i.2.number }

  -- a request waits where a list has an item of it
  pub listed_waits : (C : Config) (P : History) (w : lists.ListsView J) (q t : ℕ) → InLimits C → IsLegal C P → ListsAre label C P w → lists.HasItemOf w q t → is_waiting P q ≡ true
  listed_waits C P w q t lim l h x =
      let at = x.listed in
      (item_waits C P w t q at.1 lim l h x.known (among_at (lists.list_of w t) at.0 at.1 at.2 at.3) at.4).0

  -- and there alone
  pub unlisted_rests : (C : Config) (P : History) (w : lists.ListsView J) (q : ℕ) → InLimits C → IsLegal C P → ListsAre label C P w → lists.HasNone w q → is_waiting P q ≡ false
  unlisted_rests C P w q lim l h none = false_from_ne_true _ (λ waits. let x = waits_listed C P w q lim l h waits in each_among (λ (i : Item J). i.request ≢ q) (lists.list_of w x.tenant) x.item (recursion_from_All (λ (i : Item J). i.request ≢ q) (lists.list_of w x.tenant) (none x.tenant x.known)) x.listed x.number)

  held_at : (C : Config) (P : History) (w : lists.ListsView J) (q : ℕ) (o : Option J) → InLimits C → IsLegal C P → ListsAre label C P w → map.get (jobs_in w.lists) q ≡ o → option_map label o ≡ waiting_label P q
  held_at C P w q (Some job) lim l h e =
      let x = found_among (all_items w.lists) q job e in
      let y = list_of_one x.0 w.lists x.1 in
      let z = item_waits C P w y.0 q x.0 lim l h y.1 y.2 x.2 in
      ap (λ j. Some (label j)) (sym x.3) ∙ sym (label_waits P q _ z.0 z.1.asked)
  held_at C P w q None lim l h e = elim (cases_Bool (is_waiting P q)) [
    | inl waits ↦ (let x = waits_listed C P w q lim l h waits in absurd (none_among (all_items w.lists) q x.item e (one_of_all x.item w.lists x.tenant x.known x.listed) x.number))
    | inr rests ↦ sym (label_rests P q rests)
  ]

  -- there is a job in the lists for each waiting request, and for no other
  pub holds_waiting : (C : Config) (P : History) (w : lists.ListsView J) → InLimits C → IsLegal C P → ListsAre label C P w → HoldsWaiting label P (jobs_in w.lists)
  holds_waiting C P w lim l h = λ q. held_at C P w q (map.get (jobs_in w.lists) q) lim l h refl

  no_job : (o : Option J) → option_map label o ≡ None → o ≡ None
  no_job None h = refl
  no_job (Some job) h = absurd (cc)

  -- ---- the job of a Submit

  label_fresh : (C : Config) (P : History) (r : ℕ) → IsLegal C P → r ≡ submits P → waiting_label P r ≡ None
  unfolding is_waiting
  label_fresh C P r l n = rw (fresh_unsubmitted C P r l (omega (arith, n))) refl

  -- it is new
  pub new_job : (C : Config) (P : History) (w : lists.ListsView J) (r : ℕ) → InLimits C → IsLegal C P → ListsAre label C P w → r ≡ submits P → map.get (jobs_in w.lists) r ≡ None
  new_job C P w r lim l h n = no_job (map.get (jobs_in w.lists) r) (holds_waiting C P w lim l h r ∙ label_fresh C P r l n)

  -- the lists after it
  pub record Pushed (C : Config) (P : History) (e : Entry) (t : ℕ) (i : Item J) (w new : lists.ListsView J) : Type 0 where
    pub lists_are : ListsAre label C (e ∷ P) new
    pub jobs_are : jobs_in new.lists ≡ map.insert (jobs_in w.lists) i.request i.job

  pub pushed : (C : Config) (P : History) (who m t name : ℕ) (i : Item J) (w new : lists.ListsView J) → InLimits C → IsLegal C (one_more who m (Submit i.request t i.kind i.declared name) P) → name ≡ label i.job → ListsAre label C P w → new ≡ lists.with_list w t (lists.list_of w t ++ i ∷ []) → Pushed C P (record { who = who; moment = m; act = Submit i.request t i.kind i.declared name }) t i w new
  pushed C P who m t name i w new lim l named h is = rw (is, named) (
      let legal : IsLegal C (one_more who m (Submit i.request t i.kind i.declared (label i.job)) P) = subst (λ z. IsLegal C (one_more who m (Submit i.request t i.kind i.declared z) P)) named l in
      record {
        lists_are = lists_submit C P who m t i w lim legal h;
        jobs_are = jobs_push w.lists t i (omega (arith, h.tenants, l.3.tenant_known)) (new_job C P w i.request lim l.0 h l.3.numbered);
      }
      )

  -- ---- the job of a Take and of a Withdraw

  removed_rests : (P : History) (who m r : ℕ) (a : Act) → is_removal_of r a ≡ true → waiting_label (one_more who m a P) r ≡ None
  unfolding is_waiting is_removed
  removed_rests P who m r a h = label_rests (one_more who m a P) r (and_right (is_submitted (one_more who m a P) r) (not (is_removed (one_more who m a P) r)) (rw h refl))

  -- the lists after it
  pub record Removed (C : Config) (P : History) (e : Entry) (r : ℕ) (job : J) (w new : lists.ListsView J) : Type 0 where
    pub lists_are : ListsAre label C (e ∷ P) new
    pub job_is : map.get (jobs_in w.lists) r ≡ Some job
    pub jobs_are : jobs_in new.lists ≡ map.remove (jobs_in w.lists) r

  -- they have no job of the request
  removed_job : (C : Config) (P : History) (who m r : ℕ) (a : Act) (w : lists.ListsView J) → InLimits C → IsLegal C (one_more who m a P) → is_removal_of r a ≡ true → ListsAre label C (one_more who m a P) w → map.get (jobs_in w.lists) r ≡ None
  removed_job C P who m r a w lim l removes h = no_job (map.get (jobs_in w.lists) r) (holds_waiting C (one_more who m a P) w lim l h r ∙ removed_rests P who m r a removes)

  pub taken : (C : Config) (P : History) (who m worker estimate t : ℕ) (i : Item J) (w new : lists.ListsView J) → InLimits C → IsLegal C (one_more who m (Take worker i.request estimate) P) → t < length C.weights → ListsAre label C P w → slice_get (lists.list_of w t) 0 ≡ Some i → new ≡ lists.with_list w t (drop 1 (lists.list_of w t)) → Removed C P (record { who = who; moment = m; act = Take worker i.request estimate }) i.request i.job w new
  taken C P who m worker estimate t i w new lim l known h top is = rw is (
      let item : IsItemOf label P t i.request i = (item_head C P t i w lim l.0 known h top).1 in
      let own : is_of_tenant t (request_at P i.request) ≡ true = of_own P t i.request _ item.asked refl in
      let left : lists.ListsView J = lists.with_list w t (drop 1 (lists.list_of w t)) in
      let queues : ListsAre label C (one_more who m (Take worker i.request estimate) P) left = lists_take C P who m worker i.request estimate t w lim l own known h in
      let gone : map.get (jobs_in left.lists) i.request ≡ None = removed_job C P who m i.request (Take worker i.request estimate) left lim l (eq-eqb i.request i.request refl) queues in
      let x = jobs_pop w.lists t i (omega (arith, h.tenants, known)) top gone in
      record { lists_are = queues; job_is = x.found; jobs_are = x.gone }
      )

  pub withdrawn : (C : Config) (P : History) (who m r t : ℕ) (i : Item J) (w new : lists.ListsView J) → InLimits C → IsLegal C (one_more who m (Withdraw r) P) → ListsAre label C P w → lists.IsRemoved w r t i new → Removed C P (record { who = who; moment = m; act = Withdraw r }) r i.job w new
  withdrawn C P who m r t i w new lim l h x =
      let left : lists.ListsView J = lists.with_list w t (x.front ++ x.rest) in
      let queues : ListsAre label C (one_more who m (Withdraw r) P) left = lists_withdraw C P who m r t i w new lim l h x in
      let gone : map.get (jobs_in left.lists) r ≡ None = removed_job C P who m r (Withdraw r) left lim l (eq-eqb r r refl) queues in
      let y = jobs_out w.lists t i x.front x.rest x.known x.was (ap (map.get (jobs_in left.lists)) x.number ∙ gone) in
      subst (Removed C P (record { who = who; moment = m; act = Withdraw r }) r i.job w) (sym x.is) (record {
        lists_are = queues;
        job_is = ap (map.get (jobs_in w.lists)) (sym x.number) ∙ y.found;
        jobs_are = y.gone ∙ ap (map.remove (jobs_in w.lists)) x.number;
      })

  -- a request that waits is found
  pub is_found : (C : Config) (P : History) (w : lists.ListsView J) (q : ℕ) (o : Option (ℕ × Item J)) → InLimits C → IsLegal C P → ListsAre label C P w → is_waiting P q ≡ true → IfNone o (lists.HasNone w q) → IsSome o
  is_found C P w q (Some x) lim l h waits none = refl
  is_found C P w q None lim l h waits none = absurd (both_ways _ (unlisted_rests C P w q lim l h none) waits)

  -- ---- no jobs at first

  no_items : (n : ℕ) → all_items (replicate {A = List (Item J)} n []) ≡ []
  no_items zero = refl
  no_items (suc n) = no_items n

  pub no_jobs : (tenants slots : ℕ) (w : lists.ListsView J) → w ≡ record { lists = replicate tenants []; slots = slots } → jobs_in w.lists ≡ map.empty
  no_jobs tenants slots w e = ap (λ z. jobs_in z.lists) e ∙ ap (λ x. jobs_of x) (no_items tenants)

  pub lists_opened : (C : Config) (tenants slots : ℕ) (w : lists.ListsView J) → tenants ≡ length C.weights → slots ≡ C.requests → w ≡ record { lists = replicate tenants []; slots = slots } → ListsAre label C [] w
  lists_opened C tenants slots w e f is = lists_nil C w (is ∙ rw (e, f) refl)

-- ---- the results of calls of the lists

-- a consequence of `Ok` holds of a result that is `Ok`
pub when_ok : {E : Type 0} {A : Type 0} (r : Result (Unit {0}) E) {x : Unit {0}} → r ≡ Ok x → OnOk r A → A
when_ok (Ok x) e a = a
when_ok (Err y) e a = absurd (cc)

-- a property of each item that is found holds of this one
pub when_some : {A : Type 0} (P : A → Type 0) (o : Option A) {x : A} → o ≡ Some x → IfSome o P → P x
when_some P (Some y) {x} e h = let same : y ≡ x = cc in subst P same h
when_some P None e h = absurd (cc)

-- where fewer wait than there are slots, an item is not refused
pub room_left : {J : Type 0} (label : J → ℕ) (C : Config) (P : History) (w : lists.ListsView J) (r : Result (Unit {0}) (Item J)) → waiting P < C.requests → ListsAre label C P w → OnErr r (lists.waiting w ≡ w.slots) → is_ok r ≡ true
room_left label C P w (Ok x) few is full = refl
room_left label C P w (Err y) few is full = absurd (omega (arith, few, is.counted, is.slots, full))
