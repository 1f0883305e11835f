-- The entries of a submitter so far, one call after another.
use Rattle.std.proofs.Common.{◌≡◌, ℕ, suc, ◌⊎◌, Bool, true, false, List, [], ◌∷◌, ◌++◌, length, reverse, Option, Some, None, sym, ap, ◌∙◌, subst, refl, inl, inr, arith, append-nil, append_assoc}
use Rattle.std.proofs.lemmas.Bool.{or_parts, or_right, false≢true, false_from_ne_true}
use Rattle.std.proofs.lemmas.List.{reverse-append}
use Rattle.fq_model.specs.declared.config.Config.{Config}
use Rattle.fq_model.specs.declared.event.Act.{Act}
use Rattle.fq_model.specs.declared.event.Act.TheVariants.{Submit, Close}
use Rattle.fq_model.specs.declared.event.Call.TheVariants as call
use Rattle.fq_model.specs.declared.event.Cause.{Cause}
use Rattle.fq_model.specs.declared.event.Cause.TheVariants as cause
use Rattle.fq_model.specs.declared.event.Entry.{Entry}
use Rattle.fq_model.specs.declared.event.Reply.{Reply}
use Rattle.fq_model.specs.declared.event.Reply.TheVariants as answer
use Rattle.fq_model.specs.History.{History, history_of, Request, has_act, count_acts, is_close, is_closed, submits}
use Rattle.fq_model.specs.Outcome.{own_entries}
use Rattle.fq_model.specs.Rules.{Answers, IsAccepted, RefusedOrElse, first_true, submit_refusal}
use Rattle.fq_model.specs.Time.{effective_moment}
use Rattle.fq_laws.proofs.Rules.Answers.{refused_leaves}
use Rattle.fq_laws.specs.Words.{one_more}
use Rattle.history_lock.specs.Histories.{IsPrefix, Gains}
use Rattle.history_lock.specs.Passes.{LockView, PassView, IsOf}
use Rattle.history_lock.proofs.Histories.{prefix_through}
use Rattle.desk.specs.declared.floor.Crew.{Crew}
use Rattle.desk.specs.Tokens.{Stays, IsAnswered}
use Rattle.worker_gate.specs.Feeding.{ClosesAt, IsFeed}
use Rattle.worker_gate.specs.Moments.{HasToldMomentsFrom}
use Rattle.worker_gate.proofs.Seen.{seen_on, prefix_same, moments_begin, moments_on}

-- ---- histories that grow

has_over : (test : Act → Bool) (R H : History) → has_act test H ≡ true → has_act test (R ++ H) ≡ true
has_over test [] H h = h
has_over test (e ∷ R) H h = or_right (test e.act) (has_act test (R ++ H)) (has_over test R H h)

-- a closed history stays closed
pub closed_on : (P Q : List Entry) → IsPrefix P Q → is_closed (history_of P) ≡ true → is_closed (history_of Q) ≡ true
unfolding is_closed
closed_on P Q (rest, is) h = subst (λ H. has_act is_close H ≡ true) (sym (ap reverse is ∙ reverse-append P rest)) (has_over is_close (history_of rest) (history_of P) h)

count_none : (test : Act → Bool) (P : History) → has_act test P ≡ false → count_acts test P ≡ 0
count_none test [] h = refl
count_none test (e ∷ P) h =
    let p = or_parts (test e.act) (has_act test P) h in
    rw (p.0, count_none test P p.1) refl

abbrev newest_or : Entry → History → Entry
newest_or e [] = e
newest_or e (f ∷ P) = f

-- the newest entry is the entry that a caller gains
gained : (who : ℕ) (P P2 mine mine2 : List Entry) (e : Entry) → history_of P2 ≡ e ∷ history_of P → Gains who P P2 mine mine2 → mine2 ≡ mine ++ e ∷ []
gained who P P2 mine mine2 e is (inl (same, mine_same)) =
    let n : length (history_of P) ≡ suc (length (history_of P)) = ap (λ l. length (history_of l)) (sym same) ∙ ap length is in
    absurd (omega (arith, n))
gained who P P2 mine mine2 e is (inr (f, more, mine_more, by)) =
    let turned : f ∷ history_of P ≡ e ∷ history_of P = sym (ap history_of more ∙ reverse-append P (f ∷ [])) ∙ is in
    mine_more ∙ ap (λ x. mine ++ x ∷ []) (ap (newest_or f) turned)

-- where the history stays, so do the caller's own entries
kept : (who : ℕ) (P P2 mine mine2 : List Entry) → history_of P2 ≡ history_of P → Gains who P P2 mine mine2 → mine2 ≡ mine
kept who P P2 mine mine2 is (inl (same, mine_same)) = mine_same
kept who P P2 mine mine2 is (inr (f, more, mine_more, by)) =
    let n : suc (length (history_of P)) ≡ length (history_of P) = ap length (sym (ap history_of more ∙ reverse-append P (f ∷ [])) ∙ is) in
    absurd (omega (arith, n))

close_closes : (who moment : ℕ) (P : History) → is_closed (one_more who moment Close P) ≡ true
unfolding is_closed
close_closes who moment P = refl

-- ---- replies

abbrev number_of : ℕ → Reply → ℕ
number_of d (answer.Request request) = request
number_of d _ = d

submitted_at : (o : Option Cause) (P : History) (who m r tenant kind declared label : ℕ) (Q : History)
    → RefusedOrElse o P (answer.Request r) Q (IsAccepted P who m (Submit (submits P) tenant kind declared label) (answer.Request (submits P)) (answer.Request r) Q)
    → Q ≡ one_more who (effective_moment P m) (Submit r tenant kind declared label) P
submitted_at None P who m r tenant kind declared label Q x =
    let same : submits P ≡ r = sym (ap (number_of 0) x.0) in
    x.1 ∙ ap (λ n. one_more who (effective_moment P m) (Submit n tenant kind declared label) P) same
submitted_at (Some c) P who m r tenant kind declared label Q x = let no : answer.Request r ≡ answer.Refused c = x.0 in absurd (cc)

-- a Submit that gets a number is in the history then
submitted : (C : Config) (P : History) (who m r tenant kind declared label : ℕ) (Q : History) → Answers C P (call.Submit who m tenant kind declared label) (answer.Request r) Q
    → Q ≡ one_more who (effective_moment P m) (Submit r tenant kind declared label) P
submitted C P who m r tenant kind declared label Q x = submitted_at (submit_refusal C P tenant kind declared) P who m r tenant kind declared label Q x

-- a Close is in the history then, or the history was closed already and stays
closes : (C : Config) (P : History) (who m : ℕ) (reply : Reply) (Q : History) → Answers C P (call.Close who m) reply Q
    → ((is_closed P ≡ true) × (Q ≡ P)) ⊎ ((is_closed P ≡ false) × (Q ≡ one_more who (effective_moment P m) Close P))
closes C P who m reply Q x = go (is_closed P) refl x
  where
    go : (b : Bool) → is_closed P ≡ b → RefusedOrElse (first_true ((b, cause.Closed) ∷ [])) P reply Q (IsAccepted P who m Close answer.Accepted reply Q)
        → ((is_closed P ≡ true) × (Q ≡ P)) ⊎ ((is_closed P ≡ false) × (Q ≡ one_more who (effective_moment P m) Close P))
    go true e y = inl (e, y.1)
    go false e y = inr (e, y.1)

-- ---- one entry more

module _ (total number : ℕ) (asked : List Request) (own : History) (f : IsFeed total number asked own) where
  feed_submit : (who m r tenant kind declared label : ℕ)
      → IsFeed total number (asked ++ record { tenant = tenant; kind = kind; declared = declared; label = label } ∷ []) (one_more who m (Submit r tenant kind declared label) own)
  feed_submit who m r tenant kind declared label =
      let q : Request = record { tenant = tenant; kind = kind; declared = declared; label = label } in record {
        rows = ap (λ l. q ∷ l) f.rows ∙ sym (reverse-append asked (q ∷ []));
        no_other = f.no_other;
        one_close = f.one_close;
        close_place = (f.close_place, λ h. absurd (false≢true h));
      }

  feed_close : (who m : ℕ) → has_act is_close own ≡ false → ClosesAt total number own → IsFeed total number asked (one_more who m Close own)
  feed_close who m open_still place = record {
    rows = f.rows;
    no_other = f.no_other;
    one_close = rw (count_none is_close own open_still) (omega arith);
    close_place = (f.close_place, λ _. place);
  }

-- ---- the entries so far

-- a submitter has submitted these requests, and these are its new entries
pub record HasFed (lock : LockView Crew) (Tells : ℕ → Type 0) (total : ℕ) (old new : PassView Crew) (asked : List Request) (more : List Entry) : Type 0 where
  pub stays : Stays lock old new
  pub seen : IsPrefix old.seen new.seen
  pub mine : new.mine ≡ old.mine ++ more
  pub feed : IsFeed total old.number asked (history_of more)
  pub close_seen : has_act is_close (history_of more) ≡ true → is_closed (history_of new.seen) ≡ true
  pub moments : HasToldMomentsFrom Tells old.number (length old.seen) (history_of new.seen)

module _ (lock : LockView Crew) (Tells : ℕ → Type 0) (total : ℕ) (old : PassView Crew) where
  pub fed_none : IsOf lock old → HasFed lock Tells total old old [] []
  fed_none own = record {
    stays = record { own = own; number = refl; made = refl; ended = refl };
    seen = prefix_same old.seen;
    mine = sym (append-nil old.mine);
    feed = record { rows = refl; no_other = refl; one_close = omega arith; close_place = tt };
    close_seen = λ h. absurd (false≢true h);
    moments = moments_begin Tells old.number old.seen;
  }

  module _ (v w : PassView Crew) (asked : List Request) (more : List Entry) (fed : HasFed lock Tells total old v asked more) (own : v.mine ≡ own_entries v.seen v.number) (stays : Stays lock v w) where
    stays_on : Stays lock old w
    stays_on = record { own = stays.own; number = stays.number ∙ fed.stays.number; made = stays.made ∙ fed.stays.made; ended = stays.ended ∙ fed.stays.ended }

    mine_on : (e : Entry) → w.mine ≡ v.mine ++ e ∷ [] → w.mine ≡ old.mine ++ (more ++ e ∷ [])
    mine_on e is = is ∙ (ap (λ l. l ++ e ∷ []) fed.mine ∙ append_assoc old.mine more (e ∷ []))

    -- the request has got this number
    pub fed_submit : (m r tenant kind declared label : ℕ) → Tells m → IsAnswered lock.frame v (call.Submit v.number m tenant kind declared label) (answer.Request r) w
        → (e : Entry) × (e.act ≡ Submit r tenant kind declared label)
        × HasFed lock Tells total old w (asked ++ record { tenant = tenant; kind = kind; declared = declared; label = label } ∷ []) (more ++ e ∷ [])
    fed_submit m r tenant kind declared label tells a =
        let c = call.Submit v.number m tenant kind declared label in
        let at = effective_moment (history_of a.P) m in
        let e : Entry = record { who = v.number; moment = at; act = Submit r tenant kind declared label } in
        let on : IsPrefix v.seen w.seen = seen_on lock.frame v w c (answer.Request r) a in
        let new : history_of w.seen ≡ e ∷ history_of a.P = submitted lock.frame.config (history_of a.P) v.number m r tenant kind declared label (history_of w.seen) a.answers in
        let turned : history_of (more ++ e ∷ []) ≡ e ∷ history_of more = reverse-append more (e ∷ []) in
        let asked2 = asked ++ record { tenant = tenant; kind = kind; declared = declared; label = label } ∷ [] in (
          e,
          refl,
          record {
            stays = stays_on;
            seen = prefix_through old.seen v.seen w.seen fed.seen on;
            mine = mine_on e (gained v.number a.P w.seen v.mine w.mine e new a.gains);
            feed = subst (IsFeed total old.number asked2) (sym turned) (feed_submit total old.number asked (history_of more) fed.feed v.number at r tenant kind declared label);
            close_seen = λ h. closed_on v.seen w.seen on (fed.close_seen (subst (λ H. has_act is_close H ≡ true) turned h));
            moments = moments_on Tells old.number (length old.seen) lock.frame v w c (answer.Request r) a fed.stays.number own tells fed.moments;
          },
        )

    -- it was refused
    pub fed_refused : (m tenant kind declared label : ℕ) (why : Cause) → Tells m → IsAnswered lock.frame v (call.Submit v.number m tenant kind declared label) (answer.Refused why) w
        → HasFed lock Tells total old w asked more × Answers lock.frame.config (history_of w.seen) (call.Submit old.number m tenant kind declared label) (answer.Refused why) (history_of w.seen)
    fed_refused m tenant kind declared label why tells a =
        let c = call.Submit v.number m tenant kind declared label in
        let C = lock.frame.config in
        let on : IsPrefix v.seen w.seen = seen_on lock.frame v w c (answer.Refused why) a in
        let same : history_of w.seen ≡ history_of a.P = refused_leaves C (history_of a.P) c why (history_of w.seen) a.answers in (
          record {
            stays = stays_on;
            seen = prefix_through old.seen v.seen w.seen fed.seen on;
            mine = kept v.number a.P w.seen v.mine w.mine same a.gains ∙ fed.mine;
            feed = fed.feed;
            close_seen = λ h. closed_on v.seen w.seen on (fed.close_seen h);
            moments = moments_on Tells old.number (length old.seen) lock.frame v w c (answer.Refused why) a fed.stays.number own tells fed.moments;
          },
          subst (λ n. Answers C (history_of w.seen) (call.Submit n m tenant kind declared label) (answer.Refused why) (history_of w.seen)) fed.stays.number
              (subst (λ H. Answers C H c (answer.Refused why) (history_of w.seen)) (sym same) a.answers),
        )

    -- it has closed, or the history was closed already
    pub fed_close : (m : ℕ) (reply : Reply) → Tells m → ClosesAt total old.number (history_of more) → IsAnswered lock.frame v (call.Close v.number m) reply w
        → (more2 : List Entry) × HasFed lock Tells total old w asked more2 × (is_closed (history_of w.seen) ≡ true)
    fed_close m reply tells place a =
        elim (closes lock.frame.config (history_of a.P) v.number m reply (history_of w.seen) a.answers) [ inl x ↦ already x.0 x.1 | inr x ↦ anew x.0 x.1 ]
      where
        on : IsPrefix v.seen w.seen
        on = seen_on lock.frame v w (call.Close v.number m) reply a

        told : HasToldMomentsFrom Tells old.number (length old.seen) (history_of w.seen)
        told = moments_on Tells old.number (length old.seen) lock.frame v w (call.Close v.number m) reply a fed.stays.number own tells fed.moments

        already : is_closed (history_of a.P) ≡ true → history_of w.seen ≡ history_of a.P → (more2 : List Entry) × HasFed lock Tells total old w asked more2 × (is_closed (history_of w.seen) ≡ true)
        already closed same = (
          more,
          record {
            stays = stays_on;
            seen = prefix_through old.seen v.seen w.seen fed.seen on;
            mine = kept v.number a.P w.seen v.mine w.mine same a.gains ∙ fed.mine;
            feed = fed.feed;
            close_seen = λ h. closed_on v.seen w.seen on (fed.close_seen h);
            moments = told;
          },
          ap is_closed same ∙ closed,
        )

        e : Entry
        e = record { who = v.number; moment = effective_moment (history_of a.P) m; act = Close }

        none_yet : is_closed (history_of a.P) ≡ false → has_act is_close (history_of more) ≡ false
        none_yet open_still = false_from_ne_true _ (λ h. false≢true (sym open_still ∙ closed_on v.seen a.P a.begins (fed.close_seen h)))

        anew : is_closed (history_of a.P) ≡ false → history_of w.seen ≡ e ∷ history_of a.P → (more2 : List Entry) × HasFed lock Tells total old w asked more2 × (is_closed (history_of w.seen) ≡ true)
        anew open_still new =
            let closed : is_closed (history_of w.seen) ≡ true = ap is_closed new ∙ close_closes v.number (effective_moment (history_of a.P) m) (history_of a.P) in
            let turned : history_of (more ++ e ∷ []) ≡ e ∷ history_of more = reverse-append more (e ∷ []) in (
              more ++ e ∷ [],
              record {
                stays = stays_on;
                seen = prefix_through old.seen v.seen w.seen fed.seen on;
                mine = mine_on e (gained v.number a.P w.seen v.mine w.mine e new a.gains);
                feed = subst (IsFeed total old.number asked) (sym turned) (feed_close total old.number asked (history_of more) fed.feed v.number (effective_moment (history_of a.P) m) (none_yet open_still) place);
                close_seen = λ _. closed;
                moments = told;
              },
              closed,
            )
