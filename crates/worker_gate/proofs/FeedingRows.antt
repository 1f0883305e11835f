-- Which rows a submitter has handed in so far.
use Rattle.std.proofs.Common.{◌≡◌, ℕ, suc, ◌==◌, ◌⊎◌, ◌||◌, true, false, List, [], ◌∷◌, ◌++◌, map, Some, None, sym, ap, ◌∙◌, subst, refl, inl, inr, append-nil, append_assoc}
use Rattle.std.proofs.lemmas.Bool.{false≢true}
use Rattle.std.proofs.lemmas.List.{reverse-append, map-append}
use Rattle.fq_model.specs.declared.event.Call.TheVariants as call
use Rattle.fq_model.specs.declared.event.Cause.{Cause}
use Rattle.fq_model.specs.declared.event.Entry.{Entry}
use Rattle.fq_model.specs.declared.event.Reply.{Reply}
use Rattle.fq_model.specs.declared.event.Reply.TheVariants as answer
use Rattle.fq_model.specs.History.{History, history_of, Request, has_act, is_closed}
use Rattle.history_lock.specs.Histories.{IsPrefix}
use Rattle.history_lock.specs.Passes.{LockView, IsOf}
use Rattle.desk.specs.declared.floor.Crew.{Crew}
use Rattle.desk.specs.declared.tokens.Submitter.{Submitter}
use Rattle.desk.specs.Tokens.{Stays, IsAnswered}
use Rattle.gate_rules.specs.declared.rows.Row.{Row}
use Rattle.worker_gate.specs.Feeding.{is_last_submit, ClosesAt, HasClosed, request_of, Feeds}
use Rattle.worker_gate.proofs.Seen.{seen_on}
use Rattle.worker_gate.proofs.Feeding.{closed_on, HasFed, fed_none, fed_submit, fed_refused, fed_close}

module _ {J : Type 0} (label : J → ℕ) (kind_for : Row J → ℕ) (lock : LockView Crew) (Tells : ℕ → Type 0) (total : ℕ) (rows : List (Row J)) (old : Submitter) where
  abbrev pub asked_of : List (Row J) → List Request
  asked_of sent = map (request_of label kind_for) sent

  -- of its rows these are left; it has submitted the others, and has closed where it was to
  pub record IsUnderway (left : List (Row J)) (new : Submitter) : Type 0 where
    pub sent : List (Row J)
    pub split : rows ≡ sent ++ left
    pub more : List Entry
    pub fed : HasFed lock Tells total old.pass new.pass (asked_of sent) more
    pub closed : HasClosed total old.pass.number (history_of more) (history_of new.pass.seen)

  closed_all : (own seen : History) → is_closed seen ≡ true → HasClosed total old.pass.number own seen
  closed_all own seen is = record { after_last = λ _. is; at_once = λ _ _. is }

  -- before its rows
  pub begins_open : (n : ℕ) → IsOf lock old.pass → n ≡ old.pass.number → ((total ≡ 0) × (n ≡ 0 → ⊥)) ⊎ (total ≡ 0 → ⊥) → IsUnderway rows old
  begins_open n own numbered not_both = record {
    sent = [];
    split = refl;
    more = [];
    fed = fed_none lock Tells total old.pass own;
    closed = record { after_last = λ h. absurd (false≢true h); at_once = λ t first. absurd (elim not_both [ inl x ↦ x.1 (numbered ∙ first) | inr x ↦ x t ]) };
  }

  pub begins_closed : (new : Submitter) (m : ℕ) (reply : Reply) → IsOf lock old.pass → total ≡ 0 → old.pass.number ≡ 0
      → Stays lock old.pass new.pass → Tells m → IsAnswered lock.frame old.pass (call.Close old.pass.number m) reply new.pass → IsUnderway rows new
  begins_closed new m reply own none first stays tells a =
      let c = fed_close lock Tells total old.pass old.pass new.pass [] [] (fed_none lock Tells total old.pass own) old.own stays m reply tells (none, first) a in record {
        sent = [];
        split = refl;
        more = c.0;
        fed = c.1;
        closed = closed_all (history_of c.0) (history_of new.pass.seen) c.2;
      }

  module _ (row : Row J) (left left2 : List (Row J)) (v w : Submitter) (under : IsUnderway left v) (taken : left ≡ row ∷ left2) (stays : Stays lock v.pass w.pass) where
    split_on : rows ≡ (under.sent ++ row ∷ []) ++ left2
    split_on = under.split ∙ (ap (λ l. under.sent ++ l) taken ∙ sym (append_assoc under.sent (row ∷ []) left2))

    asked_on : asked_of (under.sent ++ row ∷ []) ≡ asked_of under.sent ++ request_of label kind_for row ∷ []
    asked_on = map-append (request_of label kind_for) under.sent (row ∷ [])

    -- the row was handed in under this kind, and answered so
    abbrev pub IsAsked : ℕ → ℕ → Reply → Type 0
    IsAsked m kind reply = IsAnswered lock.frame v.pass (call.Submit v.pass.number m row.tenant kind row.declared (label row.job)) reply w.pass

    as_kind : (m kind : ℕ) (reply : Reply) → kind ≡ kind_for row → IsAsked m kind reply → IsAsked m (kind_for row) reply
    as_kind m kind reply is a = subst (λ k. IsAsked m k reply) is a

    -- one row more is submitted, which was not the last of all
    pub row_submitted : (m kind r : ℕ) → false ≡ (suc r == total) → Tells m → kind ≡ kind_for row → IsAsked m kind (answer.Request r) → IsUnderway left2 w
    row_submitted m kind r not_last tells kind_is asked =
        let a = as_kind m kind (answer.Request r) kind_is asked in
        let s = fed_submit lock Tells total old.pass v.pass w.pass (asked_of under.sent) under.more under.fed v.own stays m r row.tenant (kind_for row) row.declared (label row.job) tells a in
        let on : IsPrefix v.pass.seen w.pass.seen = seen_on lock.frame v.pass w.pass _ _ a in
        let turned : history_of (under.more ++ s.0 ∷ []) ≡ s.0 ∷ history_of under.more = reverse-append under.more (s.0 ∷ []) in
        let other : is_last_submit total s.0.act ≡ false = ap (is_last_submit total) s.1 ∙ sym not_last in record {
          sent = under.sent ++ row ∷ [];
          split = split_on;
          more = under.more ++ s.0 ∷ [];
          fed = subst (λ l. HasFed lock Tells total old.pass w.pass l (under.more ++ s.0 ∷ [])) (sym asked_on) s.2;
          closed = record {
            after_last = λ h.
                let x : (is_last_submit total s.0.act || has_act (is_last_submit total) (history_of under.more)) ≡ true = sym (ap (has_act (is_last_submit total)) turned) ∙ h in
                closed_on v.pass.seen w.pass.seen on (under.closed.after_last (sym (ap (λ b. b || has_act (is_last_submit total) (history_of under.more)) other) ∙ x));
            at_once = λ t n. closed_on v.pass.seen w.pass.seen on (under.closed.at_once t n);
          };
        }

    -- one row more is submitted, which was the last of all, and then it is closed
    pub row_closed : (x : Submitter) (m kind r m2 : ℕ) (reply : Reply) → true ≡ (suc r == total) → Tells m → kind ≡ kind_for row → IsAsked m kind (answer.Request r)
        → Stays lock w.pass x.pass → Tells m2 → IsAnswered lock.frame w.pass (call.Close w.pass.number m2) reply x.pass → IsUnderway left2 x
    row_closed x m kind r m2 reply last tells kind_is asked stays2 tells2 b =
        let a = as_kind m kind (answer.Request r) kind_is asked in
        let s = fed_submit lock Tells total old.pass v.pass w.pass (asked_of under.sent) under.more under.fed v.own stays m r row.tenant (kind_for row) row.declared (label row.job) tells a in
        let turned : history_of (under.more ++ s.0 ∷ []) ≡ s.0 ∷ history_of under.more = reverse-append under.more (s.0 ∷ []) in
        let place : ClosesAt total old.pass.number (history_of (under.more ++ s.0 ∷ [])) = subst (ClosesAt total old.pass.number) (sym turned) (ap (is_last_submit total) s.1 ∙ sym last) in
        let c = fed_close lock Tells total old.pass w.pass x.pass (asked_of under.sent ++ request_of label kind_for row ∷ []) (under.more ++ s.0 ∷ []) s.2 w.own stays2 m2 reply tells2 place b in record {
          sent = under.sent ++ row ∷ [];
          split = split_on;
          more = c.0;
          fed = subst (λ l. HasFed lock Tells total old.pass x.pass l c.0) (sym asked_on) c.1;
          closed = closed_all (history_of c.0) (history_of x.pass.seen) c.2;
        }

    -- the row was refused
    refused_so : (m : ℕ) (why : Cause) → Tells m → IsAsked m (kind_for row) (answer.Refused why) → Feeds label kind_for lock Tells total rows old w (Some (row, why)) left2
    refused_so m why tells a =
        let r = fed_refused lock Tells total old.pass v.pass w.pass (asked_of under.sent) under.more under.fed v.own stays m row.tenant (kind_for row) row.declared (label row.job) why tells a in
        let on : IsPrefix v.pass.seen w.pass.seen = seen_on lock.frame v.pass w.pass _ _ a in record {
          stays = r.0.stays;
          seen = r.0.seen;
          sent = under.sent;
          split = under.split ∙ ap (λ l. under.sent ++ l) taken;
          more = under.more;
          mine = r.0.mine;
          feed = r.0.feed;
          closed = record {
            after_last = λ h. closed_on v.pass.seen w.pass.seen on (under.closed.after_last h);
            at_once = λ t n. closed_on v.pass.seen w.pass.seen on (under.closed.at_once t n);
          };
          refused = (m, tells, r.1);
          moments = r.0.moments;
        }

    -- the row was refused, and its job comes back
    pub row_refused : (m kind : ℕ) (why : Cause) (job : J) → job ≡ row.job → Tells m → kind ≡ kind_for row → IsAsked m kind (answer.Refused why)
        → Feeds label kind_for lock Tells total rows old w (Some (record { tenant = row.tenant; kind = row.kind; declared = row.declared; job = job }, why)) left2
    row_refused m kind why job back tells kind_is asked =
        subst (λ (j : J). Feeds label kind_for lock Tells total rows old w (Some (record { tenant = row.tenant; kind = row.kind; declared = row.declared; job = j }, why)) left2) (sym back)
        (refused_so m why tells (as_kind m kind (answer.Refused why) kind_is asked))

  -- no row is left
  pub all_submitted : (left left2 : List (Row J)) (new : Submitter) → IsUnderway left new → left ≡ [] → left2 ≡ [] → Feeds label kind_for lock Tells total rows old new None left2
  all_submitted left left2 new under none none2 = record {
    stays = under.fed.stays;
    seen = under.fed.seen;
    sent = under.sent;
    split = (under.split ∙ (ap (λ l. under.sent ++ l) none ∙ append-nil under.sent), none2);
    more = under.more;
    mine = under.fed.mine;
    feed = under.fed.feed;
    closed = under.closed;
    refused = tt;
    moments = under.fed.moments;
  }

-- where all rows are submitted, none is left
pub none_rests : {J : Type 0} (label : J → ℕ) (kind_for : Row J → ℕ) (lock : LockView Crew) (Tells : ℕ → Type 0) (total : ℕ) (rows : List (Row J)) (old new : Submitter) (rest : List (Row J)) → Feeds label kind_for lock Tells total rows old new None rest
    → Feeds label kind_for lock Tells total rows old new None []
none_rests label kind_for lock Tells total rows old new rest f = subst (λ l. Feeds label kind_for lock Tells total rows old new None l) f.split.1 f
