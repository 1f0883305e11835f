-- Beside the requests, the fluid service asks nothing of a history but its changes.
use Rattle.std.proofs.Common.{ℕ, zero, suc, ◌+◌, ◌*◌, ◌≤◌, ◌≡◌, true, false, nat_le, nat_eq, ◌-◌, ◌&&◌, List, [], ◌∷◌, map, length, arith, refl, ap, ap₂, sym, ◌∙◌, subst, inl, inr, reverse, cond}
use Rattle.std.proofs.lemmas.List.{map-append, reverse-append}
use Rattle.std.proofs.lemmas.Bool.{cases_Bool, leb-true, le-leb, cond-true, cond-false, and_from, and_parts}
use Rattle.fq_model.specs.declared.config.Config.{Config}
use Rattle.fq_model.specs.declared.event.Act.{Act}
use Rattle.fq_model.specs.declared.event.Act.TheVariants.{Submit, Take, Report, Done, Close, Weight, Workers, Withdraw}
use Rattle.fq_model.specs.declared.event.Entry.{Entry}
use Rattle.fq_model.specs.declared.fluid.FluidRow.{FluidRow}
use Rattle.fq_model.specs.History.{History, weight_at, pool_at}
use Rattle.fq_model.specs.Time.{last_moment}
use Rattle.fq_model.specs.Level.{gift, level}
use Rattle.fq_model.specs.Fluid.{is_all_by, prefix_at, IsInOrder, changes_of, history_of_changes, change_entry, with_change, fluid, slot_gift, backlog_at, costs_by, ChangesSayAll}
use Rattle.fq_laws.proofs.Lists.{list_same}

-- the changes of a history as a history
abbrev G : History → History
G H = history_of_changes (changes_of H)

-- one act more
abbrev more : ℕ → Act → History → History
more m (Weight tenant weight) older = record { who = 0; moment = m; act = Weight tenant weight } ∷ older
more m (Workers count) older = record { who = 0; moment = m; act = Workers count } ∷ older
more m _ older = older

grows_at : (m : ℕ) (a : Act) (cs : _) → history_of_changes (with_change m a cs) ≡ more m a (history_of_changes cs)
grows_at m (Weight tenant weight) cs = ap reverse (map-append change_entry cs _) ∙ reverse-append (map change_entry cs) _
grows_at m (Workers count) cs = ap reverse (map-append change_entry cs _) ∙ reverse-append (map change_entry cs) _
grows_at m _ cs = refl

grows : (e : Entry) (P : History) → G (e ∷ P) ≡ more e.moment e.act (G P)
grows e P = grows_at e.moment e.act (changes_of P)

-- in a history in order whose last moment is at most m, all moments are
all_by : (m : ℕ) (H : History) → IsInOrder H → last_moment H ≤ m → is_all_by m H ≡ true
all_by m [] o h = refl
all_by m (e ∷ P) o h = and_from _ _ (le-leb _ _ h) (all_by m P o.1 (omega (arith, o.0, h)))

more_by : (m n : ℕ) (a : Act) (older : History) → n ≤ m → is_all_by m older ≡ true → is_all_by m (more n a older) ≡ true
more_by m n (Weight tenant weight) older h g = and_from _ _ (le-leb _ _ h) g
more_by m n (Workers count) older h g = and_from _ _ (le-leb _ _ h) g
more_by m n _ older h g = g

changes_by : (m : ℕ) (H : History) → is_all_by m H ≡ true → is_all_by m (G H) ≡ true
changes_by m [] h = refl
changes_by m (e ∷ P) h =
    let p = and_parts _ _ h in
    subst (λ x. is_all_by m x ≡ true) (sym (grows e P)) (more_by m e.moment e.act (G P) (leb-true _ _ p.0) (changes_by m P p.1))

pub whole : (m : ℕ) (H : History) → is_all_by m H ≡ true → prefix_at H m ≡ H
whole m [] h = refl
whole m (e ∷ P) h = cond-true (is_all_by m (e ∷ P)) _ _ h

-- a prefix by moment: the history where all entries are in time, and never an entry that is too late
pub not_by : (m : ℕ) (e : Entry) (P : History) → nat_le e.moment m ≡ false → prefix_at (e ∷ P) m ≡ prefix_at P m
not_by m e P h = cond-false (is_all_by m (e ∷ P)) _ _ (ap (λ b. b && is_all_by m P) h)

not_more : (m n : ℕ) (a : Act) (older : History) → nat_le n m ≡ false → prefix_at (more n a older) m ≡ prefix_at older m
not_more m n (Weight tenant weight) older h = not_by m _ older h
not_more m n (Workers count) older h = not_by m _ older h
not_more m n _ older h = refl

-- a value that is equal for a history and for its changes is equal for their prefixes by moment
same_at : {A : Type 0} (f : History → A) → ((H : History) → f (G H) ≡ f H) → (H : History) (m : ℕ) → IsInOrder H → f (prefix_at (G H) m) ≡ f (prefix_at H m)
same_at f s [] m o = refl
same_at f s (e ∷ P) m o = elim (cases_Bool (nat_le e.moment m)) [
  | inl h ↦
      (let a : is_all_by m (e ∷ P) ≡ true = all_by m (e ∷ P) o (leb-true _ _ h) in
      ap f (whole m (G (e ∷ P)) (changes_by m (e ∷ P) a)) ∙ s (e ∷ P) ∙ ap f (sym (whole m (e ∷ P) a)))
  | inr h ↦ ap (λ x. f (prefix_at x m)) (grows e P) ∙ ap f (not_more m e.moment e.act (G P) h) ∙ same_at f s P m o.1 ∙ ap f (sym (not_by m e P h))
]

weight_more : (C : Config) (t m w : ℕ) (a : Act) (older P : History) → weight_at C older t ≡ weight_at C P t → weight_at C (more m a older) t ≡ weight_at C (record { who = w; moment = m; act = a } ∷ P) t
unfolding weight_at
weight_more C t m w (Weight tenant weight) older P h = ap (λ x. cond (nat_eq tenant t) weight x) h
weight_more C t m w (Workers count) older P h = h
weight_more C t m w (Submit a b c d e) older P h = h
weight_more C t m w (Take a b c) older P h = h
weight_more C t m w (Report a b c) older P h = h
weight_more C t m w (Done a b c) older P h = h
weight_more C t m w Close older P h = h
weight_more C t m w (Withdraw a) older P h = h

weight_same : (C : Config) (t : ℕ) (H : History) → weight_at C (G H) t ≡ weight_at C H t
weight_same C t [] = refl
weight_same C t (e ∷ P) = ap (λ x. weight_at C x t) (grows e P) ∙ weight_more C t e.moment e.who e.act (G P) P (weight_same C t P)

pool_more : (C : Config) (m w : ℕ) (a : Act) (older P : History) → pool_at C older ≡ pool_at C P → pool_at C (more m a older) ≡ pool_at C (record { who = w; moment = m; act = a } ∷ P)
unfolding pool_at
pool_more C m w (Weight tenant weight) older P h = h
pool_more C m w (Workers count) older P h = refl
pool_more C m w (Submit a b c d e) older P h = h
pool_more C m w (Take a b c) older P h = h
pool_more C m w (Report a b c) older P h = h
pool_more C m w (Done a b c) older P h = h
pool_more C m w Close older P h = h
pool_more C m w (Withdraw a) older P h = h

pool_same : (C : Config) (H : History) → pool_at C (G H) ≡ pool_at C H
pool_same C [] = refl
pool_same C (e ∷ P) = ap (pool_at C) (grows e P) ∙ pool_more C e.moment e.who e.act (G P) P (pool_same C P)

backlog_same : (C : Config) (rows : List FluidRow) (H : History) (m t : ℕ) (s r : ℕ → ℕ) → IsInOrder H → ((u : ℕ) → s u ≡ r u) → backlog_at C rows (G H) m s t ≡ backlog_at C rows H m r t
backlog_same C rows H m t s r o h = ap₂ (λ x w. record { units = costs_by rows m t - x; weight = w }) (h t) (same_at (λ P. weight_at C P t) (weight_same C t) H m o)

gift_same : (C : Config) (rows : List FluidRow) (H : History) (Q m t : ℕ) (s r : ℕ → ℕ) → IsInOrder H → ((u : ℕ) → s u ≡ r u) → slot_gift C rows (G H) Q m s t ≡ slot_gift C rows H Q m r t
gift_same C rows H Q m t s r o h = ap₂ gift
    (ap₂ (λ n bs. level (n * Q) bs) (same_at (pool_at C) (pool_same C) H m o) (list_same _ _ (length C.weights) (λ u l. backlog_same C rows H m u s r o h)))
    (backlog_same C rows H m t s r o h)

pub changes_say_all : ChangesSayAll
unfolding fluid
changes_say_all C rows H Q t zero o = refl
changes_say_all C rows H Q t (suc k) o = ap₂ ◌+◌ (changes_say_all C rows H Q t k o) (gift_same C rows H Q (k * Q) t _ _ o (λ u. changes_say_all C rows H Q u k o))
