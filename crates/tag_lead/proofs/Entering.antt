-- A scheduler to which the first entries of a past came, and the next one.
use Rattle.std.proofs.Common.{ℕ, ◌+◌, ◌<◌, ◌≤◌, ◌≡◌, ◌∙◌, refl, sym, ap, subst, arith, List, [], ◌∷◌, ◌++◌, length, drop, Option, length-append}
use Rattle.std.proofs.lemmas.List.{length-reverse, reverse-append}
use Rattle.fq_model.specs.declared.config.Config.{Config}
use Rattle.fq_model.specs.declared.event.Entry.{Entry}
use Rattle.fq_model.specs.Limits.{InLimits}
use Rattle.fq_model.specs.History.{History, history_of}
use Rattle.fq_model.specs.Rules.{IsLegal}
use Rattle.charge_book.specs.declared.row.RunRow.{RunRow}
use Rattle.tag_difference.proofs.Prefixes.{first_entries, next_entry, one_on, split_at}
use Rattle.tag_lead.specs.declared.spans.MeasuredLength.{MeasuredLength}
use Rattle.tag_lead.specs.Spans.{CanMeasure, HasWorker, measured_by, row_of_act}
use Rattle.tag_lead.proofs.Rows.{has_worker}
use Rattle.tag_lead.proofs.LengthLemmas.{MeasuresIf, measures, can_measure}

-- the first entries are not more than all
pub first_short : (past : List Entry) (i : ℕ) → length (first_entries past i) ≤ length past
first_short past i = omega (arith, ap length (split_at past i), length-append (history_of (drop i past)) (first_entries past i), length-reverse past)

pub no_entries : (past : List Entry) → past ≡ [] → (later : List Entry) → history_of past ≡ first_entries later 0
no_entries past is later = rw is refl

pub came : (past : List Entry) (i : ℕ) (old new : History) → i < length past → old ≡ first_entries past i → new ≡ next_entry past i ∷ old → new ≡ first_entries past (i + 1)
came past i old new b was now = now ∙ ap (λ (P : History). next_entry past i ∷ P) was ∙ sym (one_on past i b)

-- an entry at the end comes first in the history
pub history_more : (old new : List Entry) (e : Entry) → new ≡ old ++ e ∷ [] → history_of new ≡ e ∷ history_of old
history_more old new e grown = ap history_of grown ∙ reverse-append old (e ∷ [])

-- the entries with the next one are legal
pub next_legal : (C D : Config) (P : History) (old : List Entry) (e : Entry) → D ≡ C → history_of old ≡ P → IsLegal D (history_of (old ++ e ∷ [])) → IsLegal C (e ∷ P)
next_legal C D P old e same was legal =
    let now : history_of (old ++ e ∷ []) ≡ e ∷ P = reverse-append old (e ∷ []) ∙ ap (λ (Q : History). e ∷ Q) was in
    subst (λ (B : Config). IsLegal B (e ∷ P)) same (subst (IsLegal D) now legal)

module _ (C D : Config) (P old : History) (e : Entry) (lim : InLimits C) (l : IsLegal C (e ∷ P)) (same : D ≡ C) (was : old ≡ P) where
  pub may_enter : IsLegal D (e ∷ old)
  may_enter = subst (λ (B : Config). IsLegal B (e ∷ old)) (sym same) (subst (λ (Q : History). IsLegal C (e ∷ Q)) (sym was) l)

  pub worker_still : HasWorker D e.act
  worker_still = rw same (has_worker C P e l)

  pub legal_now : (E : Config) (new : History) → E ≡ D → new ≡ e ∷ old → IsLegal E new
  legal_now E new still now = subst (λ (B : Config). IsLegal B new) (sym still) (subst (IsLegal D) (sym now) may_enter)

  -- the length that the entry measures, by the rows before it and after it
  pub measured_now : (E : Config) (new : History) (before after : Option RunRow) (o : Option MeasuredLength) → E ≡ D → new ≡ e ∷ old → (HasWorker D e.act → before ≡ row_of_act D old e.act) → (HasWorker E e.act → after ≡ row_of_act E new e.act) → o ≡ measured_by e.act before after → MeasuresIf C P (e ∷ P) o
  measured_now E new before after o still now is_before is_after is =
      let was_row : before ≡ row_of_act D old e.act = is_before worker_still in
      let row_now : after ≡ row_of_act E new e.act = is_after (rw still worker_still) in
      rw (is, was_row, row_now, still, now, same, was) (measures C P e lim l)

  pub can_now : (E : Config) (new : History) (before after : Option RunRow) → E ≡ D → new ≡ e ∷ old → (HasWorker D e.act → before ≡ row_of_act D old e.act) → (HasWorker E e.act → after ≡ row_of_act E new e.act) → CanMeasure e.act before after
  can_now E new before after still now is_before is_after =
      let was_row : before ≡ row_of_act D old e.act = is_before worker_still in
      let row_now : after ≡ row_of_act E new e.act = is_after (rw still worker_still) in
      rw (was_row, row_now, still, now, same, was) (can_measure C P e lim l)

pub limits_still : (C D : Config) → D ≡ C → InLimits C → InLimits D
limits_still C D same lim = rw same lim
