-- A name that is looked for among the names of the tenants, one after another; and the line of a lead.
use Rattle.std.proofs.Common.{ℕ, ℤ, ◌+◌, ◌++◌, append_assoc, ◌<◌, ◌≤◌, ◌≡◌, ◌≢◌, true, false, List, [], length, get_or, Option, Some, None, Result, refl, bytes_eq, sym, ap, subst, ◌∙◌, inl, inr, arith}
use Rattle.std.specs.Prelude.{slice_get, codes}
use Rattle.std.specs.Fmt.{signed_decimal}
use Rattle.std.proofs.lemmas.Bool.{cases_lt, false≢true, false_from_ne_true, ne_eqb}
use Rattle.std.proofs.lemmas.Option.{get_or_from_slice_get}
use Rattle.std.proofs.lemmas.Slice.Eq.{bytes_eq-Decides}
use Rattle.fq_model.specs.declared.limits.TheConstants.{TEXT_TENANTS}
use Rattle.fq_model.specs.declared.config.Config.{Config}
use Rattle.fq_model.specs.declared.event.Entry.{Entry}
use Rattle.fq_model.specs.Ever.{measured_ever_bound}
use Rattle.fq_model.specs.Gap.{TagGap}
use Rattle.fq_model.specs.History.{History, history_of}
use Rattle.fq_model.specs.Lead.{measured_gap}
use Rattle.fq_model.specs.Names.{number_among}
use Rattle.fq_model.specs.Rules.{IsLegal}
use Rattle.program_model.specs.declared.ending.Output.{Output}
use Rattle.program_model.specs.declared.ending.Stop.{Stop}
use Rattle.program_model.specs.declared.verdict.Verdict.{Verdict}
use Rattle.program_model.specs.declared.verdict.Verdict.TheVariants.{Legal, Bad}
use Rattle.program_model.specs.Answer.{Text}
use Rattle.program_model.specs.CheckCommand.{verdict_status}
use Rattle.program_model.specs.Document.{config_of}
use Rattle.program_model.specs.Journal.{Journal}
use Rattle.program_model.specs.LeadCommand.{lead_text, measured_text, lead_answer, IsLeadTold}
use Rattle.program_model.specs.Verdicts.{IsVerdict}
use Rattle.program_model.specs.VerdictTexts.{verdict_text}
use Rattle.tag_difference.specs.Pairs.{told}
use Rattle.tag_lead.specs.declared.leads.Lead.{Lead}
use Rattle.tag_lead.specs.Leads.{IsLead}
use Rattle.tenant_table.specs.Names.{names_of, AreTenants}
use Rattle.tenant_table.proofs.Tables.{length_names, finds}
use Rattle.trace_shape.proofs.Sizes.{none_found}
use Rattle.lead_texts.specs.Leading.{ArePair, IsLineOf}
use Rattle.command_texts.specs.Making.{Makes, IsStop}
use Rattle.command_texts.proofs.Making.{stop_as, makes_as}

-- no tenant before t has it
abbrev pub NoneBefore : List (List ℕ × ℕ) → List ℕ → ℕ → Type 0
NoneBefore tenants name t = (s : ℕ) → s < t → bytes_eq name (get_or (names_of tenants) s []) ≡ false

pub none_first : (tenants : List (List ℕ × ℕ)) (name : List ℕ) → NoneBefore tenants name 0
none_first tenants name s below = absurd (omega (arith, below))

-- tenant t has it
pub found_here : (tenants : List (List ℕ × ℕ)) (name found : List ℕ) (t : ℕ) → AreTenants tenants → t < length tenants → slice_get (names_of tenants) t ≡ Some found → bytes_eq found name ≡ true → Some t ≡ number_among (names_of tenants) name
found_here tenants name found t limits below is e =
    let at : get_or (names_of tenants) t [] ≡ name = get_or_from_slice_get (names_of tenants) t found [] is ∙ (bytes_eq-Decides found name).0 e in
    let within : t < length (names_of tenants) = omega (arith, below, length_names tenants) in
    sym (ap (number_among (names_of tenants)) (sym at) ∙ finds TEXT_TENANTS (names_of tenants) t limits.names within)

other_way : (found name : List ℕ) → bytes_eq found name ≡ false → bytes_eq name found ≡ false
other_way found name ne = false_from_ne_true (bytes_eq name found) (λ e. false≢true (sym ne ∙ (bytes_eq-Decides found name).1 (sym ((bytes_eq-Decides name found).0 e))))

-- tenant t has another
pub none_here : (tenants : List (List ℕ × ℕ)) (name found : List ℕ) (t : ℕ) → slice_get (names_of tenants) t ≡ Some found → bytes_eq found name ≡ false → NoneBefore tenants name t → NoneBefore tenants name (t + 1)
none_here tenants name found t is ne before s below = elim (cases_lt s t) [
  | inl earlier ↦ before s earlier
  | inr later ↦ (
      let same : t ≡ s = omega (arith, below, later) in
      let at : get_or (names_of tenants) t [] ≡ found = get_or_from_slice_get (names_of tenants) t found [] is in
      subst (λ k. bytes_eq name (get_or (names_of tenants) k []) ≡ false) same (ap (bytes_eq name) at ∙ other_way found name ne))
]

-- no tenant has it
pub none_at_all : (tenants : List (List ℕ × ℕ)) (name : List ℕ) (t : ℕ) → length tenants ≤ t → NoneBefore tenants name t → None ≡ number_among (names_of tenants) name
none_at_all tenants name t past before =
    sym (none_found (bytes_eq name) (names_of tenants) [] (λ k below. before k (omega (arith, past, below, length_names tenants))))

-- ---- the line of a lead

line_of : (of over : List ℕ) (ever measured_ever : Option ℤ) (gap measured : Option TagGap) → ever ≡ measured_ever → gap ≡ measured → lead_text of over ever gap ≡ lead_text of over measured_ever measured
line_of of over ever measured_ever gap measured e f = rw (e, f) refl

-- the line of a lead is the line that the definitions give
pub line_told : (of over : List ℕ) (C : Config) (H : History) (f g : ℕ) (lead : Option Lead) (text : List ℕ) → IsLead C H f g lead → IsLineOf of over lead text → text ≡ measured_text of over C H f g
line_told of over C H f g None text is line = line ∙ line_of of over _ _ None (measured_gap C H f g) refl is.gap_is
line_told of over C H f g (Some lead) text is line = line ∙ line_of of over lead.ever (measured_ever_bound C H) (Some (told lead.gap)) (measured_gap C H f g) is.ever_is is.gap_is

-- ---- the answers

-- a fact about the configuration and the entries that are read from a journal is one about the journal
module _ (journal : Journal) (D : Config) (entries : List Entry) (same : D ≡ config_of journal) (read : entries ≡ journal.body) where
  pub in_journal : (Is : Config → List Entry → Type 0) → Is D entries → Is (config_of journal) journal.body
  in_journal Is x = subst (λ (C : Config). Is C journal.body) same (subst (Is D) read x)

-- the answer to a legal journal that has the two tenants
pub pair_told : (of over : List ℕ) (journal : Journal) (f g : ℕ) (lead : Option Lead) (text : List ℕ) → ArePair of over journal f g → IsLegal (config_of journal) (history_of journal.body) → IsLead (config_of journal) (history_of journal.body) f g lead → IsLineOf of over lead text → IsLeadTold of over journal (Text 0 text)
pair_told of over journal f g lead text pair legal is line = record {
  verdict = Legal;
  is_verdict = legal;
  answer_is = rw (pair.of_is, pair.over_is, ne_eqb f g pair.apart) (ap (Text 0) (line_told of over (config_of journal) (history_of journal.body) f g lead text is line));
}

-- the answer to a journal that has not, where it is legal
pub stop_told : (of over : List ℕ) (journal : Journal) (stop : Stop) → IsLegal (config_of journal) (history_of journal.body) → IsStop (λ answer. answer ≡ lead_answer of over journal Legal) stop → IsStop (IsLeadTold of over journal) stop
stop_told of over journal stop legal is = stop_as (λ answer. answer ≡ lead_answer of over journal Legal) (IsLeadTold of over journal) stop (λ answer same. record { verdict = Legal; is_verdict = legal; answer_is = same }) is

pub bad_status : (verdict : Verdict) → verdict ≢ Legal → verdict_status verdict ≡ 8
bad_status Legal ne = absurd (ne refl)
bad_status (Bad place reply wanted) ne = refl

-- the answer to one that is not legal
pub bad_told : (of over : List ℕ) (journal : Journal) (verdict : Verdict) (made : Result Output Stop) → verdict ≢ Legal → IsVerdict (config_of journal) journal.body verdict
    → Makes (λ answer. answer ≡ Text (verdict_status verdict) (verdict_text journal.body verdict)) made → Makes (IsLeadTold of over journal) made
bad_told of over journal Legal made ne is x = absurd (ne refl)
bad_told of over journal (Bad place reply wanted) made ne is x =
    makes_as (λ answer. answer ≡ Text 8 (verdict_text journal.body (Bad place reply wanted))) (IsLeadTold of over journal) made (λ answer same. record { verdict = Bad place reply wanted; is_verdict = is; answer_is = same }) x

-- the pieces of the line, one after another
in_row : (a b c d e f g h : List ℕ) → a ++ (b ++ (c ++ (d ++ (e ++ (f ++ (g ++ h)))))) ≡ ((((((a ++ b) ++ c) ++ d) ++ e) ++ f) ++ g) ++ h
in_row a b c d e f g h = sym (simp append_assoc)

pub ever_whole : (of over : List ℕ) (largest bound ever : ℤ) → codes "lead of " ++ (of ++ (codes " over " ++ (over ++ (codes " largest " ++ (signed_decimal largest ++ (codes " bound " ++ (signed_decimal bound ++ (codes " ever " ++ (signed_decimal ever ++ codes "\n"))))))))) ≡ lead_text of over (Some ever) (Some (record { largest = largest; bound = bound }))
ever_whole of over largest bound ever =
    ap (λ l. codes "lead of " ++ l)
    (in_row of (codes " over ") over (codes " largest ") (signed_decimal largest) (codes " bound ") (signed_decimal bound) (codes " ever " ++ (signed_decimal ever ++ codes "\n"))
    ∙ sym (append_assoc (((((((of ++ codes " over ") ++ over) ++ codes " largest ") ++ signed_decimal largest) ++ codes " bound ") ++ signed_decimal bound)) (codes " ever " ++ signed_decimal ever) (codes "\n")))
