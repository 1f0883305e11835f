-- Consequences of the definitions of verdicts and explanations.
use Rattle.std.specs.Prelude.{ℕ, ◌≡◌, ◌↔◌, List, Option}
use Rattle.fq_model.specs.declared.config.Config.{Config}
use Rattle.fq_model.specs.declared.event.Entry.{Entry}
use Rattle.fq_model.specs.History.{history_of}
use Rattle.fq_model.specs.Rules.{IsLegal}
use Rattle.program_model.specs.declared.explained.Explained.{Explained}
use Rattle.program_model.specs.declared.verdict.Verdict.{Verdict}
use Rattle.program_model.specs.declared.verdict.Verdict.TheVariants.{Legal}
use Rattle.program_model.specs.Explanations.{Explains}
use Rattle.program_model.specs.Verdicts.{IsVerdict}
use Rattle.program_model.specs.VerdictTexts.{explanation_text}

-- entries have one verdict at most
abbrev pub OneVerdict : Type 0
OneVerdict = (C : Config) (entries : List Entry) (v w : Verdict) → IsVerdict C entries v → IsVerdict C entries w → v ≡ w

-- the verdict is Legal where and only where the history of the entries is legal
abbrev pub LegalIsLegal : Type 0
LegalIsLegal =
    (C : Config) (entries : List Entry) (v : Verdict) → IsVerdict C entries v
    → (v ≡ Legal) ↔ IsLegal C (history_of entries)

-- the explanations of a request of legal entries have one text
abbrev pub OneExplanation : Type 0
OneExplanation = (C : Config) (entries : List Entry) (names : List (List ℕ)) (request : ℕ) (x y : Option Explained)
    → IsLegal C (history_of entries) → Explains C entries request x → Explains C entries request y
    → explanation_text names request x ≡ explanation_text names request y
