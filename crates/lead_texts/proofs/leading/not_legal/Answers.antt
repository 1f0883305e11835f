use Rattle.std.proofs.Common.{◌∙◌, sym, ap, ap₂}
use Rattle.program_model.specs.Answer.{Text}
use Rattle.program_model.specs.VerdictTexts.{verdict_text}
use Rattle.fq_model.specs.declared.event.Entry.{Entry}
use Rattle.std.specs.Prelude.{List}
use Rattle.lead_texts.proofs.Leads.{bad_status}
use Rattle.lead_texts.proofs.leading.not_legal.Goals as goal

pub returns : goal.returns
returns c =
    ap₂ Text (sym (bad_status c.args.verdict c.requires))
    (c.in_ok-text.ensures ∙ ap (λ (entries : List Entry). verdict_text entries c.args.verdict) c.body.ensures)
