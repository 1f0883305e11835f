use Rattle.std.proofs.Common.{◌≡◌, ◌∙◌, ap, subst, sym, Ok, Option, ◌++◌, [], if◌then◌else◌}
use Rattle.std.specs.Prelude.{OnOk}
use Rattle.fq_model.specs.declared.event.Call.{Call}
use Rattle.program_model.specs.Script.{call_of_words}
use Rattle.program_model.specs.Texts.{reply_line}
use Rattle.journal_text.specs.Body.{said_below, ReadsNext}
use Rattle.journal_text.proofs.Bodies.{said_first}
use Rattle.command_texts.proofs.Serving.{one_more_answered, line_is_told, no_line_is_told}
use Rattle.command_texts.proofs.serve.answer_all.Goals as goal
use Rattle.command_texts.proofs.serve.answer_all.Goals.{else-tells-via-then-tells+else-is_err, else-tells-via-else-tells}

pub calls-preserved : goal.calls-preserved
calls-preserved g c =
    let first = subst (λ (x : Option Call). ReadsNext call_of_words c.calls.body (Ok x) c.read_next.new.self) c.in-Some.is c.in_ok-call.ensures in
    let more : c.else-tells.text.items ≡ c.calls.text.items ++ (if c.args.tells then reply_line c.answer-reply.result else []) = elim c.else-tells.branch [
      | else-tells-via-then-tells+else-is_err w ↦ line_is_told c.args.tells w.reply_line.result c.calls.text.items c.else-tells.text.items (reply_line c.answer-reply.result) w.if-tells.true (sym w.is_err.ensures.value ∙ w.if-is_err.false) (subst (λ t. OnOk w.reply_line.result (t ≡ c.calls.text.items ++ reply_line c.answer-reply.result)) (sym (ap (λ t. t.items) w.text-is)) w.reply_line.ensures.added)
      | else-tells-via-else-tells w ↦ no_line_is_told c.args.tells c.calls.text.items c.else-tells.text.items (reply_line c.answer-reply.result) w.if-tells.false (ap (λ t. t.items) w.text-is)
    ] in
    record {
      part = one_more_answered c.args.scheduler.now.config c.calls.scheduler.config c.args.tells (said_below call_of_words c.args.body) (said_below call_of_words c.calls.body) (said_below call_of_words c.read_next.new.self) c.in-Some.call c.answer-reply.result c.calls.text.items c.else-tells.text.items c.calls.scheduler.past c.answer-reply.new.scheduler.past c.calls.invariant.config_is c.calls.invariant.part (said_first call_of_words c.calls.body c.in-Some.call c.read_next.new.self first) c.answer-reply.ensures.answers more;
      config_is = c.answer-reply.ensures.config_is ∙ c.calls.invariant.config_is;
    }
