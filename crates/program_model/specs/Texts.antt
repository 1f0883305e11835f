-- The lines of replies. Each ends with LF.
use Rattle.std.specs.Prelude.{ℕ, List, [], ◌∷◌, ◌++◌, codes}
use Rattle.std.specs.Fmt.{decimal}
use Rattle.fq_model.specs.declared.event.Cause.{Cause}
use Rattle.fq_model.specs.declared.event.Cause.TheVariants as causes
use Rattle.fq_model.specs.declared.event.Reply.{Reply}
use Rattle.fq_model.specs.declared.event.Reply.TheVariants as replies

abbrev pub refusal_line : Cause → List ℕ
refusal_line causes.Closed = codes "refused closed\n"
refusal_line (causes.Tenant t) = codes "refused tenant " ++ decimal t ++ codes "\n"
refusal_line (causes.Kind k) = codes "refused kind " ++ decimal k ++ codes "\n"
refusal_line (causes.Cost c) = codes "refused cost " ++ decimal c ++ codes "\n"
refusal_line (causes.Slots n) = codes "refused slots " ++ decimal n ++ codes "\n"
refusal_line (causes.Full n) = codes "refused full " ++ decimal n ++ codes "\n"
refusal_line (causes.Worker i) = codes "refused worker " ++ decimal i ++ codes "\n"
refusal_line (causes.Busy r) = codes "refused busy " ++ decimal r ++ codes "\n"
refusal_line causes.NotRunning = codes "refused not-running\n"
refusal_line (causes.Weight w) = codes "refused weight " ++ decimal w ++ codes "\n"
refusal_line (causes.Workers n) = codes "refused workers " ++ decimal n ++ codes "\n"
refusal_line (causes.NotWaiting r) = codes "refused not-waiting " ++ decimal r ++ codes "\n"
refusal_line (causes.Falling last given) =
    codes "refused falling " ++ decimal last ++ codes " " ++ decimal given ++ codes "\n"

abbrev pub reply_line : Reply → List ℕ
reply_line (replies.Request r) = codes "request " ++ decimal r ++ codes "\n"
reply_line (replies.Run request estimate label) =
    codes "run " ++ decimal request ++ codes " " ++ decimal estimate ++ codes " " ++ decimal label ++ codes "\n"
reply_line replies.Accepted = codes "ok\n"
reply_line replies.Idle = codes "idle\n"
reply_line replies.Drained = codes "drained\n"
reply_line (replies.Retired n) = codes "retired " ++ decimal n ++ codes "\n"
reply_line (replies.Withdrawn label) = codes "withdrawn " ++ decimal label ++ codes "\n"
reply_line (replies.Refused cause) = refusal_line cause

-- a line for each reply, in order
abbrev pub replies_text : List Reply → List ℕ
replies_text [] = []
replies_text (r ∷ rs) = reply_line r ++ replies_text rs
