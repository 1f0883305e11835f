-- A history by its first entries.
use Rattle.std.proofs.Common.{ℕ, ◌+◌, ◌<◌, ◌≡◌, List, [], ◌∷◌, ◌++◌, length, get_or, take, drop, reverse, ap, sym, ◌∙◌, subst}
use Rattle.std.proofs.lemmas.List.{take_more, reverse-append, take-append-drop}
use Rattle.fq_model.specs.declared.event.Entry.{Entry}
use Rattle.fq_model.specs.History.{History, history_of}
use Rattle.lag_report.specs.Courses.{NamesOneOf, NamesSubmitted, courses_of}

-- one entry more
pub history_more : (past : List Entry) (i : ℕ) (e : Entry) → i < length past → history_of (take (i + 1) past) ≡ get_or past i e ∷ history_of (take i past)
history_more past i e some = ap reverse (take_more past i e some) ∙ reverse-append (take i past) (get_or past i e ∷ [])

named_before : (Q P : History) → NamesSubmitted (Q ++ P) → NamesSubmitted P
named_before [] P h = h
named_before (e ∷ Q) P h = named_before Q P h.0

-- each entry of a history
pub named : (past : List Entry) (i : ℕ) (e : Entry) → i < length past → NamesSubmitted (history_of past) → NamesOneOf (length (courses_of (history_of (take i past)))) (get_or past i e).act
named past i e some h =
    let split : history_of past ≡ history_of (drop (i + 1) past) ++ history_of (take (i + 1) past) = ap reverse (sym (take-append-drop (i + 1) past)) ∙ reverse-append (take (i + 1) past) (drop (i + 1) past) in
    let before : NamesSubmitted (history_of (take (i + 1) past)) = named_before (history_of (drop (i + 1) past)) _ (subst NamesSubmitted split h) in
    (subst NamesSubmitted (history_more past i e some) before).1
