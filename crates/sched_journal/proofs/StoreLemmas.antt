-- A ring of the last entries at one entry more.
use Rattle.std.proofs.Common.{◌≡◌, ℕ, ◌+◌, ◌-◌, arith, List, [], ◌∷◌, ◌++◌, length, drop, sym, ap, ◌∙◌}
use Rattle.std.proofs.lemmas.List.{drop-append-le, drop-drop, length-append, length-drop}
use Rattle.fq_model.specs.declared.event.Entry.{Entry}
use Rattle.circular_buffer.specs.Buffer.{Buffer, buffer, keep_last}
use Rattle.sched_journal.specs.Stores.{HoldsLast}

-- of the last entries and one more the last are those of all
kept_more : (n : ℕ) (past : List Entry) (e : Entry) → keep_last n (keep_last n past ++ e ∷ []) ≡ keep_last n (past ++ e ∷ [])
kept_more n past e =
    let k : ℕ = length past - n in
    let step : drop k past ++ e ∷ [] ≡ drop k (past ++ e ∷ []) = sym (drop-append-le k past (e ∷ []) (omega arith)) in
    let place : k + (length (drop k past ++ e ∷ []) - n) ≡ length (past ++ e ∷ []) - n = omega (arith, length-append (drop k past) (e ∷ []), length-append past (e ∷ []), length-drop k past) in
    ap (λ (l : List Entry). drop (length (drop k past ++ e ∷ []) - n) l) step ∙ (drop-drop (length (drop k past ++ e ∷ []) - n) k (past ++ e ∷ []) ∙ ap (λ m. drop m (past ++ e ∷ [])) place)

-- a ring of the last entries holds the last, one entry later
pub holds_one_more : (keep : ℕ) (past more : List Entry) (e : Entry) (old new : Buffer Entry) → HoldsLast keep past old → more ≡ past ++ e ∷ [] → new ≡ buffer (keep_last old.capacity (old.items ++ e ∷ [])) old.capacity → HoldsLast keep more new
holds_one_more keep past more e old new held longer pushed = rw longer (pushed ∙ (rw held (ap (λ items. buffer items keep) (kept_more keep past e))))
