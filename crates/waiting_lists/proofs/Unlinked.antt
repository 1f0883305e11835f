-- A number that goes out of a chain.
use Rattle.std.proofs.Common.{◌≡◌, ◌≢◌, ℕ, List, [], ◌∷◌, ◌++◌, Option, Some, None, cond, eqb, arith, refl, sym, ap, ◌∙◌, subst, inl, inr}
use Rattle.std.proofs.lemmas.Bool.{cond-true, cond-false, eq-eqb, ne_eqb}
use Rattle.waiting_lists.specs.Linked.{StandsIn, last_behind, AreChained, AreChainedBack}
use Rattle.waiting_lists.proofs.Chains.{some_is, stands_right, first_once, next_stands, linked_stays}

-- a link that passes over a number, to the link behind it
abbrev pub past : ℕ → Option ℕ → Option ℕ → Option ℕ
past s behind None = None
past s behind (Some i) = cond (eqb i s) behind (Some i)

pub past_it : (s : ℕ) (behind link : Option ℕ) → link ≡ Some s → past s behind link ≡ behind
past_it s behind link e = ap (past s behind) e ∙ cond-true (eqb s s) behind (Some s) (eq-eqb s s refl)

pub past_other : (s : ℕ) (behind link : Option ℕ) → (link ≡ Some s → ⊥) → past s behind link ≡ link
past_other s behind None ne = refl
past_other s behind (Some i) ne = cond-false (eqb i s) behind (Some i) (ne_eqb i s (λ e. ne (ap Some e)))

-- the links of a chain past one of its numbers
pub unlinked : (next now : ℕ → Option ℕ) (bound : ℕ) (at : Option ℕ) (front : List ℕ) (s : ℕ) (rest : List ℕ) → ((i : ℕ) → StandsIn i (front ++ rest) → now i ≡ past s (next s) (next i)) → AreChained next bound at (front ++ s ∷ rest) → AreChained now bound (past s (next s) at) (front ++ rest)
unlinked next now bound at [] s rest same p =
    let away : (i : ℕ) → StandsIn i rest → next i ≡ Some s → ⊥ = λ i h e. first_once next bound at s rest p (next_stands next bound (next s) rest i s p.2 h e) in
    subst (λ v. AreChained now bound v rest) (sym (past_it s (next s) at p.0))
    (linked_stays next now bound bound (next s) rest (omega arith) (λ i h. same i h ∙ past_other s (next s) (next i) (away i h)) p.2)
unlinked next now bound at (x ∷ xs) s rest same p =
    let apart : x ≢ s = λ e. first_once next bound at x (xs ++ s ∷ rest) p (subst (λ v. StandsIn v (xs ++ s ∷ rest)) (sym e) (stands_right s xs (s ∷ rest) (inl refl))) in
    let more : AreChained now bound (past s (next s) (next x)) (xs ++ rest) = unlinked next now bound (next x) xs s rest (λ i h. same i (inr h)) p.2 in
    (past_other s (next s) at (λ e. apart (some_is x s (sym p.0 ∙ e))) ∙ p.0, p.1, subst (λ v. AreChained now bound v (xs ++ rest)) (sym (same x (inl refl))) more)

-- links back that pass over no number
back_away : (before now : ℕ → Option ℕ) (from : Option ℕ) (s : ℕ) (behind : Option ℕ) (ns : List ℕ) → (from ≡ Some s → ⊥) → (StandsIn s ns → ⊥) → ((i : ℕ) → StandsIn i ns → now i ≡ past s behind (before i)) → AreChainedBack before from ns → AreChainedBack now from ns
back_away before now from s behind [] away apart same b = tt
back_away before now from s behind (n ∷ ns) away apart same b =
    (same n (inl refl) ∙ past_other s behind (before n) (λ e. away (sym b.0 ∙ e)) ∙ b.0, back_away before now (Some n) s behind ns (λ e. apart (inl (sym (some_is n s e)))) (λ h. apart (inr h)) (λ i h. same i (inr h)) b.1)

pub unlinked_back : (before now : ℕ → Option ℕ) (from : Option ℕ) (front : List ℕ) (s : ℕ) (rest : List ℕ) → (from ≡ Some s → ⊥) → (StandsIn s (front ++ rest) → ⊥) → ((i : ℕ) → StandsIn i (front ++ rest) → now i ≡ past s (before s) (before i)) → AreChainedBack before from (front ++ s ∷ rest) → AreChainedBack now from (front ++ rest)
unlinked_back before now from [] s [] away apart same b = tt
unlinked_back before now from [] s (q ∷ qs) away apart same b =
    (same q (inl refl) ∙ past_it s (before s) (before q) b.1.0 ∙ b.0, back_away before now (Some q) s (before s) qs (λ e. apart (inl (sym (some_is q s e)))) (λ h. apart (inr h)) (λ i h. same i (inr h)) b.1.1)
unlinked_back before now from (x ∷ xs) s rest away apart same b =
    (same x (inl refl) ∙ past_other s (before s) (before x) (λ e. away (sym b.0 ∙ e)) ∙ b.0, unlinked_back before now (Some x) xs s rest (λ e. apart (inl (sym (some_is x s e)))) (λ h. apart (inr h)) (λ i h. same i (inr h)) b.1)

-- the numbers beside it
pub back_of : (before : ℕ → Option ℕ) (from : Option ℕ) (front : List ℕ) (s : ℕ) (rest : List ℕ) → AreChainedBack before from (front ++ s ∷ rest) → before s ≡ last_behind from front
back_of before from [] s rest b = b.0
back_of before from (x ∷ xs) s rest b = back_of before (Some x) xs s rest b.1

pub last_without : (from : Option ℕ) (front : List ℕ) (s : ℕ) (q : ℕ) (rest : List ℕ) → last_behind from (front ++ s ∷ q ∷ rest) ≡ last_behind from (front ++ q ∷ rest)
last_without from [] s q rest = refl
last_without from (x ∷ xs) s q rest = last_without (Some x) xs s q rest
