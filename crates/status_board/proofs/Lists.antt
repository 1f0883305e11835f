-- Prefixes of histories, and lists of five words.
use Rattle.std.proofs.Common.{◌≡◌, ℕ, ◌+◌, ◌≤◌, List, [], ◌∷◌, ◌++◌, length, set, sym, refl, ap, ◌∙◌, arith, append-nil, length-append, Option, Some, None}
use Rattle.std.proofs.lemmas.List.{nil_from_length}
use Rattle.fq_model.specs.declared.config.Config.{Config}
use Rattle.fq_model.specs.declared.event.Entry.{Entry}
use Rattle.history_lock.specs.Histories.{IsPrefix}
use Rattle.status_board.specs.Words.{words_in}
use Rattle.std.specs.Prelude.{slice_index}

pub prefix_of_itself : (P : List Entry) → IsPrefix P P
prefix_of_itself P = ([], sym (append-nil P))

pub prefix_length : (front P : List Entry) → IsPrefix front P → length front ≤ length P
prefix_length front P s = let n : length P ≡ length front + length s.0 = ap length s.1 ∙ length-append front s.0 in omega arith

-- a prefix that is no shorter is the whole
pub prefix_whole : (front P : List Entry) → IsPrefix front P → length P ≤ length front → P ≡ front
prefix_whole front P s le = let n : length P ≡ length front + length s.0 = ap length s.1 ∙ length-append front s.0 in
    s.1 ∙ (ap (λ (l : List Entry). front ++ l) (nil_from_length s.0 (omega arith)) ∙ append-nil front)

-- words that were found one by one are the list
pub gathered : (c : Option Config) (C : Config) (P : List Entry) → c ≡ Some C → (m l h w r : ℕ)
    → m ≡ slice_index (words_in c P) 0 → l ≡ slice_index (words_in c P) 1 → h ≡ slice_index (words_in c P) 2 → w ≡ slice_index (words_in c P) 3 → r ≡ slice_index (words_in c P) 4
    → m ∷ l ∷ h ∷ w ∷ r ∷ [] ≡ words_in c P
gathered (Some D) C P is m l h w r a b d e f = λ i. a i ∷ b i ∷ d i ∷ e i ∷ f i ∷ []
gathered None C P is m l h w r a b d e f = cc

-- five words, once each is written
pub all_set : (ws : List ℕ) → length ws ≡ 5 → (m l h w r : ℕ) → set (set (set (set (set ws 0 m) 1 l) 2 h) 3 w) 4 r ≡ m ∷ l ∷ h ∷ w ∷ r ∷ []
all_set [] n m l h w r = absurd (omega arith)
all_set (a ∷ []) n m l h w r = absurd (omega arith)
all_set (a ∷ b ∷ []) n m l h w r = absurd (omega arith)
all_set (a ∷ b ∷ c ∷ []) n m l h w r = absurd (omega arith)
all_set (a ∷ b ∷ c ∷ d ∷ []) n m l h w r = absurd (omega arith)
all_set (a ∷ b ∷ c ∷ d ∷ e ∷ []) n m l h w r = refl
all_set (a ∷ b ∷ c ∷ d ∷ e ∷ f ∷ more) n m l h w r = absurd (omega arith)
