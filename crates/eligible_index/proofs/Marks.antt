-- Marks of leaves that have keys.
use Rattle.std.proofs.Common.{ℕ, zero, suc, ◌≡◌, ◌<◌, Bool, false, List, ◌∷◌, Option, Some, None, is_some, map, length, replicate, get_or, set, refl, sym, ap, ◌∙◌, subst}
use Rattle.std.proofs.lemmas.Bool.{true≢false}
use Rattle.std.proofs.lemmas.List.{get_or-map, map-set, set-get_or, get_or_read, length-map}
use Rattle.winner_tree.specs.declared.key.Key.{Key}

abbrev pub marks_of : List (Option Key) → List Bool
marks_of keys = map (λ key. is_some key) keys

marks_none : (n : ℕ) → marks_of (replicate {A = Option Key} n None) ≡ replicate n false
marks_none zero = refl
marks_none (suc n) = ap (λ fs. false ∷ fs) (marks_none n)

pub marks_open : (n : ℕ) (marks : List Bool) (keys : List (Option Key)) → marks ≡ replicate n false → keys ≡ replicate n None → marks ≡ marks_of keys
marks_open n marks keys e f = e ∙ (sym (marks_none n) ∙ ap marks_of (sym f))

pub marks_set : (marks : List Bool) (keys newer : List (Option Key)) (leaf : ℕ) (key : Option Key) (mark : Bool) → marks ≡ marks_of keys → mark ≡ is_some key → newer ≡ set keys leaf key → set marks leaf mark ≡ marks_of newer
marks_set marks keys newer leaf key mark e f g = rw (e, f, g) (sym (map-set (λ (k : Option Key). is_some k) keys leaf key))

is_none : (o : Option Key) → is_some o ≡ false → o ≡ None
is_none None h = refl
is_none (Some x) h = absurd (true≢false h)

-- a leaf that has no key and gets none
pub nothing_set : (marks : List Bool) (keys : List (Option Key)) (leaf : ℕ) (key : Option Key) (mark has : Bool) → marks ≡ marks_of keys → leaf < length keys → mark ≡ get_or marks leaf mark → mark ≡ false → has ≡ is_some key → has ≡ false → keys ≡ set keys leaf key
nothing_set marks keys leaf key mark has e lt read unmarked is without =
    let mark_is : get_or (marks_of keys) leaf false ≡ false = sym (subst (λ (ms : List Bool). mark ≡ get_or ms leaf false) e (get_or_read marks leaf mark (rw (e, length-map keys (λ (k : Option Key). is_some k)) lt) read false)) ∙ unmarked in
    let was : get_or keys leaf None ≡ None = is_none (get_or keys leaf None) (sym (get_or-map (λ (k : Option Key). is_some k) keys leaf None false lt) ∙ mark_is) in
    sym (set-get_or keys leaf None) ∙ ap (set keys leaf) (was ∙ sym (is_none key (sym is ∙ without)))
