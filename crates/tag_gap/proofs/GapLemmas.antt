-- The entries of a past in turn, and the gap at its end.
use Rattle.std.proofs.Common.{ℕ, ◌+◌, ◌<◌, ◌≤◌, ◌^◌, ◌≡◌, true, not, refl, ap, sym, subst, List, ◌++◌, length, drop, Option, Some, None, ℤ}
use Rattle.std.specs.Prelude.{option_map, ◌≤ℤ◌, IfSome}
use Rattle.std.proofs.lemmas.Bool.{le-leb, and_from}
use Rattle.fq_model.specs.declared.config.Config.{Config}
use Rattle.fq_model.specs.declared.event.Entry.{Entry}
use Rattle.fq_model.specs.History.{History, Request, request_at, request_bound, history_of}
use Rattle.fq_model.specs.Gap.{tag_gap, is_as_asked, is_as_declared, not_declared}
use Rattle.fq_model.specs.Limits.{InLimits}
use Rattle.fq_model.specs.Rules.{IsLegal}
use Rattle.fq_laws.proofs.Sums.{least_by}
use Rattle.gap_laws.specs.Words.{HasDeclaredCosts}
use Rattle.gap_laws.proofs.Declared.{KeepsTo, all_are_declared, declared_prefix, legal_prefix}
use Rattle.gap_laws.proofs.Bounds.{largest_bounded}
use Rattle.tag_gap.specs.declared.asked.Asked.{Asked}
use Rattle.tag_difference.specs.declared.gap.Gap.{Gap}
use Rattle.tag_difference.specs.declared.found.Found.{Found}
use Rattle.tag_gap.specs.declared.reading.Reading.{Reading}
use Rattle.tag_gap.specs.Asked.{AreAsked}
use Rattle.tag_difference.specs.Pairs.{difference_at}
use Rattle.tag_gap.specs.Reading.{Keeps, MayCome, AwaitsEntry, FollowsEntry}
use Rattle.tag_difference.specs.Found.{FoundIn, with_difference}
use Rattle.tag_difference.specs.Pairs.{told}
use Rattle.tag_difference.proofs.Prefixes.{first_entries, next_entry, one_on, split_at, all_entries}
use Rattle.tag_gap.proofs.AskedLemmas.{known_first}
use Rattle.tag_difference.proofs.FoundLemmas.{found_next}

-- ---- a shorter history

as_declared_at : (C : Config) (P : History) (r : ℕ) (o : Option Request) → request_at P r ≡ o → ((q : Request) → o ≡ Some q → KeepsTo C P r q) → is_as_asked C P r o ≡ true
as_declared_at C P r None was keeps = refl
as_declared_at C P r (Some q) was keeps = let k = keeps q refl in and_from _ _ (rw k.estimator refl) (and_from _ _ (le-leb _ _ k.uses) k.cost)

all_declared : (C : Config) (P : History) → ((r : ℕ) (q : Request) → request_at P r ≡ Some q → KeepsTo C P r q) → not_declared C P ≡ None
unfolding not_declared is_as_declared request_bound
all_declared C P keeps = least_by (λ r. not (is_as_declared C P r)) (2 ^ 32) None (λ r b. ap not (as_declared_at C P r (request_at P r) refl (keeps r)))

pub costs_earlier : (C : Config) (newer P : History) → HasDeclaredCosts C (newer ++ P) → HasDeclaredCosts C P
costs_earlier C newer P h = record { limits = h.limits; legal = legal_prefix C newer P h.legal; declared = all_declared C P (declared_prefix C newer P h.legal (all_are_declared C (newer ++ P) h)) }

-- ---- the entries in turn

module _ (C : Config) (past : List Entry) (asked : List Asked) (h : HasDeclaredCosts C (history_of past)) (are : AreAsked (history_of past) asked) where
  -- each entry may come
  comes : (i : ℕ) → i < length past → MayCome C asked (first_entries past i) (next_entry past i)
  comes i b = record {
    costs = subst (HasDeclaredCosts C) (one_on past i b) (costs_earlier C (history_of (drop (i + 1) past)) (first_entries past (i + 1)) (subst (HasDeclaredCosts C) (split_at past (i + 1)) h));
    known = known_first C past i asked h.legal are;
  }

  pub awaits_next : (i : ℕ) (k : Reading) → i < length past → Keeps C (first_entries past i) k → AwaitsEntry asked (next_entry past i) k
  awaits_next i k b is = record { config = C; history = first_entries past i; comes = comes i b; keeps = is }

  pub keeps_next : (i : ℕ) (k n : Reading) → i < length past → FollowsEntry asked (next_entry past i) k n → Keeps C (first_entries past i) k → Keeps C (first_entries past (i + 1)) n
  keeps_next i k n b f is = subst (λ H. Keeps C H n) (sym (one_on past i b)) (f C (first_entries past i) (comes i b) is)

-- the differences found, one entry on
pub found_on : (C : Config) (past : List Entry) (i f g : ℕ) (x : Found) (d : Option ℤ) → i < length past → FoundIn C (first_entries past i) f g x → d ≡ difference_at C (first_entries past (i + 1)) f g → FoundIn C (first_entries past (i + 1)) f g (with_difference x d)
found_on C past i f g x d b is apart =
    let next : FoundIn C (first_entries past (i + 1)) f g (with_difference x (difference_at C (first_entries past (i + 1)) f g)) = subst (λ H. FoundIn C H f g (with_difference x (difference_at C H f g))) (sym (one_on past i b)) (found_next C (first_entries past i) (next_entry past i) f g x is) in
    subst (λ (y : Option ℤ). FoundIn C (first_entries past (i + 1)) f g (with_difference x y)) (sym apart) next

-- at the end they are those of the whole history
pub found_all : (C : Config) (past : List Entry) (i f g : ℕ) (x : Found) → length past ≤ i → FoundIn C (first_entries past i) f g x → FoundIn C (history_of past) f g x
found_all C past i f g x b is = subst (λ H. FoundIn C H f g x) (all_entries past i b) is

-- ---- the bound

pub bounded : (C : Config) (H : History) (f g : ℕ) (o : Option Gap) → HasDeclaredCosts C H → option_map told o ≡ tag_gap C H f g → IfSome o (λ x. x.largest ≤ℤ x.bound)
bounded C H f g None h is = tt
bounded C H f g (Some x) h is = largest_bounded C H f g (told x) h (sym is)

-- where no request is found that is not as declared, all are
pub costs_are : (C : Config) (H : History) (o : Option ℕ) → InLimits C → IsLegal C H → o ≡ not_declared C H → ((r : ℕ) → o ≡ Some r → ⊥) → HasDeclaredCosts C H
costs_are C H None lim l is none = record { limits = lim; legal = l; declared = sym is }
costs_are C H (Some r) lim l is none = absurd (none r refl)
