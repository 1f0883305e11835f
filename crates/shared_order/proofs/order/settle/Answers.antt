use Rattle.std.proofs.Common.{rules, arith, ℕ, ◌++◌, ◌≡◌, ◌<◌, ◌∙◌, ap, add-one, subst, sym, refl, length}
use Rattle.std.proofs.lemmas.List.Edits.{length-remove}
use Rattle.shared_order.specs.Heads.{IsSorted}
use Rattle.shared_order.specs.Blocks.{all_heads, block_at, IsSmallPair}
use Rattle.shared_order.proofs.Rows.{read_block, none_left}
use Rattle.shared_order.proofs.Settling.{closed_heads, closed_keeps, joined_heads, neighbours_sorted, joined_count, pair_keeps, quiet_keeps}
use Rattle.shared_order.proofs.order.settle.Goals as goal

pub returns-then-is_empty : goal.returns-then-is_empty
returns-then-is_empty c =
    let read =
    read_block c.args.blocks.now.used c.used.result.now c.args.at c.index-used-at.result c.heads.result.now
    c.used.ensures c.index-used-at.is c.heads.ensures.heads c.requires.known in
    let none : length c.heads.result.now ≡ 0 = search rules in
    let empty = sym read ∙ none_left c.heads.result.now none in
    record {
      heads = ap all_heads c.close.ensures.used ∙ closed_heads c.args.blocks.now.used c.args.at c.requires empty;
      kept = rw c.close.ensures.used (closed_keeps c.args.blocks.now.used c.args.at c.requires empty);
      count = omega (arith, ap length c.close.ensures.used, length-remove c.args.blocks.now.used c.args.at c.requires.known, c.close.ensures.spare);
    }

pub join-requires-clause-in_order : goal.join-requires-clause-in_order
join-requires-clause-in_order c =
    let pair : IsSmallPair c.args.blocks.now.used c.args.at c.in-Some.first =
    subst (λ b. IsSmallPair b c.args.at c.in-Some.first) c.used-else-is_empty.ensures c.in-Some.ensures in
    let sorted = neighbours_sorted c.args.blocks.now.used c.in-Some.first pair.small.known c.requires.sorted in
    subst (λ i. IsSorted (block_at c.args.blocks.now.used c.in-Some.first ++ block_at c.args.blocks.now.used i))
    (sym (add-one c.in-Some.first)) sorted

pub returns-in-Some : goal.returns-in-Some
returns-in-Some c =
    let read =
    read_block c.args.blocks.now.used c.used.result.now c.args.at c.index-used-at.result c.heads.result.now
    c.used.ensures c.index-used-at.is c.heads.ensures.heads c.requires.known in
    let some : 0 < length c.heads.result.now = grind arith in
    let pair : IsSmallPair c.args.blocks.now.used c.args.at c.in-Some.first =
    subst (λ b. IsSmallPair b c.args.at c.in-Some.first) c.used-else-is_empty.ensures c.in-Some.ensures in
    record {
      heads = ap all_heads c.join.ensures.used ∙ joined_heads c.args.blocks.now.used c.in-Some.first pair.small.known;
      kept = rw c.join.ensures.used (pair_keeps c.args.blocks.now.used c.args.at c.in-Some.first c.requires (rw (← read) some) pair);
      count = omega (arith, ap length c.join.ensures.used, joined_count c.args.blocks.now.used c.in-Some.first pair.small.known, c.join.ensures.spare);
    }

pub returns-in_default : goal.returns-in_default
returns-in_default c =
    let read =
    read_block c.args.blocks.now.used c.used.result.now c.args.at c.index-used-at.result c.heads.result.now
    c.used.ensures c.index-used-at.is c.heads.ensures.heads c.requires.known in
    let some : 0 < length c.heads.result.now = grind arith in
    let quiet : (first : ℕ) → ¬ IsSmallPair c.args.blocks.now.used c.args.at first =
    subst (λ b. (first : ℕ) → ¬ IsSmallPair b c.args.at first) c.used-else-is_empty.ensures c.in_default.ensures in
    record {
      heads = refl;
      kept = quiet_keeps c.args.blocks.now.used c.args.at c.requires (rw (← read) some) quiet;
      count = refl;
    }
