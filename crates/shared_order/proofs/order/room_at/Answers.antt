use Rattle.std.proofs.Common.{arith, ◌≡◌, ◌<◌, ◌∙◌, ap, add-one, subst, sym, length}
use Rattle.std.specs.List.{All}
use Rattle.std.proofs.lemmas.Bool.{false≢true}
use Rattle.shared_order.specs.Heads.{HeadBefore}
use Rattle.shared_order.specs.Blocks.{all_heads, block_at, IsBlockOf}
use Rattle.shared_order.proofs.Rows.{read_block}
use Rattle.shared_order.proofs.Splitting.{spare_left, second_half, halves_heads, halves_keep, halves_count, first_half_is, second_half_is, second_read, first_has_room, second_has_room}
use Rattle.shared_order.proofs.order.room_at.Goals as goal

pub split-requires-clause-room : goal.split-requires-clause-room
split-requires-clause-room c =
    spare_left c.args.blocks.now.used c.args.blocks.now.spare c.requires.kept.dense c.requires.some c.requires.room

pub returns-then-is_after : goal.returns-then-is_after
returns-then-is_after c =
    let place : IsBlockOf c.args.head.now c.args.blocks.now.used c.block_of-at.result =
    subst (λ b. IsBlockOf c.args.head.now b c.block_of-at.result) c.used.ensures c.block_of-at.ensures in
    let read =
    read_block c.args.blocks.now.used c.used-2.result.now c.block_of-at.result c.index-used-at.result c.heads.result.now
    c.used-2.ensures c.index-used-at.is c.heads.ensures.heads place.known in
    let few = c.heads.ensures.few in
    let full : length (block_at c.args.blocks.now.used c.block_of-at.result) ≡ 32 =
    omega (arith, ap length read, ap length c.heads.ensures.heads, c.if-heads-lt-BLOCK.false, few) in
    let second =
    second_read c.args.blocks.now.used c.split.new.self.used c.used-3.result.now c.block_of-at.result _
    c.index-used-at-2.result c.used-3.ensures c.split.ensures.used c.index-used-at-2.is
    (add-one c.block_of-at.result) place.known in
    record {
      rearranged = record {
        heads = ap all_heads c.split.ensures.used ∙ halves_heads c.args.blocks.now.used c.block_of-at.result place.known;
        kept = rw c.split.ensures.used (halves_keep c.args.blocks.now.used c.block_of-at.result place.known full c.requires.kept);
        count = omega (arith, ap length c.split.ensures.used, halves_count c.args.blocks.now.used c.block_of-at.result place.known, c.split.ensures.spare);
      };
      place =
          let after = subst (All (HeadBefore c.args.head.now)) second (c.is_after.ensures.0 c.if-is_after.true) in
          rw c.split.ensures.used (first_half_is c.args.head.now c.args.blocks.now.used c.block_of-at.result place after);
      room = rw c.split.ensures.used (first_has_room c.args.blocks.now.used c.block_of-at.result place.known full);
    }

pub returns-else-is_after : goal.returns-else-is_after
returns-else-is_after c =
    let place : IsBlockOf c.args.head.now c.args.blocks.now.used c.block_of-at.result =
    subst (λ b. IsBlockOf c.args.head.now b c.block_of-at.result) c.used.ensures c.block_of-at.ensures in
    let read =
    read_block c.args.blocks.now.used c.used-2.result.now c.block_of-at.result c.index-used-at.result c.heads.result.now
    c.used-2.ensures c.index-used-at.is c.heads.ensures.heads place.known in
    let few = c.heads.ensures.few in
    let full : length (block_at c.args.blocks.now.used c.block_of-at.result) ≡ 32 =
    omega (arith, ap length read, ap length c.heads.ensures.heads, c.if-heads-lt-BLOCK.false, few) in
    let second =
    second_read c.args.blocks.now.used c.split.new.self.used c.used-3.result.now c.block_of-at.result _
    c.index-used-at-2.result c.used-3.ensures c.split.ensures.used c.index-used-at-2.is
    (add-one c.block_of-at.result) place.known in
    record {
      rearranged = record {
        heads = ap all_heads c.split.ensures.used ∙ halves_heads c.args.blocks.now.used c.block_of-at.result place.known;
        kept = rw c.split.ensures.used (halves_keep c.args.blocks.now.used c.block_of-at.result place.known full c.requires.kept);
        count = omega (arith, ap length c.split.ensures.used, halves_count c.args.blocks.now.used c.block_of-at.result place.known, c.split.ensures.spare);
      };
      place =
          let after : ¬ All (HeadBefore c.args.head.now) (second_half c.args.blocks.now.used c.block_of-at.result) = λ a.
          false≢true (sym c.if-is_after.false ∙ c.is_after.ensures.1 (subst (All (HeadBefore c.args.head.now)) (sym second) a)) in
          rw (c.split.ensures.used, add-one c.block_of-at.result) (second_half_is c.args.head.now c.args.blocks.now.used c.block_of-at.result place c.requires.kept after);
      room = rw (c.split.ensures.used, add-one c.block_of-at.result) (second_has_room c.args.blocks.now.used c.block_of-at.result place.known full);
    }

pub returns-then-heads-lt-BLOCK-clause-place : goal.returns-then-heads-lt-BLOCK-clause-place
returns-then-heads-lt-BLOCK-clause-place c = subst (λ b. IsBlockOf c.args.head.now b c.block_of-at.result) c.used.ensures c.block_of-at.ensures

pub bounds-used-at-2 : goal.bounds-used-at-2
bounds-used-at-2 c =
    let known : c.block_of-at.result < length c.args.blocks.now.used = rw (← c.used.ensures) c.block_of-at.ensures.known in
    omega (arith, ap length c.used-3.ensures, ap length c.split.ensures.used, halves_count c.args.blocks.now.used c.block_of-at.result known, known)
