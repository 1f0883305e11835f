use Rattle.std.proofs.Common.{◌≡◌, arith, sym, ◌∙◌, subst, unsigned_abs, slice_index_or, ◌<◌, Some}
use Rattle.std.proofs.lemmas.Bool.{false≢true}
use Rattle.std.proofs.lemmas.Option.{slice_get_within}
use Rattle.vt_fixed.specs.Rounding.{cost_of}
use Rattle.fq_model.specs.Keys.{HeadKeys, IsEligible}
use Rattle.tag_rules.proofs.Comparing.{not_so}
use Rattle.tag_rules.proofs.Shorter.{none_more, read_keys}
use Rattle.tag_rules.proofs.foresees.has_smaller.Goals as goal
use Rattle.tag_rules.proofs.foresees.has_smaller.Goals.{in-Some+else-is_short, else-is_short-via-then-is_short+else-is_eligible, else-is_short-via-else-is_short, in_default}

pub loop-tenant-preserved : goal.loop-tenant-preserved
loop-tenant-preserved c = none_more c.args.turn c.args.table.now c.args.weights.now c.args.below c.loop-tenant.tenant c.loop-tenant.invariant (λ k has now short.
    let there = read_keys c.args.table.now c.loop-tenant.tenant c.index-table-tenant.result k c.index-table-tenant.is has in
    elim c.match-slot.branch [
      | in-Some+else-is_short w ↦ (
          let both : Some k ≡ Some w.in-Some.keys = sym there ∙ w.in-Some.is in
          let same : k ≡ w.in-Some.keys = cc in
          elim w.else-is_short.branch [
            | else-is_short-via-then-is_short+else-is_eligible x ↦ not_so _ _ x.is_eligible.ensures x.if-is_eligible.false (subst (λ (l : HeadKeys). IsEligible c.args.turn l) same now)
            | else-is_short-via-else-is_short x ↦ not_so _ _ w.is_short.ensures x.if-is_short.false (subst (λ (l : HeadKeys). cost_of (unsigned_abs l.len) (slice_index_or c.args.weights.now c.loop-tenant.tenant 0) < c.args.below) same short)
          ])
      | in_default w ↦ w.in_default.not-Some k there
    ])

pub returns : goal.returns
returns c = (λ t. absurd (false≢true t), λ s. absurd (c.loop-tenant.invariant s.tenant s.keys (omega (arith, slice_get_within c.args.table.now s.tenant _ s.has, c.loop-tenant-test.false)) s.has s.eligible s.smaller))
