use Rattle.std.proofs.Common.{ℕ, List, ◌+◌, ◌≤◌, ◌≡◌, ◌∙◌, [], ◌∷◌, ◌++◌, max, arith, refl, ap, ap₂, subst, length}
use Rattle.fq_model.specs.declared.config.Config.{Config}
use Rattle.fq_model.specs.Ever.{longest_of_all}
use Rattle.fq_model.specs.History.{History, history_of}
use Rattle.fq_model.specs.Rules.{IsLegal}
use Rattle.fq_laws.proofs.History.Counts.{submits_le_length}
use Rattle.journal_check.proofs.Judging.{none_judged, bad_among, one_more_judged, all_judged}
use Rattle.journal_check.proofs.Turns.{no_entry}
use Rattle.program_model.specs.Verdicts.{IsVerdict}
use Rattle.tag_difference.proofs.Prefixes.{first_entries, next_entry, one_on, all_entries}
use Rattle.tag_lead.specs.Greatest.{tenant_of_act, charge_length, length_at, unread_with}
use Rattle.tag_lead.specs.Spans.{LongestAre, ShortestAre}
use Rattle.tag_lead.proofs.Entering.{first_short, history_more, next_legal, limits_still, measured_now, can_now}
use Rattle.tag_lead.proofs.GreatestLemmas.{among, greatest_nil, greatest_on, tenants_nil, tenants_on, unread_nil, unread_on, unread_fewer, unread_more, longest_short}
use Rattle.tag_lead.proofs.SpanLemmas.{longest_nil, shortest_nil, longest_on, shortest_on, length_within}
use Rattle.tag_lead.proofs.measuring.measured_in.Goals as goal

pub loop-entry-init : goal.loop-entry-init
loop-entry-init g c = record {
  config_is = refl;
  judged = none_judged c.args.scheduler.now.config c.args.entries.now c.args.scheduler.now.past c.requires.opened;
  longest = longest_nil c.args.scheduler.now.config c.args.f (length c.args.entries.now) _ c.in_ok-spans.ensures.longest;
  shortest = shortest_nil c.args.scheduler.now.config c.args.g (length c.args.entries.now) _ c.in_ok-spans.ensures.shortest;
  longest_is = c.in_ok-greatest.ensures.length ∙ greatest_nil c.args.scheduler.now.config;
  tenants = tenants_nil _ c.in_ok-greatest.ensures.tenants;
  unread = unread_nil c.args.scheduler.now.config _ _ c.in_ok-greatest.ensures.unread;
  unread_few = omega (arith, ap (λ (ts : List ℕ). length ts) c.in_ok-greatest.ensures.unread);
  room = c.in_ok-greatest.ensures.room;
  unread_room = c.in_ok-greatest.ensures.unread_room;
}

pub judge_next-requires : goal.judge_next-requires
judge_next-requires g c = limits_still c.args.scheduler.now.config c.loop-entry.scheduler.config c.loop-entry.invariant.config_is c.requires.limits

pub returns-in_default-clause-fault : goal.returns-in_default-clause-fault
returns-in_default-clause-fault g c =
    let old = c.loop-entry.scheduler in
    let e = next_entry c.args.entries.now c.loop-entry.entry-index in (
      c.in_default.not-Legal,
      bad_among c.args.scheduler.now.config c.args.entries.now c.loop-entry.entry-index old.past e no_entry c.loop-entry.invariant.judged c.loop-entry-test.true refl c.judge_next.result c.in_default.not-Legal
          (subst (λ (C : Config). IsVerdict C (old.past ++ e ∷ []) c.judge_next.result) c.loop-entry.invariant.config_is c.judge_next.ensures.verdict),
    )

pub measured_by-length-requires : goal.measured_by-length-requires
measured_by-length-requires g c =
    let C = c.args.scheduler.now.config in
    let entries = c.args.entries.now in
    let i = c.loop-entry.entry-index in
    let old = c.loop-entry.scheduler in
    let new = c.judge_next.new.scheduler in
    let e = next_entry entries i in
    let P = first_entries entries i in
    let same = c.loop-entry.invariant.config_is in
    let was = ap history_of c.loop-entry.invariant.judged.past_is in
    let legal = next_legal C old.config P old.past e same was c.in-Legal.ensures.verdict in
    let now = history_more old.past new.past e (c.in-Legal.ensures.past refl) in
    can_now C old.config P (history_of old.past) e c.requires.limits legal same was
    new.config (history_of new.past) c.row_of-before.result c.row_of-after.result c.judge_next.ensures.config now c.row_of-before.ensures c.row_of-after.ensures

pub note-requires-clause-longest : goal.note-requires-clause-longest
note-requires-clause-longest g c =
    let C = c.args.scheduler.now.config in
    let entries = c.args.entries.now in
    let i = c.loop-entry.entry-index in
    let old = c.loop-entry.scheduler in
    let new = c.judge_next.new.scheduler in
    let e = next_entry entries i in
    let P = first_entries entries i in
    let same = c.loop-entry.invariant.config_is in
    let was = ap history_of c.loop-entry.invariant.judged.past_is in
    let legal = next_legal C old.config P old.past e same was c.in-Legal.ensures.verdict in
    let now = history_more old.past new.past e (c.in-Legal.ensures.past refl) in
    let measures = measured_now C old.config P (history_of old.past) e c.requires.limits legal same was
    new.config (history_of new.past) c.row_of-before.result c.row_of-after.result c.measured_by-length.result c.judge_next.ensures.config now c.row_of-before.ensures c.row_of-after.ensures c.measured_by-length.ensures in
    let few : length (e ∷ P) ≤ length entries = omega (arith, first_short entries (i + 1), ap (λ (Q : History). length Q) (one_on entries i c.loop-entry-test.true)) in
    length_within C P e (length c.loop-entry.spans.longest.items) c.measured_by-length.result (omega (arith, c.loop-entry.invariant.longest.sized, few)) measures

pub note-requires-clause-shortest : goal.note-requires-clause-shortest
note-requires-clause-shortest g c =
    let C = c.args.scheduler.now.config in
    let entries = c.args.entries.now in
    let i = c.loop-entry.entry-index in
    let old = c.loop-entry.scheduler in
    let new = c.judge_next.new.scheduler in
    let e = next_entry entries i in
    let P = first_entries entries i in
    let same = c.loop-entry.invariant.config_is in
    let was = ap history_of c.loop-entry.invariant.judged.past_is in
    let legal = next_legal C old.config P old.past e same was c.in-Legal.ensures.verdict in
    let now = history_more old.past new.past e (c.in-Legal.ensures.past refl) in
    let measures = measured_now C old.config P (history_of old.past) e c.requires.limits legal same was
    new.config (history_of new.past) c.row_of-before.result c.row_of-after.result c.measured_by-length.result c.judge_next.ensures.config now c.row_of-before.ensures c.row_of-after.ensures c.measured_by-length.ensures in
    let few : length (e ∷ P) ≤ length entries = omega (arith, first_short entries (i + 1), ap (λ (Q : History). length Q) (one_on entries i c.loop-entry-test.true)) in
    length_within C P e (length c.loop-entry.spans.shortest.items) c.measured_by-length.result (omega (arith, c.loop-entry.invariant.shortest.sized, few)) measures

pub read_heads-requires-clause-limits : goal.read_heads-requires-clause-limits
read_heads-requires-clause-limits g c = limits_still c.args.scheduler.now.config c.loop-entry.scheduler.config c.loop-entry.invariant.config_is c.requires.limits

pub read_heads-requires-clause-legal : goal.read_heads-requires-clause-legal
read_heads-requires-clause-legal g c = rw c.loop-entry.invariant.config_is c.loop-entry.invariant.judged.legal

pub read_heads-requires-clause-known : goal.read_heads-requires-clause-known
read_heads-requires-clause-known g c = rw c.loop-entry.invariant.config_is c.loop-entry.invariant.unread.known

pub note-requires-in-loop-entry-clause-among : goal.note-requires-in-loop-entry-clause-among
note-requires-in-loop-entry-clause-among g c =
    let C = c.args.scheduler.now.config in
    let entries = c.args.entries.now in
    let i = c.loop-entry.entry-index in
    let old = c.loop-entry.scheduler in
    let new = c.judge_next.new.scheduler in
    let e = next_entry entries i in
    let P = first_entries entries i in
    let same = c.loop-entry.invariant.config_is in
    let was = ap history_of c.loop-entry.invariant.judged.past_is in
    let legal = next_legal C old.config P old.past e same was c.in-Legal.ensures.verdict in
    rw c.read_heads.ensures.tenants (among C P e c.loop-entry.greatest.tenants.items legal c.loop-entry.invariant.tenants)

pub note-requires-in-loop-entry-clause-room : goal.note-requires-in-loop-entry-clause-room
note-requires-in-loop-entry-clause-room g c =
    let C = c.args.scheduler.now.config in
    let entries = c.args.entries.now in
    let i = c.loop-entry.entry-index in
    let old = c.loop-entry.scheduler in
    let new = c.judge_next.new.scheduler in
    let e = next_entry entries i in
    let P = first_entries entries i in
    let same = c.loop-entry.invariant.config_is in
    let was = ap history_of c.loop-entry.invariant.judged.past_is in
    let legal = next_legal C old.config P old.past e same was c.in-Legal.ensures.verdict in
    let few : length (e ∷ P) ≤ length entries = omega (arith, first_short entries (i + 1), ap (λ (Q : History). length Q) (one_on entries i c.loop-entry-test.true)) in
    omega (arith, few, c.loop-entry.invariant.tenants.sized, submits_le_length P, c.loop-entry.invariant.room, c.read_heads.ensures.room, ap (λ (xs : List ℕ). length xs) c.read_heads.ensures.tenants)

pub note-requires-in-loop-entry-clause-unread_room : goal.note-requires-in-loop-entry-clause-unread_room
note-requires-in-loop-entry-clause-unread_room g c =
    let C = c.args.scheduler.now.config in
    let entries = c.args.entries.now in
    let i = c.loop-entry.entry-index in
    let old = c.loop-entry.scheduler in
    let new = c.judge_next.new.scheduler in
    let e = next_entry entries i in
    let P = first_entries entries i in
    let same = c.loop-entry.invariant.config_is in
    let was = ap history_of c.loop-entry.invariant.judged.past_is in
    let legal = next_legal C old.config P old.past e same was c.in-Legal.ensures.verdict in
    let few : length (e ∷ P) ≤ length entries = omega (arith, first_short entries (i + 1), ap (λ (Q : History). length Q) (one_on entries i c.loop-entry-test.true)) in
    let read = ap (λ (ts : List ℕ). length ts) c.read_heads.ensures.unread in
    omega (arith, few, read, unread_fewer e.act c.loop-entry.greatest.unread.items, c.loop-entry.invariant.unread_few, c.loop-entry.invariant.unread_room, c.read_heads.ensures.unread_room)

pub loop-entry-preserved : goal.loop-entry-preserved
loop-entry-preserved g c =
    let C = c.args.scheduler.now.config in
    let entries = c.args.entries.now in
    let i = c.loop-entry.entry-index in
    let old = c.loop-entry.scheduler in
    let new = c.judge_next.new.scheduler in
    let e = next_entry entries i in
    let P = first_entries entries i in
    let same = c.loop-entry.invariant.config_is in
    let was = ap history_of c.loop-entry.invariant.judged.past_is in
    let legal = next_legal C old.config P old.past e same was c.in-Legal.ensures.verdict in
    let now = history_more old.past new.past e (c.in-Legal.ensures.past refl) in
    let measures = measured_now C old.config P (history_of old.past) e c.requires.limits legal same was
    new.config (history_of new.past) c.row_of-before.result c.row_of-after.result c.measured_by-length.result c.judge_next.ensures.config now c.row_of-before.ensures c.row_of-after.ensures c.measured_by-length.ensures in
    let few : length (e ∷ P) ≤ length entries = omega (arith, first_short entries (i + 1), ap (λ (Q : History). length Q) (one_on entries i c.loop-entry-test.true)) in
    let on = one_on entries i c.loop-entry-test.true in
    let before = c.loop-entry.greatest in
    let ts = before.unread.items in
    let xs = before.tenants.items in
    let read_is : c.read_heads.new.self.length ≡ length_at C P e.act ts before.length =
    c.read_heads.ensures.length ∙ ap₂ (λ (D : Config) (Q : History). length_at D Q e.act ts before.length) same was in
    let unread_are = c.note-in-loop-entry.ensures.unread ∙ ap₂ (λ (us ys : List ℕ). unread_with us (tenant_of_act ys e.act)) c.read_heads.ensures.unread c.read_heads.ensures.tenants in
    record {
      config_is = c.judge_next.ensures.config ∙ same;
      judged = one_more_judged C entries i old.past e no_entry c.loop-entry.invariant.judged c.loop-entry-test.true refl new.past (c.in-Legal.ensures.past refl)
          (subst (λ (D : Config). IsLegal D (history_of (old.past ++ e ∷ []))) same c.in-Legal.ensures.verdict);
      longest = rw (c.note.ensures.longest, on) (longest_on C P e c.args.f (length entries) few c.loop-entry.spans.longest.items c.measured_by-length.result c.loop-entry.invariant.longest measures);
      shortest = rw (c.note.ensures.shortest, on) (shortest_on C P e c.args.g (length entries) few c.loop-entry.spans.shortest.items c.measured_by-length.result c.loop-entry.invariant.shortest measures);
      longest_is = rw on (c.note-in-loop-entry.ensures.length ∙ (ap (λ (n : ℕ). max n (charge_length c.measured_by-length.result)) read_is
          ∙ greatest_on C P e ts c.measured_by-length.result before.length c.requires.limits legal c.loop-entry.invariant.unread measures c.loop-entry.invariant.longest_is));
      tenants = rw (c.note-in-loop-entry.ensures.tenants, c.read_heads.ensures.tenants, on) (tenants_on C P e xs legal c.loop-entry.invariant.tenants);
      unread = rw (unread_are, on) (unread_on C P e xs ts before.length c.note-in-loop-entry.new.self.length c.requires.limits legal c.loop-entry.invariant.tenants c.loop-entry.invariant.unread
          (omega (arith, c.note-in-loop-entry.ensures.length, read_is)));
      unread_few = omega (arith, unread_more e.act ts (tenant_of_act xs e.act), ap (λ (us : List ℕ). length us) unread_are, ap (λ (Q : History). length Q) on, c.loop-entry.invariant.unread_few);
      room = rw (c.note-in-loop-entry.ensures.room, c.read_heads.ensures.room) c.loop-entry.invariant.room;
      unread_room = rw (c.note-in-loop-entry.ensures.unread_room, c.read_heads.ensures.unread_room) c.loop-entry.invariant.unread_room;
    }

pub returns-clause-measured : goal.returns-clause-measured
returns-clause-measured g c =
    let C = c.args.scheduler.now.config in
    let entries = c.args.entries.now in
    let all = all_entries entries c.loop-entry.entry-index c.loop-entry-test.false in
    let legal : IsLegal C (history_of entries) = all_judged C entries c.loop-entry.entry-index c.loop-entry.scheduler.past c.loop-entry-test.false c.loop-entry.invariant.judged in
    let is : c.loop-entry.greatest.length ≡ longest_of_all C (history_of entries) = c.loop-entry.invariant.longest_is ∙ ap (longest_of_all C) all in
    record {
      legal = legal;
      longest = subst (λ (P : History). LongestAre C P c.args.f (length entries) c.loop-entry.spans.longest.items) all c.loop-entry.invariant.longest;
      shortest = subst (λ (P : History). ShortestAre C P c.args.g (length entries) c.loop-entry.spans.shortest.items) all c.loop-entry.invariant.shortest;
      longest_is = is;
      longest_low = omega (arith, is, longest_short C (history_of entries) c.requires.limits legal);
    }
