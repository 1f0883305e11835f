use Rattle.std.proofs.Common.{◌≡◌, ◌∙◌, refl, sym, ap, subst, List, ◌∷◌}
use Rattle.std.proofs.lemmas.Bool.{false≢true}
use Rattle.std.proofs.lemmas.Result.{err_from_is_err_and}
use Rattle.fq_model.specs.declared.event.Entry.{Entry}
use Rattle.history_lock.specs.Passes.{IsOf, HasNoneAbove}
use Rattle.desk.specs.declared.tokens.Submitter.{Submitter}
use Rattle.desk.specs.Ending.{HoldsOfEach, HasAll, AreAll, LastMoment, IsFirst, first_made}
use Rattle.desk.proofs.Joins.{first_and_rest, ends_in, all_ended, last_moment}
use Rattle.desk.proofs.Keeping.{given_back, shown_back}
use Rattle.desk.proofs.ending.closed.Goals as goal

pub join_submitters-requires-clause-own : goal.join_submitters-requires-clause-own
join_submitters-requires-clause-own g c =
    let first = c.remove-first in
    let both : c.args.submitters.items ≡ first.result ∷ first.new.self.items = first_and_rest _ _ _ c.requires.first first.ensures.value first.ensures.by_index.2 in
    (subst (HoldsOfEach (λ (t : Submitter). IsOf c.args.lock t.pass)) both c.requires.submitters_own).0

pub join_submitters-requires-clause-number : goal.join_submitters-requires-clause-number
join_submitters-requires-clause-number g c =
    let first = c.remove-first in
    let both : c.args.submitters.items ≡ first.result ∷ first.new.self.items = first_and_rest _ _ _ c.requires.first first.ensures.value first.ensures.by_index.2 in
    subst IsFirst both c.requires.first

pub join_submitters-requires-clause-tokens : goal.join_submitters-requires-clause-tokens
join_submitters-requires-clause-tokens g c =
    let first = c.remove-first in
    let both : c.args.submitters.items ≡ first.result ∷ first.new.self.items = first_and_rest _ _ _ c.requires.first first.ensures.value first.ensures.by_index.2 in
    (subst (HoldsOfEach (λ (t : Submitter). IsOf c.args.lock t.pass)) both c.requires.submitters_own).1

pub join_workers-requires-clause-own : goal.join_workers-requires-clause-own
join_workers-requires-clause-own g c = c.join_submitters.ensures.own

pub join_workers-requires-clause-number : goal.join_workers-requires-clause-number
join_workers-requires-clause-number g c = c.join_submitters.ensures.number

pub join_workers-requires-clause-tokens : goal.join_workers-requires-clause-tokens
join_workers-requires-clause-tokens g c = c.requires.workers_own

pub close-requires-clause-own : goal.close-requires-clause-own
close-requires-clause-own g c = c.join_workers.ensures.own

pub close-requires-clause-first : goal.close-requires-clause-first
close-requires-clause-first g c = c.join_workers.ensures.number

pub returns-clause-settled : goal.returns-clause-settled
returns-clause-settled g c = λ all. refl

pub returns-in_err-floor-clause-settled : goal.returns-in_err-floor-clause-settled
returns-in_err-floor-clause-settled g c = λ all.
    let first = c.remove-first in
    let both : c.args.submitters.items ≡ first.result ∷ first.new.self.items = first_and_rest _ _ _ c.requires.first first.ensures.value first.ensures.by_index.2 in
    absurd (false≢true (c.in_err-floor.ensures.settled (all_ended c.args.lock first.result first.new.self.items c.args.workers.items _ _ c.join_submitters.ensures c.join_workers.ensures (subst IsFirst both c.requires.first) (subst (λ l. AreAll l c.args.workers.items) both all))))

pub returns-clause-tokens : goal.returns-clause-tokens
returns-clause-tokens g c =
    let first = c.remove-first in let h = c.in_ok-floor.ensures in
    let both : c.args.submitters.items ≡ first.result ∷ first.new.self.items = first_and_rest _ _ _ c.requires.first first.ensures.value first.ensures.by_index.2 in
    let past : c.in_ok-floor.floor.scheduler.past ≡ c.into_parts.result.0.past = ap (λ s. s.past) (sym c.into_parts.ensures.same.0) in
    subst (λ l. HasAll c.into_parts.result.0.past l c.args.workers.items) (sym both)
    (subst (λ l. HasAll l (first.result ∷ first.new.self.items) c.args.workers.items) past
    (ends_in c.args.lock first.result first.new.self.items c.args.workers.items _ _ c.join_submitters.ensures c.join_workers.ensures c.in_ok-floor.floor.scheduler.past (subst IsFirst both c.requires.first) h.seen h.mine h.ended))

pub returns-clause-above : goal.returns-clause-above
returns-clause-above g c =
    let first = c.remove-first in let h = c.in_ok-floor.ensures in
    let both : c.args.submitters.items ≡ first.result ∷ first.new.self.items = first_and_rest _ _ _ c.requires.first first.ensures.value first.ensures.by_index.2 in
    let made : c.join_workers.new.first.made ≡ first_made c.args.submitters.items = c.join_workers.ensures.made ∙ (c.join_submitters.ensures.made ∙ ap first_made (sym both)) in
    let past : c.in_ok-floor.floor.scheduler.past ≡ c.into_parts.result.0.past = ap (λ s. s.past) (sym c.into_parts.ensures.same.0) in
    subst (HasNoneAbove c.into_parts.result.0.past) made (subst (λ (l : List Entry). HasNoneAbove l c.join_workers.new.first.made) past h.above)

pub returns-in_err-floor-clause-exact : goal.returns-in_err-floor-clause-exact
returns-in_err-floor-clause-exact g c =
    let p = err_from_is_err_and c.from_residual.result c.from_residual.ensures.1 in
    let first = c.remove-first in let e = c.in_err-floor.ensures.exact in
    let both : c.args.submitters.items ≡ first.result ∷ first.new.self.items = first_and_rest _ _ _ c.requires.first first.ensures.value first.ensures.by_index.2 in
    let last = last_moment c.args.lock first.result first.new.self.items c.args.workers.items _ _ c.join_submitters.ensures c.join_workers.ensures _ e.0 e.1 e.2 in
    (e.0, e.1, subst (λ l. LastMoment _ c.args.lock l c.args.workers.items e.0 e.1) (sym both) last, rw p.1 tt, rw (p.1, p.2) e.4)

pub returns-clause-exact : goal.returns-clause-exact
returns-clause-exact g c =
    let first = c.remove-first in let e = c.in_ok-floor.ensures.exact in
    let both : c.args.submitters.items ≡ first.result ∷ first.new.self.items = first_and_rest _ _ _ c.requires.first first.ensures.value first.ensures.by_index.2 in
    let last = last_moment c.args.lock first.result first.new.self.items c.args.workers.items _ _ c.join_submitters.ensures c.join_workers.ensures _ e.0 e.1 e.2 in
    (e.0, e.1, subst (λ l. LastMoment _ c.args.lock l c.args.workers.items e.0 e.1) (sym both) last, e.3, e.4)

pub returns-clause-given_back : goal.returns-clause-given_back
returns-clause-given_back g c = given_back c.args.lock.frame c.in_ok-floor.floor c.into_parts.result.0 c.in_ok-floor.ensures.frame c.into_parts.ensures.same.0 c.into_parts.ensures.kept

pub returns-clause-shown : goal.returns-clause-shown
returns-clause-shown g c = shown_back c.args.lock.frame c.in_ok-floor.floor c.into_parts.result.0 c.into_parts.result.1 c.in_ok-floor.ensures.frame c.into_parts.ensures.same.0 c.into_parts.ensures.same.1 c.into_parts.ensures.shows
