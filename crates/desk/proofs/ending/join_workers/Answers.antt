use Rattle.std.proofs.Common.{rules, ◌≡◌, sym, ap, ◌∙◌, subst, [], ◌∷◌, ◌++◌, append_assoc, append-nil}
use Rattle.history_lock.specs.Passes.{IsOf}
use Rattle.desk.specs.declared.tokens.Worker.{Worker}
use Rattle.desk.specs.Ending.{HoldsOfEach, HasJoined}
use Rattle.desk.proofs.Joins.{each_front, each_last, none_joined, joined_more}
use Rattle.desk.proofs.ending.join_workers.Goals as goal

pub loop-token-init : goal.loop-token-init
loop-token-init g c = (c.requires.tokens, ([], sym (append-nil _), none_joined c.args.lock.now (λ (t : Worker). t.pass) c.args.first.now c.requires.own c.requires.number))

pub join-requires-clause-other_own : goal.join-requires-clause-other_own
join-requires-clause-other_own g c =
    let popped : c.loop-token.tokens.items ≡ c.pop.new.self.items ++ c.in-Some.token ∷ [] = c.in-Some.ensures.items in
    each_last (λ (t : Worker). IsOf c.args.lock.now t.pass) c.pop.new.self.items c.in-Some.token (subst (HoldsOfEach (λ (t : Worker). IsOf c.args.lock.now t.pass)) popped c.loop-token.invariant.0)

pub loop-token-preserved : goal.loop-token-preserved
loop-token-preserved g c =
    let popped : c.loop-token.tokens.items ≡ c.pop.new.self.items ++ c.in-Some.token ∷ [] = c.in-Some.ensures.items in
    let done = c.loop-token.invariant.1 in let s = c.join.ensures in (
      each_front (λ (t : Worker). IsOf c.args.lock.now t.pass) c.pop.new.self.items (c.in-Some.token ∷ []) (subst (HoldsOfEach (λ (t : Worker). IsOf c.args.lock.now t.pass)) popped c.loop-token.invariant.0),
      (
        c.in-Some.token ∷ done.0,
        done.1 ∙ (ap (λ l. l ++ done.0) popped ∙ append_assoc c.pop.new.self.items (c.in-Some.token ∷ []) done.0),
        joined_more c.args.lock.now (λ (t : Worker). t.pass) c.args.first.now c.loop-token.first c.join.new.pass c.in-Some.token done.0 done.2 s.lock s.number s.old_seen s.other_seen s.mine s.made s.ended,
      ),
    )

pub returns : goal.returns
returns g c =
    let done = c.loop-token.invariant.1 in let empty : c.loop-token.tokens.items ≡ [] = search rules in
    let all : c.args.tokens.items ≡ done.0 = done.1 ∙ ap (λ l. l ++ done.0) empty in
    subst (λ l. HasJoined c.args.lock.now (λ (t : Worker). t.pass) c.args.first.now l c.loop-token.first) (sym all) done.2
