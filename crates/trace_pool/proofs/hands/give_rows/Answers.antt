use Rattle.std.proofs.Common.{rules, suc, arith, ◌≡◌, ◌+◌, ◌<◌, ◌∙◌, sym, ap, subst, length, ◌∷◌, refl}
use Rattle.desk.specs.Opening.{AreSubmitters, HasMade}
use Rattle.trace_pool.specs.Parts.{AreRowsOf, IsFeedOf}
use Rattle.trace_pool.specs.Places.{HoldsFrom}
use Rattle.trace_pool.proofs.Places.{holds_pushed}
use Rattle.trace_pool.proofs.HandLists.{split_first, knows_all}
use Rattle.trace_pool.proofs.hands.give_rows.Goals as goal

pub loop-hands-init : goal.loop-hands-init
loop-hands-init g c =
    let none : length c.args.hands.now.items ≡ 0 = ap length c.requires.room.0 in record {
      feeds = subst (HoldsFrom (IsFeedOf c.args.rows.now c.args.desk.now.lock) 0) (sym c.requires.room.0) tt;
      tokens = subst (λ n. AreSubmitters c.args.desk.now.lock n c.args.submitters.now.items) (sym none) c.requires.tokens.0;
      queues = subst (λ n. HoldsFrom (λ j q. AreRowsOf c.args.rows.now j q.items) n c.args.queues.items) (sym none) c.requires.queues.0;
      left = c.requires.queues.1;
      all = omega (arith, none);
      made = λ _. c.requires.tokens.1;
      total = search rules;
      room = refl;
      kept = search rules;
    }

pub loop-hands-preserved : goal.loop-hands-preserved
loop-hands-preserved g c =
    let lock = c.args.desk.now.lock in let rows = c.args.rows.now in let was = c.loop-hands.invariant in let n = length c.loop-hands.hands.items in
    let some : 0 < length c.loop-hands.submitters.items = search rules in
    let firsts = split_first c.loop-hands.submitters.items c.remove.result c.remove.new.self.items some c.remove.ensures.value c.remove.ensures.by_index.2 in
    let queues = split_first c.loop-hands.queues.items c.remove-in-loop-hands.result c.remove-in-loop-hands.new.self.items (omega (arith, some, was.left)) c.remove-in-loop-hands.ensures.value c.remove-in-loop-hands.ensures.by_index.2 in
    let tokens : AreSubmitters lock n (c.remove.result ∷ c.remove.new.self.items) = subst (AreSubmitters lock n) firsts was.tokens in
    let dealt : HoldsFrom (λ j q. AreRowsOf rows j q.items) n (c.remove-in-loop-hands.result ∷ c.remove-in-loop-hands.new.self.items) = subst (HoldsFrom (λ j q. AreRowsOf rows j q.items) n) queues was.queues in
    let made : n ≡ 0 → HasMade (lock.frame.submitters + lock.frame.config.workers) (c.remove.result ∷ c.remove.new.self.items) = subst (λ l. n ≡ 0 → HasMade (lock.frame.submitters + lock.frame.config.workers) l) firsts was.made in
    let longer : length c.push_reserved.new.self.items ≡ suc n = omega (arith, c.push_reserved.ensures.len) in
    let one : length c.loop-hands.submitters.items ≡ suc (length c.remove.new.self.items) = ap length firsts in
    let other : length c.loop-hands.queues.items ≡ suc (length c.remove-in-loop-hands.new.self.items) = ap length queues in record {
      feeds = holds_pushed (IsFeedOf rows lock) n c.loop-hands.hands.items _ _ was.feeds c.push_reserved.ensures.items refl (tokens.0, dealt.0, was.total, knows_all lock n c.remove.result c.remove.new.self.items made);
      tokens = subst (λ k. AreSubmitters lock k c.remove.new.self.items) (sym longer) tokens.1;
      queues = subst (λ k. HoldsFrom (λ j q. AreRowsOf rows j q.items) k c.remove-in-loop-hands.new.self.items) (sym longer) dealt.1;
      left = omega (arith, one, other, was.left);
      all = omega (arith, longer, one, was.all);
      made = λ none. absurd (omega (arith, longer, none));
      total = was.total;
      room = c.push_reserved.ensures.capacity ∙ was.room;
      kept = omega (arith, c.remove.ensures.capacity, was.kept);
    }
