use Rattle.std.proofs.Common.{rules, ◌≡◌, ◌<◌, ◌∙◌, [], length, ap}
use Rattle.std.proofs.lemmas.List.Elements.{All-same, All-push}
use Rattle.shared_order.proofs.InRow.{read_at}
use Rattle.shared_order.proofs.blocks.Blocks.close.Goals as goal

pub invariant_of-self : goal.invariant_of-self
invariant_of-self c =
    let used = ap (λ v. v.used) c.self.view_is in let known : c.args.at < length c.self.inside.used.items = rw used c.requires.known in
    let none : c.remove-block.result ≡ [] = read_at c.args.self.now.used c.self.inside.used.items c.args.at c.remove-block.result used known c.remove-block.ensures.value ∙ c.requires.empty in record {
      empty = All-same (λ b. b ≡ []) _ _ c.push_reserved.ensures.items (All-push (λ b. b ≡ []) _ _ c.self.invariant.empty none);
      used_room = search rules;
      spare_room = search rules;
    }
