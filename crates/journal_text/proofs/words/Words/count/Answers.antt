use Rattle.std.proofs.Common.{◌≡◌, ◌==◌, ◌∷◌, rules, arith, ap, length}
use Rattle.std.specs.List.{count_by}
use Rattle.std.proofs.lemmas.List.Splits.{length-slice_split}
use Rattle.program_model.specs.Lines.{words_of}
use Rattle.journal_text.proofs.words.Words.count.Goals as goal

pub returns-in-Some : goal.returns-in-Some
returns-in-Some c =
    let rest = c.in-Some.rest.now in
    let spaces : c.count.result ≡ count_by (λ b. b == 32) rest = search rules in
    let words : c.self.inside.first.now ∷ words_of rest ≡ c.args.self.now = rw c.in-Some.is at c.self.view_is in
    omega (arith, spaces, ap length words, length-slice_split (λ b. b == 32) rest)
