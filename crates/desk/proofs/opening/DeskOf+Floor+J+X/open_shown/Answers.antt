use Rattle.std.proofs.Common.{Some, ap}
use Rattle.desk.proofs.opening.DeskOf+Floor+J+X.open_shown.Goals as goal

pub staffed-requires-clause-shown : goal.staffed-requires-clause-shown
staffed-requires-clause-shown g c = (c.in-Some.ensures.board.1, c.in-Some.ensures.past)

pub returns-clause-tokens : goal.returns-clause-tokens
returns-clause-tokens g c =
    let s = c.in-Some.ensures in record {
      board = c.in-Some.shown.board;
      shared_is = ap (λ b. Some b) s.board.0;
      config_is = s.board.1;
      tokens = c.in-Some-staffed.ensures;
      reader_own = s.reader.0;
      reader_seen = s.reader.1;
    }
