use Rattle.std.proofs.Common.{rules, refl, ◌≡◌, sym, ap, ◌∙◌, subst, [], ◌∷◌, ◌++◌, append_assoc, append-nil}
use Rattle.history_lock.specs.Histories.{IsPrefix}
use Rattle.status_board.specs.Boards.{IsWriterOf}
use Rattle.desk.specs.Shown.{AreReaders, HaveSeen}
use Rattle.desk.proofs.Reading.{readers_front, readers_last}
use Rattle.desk.proofs.shown.join_readers.Goals as goal

pub loop-reader-init : goal.loop-reader-init
loop-reader-init c = (c.requires.readers, refl, ([], sym (append-nil _), tt))

pub join-requires-clause-own : goal.join-requires-clause-own
join-requires-clause-own c = subst (IsWriterOf c.args.board.now) (sym c.loop-reader.invariant.1) c.requires.own

pub join-requires-clause-reader_own : goal.join-requires-clause-reader_own
join-requires-clause-reader_own c =
    let popped : c.loop-reader.readers.items ≡ c.pop.new.self.items ++ c.in-Some.reader ∷ [] = c.in-Some.ensures.items in
    readers_last c.args.board.now c.pop.new.self.items c.in-Some.reader (subst (AreReaders c.args.board.now) popped c.loop-reader.invariant.0)

pub loop-reader-preserved : goal.loop-reader-preserved
loop-reader-preserved c =
    let popped : c.loop-reader.readers.items ≡ c.pop.new.self.items ++ c.in-Some.reader ∷ [] = c.in-Some.ensures.items in
    let was = c.loop-reader.invariant in let same = c.join.ensures.same ∙ was.1 in (
      readers_front c.args.board.now c.pop.new.self.items (c.in-Some.reader ∷ []) (subst (AreReaders c.args.board.now) popped was.0),
      same,
      (
        c.in-Some.reader ∷ was.2.0,
        was.2.1 ∙ (ap (λ l. l ++ was.2.0) popped ∙ append_assoc c.pop.new.self.items (c.in-Some.reader ∷ []) was.2.0),
        (subst (λ w. IsPrefix c.in-Some.reader.seen w.shown) same c.join.ensures.seen, was.2.2),
      ),
    )

pub returns-clause-same : goal.returns-clause-same
returns-clause-same c = c.loop-reader.invariant.1

pub returns-clause-seen : goal.returns-clause-seen
returns-clause-seen c =
    let done = c.loop-reader.invariant.2 in let empty : c.loop-reader.readers.items ≡ [] = search rules in
    let all : c.args.readers.items ≡ done.0 = done.1 ∙ ap (λ l. l ++ done.0) empty in
    subst (HaveSeen c.args.writer.now.shown) (sym all) done.2
