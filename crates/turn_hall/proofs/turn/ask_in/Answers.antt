use Rattle.std.proofs.Common.{refl}
use Rattle.project_book.proofs.VisitLemmas.{few_book}
use Rattle.turn_hall.proofs.turn.ask_in.Goals as goal

pub returns : goal.returns
returns g c = record {
  old = c.in-Some.book;
  new = c.ask-reply.new.self;
  was = c.in-Some.is;
  now = refl;
  asks = record {
    step = c.ask-reply.ensures.step;
    keeper = c.ask-reply.ensures.keeper;
    was = c.keeps.ensures.legal;
    legal = c.keeps-in-Some.ensures.legal;
    room = c.keeps-in-Some.ensures.room;
    placed = c.place.ensures;
    few = few_book c.in-Some.book.log c.ask-reply.new.self.log c.in-Some.book.tables c.ask-reply.new.self.tables c.args.steps.now c.ask-reply.new.steps c.keeps.ensures.tables c.ask-reply.ensures.tables;
  };
}
