use Rattle.std.proofs.Common.{◌-◌}
use Rattle.project_state.specs.Values.{answer_of, asked_of}
use Rattle.project_book.proofs.VisitLemmas.{few_alone, visited_alone}
use Rattle.project_book.proofs.alone.AloneVisitor.ask.Goals as goal

pub returns-clause-visited : goal.returns-clause-visited
returns-clause-visited g c =
    visited_alone g.K.Keeper.faults g.K.Keeper.faultless c.args.self.now.book.keeper c.ask-reply.new.self.keeper c.args.self.now.book.log c.ask-reply.new.self.log c.args.caller.now (asked_of c.args.request) (answer_of c.ask-reply.result) c.args.self.now.began c.args.self.now.room
    c.keeps.ensures.legal c.keeps-2.ensures.legal c.keeps-2.ensures.room c.args.self.now.begins c.requires c.ask-reply.ensures.step c.ask-reply.ensures.keeper

pub returns-clause-few : goal.returns-clause-few
returns-clause-few g c =
    few_alone c.args.self.now.book.log c.ask-reply.new.self.log c.args.self.now.began (g.K.Keeper.faults c.args.self.now.book.keeper) (g.K.Keeper.faults c.ask-reply.new.self.keeper) c.args.self.now.room (c.args.self.now.room - 1)
    c.args.self.now.book.tables c.ask-reply.new.self.tables c.args.steps.now c.ask-reply.new.steps c.args.caller.now (asked_of c.args.request) (answer_of c.ask-reply.result)
    c.keeps.ensures.legal c.args.self.now.begins c.ask-reply.ensures.step c.keeps.ensures.tables c.ask-reply.ensures.tables
